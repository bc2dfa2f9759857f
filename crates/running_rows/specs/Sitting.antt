-- How seats come to sit in one view, look together, and part.
use Rattle.std.specs.Prelude.{◌≡◌, ◌≢◌, ℕ, List, [], ◌∷◌}
use Rattle.atomic_table.specs.Table.{Me, Step}
use Rattle.step_table.specs.Path.{looks}
use Rattle.running_rows.specs.declared.view.View.{View}
use Rattle.running_rows.specs.declared.view.Seated.{Seated}
use Rattle.running_rows.specs.Family.{Family}
use Rattle.running_rows.specs.Strides.{Went, here}
use Rattle.running_rows.specs.Rule.{nobody}
use Rattle.running_rows.specs.Futex.{fresh_parking, joined}

module _ {V T : Type 0} where
  abbrev pub staying : View V T → View V T
  staying v = v

  -- the view without guests
  abbrev pub alone : View V T → View V T
  alone v = record v { guests = [] }

  -- a view of this seat alone, which makes no other
  abbrev pub lone : Seated V T → View V T
  lone u = record { own = u; guests = []; made = 0; parking = fresh_parking }

  -- the seat of the second view sits with the first
  abbrev pub sitting : View V T → View V T → View V T
  sitting v w = record v { guests = w.own ∷ v.guests; parking = joined v.parking w.parking }

  -- all guests but the first
  abbrev pub other_guests : List (Seated V T) → List (Seated V T)
  other_guests [] = []
  other_guests (g ∷ gs) = gs

  abbrev pub parting : View V T → View V T
  parting v = record v { guests = other_guests v.guests }

module _ {S V T K : Type 0} (f : Family S V T K) where
  abbrev pub vacant : View V T → View V T
  vacant v = nobody f

  -- the guests have a view of their own
  abbrev pub guests_apart : List (Seated V T) → View V T
  guests_apart [] = nobody f
  guests_apart (g ∷ gs) = record { own = g; guests = gs; made = 0; parking = fresh_parking }

  abbrev pub leaving : View V T → View V T
  leaving v = guests_apart v.guests

  -- the first guest has a view of its own again
  abbrev pub first_guest : List (Seated V T) → View V T
  first_guest [] = nobody f
  first_guest (g ∷ gs) = lone g

  abbrev pub parted : View V T → View V T
  parted v = first_guest v.guests

  -- two seats looked at a word at one moment, in one world, and found n
  pub record Met (word : f.Word) (u g : Seated V T) (n : ℕ) (w h : Seated V T) : Type 0 where
    pub one : Went f here (looks word) u n w
    pub other : Went f here (looks word) g n h
    pub together : one.ran.world ≡ other.ran.world
    pub two : u.number ≢ g.number

  -- the word at this address was looked at once, by the token's seat and by its first guest
  abbrev pub MetAt : ℕ → Me S (View V T) → ℕ → Me S (View V T) → Type 0
  MetAt i m n t =
      (g : Seated V T) (gs : List (Seated V T)) → m.0.guests ≡ g ∷ gs
      → (h : Seated V T) × Met (f.word_at (f.of m.0.own.knows) i) m.0.own g n t.0.own h
      × (t ≡ (record m.0 { own = t.0.own; guests = h ∷ gs }, m.1))

  abbrev pub meets : Step S → Me S (View V T) → ℕ → Me S (View V T) → Type 0
  meets st m n t = MetAt st.word m n t
