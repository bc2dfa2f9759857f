-- Paths of one seat, over the rules of any world.
use Rattle.std.proofs.Common.{◌≡◌, ℕ, IsTrue, List, [], ◌∷◌, ◌++◌, refl, sym, ap, ◌∙◌, subst, append_assoc, append-nil}
use Rattle.std.proofs.lemmas.List.Elements.{filter-append}
use Rattle.step_table.specs.Turn.{can_turn, turned}
use Rattle.step_table.specs.Path.{GoesOn, Watched, Sight, Deed, runs, looks, Stride, sight, Meets, Did, Ran, Path, all_told, own_entries, row_in, look_in}
use Rattle.step_table.specs.Path.{ArePaths}

pub goes_on_here : {Entry : Type 0} (seen : List Entry) → GoesOn seen seen
goes_on_here seen = record { more = []; is = sym (append-nil seen) }

pub goes_on_more : {Entry : Type 0} (a b c : List Entry) → GoesOn b a → GoesOn c b → GoesOn c a
goes_on_more a b c ab bc =
    record { more = ab.more ++ bc.more; is = bc.is ∙ ap (λ l. l ++ bc.more) ab.is ∙ append_assoc a ab.more bc.more }

pub goes_on_by : {Entry : Type 0} (journal seen told : List Entry) → journal ≡ seen ++ told → GoesOn journal seen
goes_on_by journal seen told e = record { more = told; is = e }

module _ {World Word Value Next Seat Entry : Type 0} (watched : Watched World Word Value Next Seat Entry) where
  abbrev OneSight : Type 0
  OneSight = Sight Seat Entry

  abbrev OneStride : Type 0
  OneStride = Stride Word Value Seat Entry

  abbrev PathOf : ℕ → OneSight → List OneStride → OneSight → Type 0
  PathOf = Path watched

  -- a seat may meet the world that it sees
  pub meets_sight : (s : World) (i : ℕ) → watched.met s → Meets watched s i (sight watched s i)
  meets_sight s i met = record { met = met; stands = refl; later = goes_on_here (watched.journal s); quiet = refl }

  pub row_ran : (i : ℕ) (s : World) (v : OneSight) (told : List Entry) → Meets watched s i v → IsTrue (can_turn watched.rules s i)
      → watched.journal (turned watched.rules s i) ≡ watched.journal s ++ told
      → Ran watched i v (row_in watched s i told) (sight watched (turned watched.rules s i) i)
  row_ran i s v told meets can told_is = record {
    world = s;
    meets = meets;
    stood = meets.stands;
    seen = refl;
    did = record { can = can; read_is = refl; told_is = told_is; leads = refl };
  }

  pub word_looked : (i : ℕ) (s : World) (v : OneSight) (x : Word) → Meets watched s i v → Ran watched i v (look_in watched s i x) (sight watched s i)
  word_looked i s v x meets = record {
    world = s;
    meets = meets;
    stood = meets.stands;
    seen = refl;
    did = record { read_is = refl; told_is = refl; leads = refl };
  }

  -- after a stride the seat has seen what it saw before, and what it told
  pub stride_told : (i : ℕ) (v w : OneSight) (p : OneStride) → Ran watched i v p w → w.seen ≡ p.seen ++ p.told
  stride_told i v w p r = by p.deed r.did
    where
      by : (d : Deed Word) → Did watched r.world i d p.read p.told w → w.seen ≡ p.seen ++ p.told
      by runs did = ap (λ (z : OneSight). z.seen) did.leads ∙ did.told_is ∙ ap (λ l. l ++ p.told) (sym r.seen)
      by (looks x) did =
          ap (λ (z : OneSight). z.seen) did.leads ∙ sym r.seen
          ∙ sym (append-nil p.seen) ∙ ap (λ l. p.seen ++ l) (sym did.told_is)

  -- and before it, at least what was seen
  pub stride_later : (i : ℕ) (v w : OneSight) (p : OneStride) → Ran watched i v p w → GoesOn p.seen v.seen
  stride_later i v w p r = subst (λ l. GoesOn l v.seen) (sym r.seen) r.meets.later

  pub stride_grows : (i : ℕ) (v w : OneSight) (p : OneStride) → Ran watched i v p w → GoesOn w.seen v.seen
  stride_grows i v w p r =
      goes_on_more v.seen p.seen w.seen (stride_later i v w p r) (goes_on_by w.seen p.seen p.told (stride_told i v w p r))

  pub path_single : (i : ℕ) (v w : OneSight) (p : OneStride) → Ran watched i v p w → PathOf i v (p ∷ []) w
  path_single i v w p r = (w, r, refl)

  pub path_alone : (i : ℕ) (v w : OneSight) (p : OneStride) → PathOf i v (p ∷ []) w → Ran watched i v p w
  path_alone i v w p path = subst (Ran watched i v p) (sym path.2) path.1

  pub path_joined : (i : ℕ) (u v w : OneSight) (before after : List OneStride) → PathOf i u before v → PathOf i v after w
      → PathOf i u (before ++ after) w
  path_joined i u v w [] after first rest = subst (λ (z : OneSight). PathOf i z after w) first rest
  path_joined i u v w (p ∷ before) after first rest = (first.0, first.1, path_joined i first.0 v w before after first.2 rest)

  pub path_more : (i : ℕ) (u v w : OneSight) (strides : List OneStride) (p : OneStride) → PathOf i u strides v → Ran watched i v p w
      → PathOf i u (strides ++ p ∷ []) w
  path_more i u v w strides p path r = path_joined i u v w strides (p ∷ []) path (path_single i v w p r)

  pub path_parted : (i : ℕ) (u w : OneSight) (before after : List OneStride) → PathOf i u (before ++ after) w
      → (v : OneSight) × PathOf i u before v × PathOf i v after w
  path_parted i u w [] after path = (u, refl, path)
  path_parted i u w (p ∷ before) after path =
      let rest = path_parted i path.0 w before after path.2 in (rest.0, (path.0, path.1, rest.1), rest.2)

  pub path_grows : (i : ℕ) (v w : OneSight) (strides : List OneStride) → PathOf i v strides w → GoesOn w.seen v.seen
  path_grows i v w [] path = subst (λ (z : OneSight). GoesOn z.seen v.seen) (sym path) (goes_on_here v.seen)
  path_grows i v w (p ∷ strides) path =
      goes_on_more v.seen path.0.seen w.seen (stride_grows i v path.0 p path.1) (path_grows i path.0 w strides path.2)

  pub path_through : (i : ℕ) (v w : OneSight) (before after : List OneStride) (p : OneStride) → PathOf i v (before ++ p ∷ after) w
      → GoesOn p.seen v.seen × GoesOn w.seen (p.seen ++ p.told)
  path_through i v w before after p path =
      let parts = path_parted i v w before (p ∷ after) path in
      let here = parts.2 in (
        goes_on_more v.seen parts.0.seen p.seen (path_grows i v parts.0 before parts.1) (stride_later i parts.0 here.0 p here.1),
        subst (λ l. GoesOn w.seen l) (stride_told i parts.0 here.0 p here.1) (path_grows i here.0 w after here.2),
      )

  pub path_ends : (i : ℕ) (v w : OneSight) (before : List OneStride) (p : OneStride) → PathOf i v (before ++ p ∷ []) w
      → w.seen ≡ p.seen ++ p.told
  path_ends i v w before p path =
      let parts = path_parted i v w before (p ∷ []) path in
      stride_told i parts.0 w p (path_alone i parts.0 w p parts.2)

  -- of its own a seat has seen what it had seen, and what its strides told
  stride_own : (i : ℕ) (v w : OneSight) (p : OneStride) → Ran watched i v p w
      → own_entries watched i w.seen ≡ own_entries watched i v.seen ++ own_entries watched i p.told
  stride_own i v w p r =
      ap (own_entries watched i) (stride_told i v w p r) ∙ filter-append (watched.own i) p.seen p.told
      ∙ ap (λ l. l ++ own_entries watched i p.told) (ap (own_entries watched i) r.seen ∙ r.meets.quiet)

  pub path_own : (i : ℕ) (v w : OneSight) (strides : List OneStride) → PathOf i v strides w
      → own_entries watched i w.seen ≡ own_entries watched i v.seen ++ own_entries watched i (all_told strides)
  path_own i v w [] path = ap (λ (z : OneSight). own_entries watched i z.seen) path ∙ sym (append-nil (own_entries watched i v.seen))
  path_own i v w (p ∷ strides) path =
      path_own i path.0 w strides path.2
      ∙ ap (λ l. l ++ own_entries watched i (all_told strides)) (stride_own i v path.0 p path.1)
      ∙ append_assoc (own_entries watched i v.seen) (own_entries watched i p.told) (own_entries watched i (all_told strides))
      ∙ ap (λ l. own_entries watched i v.seen ++ l) (sym (filter-append (watched.own i) p.told (all_told strides)))

  pub are_paths : ArePaths watched
  are_paths = record {
    ran = row_ran;
    looked = word_looked;
    more = path_more;
    joined = path_joined;
    parted = path_parted;
    single = λ i v w p. (path_single i v w p, path_alone i v w p);
    grows = path_grows;
    through = path_through;
    ends = path_ends;
    own = path_own;
  }
