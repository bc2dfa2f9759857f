-- Who holds the lock of a guarded value, told from its history.
use Rattle.std.proofs.Common.{◌≡◌, ◌≢◌, ℕ, ◌==◌, if◌then◌else◌, Bool, true, false, Option, Some, None, List, [], ◌∷◌, ◌++◌}
use Rattle.std.proofs.Common.{sym, refl, ap, ◌∙◌, subst, inl, inr, eqb-true}
use Rattle.step_table.specs.Path.{Deed, runs, looks}
use Rattle.running_rows.specs.History.{SeatStride, strides_of}
use Rattle.sync_guarded.specs.declared.view.GuardCall.{GuardCall}
use Rattle.sync_guarded.specs.declared.view.GuardDeed.{GuardDeed}
use Rattle.sync_guarded.specs.declared.view.GuardDeed.TheVariants.{Locked, Unlocked, Looked}
use Rattle.sync_guarded.specs.Rule.{locked, unlocked, looked, Place, home, lent, InTurns, is_with, is_some, holds_then, holds_after, turn_of, turns_of, stride_of, IsTurn, HasGiven}

abbrev is_look : GuardDeed → Bool
is_look Locked = false
is_look Unlocked = false
is_look (Looked has held) = true

not_looked : (has held : Bool) → Unlocked ≡ Looked has held → ⊥
not_looked has held e = let b : false ≡ true = ap is_look e in absurd (cc)

abbrev is_row : Deed (Unit {0}) → Bool
is_row runs = true
is_row (looks w) = false

row_not_look : (d : Deed (Unit {0})) → d ≡ runs → d ≡ looks tt → ⊥
row_not_look d e f = let b : true ≡ false = sym (ap is_row e) ∙ ap is_row f in absurd (cc)

module _ {T : Type 0} where
  -- what was locked and unlocked in turn, and one call more
  pub turns_more : (from mid to : Place T) (history : List (SeatStride (GuardCall T))) (m : SeatStride (GuardCall T))
      → InTurns from history mid → InTurns mid (m ∷ []) to
      → InTurns from (history ++ m ∷ []) to
  turns_more from mid to [] m t n = subst (λ (p : Place T). InTurns p (m ∷ []) to) t n
  turns_more (home x) mid to (h ∷ history) m t n = (t.0, turns_more (lent h.seat) mid to history m t.1 n)
  turns_more (lent i) mid to (h ∷ history) m t n = (t.0, t.1, t.2, turns_more (home t.0) mid to history m t.3 n)

  -- a seat holds the lock by its own calls just where the value is with it by the history
  pub holds_is : (i : ℕ) (from last : Place T) (history : List (SeatStride (GuardCall T))) → InTurns from history last
      → holds_after (is_with i from) (strides_of i history) ≡ is_with i last
  holds_is i from last [] t = ap (is_with i) (sym t)
  holds_is i (home x) last (m ∷ history) t = by (m.seat == i) refl (holds_is i (lent m.seat) last history t.1)
    where
      by : (b : Bool) → (m.seat == i) ≡ b → holds_after (m.seat == i) (strides_of i history) ≡ is_with i last
          → holds_after false (if b then m.stride ∷ strides_of i history else strides_of i history) ≡ is_with i last
      by true e rest = ap (λ (c : GuardCall T). holds_after false (c ∷ strides_of i history)) t.0
          ∙ ap (λ (b : Bool). holds_after b (strides_of i history)) (sym e) ∙ rest
      by false e rest = ap (λ (b : Bool). holds_after b (strides_of i history)) (sym e) ∙ rest
  holds_is i (lent j) last (m ∷ history) t = by (m.seat == i) (ap (λ (k : ℕ). k == i) t.2) (holds_is i (home t.0) last history t.3)
    where
      by : (b : Bool) → b ≡ (j == i) → holds_after false (strides_of i history) ≡ is_with i last
          → holds_after (j == i) (if b then m.stride ∷ strides_of i history else strides_of i history) ≡ is_with i last
      by true e rest = ap (λ (c : GuardCall T). holds_after (j == i) (c ∷ strides_of i history)) t.1 ∙ rest
      by false e rest = ap (λ (b : Bool). holds_after b (strides_of i history)) (sym e) ∙ rest

  -- one more, behind all others
  pub holds_last : (b : Bool) (calls : List (GuardCall T)) (c : GuardCall T)
      → holds_after b (calls ++ c ∷ []) ≡ holds_then (holds_after b calls) c.deed
  holds_last b [] c = refl
  holds_last b (d ∷ calls) c = holds_last (holds_then b d.deed) calls c

  pub turns_last : (calls : List (GuardCall T)) (c : GuardCall T) → turns_of (calls ++ c ∷ []) ≡ turns_of calls ++ turn_of c.deed c []
  turns_last [] c = refl
  turns_last (d ∷ calls) c = by d.deed (turns_last calls c)
    where
      by : (deed : GuardDeed) → turns_of (calls ++ c ∷ []) ≡ turns_of calls ++ turn_of c.deed c []
          → turn_of deed d (turns_of (calls ++ c ∷ [])) ≡ turn_of deed d (turns_of calls) ++ turn_of c.deed c []
      by Locked rest = ap (λ l. d ∷ l) rest
      by Unlocked rest = ap (λ l. d ∷ l) rest
      by (Looked has held) rest = rest

  -- who holds the lock is told by what it locked and unlocked alone
  pub holds_by_turns : (b : Bool) (calls : List (GuardCall T)) → holds_after b (turns_of calls) ≡ holds_after b calls
  holds_by_turns b [] = refl
  holds_by_turns b (c ∷ calls) = by c.deed refl (λ d. holds_by_turns d calls)
    where
      by : (deed : GuardDeed) → c.deed ≡ deed → ((d : Bool) → holds_after d (turns_of calls) ≡ holds_after d calls)
          → holds_after b (turn_of deed c (turns_of calls)) ≡ holds_after (holds_then b deed) calls
      by Locked is rest = ap (λ d. holds_after (holds_then b d) (turns_of calls)) is ∙ rest true
      by Unlocked is rest = ap (λ d. holds_after (holds_then b d) (turns_of calls)) is ∙ rest false
      by (Looked has held) is rest = rest b

  -- where it is with the seat
  pub lent_to : (i : ℕ) (at : Place T) → is_with i at ≡ true → at ≡ lent i
  lent_to i (home x) e = absurd (cc)
  lent_to i (lent j) e = ap lent (eqb-true j i e)

  -- who held nothing locked, and holds what it took
  pub turn_locked : (was : Option T) (call : GuardCall T) (now : Option T) (x : T) → is_some was ≡ false → IsTurn was call now → now ≡ Some x
      → call ≡ locked x
  turn_locked None call now x free (inl turn) is = turn.1 ∙ ap of (sym turn.2 ∙ is)
    where
      of : Option T → GuardCall T
      of None = call
      of (Some z) = locked z
  turn_locked None call now x free (inr turn) is = let none : false ≡ true = ap is_some (sym turn.2 ∙ is) in absurd (cc)
  turn_locked (Some z) call now x free turn is = absurd (cc)

  -- who held something and unlocked holds nothing then
  pub turn_unlocked : (was : Option T) (call : GuardCall T) (now : Option T) → is_some was ≡ true → call.deed ≡ Unlocked → IsTurn was call now
      → is_some now ≡ false
  turn_unlocked (Some z) call now held un (inl turn) = ap is_some turn.1
  turn_unlocked (Some z) call now held un (inr turn) =
      absurd (not_looked true turn.0 (sym un ∙ ap (λ (c : GuardCall T). c.deed) turn.1))
  turn_unlocked None call now held un turn = absurd (cc)

  -- a look that read another number than 0, of who held nothing, found the lock held
  pub found_held : (was : Option T) (c : GuardCall T) (now : Option T) (n : ℕ) → is_some was ≡ false → IsTurn was c now
      → (stride_of c.deed).deed ≡ looks tt → (stride_of c.deed).read ≡ n → n ≢ 0 → (c ≡ looked false true) × (now ≡ None)
  found_held None c now n free (inl turn) did read ne =
      absurd (row_not_look (stride_of c.deed).deed (ap (λ (d : GuardCall T). (stride_of d.deed).deed) turn.1) did)
  found_held None c now n free (inr turn) did read ne = by turn.0 turn.1
    where
      by : (held : Bool) → c ≡ looked false held → (c ≡ looked false true) × (now ≡ None)
      by true is = (is, turn.2)
      by false is = let zero : 0 ≡ n = sym (ap (λ (d : GuardCall T). (stride_of d.deed).read) is) ∙ read in absurd (ne (sym zero))
  found_held (Some z) c now n free turn did read ne = absurd (cc)

  -- what was given back is what the slot's value was
  pub given_is : (call : GuardCall T) (slots : List (ℕ × T)) (x : T) → HasGiven call slots → slots ≡ (0, x) ∷ [] → call ≡ unlocked x
  given_is call slots x given out = subst (HasGiven call) out given
