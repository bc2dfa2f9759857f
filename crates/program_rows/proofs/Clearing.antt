-- Registers that aren't in use are set to 0 one by one, and then the seat has gone on as the definition says.
use Rattle.std.proofs.Common.{◌≡◌, ℕ, pos, ◌<◌, ◌≤◌, Bool, true, false, cond, List, length}
use Rattle.std.proofs.Common.{IsTrue, refl, sym, ap, ◌∙◌, subst, arith}
use native.Mathlib.Decide.{dec_lt}
use Rattle.program_code.specs.declared.program.CodeLine.{CodeLine}
use Rattle.program_steps.specs.Table.{tells, IsTableOf}
use Rattle.program_rows.specs.declared.seat.Seat.{Seat}
use Rattle.program_rows.specs.Settling.{kept_by, IsClearedBy}
use Rattle.program_steps.specs.InUse.{IsInUse}
use Rattle.program_steps.specs.declared.stand.Stand.{Stand}
use Rattle.program_steps.specs.declared.stand.Stand.TheVariants.{Before, Within, Asleep, Ended, FailedAt}
use Rattle.program_steps.specs.Going.{AreLeft, come_from, GoesOn}
use Rattle.program_steps.specs.World.{ProgramSeat}
use Rattle.step_rows.specs.Stored.{each}

-- the first k registers are cleared, the others as they were
pub record ClearedUpTo (table : List (List Bool)) (at : Stand) (s t : Seat) (k : ℕ) : Type 0 where
  pub stand : t.stand ≡ s.stand
  pub sections : t.sections ≡ s.sections
  pub asks : t.asks ≡ s.asks
  pub grant : t.grant ≡ s.grant
  pub count : length t.registers ≡ length s.registers
  pub done : (r : ℕ) → r < k → each (pos 0) t.registers r ≡ cond (kept_by table at r) (each (pos 0) s.registers r) (pos 0)
  pub rest : (r : ℕ) → k ≤ r → each (pos 0) t.registers r ≡ each (pos 0) s.registers r

-- a seat that has come to its line and was cleared there has gone on
module _ (code : List CodeLine) (me : ℕ) (table : List (List Bool)) (is : IsTableOf code 8 table) (first : ProgramSeat) (n : ℕ)
    (come t : ProgramSeat) (there : come ≡ come_from code me first n) (small : (r : ℕ) → 8 ≤ r → come.registers r ≡ pos 0)
    (cleared : IsClearedBy table come t) where
  kept : (w : Stand) → come.stand ≡ w → (r : ℕ) → t.registers r ≡ cond (kept_by table w r) (come.registers r) (pos 0)
  kept w at r = cleared.registers r ∙ ap (λ w. cond (kept_by table w r) (come.registers r) (pos 0)) at

  used_or : (r m : ℕ) → IsInUse code r m → (b : Bool) → (r < 8 → IsTrue b) → cond b (come.registers r) (pos 0) ≡ come.registers r
  used_or r m used true so = refl
  used_or r m used false so = by (dec_lt r 8)
    where
      by : Dec (r < 8) → pos 0 ≡ come.registers r
      by (yes h) = let e : false ≡ true = so h in absurd cc
      by (no past) = sym (small r (omega arith))

  unused_or : (r m : ℕ) → (IsInUse code r m → ⊥) → (b : Bool) → (r < 8 → IsTrue b → IsInUse code r m)
      → cond b (come.registers r) (pos 0) ≡ pos 0
  unused_or r m unused false so = refl
  unused_or r m unused true so = by (dec_lt r 8)
    where
      by : Dec (r < 8) → come.registers r ≡ pos 0
      by (yes h) = absurd (unused (so h refl))
      by (no past) = small r (omega arith)

  left : (w : Stand) → come.stand ≡ w → AreLeft code w come.registers t.registers
  left (Before m) at = record {
    used = λ r used. kept (Before m) at r ∙ used_or r m used (tells table m r) (λ few. (is r m few).1 used);
    unused = λ r unused. kept (Before m) at r ∙ unused_or r m unused (tells table m r) (λ few. (is r m few).0);
  }
  left (FailedAt m why) at = kept (FailedAt m why) at
  left (Within m) at = kept (Within m) at
  left (Asleep m) at = kept (Asleep m) at
  left Ended at = kept Ended at

  pub gone_on : GoesOn code me first n t
  gone_on = record {
    stand = cleared.stand ∙ ap (λ (s : ProgramSeat). s.stand) there;
    sections = λ k. ap (λ f. f k) (cleared.sections ∙ ap (λ (s : ProgramSeat). s.sections) there);
    asks = λ k. ap (λ f. f k) (cleared.asks ∙ ap (λ (s : ProgramSeat). s.asks) there);
    registers = subst (λ (s : ProgramSeat). AreLeft code t.stand s.registers t.registers) there (left t.stand (sym cleared.stand));
  }
