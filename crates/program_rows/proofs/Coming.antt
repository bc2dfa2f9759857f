-- A seat that goes on line by line comes to where the definition says: the lines that are still to be run
-- lead there.
use Rattle.std.proofs.Common.{◌≡◌, ℕ, zero, suc, ◌+◌, ◌-◌, ◌<◌, ◌≤◌, true, cond, List, Option, Some, None, slice_get, refl}
use Rattle.std.proofs.Common.{sym, ap, ◌∙◌, arith}
use Rattle.program_code.specs.declared.instruction.Instruction.{Instruction}
use Rattle.program_code.specs.declared.instruction.Instruction.TheVariants as line
use Rattle.program_code.specs.declared.program.CodeLine.{CodeLine}
use Rattle.program_steps.specs.declared.failure.Failure.TheVariants.{Endless}
use Rattle.program_steps.specs.declared.stand.Stand.{Stand}
use Rattle.program_steps.specs.declared.stand.Stand.TheVariants.{Before, Within, Asleep, Ended, FailedAt}
use Rattle.program_steps.specs.Going.{advanced, advanced_from, after_line, after_line_of, endless_from, endless_at, come_from, at_line, ended}
use Rattle.program_steps.specs.Reading.{makes_steps}
use Rattle.program_steps.specs.World.{ProgramSeat}
use Rattle.program_rows.specs.declared.seat.Seat.{Seat}
use Rattle.program_rows.specs.Stored.{seat_of}

-- after k of 256 lines
pub record HasCome (code : List CodeLine) (me : ℕ) (first : Seat) (line k : ℕ) (seat : Seat) : Type 0 where
  pub few : k ≤ 256
  pub same : advanced code me (256 - k) (seat_of seat) ≡ advanced code me 256 (at_line (seat_of first) line)
  pub grant : seat.grant ≡ first.grant

-- a line with a step leaves the seat as it is
stays_there : (me : ℕ) (s : ProgramSeat) (n : ℕ) (l : Instruction) → makes_steps l ≡ true → after_line me s n l ≡ s
stays_there me s n (line.Let r e) is = absurd cc
stays_there me s n (line.Compute r e op f) is = absurd cc
stays_there me s n (line.If e rel f to) is = absurd cc
stays_there me s n (line.Goto to) is = absurd cc
stays_there me s n (line.In k) is = absurd cc
stays_there me s n (line.Ask k) is = absurd cc
stays_there me s n (line.Assert e rel f) is = absurd cc
stays_there me s n line.Fail is = absurd cc
stays_there me s n (line.Load w r) is = refl
stays_there me s n (line.Store w e) is = refl
stays_there me s n (line.Swap w e r) is = refl
stays_there me s n (line.Add w e r) is = refl
stays_there me s n (line.Exchange w e f r) is = refl
stays_there me s n (line.Await w rel e r) is = refl
stays_there me s n (line.Acquire c lifo) is = refl
stays_there me s n (line.Release c share) is = refl
stays_there me s n (line.Ticket l) is = refl
stays_there me s n (line.Wait l) is = refl
stays_there me s n (line.One l) is = refl
stays_there me s n (line.All l) is = refl
stays_there me s n (line.Park w e) is = refl
stays_there me s n (line.Unpark w e) is = refl
stays_there me s n (line.Out k) is = refl

module _ (code : List CodeLine) (me : ℕ) where
  -- what one line leaves as it is all lines do
  stays : (k : ℕ) (s : ProgramSeat) → advanced_from code me s s.stand ≡ s → advanced code me k s ≡ s
  unfolding advanced
  stays zero s same = refl
  stays (suc k) s same = ap (advanced code me k) same ∙ stays k s same

  -- no line is run by a seat that stands before none
  else_stays : (s : ProgramSeat) (stand : Stand) → ((n : ℕ) → stand ≡ Before n → ⊥) → advanced_from code me s stand ≡ s
  else_stays s (Before n) not = absurd (not n refl)
  else_stays s (Within n) not = refl
  else_stays s (Asleep n) not = refl
  else_stays s Ended not = refl
  else_stays s (FailedAt n why) not = refl

  else_ends : (s : ProgramSeat) (stand : Stand) → ((n : ℕ) → stand ≡ Before n → ⊥) → endless_from code s stand ≡ s
  else_ends s (Before n) not = absurd (not n refl)
  else_ends s (Within n) not = refl
  else_ends s (Asleep n) not = refl
  else_ends s Ended not = refl
  else_ends s (FailedAt n why) not = refl

  module _ (first : Seat) (begin k : ℕ) (seat : Seat) (come : HasCome code me first begin k seat) where
    abbrev there : ProgramSeat
    there = come_from code me (seat_of first) begin

    -- where all lines that are left lead to t, the seat comes to t
    leads : (t : ProgramSeat) → advanced code me (256 - k) (seat_of seat) ≡ t → endless_from code t t.stand ≡ there
    leads t is = ap (λ s. endless_from code s s.stand) (sym is ∙ come.same)

    pub comes_else : ((n : ℕ) → seat.stand ≡ Before n → ⊥) → seat_of seat ≡ there
    comes_else not =
        sym (else_ends (seat_of seat) seat.stand not)
        ∙ leads (seat_of seat) (stays (256 - k) (seat_of seat) (else_stays (seat_of seat) seat.stand not))

    module _ (n : ℕ) (before : seat.stand ≡ Before n) where
      -- the seat after one of its lines
      one_line : (l : Option CodeLine) → slice_get code n ≡ l
          → advanced_from code me (seat_of seat) seat.stand ≡ after_line_of me (seat_of seat) n l
      one_line l at = ap (advanced_from code me (seat_of seat)) before ∙ ap (after_line_of me (seat_of seat) n) at

      module _ (more : k < 256) where
        next_left : 256 - k ≡ suc (256 - (k + 1))
        next_left = omega arith

        pub comes_behind : slice_get code n ≡ None → (t : ProgramSeat) → t ≡ ended (seat_of seat) → t ≡ there
        unfolding advanced
        comes_behind at t is = is ∙ leads (ended (seat_of seat))
            (ap (λ left. advanced code me left (seat_of seat)) next_left
            ∙ ap (advanced code me (256 - (k + 1))) (one_line None at)
            ∙ stays (256 - (k + 1)) (ended (seat_of seat)) refl)

        pub goes_on : (l : CodeLine) → slice_get code n ≡ Some l → (next : Seat)
            → seat_of next ≡ after_line me (seat_of seat) n l.instruction → next.grant ≡ seat.grant
            → HasCome code me first begin (k + 1) next
        unfolding advanced
        goes_on l at next is grant = record {
          few = omega arith;
          same = ap (advanced code me (256 - (k + 1))) (is ∙ sym (one_line (Some l) at))
              ∙ ap (λ left. advanced code me left (seat_of seat)) (sym next_left) ∙ come.same;
          grant = grant ∙ come.grant;
        }

      pub comes_to : (l : CodeLine) → slice_get code n ≡ Some l → makes_steps l.instruction ≡ true → seat_of seat ≡ there
      comes_to l at steps =
          sym (ap (endless_from code (seat_of seat)) before ∙ ap (endless_at (seat_of seat) n) at
          ∙ ap (λ b. cond b (seat_of seat) (record (seat_of seat) { stand = FailedAt n Endless })) steps)
          ∙ leads (seat_of seat) (stays (256 - k) (seat_of seat)
          (one_line (Some l) at ∙ stays_there me (seat_of seat) n l.instruction steps))

    pub comes_at_last : (t : ProgramSeat) → k ≡ 256 → t ≡ endless_from code (seat_of seat) seat.stand → t ≡ there
    unfolding advanced
    comes_at_last t all is = is ∙ leads (seat_of seat) (ap (λ left. advanced code me left (seat_of seat)) (none_left all))
      where
        none_left : k ≡ 256 → 256 - k ≡ 0
        none_left e = omega arith
