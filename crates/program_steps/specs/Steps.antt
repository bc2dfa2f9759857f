-- What a seat does in one step: a line's row, or a row of the layer's call that its line has begun. Then it
-- goes on, where its line is done.
use Rattle.std.specs.Prelude.{◌≡◌, ◌≢◌, ℕ, zero, suc, ◌+◌, ℤ, pos, Bool, true, false, cond, eqb, int_le}
use Rattle.std.specs.Prelude.{unsigned_abs, List, [], ◌∷◌, ◌++◌, length, slice_get}
use Rattle.std.specs.Prelude.{Option, Some, None, Result, Ok, Err, ◌<◌, ◌≤◌}
use Rattle.std.specs.Int.{w64, int_wrapping_add}
use Rattle.program_code.specs.declared.instruction.Instruction.{Instruction}
use Rattle.program_code.specs.declared.instruction.Instruction.TheVariants as line
use Rattle.program_code.specs.declared.program.CodeLine.{CodeLine}
use Rattle.program_code.specs.declared.program.Program.{Program}
use Rattle.program_steps.specs.declared.failure.Failure.{Failure}
use Rattle.program_steps.specs.declared.failure.Failure.TheVariants.{Index}
use Rattle.program_steps.specs.Numbers.{holds}
use Rattle.std.specs.Ordering.{int_eq}
use Rattle.program_steps.specs.declared.stand.Stand.{Stand}
use Rattle.program_steps.specs.declared.stand.Stand.TheVariants.{Before, Within, Asleep, Ended, FailedAt}
use Rattle.program_steps.specs.declared.stand.Sleeper.{Sleeper}
pub use Rattle.program_steps.specs.declared.stand.Then.{Then}
pub use Rattle.program_steps.specs.declared.stand.Then.TheVariants.{OnFromNext, Stands, Fails}
use Rattle.program_steps.specs.World.{ProgramWorld, ProgramSeat}
use Rattle.program_steps.specs.World.{layer_of, code_of, first_world, new_seat}
use Rattle.program_steps.specs.Reading.{value, place_of}
use Rattle.program_steps.specs.Going.{with_register, with_section, GoesOn}
use Rattle.program_steps.specs.Calls.{call_of}
use Rattle.step_table.specs.declared.call.Call.{Call}
use Rattle.step_table.specs.declared.standing.Standing.{Standing}
use Rattle.step_table.specs.declared.standing.Standing.TheVariants.{Rest}
use Rattle.step_table.specs.declared.place.AcquireRow.TheVariants.{A1}
use Rattle.step_table.specs.declared.place.Place.{Place}
use Rattle.step_table.specs.declared.place.Place.TheVariants.{Acquiring}
use Rattle.step_table.specs.declared.place.Place.TheVariants as on_counter
use Rattle.step_table.specs.Steps.{moved}
use Rattle.step_table.specs.World.{put}
use Rattle.step_table.specs.Core.{CoreLayout, Core}
use Rattle.step_table.specs.CoreSteps.{calls, can_run, core_turned, stands}

-- a world whose seat has yet to go there
pub record Did : Type 0 where
  pub world : ProgramWorld
  pub next : Then

abbrev pub with_seat : ProgramWorld → ℕ → ProgramSeat → ProgramWorld
with_seat s i seat = record s { seats = put s.seats i seat }

abbrev pub with_word : ProgramWorld → ℕ → ℤ → ProgramWorld
with_word s w n = record s { words = put s.words w n }

-- the seat has read this, and the word is that now
abbrev pub reading : ProgramWorld → ℕ → Option ℕ → ℕ → ℤ → Did
reading s i r w n =
    record {
      world = with_word (with_seat s i (with_register (s.seats i) r (s.words w))) w n;
      next = OnFromNext;
    }

-- a row on the word of a place: of an array without such a member the seat fails
abbrev pub on_word : ProgramWorld → Option ℕ → (ℕ → Option Did) → Option Did
on_word s None row = Some (record { world = s; next = Fails Index })
on_word s (Some w) row = row w

-- the sleepers without the first so many on the word; and those
unfoldable pub left : ℕ → ℕ → List Sleeper → List Sleeper
left w many [] = []
left w zero (x ∷ rest) = x ∷ rest
left w (suc many) (x ∷ rest) = cond (eqb x.word w) (left w many rest) (x ∷ left w (suc many) rest)

unfoldable pub woken : ℕ → ℕ → List Sleeper → List ℕ
woken w many [] = []
woken w zero (x ∷ rest) = []
woken w (suc many) (x ∷ rest) = cond (eqb x.word w) (x.seat ∷ woken w many rest) (woken w (suc many) rest)

-- grant words after these were woken
unfoldable pub granted : List ℕ → (ℕ → ℕ) → ℕ → ℕ
granted [] grants = grants
granted (i ∷ rest) grants = granted rest (put grants i 1)

-- how many: none where the number is below 0
abbrev pub as_many : ℤ → ℕ
as_many n = cond (int_le (pos 0) n) (unsigned_abs n) 0

abbrev pub unparked : ProgramWorld → ℕ → ℕ → ProgramWorld
unparked s w many =
    record s { sleepers = left w many s.sleepers; grants = granted (woken w many s.sleepers) s.grants }

-- the row of a line that is none of the layer
abbrev pub row_of_line : ProgramWorld → ℕ → ℕ → Instruction → Option Did
row_of_line s i n (line.Load w r) =
    let seat : ProgramSeat = s.seats i in
    on_word s (place_of i seat.registers w) (λ w. Some (reading s i (Some r) w (s.words w)))
row_of_line s i n (line.Store w e) =
    let seat : ProgramSeat = s.seats i in
    on_word s (place_of i seat.registers w) (λ w. Some (reading s i None w (value i seat.registers e)))
row_of_line s i n (line.Swap w e r) =
    let seat : ProgramSeat = s.seats i in
    on_word s (place_of i seat.registers w) (λ w. Some (reading s i r w (value i seat.registers e)))
row_of_line s i n (line.Add w e r) =
    let seat : ProgramSeat = s.seats i in
    on_word s (place_of i seat.registers w)
    (λ w. Some (reading s i r w (int_wrapping_add w64 (s.words w) (value i seat.registers e))))
row_of_line s i n (line.Exchange w e f r) =
    let seat : ProgramSeat = s.seats i in
    on_word s (place_of i seat.registers w)
    (λ w. Some (reading s i r w
    (cond (int_eq (s.words w) (value i seat.registers e)) (value i seat.registers f) (s.words w))))
row_of_line s i n (line.Await w rel e r) =
    let seat : ProgramSeat = s.seats i in
    on_word s (place_of i seat.registers w)
    (λ w. cond (holds rel (s.words w) (value i seat.registers e))
    (Some (reading s i r w (s.words w))) None)
row_of_line s i n (line.Park w e) =
    let seat : ProgramSeat = s.seats i in
    on_word s (place_of i seat.registers w)
    (λ w. cond (int_eq (s.words w) (value i seat.registers e))
    (Some (record {
      world = record s { sleepers = s.sleepers ++ (record { seat = i; word = w }) ∷ [] };
      next = Stands (Asleep n);
    }))
    (Some (record { world = s; next = OnFromNext })))
row_of_line s i n (line.Unpark w e) =
    let seat : ProgramSeat = s.seats i in
    on_word s (place_of i seat.registers w)
    (λ w. Some (record {
      world = unparked s w (as_many (value i seat.registers e));
      next = OnFromNext;
    }))
row_of_line s i n (line.Out k) =
    Some (record { world = with_seat s i (with_section (s.seats i) k false); next = OnFromNext })
row_of_line s i n _ = None

-- where a row of the layer leads: once the layer's seat is at rest the call has ended
abbrev pub after_call : ℕ → Standing → Then
after_call n Rest = OnFromNext
after_call n standing = Stands (Within n)

-- whether a seat stands at the first row of an acquire: its exchange was lost to somebody
abbrev pub is_first : Place → Bool
is_first (Acquiring a A1) = true
is_first _ = false

-- the layer where the seat is at rest again
abbrev pub given_up : ℕ → Core → Core
given_up i c = stands (record c { semaphores = moved c.semaphores i on_counter.Rest }) i Rest

-- after a row of seat i the layer, and what comes then: who is to begin an acquire anew is before its line
-- again, as who hasn't begun it
abbrev pub settled : ℕ → Core → Core
settled i c = cond (is_first (c.semaphores.seats i).place) (given_up i c) c

abbrev pub after_row : ℕ → ℕ → Core → Then
after_row n i c =
    cond (is_first (c.semaphores.seats i).place) (Stands (Before n)) (after_call n (c.standing i))

-- the layer's row of seat i, which stands there in the layer c
abbrev pub layer_row : CoreLayout → ProgramWorld → ℕ → ℕ → Core → Option Did
layer_row m s i n c =
    cond (can_run m c i (c.standing i))
    (Some (record {
      world = record s { layer = settled i (core_turned m c i) };
      next = after_row n i (core_turned m c i);
    }))
    None

-- the first row of a line: of the call that it begins, or its own
abbrev pub first_row :
    CoreLayout → ProgramWorld → ℕ → ℕ → Instruction → Option (Result Call Failure) → Option Did
first_row m s i n l None = row_of_line s i n l
first_row m s i n l (Some (Ok call)) = layer_row m s i n (calls s.layer i call)
first_row m s i n l (Some (Err why)) = Some (record { world = s; next = Fails why })

abbrev pub row_before : CoreLayout → ProgramWorld → ℕ → ℕ → Option CodeLine → Option Did
row_before m s i n None = None
row_before m s i n (Some l) = first_row m s i n l.instruction (call_of s i l.instruction)

-- the grant of a sleeper is taken
abbrev pub awoken : ProgramWorld → ℕ → Option Did
awoken s i =
    cond (eqb (s.grants i) 0) None
    (Some (record { world = record s { grants = put s.grants i 0 }; next = OnFromNext }))

-- the row of seat i, which stands there: none where it can't step
abbrev pub row_at : Program → ProgramWorld → ℕ → Stand → Option Did
row_at p s i (Before n) = row_before (layer_of p) s i n (slice_get (code_of p i) n)
row_at p s i (Within n) = layer_row (layer_of p) s i n s.layer
row_at p s i (Asleep n) = awoken s i
row_at p s i _ = None

abbrev pub row_of : Program → ProgramWorld → ℕ → Option Did
row_of p s i = row_at p s i (s.seats i).stand

-- the line at which a seat stands
abbrev pub at : Stand → ℕ
at (Before n) = n
at (Within n) = n
at (Asleep n) = n
at (FailedAt n why) = n
at Ended = 0

-- the seat, which stood at line n, after its row
abbrev pub IsSeatAfter : Program → ℕ → ℕ → ProgramSeat → Then → ProgramSeat → Type 0
IsSeatAfter p i n s OnFromNext t = GoesOn (code_of p i) i s (n + 1) t
IsSeatAfter p i n s (Stands stand) t = t ≡ record s { stand = stand }
IsSeatAfter p i n s (Fails why) t = t ≡ record s { stand = FailedAt n why }

-- seat i makes a step from s to t: its row, and then it goes on
pub record StepsTo (p : Program) (s : ProgramWorld) (i : ℕ) (t : ProgramWorld) : Type 0 where
  pub did : Did
  pub is : row_of p s i ≡ Some did
  pub seat : IsSeatAfter p i (at (s.seats i).stand) (did.world.seats i) did.next (t.seats i)
  pub others : (k : ℕ) → k ≢ i → t.seats k ≡ s.seats k
  pub words : t.words ≡ did.world.words
  pub layer : t.layer ≡ did.world.layer
  pub sleepers : t.sleepers ≡ did.world.sleepers
  pub grants : t.grants ≡ did.world.grants

-- each seat has gone on from its first line, and nothing has happened; behind the last one there is none
pub record IsStart (p : Program) (s : ProgramWorld) : Type 0 where
  pub seats : (i : ℕ) → i < length p.seats → GoesOn (code_of p i) i new_seat 0 (s.seats i)
  pub others : (i : ℕ) → length p.seats ≤ i → s.seats i ≡ new_seat
  pub words : s.words ≡ (first_world p).words
  pub layer : s.layer ≡ (first_world p).layer
  pub sleepers : s.sleepers ≡ []
  pub grants : s.grants ≡ (first_world p).grants

-- the worlds to which schedules lead
pub data Reaches (p : Program) : List ℕ → ProgramWorld → Type 0 where
  start : {s : ProgramWorld} → IsStart p s → Reaches p [] s
  step : {past : List ℕ} {s t : ProgramWorld} (i : ℕ) → i < length p.seats → Reaches p past s → StepsTo p s i t
      → Reaches p (past ++ i ∷ []) t
