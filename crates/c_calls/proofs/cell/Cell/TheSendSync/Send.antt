-- A cell goes where its place goes.
use Rattle.std.specs.Prelude.{List, [], ◌∷◌}
use base.Shift.{Keyless}
use mir.Raw.{raw}
use denote.Memory.{lone}
use base.Fraction.{full_share}
use denote.Exit.{Exit, unchanged, leaves, hidden, under}
use denote.RattleType.{RattleType}
use denote.RawPtr.{Ptr, block_ptr, null_ptr, lies_at}
use denote.Struct.Struct.{exits_of}
use denote.Struct.Owning.{shape, fields, to}
use denote.Param.Send.{IsSend, AllSend, Quiet, part_keyless, owning_send, struct_send, sendable}
use Rattle.std.proofs.Crossing.{frees}
use Rattle.c_calls.specs.Cells.{cell_owns}
use Rattle.c_calls.specs.contracts.kept_seat.KeptSeat as Kept
use Rattle.c_calls.proofs.kept_seat.KeptSeat.TheSendSync.{the_send as kept}
use Rattle.c_calls.specs.declared.kept_seat.KeptSeat as declared
use Rattle.c_calls.specs.contracts.cell.Cell.{the_row, the_type}

quiet : {D X : Type 0} (to : D → X) (e : Exit X) → Quiet e → Quiet (hidden (under to e))
quiet to unchanged q = λ x w. tt
quiet to (leaves L l S s r₀) q = λ d. q (to d)

lies : (R : RattleType) → IsSend R → (p : Ptr) (x : R.Denot) → Keyless (lies_at R full_share p x)
lies R s (block_ptr b o) x = part_keyless R s full_share x b o
lies R s null_ptr x = tt

owned : (p : Ptr) (xs : List declared.KeptSeat) → Keyless (cell_owns p xs)
owned p [] = tt
owned p (x ∷ xs) = (lies Kept.the_row kept p x, frees.frees (record { memory = record { seal = tt } }) (raw (lone Kept.the_row.mir)) p)

pub send : IsSend the_row
send =
    let all : AllSend (fields the_type) = (search sendable, tt) in
    owning_send the_type all (λ d. owned d.ptr d.places)
    (λ k. quiet (to the_type) (exits_of k (fields the_type)) ((struct_send (shape the_type) all).leaving k))
