-- No row of a notify list looks at a number of a ticket, or at how many tickets a call has granted.
use Rattle.std.specs.Prelude.{◌≡◌, ℕ, []}
use Rattle.step_table.specs.ListWorld.{ListWords, ListSeat, ListWorld}
use Rattle.step_table.specs.ListSteps.{can_turn, turned}
use Rattle.step_table.specs.ListErased.{erased_waits, erased_held, erased_list_place}

abbrev pub erased_list_seat : ListSeat → ListSeat
erased_list_seat seat =
    record {
      place = erased_list_place seat.place;
      ticket = erased_held seat.ticket;
      hand = erased_waits seat.hand;
      late = 0;
    }

abbrev pub erased_list_words : ListWords → ListWords
erased_list_words g = record g { numbers = record { handed = 0; passed = 0; gone = [] }; queue = erased_waits g.queue }

-- a world without its numbers, without what calls have granted, and without the journal, which tells of them
abbrev pub erased_list : ListWorld → ListWorld
erased_list s =
    record { words = erased_list_words s.words; seats = λ k. erased_list_seat (s.seats k); journal = [] }

-- where two worlds differ in those alone, the same rows can be run, and they lead to two such worlds
abbrev pub RowsAreBlind : Type 0
RowsAreBlind =
    (s t : ListWorld) (i : ℕ) → erased_list s ≡ erased_list t
    → (can_turn s i ≡ can_turn t i) × (erased_list (turned s i) ≡ erased_list (turned t i))
