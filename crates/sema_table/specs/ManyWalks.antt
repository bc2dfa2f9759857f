-- What the rows of a release of many units do to a token.
use Rattle.std.specs.Prelude.{◌≡◌, nat_lt, ◌&&◌, drop, if◌then◌else◌, ◌+◌, ◌^◌, ◌<◌, ◌≤◌, true, List, [], ◌∷◌}
use Rattle.std.specs.Prelude.{length}
use Rattle.waiters.specs.declared.wait.WaitId.{WaitId}
use Rattle.step_table.specs.declared.place.ReleaseMany.{ReleaseMany}
use Rattle.step_table.specs.declared.place.ManyRow.TheVariants.{M5, M6, M7}
use Rattle.step_table.specs.declared.place.Place.{Place}
use Rattle.step_table.specs.declared.place.Place.TheVariants.{Rest, ReleasingMany}
use Rattle.step_table.specs.Event.{by_first}
use Rattle.step_table.specs.World.{SeatState}
use Rattle.step_table.specs.Journal.{takes}
use Rattle.step_table.specs.Path.{runs}
use Rattle.step_law_semaphores.specs.SemaPath.{SemaStride}
use Rattle.sema_table.specs.Setting.{layout}
use Rattle.sema_table.specs.Places.{is_free}
use Rattle.sema_table.specs.Changes.{spent_by}
use Rattle.sema_table.specs.Seats.{TableModel, Token, table_of}
use Rattle.sema_table.specs.Walks.{Walked, moved_to, lists_of}
use Rattle.sema_table.specs.Many.{GrantsEach}

-- what the table says follows M4, where somebody waits at the root
abbrev pub sought_many : Token → ReleaseMany → Place
sought_many s r = by_first (lists_of s r.counter) (ReleasingMany r M6) (λ w. ReleasingMany r M5)

-- where a release goes under the lock: one wait more, while units and waits are left
abbrev pub picking : Token → ReleaseMany → Place
picking s r =
    let more = nat_lt (length s.me.0.own.knows.hand) r.units && nat_lt 0 (length (lists_of s r.counter)) in
    if more then ReleasingMany r M5 else ReleasingMany r M6

-- where a release goes with these waits in hand, that has given its lock back
abbrev pub to_grant : ReleaseMany → List WaitId → Place
to_grant r hand = by_first hand Rest (λ w. ReleasingMany r M7)

-- how the seat stands here, with these waits in hand
abbrev pub with_hand : Token → Place → List WaitId → SeatState
with_hand s place hand = record { place = place; turn = s.me.0.own.knows.turn; hand = hand }

-- a seat of this table has given the lock back, and has yet to grant the waits in hand
pub record MayGrant (t : TableModel) (s : Token) (r : ReleaseMany) : Type 0 where
  pub table_is : table_of s ≡ t
  pub inside : r.counter < length t.setting.starts
  pub place_is : s.me.0.own.knows.place ≡ to_grant r s.me.0.own.knows.hand
  pub limited : spent_by s.me.0.own.number s.me.0.own.knows.seen ≤ s.me.0.own.knows.setting.limit
  pub few : s.me.0.own.knows.turn ≤ 2 ^ 62 + 2 ^ 16
  pub most : s.me.0.own.knows.taken ≤ 2 ^ 62 + 2 ^ 48
  pub counted : is_free s.me.0.own.knows.place ≡ true
      → takes s.me.0.own.number s.me.0.own.knows.seen ≡ s.me.0.own.knows.taken

-- M7 ran, and the seat stands without the first wait in hand
pub record GrantedFirst (s : Token) (r : ReleaseMany) (t : Token) : Type 0 where
  pub walked : Walked s (ReleasingMany r M7) t
      (with_hand s (if nat_lt 1 (length s.me.0.own.knows.hand) then ReleasingMany r M7 else Rest)
      (drop 1 s.me.0.own.knows.hand)) [] 0
  pub stride : SemaStride
  pub strides_are : walked.strides ≡ stride ∷ []
  pub did : stride.deed ≡ runs
  pub stood : stride.stood ≡ moved_to s (ReleasingMany r M7)
  pub slots : t.me.1 ≡ s.me.1

-- rows ran from this place on that granted these waits, and it stands so
pub record GrantedSome (s : Token) (from : Place) (r : ReleaseMany) (waits : List WaitId) (t : Token)
    (stands : SeatState) : Type 0 where
  pub walked : Walked s from t stands [] 0
  pub granted : GrantsEach (layout s.me.0.own.knows.setting) s.me.0.own.number r waits walked.strides
  pub slots : t.me.1 ≡ s.me.1
