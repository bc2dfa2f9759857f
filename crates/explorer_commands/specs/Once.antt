-- The calls of `parklot once` on counter 0 of a table: seat 0 acquires, and seat 1 releases while it sleeps.
use Rattle.std.specs.Prelude.{◌≡◌, ◌≢◌, [], ◌∷◌, Option, Some, None, false}
use Rattle.step_table.specs.declared.place.AcquireRow.TheVariants.{A3}
use Rattle.sema_table.specs.declared.answers.Tried.TheVariants.{Zero}
use Rattle.sema_table.specs.declared.answers.Entered.TheVariants as entered
use Rattle.sema_table.specs.declared.answers.Posted.TheVariants as posted
use Rattle.sema_table.specs.declared.answers.Polled.TheVariants as polled
use Rattle.sema_table.specs.declared.settings.Settings.{Settings}
use Rattle.sema_table.specs.Seats.{TableModel, SeatModel}
use Rattle.sema_table.specs.Making.{new_seat}
use Rattle.sema_table.specs.Tries.{acquiring, IsTried, IsPosted}
use Rattle.sema_table.specs.Waking.{acquire_of, IsEntered, OnlyLooks, IsPolled, IsRetried, IsWakened}
use Rattle.explorer_commands.specs.declared.once_answers.Released.{Released}
use Rattle.explorer_commands.specs.declared.once_answers.Released.TheVariants.{Done, Owed}
use Rattle.explorer_commands.specs.declared.once_answers.OnceRetried.{OnceRetried}
use Rattle.explorer_commands.specs.declared.once_answers.OnceRetried.TheVariants.{Taken, Asleep}
use Rattle.explorer_commands.specs.declared.once_answers.OnceAnswers.{OnceAnswers}
use Rattle.explorer_commands.specs.declared.once_answers.OnceAnswers.TheVariants.{Tried, Entered, Slept}

-- the seat's release: its post, and its wake, without handoff, where the post owed one
abbrev pub IsReleased : SeatModel → Released → Type 0
IsReleased s Done = (t : SeatModel) × IsPosted s 0 (posted.Done t)
IsReleased s (Owed wake) = (t u : SeatModel) × IsPosted s 0 (posted.Owes t) × IsWakened t false u wake

-- after looks that found nothing, the seat was woken by this poll, or else handed a unit
abbrev pub IsGranted : SeatModel → Option SeatModel → Type 0
IsGranted s None = (t u : SeatModel) × OnlyLooks s t × IsPolled t (polled.Handed u)
IsGranted s (Some woken) = (t : SeatModel) × OnlyLooks s t × IsPolled t (polled.Woken woken)

-- the seat was handed a unit; or it was woken, and its retry answered this
abbrev pub IsAwakened : SeatModel → Option OnceRetried → Type 0
IsAwakened s None = IsGranted s None
IsAwakened s (Some Taken) =
    (woken t : SeatModel) × IsGranted s (Some woken) × IsRetried woken (entered.Taken t)
IsAwakened s (Some Asleep) =
    (woken t : SeatModel) × IsGranted s (Some woken) × IsRetried woken (entered.Asleep t)

-- each answer is that of a call, made where the answers before it lead
abbrev pub IsOnceRun : SeatModel → SeatModel → OnceAnswers → Type 0
IsOnceRun s r (Tried tried) = (tried ≢ Zero) × ((t : SeatModel) × IsTried s 0 tried t)
IsOnceRun s r Entered =
    (t u : SeatModel) × IsTried s 0 Zero t
    × IsEntered t (acquire_of 0 false) (acquiring 0 A3) (entered.Taken u)
IsOnceRun s r (Slept released retried) =
    (t u : SeatModel) × IsTried s 0 Zero t
    × IsEntered t (acquire_of 0 false) (acquiring 0 A3) (entered.Asleep u)
    × IsReleased r released × IsAwakened u retried

-- one counter at 0, alone at its root, and two seats, each of which may release once
pub record AreOnceSettings (settings : Settings) : Type 0 where
  pub starts : settings.starts.items ≡ 0 ∷ []
  pub seats : settings.seats ≡ 2
  pub roots : settings.roots ≡ 1
  pub limit : settings.release_limit ≡ 1

-- a table of these settings, and its two seats, which have run nothing
pub record IsOnceTable (table : TableModel) (first second : SeatModel) : Type 0 where
  pub starts : table.setting.starts ≡ 0 ∷ []
  pub seats : table.setting.seats ≡ 2
  pub roots : table.setting.roots ≡ 1
  pub limit : table.setting.limit ≡ 1
  pub first_is : first ≡ new_seat table 0
  pub second_is : second ≡ new_seat table 1
