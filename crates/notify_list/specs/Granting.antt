-- What the rows that grant one ticket do to a token.
use Rattle.std.specs.Prelude.{◌≡◌, ◌⊎◌, ℕ, suc, ◌+◌, ◌<◌, ◌≤◌, nat_lt, List, [], ◌∷◌, ◌++◌, Option, Some, None}
use Rattle.step_table.specs.declared.list_place.ListPlace.{ListPlace}
use Rattle.step_table.specs.declared.list_place.ListPlace.TheVariants.{Rest, NotifyingOne}
use Rattle.step_table.specs.declared.list_place.OneRow.TheVariants.{O3, O7, O8}
use Rattle.step_table.specs.Wrapping.{word_of}
use Rattle.step_table.specs.ListWorld.{ListEntry, Granted, first_left, forgotten}
use Rattle.step_table.specs.Path.{GoesOn}
use Rattle.step_law_lists.specs.ListLawful.{told}
use Rattle.notify_list.specs.Places.{at_place}
use Rattle.notify_list.specs.declared.notified.Notified.{Notified}
use Rattle.notify_list.specs.Seats.{ListModel, Token, guarded_of, list_of, IsSeat, seen_of, setting_of, stands_of}
use Rattle.notify_list.specs.Rule.{Guarded, Lands}
use Rattle.notify_list.specs.Records.{HasGuarded}
use Rattle.notify_list.specs.Walks.{Walked, Locked, HasRecord}
use Rattle.notify_list.specs.Notifying.{grants_it, GivesLast}

-- a seat of this list is about to grant this ticket, under the lock
pub record MayGrant (l : ListModel) (s : Token) (h ticket : ℕ) : Type 0 where
  pub list_is : list_of s ≡ l
  pub there : s.me.0.own.number < (setting_of s).seats
  pub few : (setting_of s).seats ≤ 65536
  pub empty : (stands_of s).hand ≡ []
  pub at : (stands_of s).place ≡ NotifyingOne h (O7 ticket)
  pub lands : Lands s.me.0.own.number s.me.0.own.knows
  pub record_is : HasRecord s

-- what lies under the lock once the first ticket that is neither granted nor gone is granted
abbrev pub one_granted : Guarded → Guarded
one_granted g = record {
  queue = g.queue;
  passed = first_left suc g.gone (g.passed + 1);
  gone = forgotten (λ m. nat_lt m (first_left suc g.gone (g.passed + 1))) g.gone;
}

-- and its record is as it will be then: this is the word of the next such ticket
pub record MayStore (l : ListModel) (s : Token) (h ticket next : ℕ) : Type 0 where
  pub list_is : list_of s ≡ l
  pub there : s.me.0.own.number < (setting_of s).seats
  pub few : (setting_of s).seats ≤ 65536
  pub empty : (stands_of s).hand ≡ []
  pub at : (stands_of s).place ≡ NotifyingOne h (O7 ticket)
  pub next_is : next ≡ word_of (setting_of s).first (one_granted (guarded_of s)).passed
  pub has : HasGuarded s (one_granted (guarded_of s))

abbrev pub grant_rows : ℕ → ℕ → List (ListPlace × ℕ)
grant_rows h ticket = (NotifyingOne h (O7 ticket), ticket) ∷ (NotifyingOne h (O8 ticket), 1) ∷ []

-- the ticket was granted, and its wait wasn't in the list or was granted. It was the least that wasn't
-- granted
pub record GrantedOne (s : Token) (h ticket : ℕ) (t : Token) : Type 0 where
  pub before : List ListEntry
  pub later : GoesOn before (seen_of s)
  pub seen : GoesOn (seen_of t) (before ++ Granted ((told before).passed + 1) s.me.0.own.number ∷ [])
  pub handed : (told before).passed < (told before).handed
  pub word_is : ticket ≡ word_of (setting_of s).first (told before).passed
  pub bare : t.me.1 ≡ []
  pub walked :
      Walked s (stands_of s) t (at_place Rest (stands_of s))
      (Granted ((told before).passed + 1) s.me.0.own.number ∷ [])
      (grant_rows h ticket)
      ⊎ Walked s (stands_of s) t (at_place Rest (stands_of s))
      (Granted ((told before).passed + 1) s.me.0.own.number ∷ [])
      (grant_rows h ticket ++ grants_it h)

-- what the last stride of a seat of this list was, which granted the ticket
abbrev pub GrantsLast : ListModel → ℕ → Option ℕ → Token → Type 0
GrantsLast l ticket waiter t = GivesLast l.setting.seats ticket waiter t.me.0.own.gone

abbrev pub HasGranted : ListModel → Option Notified → Token → Type 0
HasGranted l None t = Unit {0}
HasGranted l (Some n) t = GrantsLast l n.ticket n.seat t

-- the seat s of this list, which had found two different words, has taken the lock
pub record MayNotify (l : ListModel) (s : Token) (n h : ℕ) (t : Token) : Type 0 where
  pub seat : IsSeat s n
  pub at : (stands_of s).place ≡ NotifyingOne h O3
  pub list_is : list_of s ≡ l
  pub locked : Locked s t
