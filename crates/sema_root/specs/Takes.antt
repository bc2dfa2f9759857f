-- What it comes to that a wait is taken out: of its list, and of the queue that it is.
use Rattle.std.specs.Prelude.{◌≡◌, ℕ, ◌+◌, List, drop, Option, Some, IfNone, OnSome, slice_get}
use Rattle.waiters.specs.declared.wait.Wait.{Wait}
use Rattle.waiters.specs.Lists.{Lists, waits_at, is_sought, first_sought, without_sought}
use Rattle.waiters.specs.Lists.{Changes as ListChanges}
use Rattle.sema_root.specs.declared.which.Which.{Which}
use Rattle.sema_root.specs.declared.which.Which.TheVariants.{First, Of}
use Rattle.sema_root.specs.Queues.{waits_on, total, AreQueues, Changes}

-- the wait that is meant
abbrev pub taken_by : Which → List Wait → Option Wait
taken_by First waits = slice_get waits 0
taken_by (Of sought) waits = first_sought (is_sought sought) waits

-- the list without it
abbrev pub left_by : Which → List Wait → List Wait
left_by First waits = drop 1 waits
left_by (Of sought) waits = without_sought (is_sought sought) waits

-- it left this list, if it was in
pub record Takes (old new : Lists) (key : ℕ) (which : Which) (taken : Option Wait) : Type 0 where
  pub first : taken ≡ taken_by which (waits_at old key)
  pub rest : ListChanges old new key (Some (left_by which (waits_at old key)))
  pub room : OnSome taken (new.room ≡ old.room + 1)
  pub none : IfNone taken (new ≡ old)
  pub list_room : new.list_room ≡ old.list_room

-- it left the queue of this counter, if it was in
pub record TakesOut (old new : List (ℕ × List Wait)) (counter : ℕ) (which : Which) (taken : Option Wait)
    : Type 0 where
  pub first : taken ≡ taken_by which (waits_on old counter)
  pub rest : Changes old new counter (left_by which (waits_on old counter))
  pub count : OnSome taken (total new + 1 ≡ total old)
  pub queues : AreQueues new
