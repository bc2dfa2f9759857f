-- A seat of a list, and where the list's words lie for it.
use Rattle.std.proofs.Common.{◌≡◌, ℕ, Bool, ◌+◌, ◌<◌, ◌≤◌, inl, inr, sym, ap, ◌∙◌, subst, arith}
use Rattle.notify_list.specs.declared.notify_list.NotifyList.TheInside.{Inside}
use Rattle.notify_list.specs.Seats.{ListModel, SeatModel, Token, list_of, seat_of}
use Rattle.notify_list.specs.Shared.{IsList, list_by}
use Rattle.running_rows.specs.Rule.{IsSomeones}
use Rattle.running_rows.specs.Futex.{lock_at, grant_at}
use Rattle.running_rows.specs.Owing.{IsAside, IsPlain}
use Rattle.notify_list.specs.Setting.{asleep_address, sleepers_address}
use Rattle.notify_list.specs.Futexes.{IsFutex}
use Rattle.notify_list.proofs.Words.{wakes_aside}
use Rattle.notify_list.proofs.Futexes.{plain_high}
use Rattle.notify_list.specs.Rows.{list_rows}

abbrev pub Made : Inside → Type 0
Made x = IsList (list_by x).id (list_by x).setting x.seats x.first

-- the seat's list is this one
pub own : (x : Inside) (s : Token) (n : ℕ) {l : ListModel} {seat : SeatModel} → list_by x ≡ l → seat_of s n ≡ seat
    → seat.list ≡ l → list_of s ≡ list_by x
own x s n is seen of = ap (λ (y : SeatModel). y.list) seen ∙ of ∙ sym is

-- a word before the first word of the sleepers lies in the list
pub low_word : (x : Inside) → Made x → (i : ℕ) → i < 3 → i < x.words.table.shared.table_id.words
low_word x made i low = let w = made.words in omega arith

pub grant_low : (x : Inside) → Made x → (i : ℕ) → i < x.words.table.shared.key.seats → 3 + i < x.words.table.shared.table_id.words
grant_low x made i low = let w = made.words in omega arith

-- what holds of a list whose threads sleep, or don't, holds of its words
pub serves : (x : Inside) {t : ListModel} → list_by x ≡ t → (Serves : Bool → Type 0) → Serves t.setting.has_threads
    → Serves (list_by x).setting.has_threads
serves x is Serves = subst (λ (y : ListModel). Serves y.setting.has_threads) (sym is)

-- a seat of the list may step
pub owned : (x : Inside) → Made x → (s : Token) → list_of s ≡ list_by x
    → (s.table_id ≡ x.words.table.shared.table_id) × IsSomeones list_rows s.me.0
owned x made s own = (
  ap (λ (y : ListModel). y.id) own,
  subst (λ (y : ListModel). 0 < y.setting.seats) (sym own) (let a = made.some in let c = made.seated in omega arith),
)

-- the count of who sleeps at the lock lies there, and is that of the lock's futex
pub lock_futex : (x : Inside) {t : ListModel} {i : ℕ} → list_by x ≡ t → i ≡ sleepers_address t.setting → i < t.id.words
    → (i < x.words.table.shared.table_id.words) × IsFutex x.words.table.shared.key (lock_at 2 i)
lock_futex x is at low = (
  (let w = ap (λ (y : ListModel). y.id.words) is in omega arith),
  inl (ap (lock_at 2) (at ∙ ap (λ (y : ListModel). sleepers_address y.setting) (sym is))),
)

-- so is that of who sleeps at a seat's grant
pub grant_futex : (x : Inside) {t : ListModel} {word i : ℕ} (s : ℕ) → list_by x ≡ t → s < t.setting.seats → word ≡ 3 + s
    → i ≡ asleep_address t.setting s → i < t.id.words
    → (i < x.words.table.shared.table_id.words) × IsFutex x.words.table.shared.key (grant_at word i)
grant_futex x s is there at beside low = (
  (let w = ap (λ (y : ListModel). y.id.words) is in omega arith),
  inr (
    s,
    (let w = ap (λ (y : ListModel). y.setting.seats) is in omega arith),
    (λ j. grant_at (at j) ((beside ∙ ap (λ (y : ListModel). asleep_address y.setting s) (sym is)) j)),
  ),
)

-- a word of which the world knows nothing, and no futex uses
pub beside : (x : Inside) {t : ListModel} {i : ℕ} → list_by x ≡ t → asleep_address t.setting t.setting.seats ≤ i → i < sleepers_address t.setting
    → IsAside list_rows x.words.table.shared.key i × IsPlain list_rows x.words.table.shared.key i
beside x {i = i} is from to = let w = ap (λ (y : ListModel). y.setting.seats) is in
    (wakes_aside x.words.table.shared.key i (omega arith), plain_high x.words.table.shared.key i (omega arith) (omega arith))
