-- The record while a seat holds the lock.
use Rattle.std.proofs.Common.{◌≡◌, ℕ, ◌+◌, ◌==◌, if◌then◌else◌, Bool, true, false, List, [], ◌∷◌, ◌++◌, length, length-append, Option, Some, None}
use Rattle.std.proofs.Common.{IsSome, unwrap_or, sym, refl, ap}
use Rattle.std.proofs.Common.{◌∙◌, subst, arith}
use Rattle.std.proofs.lemmas.List.{map-append}
use Rattle.running_rows.specs.Table.{rest}
use Rattle.running_rows.specs.Lent.{seat_with}
use Rattle.waiters.specs.declared.wait.Wait.{Wait}
use Rattle.waiters.specs.Lists.{Lists, IsOpen, waits_at, Changes, first_with, without_first}
use Rattle.step_table.specs.ListErased.{erased_wait}
use Rattle.step_law_lists.proofs.ListErasing.{erased_found, first_erased, without_erased}
use Rattle.notify_list.specs.declared.view.Record.{Record}
use Rattle.step_table.specs.ListWorld.{ListSeat, ListWorld}
use Rattle.step_table.specs.ListTable.{list_table}
use Rattle.step_law_lists.specs.ListLawful.{holds}
use Rattle.notify_list.specs.declared.view.Setting.{Setting}
use Rattle.notify_list.specs.Rule.{Guarded, guarded_in, guarded_after, IsRecord}
use Rattle.notify_list.specs.Seats.{ListModel, Token, list_of, guarded_of, queue_of, with_queue, setting_of, stands_of}
use Rattle.notify_list.specs.Walks.{HasRecord, Edited}
use Rattle.notify_list.proofs.Keeping.{Fits}
use Rattle.notify_list.proofs.Allowing.{GivesBack, gives_at}
use Rattle.notify_list.specs.Records.{IsOut, HasGuarded}
use Rattle.notify_list.specs.declared.notify_list.NotifyList.TheInside.{Inside}
use Rattle.notify_list.specs.Shared.{list_by}

-- the seat may edit the record that it holds
pub may_edit : (x : Inside) (s : Token) (g : Guarded) {l : ListModel} → list_by x ≡ l → list_of s ≡ l → HasGuarded s g
    → (s.table_id ≡ x.words.table.shared.table_id) × ((old : Record) × (s.me.1 ≡ (0, old) ∷ rest s.me.1))
may_edit x s g is own h = (ap (λ (l : ListModel). l.id) (own ∙ sym is), (h.0, h.1 ∙ (λ i. (0, h.0) ∷ rest (sym h.1 i))))

-- what is lent is the record
pub lent_record : (s : Token) (lent : Record) → HasRecord s → s.me.1 ≡ (0, lent) ∷ rest s.me.1 → IsRecord (setting_of s) lent (guarded_of s)
lent_record s lent h value = subst (λ (y : Record). IsRecord (setting_of s) y (guarded_of s)) (ap (first_of h.0) (sym h.1 ∙ value)) h.2
  where
    first_of : Record → List (ℕ × Record) → Record
    first_of y [] = y
    first_of y (x ∷ l) = x.1

-- the record is written back to its slot
pub edited : (s : Token) (y : Record) (g : Guarded) → HasRecord s → IsRecord (setting_of s) y g → Edited s g (seat_with s 0 y)
edited s y g h made = (refl, (y, (λ i. (s.me.0, (0, y) ∷ rest (h.1 i))), made))

length_without : (t : ℕ) (l : List Wait) (x : Wait) → first_with t l ≡ Some x → length (without_first t l) + 1 ≡ length l
length_without t [] x e = absurd cc
length_without t (y ∷ l) x e = by (y.ticket == t) e (length_without t l x)
  where
    by : (b : Bool) → (if b then Some y else first_with t l) ≡ Some x → (first_with t l ≡ Some x → length (without_first t l) + 1 ≡ length l)
        → length (if b then l else y ∷ without_first t l) + 1 ≡ length (y ∷ l)
    by true q more = omega arith
    by false q more = let a = more q in omega arith

-- a list that changed so is open, and has these waits
pub changed_open : (y : Lists) (z : Lists) (key : ℕ) (l : List Wait) → Changes y z key (Some l) → IsOpen z key × (waits_at z key ≡ l)
changed_open y z key l c = (subst IsSome (sym c.there) refl, ap (λ o. unwrap_or o []) c.there)

-- no wait has the ticket
pub out_none : (s : Token) (y : Record) (lists : Lists) (ticket : ℕ) → HasRecord s → IsRecord (setting_of s) y (guarded_of s)
    → None ≡ first_with ticket (waits_at y.lists y.key) → lists ≡ y.lists
    → IsOut s ticket None (seat_with s 0 (record y { lists = lists }))
out_none s y lists ticket h is first same = (
  by (first_with ticket (queue_of s)) (first ∙ ap (first_with ticket) is.waits ∙ first_erased ticket (queue_of s)),
  edited s (record y { lists = lists }) (guarded_of s) h
      (subst (λ (l : Lists). IsRecord (setting_of s) (record y { lists = l }) (guarded_of s)) (sym same) is),
)
  where
    by : (f : Option Wait) → None ≡ erased_found f → f ≡ None
    by None e = refl
    by (Some x) e = absurd cc

-- the first with the ticket was taken out
pub out_some : (s : Token) (y : Record) (lists : Lists) (ticket seat : ℕ) (wait : Wait) → HasRecord s → IsRecord (setting_of s) y (guarded_of s)
    → Some wait ≡ first_with ticket (waits_at y.lists y.key)
    → Changes y.lists lists y.key (Some (without_first ticket (waits_at y.lists y.key))) → lists.room ≡ y.lists.room + 1 → seat ≡ wait.id.seat
    → IsOut s ticket (Some seat) (seat_with s 0 (record y { lists = lists }))
out_some s y lists ticket seat wait h is first change room same =
    by (first_with ticket (queue_of s)) refl (first ∙ ap (first_with ticket) is.waits ∙ first_erased ticket (queue_of s))
  where
    by : (f : Option Wait) → first_with ticket (queue_of s) ≡ f → Some wait ≡ erased_found f
        → IsOut s ticket (Some seat) (seat_with s 0 (record y { lists = lists }))
    by None e b = absurd cc
    by (Some x) e b =
        let is_it : wait ≡ erased_wait x = cc in
        let c = changed_open y.lists lists y.key (without_first ticket (waits_at y.lists y.key)) change in (
          x,
          e,
          ap (λ (w : Wait). w.id.seat) (sym is_it) ∙ sym same,
          edited s (record y { lists = lists }) (with_queue (without_first ticket (queue_of s)) (guarded_of s)) h (record {
            opened = c.0;
            waits = c.1 ∙ ap (without_first ticket) is.waits ∙ without_erased ticket (queue_of s);
            room = let a = is.room in let l = length_without ticket (queue_of s) x e in omega (arith, room);
            live = is.live;
            fits = is.fits;
            early = is.early;
          }),
        )

-- a wait was put in
pub put_in : (s : Token) (y : Record) (lists : Lists) (wait w : Wait) → erased_wait w ≡ wait → HasRecord s → IsRecord (setting_of s) y (guarded_of s)
    → Changes y.lists lists y.key (Some (waits_at y.lists y.key ++ wait ∷ [])) → lists.room + 1 ≡ y.lists.room
    → Edited s (with_queue (queue_of s ++ w ∷ []) (guarded_of s)) (seat_with s 0 (record y { lists = lists }))
put_in s y lists wait w same h is change room =
    let c = changed_open y.lists lists y.key (waits_at y.lists y.key ++ wait ∷ []) change in
    edited s (record y { lists = lists }) (with_queue (queue_of s ++ w ∷ []) (guarded_of s)) h (record {
      opened = c.0;
      waits = c.1 ∙ (λ i. is.waits i ++ sym same i ∷ []) ∙ sym (map-append erased_wait (queue_of s) (w ∷ []));
      room = let a = is.room in let l = length-append (queue_of s) (w ∷ []) in omega (arith, room);
      live = is.live;
      fits = is.fits;
      early = is.early;
    })

-- a row that leaves the list of waits leaves the record
pub record_kept : (s t : Token) → HasRecord s → t.me.1 ≡ s.me.1 → setting_of t ≡ setting_of s → guarded_of t ≡ guarded_of s → HasRecord t
record_kept s t h slots setting guarded =
    (h.0, slots ∙ h.1, subst (λ (q : Setting × Guarded). IsRecord q.0 h.0 q.1) (λ i. (sym setting i, sym guarded i)) h.2)

-- it is of the list still
pub list_edited : (s t : Token) (g : Guarded) → Edited s g t → list_of t ≡ list_of s
list_edited s t g E = λ i. record { id = E.0 i; setting = (E.1.1 i).0.own.knows.setting }

-- the lock may be given back with what the row makes of what lies under it
pub gives_edited : (k : Setting) (s t : Token) (a : ListSeat) → stands_of s ≡ a → (g : Guarded) → Edited s g t → holds a.place ≡ 1
    → ((w : ListWorld) → guarded_of s ≡ guarded_in w.words → Fits (setting_of s) (list_table s.me.0.own.number a w.words) 2 1 0
    × (guarded_after ((list_table s.me.0.own.number a w.words).leads 1).1 w.words ≡ g))
    → GivesBack k t.me
gives_edited k s t a is g E holding ready =
    subst (GivesBack k) (sym E.1.1)
    (gives_at k (s.me.0, (0, E.1.0) ∷ []) a is E.1.0 refl holding
    (λ w e. let r = ready w e in record { fits = r.0; is_record = subst (IsRecord (setting_of s) E.1.0) (sym r.1) E.1.2 }))

-- and where the row leaves it
pub gives_plain : (k : Setting) (s : Token) (a : ListSeat) → stands_of s ≡ a → HasRecord s → holds a.place ≡ 1
    → ((w : ListWorld) → Fits (setting_of s) (list_table s.me.0.own.number a w.words) 2 1 0
    × (guarded_after ((list_table s.me.0.own.number a w.words).leads 1).1 w.words ≡ guarded_in w.words))
    → GivesBack k s.me
gives_plain k s a is h holding ready =
    gives_at k s.me a is h.0 h.1 holding
    (λ w e. let r = ready w in record { fits = r.0; is_record = subst (IsRecord (setting_of s) h.0) (e ∙ sym r.1) h.2 })
