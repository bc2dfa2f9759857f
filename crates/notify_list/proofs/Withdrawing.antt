-- A seat's own wait is taken out of the list.
use Rattle.std.proofs.Common.{◌≡◌, ℕ, ◌+◌, ◌<◌, ◌==◌, ◌||◌, if◌then◌else◌, Bool, true, false, List, [], ◌∷◌, length, Some, None}
use Rattle.std.proofs.Common.{refl, sym, ap, ◌∙◌, subst, arith}
use Rattle.running_rows.specs.Lent.{seat_with}
use Rattle.waiters.specs.declared.wait.Wait.{Wait}
use Rattle.waiters.specs.declared.sought.Sought.TheVariants.{Seat}
use Rattle.waiters.specs.Lists.{Lists, waits_at, Changes, is_sought, first_sought, without_sought}
use Rattle.step_table.specs.ListErased.{erased_wait, erased_waits}
use Rattle.step_table.specs.ListWorld.{is_queued, without_seat}
use Rattle.step_law_lists.specs.ListLawful.{times}
use Rattle.step_law_lists.proofs.ListErasing.{queued_erased, seat_erased}
use Rattle.step_law_lists.proofs.ListPlacing.{one_here}
use Rattle.notify_list.specs.declared.view.Record.{Record}
use Rattle.notify_list.specs.Rule.{Guarded, IsRecord}
use Rattle.notify_list.specs.Seats.{Token, setting_of, with_queue}
use Rattle.notify_list.specs.Records.{HasGuarded, OwnOut}
use Rattle.notify_list.proofs.Leading.{equal_is}
use Rattle.notify_list.proofs.Recording.{changed_open}
use Rattle.notify_list.proofs.Emptying.{written_back}

none_of : (seat : ℕ) (l : List Wait) → None ≡ first_sought (is_sought (Seat seat)) l → is_queued seat l ≡ false
none_of seat [] e = refl
none_of seat (w ∷ l) e = by (w.id.seat == seat) e (none_of seat l)
  where
    by : (b : Bool) → None ≡ (if b then Some w else first_sought (is_sought (Seat seat)) l)
        → (None ≡ first_sought (is_sought (Seat seat)) l → is_queued seat l ≡ false) → b || is_queued seat l ≡ false
    by true e rest = absurd cc
    by false e rest = rest e

without_own : (seat : ℕ) (l : List Wait) → without_sought (is_sought (Seat seat)) l ≡ without_seat seat l
without_own seat [] = refl
without_own seat (w ∷ l) = ap (λ z. if w.id.seat == seat then l else w ∷ z) (without_own seat l)

-- the first wait of the seat, as the record has it
abbrev IsOwn : ℕ → List Wait → Wait → Type 0
IsOwn seat l wait =
    (is_queued seat l ≡ true) × (length (without_seat seat l) + 1 ≡ length l)
    × ((w : Wait) × (0 < times w l) × (w.id.seat ≡ seat) × (wait ≡ erased_wait w))

some_of : (seat : ℕ) (l : List Wait) (wait : Wait) → Some wait ≡ first_sought (is_sought (Seat seat)) (erased_waits l) → IsOwn seat l wait
some_of seat [] wait e = absurd cc
some_of seat (w ∷ l) wait e = by (w.id.seat == seat) refl e (some_of seat l wait)
  where
    by : (b : Bool) → (w.id.seat == seat) ≡ b → Some wait ≡ (if b then Some (erased_wait w) else first_sought (is_sought (Seat seat)) (erased_waits l))
        → (Some wait ≡ first_sought (is_sought (Seat seat)) (erased_waits l) → IsOwn seat l wait)
        → (b || is_queued seat l ≡ true) × (length (if b then l else w ∷ without_seat seat l) + 1 ≡ length (w ∷ l))
        × ((x : Wait) × (0 < times x (w ∷ l)) × (x.id.seat ≡ seat) × (wait ≡ erased_wait x))
    by true is e rest = (refl, omega arith, (w, (let here = one_here w in omega arith), equal_is w.id.seat seat is, cc))
    by false is e rest =
        let r = rest e in (r.0, (let few = r.1 in omega arith), (r.2.0, (let some = r.2.1 in omega arith), r.2.2, r.2.3))

-- no wait is the seat's
pub own_none : (s : Token) (y : Record) (lists : Lists) (g : Guarded) (seat : ℕ) → HasGuarded s g → IsRecord (setting_of s) y g
    → None ≡ first_sought (is_sought (Seat seat)) (waits_at y.lists y.key) → lists ≡ y.lists
    → OwnOut s g seat None (seat_with s 0 (record y { lists = lists }))
own_none s y lists g seat h is first same = (
  sym (queued_erased seat g.queue) ∙ none_of seat (erased_waits g.queue) (first ∙ ap (first_sought (is_sought (Seat seat))) is.waits),
  written_back s (record y { lists = lists }) g g h (subst (λ (l : Lists). IsRecord (setting_of s) (record y { lists = l }) g) (sym same) is),
)

-- one is, and was taken out
pub own_some : (s : Token) (y : Record) (lists : Lists) (g : Guarded) (seat ticket : ℕ) (wait : Wait) → HasGuarded s g → IsRecord (setting_of s) y g
    → Some wait ≡ first_sought (is_sought (Seat seat)) (waits_at y.lists y.key)
    → Changes y.lists lists y.key (Some (without_sought (is_sought (Seat seat)) (waits_at y.lists y.key))) → lists.room ≡ y.lists.room + 1
    → ticket ≡ wait.ticket → OwnOut s g seat (Some ticket) (seat_with s 0 (record y { lists = lists }))
own_some s y lists g seat ticket wait h is first change room same =
    let own = some_of seat g.queue wait (first ∙ ap (first_sought (is_sought (Seat seat))) is.waits) in
    let c = changed_open y.lists lists y.key (without_sought (is_sought (Seat seat)) (waits_at y.lists y.key)) change in (
      own.0,
      (own.2.0, own.2.1, own.2.2, ap (λ (w : Wait). w.ticket) (sym own.2.3) ∙ sym same),
      written_back s (record y { lists = lists }) g (with_queue (without_seat seat g.queue) g) h (record {
        opened = c.0;
        waits = c.1 ∙ ap (without_sought (is_sought (Seat seat))) is.waits ∙ without_own seat (erased_waits g.queue) ∙ seat_erased seat g.queue;
        room = let a = is.room in let few = own.1 in omega (arith, room);
        live = is.live;
        fits = is.fits;
        early = is.early;
      }),
    )
