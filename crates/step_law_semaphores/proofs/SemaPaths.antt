-- What a path of a seat of semaphores tells by what was seen alone, since every reached world is lawful.
use Rattle.std.proofs.Common.{◌≡◌, ◌≢◌, ℕ, ◌<◌, IsTrue, false, cond, List, [], ◌∷◌, ◌++◌, inl, inr, refl, sym, ap, ◌∙◌, subst}
use Rattle.std.proofs.Common.{append-nil, ne_eqb}
use Rattle.std.proofs.lemmas.List.{append_cancel_left}
use Rattle.std.proofs.lemmas.List.Elements.{filter-append}
use Rattle.std.specs.List.{filter}
use Rattle.step_table.specs.declared.effect.Effect.{Effect}
use Rattle.step_table.specs.declared.effect.Effect.TheVariants.{Nothing, Tells, Wakes}
use Rattle.waiters.specs.declared.wait.WaitId.{WaitId}
use Rattle.step_table.specs.declared.entry.Entry.{Entry}
use Rattle.step_table.specs.declared.entry.Entry.TheVariants.{Add, AddMany, Take, Queue, Leave, Ticket, Grant, Forgo, Withdraw}
use Rattle.step_table.specs.declared.place.Place.{Place}
use Rattle.step_table.specs.declared.place.Place.TheVariants.{Acquiring, Releasing, ReleasingMany}
use Rattle.step_table.specs.declared.word.Word.{Word}
use Rattle.step_table.specs.declared.word.Word.TheVariants.{Counter}
use Rattle.step_table.specs.World.{Layout, SemaWorld, SeatState, found, journal_after, seat_after}
use Rattle.step_table.specs.Event.{Event, Next}
use Rattle.step_table.specs.Table.{table}
use Rattle.step_table.specs.Journal.{Plain, plain, plain_start, replay, IsLawful}
use Rattle.step_table.specs.Steps.{turn, choose, Choice, Step, IsReached, event_of, finds, can_turn, turned, moved}
use Rattle.step_table.specs.Turn.{more}
use Rattle.step_law_semaphores.specs.Lawful.{IsLawfulWorld}
use Rattle.step_table.specs.Path.{Deed, runs, looks, sight, Meets, Did}
use Rattle.step_law_semaphores.specs.SemaPath.{SemaSight, SemaStride, semaphores, SemaRan, plain_before, row_event, row_next, word_of_deed, word_of_stride}
use Rattle.step_law_semaphores.specs.SemaPath.{entries_of, is_own, row_stride, placed, SemaDid, TheSemaPaths}
use Rattle.step_table.proofs.Sums.{put_here, put_else}
use Rattle.step_law_semaphores.specs.Entries.{IsOwnAt, TellsOwn}
use Rattle.step_law_semaphores.proofs.Promises.{the_law, reached}
use Rattle.step_law_semaphores.proofs.Owning.{told}
use Rattle.step_table.proofs.Paths.{goes_on_more, goes_on_by, row_ran, are_paths}
use Rattle.step_table.specs.declared.place.AcquireRow.TheVariants.{Parked}

pub journal_told : (effect : Effect) (journal : List Entry) → journal_after effect journal ≡ journal ++ entries_of effect
journal_told (Tells e) journal = refl
journal_told Nothing journal = sym (append-nil journal)
journal_told Wakes journal = sym (append-nil journal)

abbrev next_in : Layout → SemaWorld → ℕ → Next
next_in m s i = (event_of s i).leads (finds m.root s i)

pub sema_rows : (m : Layout) (s : SemaWorld) (i : ℕ) (v : SemaSight) → Meets (semaphores m) s i v → IsTrue (can_turn m.root s i)
    → SemaRan m i v (row_stride m s i) (sight (semaphores m) (turned m.root s i) i)
sema_rows m s i v meets can =
    row_ran (semaphores m) i s v (entries_of (next_in m s i).1) meets can (journal_told (next_in m s i).1 s.journal)

pub sema_begins : (m : Layout) (s : SemaWorld) (i : ℕ) (v : SemaSight) (place : Place) → i < m.seats → Meets (semaphores m) s i v
    → Choice m.counters v.stands.place place → Meets (semaphores m) (moved s i place) i (placed place v)
sema_begins m s i v place in_range meets choice = record {
  met = more i in_range meets.met (choose (subst (λ (z : SeatState). Choice m.counters z.place place) (sym meets.stands) choice));
  stands =
      put_here s.seats i (record (s.seats i) { place = place })
      ∙ ap (λ (z : SeatState). record z { place = place }) meets.stands;
  later = meets.later;
  quiet = meets.quiet;
}

-- what is one seat's own, no other seat alone can tell
not_its : (i j n : ℕ) (hand : List WaitId) (p : Place) (e : Entry) → j ≢ i → IsOwnAt i n hand p e → is_own j e ≡ false
not_its i j n hand p (Take c s) ne own = refl
not_its i j n hand p (Ticket l s) ne own = refl
not_its i j n hand p (Grant l upto s) ne own = refl
not_its i j n hand p (Forgo l k s) ne own = refl
not_its i j n hand (Acquiring a row) (Queue c w lifo) ne own = ne_eqb w.seat j (λ q. ne (sym q ∙ ap (λ (x : WaitId). x.seat) own.1))
not_its i j n hand (Releasing r row) (Add c s) ne own = ne_eqb s j (λ q. ne (sym q ∙ own.1))
not_its i j n hand (Releasing r row) (Leave c w s) ne own = ne_eqb s j (λ q. ne (sym q ∙ own.1))
not_its i j n hand (ReleasingMany r row) (AddMany c u s) ne own = ne_eqb s j (λ q. ne (sym q ∙ own.2))
not_its i j n hand (ReleasingMany r row) (Leave c w s) ne own = ne_eqb s j (λ q. ne (sym q ∙ own.1))
not_its i j n hand (Acquiring a (Parked u row)) (Withdraw c w) ne own = ne_eqb w.seat j (λ q. ne (sym q ∙ ap (λ (x : WaitId). x.seat) own.1))
not_its i j n hand p e ne own = absurd own

silent : (i j : ℕ) (s t : SemaWorld) → j ≢ i → TellsOwn i s t → filter (is_own j) t.journal ≡ filter (is_own j) s.journal
silent i j s t ne (inl same) = ap (filter (is_own j)) same
silent i j s t ne (inr (e, is, own)) =
    ap (filter (is_own j)) is ∙ filter-append (is_own j) s.journal (e ∷ [])
    ∙ ap (λ b. filter (is_own j) s.journal ++ cond b (e ∷ []) []) (not_its i j (s.seats i).turn (s.seats i).hand (s.seats i).place e ne own)
    ∙ append-nil (filter (is_own j) s.journal)

pub sema_others : (m : Layout) (s t : SemaWorld) (i j : ℕ) (v : SemaSight) → i < m.seats → j ≢ i → Step m s i t
    → Meets (semaphores m) s j v → Meets (semaphores m) t j v
sema_others m s t i j v in_range ne step meets = by step
  where
    by : {u : SemaWorld} → Step m s i u → Meets (semaphores m) u j v
    by (choose {place} choice) = record {
      met = more i in_range meets.met (choose choice);
      stands = put_else s.seats i (record (s.seats i) { place = place }) j ne ∙ meets.stands;
      later = meets.later;
      quiet = meets.quiet;
    }
    by (turn row) = subst (λ (x : SemaWorld). Meets (semaphores m) x j v) (sym row.is) turned_meets
      where
        turned_meets : Meets (semaphores m) (turned m.root s i) j v
        turned_meets = record {
          met = more i in_range meets.met (turn (record { can = row.can; is = refl }));
          stands =
              put_else s.seats i (seat_after (next_in m s i).1 (next_in m s i).0 (s.seats i)) j ne
              ∙ meets.stands;
          later =
              let effect : Effect = (next_in m s i).1 in
              goes_on_more v.seen s.journal (turned m.root s i).journal meets.later
              (goes_on_by (turned m.root s i).journal s.journal (entries_of effect) (journal_told effect s.journal));
          quiet =
              silent i j s (turned m.root s i) ne
              (told m s (turned m.root s i) i in_range (reached m s meets.met) (turn (record { can = row.can; is = refl })))
              ∙ meets.quiet;
        }

module _ (m : Layout) (i : ℕ) (v w : SemaSight) (p : SemaStride) (r : SemaRan m i v p w) where
  abbrev s : SemaWorld
  s = r.world

  is_lawful : IsLawfulWorld m s
  is_lawful = the_law.reached m s r.meets.met

  plain_is : plain_before m p ≡ plain s.words
  plain_is = ap (λ l. replay (plain_start m.starts) l) r.seen ∙ sym is_lawful.journal.0

  stood_is : p.stood ≡ s.seats i
  stood_is = r.stood ∙ sym r.meets.stands

  event_is : row_event m i p ≡ event_of s i
  event_is = λ j. table i (stood_is j) (plain_is j).lists

  pub sema_reads : (c : ℕ) → word_of_stride m i p ≡ Counter c → p.read ≡ (plain_before m p).numbers c
  sema_reads c = by p.deed r.did
    where
      number_is : s.words.numbers c ≡ (plain_before m p).numbers c
      number_is = ap (λ (x : Plain). x.numbers c) (sym plain_is)

      by : (d : Deed Word) → Did (semaphores m) s i d p.read p.told w → word_of_deed m i p d ≡ Counter c → p.read ≡ (plain_before m p).numbers c
      by runs did on =
          did.read_is ∙ ap (λ (e : Event). found m.root s.words e.word) (sym event_is) ∙ ap (found m.root s.words) on ∙ number_is
      by (looks x) did on = did.read_is ∙ ap (found m.root s.words) on ∙ number_is

  pub sema_does : SemaDid m i p w p.deed
  sema_does = by p.deed r.did
    where
      by : (d : Deed Word) → Did (semaphores m) s i d p.read p.told w → SemaDid m i p w d
      by runs did =
          let next_is : row_next m i p ≡ (event_of s i).leads (finds m.root s i) = λ j. (event_is j).leads (did.read_is j) in
          let can_is : (row_event m i p).can p.read ≡ can_turn m.root s i = λ j. (event_is j).can (did.read_is j) in
          let next : Next = (event_of s i).leads (finds m.root s i) in
          record {
            can = subst IsTrue (sym can_is) did.can;
            told =
                append_cancel_left s.journal p.told (entries_of next.1) (sym did.told_is ∙ journal_told next.1 s.journal)
                ∙ ap (λ (n : Next). entries_of n.1) (sym next_is);
            leads =
                ap (λ (z : SemaSight). z.stands) did.leads
                ∙ put_here s.seats i (seat_after next.1 next.0 (s.seats i))
                ∙ (λ j. seat_after (sym next_is j).1 (sym next_is j).0 (sym stood_is j));
          }
      by (looks x) did = record { told = did.told_is; leads = ap (λ (z : SemaSight). z.stands) did.leads ∙ sym stood_is }

  pub sema_lawful : IsLawful (plain_start m.starts) p.seen
  sema_lawful = subst (IsLawful (plain_start m.starts)) (sym r.seen) is_lawful.journal.1

  pub sema_ends : i < m.seats → (t : SemaWorld) × IsReached m t × (w ≡ sight (semaphores m) t i)
  sema_ends in_range = by p.deed r.did
    where
      by : (d : Deed Word) → Did (semaphores m) s i d p.read p.told w → (t : SemaWorld) × IsReached m t × (w ≡ sight (semaphores m) t i)
      by runs did = (turned m.root s i, more i in_range r.meets.met (turn (record { can = did.can; is = refl })), did.leads)
      by (looks x) did = (s, r.meets.met, did.leads)

pub the_sema_paths : TheSemaPaths
the_sema_paths = record {
  paths = λ m. are_paths (semaphores m);
  begins = sema_begins;
  rows = sema_rows;
  others = sema_others;
  reads = λ m i c v w p r on. sema_reads m i v w p r c on;
  does = sema_does;
  lawful = sema_lawful;
  ends = λ m i v w p in_range r. sema_ends m i v w p r in_range;
}
