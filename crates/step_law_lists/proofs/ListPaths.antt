-- What a path of a seat of a notify list tells by what was seen alone, since every reached world is lawful.
use Rattle.std.proofs.Common.{◌≡◌, ◌≢◌, ℕ, ◌<◌, IsTrue, Some, None, List, ◌∷◌, [], ◌++◌, map, refl, sym, ap, ◌∙◌, subst}
use Rattle.std.proofs.Common.{append-nil, cond, ne_eqb}
use Rattle.std.proofs.lemmas.List.{append_cancel_left}
use Rattle.std.proofs.lemmas.List.Elements.{filter-append}
use Rattle.std.specs.List.{filter}
use Rattle.step_table.specs.declared.list_place.AllRow.TheVariants.{L1, L2, L3, L4, L5, L6, L7, L8}
use Rattle.step_table.specs.declared.list_place.ListEffect.{ListEffect}
use Rattle.step_table.specs.declared.list_place.ListEffect.TheVariants.{HandsOut, Grants, Forgoes}
use Rattle.step_table.specs.declared.list_place.ListParkedRow.TheVariants.{P, E1, E2, E3, E5}
use Rattle.step_table.specs.declared.list_place.WaitRow.TheVariants.{W1, W2, W3, W4, E4, Parked}
use Rattle.step_table.specs.declared.list_place.ListPlace.{ListPlace}
use Rattle.step_table.specs.declared.list_place.ListPlace.TheVariants.{Rest, Adding, Waiting, NotifyingOne, NotifyingAll}
use Rattle.step_table.specs.declared.list_place.ListWord.{ListWord}
use Rattle.step_table.specs.declared.list_place.ListWord.TheVariants.{Wait, Notify}
use Rattle.step_table.specs.declared.list_place.Ticket.{Ticket}
use Rattle.step_table.specs.declared.list_place.OneRow.TheVariants.{O1, O2, O3, O4, O5, O6, O7, O8, O9}
use Rattle.step_table.specs.Wrapping.{word_of}
use Rattle.step_table.specs.World.{put}
use Rattle.step_table.specs.ListWorld.{Numbers, ListWords, ListSeat, ListEntry, Took, Granted, Forgone, ListWorld, found, journal_after, first_list}
use Rattle.step_table.specs.ListEvent.{ListNext, ListEvent}
use Rattle.step_table.specs.ListTable.{list_event_at, list_table}
use Rattle.step_law_lists.specs.ListLawful.{told, Follows, IsInReach}
use Rattle.step_law_lists.specs.ListInvariant.{IsListInvariant}
use Rattle.step_table.specs.ListSteps.{turn, choose, add, wait, more, ListChoice, ListStep, seat_after, event_of, effect_of, finds, can_turn, turned, moved}
use Rattle.step_table.specs.ListSteps.{with_ticket, waiting, IsListReached}
use Rattle.step_table.specs.Path.{Deed, runs, looks, sight, Meets, Did}
use Rattle.step_law_lists.specs.ListPath.{ListSight, ListStride, notify_list, ListRan, told_before, word_of_deed, word_of_stride, entries_of, is_own, AreTold}
use Rattle.step_law_lists.specs.ListPath.{row_next, row_stride, placed, with_its_ticket, ListDid, TheListPaths}
use Rattle.step_table.proofs.Sums.{put_here, put_else}
use Rattle.step_law_lists.proofs.ListKeeping.{list_reached}
use Rattle.step_table.proofs.Paths.{goes_on_more, goes_on_by, row_ran, are_paths}

pub journal_told : (i : ℕ) (effect : ListEffect) (journal : List ListEntry) → journal_after i effect journal ≡ journal ++ entries_of i effect
journal_told i (HandsOut t) journal = refl
journal_told i (Grants upto) journal = refl
journal_told i (Forgoes w) journal = refl
journal_told i _ journal = sym (append-nil journal)

-- a seat tells nothing of another's own
silent : (i j : ℕ) (effect : ListEffect) → j ≢ i → filter (is_own j) (entries_of i effect) ≡ []
silent i j (HandsOut t) ne = ap (λ b. cond b (Took i ∷ []) []) (ne_eqb i j (λ e. ne (sym e)))
silent i j (Grants upto) ne = ap (λ b. cond b (Granted upto i ∷ []) []) (ne_eqb i j (λ e. ne (sym e)))
silent i j (Forgoes w) ne = ap (λ b. cond b (Forgone w.id.turn i ∷ []) []) (ne_eqb i j (λ e. ne (sym e)))
silent i j _ ne = refl

-- the word of a row is one whatever the words hold
same_word : (i : ℕ) (seat : ListSeat) (g h : ListWords) (p : ListPlace) → (list_event_at i seat g p).word ≡ (list_event_at i seat h p).word
same_word i seat g h Rest = refl
same_word i seat g h Adding = refl
same_word i seat g h (Waiting t W1) = refl
same_word i seat g h (Waiting t W2) = refl
same_word i seat g h (Waiting t W3) = refl
same_word i seat g h (Waiting t W4) = refl
same_word i seat g h (Waiting t E4) = refl
same_word i seat g h (Waiting t (Parked P)) = refl
same_word i seat g h (Waiting t (Parked E1)) = refl
same_word i seat g h (Waiting t (Parked E2)) = refl
same_word i seat g h (Waiting t (Parked (E3 v))) = refl
same_word i seat g h (Waiting t (Parked E5)) = refl
same_word i seat g h (NotifyingOne n O1) = refl
same_word i seat g h (NotifyingOne n (O2 a)) = refl
same_word i seat g h (NotifyingOne n O3) = refl
same_word i seat g h (NotifyingOne n O4) = refl
same_word i seat g h (NotifyingOne n (O5 t)) = refl
same_word i seat g h (NotifyingOne n O6) = refl
same_word i seat g h (NotifyingOne n (O7 t)) = refl
same_word i seat g h (NotifyingOne n (O8 t)) = refl
same_word i seat g h (NotifyingOne n O9) = refl
same_word i seat g h (NotifyingAll n L1) = refl
same_word i seat g h (NotifyingAll n (L2 a)) = refl
same_word i seat g h (NotifyingAll n L3) = refl
same_word i seat g h (NotifyingAll n L4) = refl
same_word i seat g h (NotifyingAll n (L5 t)) = refl
same_word i seat g h (NotifyingAll n (L6 r)) = refl
same_word i seat g h (NotifyingAll n (L7 k)) = refl
same_word i seat g h (NotifyingAll n L8) = refl

module _ (first seats : ℕ) (s : ListWorld) (i : ℕ) where
  -- a seat that comes to stand otherwise between rows
  stands_so : (v : ListSight) (change : ListSeat → ListSeat) → IsListReached first seats (record s { seats = put s.seats i (change (s.seats i)) })
      → Meets (notify_list first seats) s i v
      → Meets (notify_list first seats) (record s { seats = put s.seats i (change (s.seats i)) }) i (record v { stands = change v.stands })
  stands_so v change reached meets = record {
    met = reached;
    stands = put_here s.seats i (change (s.seats i)) ∙ ap change meets.stands;
    later = meets.later;
    quiet = meets.quiet;
  }

  -- where another does, a seat stands as before
  leaves_so : (j : ℕ) (v : ListSight) (seat : ListSeat) → j ≢ i → IsListReached first seats (record s { seats = put s.seats i seat })
      → Meets (notify_list first seats) s j v → Meets (notify_list first seats) (record s { seats = put s.seats i seat }) j v
  leaves_so j v seat ne reached meets = record {
    met = reached;
    stands = put_else s.seats i seat j ne ∙ meets.stands;
    later = meets.later;
    quiet = meets.quiet;
  }

  pub list_begins : (v : ListSight) (place : ListPlace) → i < seats → Meets (notify_list first seats) s i v
      → ListChoice v.stands.place place → Meets (notify_list first seats) (moved s i place) i (placed place v)
  list_begins v place in_range meets choice =
      stands_so v (λ z. record z { place = place })
      (more i in_range meets.met (choose (subst (λ (z : ListSeat). ListChoice z.place place) (sym meets.stands) choice))) meets

  pub list_adds : (v : ListSight) → i < seats → Meets (notify_list first seats) s i v
      → v.stands.place ≡ Rest → v.stands.ticket ≡ None
      → Meets (notify_list first seats) (moved s i Adding) i (placed Adding v)
  list_adds v in_range meets at_rest holds =
      stands_so v (λ z. record z { place = Adding })
      (more i in_range meets.met (add (ap (λ (z : ListSeat). z.place) meets.stands ∙ at_rest) (ap (λ (z : ListSeat). z.ticket) meets.stands ∙ holds)))
      meets

  pub list_waits : (v : ListSight) (t : Ticket) → i < seats → Meets (notify_list first seats) s i v
      → v.stands.place ≡ Rest → v.stands.ticket ≡ Some t
      → Meets (notify_list first seats) (waiting s i) i (with_its_ticket v)
  list_waits v t in_range meets at_rest holds =
      stands_so v (λ z. with_ticket z z.ticket)
      (more i in_range meets.met
      (wait {t = t} (ap (λ (z : ListSeat). z.place) meets.stands ∙ at_rest) (ap (λ (z : ListSeat). z.ticket) meets.stands ∙ holds))) meets

  pub list_rows : (v : ListSight) → Meets (notify_list first seats) s i v → IsTrue (can_turn s i)
      → ListRan first seats i v (row_stride first seats s i) (sight (notify_list first seats) (turned s i) i)
  list_rows v meets can =
      row_ran (notify_list first seats) i s v (entries_of i (effect_of s i)) meets can (journal_told i (effect_of s i) s.journal)

  pub list_others : (t : ListWorld) (j : ℕ) (v : ListSight) → i < seats → j ≢ i → ListStep s i t
      → Meets (notify_list first seats) s j v → Meets (notify_list first seats) t j v
  list_others t j v in_range ne step meets = by step
    where
      turned_meets : IsTrue (can_turn s i) → Meets (notify_list first seats) (turned s i) j v
      turned_meets can = record {
        met = more i in_range meets.met (turn (record { can = can; is = refl }));
        stands = put_else s.seats i (seat_after s.words ((event_of s i).leads (finds s i)) (s.seats i)) j ne ∙ meets.stands;
        later =
            goes_on_more v.seen s.journal (turned s i).journal meets.later
            (goes_on_by (turned s i).journal s.journal (entries_of i (effect_of s i)) (journal_told i (effect_of s i) s.journal));
        quiet =
            ap (filter (is_own j)) (journal_told i (effect_of s i) s.journal)
            ∙ filter-append (is_own j) s.journal (entries_of i (effect_of s i))
            ∙ ap (λ l. filter (is_own j) s.journal ++ l) (silent i j (effect_of s i) ne)
            ∙ append-nil (filter (is_own j) s.journal) ∙ meets.quiet;
      }

      by : {u : ListWorld} → ListStep s i u → Meets (notify_list first seats) u j v
      by (turn row) = subst (λ (x : ListWorld). Meets (notify_list first seats) x j v) (sym row.is) (turned_meets row.can)
      by (choose {place} choice) =
          leaves_so j v (record (s.seats i) { place = place }) ne (more i in_range meets.met (choose choice)) meets
      by (add at_rest holds) =
          leaves_so j v (record (s.seats i) { place = Adding }) ne (more i in_range meets.met (add at_rest holds)) meets
      by (wait {t = ticket} at_rest holds) =
          leaves_so j v (with_ticket (s.seats i) (s.seats i).ticket) ne (more i in_range meets.met (wait {t = ticket} at_rest holds)) meets

module _ (first seats i : ℕ) (v w : ListSight) (p : ListStride) (r : ListRan first seats i v p w) where
  abbrev s : ListWorld
  s = r.world

  stood_is : p.stood ≡ s.seats i
  stood_is = r.stood ∙ sym r.meets.stands

  event_is : list_table i p.stood s.words ≡ event_of s i
  event_is = ap (λ (z : ListSeat). list_table i z s.words) stood_is

  pub list_ends : i < seats → (t : ListWorld) × IsListReached first seats t × (w ≡ sight (notify_list first seats) t i)
  list_ends in_range = by p.deed r.did
    where
      by : (d : Deed ListWord) → Did (notify_list first seats) s i d p.read p.told w
          → (t : ListWorld) × IsListReached first seats t × (w ≡ sight (notify_list first seats) t i)
      by runs did = (turned s i, more i in_range r.meets.met (turn (record { can = did.can; is = refl })), did.leads)
      by (looks x) did = (s, r.meets.met, did.leads)

  module _ (reach : IsInReach p.seen) where
    inv : IsListInvariant first seats s
    inv = list_reached first seats s (subst IsInReach r.seen reach) r.meets.met

    numbers_are : s.words.numbers ≡ told p.seen
    numbers_are = inv.numbers ∙ ap told (sym r.seen)

    are_told : AreTold first p.seen s.words
    are_told = record {
      numbers = numbers_are;
      wait = inv.words.0 ∙ ap (λ (n : Numbers). word_of first n.handed) numbers_are;
      notify = inv.words.1 ∙ ap (λ (n : Numbers). word_of first n.passed) numbers_are;
      gone = inv.words.3 ∙ ap (λ (n : Numbers). map (word_of first) n.gone) numbers_are;
    }

    -- what is read is found in the word of the stride
    pub list_read : p.read ≡ found s.words (word_of_stride i p)
    list_read = by p.deed r.did
      where
        by : (d : Deed ListWord) → Did (notify_list first seats) s i d p.read p.told w → p.read ≡ found s.words (word_of_deed i p d)
        by runs did =
            did.read_is ∙ ap (λ (e : ListEvent). found s.words e.word) (sym event_is)
            ∙ ap (found s.words) (same_word i p.stood s.words (first_list 0).words p.stood.place)
        by (looks x) did = did.read_is

    pub list_does : ListDid first i p w p.deed
    list_does = by p.deed r.did
      where
        by : (d : Deed ListWord) → Did (notify_list first seats) s i d p.read p.told w → ListDid first i p w d
        by runs did =
            let next_is : row_next s.words i p ≡ (event_of s i).leads (finds s i) = λ j. (event_is j).leads (did.read_is j) in
            let can_is : (list_table i p.stood s.words).can p.read ≡ can_turn s i = λ j. (event_is j).can (did.read_is j) in
            let next : ListNext = (event_of s i).leads (finds s i) in
            record {
              words = s.words;
              are_told = are_told;
              read = did.read_is ∙ ap (λ (e : ListEvent). found s.words e.word) (sym event_is);
              can = subst IsTrue (sym can_is) did.can;
              told =
                  append_cancel_left s.journal p.told (entries_of i next.1) (sym did.told_is ∙ journal_told i next.1 s.journal)
                  ∙ ap (λ (n : ListNext). entries_of i n.1) (sym next_is);
              leads =
                  ap (λ (z : ListSight). z.stands) did.leads
                  ∙ put_here s.seats i (seat_after s.words next (s.seats i))
                  ∙ (λ j. seat_after s.words (sym next_is j) (sym stood_is j));
            }
        by (looks x) did = record { told = did.told_is; leads = ap (λ (z : ListSight). z.stands) did.leads ∙ sym stood_is }

    pub list_seen_lawful : Follows p.seen
    list_seen_lawful = subst Follows (sym r.seen) inv.follows

    pub list_reads_wait : word_of_stride i p ≡ Wait → p.read ≡ word_of first (told_before p).handed
    list_reads_wait on = list_read ∙ ap (found s.words) on ∙ are_told.wait

    pub list_reads_notify : word_of_stride i p ≡ Notify → p.read ≡ word_of first (told_before p).passed
    list_reads_notify on = list_read ∙ ap (found s.words) on ∙ are_told.notify

pub the_list_paths : TheListPaths
the_list_paths = record {
  paths = λ first seats. are_paths (notify_list first seats);
  begins = list_begins;
  adds = list_adds;
  waits = list_waits;
  rows = list_rows;
  others = λ first seats s t i j v in_range ne step meets. list_others first seats s i t j v in_range ne step meets;
  reads_wait = λ first seats i v w p reach r. list_reads_wait first seats i v w p r reach;
  reads_notify = λ first seats i v w p reach r. list_reads_notify first seats i v w p r reach;
  does = λ first seats i v w p reach r. list_does first seats i v w p r reach;
  lawful = λ first seats i v w p reach r. list_seen_lawful first seats i v w p r reach;
  ends = λ first seats i v w p in_range r. list_ends first seats i v w p r in_range;
}
