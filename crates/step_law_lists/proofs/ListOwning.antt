-- Who tells the entries of a notify list's journal, and what no entry takes back.
use Rattle.std.proofs.Common.{◌≡◌, ◌⊎◌, ℕ, ◌<◌, nat_lt, List, [], ◌∷◌, ◌++◌, refl, sym, ap, subst, inl, inr, append_assoc}
use Rattle.std.proofs.Common.{append-nil, arith}
use Rattle.std.specs.List.{All}
use Rattle.std.proofs.lemmas.List.Elements.{All-nil, All-push}
use Rattle.step_table.specs.declared.list_place.ListEffect.{ListEffect}
use Rattle.step_table.specs.declared.list_place.ListEffect.TheVariants.{HandsOut, Grants, Forgoes}
use Rattle.step_table.specs.ListWorld.{Numbers, ListWords, ListSeat, ListEntry, Took, Granted, Forgone, ListWorld, journal_after, with_gone, first_list}
use Rattle.step_table.specs.ListSteps.{ListStep, IsListReached, turn}
use Rattle.step_law_lists.specs.ListLawful.{counted, none_told, told, IsDefined, Follows, times_granted, times_forgone}
use Rattle.step_law_lists.specs.ListInvariant.{Knows, IsListInvariant}
use Rattle.step_table.proofs.Turns.{steps_keep}
use Rattle.step_law_lists.proofs.ListCases.{step_of}
use Rattle.step_law_lists.proofs.ListJournals.{replay_append, passing_from, granted_stays, forgone_stays}
use Rattle.step_law_lists.proofs.ListRows.{Row, Step, own, post}
use Rattle.step_law_lists.proofs.ListLeaving.{left_row}
use Rattle.step_law_lists.proofs.ListWriting.{numbers_kept}
use Rattle.step_law_lists.specs.ListEntries.{teller, EntriesNamed, TellsOwn, NoneTakenBack, NeverTakenBack, NeverUndone}

own_entry : (i : ℕ) (e : ListEffect) (j : List ListEntry)
    → (journal_after i e j ≡ j) ⊎ ((x : ListEntry) × (journal_after i e j ≡ j ++ x ∷ []) × (teller x ≡ i))
own_entry i (HandsOut t) j = inr (Took i, refl, refl)
own_entry i (Grants upto) j = inr (Granted upto i, refl, refl)
own_entry i (Forgoes w) j = inr (Forgone w.id.turn i, refl, refl)
own_entry i _ j = inl refl

pub tells_own : (s t : ListWorld) (i : ℕ) → ListStep s i t → TellsOwn i s t
tells_own s t i = by
  where
    by : {u : ListWorld} → ListStep s i u → TellsOwn i s u
    by (turn x) = subst (TellsOwn i s) (sym x.is) (own_entry i _ s.journal)
    by _ = inl refl

pub named : (first seats : ℕ) (s : ListWorld) → IsListReached first seats s → EntriesNamed seats s
named first seats s reached =
    steps_keep ListStep seats (EntriesNamed seats) (λ s t i there before step. by s t i there before (tells_own s t i step))
    (first_list first) s reached (All-nil (λ e. teller e < seats))
  where
    by : (s t : ListWorld) (i : ℕ) → i < seats → EntriesNamed seats s → TellsOwn i s t → EntriesNamed seats t
    by s t i there before (inl same) = subst (All (λ e. teller e < seats)) (sym same) before
    by s t i there before (inr tells) =
        let own = tells.2 in
        subst (All (λ e. teller e < seats)) (sym tells.1) (All-push (λ e. teller e < seats) s.journal tells.0 before (omega arith))

-- a defined entry takes back no ticket
one_more : (e : ListEntry) (n : Numbers) → IsDefined e n → NoneTakenBack n (counted e n)
one_more (Took s) n defined = record { handed = omega arith; passed = omega arith }
one_more (Granted upto s) n defined =
    let grown = defined.0 in let least = passing_from n.handed upto n.gone in record { handed = omega arith; passed = omega arith }
one_more (Forgone m s) n defined =
    record { handed = omega arith; passed = passing_from n.handed n.passed (with_gone nat_lt m n.gone) }

pub none_back : (before after : List ListEntry) → Follows (before ++ after) → NoneTakenBack (told before) (told (before ++ after))
none_back before [] follows =
    let all = append-nil before in
    let handed = ap (λ j. (told j).handed) all in
    let passed = ap (λ j. (told j).passed) all in record { handed = omega arith; passed = omega arith }
none_back before (e ∷ after) follows =
    let one = one_more e (told before) (follows before after e refl) in
    let is = append_assoc before (e ∷ []) after in
    let rest : NoneTakenBack (told (before ++ e ∷ [])) (told ((before ++ e ∷ []) ++ after))
    = none_back (before ++ e ∷ []) after (subst Follows (sym is) follows) in
    let next = replay_append (none_told) before (e ∷ []) in
    let all_handed = ap (λ j. (told j).handed) is in
    let all_passed = ap (λ j. (told j).passed) is in
    let next_handed = ap (λ n. n.handed) next in
    let next_passed = ap (λ (n : Numbers). n.passed) next in
    let a = one.handed in let b = one.passed in let c = rest.handed in let d = rest.passed in
    record { handed = omega arith; passed = omega arith }

pub never_back : (s : ListWorld) → Follows s.journal → NeverTakenBack s
never_back s follows before after is =
    subst (λ j. NoneTakenBack (told before) (told j)) (sym is) (none_back before after (subst Follows is follows))

pub never_undone : (s : ListWorld) → NeverUndone s
never_undone s before after n is =
    let granted = granted_stays n before after in
    let forgone = forgone_stays n before after in
    let all_granted = ap (times_granted n) is in
    let all_forgone = ap (times_forgone n) is in (omega arith, omega arith)

-- no row takes back a ticket
back_row : {i : ℕ} {g h : ListWords} {p q : ListSeat} {e : ListEffect} → Row i g p q h e → (first : ℕ) → Knows first g i p.place p.late
    → NoneTakenBack g.numbers h.numbers
back_row row first knows = let l = left_row row first 0 knows (λ some. absurd (omega arith)) in record { handed = l.handed; passed = l.passed }

back_step : (first seats i : ℕ) (s t : ListWorld) → Knows first s.words i (s.seats i).place (s.seats i).late → Step s i t
    → NoneTakenBack s.words.numbers t.words.numbers
back_step first seats i s t knows (own row) = back_row row first knows
back_step first seats i s t knows (post row) = record { handed = omega arith; passed = omega arith }

pub grows : (first seats i : ℕ) (s t : ListWorld) → i < seats → IsListInvariant first seats s → ListStep s i t
    → NoneTakenBack (told s.journal) (told t.journal)
grows first seats i s t there inv listed =
    let mine = inv.seats_known i there in
    let step : Step s i t = step_of s t i mine.fits mine.only listed in
    let before = ap (λ (n : Numbers). n.passed) inv.numbers in
    let before_handed = ap (λ (n : Numbers). n.handed) inv.numbers in
    let numbers = numbers_kept s i t inv.numbers step in
    let after = ap (λ (n : Numbers). n.passed) numbers in
    let after_handed = ap (λ (n : Numbers). n.handed) numbers in
    let back = back_step first seats i s t mine.knows step in
    let a = back.handed in let b = back.passed in record { handed = omega arith; passed = omega arith }
