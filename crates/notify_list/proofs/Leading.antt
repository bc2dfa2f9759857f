-- Where a row that ran leads its seat, by what the table says of it.
use Rattle.std.proofs.Common.{◌≡◌, ◌≢◌, ℕ, ◌<◌, ◌≤◌, ◌==◌, cond, Bool, true, false, ◌++◌, sym, ap, ◌∙◌, subst, arith}
use Rattle.std.proofs.Common.{eq-eqb, ne_eqb}
use Rattle.std.proofs.lemmas.List.{append_cancel_left}
use mathlib.Core.Option.{none}
use native.Mathlib.Decide.{ℕ_discrete}
use Rattle.running_rows.specs.Table.{step}
use Rattle.step_table.specs.declared.list_place.ListPlace.{ListPlace}
use Rattle.step_table.specs.declared.list_place.ListPlace.TheVariants.{Waiting}
use Rattle.step_table.specs.declared.list_place.ListWord.TheVariants.{Lock}
use Rattle.step_table.specs.declared.list_place.Ticket.{Ticket}
use Rattle.step_table.specs.declared.list_place.WaitRow.TheVariants.{Parked}
use Rattle.step_table.specs.declared.list_place.ListParkedRow.TheVariants.{P}
use Rattle.step_table.specs.ListWorld.{ListWords, ListSeat, ListWorld, found}
use Rattle.step_table.specs.ListEvent.{ListEvent, ListNext}
use Rattle.step_table.specs.ListTable.{list_table, list_event_at}
use Rattle.step_table.specs.ListSteps.{event_of, effect_of, finds, seat_after}
use Rattle.step_table.specs.Path.{GoesOn, RanRow as RowRan, Did, runs}
use Rattle.step_table.proofs.Paths.{stride_told, stride_later}
use Rattle.step_table.proofs.Sums.{put_here}
use Rattle.step_law_lists.specs.ListLawful.{holds, IsGrantOf}
use Rattle.step_law_lists.specs.ListPath.{ListSight, ListStride, entries_of}
use Rattle.step_law_lists.specs.ListPlaces.{ReachedList}
use Rattle.step_law_lists.proofs.ListAccounts.{the_list_accounts}
use Rattle.running_rows.specs.Strides.{Went, RanRow, runs_unlock, here}
use Rattle.running_rows.proofs.Telling.{went_from}
use Rattle.notify_list.specs.Rule.{watched, guarded_in, guarded_by, guarded_after, IsMet}
use Rattle.notify_list.specs.Rows.{list_rows, guarded_left}
use Rattle.notify_list.specs.Plays.{OneSeat, standing}
use Rattle.notify_list.specs.Seats.{Token, setting_of, stands_of}
use Rattle.step_law_lists.proofs.ListPaths.{journal_told}
use Rattle.notify_list.proofs.Keeping.{laws_of}

-- the row ran of a seat that stood so
abbrev pub Ran : ListSeat → OneSeat → ℕ → OneSeat → Type 0
Ran a u n w = Went list_rows (standing a) runs u n w

-- what followed the row of the seat i, which stood so, in this world
abbrev pub next_in : ListSeat → ℕ → ListWorld → ℕ → ListNext
next_in a i s n = (list_table i a s.words).leads n

-- the row ran in this world, and this came of it
pub record Led (a : ListSeat) (u : OneSeat) (n : ℕ) (w : OneSeat) (p : ListStride) : Type 0 where
  pub world : ListWorld
  pub met : IsMet u.knows.setting world
  pub stood : world.seats u.number ≡ a
  pub seen_is : p.seen ≡ world.journal
  pub later : GoesOn p.seen u.knows.sight.seen
  pub read : n ≡ found world.words (list_table u.number a world.words).word
  pub stands : w.knows.sight.stands ≡ seat_after world.words (next_in a u.number world n) a
  pub guarded : guarded_by w.knows ≡ guarded_after (next_in a u.number world n).1 world.words
  pub told : p.told ≡ entries_of u.number (next_in a u.number world n).1
  pub seen : w.knows.sight.seen ≡ p.seen ++ p.told
  pub held : holds a.place ≡ 1 → guarded_by u.knows ≡ guarded_in world.words

pub led : (a : ListSeat) (u w : OneSeat) (n : ℕ) (r : Ran a u n w) → Led a u n w r.stride
led a u w n r =
    let i : ℕ = u.number in
    let s : ListWorld = r.ran.world in
    let p : ListStride = r.stride in
    let before : ListSight = record { stands = a; seen = u.knows.sight.seen } in
    let did : RowRan (watched u.knows.setting) s i p.read p.told w.knows.sight
    = subst (λ d. Did (watched u.knows.setting) s i d p.read p.told w.knows.sight) r.did r.ran.did in
    let same : event_of s i ≡ list_table i a s.words = ap (λ (y : ListSeat). list_table i y s.words) r.ran.meets.stands in
    let is : finds s i ≡ n = sym did.read_is ∙ r.read in
    let next : (event_of s i).leads (finds s i) ≡ next_in a i s n = λ k. (same k).leads (is k) in
    record {
      world = s;
      met = r.also.met;
      stood = r.ran.meets.stands;
      seen_is = r.ran.seen;
      later = stride_later (watched u.knows.setting) i before w.knows.sight p r.ran;
      read = sym is ∙ ap (λ (e : ListEvent). found s.words e.word) same;
      stands = ap (λ (y : ListSight). y.stands) did.leads ∙ put_here s.seats i (seat_after s.words ((event_of s i).leads (finds s i)) (s.seats i))
          ∙ (λ k. seat_after s.words (next k) (r.ran.meets.stands k));
      guarded = r.also.left ∙ ap (guarded_left s i) r.did ∙ ap (λ (x : ListNext). guarded_after x.1 s.words) next;
      told = append_cancel_left s.journal p.told (entries_of i (effect_of s i)) (sym did.told_is ∙ journal_told i (effect_of s i) s.journal)
          ∙ ap (λ (x : ListNext). entries_of i x.1) next;
      seen = stride_told (watched u.knows.setting) i before w.knows.sight p r.ran;
      held = r.also.held;
    }

-- the row at which the seat stands
row_from : (s t : Token) (a : ListSeat) (n : ℕ) → stands_of s ≡ a → Went list_rows here runs s.me.0.own n t.me.0.own → Ran a s.me.0.own n t.me.0.own
row_from s t a n is r = went_from list_rows here (standing a) s.me.0.own t.me.0.own n (λ i. standing (is i) s.me.0.own.knows) r

pub ran_from : (s t : Token) (a : ListSeat) (n : ℕ) → stands_of s ≡ a → RanRow list_rows here s.me n t.me → Ran a s.me.0.own n t.me.0.own
ran_from s t a n is r = row_from s t a n is r.0

-- the same where the seat has edited its record since it was seen
pub ran_edited : (s e t : Token) (a : ListSeat) (n : ℕ) → e.me.0.own ≡ s.me.0.own → stands_of s ≡ a → RanRow list_rows here e.me n t.me
    → Ran a s.me.0.own n t.me.0.own
ran_edited s e t a n same is r = row_from s t a n is (subst (λ (u : OneSeat). Went list_rows here runs u n t.me.0.own) same r.0)

-- the row gave the lock back
abbrev pub Gave : Token → Token → Type 0
Gave s t = runs_unlock list_rows (step 0 2 0 0 none) s.me 0 t.me

-- it found the lock held. Since the seat was seen, its record may have been edited
pub gave_from : (s e t : Token) (a : ListSeat) → e.me.0.own ≡ s.me.0.own → stands_of s ≡ a → holds a.place ≡ 1 → (setting_of s).seats ≤ 65536
    → ((g : ListWords) → (list_table s.me.0.own.number a g).word ≡ Lock) → Gave e t → Ran a s.me.0.own 1 t.me.0.own
gave_from s e t a same is holding few word given =
    let r : Ran a s.me.0.own given.0 t.me.0.own
    = row_from s t a given.0 is (subst (λ (u : OneSeat). Went list_rows here runs u given.0 t.me.0.own) same given.1) in
    let d : Led a s.me.0.own given.0 t.me.0.own r.stride = led a s.me.0.own t.me.0.own given.0 r in
    let laws : ReachedList (setting_of s).first (setting_of s).seats d.world = laws_of (setting_of s) d.world d.met in
    let lock = ((the_list_accounts.alone (setting_of s).first (setting_of s).seats d.world laws.invariant s.me.0.own.number r.also.there).0
    (ap (λ (y : ListSeat). holds y.place) d.stood ∙ holding)).lock in
    subst (λ n. Ran a s.me.0.own n t.me.0.own) (d.read ∙ ap (found d.world.words) (word d.world.words) ∙ lock) r

-- a grant that was taken was one
pub woke_from : (s t : Token) (a : ListSeat) (n : ℕ) (ticket : Ticket) → stands_of s ≡ a → a.place ≡ Waiting ticket (Parked P)
    → (setting_of s).seats ≤ 65536 → 0 < n
    → RanRow list_rows here s.me n t.me → Ran a s.me.0.own 1 t.me.0.own
woke_from s t a n ticket is parked few some row =
    let k : ℕ = s.me.0.own.number in
    let r : Ran a s.me.0.own n t.me.0.own = row_from s t a n is row.0 in
    let d : Led a s.me.0.own n t.me.0.own r.stride = led a s.me.0.own t.me.0.own n r in
    let laws : ReachedList (setting_of s).first (setting_of s).seats d.world = laws_of (setting_of s) d.world d.met in
    let most : IsGrantOf (Waiting ticket (Parked P)) (d.world.words.grants k)
    = subst (λ (p : ListPlace). IsGrantOf p (d.world.words.grants k)) (ap (λ (y : ListSeat). y.place) d.stood ∙ parked) (laws.lawful.grants k) in
    let found_is : n ≡ d.world.words.grants k = d.read ∙ ap (λ (p : ListPlace). found d.world.words (list_event_at k a d.world.words p).word) parked in
    subst (λ (q : ℕ). Ran a s.me.0.own q t.me.0.own) (omega arith) r

pub if_equal : {A : Type 0} (n v : ℕ) (a b : A) → n ≡ v → cond (n == v) a b ≡ a
if_equal n v a b e = ap (λ (t : Bool). cond t a b) (eq-eqb n v e)

pub if_unequal : {A : Type 0} (n v : ℕ) (a b : A) → n ≢ v → cond (n == v) a b ≡ b
if_unequal n v a b ne = ap (λ (t : Bool). cond t a b) (ne_eqb n v ne)

pub equal_is : (n v : ℕ) → (n == v) ≡ true → n ≡ v
equal_is n v e = by (ℕ_discrete n v)
  where
    by : Dec (n ≡ v) → n ≡ v
    by (yes same) = same
    by (no ne) = let no_more : true ≡ false = sym e ∙ ne_eqb n v ne in absurd (cc)

pub unequal_is : (n v : ℕ) → (n == v) ≡ false → n ≢ v
unequal_is n v e same = let more : true ≡ false = sym (eq-eqb n v same) ∙ e in absurd (cc)
