-- The record as tickets are passed, and as one goes.
use Rattle.std.proofs.Common.{◌≡◌, ℕ, ◌+◌, ◌-◌, ◌<◌, ◌≤◌, ◌⊎◌, ◌^◌, Bool, true, false, nat_lt, List, [], ◌∷◌, ◌++◌, length, vec_capacity, refl, sym, ap, ◌∙◌, subst, inl, inr}
use Rattle.std.proofs.Common.{arith}
use Rattle.std.proofs.lemmas.Bool.{cases_lt, lt-ltb, le-ltb}
use Rattle.running_rows.specs.Lent.{seat_with}
use Rattle.step_table.specs.Counting.{among}
use Rattle.step_table.specs.Wrapping.{word_of, minus}
use Rattle.notify_list.specs.declared.live.Live.{Live}
use Rattle.notify_list.specs.declared.view.Record.{Record}
use Rattle.notify_list.specs.LiveTickets.{AreEarly, IsNext, IsPassedBy, MayBeGone, IsGoneBy, AllPassed}
use Rattle.notify_list.specs.Rule.{Guarded, guarded_in, guarded_by, IsMet, IsRecord}
use Rattle.notify_list.specs.Seats.{ListModel, Token, guarded_of, setting_of, stands_of, seen_of}
use Rattle.notify_list.specs.Walks.{Walked, Edited}
use Rattle.notify_list.specs.Records.{MayPass, PassedOver, MayGo, HasGone, MayPassAll, PassedAll}
use Rattle.step_table.specs.declared.list_place.ListPlace.{ListPlace}
use Rattle.step_table.specs.declared.list_place.ListPlace.TheVariants.{Rest, NotifyingOne}
use Rattle.step_table.specs.Path.{GoesOn}
use Rattle.notify_list.specs.Places.{at_place}
use Rattle.notify_list.specs.Notifying.{grants_it}
use Rattle.step_table.specs.declared.list_place.OneRow.TheVariants.{O7}
use Rattle.step_table.specs.ListWorld.{Numbers, ListSeat, ListEntry, Granted, ListWorld}
use Rattle.step_table.proofs.Skipping.{skipped_from, skipped_gone, first_is_left, among_forgotten}
use Rattle.step_law_lists.specs.ListLawful.{told, times_forgone}
use Rattle.step_law_lists.specs.ListPath.{ListSight, ListPath}
use Rattle.step_law_lists.specs.ListPlaces.{ReachedList}
use Rattle.step_law_lists.proofs.ListJournals.{each_once}
use Rattle.step_law_lists.proofs.ListKeeping.{list_reached}
use Rattle.step_law_lists.proofs.ListLawfulness.{known_at}
use Rattle.notify_list.specs.declared.view.Setting.{Setting}
use Rattle.notify_list.specs.Plays.{Me, ListView}
use Rattle.notify_list.specs.Granting.{MayGrant, MayStore, GrantedOne, one_granted, grant_rows}
use Rattle.notify_list.proofs.Keeping.{laws_of}
use Rattle.notify_list.proofs.Recording.{list_edited}
use Rattle.notify_list.proofs.Emptying.{written_back}

-- the number of a word
minus_word : (first n : ℕ) → first < 2 ^ 64 → n < 2 ^ 64 → minus (word_of first n) first ≡ n
unfolding minus word_of
minus_word first n fits low = omega arith

pub tells_early : (first n ticket result : ℕ) → first < 2 ^ 64 → n < 2 ^ 64 → ticket ≡ word_of first n → result ≡ minus ticket first
    → nat_lt result (2 ^ 60) ≡ nat_lt n (2 ^ 60)
tells_early first n ticket result fits low is same =
    ap (λ k. nat_lt k (2 ^ 60)) (same ∙ ap (λ k. minus k first) is ∙ minus_word first n fits low)

-- the next ticket is near, where few are passed
next_near : (g : Guarded) (next : ℕ) → AreEarly g.passed g.gone → IsNext g.passed g.gone next → (next ≡ g.passed + 1) ⊎ (next < 2 ^ 60 + 1)
next_near g next early is = by (cases_lt (g.passed + 1) next)
  where
    by : (g.passed + 1 < next) ⊎ (next ≤ g.passed + 1) → (next ≡ g.passed + 1) ⊎ (next < 2 ^ 60 + 1)
    by (inl after) = let a = is.after in let low = early.early (g.passed + 1) (is.between (g.passed + 1) (omega arith) after) in
        inr (last (g.passed + 1) (omega arith))
      where
        last : (n : ℕ) → n < next → next < 2 ^ 60 + 1
        last n before = let low = early.early (next - 1) (is.between (next - 1) (omega arith) (omega arith)) in omega arith
    by (inr le) = let a = is.after in inl (omega arith)

-- what a flag tells
pub was_early : (b : Bool) (n : ℕ) → b ≡ nat_lt n (2 ^ 60) → b ≡ true → n < 2 ^ 60
was_early b n is e = by (cases_lt n 1152921504606846976)
  where
    by : (n < 1152921504606846976) ⊎ (1152921504606846976 ≤ n) → n < 2 ^ 60
    by (inl low) = low
    by (inr high) = let no : true ≡ false = sym e ∙ is ∙ le-ltb n 1152921504606846976 high in absurd cc

pub was_late : (b : Bool) (n : ℕ) → b ≡ nat_lt n (2 ^ 60) → b ≡ false → 2 ^ 60 ≤ n
was_late b n is e = by (cases_lt n 1152921504606846976)
  where
    by : (n < 1152921504606846976) ⊎ (1152921504606846976 ≤ n) → 2 ^ 60 ≤ n
    by (inl low) = let no : false ≡ true = sym e ∙ is ∙ lt-ltb n 1152921504606846976 low in absurd cc
    by (inr high) = high

-- what a flag tells of a ticket, where few were passed at first
module _ (early now : Bool) (passed : ℕ) (is : early ≡ nat_lt passed (2 ^ 60)) (was : now ≡ true → early ≡ true) where
  pub few_passed : now ≡ true → passed < 2 ^ 60
  few_passed e = was_early early passed is (was e)

  module _ (n : ℕ) (tells : (early ≡ true → n < 2 ^ 64) → (early ≡ false → 2 ^ 60 ≤ n) → now ≡ nat_lt n (2 ^ 60)) where
    pub early_ticket : now ≡ true → n < 2 ^ 64 → n < 2 ^ 60
    early_ticket e low = was_early now n (tells (λ k. low) (λ k. (let no : true ≡ false = sym (was e) ∙ k in absurd cc))) e

    pub late_ticket : now ≡ false → (2 ^ 60 ≤ n) ⊎ (2 ^ 60 ≤ passed)
    late_ticket e = by early refl (cases_lt n 18446744073709551616)
      where
        by : (b : Bool) → early ≡ b → (n < 18446744073709551616) ⊎ (18446744073709551616 ≤ n) → (2 ^ 60 ≤ n) ⊎ (2 ^ 60 ≤ passed)
        by false k any = inr (was_late early passed is k)
        by true k (inl low) = inl (was_late now n (tells (λ q. low) (λ q. (let no : true ≡ false = sym k ∙ q in absurd cc))) e)
        by true k (inr high) = inl (omega arith)

-- the flag as the next ticket is the first that isn't passed
module _ (y : Record) (g : Guarded) (next : ℕ) (was : y.early ≡ nat_lt g.passed (2 ^ 60)) (few : AreEarly g.passed g.gone)
    (is : IsNext g.passed g.gone next) where
  pub fits_next : y.early ≡ true → next < 2 ^ 64
  fits_next e = let low = was_early y.early g.passed was e in by (next_near g next few is)
    where
      by : (next ≡ g.passed + 1) ⊎ (next < 2 ^ 60 + 1) → next < 2 ^ 64
      by (inl at) = let low = was_early y.early g.passed was e in omega arith
      by (inr below) = omega arith

  pub late_next : y.early ≡ false → 2 ^ 60 ≤ next
  late_next e = let high = was_late y.early g.passed was e in let after = is.after in omega arith

-- the first that is neither granted nor gone is passed
pub passed_over : (l : ListModel) (s : Token) (g : Guarded) (ticket : ℕ) (y : Record) (x : Live) (early : Bool) (word : ℕ)
    → MayPass l s g ticket → IsRecord (setting_of s) y g → IsPassedBy (setting_of s).first g.passed g.gone word x
    → vec_capacity x.words ≡ vec_capacity y.live.words
    → ((n : ℕ) → (y.early ≡ true → n < 2 ^ 64) → (y.early ≡ false → 2 ^ 60 ≤ n) → word ≡ word_of l.setting.first n → early ≡ nat_lt n (2 ^ 60))
    → PassedOver s g word (seat_with s 0 (record y { live = x; early = early }))
passed_over l s g ticket y x early word may is passed capacity flag next left is_next same =
    let both = passed next left is_next same in
    let setting = ap (λ (z : ListModel). z.setting.first) may.list_is in (
      both.0,
      written_back s (record y { live = x; early = early }) g (record { queue = g.queue; passed = next; gone = left }) may.has (record {
        opened = is.opened;
        waits = is.waits;
        room = is.room;
        live = both.1;
        fits = let f = is.fits in omega (arith, capacity);
        early = flag next (fits_next y g next is.early may.gone_early is_next) (late_next y g next is.early may.gone_early is_next)
            (both.0 ∙ ap (λ k. word_of k next) setting);
      }),
    )

-- the record has room for it
pub may_be_gone : (l : ListModel) (s : Token) (g : Guarded) (m ticket : ℕ) (y : Record) → MayGo l s g m ticket → IsRecord (setting_of s) y g
    → MayBeGone (setting_of s).first g.passed m g.gone ticket (vec_capacity y.live.words)
may_be_gone l s g m ticket y may is =
    let x = may.may in let first = ap (λ (z : ListModel). z.setting.first) may.list_is in record {
      gone_early = x.gone_early;
      ticket_is = x.ticket_is ∙ ap (λ k. word_of k m) (sym first);
      after = x.after;
      early = x.early;
      stays = x.stays;
      fits = let seats = ap (λ (z : ListModel). z.setting.seats) may.list_is in let f = is.fits in let h = x.fits in omega arith;
    }

-- another goes
pub has_gone : (l : ListModel) (s : Token) (g : Guarded) (m ticket : ℕ) (y : Record) (x : Live) → MayGo l s g m ticket
    → IsRecord (setting_of s) y g → IsGoneBy (setting_of s).first g.passed m g.gone x → vec_capacity x.words ≡ vec_capacity y.live.words
    → HasGone s g m (seat_with s 0 (record y { live = x }))
has_gone l s g m ticket y x may is goes capacity more same =
    written_back s (record y { live = x }) g (record { queue = g.queue; passed = g.passed; gone = more }) may.has (record {
      opened = is.opened;
      waits = is.waits;
      room = is.room;
      live = goes more same;
      fits = let f = is.fits in omega (arith, capacity);
      early = is.early;
    })

-- all are passed
pub all_passed : (l : ListModel) (s : Token) (g : Guarded) (upto waited : ℕ) (y : Record) (x : Live) (early : Bool) (many : ℕ)
    → MayPassAll l s g upto waited → IsRecord (setting_of s) y g → AllPassed (setting_of s).first g.passed upto g.gone many x
    → vec_capacity x.words ≡ vec_capacity y.live.words
    → ((n : ℕ) → (y.early ≡ true → n < 2 ^ 64) → (y.early ≡ false → 2 ^ 60 ≤ n) → waited ≡ word_of l.setting.first n → early ≡ nat_lt n (2 ^ 60))
    → PassedAll s g upto many (seat_with s 0 (record y { live = x; early = early }))
all_passed l s g upto waited y x early many may is passed capacity flag = (
  passed.0,
  λ left none. written_back s (record y { live = x; early = early }) g (record { queue = g.queue; passed = upto; gone = left }) may.has (record {
    opened = is.opened;
    waits = is.waits;
    room = is.room;
    live = passed.1 left none;
    fits = let f = is.fits in omega (arith, capacity);
    early = flag upto (λ e. (let low = was_early y.early g.passed is.early e in let near = may.may.near in omega arith))
        (λ e. (let high = was_late y.early g.passed is.early e in let from = may.may.from in omega arith)) may.may.waited_is;
  }),
)

-- in a world that is met those that are gone are in order, after the first that is neither, and early
pub gone_early : (z : Setting) (s : ListWorld) → IsMet z s → AreEarly s.words.numbers.passed s.words.numbers.gone
gone_early z s met =
    let inv = list_reached z.first z.seats s met.reach met.reached in record {
      rising = inv.rising;
      after = λ n some. (each n some).0;
      early = λ n some. (each n some).1;
    }
  where
    each : (n : ℕ) → 0 < among n s.words.numbers.gone → (s.words.numbers.passed < n) × (n < 2 ^ 60)
    each n some =
        let inv = list_reached z.first z.seats s met.reach met.reached in
        let same = ap (λ (m : Numbers). among n m.gone) inv.numbers in
        let also = ap (λ (m : Numbers). m.passed) inv.numbers in
        let after = (each_once s.journal inv.follows).gone n (omega arith) in
        let counts = ((each_once s.journal inv.follows).waiting n (let a = after.0 in omega arith)).1 in
        ((let a = after.0 in omega arith), by (cases_lt n 1152921504606846976) (omega arith))
      where
        by : (n < 1152921504606846976) ⊎ (1152921504606846976 ≤ n) → 0 < times_forgone n s.journal → n < 2 ^ 60
        by (inl low) some = low
        by (inr high) some = absurd (let none = met.early n high in omega arith)

-- a seat that has edited its record is the same seat
walked_from : (s t u : Token) (from a : ListSeat) (told_it : List ListEntry) (rows : List (ListPlace × ℕ)) → t.table_id ≡ s.table_id → t.me.0 ≡ s.me.0
    → Walked t from u a told_it rows → Walked s from u a told_it rows
walked_from s t u from a told_it rows same own w = record {
  list_is = w.list_is ∙ (λ i. record { id = same i; setting = (own i).own.knows.setting });
  number_is = w.number_is ∙ ap (λ (v : ListView). v.own.number) own;
  stands_is = w.stands_is;
  lands = w.lands;
  strides = w.strides;
  path = subst (λ (v : ListView). ListPath v.own.knows.setting.first v.own.knows.setting.seats v.own.number
      (record { stands = from; seen = v.own.knows.sight.seen }) w.strides u.me.0.own.knows.sight) own w.path;
  ran = w.ran;
  rows_are = w.rows_are;
  told_is = w.told_is;
  all = w.all ∙ ap (λ (v : ListView). v.own.gone ++ w.strides) own;
}

-- O7: the first is passed
module _ (l : ListModel) (s : Token) (h ticket : ℕ) (may : MayGrant l s h ticket) where
  abbrev world : ListWorld
  world = may.lands.world

  laws : ReachedList (setting_of s).first (setting_of s).seats world
  laws = laws_of (setting_of s) world may.lands.met

  at : (world.seats s.me.0.own.number).place ≡ NotifyingOne h (O7 ticket)
  at = ap (λ (y : ListSight). y.stands.place) (sym may.lands.sees) ∙ may.at

  same : guarded_of s ≡ guarded_in world.words
  same = may.lands.guarded

  pub may_pass_one : MayPass l s (guarded_of s) ticket
  may_pass_one = record {
    list_is = may.list_is;
    has = may.record_is;
    gone_early = subst (λ (g : Guarded). AreEarly g.passed g.gone) (sym same) (gone_early (setting_of s) world may.lands.met);
    ticket_is =
        (known_at (setting_of s).first (setting_of s).seats world s.me.0.own.number laws.invariant may.there (NotifyingOne h (O7 ticket)) at).0
        ∙ laws.invariant.words.1 ∙ (λ i. word_of (may.list_is i).setting.first (sym same i).passed);
  }

  next_one : IsNext (guarded_of s).passed (guarded_of s).gone (one_granted (guarded_of s)).passed
  next_one = record {
    after = let from = skipped_from (length (guarded_of s).gone) (guarded_of s).gone ((guarded_of s).passed + 1) in omega arith;
    between = λ n a b. skipped_gone (length (guarded_of s).gone) (guarded_of s).gone ((guarded_of s).passed + 1) n (omega arith) b;
    left = first_is_left (guarded_of s).gone ((guarded_of s).passed + 1);
  }

  module _ (next : ℕ) (t : Token) (over : PassedOver s (guarded_of s) next t) where
    edit : (next ≡ word_of (setting_of s).first (one_granted (guarded_of s)).passed) × Edited s (one_granted (guarded_of s)) t
    edit = over (one_granted (guarded_of s)).passed (one_granted (guarded_of s)).gone next_one
        (λ n after. (among_forgotten (one_granted (guarded_of s)).passed n (guarded_of s).gone).1 after)

    own : t.me.0 ≡ s.me.0
    own = ap (λ (m : Me). m.0) edit.1.1.1

    pub may_store : MayStore l t h ticket next
    may_store = record {
      list_is = list_edited s t (one_granted (guarded_of s)) edit.1 ∙ may.list_is;
      there = subst (λ (v : ListView). v.own.number < v.own.knows.setting.seats) (sym own) may.there;
      few = subst (λ (v : ListView). v.own.knows.setting.seats ≤ 65536) (sym own) may.few;
      empty = ap (λ (v : ListView). v.own.knows.sight.stands.hand) own ∙ may.empty;
      at = ap (λ (v : ListView). v.own.knows.sight.stands.place) own ∙ may.at;
      next_is = edit.0 ∙ ap (λ (v : ListView). word_of v.own.knows.setting.first (one_granted (guarded_by v.own.knows)).passed) (sym own);
      has = (
        edit.1.1.0,
        ap (λ (m : Me). m.1) edit.1.1.1,
        subst (λ (v : ListView). IsRecord v.own.knows.setting edit.1.1.0 (one_granted (guarded_by v.own.knows))) (sym own) edit.1.1.2,
      );
    }

    -- a seat that has edited its record is the same seat
    pub granted_from : (u : Token) → GrantedOne t h ticket u → GrantedOne s h ticket u
    granted_from u granted = record {
      before = granted.before;
      later = subst (λ (v : ListView). GoesOn granted.before v.own.knows.sight.seen) own granted.later;
      seen = subst (λ (v : ListView). GoesOn (seen_of u) (granted.before ++ Granted ((told granted.before).passed + 1) v.own.number ∷ [])) own granted.seen;
      handed = granted.handed;
      word_is = granted.word_is ∙ ap (λ (v : ListView). word_of v.own.knows.setting.first (told granted.before).passed) own;
      bare = granted.bare;
      walked = by granted.walked;
    }
      where
        by : Walked t (stands_of t) u (at_place Rest (stands_of t)) (Granted ((told granted.before).passed + 1) t.me.0.own.number ∷ []) (grant_rows h ticket)
            ⊎ Walked t (stands_of t) u (at_place Rest (stands_of t)) (Granted ((told granted.before).passed + 1) t.me.0.own.number ∷ [])
            (grant_rows h ticket ++ grants_it h)
            → Walked s (stands_of s) u (at_place Rest (stands_of s)) (Granted ((told granted.before).passed + 1) s.me.0.own.number ∷ []) (grant_rows h ticket)
            ⊎ Walked s (stands_of s) u (at_place Rest (stands_of s)) (Granted ((told granted.before).passed + 1) s.me.0.own.number ∷ [])
            (grant_rows h ticket ++ grants_it h)
        by walked = subst (λ (v : ListView). Walked s v.own.knows.sight.stands u (at_place Rest v.own.knows.sight.stands)
            (Granted ((told granted.before).passed + 1) v.own.number ∷ []) (grant_rows h ticket)
            ⊎ Walked s v.own.knows.sight.stands u (at_place Rest v.own.knows.sight.stands) (Granted ((told granted.before).passed + 1) v.own.number ∷ [])
            (grant_rows h ticket ++ grants_it h)) own (either walked)
          where
            either : Walked t (stands_of t) u (at_place Rest (stands_of t)) (Granted ((told granted.before).passed + 1) t.me.0.own.number ∷ []) (grant_rows h ticket)
                ⊎ Walked t (stands_of t) u (at_place Rest (stands_of t)) (Granted ((told granted.before).passed + 1) t.me.0.own.number ∷ [])
                (grant_rows h ticket ++ grants_it h)
                → Walked s (stands_of t) u (at_place Rest (stands_of t)) (Granted ((told granted.before).passed + 1) t.me.0.own.number ∷ []) (grant_rows h ticket)
                ⊎ Walked s (stands_of t) u (at_place Rest (stands_of t)) (Granted ((told granted.before).passed + 1) t.me.0.own.number ∷ [])
                (grant_rows h ticket ++ grants_it h)
            either (inl w) = inl (walked_from s t u _ _ _ _ edit.1.0 own w)
            either (inr w) = inr (walked_from s t u _ _ _ _ edit.1.0 own w)
