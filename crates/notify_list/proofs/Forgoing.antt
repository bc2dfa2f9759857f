-- E2 and E3: the ticket of a seat that leaves is gone.
use Rattle.std.proofs.Common.{◌≡◌, ◌≢◌, ℕ, suc, ◌+◌, ◌<◌, ◌≤◌, ◌⊎◌, ◌^◌, nat_lt, List, [], ◌∷◌, ◌++◌, length, refl, sym, ap, ap₂, ◌∙◌, subst}
use Rattle.std.proofs.Common.{inl, inr, arith}
use Rattle.std.proofs.lemmas.Bool.{cases_lt}
use Rattle.step_table.specs.declared.list_place.ListPlace.TheVariants.{Waiting}
use Rattle.step_table.specs.declared.list_place.ListParkedRow.TheVariants.{E2, E3}
use Rattle.step_table.specs.declared.list_place.Ticket.{Ticket}
use Rattle.step_table.specs.declared.list_place.WaitRow.TheVariants.{E4, Parked}
use Rattle.step_table.specs.Counting.{on, among}
use Rattle.step_table.specs.Wrapping.{word_of, next_word, less}
use Rattle.step_table.specs.ListWorld.{ListSeat, ListWorld, Forgone, with_gone, first_left, without_seat}
use Rattle.step_table.proofs.Sums.{on_here, on_else}
use Rattle.step_table.proofs.Skipping.{skipped_from, skipped_gone, first_is_left, none_skipped, among_more, among_forgotten, words_more}
use Rattle.step_table.proofs.Wrapping.{word_near}
use Rattle.step_law_lists.specs.ListLawful.{times_forgone, IsInReach}
use Rattle.step_law_lists.specs.ListInvariant.{Knows}
use Rattle.step_law_lists.specs.ListPath.{ListSight}
use Rattle.step_law_lists.specs.ListPlaces.{ReachedList}
use Rattle.step_law_lists.proofs.ListHanding.{few as few_out, parked_stays}
use Rattle.step_law_lists.proofs.ListJournals.{forgone_more, within_more}
use Rattle.step_law_lists.proofs.ListKeeping.{within_of, near_of, told_gone}
use Rattle.step_law_lists.proofs.ListLawfulness.{known_at}
use Rattle.step_law_lists.proofs.ListWriting.{passing_words}
use Rattle.running_rows.specs.Strides.{RanRow, here}
use Rattle.notify_list.specs.declared.view.Setting.{Setting}
use Rattle.notify_list.specs.Places.{at_place}
use Rattle.notify_list.specs.Plays.{Me, ListView, standing}
use Rattle.notify_list.specs.Rows.{list_rows}
use Rattle.notify_list.specs.Rule.{Guarded, guarded_in, guarded_by, IsRecord}
use Rattle.notify_list.specs.Seats.{ListModel, Token, list_of, guarded_of, queue_of, with_queue, setting_of, stands_of, seen_of}
use Rattle.notify_list.specs.LiveTickets.{AreEarly, IsNext}
use Rattle.notify_list.specs.Records.{MayPass, PassedOver, MayGo, HasGone}
use Rattle.notify_list.specs.Walks.{Walked, HasRecord, Edited}
use Rattle.notify_list.specs.LeavingRows.{MayForgo, Forwent, MayLetGo, LetGo, one_gone}
use Rattle.notify_list.proofs.Going.{leaves_so}
use Rattle.notify_list.proofs.Keeping.{RunsIn, laws_of}
use Rattle.notify_list.proofs.Leading.{Ran, Led, led, ran_edited}
use Rattle.notify_list.proofs.Passing.{gone_early}
use Rattle.notify_list.proofs.Recording.{list_edited}
use Rattle.notify_list.proofs.Walking.{walked_row, walked_on}

-- the record
module _ (l : ListModel) (s : Token) (ticket : Ticket) (word notified : ℕ) (may : MayLetGo l s ticket word notified) where
  abbrev world : ListWorld
  world = may.lands.world

  abbrev i : ℕ
  i = s.me.0.own.number

  abbrev m : ℕ
  m = ticket.number

  abbrev g : Guarded
  g = guarded_of s

  abbrev others : Guarded
  others = with_queue (without_seat s.me.0.own.number (queue_of s)) (guarded_of s)

  laws : ReachedList (setting_of s).first (setting_of s).seats world
  laws = laws_of (setting_of s) world may.lands.met

  at : (world.seats i).place ≡ Waiting ticket (Parked (E3 notified))
  at = ap (λ (y : ListSight). y.stands.place) (sym may.lands.sees) ∙ may.at

  knows : Knows (setting_of s).first world.words i (Waiting ticket (Parked (E3 notified))) (world.seats i).late
  knows = known_at (setting_of s).first (setting_of s).seats world i laws.invariant may.there (Waiting ticket (Parked (E3 notified))) at

  same : guarded_of s ≡ guarded_in world.words
  same = may.lands.guarded

  passed_is : g.passed ≡ world.words.numbers.passed
  passed_is = ap (λ (x : Guarded). x.passed) same

  -- it is early, and wasn't passed
  so : (m < 2 ^ 60) × (g.passed ≤ m)
  so = let both = leaves_so (setting_of s) world may.few may.lands.met i may.there ticket notified at in let p = passed_is in (both.0, (let le = both.1 in omega arith))

  early : AreEarly g.passed g.gone
  early = subst (λ (x : Guarded). AreEarly x.passed x.gone) (sym same) (gone_early (setting_of s) world may.lands.met)

  stays : among m g.gone ≡ 0
  stays = ap (λ (x : Guarded). among m x.gone) same
      ∙ sym (told_gone (setting_of s).first (setting_of s).seats world laws.invariant m (let le = so.1 in let p = passed_is in omega arith))
      ∙ parked_stays (setting_of s).seats world i ticket (E3 notified) laws.invariant.tickets may.there at

  first_stays : among g.passed g.gone ≡ 0
  first_stays = by (cases_lt 0 (among g.passed g.gone))
    where
      by : (0 < among g.passed g.gone) ⊎ (among g.passed g.gone ≤ 0) → among g.passed g.gone ≡ 0
      by (inl some) = absurd (let after = early.after g.passed some in omega arith)
      by (inr none) = omega arith

  notified_is : notified ≡ word_of (setting_of s).first g.passed
  notified_is = knows.3 ∙ laws.invariant.words.1 ∙ ap (word_of (setting_of s).first) (sym passed_is)

  ticket_is : word ≡ word_of (setting_of s).first m
  ticket_is = sym may.word_is ∙ knows.0.0

  setting_is : (setting_of s) ≡ l.setting
  setting_is = ap (λ (y : ListModel). y.setting) may.list_is

  abbrev more : List ℕ
  more = with_gone nat_lt ticket.number (guarded_of s).gone

  abbrev next : ℕ
  next = (one_gone s.me.0.own.number ticket.number (guarded_of s)).passed

  left_after : (n : ℕ) → next ≤ n → among n (one_gone i m g).gone ≡ among n g.gone + on n m 1
  left_after n after = (among_forgotten next n more).1 after ∙ among_more nat_lt n m g.gone

  -- it is the first
  module _ (is : word ≡ notified) where
    first_is : g.passed ≡ m
    first_is = word_near (setting_of s).first g.passed m (sym notified_is ∙ sym is ∙ ticket_is) so.1 (let low = so.0 in omega arith)

    pub may_pass : MayPass l s (with_queue (without_seat s.me.0.own.number (queue_of s)) (guarded_of s)) word
    may_pass = record {
      list_is = may.list_is;
      has = may.has;
      gone_early = early;
      ticket_is = ticket_is ∙ ap (word_of (setting_of s).first) (sym first_is) ∙ ap (λ (z : Setting). word_of z.first (guarded_of s).passed) setting_is;
    }

    is_next : IsNext g.passed g.gone next
    is_next = record {
      after = by (cases_lt g.passed next);
      between = λ n after before. (
          let some = skipped_gone (length more) more g.passed n (omega arith) before in
          let sum = among_more nat_lt n m g.gone in let e = first_is in let off = on_else n m 1 (λ q. omega arith) in omega arith);
      left = let none = first_is_left more g.passed in let sum = among_more nat_lt next m g.gone in omega arith;
    }
      where
        by : (g.passed < next) ⊎ (next ≤ g.passed) → g.passed < next
        by (inl after) = after
        by (inr before) =
            let from = skipped_from (length more) more g.passed in let none = first_is_left more g.passed in
            let sum = among_more nat_lt next m g.gone in let e = first_is in
            let here = ap (λ k. on k m 1) (let q : next ≡ m = omega arith in q) ∙ on_here m 1 in absurd (omega arith)

    pub passed_first : (t : Token) (result : ℕ) → PassedOver s (with_queue (without_seat s.me.0.own.number (queue_of s)) (guarded_of s)) result t
        → LetGo s ticket.number result t
    passed_first t result over = over next (one_gone i m g).gone is_next
        (λ n after. (let sum = left_after n after in let e = first_is in let a = is_next.after in let off = on_else n m 1 (λ q. omega arith) in omega arith))

  -- it isn't
  module _ (ne : word ≢ notified) where
    later : g.passed < m
    later = by (cases_lt g.passed m)
      where
        by : (g.passed < m) ⊎ (m ≤ g.passed) → g.passed < m
        by (inl after) = after
        by (inr before) = let le = so.1 in let e : m ≡ g.passed = omega arith in
            absurd (ne (ticket_is ∙ ap (word_of (setting_of s).first) e ∙ sym notified_is))

    pub may_go : MayGo l s (with_queue (without_seat s.me.0.own.number (queue_of s)) (guarded_of s)) ticket.number word
    may_go = record {
      list_is = may.list_is;
      has = may.has;
      may = record {
        gone_early = early;
        ticket_is = ticket_is ∙ ap (λ (z : Setting). word_of z.first ticket.number) setting_is;
        after = later;
        early = so.0;
        stays = stays;
        fits =
            let most = few_out (setting_of s).seats world laws.invariant.tickets (λ k there. (laws.invariant.seats_known k there).only)
            (told_gone (setting_of s).first (setting_of s).seats world laws.invariant) laws.invariant.words.2 in
            let low = knows.0.1 in let p = passed_is in let many = ap (λ (x : Guarded). length x.gone) same in
            let seats = ap (λ (z : Setting). z.seats) setting_is in omega arith;
      };
    }

    first_left_is : next ≡ g.passed
    first_left_is = none_skipped more g.passed
        (let sum = among_more nat_lt g.passed m g.gone in let a = later in let off = on_else g.passed m 1 (λ q. omega arith) in let none = first_stays in omega arith)

    all_left : (n : ℕ) → among n (one_gone i m g).gone ≡ among n g.gone + on n m 1
    all_left n = by (cases_lt n next) (cases_lt 0 (among n g.gone))
      where
        by : (n < next) ⊎ (next ≤ n) → (0 < among n g.gone) ⊎ (among n g.gone ≤ 0) → among n (one_gone i m g).gone ≡ among n g.gone + on n m 1
        by (inr after) any = left_after n after
        by (inl before) (inl some) = absurd (let after = early.after n some in let e = first_left_is in omega arith)
        by (inl before) (inr none) =
            let forgot = (among_forgotten next n more).0 before in let e = first_left_is in let a = later in
            let off = on_else n m 1 (λ q. omega arith) in omega arith

    pub gone_later : (t : Token) → HasGone s (with_queue (without_seat s.me.0.own.number (queue_of s)) (guarded_of s)) ticket.number t
        → LetGo s ticket.number notified t
    gone_later t went = (
      notified_is ∙ ap (word_of (setting_of s).first) (sym first_left_is),
      subst (λ p. Edited s (record {
        queue = without_seat s.me.0.own.number (queue_of s);
        passed = p;
        gone = (one_gone s.me.0.own.number ticket.number (guarded_of s)).gone;
      }) t) (sym first_left_is)
          (went (one_gone i m g).gone all_left),
    )

-- in a world that the seat meets at E3, this is the word that is stored
pub stores_gone : (z : Setting) (i : ℕ) (t : Ticket) (v next : ℕ) (g : Guarded) (w : ListWorld) → next ≡ word_of z.first (one_gone i t.number g).passed
    → ReachedList z.first z.seats w → IsInReach w.journal → i < z.seats → (w.seats i).place ≡ Waiting t (Parked (E3 v)) → g ≡ guarded_in w.words
    → w.words.numbers.passed ≤ t.number → next ≡ first_left next_word (with_gone less t.word w.words.gone) v
stores_gone z i t v next g w next_is laws reach there at held least =
    let first : ℕ = z.first in let inv = laws.invariant in let n = w.words.numbers in
    let knows = known_at first z.seats w i inv there (Waiting t (Parked (E3 v))) at in
    let within = within_of first z.seats w inv in let near = near_of first z.seats w reach inv in
    let all = within_more n.passed n.handed t.number n.gone within least knows.0.1 in
    let is = passing_words first n.handed n.passed n.passed (with_gone nat_lt t.number n.gone) all near (omega arith) inv.words.2 in
    let list : with_gone less t.word w.words.gone ≡ Rattle.std.proofs.Common.map (word_of first) (with_gone nat_lt t.number n.gone)
    = ap₂ (λ l k. with_gone less k l) inv.words.3 knows.0.0 ∙ sym (words_more first t.number n.passed n.handed n.gone within near least knows.0.1) in
    let start : v ≡ word_of first n.passed = knows.3 ∙ inv.words.1 in
    next_is ∙ ap (λ (x : Guarded). word_of first (one_gone i t.number x).passed) held ∙ sym is.0 ∙ sym (ap₂ (first_left next_word) list start)

module _ (l : ListModel) (s t : Token) (word : ℕ) (may : MayForgo l s word t) where
  own : t.me.0 ≡ s.me.0
  own = ap (λ (m : Me). m.0) may.out.1.1

  pub list_forgo : list_of t ≡ l
  list_forgo = list_edited s t _ may.out ∙ may.list_is

  abbrev at2 : ListSeat
  at2 = at_place (Waiting may.ticket (Parked E2)) (stands_of s)

  stands2 : stands_of s ≡ at_place (Waiting may.ticket (Parked E2)) (stands_of s)
  stands2 = λ i. record (stands_of s) { place = may.at i }

  pub stands_forgo : stands_of t ≡ at_place (Waiting may.ticket (Parked E2)) (stands_of s)
  stands_forgo = ap (λ (v : ListView). v.own.knows.sight.stands) own ∙ stands2

  -- E2
  module _ (u : Token) (v : ℕ) (r : RanRow list_rows here t.me v u.me) (same : u.table_id ≡ t.table_id) where
    row2 : Ran at2 s.me.0.own v u.me.0.own
    row2 = ran_edited s t u at2 v (ap (λ (x : ListView). x.own) own) stands2 r

    d2 : Led at2 s.me.0.own v u.me.0.own row2.stride
    d2 = led at2 s.me.0.own u.me.0.own v row2

    abbrev at3 : ListSeat
    at3 = at_place (Waiting may.ticket (Parked (E3 v))) (stands_of s)

    w2 : Walked s at2 u (at_place (Waiting may.ticket (Parked (E3 v))) (stands_of s)) [] ((Waiting may.ticket (Parked E2), v) ∷ [])
    w2 = walked_row s u at2 v at3 [] row2 (same ∙ may.out.0) d2.stands d2.told

    guarded2 : guarded_of u ≡ guarded_of s
    guarded2 = d2.guarded ∙ sym (d2.held refl)

    few2 : (setting_of u).seats ≤ 65536
    few2 = let e = ap (λ (z : ListModel). z.setting.seats) w2.list_is in let f = may.few in omega arith

    there2 : u.me.0.own.number < (setting_of u).seats
    there2 = let e = ap (λ (z : ListModel). z.setting.seats) w2.list_is in let f = may.there in let n = w2.number_is in omega arith

    pub may_let_go : MayLetGo l u may.ticket word v
    may_let_go = record {
      list_is = w2.list_is ∙ may.list_is;
      there = there2;
      few = few2;
      at = ap (λ (a : ListSeat). a.place) w2.stands_is;
      word_is = may.word_is;
      lands = w2.lands;
      has = (
        may.out.1.0,
        ap (λ (m : Me). m.1) r.1 ∙ ap (λ (m : Me). m.1) may.out.1.1,
        subst (λ (q : Setting × (ℕ × Guarded)). IsRecord q.0 may.out.1.0 (with_queue (without_seat q.1.0 q.1.1.queue) q.1.1))
            (λ j. (sym row2.same.1 j, (sym row2.same.0 j, sym guarded2 j))) may.out.1.2,
      );
    }

    module _ (next : ℕ) (y : Token) (go : LetGo u may.ticket.number next y) where
      pub list_let_go : list_of y ≡ l
      list_let_go = list_edited u y _ go.1 ∙ w2.list_is ∙ may.list_is

      pub stands_let_go : stands_of y ≡ at_place (Waiting may.ticket (Parked (E3 v))) (stands_of s)
      stands_let_go = ap (λ (m : Me). m.0.own.knows.sight.stands) go.1.1.1 ∙ w2.stands_is

      -- the word that is stored is that of the table
      pub stores_it : (w : ListWorld) (n : ℕ) → RunsIn y.me.0.own.number (standing (at_place (Waiting may.ticket (Parked (E3 v))) (stands_of s)) y.me.0.own.knows) w 1 n
          → next ≡ first_left next_word (with_gone less may.ticket.word w.words.gone) v
      stores_it w n known =
          let there_at = ap (λ (a : ListSeat). a.place) known.knows.meets.stands in
          stores_gone (setting_of y) y.me.0.own.number may.ticket v next (guarded_of y) w
          (subst (λ (q : ListView). next ≡ word_of q.own.knows.setting.first (one_gone q.own.number may.ticket.number (guarded_by q.own.knows)).passed)
          (sym (ap (λ (m : Me). m.0) go.1.1.1)) go.0)
          known.laws known.met.reach known.there there_at (known.knows.held refl)
          (leaves_so (setting_of y) w known.few known.met y.me.0.own.number known.there may.ticket v there_at).1

      -- E3
      module _ (x : Token) (n : ℕ) (p : RanRow list_rows here y.me n x.me) (last : x.table_id ≡ y.table_id) where
        row3 : Ran at3 u.me.0.own n x.me.0.own
        row3 = ran_edited u y x at3 n (ap (λ (m : Me). m.0.own) go.1.1.1) w2.stands_is p

        d3 : Led at3 u.me.0.own n x.me.0.own row3.stride
        d3 = led at3 u.me.0.own x.me.0.own n row3

        laws3 : ReachedList (setting_of u).first (setting_of u).seats d3.world
        laws3 = laws_of (setting_of u) d3.world d3.met

        place3 : (d3.world.seats u.me.0.own.number).place ≡ Waiting may.ticket (Parked (E3 v))
        place3 = ap (λ (a : ListSeat). a.place) d3.stood

        read3 : n ≡ v
        read3 = d3.read ∙ sym (known_at (setting_of u).first (setting_of u).seats d3.world u.me.0.own.number laws3.invariant row3.also.there
            (Waiting may.ticket (Parked (E3 v))) place3).3

        abbrev at4 : ListSeat
        at4 = at_place (Waiting may.ticket E4) (stands_of s)

        w3 : Walked s at2 x at4 (Forgone may.ticket.number s.me.0.own.number ∷ [])
            ((Waiting may.ticket (Parked E2), v) ∷ (Waiting may.ticket (Parked (E3 v)), v) ∷ [])
        w3 = walked_on s u x at2 at3 at4 [] (Forgone may.ticket.number s.me.0.own.number ∷ []) ((Waiting may.ticket (Parked E2), v) ∷ [])
            ((Waiting may.ticket (Parked (E3 v)), v) ∷ []) w2
            (subst (λ k. Walked u at3 x at4 (Forgone may.ticket.number s.me.0.own.number ∷ []) ((Waiting may.ticket (Parked (E3 v)), k) ∷ [])) read3
            (walked_row u x at3 n at4 (Forgone may.ticket.number s.me.0.own.number ∷ []) row3 (last ∙ go.1.0) d3.stands
            (d3.told ∙ ap (λ k. Forgone may.ticket.number k ∷ []) w2.number_is)))

        guarded3 : one_gone u.me.0.own.number may.ticket.number (guarded_of u) ≡ guarded_of x
        guarded3 = ap (one_gone u.me.0.own.number may.ticket.number) (d3.held refl) ∙ sym d3.guarded

        record3 : HasRecord x
        record3 = (
          go.1.1.0,
          ap (λ (m : Me). m.1) p.1 ∙ ap (λ (m : Me). m.1) go.1.1.1,
          subst (λ (q : Setting × Guarded). IsRecord q.0 go.1.1.0 q.1) (λ j. (sym row3.same.1 j, guarded3 j)) go.1.1.2,
        )

        gone3 : times_forgone may.ticket.number (seen_of x) ≡ 1
        gone3 =
            let seen : seen_of x ≡ d3.world.journal ++ Forgone may.ticket.number u.me.0.own.number ∷ []
            = d3.seen ∙ (λ j. d3.seen_is j ++ d3.told j) in
            let none = parked_stays (setting_of u).seats d3.world u.me.0.own.number may.ticket (E3 v) laws3.invariant.tickets row3.also.there place3 in
            let more = forgone_more may.ticket.number d3.world.journal (Forgone may.ticket.number u.me.0.own.number) in
            let here = on_here may.ticket.number 1 in
            let same = ap (times_forgone may.ticket.number) seen in omega arith

        pub forwent : Forwent s word x
        forwent = record {
          ticket = may.ticket;
          at = may.at;
          notified = v;
          walked = subst (λ (a : ListSeat). Walked s a x (at_place (Waiting may.ticket E4) (stands_of s)) (Forgone may.ticket.number s.me.0.own.number ∷ [])
              ((Waiting may.ticket (Parked E2), v) ∷ (Waiting may.ticket (Parked (E3 v)), v) ∷ [])) (sym stands2) w3;
          gone = gone3;
          record_is = record3;
        }
