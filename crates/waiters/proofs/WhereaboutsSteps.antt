-- What lists know of their seats, after each call.
use Rattle.std.proofs.Common.{◌≡◌, ◌≢◌, ◌⊎◌, ℕ, ◌+◌, ◌-◌, ◌<◌, List, [], ◌∷◌, ◌++◌, get_or, Option, Some, None}
use Rattle.std.proofs.Common.{refl, sym, ap, ◌∙◌, subst, inl, inr, arith, append_assoc}
use Rattle.slab.specs.Slab.{Slab, get, ContainsKey, Updates, with_value, SameValues}
use Rattle.waiters.specs.declared.wait.Wait.{Wait}
use Rattle.waiters.specs.declared.lists.Record.{Record}
use Rattle.waiters.specs.declared.lists.Chain.{Chain}
use Rattle.waiters.specs.declared.lists.Place.{Place}
use Rattle.waiters.specs.Chains.{waits_in, waits_of, Linked, last_key, Owned, IsChain, AreChained, Appends, Prepends, Unlinks, StandsAt}
use Rattle.waiters.specs.declared.lists.whereabouts.Whereabouts.TheVariants.{Only, Anywhere}
use Rattle.waiters.specs.Whereabouts.{Known, known_of, Allows, Learns, Forgets, StandsThere, AreKnown}
use Rattle.waiters.proofs.ChainLemmas.{Linked-split, last_key-append, Avoids, Avoids-longer, Avoids-shorter, Avoids-split, Owned-split}
use Rattle.waiters.proofs.StepLemmas.{mine, appended, prepended, unlinked}
use Rattle.waiters.proofs.OtherLemmas.{waits_in-Links}
use Rattle.waiters.proofs.CloneLemmas.{same_links}
use Rattle.waiters.proofs.WhereaboutsLemmas.{WaitsBack, Relinks-back, Came, stands_record, known_put, known_left}

-- one list split at two records
two_splits : (P : List (ℕ × Wait)) (k : ℕ × Wait) (R Q : List (ℕ × Wait)) (l : ℕ × Wait) (S : List (ℕ × Wait)) → P ++ k ∷ R ≡ Q ++ l ∷ S → l.0 ≢ k.0
    → ((M : List (ℕ × Wait)) × (P ≡ Q ++ l ∷ M) × (S ≡ M ++ k ∷ R)) ⊎ ((M : List (ℕ × Wait)) × (R ≡ M ++ l ∷ S) × (Q ≡ P ++ k ∷ M))
two_splits [] k R [] l S e apart = let same : k ≡ l = cc in absurd (apart (ap (λ (x : ℕ × Wait). x.0) (sym same)))
two_splits [] k R (q ∷ Q) l S e apart =
    let head : k ≡ q = cc in let tail : R ≡ Q ++ l ∷ S = cc in inr (Q, tail, ap (λ x. x ∷ Q) (sym head))
two_splits (p ∷ P) k R [] l S e apart =
    let head : p ≡ l = cc in let tail : P ++ k ∷ R ≡ S = cc in inl (P, ap (λ x. x ∷ P) head, sym tail)
two_splits (p ∷ P) k R (q ∷ Q) l S e apart =
    let head : p ≡ q = cc in let tail : P ++ k ∷ R ≡ Q ++ l ∷ S = cc in by head (two_splits P k R Q l S tail apart)
  where
    by : p ≡ q → ((M : List (ℕ × Wait)) × (P ≡ Q ++ l ∷ M) × (S ≡ M ++ k ∷ R)) ⊎ ((M : List (ℕ × Wait)) × (R ≡ M ++ l ∷ S) × (Q ≡ P ++ k ∷ M))
        → ((M : List (ℕ × Wait)) × (p ∷ P ≡ (q ∷ Q) ++ l ∷ M) × (S ≡ M ++ k ∷ R)) ⊎ ((M : List (ℕ × Wait)) × (R ≡ M ++ l ∷ S) × (q ∷ Q ≡ (p ∷ P) ++ k ∷ M))
    by head (inl (M, a, b)) = inl (M, (λ i. head i ∷ a i), b)
    by head (inr (M, a, b)) = inr (M, a, (λ i. sym head i ∷ b i))

-- a record is none of those after it, and none of those before it
module _ (records : Slab Record) (here : Option ℕ) (front : List (ℕ × Wait)) (k : ℕ × Wait) (back : List (ℕ × Wait))
    (linked : Linked records here (front ++ k ∷ back) None) where
  suffix : Linked records (Some k.0) (k ∷ back) None
  suffix = let parts = Linked-split records front here (k ∷ back) None linked in (parts.2.0, refl, parts.2.2, parts.2.3)

  pub after_apart : Avoids (Some k.0) back
  after_apart = Avoids-shorter records k.0 (k ∷ back) back suffix.0 suffix suffix.3 (omega arith)

  pub before_apart_all : Avoids (Some k.0) front
  before_apart_all = Avoids-longer records k.0 (k ∷ back) front here suffix linked

module _ (records : Slab Record) (chains : Slab Chain) (room list_room : ℕ) (old : AreChained records chains room list_room) (seats : Known)
    (known : AreKnown records chains seats) (list : ℕ) (chain : Chain) (is_open : get chains list ≡ Some chain) where
  abbrev own : IsChain records old.owner list chain
  own = mine records chains room list_room old list chain is_open

  -- after a push at the end
  module _ (later : Slab Record) (wait : Wait) (longer : Chain) (appends : Appends records later chain wait longer) (some : 0 < room) where
    pub known_appended : (seats2 : Known)
        → Learns later seats seats2 list (record { before = chain.last; key = appends.key }) None → AreKnown later (with_value chains list longer) seats2
    known_appended seats2 learns =
        known_put records chains room list_room old seats known list chain is_open later longer (own.entries ++ (appends.key, wait) ∷ []) (room - 1)
        (appended records chains room list_room old list chain is_open later wait longer appends some) seats2 appends.key wait chain.last None appends.vacant
        there back (λ other e. absurd cc) (λ other e. absurd cc) own.entries [] refl own.links.ends moves learns
      where
        middle_back : WaitsBack appends.middle later
        middle_back = Relinks-back appends.middle later chain.first chain.last (Some appends.key) longer.first appends.relinked

        there : (found : Record) → get later appends.key ≡ Some found → found.wait ≡ wait
        there found read =
            let was = middle_back appends.key found read in
            let is : was.0 ≡ record { wait = wait; next = None } = let e = sym was.1 ∙ appends.added.changed in cc in
            sym was.2 ∙ ap (λ (r : Record). r.wait) is

        back : (at : ℕ) (found : Record) → at ≢ appends.key → get later at ≡ Some found
            → (was : Record) × (get records at ≡ Some was) × (was.wait ≡ found.wait)
        back at found apart read = let was = middle_back at found read in (was.0, sym (appends.added.others at apart) ∙ was.1, was.2)

        moves : (place was : Place) (passed : List (ℕ × Wait)) (w : Wait) (rest : List (ℕ × Wait))
            → passed ++ (was.key, w) ∷ rest ≡ own.entries → was.before ≡ last_key passed → Unit {0} → Came (Some appends.key) None place was
            → (a : List (ℕ × Wait)) × (b : List (ℕ × Wait)) × (own.entries ++ (appends.key, wait) ∷ [] ≡ a ++ (place.key, w) ∷ b)
            × (place.before ≡ last_key a)
        moves place was passed w rest splits before kept is = (
          passed,
          rest ++ (appends.key, wait) ∷ [],
          ap (λ l. l ++ (appends.key, wait) ∷ []) (sym splits) ∙ append_assoc passed ((was.key, w) ∷ rest) ((appends.key, wait) ∷ [])
              ∙ ap (λ (q : Place). passed ++ (q.key, w) ∷ (rest ++ (appends.key, wait) ∷ [])) (sym is),
          ap (λ (q : Place). q.before) is ∙ before,
        )

    pub appended_there : ContainsKey later appends.key
    appended_there =
        let links = (appended records chains room list_room old list chain is_open later wait longer appends some).links in
        rw (stands_record later longer.first None own.entries appends.key wait [] links.linked).1 refl

  -- after a push at the front
  module _ (later : Slab Record) (wait : Wait) (longer : Chain) (prepends : Prepends records later chain wait longer) (some : 0 < room) where
    pub prepended_there : ContainsKey later prepends.key
    prepended_there = rw prepends.added.changed refl

    first_is : (entries : List (ℕ × Wait)) → Linked records chain.first entries None → Owned old.owner list entries → (other : ℕ) → chain.first ≡ Some other
        → (old.owner other ≡ list) × ContainsKey records other
    first_is [] linked owned other e = absurd (let none = sym linked ∙ e in cc)
    first_is (entry ∷ rest) linked owned other e =
        let same : entry.0 ≡ other = let both = sym linked.1 ∙ e in cc in
        (ap old.owner (sym same) ∙ owned.0, rw (← same, linked.2) refl)

    pub known_prepended : (seats2 : Known)
        → Learns later seats seats2 list (record { before = None; key = prepends.key }) chain.first → AreKnown later (with_value chains list longer) seats2
    known_prepended seats2 learns =
        known_put records chains room list_room old seats known list chain is_open later longer ((prepends.key, wait) ∷ own.entries) (room - 1)
        (prepended records chains room list_room old list chain is_open later wait longer prepends some) seats2 prepends.key wait None chain.first
        prepends.vacant there back (λ other e. (first_is own.entries own.links.linked own.owned other e).0)
        (λ other e. (first_is own.entries own.links.linked own.owned other e).1) [] own.entries refl refl moves learns
      where
        there : (found : Record) → get later prepends.key ≡ Some found → found.wait ≡ wait
        there found read =
            let is : found ≡ record { wait = wait; next = chain.first } = let e = sym read ∙ prepends.added.changed in cc in ap (λ (r : Record). r.wait) is

        back : (at : ℕ) (found : Record) → at ≢ prepends.key → get later at ≡ Some found
            → (was : Record) × (get records at ≡ Some was) × (was.wait ≡ found.wait)
        back at found apart read = (found, sym (prepends.added.others at apart) ∙ read, refl)

        first : (f : Option ℕ) (place was : Place) → f ≡ Some was.key → Came (Some prepends.key) f place was
            → place ≡ record { before = Some prepends.key; key = was.key }
        first None place was e came = absurd cc
        first (Some n) place was e (inl (same, is)) = is ∙ ap (λ k. record { before = Some prepends.key; key = k }) (sym same)
        first (Some n) place was e (inr (apart, is)) = absurd (apart (let same : n ≡ was.key = cc in sym same))

        later_one : (f : Option ℕ) (place was : Place) (key : ℕ) → f ≡ Some key → key ≢ was.key → Came (Some prepends.key) f place was → place ≡ was
        later_one None place was key e differs came = absurd cc
        later_one (Some n) place was key e differs (inl (same, is)) = absurd (differs (let here : n ≡ key = cc in sym here ∙ sym same))
        later_one (Some n) place was key e differs (inr (apart, is)) = is

        moves : (place was : Place) (passed : List (ℕ × Wait)) (w : Wait) (rest : List (ℕ × Wait))
            → passed ++ (was.key, w) ∷ rest ≡ own.entries → was.before ≡ last_key passed → Unit {0} → Came (Some prepends.key) chain.first place was
            → (a : List (ℕ × Wait)) × (b : List (ℕ × Wait)) × ((prepends.key, wait) ∷ own.entries ≡ a ++ (place.key, w) ∷ b)
            × (place.before ≡ last_key a)
        moves place was [] w rest splits before kept came =
            let linked = subst (λ l. Linked records chain.first l None) (sym splits) own.links.linked in
            let is = first chain.first place was linked.1 came in (
              (prepends.key, wait) ∷ [],
              rest,
              ap (λ l. (prepends.key, wait) ∷ l) (sym splits) ∙ ap (λ (q : Place). (prepends.key, wait) ∷ (q.key, w) ∷ rest) (sym is),
              ap (λ (q : Place). q.before) is,
            )
        moves place was (e ∷ es) w rest splits before kept came =
            let linked = subst (λ l. Linked records chain.first l None) (sym splits) own.links.linked in
            let apart = before_apart_all records chain.first (e ∷ es) (was.key, w) rest linked in
            let is = later_one chain.first place was e.0 linked.1 apart.0 came in (
              (prepends.key, wait) ∷ e ∷ es,
              rest,
              ap (λ l. (prepends.key, wait) ∷ l) (sym splits)
                  ∙ ap (λ (q : Place). (prepends.key, wait) ∷ e ∷ es ++ (q.key, w) ∷ rest) (sym is),
              ap (λ (q : Place). q.before) is ∙ before,
            )

  -- after a record was taken out
  module _ (later : Slab Record) (place : Place) (wait : Wait) (left : Chain) (stands : StandsAt own.entries place)
      (unlinks : Unlinks records later chain place wait left) (seats2 : Known) (forgets : Forgets records seats seats2 place) where
    abbrev gone : Record
    gone = forgets.0

    whole : Linked records chain.first (stands.passed ++ (place.key, stands.wait) ∷ stands.rest) None
    whole = subst (λ l. Linked records chain.first l None) stands.splits own.links.linked

    tail : (next : Option ℕ) × (get records place.key ≡ Some (record { wait = stands.wait; next = next })) × Linked records next stands.rest None
    tail = let parts = Linked-split records stands.passed chain.first ((place.key, stands.wait) ∷ stands.rest) None whole in
        (parts.2.0, parts.2.2, parts.2.3)

    rest_linked : Linked records gone.next stands.rest None
    rest_linked =
        let is : record { wait = stands.wait; next = tail.0 } ≡ gone = let e = sym tail.1 ∙ forgets.1 in cc in
        subst (λ n. Linked records n stands.rest None) (ap (λ (r : Record). r.next) is) tail.2

    rest_owned : Owned old.owner list stands.rest
    rest_owned = (Owned-split old.owner list stands.passed ((place.key, stands.wait) ∷ stands.rest) (subst (Owned old.owner list) stands.splits own.owned)).1.1

    next_is : (entries : List (ℕ × Wait)) → Linked records gone.next entries None → Owned old.owner list entries → (other : ℕ) → gone.next ≡ Some other
        → old.owner other ≡ list
    next_is [] linked owned other e = absurd (let none = sym linked ∙ e in cc)
    next_is (entry ∷ rest) linked owned other e =
        let same : entry.0 ≡ other = let both = sym linked.1 ∙ e in cc in ap old.owner (sym same) ∙ owned.0

    pub known_unlinked : AreKnown later (with_value chains list left) seats2
    known_unlinked =
        known_left records chains room list_room old seats known list chain is_open later left (stands.passed ++ stands.rest) (room + 1)
        (unlinked records chains room list_room old list chain is_open later place wait left stands unlinks) seats2 place gone forgets.1 back
        (next_is stands.rest rest_linked rest_owned) moves forgets.2.0 forgets.2.1 forgets.2.2
      where
        back : (at : ℕ) (found : Record) → get later at ≡ Some found
            → (at ≢ place.key) × ((was : Record) × (get records at ≡ Some was) × (was.wait ≡ found.wait))
        back at found read =
            let was = Relinks-back unlinks.middle later chain.first place.before unlinks.next left.first unlinks.relinked at found read in
            let apart : at ≢ place.key = λ same. (let none = sym was.1 ∙ ap (get unlinks.middle) same ∙ unlinks.removed.changed in absurd cc) in
            (apart, (was.0, sym (unlinks.removed.others at apart) ∙ was.1, was.2))

        -- it doesn't follow the one that goes
        stays : (f : Option ℕ) (to was : Place) → ((n : ℕ) → f ≡ Some n → was.key ≢ n) → Came place.before f to was → to ≡ was
        stays None to was apart is = is
        stays (Some n) to was apart (inl (same, is)) = absurd (apart n refl same)
        stays (Some n) to was apart (inr (differs, is)) = is

        -- or it does
        follows : (f : Option ℕ) (to was : Place) → f ≡ Some was.key → Came place.before f to was → to ≡ record { before = place.before; key = was.key }
        follows None to was e came = absurd cc
        follows (Some n) to was e (inl (same, is)) = is ∙ ap (λ k. record { before = place.before; key = k }) (sym same)
        follows (Some n) to was e (inr (apart, is)) = absurd (apart (let same : n ≡ was.key = cc in sym same))

        -- the record after it is none of those that avoid this key
        next_apart : (entries : List (ℕ × Wait)) (key : ℕ) → Linked records gone.next entries None → Avoids (Some key) entries → (n : ℕ)
            → gone.next ≡ Some n → key ≢ n
        next_apart [] key linked avoids n e = absurd (let none = sym linked ∙ e in cc)
        next_apart (entry ∷ rest) key linked avoids n e = λ same. avoids.0 (let here : entry.0 ≡ n = (let both = sym linked.1 ∙ e in cc) in here ∙ sym same)

        Moved : Place → Wait → Type 0
        Moved to w = (a : List (ℕ × Wait)) × (b : List (ℕ × Wait)) × (stands.passed ++ stands.rest ≡ a ++ (to.key, w) ∷ b) × (to.before ≡ last_key a)

        behind : (to was : Place) (passed : List (ℕ × Wait)) (w : Wait) (rest M : List (ℕ × Wait)) → stands.rest ≡ M ++ (was.key, w) ∷ rest
            → passed ≡ stands.passed ++ (place.key, stands.wait) ∷ M → was.before ≡ last_key passed → Came place.before gone.next to was → Moved to w
        behind to was passed w rest [] split is before came =
            let linked = subst (λ l. Linked records gone.next l None) split rest_linked in
            let at = follows gone.next to was linked.1 came in (
              stands.passed,
              rest,
              ap (λ l. stands.passed ++ l) split ∙ ap (λ (q : Place). stands.passed ++ (q.key, w) ∷ rest) (sym at),
              ap (λ (q : Place). q.before) at ∙ stands.before,
            )
        behind to was passed w rest (m ∷ M) split is before came =
            let linked = subst (λ l. Linked records gone.next l None) split rest_linked in
            let apart = before_apart_all records gone.next (m ∷ M) (was.key, w) rest linked in
            let at = stays gone.next to was (λ n e same. apart.0 (let here : m.0 ≡ n = (let both = sym linked.1 ∙ e in cc) in here ∙ sym same)) came in (
              stands.passed ++ m ∷ M,
              rest,
              ap (λ l. stands.passed ++ l) split ∙ sym (append_assoc stands.passed (m ∷ M) ((was.key, w) ∷ rest))
                  ∙ ap (λ (q : Place). (stands.passed ++ m ∷ M) ++ (q.key, w) ∷ rest) (sym at),
              ap (λ (q : Place). q.before) at ∙ before ∙ ap last_key is ∙ last_key-append stands.passed (place.key, stands.wait) (m ∷ M)
                  ∙ sym (last_key-append stands.passed m M),
            )

        ahead : (to was : Place) (passed : List (ℕ × Wait)) (w : Wait) (rest M : List (ℕ × Wait)) → stands.passed ≡ passed ++ (was.key, w) ∷ M
            → passed ++ (was.key, w) ∷ rest ≡ own.entries → rest ≡ M ++ (place.key, stands.wait) ∷ stands.rest → was.before ≡ last_key passed
            → Came place.before gone.next to was → Moved to w
        ahead to was passed w rest M split splits is before came =
            let linked = subst (λ l. Linked records chain.first l None) (sym splits) own.links.linked in
            let avoids = subst (Avoids (Some was.key)) is (after_apart records chain.first passed (was.key, w) rest linked) in
            let after = (Avoids-split was.key M ((place.key, stands.wait) ∷ stands.rest) avoids).1.1 in
            let at = stays gone.next to was (next_apart stands.rest was.key rest_linked after) came in (
              passed,
              M ++ stands.rest,
              ap (λ l. l ++ stands.rest) split ∙ append_assoc passed ((was.key, w) ∷ M) stands.rest
                  ∙ ap (λ (q : Place). passed ++ (q.key, w) ∷ (M ++ stands.rest)) (sym at),
              ap (λ (q : Place). q.before) at ∙ before,
            )

        moves : (to was : Place) (passed : List (ℕ × Wait)) (w : Wait) (rest : List (ℕ × Wait))
            → passed ++ (was.key, w) ∷ rest ≡ own.entries → was.before ≡ last_key passed
            → was.key ≢ place.key → Came place.before gone.next to was → Moved to w
        moves to was passed w rest splits before apart came =
            by (two_splits stands.passed (place.key, stands.wait) stands.rest passed (was.key, w) rest (sym stands.splits ∙ sym splits) apart)
          where
            by : ((M : List (ℕ × Wait)) × (stands.passed ≡ passed ++ (was.key, w) ∷ M) × (rest ≡ M ++ (place.key, stands.wait) ∷ stands.rest))
                ⊎ ((M : List (ℕ × Wait)) × (stands.rest ≡ M ++ (was.key, w) ∷ rest) × (passed ≡ stands.passed ++ (place.key, stands.wait) ∷ M))
                → Moved to w
            by (inl (M, split, is)) = ahead to was passed w rest M split splits is before came
            by (inr (M, split, is)) = behind to was passed w rest M split is before came

-- where no record changes, and each list with a record keeps its chain
known_kept : (records : Slab Record) (chains next : Slab Chain) (seats : Known) → AreKnown records chains seats
    → ((seat list : ℕ) (place : Place) (x : StandsThere records chains seat list place) → get next list ≡ Some x.chain) → AreKnown records next seats
known_kept records chains next seats known keeps = record {
  allowed = known.allowed;
  stands = λ seat list place e. let x = known.stands seat list place e in record {
    chain = x.chain;
    is_open = keeps seat list place x;
    passed = x.passed;
    wait = x.wait;
    rest = x.rest;
    links = x.links;
    before = x.before;
    own = x.own;
  };
}

pub known_opened : (records : Slab Record) (chains next : Slab Chain) (seats : Known) (list : ℕ) (chain : Chain) → get chains list ≡ None
    → Updates chains next list (Some chain) → AreKnown records chains seats → AreKnown records next seats
known_opened records chains next seats list chain vacant updates known = known_kept records chains next seats known
    (λ seat other place x. updates.others other
    (λ same. (let none = sym vacant ∙ ap (get chains) (sym same) ∙ x.is_open in absurd cc)) ∙ x.is_open)

pub known_closed : (records : Slab Record) (chains next : Slab Chain) (seats : Known) (list : ℕ) → waits_in records (get chains list) ≡ Some []
    → Updates chains next list None → AreKnown records chains seats → AreKnown records next seats
known_closed records chains next seats list empty updates known = known_kept records chains next seats known
    (λ seat other place x. updates.others other (λ same. some x.passed place x.wait x.rest
    (sym (waits_in-Links records x.chain (x.passed ++ (place.key, x.wait) ∷ x.rest) x.links) ∙ ap (waits_in records) (sym x.is_open)
    ∙ ap (λ k. waits_in records (get chains k)) same ∙ empty)) ∙ x.is_open)
  where
    some : (passed : List (ℕ × Wait)) (place : Place) (wait : Wait) (rest : List (ℕ × Wait)) → Some (waits_of (passed ++ (place.key, wait) ∷ rest)) ≡ Some []
        → ⊥
    some [] place wait rest e = absurd cc
    some (p ∷ passed) place wait rest e = absurd cc

pub known_same : (records copy : Slab Record) (same : SameValues records copy) (chains next : Slab Chain) → SameValues chains next → (seats : Known)
    → AreKnown records chains seats → AreKnown copy next seats
known_same records copy same chains next same_chains seats known = record {
  allowed = λ key found read. known.allowed key found (sym (same key) ∙ read);
  stands = λ seat list place e. let x = known.stands seat list place e in record {
    chain = x.chain;
    is_open = same_chains list ∙ x.is_open;
    passed = x.passed;
    wait = x.wait;
    rest = x.rest;
    links = record {
      linked = same_links records copy same (x.passed ++ (place.key, x.wait) ∷ x.rest) x.chain.first None x.links.linked;
      ends = x.links.ends;
      counted = x.links.counted;
    };
    before = x.before;
    own = x.own;
  };
}

-- where there is no record, and no seat has a wait
pub known_empty : (records : Slab Record) (chains : Slab Chain) (seats : Known) → records.slots ≡ []
    → ((seat list : ℕ) (place : Place) → known_of seats seat ≢ Only list place) → AreKnown records chains seats
known_empty records chains seats empty nowhere = record {
  allowed = λ key found read. (let none = sym read ∙ ap (λ l. get_or l key None) empty in absurd cc);
  stands = λ seat list place e. absurd (nowhere seat list place e);
}

-- of no seat anything is known
pub known_nothing : (records : Slab Record) (chains : Slab Chain) (seats : Known) → ((seat : ℕ) → known_of seats seat ≡ Anywhere)
    → AreKnown records chains seats
known_nothing records chains seats nothing = record {
  allowed = λ key found read. subst (λ w. Allows w key) (sym (nothing found.wait.id.seat)) tt;
  stands = λ seat list place e. (let none = sym (nothing seat) ∙ e in absurd cc);
}
