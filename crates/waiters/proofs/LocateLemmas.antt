-- Where a wait is that is sought, by what is known of its seat.
use Rattle.std.proofs.Common.{◌≡◌, ◌≢◌, ℕ, ◌==◌, ◌&&◌, Bool, true, false, List, [], ◌∷◌, ◌++◌, Option, Some, None}
use Rattle.std.proofs.Common.{refl, sym, ap, ◌∙◌, subst, eqb-true, append_assoc}
use Rattle.slab.specs.Slab.{Slab, get, ContainsKey}
use Rattle.waiters.specs.declared.sought.Sought.{Sought}
use Rattle.waiters.specs.declared.sought.Sought.TheVariants.{Ticket, Seat, Id}
use Rattle.waiters.specs.declared.wait.Wait.{Wait}
use Rattle.waiters.specs.declared.lists.Record.{Record}
use Rattle.waiters.specs.declared.lists.Chain.{Chain}
use Rattle.waiters.specs.declared.lists.Place.{Place}
use Rattle.waiters.specs.declared.lists.whereabouts.Whereabouts.{Whereabouts}
use Rattle.waiters.specs.declared.lists.whereabouts.Whereabouts.TheVariants.{Nowhere, Only, Anywhere}
use Rattle.waiters.specs.Lists.{is_sought, first_sought, without_sought}
use Rattle.waiters.specs.Chains.{Linked, Links, Owned, IsChain, AreChained, Finds, waits_of}
use Rattle.waiters.specs.Whereabouts.{Known, known_of, known_about, Allows, StandsThere, AreKnown}
use Rattle.waiters.proofs.ChainLemmas.{same_entries, Avoids, Owned-split}
use Rattle.waiters.proofs.WalkLemmas.{first-here, first-later, without-here, without-later}
use Rattle.waiters.proofs.StepLemmas.{mine}
use Rattle.waiters.proofs.WhereaboutsLemmas.{stands_record}
use Rattle.waiters.proofs.WhereaboutsSteps.{before_apart_all}

-- whose wait is sought
both_true : (a b : Bool) → (a && b) ≡ true → a ≡ true
both_true true b e = refl
both_true false b e = absurd cc

-- the wait that is sought is one of a seat of which that is known
abbrev IsOf : Sought → ℕ → Type 0
IsOf sought seat = (wait : Wait) → is_sought sought wait ≡ true → wait.id.seat ≡ seat

abbrev KnownOf : Known → Sought → Whereabouts → Type 0
KnownOf seats sought w = (seat : ℕ) × (known_of seats seat ≡ w) × IsOf sought seat

known_seat : (seats : Known) (sought : Sought) (w : Whereabouts) → known_about seats sought ≡ w → w ≢ Anywhere → KnownOf seats sought w
known_seat seats (Ticket ticket) w e some = absurd (some (sym e))
known_seat seats (Seat seat) w e some = (seat, e, λ wait is. eqb-true wait.id.seat seat is)
known_seat seats (Id id) w e some = (
  id.seat,
  e,
  λ wait is. eqb-true wait.id.seat id.seat (both_true (wait.id.seat == id.seat) (wait.id.turn == id.turn) is),
)

refuse : (b : Bool) → (b ≡ true → ⊥) → b ≡ false
refuse true never = absurd (never refl)
refuse false never = refl

-- no record of these is sought
abbrev NoneIs : (Wait → Bool) → List (ℕ × Wait) → Type 0
NoneIs is entries = (front : List (ℕ × Wait)) (e : ℕ × Wait) (back : List (ℕ × Wait)) → entries ≡ front ++ e ∷ back → is e.1 ≡ false

quiet : (is : Wait → Bool) (entries : List (ℕ × Wait)) → NoneIs is entries
    → (first_sought is (waits_of entries) ≡ None) × (without_sought is (waits_of entries) ≡ waits_of entries)
quiet is [] none = (refl, refl)
quiet is (e ∷ rest) none =
    let later = quiet is rest (λ front k back split. none (e ∷ front) k back (ap (λ l. e ∷ l) split)) in
    let no = none [] e rest refl in (
      first-later is e.1 (waits_of rest) no ∙ later.0,
      without-later is e.1 (waits_of rest) no ∙ ap (λ l. e.1 ∷ l) later.1,
    )

-- the first that is sought stands behind these
passes : (is : Wait → Bool) (passed : List (ℕ × Wait)) (k : ℕ × Wait) (rest : List (ℕ × Wait)) → NoneIs is passed → is k.1 ≡ true
    → (first_sought is (waits_of (passed ++ k ∷ rest)) ≡ Some k.1) × (without_sought is (waits_of (passed ++ k ∷ rest)) ≡ waits_of (passed ++ rest))
passes is [] k rest none here = (first-here is k.1 (waits_of rest) here, without-here is k.1 (waits_of rest) here)
passes is (e ∷ passed) k rest none here =
    let later = passes is passed k rest (λ front j back split. none (e ∷ front) j back (ap (λ l. e ∷ l) split)) here in
    let no = none [] e passed refl in (
      first-later is e.1 (waits_of (passed ++ k ∷ rest)) no ∙ later.0,
      without-later is e.1 (waits_of (passed ++ k ∷ rest)) no ∙ ap (λ l. e.1 ∷ l) later.1,
    )

module _ (records : Slab Record) (chains : Slab Chain) (room list_room : ℕ) (old : AreChained records chains room list_room) (seats : Known)
    (known : AreKnown records chains seats) (sought : Sought) where
  -- a record of a chain that is sought is where one of its seat may be
  may_be : (first : Option ℕ) (front : List (ℕ × Wait)) (e : ℕ × Wait) (back : List (ℕ × Wait)) → Linked records first (front ++ e ∷ back) None
      → (seat : ℕ) → IsOf sought seat → is_sought sought e.1 ≡ true → Allows (known_of seats seat) e.0
  may_be first front e back linked seat of is =
      let there = stands_record records first None front e.0 e.1 back linked in
      subst (λ s. Allows (known_of seats s) e.0) (of e.1 is) (known.allowed e.0 (record { wait = e.1; next = there.0 }) there.1)

  owner_there : (seat list : ℕ) (place : Place) → StandsThere records chains seat list place → old.owner place.key ≡ list
  owner_there seat list place x =
      let theirs = old.chained list x.chain x.is_open in
      let same = same_entries records (x.passed ++ (place.key, x.wait) ∷ x.rest) theirs.entries x.chain.first x.links.linked theirs.links.linked in
      (Owned-split old.owner list x.passed ((place.key, x.wait) ∷ x.rest) (subst (Owned old.owner list) (sym same) theirs.owned)).1.0

  pub known_place : (there : ℕ) (place : Place) → known_about seats sought ≡ Only there place → ContainsKey records place.key
  known_place there place e =
      let s = known_seat seats sought (Only there place) e (λ q. absurd cc) in let x = known.stands s.0 there place s.1 in
      rw (stands_record records x.chain.first None x.passed place.key x.wait x.rest x.links.linked).1 refl

  module _ (list : ℕ) (chain : Chain) (is_open : get chains list ≡ Some chain) where
    abbrev own : IsChain records old.owner list chain
    own = mine records chains room list_room old list chain is_open

    split_linked : (front : List (ℕ × Wait)) (e : ℕ × Wait) (back : List (ℕ × Wait)) → own.entries ≡ front ++ e ∷ back
        → Linked records chain.first (front ++ e ∷ back) None
    split_linked front e back split = subst (λ l. Linked records chain.first l None) split own.links.linked

    split_owner : (front : List (ℕ × Wait)) (e : ℕ × Wait) (back : List (ℕ × Wait)) → own.entries ≡ front ++ e ∷ back → old.owner e.0 ≡ list
    split_owner front e back split = (Owned-split old.owner list front (e ∷ back) (subst (Owned old.owner list) split own.owned)).1.0

    none_is : NoneIs (is_sought sought) own.entries → Finds records chain (is_sought sought) None
    none_is none = let q = quiet (is_sought sought) own.entries none in (own.entries, own.links, q.0, q.1)

    pub nowhere_found : known_about seats sought ≡ Nowhere → Finds records chain (is_sought sought) None
    nowhere_found e = none_is (λ front k back split. refuse (is_sought sought k.1) (λ is.
        let s = known_seat seats sought Nowhere e (λ q. absurd cc) in
        subst (λ w. Allows w k.0) s.1 (may_be chain.first front k back (split_linked front k back split) s.0 s.2 is)))

    pub elsewhere_found : (there : ℕ) (place : Place) → known_about seats sought ≡ Only there place → there ≢ list
        → Finds records chain (is_sought sought) None
    elsewhere_found there place e differs = none_is (λ front k back split. refuse (is_sought sought k.1) (λ is.
        let s = known_seat seats sought (Only there place) e (λ q. absurd cc) in
        let at : k.0 ≡ place.key =
        subst (λ w. Allows w k.0) s.1 (may_be chain.first front k back (split_linked front k back split) s.0 s.2 is) in
        differs (sym (owner_there s.0 there place (known.stands s.0 there place s.1)) ∙ ap old.owner (sym at) ∙ split_owner front k back split)))

    pub other_found : (there : ℕ) (place : Place) (found : Record) → known_about seats sought ≡ Only there place → get records place.key ≡ Some found
        → is_sought sought found.wait ≡ false → Finds records chain (is_sought sought) None
    other_found there place found e read not = none_is (λ front k back split. refuse (is_sought sought k.1) (λ is.
        let s = known_seat seats sought (Only there place) e (λ q. absurd cc) in
        let linked = split_linked front k back split in
        let at : k.0 ≡ place.key = subst (λ w. Allows w k.0) s.1 (may_be chain.first front k back linked s.0 s.2 is) in
        let r = stands_record records chain.first None front k.0 k.1 back linked in
        let same : record { wait = k.1; next = r.0 } ≡ found = let q = sym r.1 ∙ ap (get records) at ∙ read in cc in
        let yes = sym (ap (λ (x : Record). is_sought sought x.wait) same) ∙ is in
        let no : true ≡ false = sym yes ∙ not in absurd cc))

    pub only_found : (place : Place) (found : Record) → known_about seats sought ≡ Only list place → get records place.key ≡ Some found
        → is_sought sought found.wait ≡ true → Finds records chain (is_sought sought) (Some place)
    only_found place found e read here =
        let s = known_seat seats sought (Only list place) e (λ q. absurd cc) in let x = known.stands s.0 list place s.1 in
        let same : x.chain ≡ chain = let q = sym x.is_open ∙ is_open in cc in
        let r = stands_record records x.chain.first None x.passed place.key x.wait x.rest x.links.linked in
        let is : record { wait = x.wait; next = r.0 } ≡ found = let q = sym r.1 ∙ read in cc in
        let apart = before_apart_all records x.chain.first x.passed (place.key, x.wait) x.rest x.links.linked in
        let p = passes (is_sought sought) x.passed (place.key, x.wait) x.rest
        (λ front k back split. refuse (is_sought sought k.1) (λ q.
        let linked : Linked records x.chain.first (front ++ k ∷ (back ++ (place.key, x.wait) ∷ x.rest)) None =
        subst (λ l. Linked records x.chain.first l None) (append_assoc front (k ∷ back) ((place.key, x.wait) ∷ x.rest))
        (subst (λ l. Linked records x.chain.first (l ++ (place.key, x.wait) ∷ x.rest) None) split x.links.linked) in
        let at : k.0 ≡ place.key =
        subst (λ w. Allows w k.0) s.1 (may_be x.chain.first front k (back ++ (place.key, x.wait) ∷ x.rest) linked s.0 s.2 q) in
        avoided front k back (subst (Avoids (Some place.key)) split apart) at))
        (ap (λ (y : Record). is_sought sought y.wait) is ∙ here) in (
          x.passed ++ (place.key, x.wait) ∷ x.rest,
          subst (λ c. Links records c (x.passed ++ (place.key, x.wait) ∷ x.rest)) same x.links,
          record {
            stands = record { passed = x.passed; wait = x.wait; rest = x.rest; splits = refl; before = x.before };
            first = p.0;
            without = p.1;
          },
        )
      where
        avoided : (front : List (ℕ × Wait)) (k : ℕ × Wait) (back : List (ℕ × Wait)) → Avoids (Some place.key) (front ++ k ∷ back) → k.0 ≡ place.key → ⊥
        avoided [] k back avoids at = avoids.0 at
        avoided (f ∷ front) k back avoids at = avoided front k back avoids.1 at
