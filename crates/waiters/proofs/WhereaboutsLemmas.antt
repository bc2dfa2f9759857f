-- Lemmas on what lists know of their seats: it stays so where one list changes.
use Rattle.std.proofs.Common.{◌≡◌, ◌≢◌, ◌⊎◌, ℕ, ◌==◌, if◌then◌else◌, Bool, true, false, List, ◌∷◌, ◌++◌, Option, Some, None}
use Rattle.std.proofs.Common.{refl, sym, ap, ◌∙◌, subst, inl, inr}
use Rattle.std.proofs.lemmas.Bool.{cases_eq}
use Rattle.std.proofs.lemmas.Bool.Decides.{eqb_tells}
use Rattle.slab.specs.Slab.{Slab, get, ContainsKey, Updates, with_value}
use Rattle.slab.proofs.SlabLemmas.{Updates-with_value}
use Rattle.waiters.specs.declared.wait.Wait.{Wait}
use Rattle.waiters.specs.declared.lists.Record.{Record}
use Rattle.waiters.specs.declared.lists.Chain.{Chain}
use Rattle.waiters.specs.declared.lists.Place.{Place}
use Rattle.waiters.specs.declared.lists.whereabouts.Whereabouts.{Whereabouts}
use Rattle.waiters.specs.declared.lists.whereabouts.Whereabouts.TheVariants.{Nowhere, Only, Anywhere}
use Rattle.waiters.specs.Chains.{Linked, Links, last_key, Owned, AreChained, Relinks}
use Rattle.waiters.specs.Whereabouts.{Known, known_of, after_put, after_taken, after_moved, Alters, Follows, Learns, Allows, IsFresh, StandsThere, AreKnown}
use Rattle.waiters.proofs.ChainLemmas.{same_entries, Linked-split, Avoids, Avoids-split, Owned-split}
use Rattle.waiters.proofs.StepLemmas.{mine, Step}

-- each record of the new slab was there, with the same wait
abbrev pub WaitsBack : Slab Record → Slab Record → Type 0
WaitsBack old new =
    (key : ℕ) (found : Record) → get new key ≡ Some found → (was : Record) × (get old key ≡ Some was) × (was.wait ≡ found.wait)

pub Relinks-back : (old new : Slab Record) (first before next result : Option ℕ) → Relinks old new first before next result → WaitsBack old new
Relinks-back old new first None next result relinks key found read = (found, rw (← relinks.0) read, refl)
Relinks-back old new first (Some other) next result relinks key found read = by (cases_eq key other)
  where
    value : Record
    value = record relinks.0 { next = next }

    updates : Updates old (with_value old other value) other (Some value)
    updates = Updates-with_value old other value (rw relinks.1 refl)

    by : (key ≡ other) ⊎ (key ≢ other) → (was : Record) × (get old key ≡ Some was) × (was.wait ≡ found.wait)
    by (inl same) =
        let there : Some value ≡ Some found = sym updates.changed ∙ ap (get (with_value old other value)) (sym same)
        ∙ ap (λ (s : Slab Record). get s key) (sym relinks.2) ∙ read in
        let is : value ≡ found = cc in
        (relinks.0, ap (get old) same ∙ relinks.1, ap (λ (r : Record). r.wait) is)
    by (inr differs) = (found, sym (updates.others key differs) ∙ ap (λ (s : Slab Record). get s key) (sym relinks.2) ∙ read, refl)

-- what a seat has its one wait at after another record came before one
moved_only : (key : ℕ) (before : Option ℕ) (w : Whereabouts) (list : ℕ) (place : Place) → after_moved key before w ≡ Only list place
    → (was : Place) × (w ≡ Only list was)
    × (((was.key ≡ key) × (place ≡ record { before = before; key = key })) ⊎ ((was.key ≢ key) × (place ≡ was)))
moved_only key before Nowhere list place e = absurd (cc)
moved_only key before Anywhere list place e = absurd (cc)
moved_only key before (Only there was) list place e = by (eqb_tells was.key key)
  where
    moved : Bool → Whereabouts
    moved b = if b then Only there (record { before = before; key = key }) else Only there was

    by : (((was.key == key) ≡ true) × (was.key ≡ key)) ⊎ (((was.key == key) ≡ false) × (was.key ≢ key))
        → (other : Place) × (Only there was ≡ Only list other)
        × (((other.key ≡ key) × (place ≡ record { before = before; key = key })) ⊎ ((other.key ≢ key) × (place ≡ other)))
    by (inl x) =
        let is : Only there (record { before = before; key = key }) ≡ Only list place = ap moved (sym x.0) ∙ e in
        let lists : there ≡ list = cc in let places : record { before = before; key = key } ≡ place = cc in
        (was, ap (λ l. Only l was) lists, inl (x.1, sym places))
    by (inr x) =
        let is : Only there was ≡ Only list place = ap moved (sym x.0) ∙ e in
        let lists : there ≡ list = cc in let places : was ≡ place = cc in
        (was, ap (λ l. Only l was) lists, inr (x.1, sym places))

allows_moved : (key : ℕ) (before : Option ℕ) (w : Whereabouts) (at : ℕ) → Allows w at → Allows (after_moved key before w) at
allows_moved key before Nowhere at x = x
allows_moved key before Anywhere at x = x
allows_moved key before (Only there was) at x = by (eqb_tells was.key key)
  where
    moved : Bool → Whereabouts
    moved b = if b then Only there (record { before = before; key = key }) else Only there was

    by : (((was.key == key) ≡ true) × (was.key ≡ key)) ⊎ (((was.key == key) ≡ false) × (was.key ≢ key)) → Allows (moved (was.key == key)) at
    by (inl y) = subst (λ b. Allows (moved b) at) (sym y.0) (x ∙ y.1)
    by (inr y) = subst (λ b. Allows (moved b) at) (sym y.0) x

-- a place where only the record before it may have changed, and has if it is that of the key
abbrev pub Came : Option ℕ → Option ℕ → Place → Place → Type 0
Came before None place was = place ≡ was
Came before (Some key) place was =
    ((was.key ≡ key) × (place ≡ record { before = before; key = key })) ⊎ ((was.key ≢ key) × (place ≡ was))

-- after another record came before the one of a key, if there is one
module _ (old new : Known) (before : Option ℕ) where
  pub allows_followed : (next : Option ℕ) → Follows old new next before → (seat at : ℕ) → Allows (known_of old seat) at → Allows (known_of new seat) at
  allows_followed None same seat at x = subst (λ l. Allows (known_of l seat) at) (sym same) x
  allows_followed (Some key) moved seat at x =
      subst (λ w. Allows w at) (sym (moved seat)) (allows_moved key before (known_of old seat) at x)

  -- a seat whose one wait is there then had it there before
  pub stood_before : (next : Option ℕ) → Follows old new next before → (seat list : ℕ) (place : Place) → known_of new seat ≡ Only list place
      → (was : Place) × (known_of old seat ≡ Only list was) × Came before next place was
  stood_before None same seat list place e = (place, ap (λ l. known_of l seat) (sym same) ∙ e, refl)
  stood_before (Some key) moved seat list place e = moved_only key before (known_of old seat) list place (sym (moved seat) ∙ e)

-- nothing stands twice in a chain
Avoids-apart : (key : ℕ) (front : List (ℕ × Wait)) (other : ℕ) (wait : Wait) (back : List (ℕ × Wait))
    → Avoids (Some key) (front ++ (other, wait) ∷ back) → other ≢ key
Avoids-apart key front other wait back avoids = (Avoids-split key front ((other, wait) ∷ back) avoids).1.0

-- the record that stands at a place has the wait that is told
pub stands_record : (records : Slab Record) (here there : Option ℕ) (passed : List (ℕ × Wait)) (key : ℕ) (wait : Wait) (rest : List (ℕ × Wait))
    → Linked records here (passed ++ (key, wait) ∷ rest) there → (next : Option ℕ) × (get records key ≡ Some (record { wait = wait; next = next }))
stands_record records here there passed key wait rest linked =
    let parts = Linked-split records passed here ((key, wait) ∷ rest) there linked in (parts.2.0, parts.2.2)

-- the same, whatever record is found
pub stands_wait : (records : Slab Record) (here there : Option ℕ) (passed : List (ℕ × Wait)) (key : ℕ) (wait : Wait) (rest : List (ℕ × Wait))
    (found : Record) → Linked records here (passed ++ (key, wait) ∷ rest) there → get records key ≡ Some found → found.wait ≡ wait
stands_wait records here there passed key wait rest found linked read =
    let is = stands_record records here there passed key wait rest linked in
    let same : record { wait = wait; next = is.0 } ≡ found = let e = sym is.1 ∙ read in cc in ap (λ (r : Record). r.wait) (sym same)

-- a key that no record has is that of no seat's wait
pub known_fresh : (records : Slab Record) (chains : Slab Chain) (seats : Known) → AreKnown records chains seats → (key : ℕ) → get records key ≡ None
    → IsFresh seats key
known_fresh records chains seats known key vacant seat list place e same =
    let x = known.stands seat list place e in
    let r = stands_record records x.chain.first None x.passed place.key x.wait x.rest x.links.linked in
    let none = sym r.1 ∙ ap (get records) same ∙ vacant in absurd cc

module _ (records : Slab Record) (chains : Slab Chain) (room list_room : ℕ) (old : AreChained records chains room list_room) (seats : Known)
    (known : AreKnown records chains seats) (list : ℕ) (chain : Chain) (is_open : get chains list ≡ Some chain) where
  -- where a seat's wait is in the list, its records are the list's
  entries_are : (seat : ℕ) (place : Place) (x : StandsThere records chains seat list place)
      → (x.chain ≡ chain) × (x.passed ++ (place.key, x.wait) ∷ x.rest ≡ (mine records chains room list_room old list chain is_open).entries)
  entries_are seat place x =
      let same : x.chain ≡ chain = let e = sym x.is_open ∙ is_open in cc in
      let own = mine records chains room list_room old list chain is_open in (
        same,
        same_entries records (x.passed ++ (place.key, x.wait) ∷ x.rest) own.entries chain.first
            (subst (λ (c : Chain). Linked records c.first (x.passed ++ (place.key, x.wait) ∷ x.rest) None) same x.links.linked) own.links.linked,
      )

  -- the list changes, and no other
  module _ (later : Slab Record) (next : Chain) (entries : List (ℕ × Wait)) (room2 : ℕ)
      (step : Step records chains room list_room old list chain is_open later next entries room2) where
    abbrev now : Slab Chain
    now = with_value chains list next

    changed : Updates chains now list (Some next)
    changed = Updates-with_value chains list next (rw is_open refl)

    -- what stood in another list stands there
    elsewhere : (seat other : ℕ) (place : Place) → other ≢ list → StandsThere records chains seat other place → StandsThere later now seat other place
    elsewhere seat other place differs x =
        let theirs = old.chained other x.chain x.is_open in
        let same = same_entries records (x.passed ++ (place.key, x.wait) ∷ x.rest) theirs.entries x.chain.first x.links.linked theirs.links.linked in
        let kept = step.keeps other x.chain.first (x.passed ++ (place.key, x.wait) ∷ x.rest) differs x.links.linked
        (subst (Owned old.owner other) (sym same) theirs.owned) in
        record {
          chain = x.chain;
          is_open = changed.others other differs ∙ x.is_open;
          passed = x.passed;
          wait = x.wait;
          rest = x.rest;
          links = record { linked = kept.0; ends = x.links.ends; counted = x.links.counted };
          before = x.before;
          own = x.own;
        }

    -- what stands in the list now
    stands_now : (seat : ℕ) (place : Place) (passed : List (ℕ × Wait)) (wait : Wait) (rest : List (ℕ × Wait))
        → entries ≡ passed ++ (place.key, wait) ∷ rest → place.before ≡ last_key passed → wait.id.seat ≡ seat → StandsThere later now seat list place
    stands_now seat place passed wait rest splits before own = record {
      chain = next;
      is_open = changed.changed;
      passed = passed;
      wait = wait;
      rest = rest;
      links = subst (Links later next) splits step.links;
      before = before;
      own = own;
    }

    -- where a wait stood that stays in, it stands, behind another record if it follows the change
    module _ (before follow : Option ℕ) (follow_owned : (key : ℕ) → follow ≡ Some key → old.owner key ≡ list) (Kept : ℕ → Type 0)
        (moves : (place was : Place) (passed : List (ℕ × Wait)) (wait : Wait) (rest : List (ℕ × Wait))
        → passed ++ (was.key, wait) ∷ rest ≡ (mine records chains room list_room old list chain is_open).entries → was.before ≡ last_key passed
        → Kept was.key → Came before follow place was
        → (front : List (ℕ × Wait)) × (back : List (ℕ × Wait)) × (entries ≡ front ++ (place.key, wait) ∷ back) × (place.before ≡ last_key front)) where
      same_place : (other : ℕ) (place was : Place) → old.owner was.key ≢ list → Came before follow place was → place ≡ was
      same_place other place was differs came = by follow follow_owned came
        where
          by : (f : Option ℕ) → ((key : ℕ) → f ≡ Some key → old.owner key ≡ list) → Came before f place was → place ≡ was
          by None owned is = is
          by (Some key) owned (inl (same, is)) = absurd (differs (ap old.owner same ∙ owned key refl))
          by (Some key) owned (inr (apart, is)) = is

      owned_by : (seat other : ℕ) (was : Place) → StandsThere records chains seat other was → old.owner was.key ≡ other
      owned_by seat other was x =
          let theirs = old.chained other x.chain x.is_open in
          let same = same_entries records (x.passed ++ (was.key, x.wait) ∷ x.rest) theirs.entries x.chain.first x.links.linked theirs.links.linked in
          (Owned-split old.owner other x.passed ((was.key, x.wait) ∷ x.rest) (subst (Owned old.owner other) (sym same) theirs.owned)).1.0

      pub still : (seat other : ℕ) (place was : Place) → StandsThere records chains seat other was → (other ≡ list → Kept was.key)
          → Came before follow place was → StandsThere later now seat other place
      still seat other place was x kept came = by (cases_eq other list)
        where
          by : (other ≡ list) ⊎ (other ≢ list) → StandsThere later now seat other place
          by (inl same) =
              let y : StandsThere records chains seat list was = subst (λ l. StandsThere records chains seat l was) same x in
              let are = entries_are seat was y in
              let to = moves place was y.passed y.wait y.rest are.1 y.before (kept same) came in
              subst (λ l. StandsThere later now seat l place) (sym same) (stands_now seat place to.0 y.wait to.1 to.2 to.3 y.own)
          by (inr differs) =
              let own = owned_by seat other was x in
              let is = same_place other place was (λ e. differs (sym own ∙ e)) came in
              subst (StandsThere later now seat other) (sym is) (elsewhere seat other was differs x)

    -- a record of this key was put in before the one that follows
    module _ (seats2 : Known) (key : ℕ) (wait : Wait) (before follow : Option ℕ) (fresh : get records key ≡ None)
        (there : (found : Record) → get later key ≡ Some found → found.wait ≡ wait)
        (back : (at : ℕ) (found : Record) → at ≢ key → get later at ≡ Some found
        → (was : Record) × (get records at ≡ Some was) × (was.wait ≡ found.wait))
        (follow_owned : (other : ℕ) → follow ≡ Some other → old.owner other ≡ list) (follow_there : (other : ℕ) → follow ≡ Some other → ContainsKey records other)
        (front rear : List (ℕ × Wait)) (splits : entries ≡ front ++ (key, wait) ∷ rear) (behind : before ≡ last_key front)
        (moves : (place was : Place) (passed : List (ℕ × Wait)) (w : Wait) (rest : List (ℕ × Wait))
        → passed ++ (was.key, w) ∷ rest ≡ (mine records chains room list_room old list chain is_open).entries → was.before ≡ last_key passed
        → Unit {0} → Came (Some key) follow place was
        → (a : List (ℕ × Wait)) × (b : List (ℕ × Wait)) × (entries ≡ a ++ (place.key, w) ∷ b) × (place.before ≡ last_key a))
        (learns : Learns later seats seats2 list (record { before = before; key = key }) follow) where
      abbrev seats1 : Known
      seats1 = learns.2.0

      abbrev noted : Bool
      noted = learns.2.1.0

      abbrev placed : Place
      placed = record { before = before; key = key }

      alters : Alters seats seats1 wait.id.seat (after_put noted list placed)
      alters = subst (λ (w : Wait). Alters seats seats1 w.id.seat (after_put noted list placed)) (there learns.0 learns.1) learns.2.1.1

      allows_here : (b : Bool) (w : Whereabouts) → Allows (after_put b list placed w) key
      allows_here true Nowhere = refl
      allows_here false Nowhere = tt
      allows_here true (Only l p) = tt
      allows_here false (Only l p) = tt
      allows_here true Anywhere = tt
      allows_here false Anywhere = tt

      allows_still : (b : Bool) (w : Whereabouts) (at : ℕ) → Allows w at → Allows (after_put b list placed w) at
      allows_still b Nowhere at x = absurd x
      allows_still true (Only l p) at x = tt
      allows_still false (Only l p) at x = tt
      allows_still true Anywhere at x = tt
      allows_still false Anywhere at x = tt

      allowed_then : (at : ℕ) (found : Record) → get later at ≡ Some found → Allows (known_of seats1 found.wait.id.seat) at
      allowed_then at found read = by (cases_eq at key)
        where
          by : (at ≡ key) ⊎ (at ≢ key) → Allows (known_of seats1 found.wait.id.seat) at
          by (inl same) =
              let w = there found (ap (get later) (sym same) ∙ read) in
              subst (λ k. Allows (known_of seats1 found.wait.id.seat) k) (sym same)
              (subst (λ x. Allows x key) (sym alters.there ∙ ap (λ (x : Wait). known_of seats1 x.id.seat) (sym w))
              (allows_here noted (known_of seats wait.id.seat)))
          by (inr differs) = of (cases_eq found.wait.id.seat wait.id.seat)
            where
              was : (r : Record) × (get records at ≡ Some r) × (r.wait ≡ found.wait)
              was = back at found differs read

              before_then : Allows (known_of seats found.wait.id.seat) at
              before_then = subst (λ (x : Wait). Allows (known_of seats x.id.seat) at) was.2 (known.allowed at was.0 was.1)

              of : (found.wait.id.seat ≡ wait.id.seat) ⊎ (found.wait.id.seat ≢ wait.id.seat) → Allows (known_of seats1 found.wait.id.seat) at
              of (inl own) = subst (λ x. Allows x at) (ap (after_put noted list placed) (ap (known_of seats) own) ∙ sym alters.there ∙ ap (known_of seats1) (sym own))
                  (allows_still noted (known_of seats found.wait.id.seat) at before_then)
              of (inr other) = subst (λ x. Allows x at) (sym (alters.elsewhere found.wait.id.seat other)) before_then

      -- a seat whose one wait is there then is new there, or had it there before
      put_only : (b : Bool) (w : Whereabouts) (l : ℕ) (p : Place) → after_put b list placed w ≡ Only l p → (list ≡ l) × (placed ≡ p)
      put_only true Nowhere l p e = let a : list ≡ l = cc in let b : placed ≡ p = cc in (a, b)
      put_only false Nowhere l p e = absurd (cc)
      put_only true (Only m q) l p e = absurd (cc)
      put_only false (Only m q) l p e = absurd (cc)
      put_only true Anywhere l p e = absurd (cc)
      put_only false Anywhere l p e = absurd (cc)

      stands_then : (seat l : ℕ) (place : Place) → known_of seats2 seat ≡ Only l place → StandsThere later now seat l place
      stands_then seat l place e =
          let o = stood_before seats1 seats2 (Some key) follow learns.2.2 seat l place e in by o.0 o.1 o.2 (cases_eq seat wait.id.seat)
        where
          not_first : (f : Option ℕ) (was : Place) → was.key ≡ key → ((other : ℕ) → f ≡ Some other → ContainsKey records other) → Came (Some key) f place was
              → place ≡ was
          not_first None was at some is = is
          not_first (Some other) was at some (inl (same, is)) =
              absurd (let has = some other refl in let none = ap (get records) (sym same ∙ at) ∙ fresh in cc)
          not_first (Some other) was at some (inr (apart, is)) = is

          by : (was : Place) → known_of seats1 seat ≡ Only l was → Came (Some key) follow place was → (seat ≡ wait.id.seat) ⊎ (seat ≢ wait.id.seat)
              → StandsThere later now seat l place
          by was e1 came (inl same) =
              let new = put_only noted (known_of seats wait.id.seat) l was (sym alters.there ∙ ap (known_of seats1) (sym same) ∙ e1) in
              let is = not_first follow was (ap (λ (q : Place). q.key) (sym new.1)) follow_there came in
              subst (λ k. StandsThere later now seat k place) new.0
              (subst (StandsThere later now seat list) (new.1 ∙ sym is)
              (stands_now seat placed front wait rear splits behind (sym same)))
          by was e1 came (inr differs) =
              still (Some key) follow follow_owned (λ k. Unit {0}) moves seat l place was (known.stands seat l was (sym (alters.elsewhere seat differs) ∙ e1))
              (λ k. tt) came

      pub known_put : AreKnown later now seats2
      known_put = record {
        allowed = λ at found read. allows_followed seats1 seats2 (Some key) follow learns.2.2 found.wait.id.seat at (allowed_then at found read);
        stands = stands_then;
      }

    -- the record at a place was taken out
    module _ (seats2 : Known) (place : Place) (gone : Record) (was_there : get records place.key ≡ Some gone)
        (back : (at : ℕ) (found : Record) → get later at ≡ Some found
        → (at ≢ place.key) × ((was : Record) × (get records at ≡ Some was) × (was.wait ≡ found.wait)))
        (next_owned : (other : ℕ) → gone.next ≡ Some other → old.owner other ≡ list)
        (moves : (to was : Place) (passed : List (ℕ × Wait)) (w : Wait) (rest : List (ℕ × Wait))
        → passed ++ (was.key, w) ∷ rest ≡ (mine records chains room list_room old list chain is_open).entries → was.before ≡ last_key passed
        → was.key ≢ place.key → Came place.before gone.next to was
        → (a : List (ℕ × Wait)) × (b : List (ℕ × Wait)) × (entries ≡ a ++ (to.key, w) ∷ b) × (to.before ≡ last_key a))
        (seats1 : Known) (alters : Alters seats seats1 gone.wait.id.seat after_taken)
        (follows : Follows seats1 seats2 gone.next place.before) where
      taken_not : (w : Whereabouts) (l : ℕ) (p : Place) → after_taken w ≡ Only l p → ⊥
      taken_not Nowhere l p e = absurd (cc)
      taken_not (Only m q) l p e = absurd (cc)
      taken_not Anywhere l p e = absurd (cc)

      allows_taken : (w : Whereabouts) (at : ℕ) → Allows w at → Allows w place.key → at ≢ place.key → Allows (after_taken w) at
      allows_taken Nowhere at x y ne = x
      allows_taken (Only l p) at x y ne = absurd (ne (x ∙ sym y))
      allows_taken Anywhere at x y ne = tt

      allowed_left : (at : ℕ) (found : Record) → get later at ≡ Some found → Allows (known_of seats1 found.wait.id.seat) at
      allowed_left at found read = by (cases_eq found.wait.id.seat gone.wait.id.seat)
        where
          r : (at ≢ place.key) × ((was : Record) × (get records at ≡ Some was) × (was.wait ≡ found.wait))
          r = back at found read

          before_then : Allows (known_of seats found.wait.id.seat) at
          before_then = subst (λ (x : Wait). Allows (known_of seats x.id.seat) at) r.1.2 (known.allowed at r.1.0 r.1.1)

          by : (found.wait.id.seat ≡ gone.wait.id.seat) ⊎ (found.wait.id.seat ≢ gone.wait.id.seat) → Allows (known_of seats1 found.wait.id.seat) at
          by (inl own) = subst (λ x. Allows x at) (sym alters.there ∙ ap (known_of seats1) (sym own))
              (allows_taken (known_of seats gone.wait.id.seat) at (subst (λ k. Allows (known_of seats k) at) own before_then)
              (known.allowed place.key gone was_there) r.0)
          by (inr other) = subst (λ x. Allows x at) (sym (alters.elsewhere found.wait.id.seat other)) before_then

      -- a seat whose one wait is there then had it there before
      had : (seat l : ℕ) (was : Place) → known_of seats1 seat ≡ Only l was → (seat ≢ gone.wait.id.seat) × (known_of seats seat ≡ Only l was)
      had seat l was e = by (cases_eq seat gone.wait.id.seat)
        where
          by : (seat ≡ gone.wait.id.seat) ⊎ (seat ≢ gone.wait.id.seat) → (seat ≢ gone.wait.id.seat) × (known_of seats seat ≡ Only l was)
          by (inl same) = absurd (taken_not (known_of seats gone.wait.id.seat) l was (sym alters.there ∙ ap (known_of seats1) (sym same) ∙ e))
          by (inr differs) = (differs, sym (alters.elsewhere seat differs) ∙ e)

      stands_left : (seat l : ℕ) (to : Place) → known_of seats2 seat ≡ Only l to → StandsThere later now seat l to
      stands_left seat l to e =
          let o = stood_before seats1 seats2 place.before gone.next follows seat l to e in
          let h = had seat l o.0 o.1 in let x = known.stands seat l o.0 h.1 in
          still place.before gone.next next_owned (λ k. k ≢ place.key) moves seat l to o.0 x
          (λ same at. h.0 (sym x.own ∙ ap (λ (y : Wait). y.id.seat)
          (sym (stands_wait records x.chain.first None x.passed o.0.key x.wait x.rest gone x.links.linked (ap (get records) at ∙ was_there))))) o.2

      pub known_left : AreKnown later now seats2
      known_left = record {
        allowed = λ at found read. allows_followed seats1 seats2 place.before gone.next follows found.wait.id.seat at (allowed_left at found read);
        stands = stands_left;
      }
