-- Lemmas on linked records: what a chain keeps when one record changes.
use Rattle.std.proofs.Common.{◌≡◌, ◌≢◌, ℕ, zero, suc, ◌+◌, ◌<◌, ◌≤◌, List, [], ◌∷◌, ◌++◌, set, length, Option, Some, None}
use Rattle.std.proofs.Common.{is_some, is_none, cond, refl, sym}
use Rattle.std.proofs.Common.{ap, ◌∙◌, arith, append_assoc, append-nil, length-append}
use Rattle.std.proofs.lemmas.List.Sums.{sum_by-set}
use Rattle.std.specs.Option.{option_or}
use Rattle.slab.specs.Slab.{Slab, get, ContainsKey, slab_len, Updates, with_value}
use Rattle.slab.proofs.SlabLemmas.{Updates-set, Updates-with_value, ContainsKey-within}
use Rattle.waiters.specs.declared.wait.Wait.{Wait}
use Rattle.waiters.specs.declared.lists.Record.{Record}
use Rattle.waiters.specs.declared.lists.Chain.{Chain}
use Rattle.waiters.specs.declared.lists.Place.{Place}
use Rattle.waiters.specs.Chains.{waits_from, waits_of, Linked, last_key, Owned, Links, IsThere, Relinks, Appends, Prepends, Unlinks, StandsAt}

-- the key is none of these records'
abbrev pub Avoids : Option ℕ → List (ℕ × Wait) → Type 0
Avoids None entries = Unit {0}
Avoids (Some key) [] = Unit {0}
Avoids (Some key) (entry ∷ rest) = (entry.0 ≢ key) × Avoids (Some key) rest

abbrev next_of : Option Record → Option ℕ
next_of None = None
next_of (Some found) = found.next

pub last_key-append : (front : List (ℕ × Wait)) (entry : ℕ × Wait) (back : List (ℕ × Wait))
    → last_key (front ++ entry ∷ back) ≡ last_key (entry ∷ back)
last_key-append [] entry back = refl
last_key-append (first ∷ []) entry back = refl
last_key-append (first ∷ second ∷ front) entry back = last_key-append (second ∷ front) entry back

pub front_of : (entries : List (ℕ × Wait)) (key : ℕ) → Some key ≡ last_key entries → (front : List (ℕ × Wait)) × (wait : Wait)
    × (entries ≡ front ++ (key, wait) ∷ [])
front_of [] key is = absurd (cc)
front_of (entry ∷ []) key is = let same : key ≡ entry.0 = cc in ([], entry.1, rw same refl)
front_of (entry ∷ other ∷ rest) key is =
    let later = front_of (other ∷ rest) key is in
    (entry ∷ later.0, later.1, ap (λ entries. entry ∷ entries) later.2)

pub nil_from_last : (entries : List (ℕ × Wait)) → None ≡ last_key entries → entries ≡ []
nil_from_last [] is = refl
nil_from_last (entry ∷ []) is = absurd (cc)
nil_from_last (entry ∷ other ∷ rest) is = let nil = nil_from_last (other ∷ rest) is in absurd (cc)

module _ (owner : ℕ → ℕ) (list : ℕ) where
  pub Owned-split : (front back : List (ℕ × Wait)) → Owned owner list (front ++ back) → Owned owner list front × Owned owner list back
  Owned-split [] back owned = (tt, owned)
  Owned-split (entry ∷ front) back owned =
      let later = Owned-split front back owned.1 in ((owned.0, later.0), later.1)

  pub Owned-join : (front back : List (ℕ × Wait)) → Owned owner list front → Owned owner list back → Owned owner list (front ++ back)
  Owned-join [] back before after = after
  Owned-join (entry ∷ front) back before after = (before.0, Owned-join front back before.1 after)

  -- another list's record is none of these
  pub Avoids-owned : (key : ℕ) (entries : List (ℕ × Wait)) → owner key ≢ list → Owned owner list entries → Avoids (Some key) entries
  Avoids-owned key [] differs owned = tt
  Avoids-owned key (entry ∷ rest) differs owned =
      (λ same. differs (ap owner (sym same) ∙ owned.0), Avoids-owned key rest differs owned.1)

pub Owned-changed : (owner other : ℕ → ℕ) (list key : ℕ) (entries : List (ℕ × Wait)) → ((at : ℕ) → at ≢ key → other at ≡ owner at)
    → Avoids (Some key) entries → Owned owner list entries → Owned other list entries
Owned-changed owner other list key [] same avoids owned = tt
Owned-changed owner other list key (entry ∷ rest) same avoids owned =
    (same entry.0 avoids.0 ∙ owned.0, Owned-changed owner other list key rest same avoids.1 owned.1)

pub Avoids-split : (key : ℕ) (front back : List (ℕ × Wait)) → Avoids (Some key) (front ++ back) → Avoids (Some key) front × Avoids (Some key) back
Avoids-split key [] back avoids = (tt, avoids)
Avoids-split key (entry ∷ front) back avoids =
    let later = Avoids-split key front back avoids.1 in ((avoids.0, later.0), later.1)

abbrev wait_of : Option Record → Wait → Wait
wait_of None wait = wait
wait_of (Some found) wait = found.wait

abbrev relink : Option Record → Option ℕ → Option Record
relink None next = None
relink (Some found) next = Some (record found { next = next })

module _ (records : Slab Record) where
  pub Linked-split : (front : List (ℕ × Wait)) (here : Option ℕ) (back : List (ℕ × Wait)) (there : Option ℕ)
      → Linked records here (front ++ back) there → (middle : Option ℕ) × Linked records here front middle × Linked records middle back there
  Linked-split [] here back there linked = (here, refl, linked)
  Linked-split (entry ∷ front) here back there linked =
      let later = Linked-split front linked.0 back there linked.3 in
      (later.0, (linked.0, linked.1, linked.2, later.1), later.2)

  pub Linked-join : (front : List (ℕ × Wait)) (here middle : Option ℕ) (back : List (ℕ × Wait)) (there : Option ℕ)
      → Linked records here front middle → Linked records middle back there → Linked records here (front ++ back) there
  Linked-join [] here middle back there before after = rw before after
  Linked-join (entry ∷ front) here middle back there before after =
      (before.0, before.1, before.2, Linked-join front before.0 middle back there before.3 after)

  -- a link determines the records that follow
  pub same_entries : (these those : List (ℕ × Wait)) (here : Option ℕ) → Linked records here these None
      → Linked records here those None → these ≡ those
  same_entries [] [] here a b = refl
  same_entries [] (entry ∷ those) here a b = absurd (cc)
  same_entries (entry ∷ these) [] here a b = absurd (cc)
  same_entries (entry ∷ these) (other ∷ those) here a b =
      let keys : entry.0 ≡ other.0 = cc in
      let read : Some (record { wait = other.1; next = b.0 }) ≡ Some (record { wait = entry.1; next = a.0 }) =
      sym b.2 ∙ (ap (get records) (sym keys) ∙ a.2) in
      let next : b.0 ≡ a.0 = ap next_of read in
      let waits : other.1 ≡ entry.1 = ap (λ slot. wait_of slot entry.1) read in
      let pair : entry ≡ other = ap (λ key. (key, entry.1)) keys ∙ ap (λ wait. (other.0, wait)) (sym waits) in
      ap (λ first. first ∷ these) pair ∙ ap (λ rest. other ∷ rest) (same_entries these those a.0 a.3 (rw next at b.3))

  -- no later record is the first one again
  pub Avoids-shorter : (key : ℕ) (whole : List (ℕ × Wait)) (entries : List (ℕ × Wait)) (here : Option ℕ) → Linked records (Some key) whole None
      → Linked records here entries None → length entries < length whole → Avoids (Some key) entries
  Avoids-shorter key whole [] here a b short = tt
  Avoids-shorter key whole (entry ∷ entries) here a b short = (
    λ same.
        let again = ap length (same_entries (entry ∷ entries) whole (Some key) (b.0, ap Some (sym same), b.2, b.3) a) in
        absurd (omega arith),
    Avoids-shorter key whole entries b.0 a b.3 (omega arith),
  )

  -- nor is an earlier one
  pub Avoids-longer : (key : ℕ) (whole : List (ℕ × Wait)) (front : List (ℕ × Wait)) (here : Option ℕ) → Linked records (Some key) whole None
      → Linked records here (front ++ whole) None → Avoids (Some key) front
  Avoids-longer key whole [] here a b = tt
  Avoids-longer key whole (entry ∷ front) here a b = (
    λ same.
        let again = ap length (same_entries (entry ∷ front ++ whole) whole (Some key) (b.0, ap Some (sym same), b.2, b.3) a) in
        absurd (omega (arith, length-append front whole)),
    Avoids-longer key whole front b.0 a b.3,
  )

  pub Avoids-vacant : (key : ℕ) (entries : List (ℕ × Wait)) (here there : Option ℕ) → get records key ≡ None
      → Linked records here entries there → Avoids (Some key) entries
  Avoids-vacant key [] here there vacant linked = tt
  Avoids-vacant key (entry ∷ rest) here there vacant linked = (
    λ same. let read = ap (get records) same in absurd (cc),
    Avoids-vacant key rest linked.0 there vacant linked.3,
  )

  pub waits_from-Linked : (entries : List (ℕ × Wait)) (left : ℕ) (here : Option ℕ) → length entries ≤ left → Linked records here entries None
      → waits_from records left here ≡ waits_of entries
  waits_from-Linked [] zero here enough linked = refl
  waits_from-Linked [] (suc left) here enough linked = rw linked refl
  waits_from-Linked (entry ∷ rest) zero here enough linked = absurd (omega arith)
  waits_from-Linked (entry ∷ rest) (suc left) here enough linked =
      rw (linked.1, linked.2, waits_from) (ap (λ waits. entry.1 ∷ waits) (waits_from-Linked rest left linked.0 (omega arith) linked.3))

-- no record follows where there is no link
pub nil_from_none : (records : Slab Record) (first : Option ℕ) (entries : List (ℕ × Wait)) → first ≡ None
    → Linked records first entries None → entries ≡ []
nil_from_none records first [] is linked = refl
nil_from_none records first (entry ∷ rest) is linked = absurd (cc)

-- a chain keeps its records where another record changes
pub Linked-Updates : (old new : Slab Record) (key : ℕ) (slot : Option Record) (entries : List (ℕ × Wait)) (here there : Option ℕ)
    → Updates old new key slot → Avoids (Some key) entries → Linked old here entries there → Linked new here entries there
Linked-Updates old new key slot [] here there updates avoids linked = linked
Linked-Updates old new key slot (entry ∷ rest) here there updates avoids linked = (
  linked.0,
  linked.1,
  updates.others entry.0 avoids.0 ∙ linked.2,
  Linked-Updates old new key slot rest linked.0 there updates avoids.1 linked.3,
)

-- the records of a chain are different ones, so there are no more than the slab has
pub length-Linked : (records : Slab Record) (entries : List (ℕ × Wait)) (here : Option ℕ)
    → Linked records here entries None → length entries ≤ slab_len records
length-Linked records [] here linked = omega arith
length-Linked records (entry ∷ rest) here linked =
    let within = ContainsKey-within records entry.0 (rw linked.2 refl) in
    let without : Slab Record = record records { slots = set records.slots entry.0 None } in
    let updates = Updates-set records without entry.0 None within refl in
    let avoids = Avoids-shorter records entry.0 (entry ∷ rest) rest linked.0 (rw linked.1 at linked) linked.3 (omega arith) in
    let kept = Linked-Updates records without entry.0 None rest linked.0 None updates avoids linked.3 in
    let fewer = rw linked.2 at (sum_by-set (λ slot. cond (is_some slot) 1 0) records.slots entry.0 None None within) in
    omega (arith, length-Linked without rest linked.0 kept)

pub slab_len-with_value : {T : Type 0} (records : Slab T) (key : ℕ) (value : T) → ContainsKey records key
    → slab_len (with_value records key value) ≡ slab_len records
slab_len-with_value records key value present =
    let counted = sum_by-set (λ slot. cond (is_some slot) 1 0) records.slots key (Some value) None (ContainsKey-within records key present) in
    grind (arith)

-- a chain keeps its records where another record is linked to something else
pub Linked-others : (old new : Slab Record) (first before next result : Option ℕ) (entries : List (ℕ × Wait)) (here there : Option ℕ)
    → Relinks old new first before next result → Avoids before entries → Linked old here entries there → Linked new here entries there
Linked-others old new first None next result entries here there relinks avoids linked = rw relinks.0 linked
Linked-others old new first (Some key) next result entries here there relinks avoids linked =
    let value : Record = record relinks.0 { next = next } in
    rw relinks.2 (Linked-Updates old (with_value old key value) key (Some value) entries here there
    (Updates-with_value old key value (rw relinks.1 refl)) avoids linked)

-- the last of a part of a chain is no other record of it
pub Avoids-last : (records : Slab Record) (last here there : Option ℕ) (entries back : List (ℕ × Wait)) → Linked records here (entries ++ back) None
    → last ≡ last_key entries → Avoids last back
Avoids-last records None here there entries back linked is = tt
Avoids-last records (Some key) here there entries back linked is =
    let ends = front_of entries key is in
    let whole = rw (ends.2, append_assoc ends.0 ((key, ends.1) ∷ []) back) at linked in
    let parts = Linked-split records ends.0 here ((key, ends.1) ∷ back) None whole in
    Avoids-shorter records key ((key, ends.1) ∷ back) back parts.2.0 (rw parts.2.1 at parts.2) parts.2.3 (omega arith)

-- these records now lead to `next`
pub Linked-relinked : (whole old new : Slab Record) (first before next result there : Option ℕ) (entries back : List (ℕ × Wait))
    → Linked whole first (entries ++ back) None → before ≡ last_key entries → Linked old first entries there
    → Relinks old new first before next result → Linked new result entries next
Linked-relinked whole old new first None next result there entries back linked is part relinks =
    rw (nil_from_last entries is) relinks.1
Linked-relinked whole old new first (Some key) next result there entries back linked is part relinks =
    let ends = front_of entries key is in
    let parts = Linked-split old ends.0 first ((key, ends.1) ∷ []) there (rw ends.2 at part) in
    let all = rw (ends.2, append_assoc ends.0 ((key, ends.1) ∷ []) back) at linked in
    let halves = Linked-split whole ends.0 first ((key, ends.1) ∷ back) None all in
    let avoids = Avoids-longer whole key ((key, ends.1) ∷ back) ends.0 first (rw halves.2.1 at halves.2) all in
    let value : Record = record relinks.0 { next = next } in
    let updates = Updates-with_value old key value (rw relinks.1 refl) in
    let kept = Linked-Updates old (with_value old key value) key (Some value) ends.0 first parts.0 updates avoids parts.1 in
    let same : Some relinks.0 ≡ Some (record { wait = ends.1; next = parts.2.0 }) = sym relinks.1 ∙ parts.2.2 in
    let written = updates.changed ∙ ap (λ slot. relink slot next) same in
    rw (
      relinks.2,
      relinks.3,
      ends.2,
    ) (Linked-join (with_value old key value) ends.0 first (Some key) ((key, ends.1) ∷ []) next (rw parts.2.1 at kept) (next, refl, written, refl))

pub Relinks-room : (old new : Slab Record) (first before next result : Option ℕ) → Relinks old new first before next result
    → (slab_len new ≡ slab_len old) × (new.capacity ≡ old.capacity)
Relinks-room old new first None next result relinks = rw relinks.0 (refl, refl)
Relinks-room old new first (Some key) next result relinks =
    let value : Record = record relinks.0 { next = next } in
    rw relinks.2 (slab_len-with_value old key value (rw relinks.1 refl), refl)

-- the last of a part of a chain is there, and so is the record that comes next
pub last_there : (records : Slab Record) (last here there : Option ℕ) (entries back : List (ℕ × Wait)) → Linked records here (entries ++ back) there
    → last ≡ last_key entries → IsThere records last
last_there records None here there entries back linked is = tt
last_there records (Some key) here there entries back linked is =
    let ends = front_of entries key is in
    let whole = rw (ends.2, append_assoc ends.0 ((key, ends.1) ∷ []) back) at linked in
    let parts = Linked-split records ends.0 here ((key, ends.1) ∷ back) there whole in rw parts.2.2 refl

pub last_key-cons : (entry : ℕ × Wait) (entries : List (ℕ × Wait)) → option_or (last_key entries) (Some entry.0) ≡ last_key (entry ∷ entries)
last_key-cons entry [] = refl
last_key-cons entry (other ∷ []) = refl
last_key-cons entry (other ∷ next ∷ rest) = last_key-cons entry (next ∷ rest)

-- the links of a chain after a push at its end
pub Links-appended : (old new : Slab Record) (chain : Chain) (entries : List (ℕ × Wait)) (wait : Wait) (longer : Chain) → Links old chain entries
    → (appends : Appends old new chain wait longer) → Links new longer (entries ++ (appends.key, wait) ∷ [])
Links-appended old new chain entries wait longer links appends =
    let key = appends.key in
    let middle = appends.middle in
    let avoids = Avoids-vacant old key entries chain.first None appends.vacant links.linked in
    let kept = Linked-Updates old middle key _ entries chain.first None appends.added avoids links.linked in
    let whole = rw (← append-nil entries) at kept in
    let front = Linked-relinked middle middle new chain.first chain.last (Some key) longer.first None entries [] whole links.ends kept appends.relinked in
    let back = Linked-others middle new chain.first chain.last (Some key) longer.first ((key, wait) ∷ []) (Some key) None appends.relinked
    (Avoids-new chain.last links.ends avoids) (None, refl, appends.added.changed, refl) in
    record {
      linked = Linked-join new entries longer.first (Some key) ((key, wait) ∷ []) None front back;
      ends = appends.last ∙ sym (last_key-append entries (key, wait) []);
      counted = omega (arith, length-append entries ((key, wait) ∷ []), links.counted, appends.len);
    }
  where
    Avoids-new : (last : Option ℕ) → last ≡ last_key entries → Avoids (Some appends.key) entries → Avoids last ((appends.key, wait) ∷ [])
    Avoids-new None is avoids = tt
    Avoids-new (Some other) is avoids =
        let ends = front_of entries other is in
        let apart = Avoids-split appends.key ends.0 ((other, ends.1) ∷ []) (rw ends.2 at avoids) in
        (λ same. apart.1.0 (sym same), tt)

-- the links of a chain after a push at its front
pub Links-prepended : (old new : Slab Record) (chain : Chain) (entries : List (ℕ × Wait)) (wait : Wait) (longer : Chain) → Links old chain entries
    → (prepends : Prepends old new chain wait longer) → Links new longer ((prepends.key, wait) ∷ entries)
Links-prepended old new chain entries wait longer links prepends =
    let key = prepends.key in
    let avoids = Avoids-vacant old key entries chain.first None prepends.vacant links.linked in
    record {
      linked =
          (chain.first, prepends.first, prepends.added.changed, Linked-Updates old new key _ entries chain.first None prepends.added avoids links.linked);
      ends =
          prepends.last ∙ ap (λ last. option_or last (Some key)) links.ends ∙ last_key-cons (key, wait) entries;
      counted = omega (arith, links.counted, prepends.len);
    }

-- the links of a chain after a record was taken out
pub Links-unlinked : (old new : Slab Record) (chain : Chain) (entries : List (ℕ × Wait)) (place : Place) (wait : Wait) (left : Chain)
    → Links old chain entries → (stands : StandsAt entries place) → Unlinks old new chain place wait left
    → Links new left (stands.passed ++ stands.rest) × (stands.wait ≡ wait)
Links-unlinked old new chain entries place wait left links stands unlinks =
    let back : List (ℕ × Wait) = (place.key, stands.wait) ∷ stands.rest in
    let whole = rw stands.splits at links.linked in
    let parts = Linked-split old stands.passed chain.first back None whole in
    let suffix = rw parts.2.1 at parts.2 in
    let before = Avoids-longer old place.key back stands.passed chain.first suffix whole in
    let after = Avoids-shorter old place.key back stands.rest parts.2.0 suffix parts.2.3 (omega arith) in
    let front = Linked-Updates old unlinks.middle place.key None stands.passed chain.first parts.0 unlinks.removed before parts.1 in
    let rest = Linked-Updates old unlinks.middle place.key None stands.rest parts.2.0 None unlinks.removed after parts.2.3 in
    let next : unlinks.next ≡ parts.2.0 = ap next_of (sym unlinks.found ∙ parts.2.2) in
    let relinked = Linked-relinked old unlinks.middle new chain.first place.before unlinks.next left.first parts.0 stands.passed back
    whole stands.before front unlinks.relinked in
    let apart = Avoids-last old place.before chain.first None stands.passed back whole stands.before in
    let kept = Linked-others unlinks.middle new chain.first place.before unlinks.next left.first stands.rest parts.2.0 None unlinks.relinked
    (Avoids-tail place.before apart) rest in (
      record {
        linked =
            Linked-join new stands.passed left.first unlinks.next stands.rest None relinked (rw next kept);
        ends = unlinks.last ∙ last_is stands.rest (rw next rest) (links.ends ∙ ap last_key stands.splits);
        counted =
            length-append stands.passed stands.rest ∙ sym
            (fewer (length entries) (length stands.passed) (length stands.rest) left.len (links.counted ∙ sym unlinks.len)
            (ap length stands.splits ∙ length-append stands.passed back));
      },
      sym (ap (λ slot. wait_of slot wait) (sym unlinks.found ∙ parts.2.2)),
    )
  where
    Avoids-tail : (before : Option ℕ) → Avoids before ((place.key, stands.wait) ∷ stands.rest) → Avoids before stands.rest
    Avoids-tail None avoids = tt
    Avoids-tail (Some key) avoids = avoids.1

    last_is : (rest : List (ℕ × Wait)) → Linked unlinks.middle unlinks.next rest None
        → chain.last ≡ last_key (stands.passed ++ (place.key, stands.wait) ∷ rest)
        → cond (is_none unlinks.next) place.before chain.last ≡ last_key (stands.passed ++ rest)
    last_is [] linked is = rw (linked, append-nil stands.passed) stands.before
    last_is (entry ∷ rest) linked is =
        rw linked.1 (is ∙ last_key-append stands.passed (place.key, stands.wait) (entry ∷ rest) ∙ sym (last_key-append stands.passed entry rest))

    fewer : (all front back left : ℕ) → all ≡ left + 1 → all ≡ front + suc back → left ≡ front + back
    fewer all front back left a b = omega arith
