-- Lemmas on one step of an open list of `Lists`: what its chain and its waits come to.
use Rattle.std.proofs.Common.{Bool, ◌≡◌, ◌≢◌, ℕ, ◌+◌, ◌-◌, ◌<◌, ◌^◌, List, [], ◌∷◌, ◌++◌, length, Option, Some, None, refl}
use Rattle.std.proofs.Common.{sym, ap, ◌∙◌, append-nil, length-append, arith}
use Rattle.std.proofs.lemmas.List.{map_push, length-map}
use Rattle.std.specs.Option.{unwrap_or}
use Rattle.slab.specs.Slab.{Slab, get, ContainsKey, Updates, with_value}
use Rattle.slab.proofs.SlabLemmas.{Updates-with_value}
use Rattle.waiters.specs.Lists.{Lists, list_at, waits_at, Changes, first_sought, without_sought}
use Rattle.waiters.specs.declared.wait.Wait.{Wait}
use Rattle.waiters.specs.declared.lists.Record.{Record}
use Rattle.waiters.specs.declared.lists.Chain.{Chain}
use Rattle.waiters.specs.declared.lists.Place.{Place}
use Rattle.waiters.specs.Chains.{waits_in, waits_of, listed, Linked, Links, Owned, IsChain, HasRoom, AreChained, IsThere, Appends, Prepends, Unlinks, StandsAt}
use Rattle.waiters.specs.Chains.{FoundAt, Finds}
use Rattle.waiters.proofs.ChainLemmas.{Avoids-last, Linked-split, same_entries, nil_from_last, nil_from_none, Avoids-vacant, Avoids-owned, Owned-changed}
use Rattle.waiters.proofs.ChainLemmas.{Owned-split, Owned-join, length-Linked, Linked-Updates, Linked-others, Relinks-room, last_there, slab_len-with_value}
use Rattle.waiters.proofs.ChainLemmas.{Links-appended, Links-prepended, Links-unlinked}
use Rattle.waiters.proofs.OtherLemmas.{list_at-listed, waits_in-Links, with_owner, with_owner-same, with_owner-other, AreChained-step, Changes-step}
use Rattle.waiters.proofs.OtherLemmas.{HasRoom-kept, HasRoom-less, HasRoom-more, Avoids-other}

-- the first record of a chain, if it has one
StandsAt-linked : (records : Slab Record) (first : Option ℕ) (key : ℕ) (entries : List (ℕ × Wait)) → first ≡ Some key
    → Linked records first entries None → StandsAt entries (record { before = None; key = key })
StandsAt-linked records first key [] is linked = absurd (cc)
StandsAt-linked records first key (entry ∷ rest) is linked =
    let same : key ≡ entry.0 = cc in
    record { passed = []; wait = entry.1; rest = rest; splits = rw same refl; before = refl }

module _ (records : Slab Record) (chains : Slab Chain) (room list_room : ℕ) (old : AreChained records chains room list_room) (list : ℕ) (chain : Chain)
    (is_open : get chains list ≡ Some chain) where
  -- the chain of an open list
  abbrev pub mine : IsChain records old.owner list chain
  mine = old.chained list chain is_open

  pub list_at-open : (from : Lists) → from.slots ≡ listed records chains → list_at from list ≡ Some (waits_of mine.entries)
  list_at-open from was =
      rw was (list_at-listed records chains list ∙ ap (waits_in records) is_open ∙ waits_in-Links records chain mine.entries mine.links)

  pub len_fits : 0 < room → chain.len + 1 < 2 ^ 64
  len_fits some =
      omega (arith, length-Linked records mine.entries chain.first mine.links.linked, mine.links.counted, old.records_fit.bounded)

  pub IsThere-last : IsThere records chain.last
  IsThere-last =
      last_there records chain.last chain.first None mine.entries [] (rw append-nil mine.links.linked) mine.links.ends

  -- the list's chain changes, and no other
  pub record Step (later : Slab Record) (next : Chain) (entries : List (ℕ × Wait)) (room2 : ℕ) : Type 0 where
    pub owner : ℕ → ℕ
    pub links : Links later next entries
    pub owned : Owned owner list entries
    pub keeps : (other : ℕ) (here : Option ℕ) (theirs : List (ℕ × Wait)) → other ≢ list → Linked records here theirs None
        → Owned old.owner other theirs → Linked later here theirs None × Owned owner other theirs
    pub fits : HasRoom later room2

  module _ (later : Slab Record) (next : Chain) (entries : List (ℕ × Wait)) (room2 : ℕ) (step : Step later next entries room2) where
    updates : Updates chains (with_value chains list next) list (Some next)
    updates = Updates-with_value chains list next (rw is_open refl)

    pub Step-AreChained : AreChained later (with_value chains list next) room2 list_room
    Step-AreChained =
        AreChained-step records later chains (with_value chains list next) room list_room old list (Some next) updates step.owner room2 list_room step.keeps
        (record { entries = entries; links = step.links; owned = step.owned }) step.fits
        (HasRoom-kept chains (with_value chains list next) list_room old.chains_fit refl (slab_len-with_value chains list next (rw is_open refl)))

    pub Step-Changes : (from to : Lists) (result : List Wait) → from.slots ≡ listed records chains
        → to.slots ≡ listed later (with_value chains list next) → waits_of entries ≡ result → Changes from to list (Some result)
    Step-Changes from to result was is gives =
        Changes-step records later chains (with_value chains list next) room list_room old list (Some next) updates step.owner from to (Some result)
        step.keeps was is (waits_in-Links later next entries step.links ∙ ap Some gives)

  pub appended : (later : Slab Record) (wait : Wait) (longer : Chain) (appends : Appends records later chain wait longer) → 0 < room
      → Step later longer (mine.entries ++ (appends.key, wait) ∷ []) (room - 1)
  appended later wait longer appends some =
      let key = appends.key in
      let owner = with_owner old.owner key list in
      let avoids = Avoids-vacant records key mine.entries chain.first None appends.vacant mine.links.linked in
      let held = Relinks-room appends.middle later chain.first chain.last (Some key) longer.first appends.relinked in
      record {
        owner = owner;
        links = Links-appended records later chain mine.entries wait longer mine.links appends;
        owned =
            Owned-join owner list mine.entries ((key, wait) ∷ [])
            (Owned-changed old.owner owner list key mine.entries (with_owner-other old.owner key list) avoids mine.owned)
            (with_owner-same old.owner key list, tt);
        keeps = λ other here theirs differs linked owned.
            let free = Avoids-vacant records key theirs here None appends.vacant linked in
            let kept = Linked-Updates records appends.middle key _ theirs here None appends.added free linked in (
              Linked-others appends.middle later chain.first chain.last (Some key) longer.first theirs here None appends.relinked
                  (Avoids-other old.owner list other chain.last mine.entries theirs differs mine.links.ends mine.owned owned) kept,
              Owned-changed old.owner owner other key theirs (with_owner-other old.owner key list) free owned,
            );
        fits =
            HasRoom-less records later room old.records_fit (held.1 ∙ appends.capacity) some (held.0 ∙ appends.room);
      }

  pub prepended : (later : Slab Record) (wait : Wait) (longer : Chain) (prepends : Prepends records later chain wait longer) → 0 < room
      → Step later longer ((prepends.key, wait) ∷ mine.entries) (room - 1)
  prepended later wait longer prepends some =
      let key = prepends.key in
      let owner = with_owner old.owner key list in
      let avoids = Avoids-vacant records key mine.entries chain.first None prepends.vacant mine.links.linked in
      record {
        owner = owner;
        links = Links-prepended records later chain mine.entries wait longer mine.links prepends;
        owned =
            (with_owner-same old.owner key list, Owned-changed old.owner owner list key mine.entries (with_owner-other old.owner key list) avoids mine.owned);
        keeps = λ other here theirs differs linked owned.
            let free = Avoids-vacant records key theirs here None prepends.vacant linked in (
              Linked-Updates records later key _ theirs here None prepends.added free linked,
              Owned-changed old.owner owner other key theirs (with_owner-other old.owner key list) free owned,
            );
        fits = HasRoom-less records later room old.records_fit prepends.capacity some prepends.room;
      }

  pub unlinked : (later : Slab Record) (place : Place) (wait : Wait) (left : Chain) (stands : StandsAt mine.entries place)
      → Unlinks records later chain place wait left → Step later left (stands.passed ++ stands.rest) (room + 1)
  unlinked later place wait left stands unlinks =
      let held = Relinks-room unlinks.middle later chain.first place.before unlinks.next left.first unlinks.relinked in
      let parts = Owned-split old.owner list stands.passed ((place.key, stands.wait) ∷ stands.rest) (rw stands.splits at mine.owned) in
      record {
        owner = old.owner;
        links = (Links-unlinked records later chain mine.entries place wait left mine.links stands unlinks).0;
        owned = Owned-join old.owner list stands.passed stands.rest parts.0 parts.1.1;
        keeps = λ other here theirs differs linked owned.
            let free = Avoids-owned old.owner other place.key theirs (λ same. differs (sym same ∙ parts.1.0)) owned in
            let kept = Linked-Updates records unlinks.middle place.key None theirs here None unlinks.removed free linked in (
              Linked-others unlinks.middle later chain.first place.before unlinks.next left.first theirs here None unlinks.relinked
                  (Avoids-other old.owner list other place.before stands.passed theirs differs stands.before parts.0 owned) kept,
              owned,
            );
        fits =
            HasRoom-more records later room old.records_fit (held.1 ∙ unlinks.capacity) (rw held.0 unlinks.room);
      }

  pub waits_at-open : (from : Lists) → from.slots ≡ listed records chains → waits_at from list ≡ waits_of mine.entries
  waits_at-open from was = ap (λ at. unwrap_or at []) (list_at-open from was)

  pub len_is : (from : Lists) → from.slots ≡ listed records chains → chain.len ≡ length (waits_at from list)
  len_is from was =
      rw (waits_at-open from was) (sym mine.links.counted ∙ sym (length-map mine.entries (λ entry. entry.1)))

  module _ (later : Slab Record) (wait : Wait) (longer : Chain) (appends : Appends records later chain wait longer) (some : 0 < room) where
    pub AreChained-appended : AreChained later (with_value chains list longer) (room - 1) list_room
    AreChained-appended =
        Step-AreChained later longer (mine.entries ++ (appends.key, wait) ∷ []) (room - 1) (appended later wait longer appends some)

    pub Changes-appended : (from to : Lists) → from.slots ≡ listed records chains → to.slots ≡ listed later (with_value chains list longer)
        → Changes from to list (Some (waits_at from list ++ wait ∷ []))
    Changes-appended from to was is =
        Step-Changes later longer (mine.entries ++ (appends.key, wait) ∷ []) (room - 1) (appended later wait longer appends some) from to
        (waits_at from list ++ wait ∷ []) was is
        (map_push (λ entry. entry.1) mine.entries (appends.key, wait) ∙ ap (λ waits. waits ++ wait ∷ []) (sym (waits_at-open from was)))

  module _ (later : Slab Record) (wait : Wait) (longer : Chain) (prepends : Prepends records later chain wait longer) (some : 0 < room) where
    pub AreChained-prepended : AreChained later (with_value chains list longer) (room - 1) list_room
    AreChained-prepended =
        Step-AreChained later longer ((prepends.key, wait) ∷ mine.entries) (room - 1) (prepended later wait longer prepends some)

    pub Changes-prepended : (from to : Lists) → from.slots ≡ listed records chains → to.slots ≡ listed later (with_value chains list longer)
        → Changes from to list (Some (wait ∷ waits_at from list))
    Changes-prepended from to was is =
        Step-Changes later longer ((prepends.key, wait) ∷ mine.entries) (room - 1) (prepended later wait longer prepends some) from to
        (wait ∷ waits_at from list) was is (ap (λ waits. wait ∷ waits) (sym (waits_at-open from was)))

  module _ (later : Slab Record) (place : Place) (wait : Wait) (left : Chain) (stands : StandsAt mine.entries place)
      (unlinks : Unlinks records later chain place wait left) where
    pub AreChained-unlinked : AreChained later (with_value chains list left) (room + 1) list_room
    AreChained-unlinked =
        Step-AreChained later left (stands.passed ++ stands.rest) (room + 1) (unlinked later place wait left stands unlinks)

    pub Changes-unlinked : (from to : Lists) (result : List Wait) → from.slots ≡ listed records chains → to.slots
        ≡ listed later (with_value chains list left) → waits_of (stands.passed ++ stands.rest) ≡ result → Changes from to list (Some result)
    Changes-unlinked =
        Step-Changes later left (stands.passed ++ stands.rest) (room + 1) (unlinked later place wait left stands unlinks)

    pub wait-unlinked : stands.wait ≡ wait
    wait-unlinked =
        (Links-unlinked records later chain mine.entries place wait left mine.links stands unlinks).1

  pub StandsAt-first : (key : ℕ) → chain.first ≡ Some key → StandsAt mine.entries (record { before = None; key = key })
  StandsAt-first key is = StandsAt-linked records chain.first key mine.entries is mine.links.linked

  pub first_waits : (key : ℕ) (stands : StandsAt mine.entries (record { before = None; key = key })) (from : Lists) → from.slots ≡ listed records chains
      → waits_at from list ≡ stands.wait ∷ waits_of (stands.passed ++ stands.rest)
  first_waits key stands from was =
      let nil = nil_from_last stands.passed stands.before in
      let splits = stands.splits ∙ ap (λ front. front ++ (key, stands.wait) ∷ stands.rest) nil in
      waits_at-open from was ∙ ap waits_of splits ∙ ap (λ front. stands.wait ∷ waits_of (front ++ stands.rest)) (sym nil)

  pub nil_from_first : chain.first ≡ None → mine.entries ≡ []
  nil_from_first is = nil_from_none records chain.first mine.entries is mine.links.linked

  pub FoundAt-mine : (is : Wait → Bool) (place : Place) → Finds records chain is (Some place) → FoundAt mine.entries is place
  FoundAt-mine is place finds =
      let same = same_entries records finds.0 mine.entries chain.first finds.1.linked mine.links.linked in
      rw same at finds.2

  pub none_found : (is : Wait → Bool) (from : Lists) → from.slots ≡ listed records chains → Finds records chain is None
      → (first_sought is (waits_at from list) ≡ None) × (list_at from list ≡ Some (without_sought is (waits_at from list)))
  none_found ticket from was finds =
      let same = same_entries records finds.0 mine.entries chain.first finds.1.linked mine.links.linked in
      let waits = waits_at-open from was in (
        rw (waits, ← same) finds.2,
        list_at-open from was ∙ ap Some (rw (waits, ← same) (sym finds.3)),
      )

  -- what a function that takes a record out needs
  module _ (place : Place) (stands : StandsAt mine.entries place) where
    whole : Linked records chain.first (stands.passed ++ (place.key, stands.wait) ∷ stands.rest) None
    whole = rw stands.splits at mine.links.linked

    pub ContainsKey-place : ContainsKey records place.key
    ContainsKey-place =
        let parts = Linked-split records stands.passed chain.first ((place.key, stands.wait) ∷ stands.rest) None whole in
        rw parts.2.2 refl

    pub wait_found : (found : Record) → get records place.key ≡ Some found → found.wait ≡ stands.wait
    wait_found found is =
        let parts = Linked-split records stands.passed chain.first ((place.key, stands.wait) ∷ stands.rest) None whole in
        let there = parts.2.2 in
        let same : found ≡ record { wait = stands.wait; next = parts.2.0 } = cc in ap (λ r. r.wait) same

    pub IsThere-before : IsThere records place.before
    IsThere-before =
        last_there records place.before chain.first None stands.passed ((place.key, stands.wait) ∷ stands.rest) whole stands.before

    pub before_apart : place.before ≢ Some place.key
    before_apart same =
        let avoids = Avoids-last records place.before chain.first None stands.passed ((place.key, stands.wait) ∷ stands.rest) whole stands.before in
        (rw same at avoids).0 refl

    pub some_counted : 0 < chain.len
    some_counted =
        omega (arith, mine.links.counted, ap length stands.splits, length-append stands.passed ((place.key, stands.wait) ∷ stands.rest))
