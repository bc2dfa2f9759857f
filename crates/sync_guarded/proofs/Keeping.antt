-- What the steps of a guarded value owe.
use Rattle.std.proofs.Common.{◌≡◌, ◌≢◌, ℕ, ◌<◌, ◌==◌, Bool, true, false, Option, Some, None, List, [], ◌∷◌, ◌++◌}
use Rattle.std.proofs.Common.{if◌then◌else◌, IsTrue, eq-eqb, append-nil, slice_index, slice_set, sym, refl, ap, ◌∙◌, subst, ⊎_elim, inl, inr, arith, length-set, get_or-set_other, get_or-set_same}
use mathlib.Core.Option as slot
use lib.ListN.{get_elem?}
use prog.Atomic.{either}
use Rattle.running_rows.specs.Table as atomic
use Rattle.running_rows.proofs.Lists.{exchanged}
use Rattle.step_table.specs.Path.{runs, Ran}
use Rattle.step_table.proofs.Paths.{goes_on_here}
use Rattle.running_rows.specs.declared.view.View.{View}
use Rattle.running_rows.specs.declared.view.Seated.{Seated}
use Rattle.running_rows.specs.History.{SeatStride}
use Rattle.running_rows.specs.Strides.{Went, Took, here, runs_lock, runs_unlock}
use Rattle.running_rows.specs.Owing.{Stands, Leads, Owes, IsSeen, IsAside}
use Rattle.running_rows.proofs.History.{in_more, strides_here, strides_else}
use Rattle.running_rows.proofs.Telling.{stays_so, tells_more}
use Rattle.sync_guarded.specs.declared.view.GuardKnown.{GuardKnown}
use Rattle.sync_guarded.specs.declared.view.GuardCall.{GuardCall}
use Rattle.sync_guarded.specs.declared.view.GuardDeed.TheVariants.{Locked, Unlocked}
use Rattle.sync_guarded.specs.Rule.{locked, unlocked, looked, Place, home, lent, InTurns, is_with, is_some, holds_then, holds_after, turn_of, turns_of, LiesAt}
use Rattle.sync_guarded.specs.Rule.{GuardLife, next_event, living_guard, ShowsGuard}
use Rattle.sync_guarded.specs.Rule.{HasCalled, IsTurn, HasGiven, sight_of, stride_of, guard_rows}
use Rattle.sync_guarded.proofs.Turns.{turns_more, turns_last, holds_is, holds_last, holds_by_turns, lent_to}

abbrev pub Me : Type 0 → Type 0
Me T = atomic.Me T (View (GuardKnown T) (GuardCall T))

module _ {T : Type 0} where
  -- the seat made this call
  abbrev pub after : Seated (GuardKnown T) (GuardCall T) → GuardCall T → Option T → Seated (GuardKnown T) (GuardCall T)
  after u call holds = record { number = u.number; knows = record u.knows { holds = holds }; gone = u.gone ++ call ∷ [] }

  ran_lock : (i : ℕ) (x : T) → Ran (living_guard {T = T}) i (sight_of false) (stride_of Locked) (sight_of true)
  ran_lock i x = record {
    world = record { word = 0; first = x; at = home x; history = [] };
    meets = record { met = tt; stands = refl; later = goes_on_here []; quiet = refl };
    stood = refl;
    seen = refl;
    did = record { can = search; read_is = refl; told_is = refl; leads = λ j. record { stands = sym (eq-eqb i i refl) j; seen = [] } };
  }

  ran_unlock : (i : ℕ) (x : T) → Ran (living_guard {T = T}) i (sight_of true) (stride_of Unlocked) (sight_of false)
  ran_unlock i x = record {
    world = record { word = 1; first = x; at = lent i; history = [] };
    meets = record { met = tt; stands = eq-eqb i i refl; later = goes_on_here []; quiet = refl };
    stood = refl;
    seen = refl;
    did = record {
      can = subst (λ (b : Bool). IsTrue ((next_event b).can 1)) (sym (eq-eqb i i refl)) refl;
      read_is = refl;
      told_is = refl;
      leads = λ j. record {
        stands = sym (ap (λ (b : Bool). is_with {T = T} i (if (next_event b).leads 1 then lent i else home x)) (eq-eqb i i refl)) j;
        seen = [];
      };
    };
  }

  turn_lock : (was : Option T) (x : T) → is_some was ≡ false → IsTurn was (locked x) (Some x)
  turn_lock None x free = inl (x, refl, refl)
  turn_lock (Some y) x free = absurd (cc)

  turn_unlock : (was : Option T) (x : T) → is_some was ≡ true → IsTurn was (unlocked x) None
  turn_unlock None x held = absurd (cc)
  turn_unlock (Some y) x held = inl (refl, refl)

  abbrev went_lock : (u : Seated (GuardKnown T) (GuardCall T)) (x : T) → is_some u.knows.holds ≡ false
      → Went guard_rows here runs u 0 (after u (locked x) (Some x))
  went_lock u x free = record {
    stride = locked x;
    ran = subst (λ (b : Bool). Ran (living_guard {T = T}) u.number (sight_of b) (stride_of Locked) (sight_of true)) (sym free) (ran_lock u.number x);
    did = refl;
    read = refl;
    also = turn_lock u.knows.holds x free;
    one = refl;
    same = (refl, refl);
  }

  abbrev went_unlock : (u : Seated (GuardKnown T) (GuardCall T)) (x : T) → is_some u.knows.holds ≡ true
      → Went guard_rows here runs u 1 (after u (unlocked x) None)
  went_unlock u x held = record {
    stride = unlocked x;
    ran = subst (λ (b : Bool). Ran (living_guard {T = T}) u.number (sight_of b) (stride_of Unlocked) (sight_of false)) (sym held) (ran_unlock u.number x);
    did = refl;
    read = refl;
    also = turn_unlock u.knows.holds x held;
    one = refl;
    same = (refl, refl);
  }

module _ {T : Type 0} (seats : ℕ) (m : Me T) (s : GuardLife T) (words : List ℕ) (homes : List (slot.Option T))
    (at : Stands guard_rows seats m.0.own s words homes 0) where
  abbrev moment : GuardCall T → SeatStride (GuardCall T)
  moment call = record { seat = m.0.own.number; stride = call }

  -- the world after this call
  abbrev next : GuardCall T → ℕ → Place T → GuardLife T
  next call word place = record s { word = word; at = place; history = s.history ++ moment call ∷ [] }

  shows : (call : GuardCall T) (word : ℕ) (place : Place T) (out : List (slot.Option T)) → LiesAt place word out
      → InTurns s.at (moment call ∷ []) place
      → ShowsGuard seats (next call word place) (slice_set words 0 word) out
  shows call word place out lies turn = record {
    word_is = get_or-set_same words 0 word 0 (let w = at.shows.wide in omega arith);
    wide = length-set words 0 word ∙ at.shows.wide;
    lies = lies;
    in_turns = turns_more (home s.first) s.at place s.history (moment call) at.shows.in_turns turn;
    there =
        λ a h. ⊎_elim (λ q. at.shows.there a q)
        (λ q. subst (λ (b : SeatStride (GuardCall T)). b.seat < seats) q at.there) (in_more a (moment call) s.history h);
  }

  own_calls : (call : GuardCall T) (word : ℕ) (place : Place T) (holds : Option T) → turn_of call.deed call [] ≡ call ∷ []
      → is_some holds ≡ holds_then (holds_after false m.0.own.gone) call.deed
      → HasCalled (after m.0.own call holds) (next call word place)
  own_calls call word place holds turn e = record {
    own = strides_here m.0.own.number s.history (moment call) refl ∙ ap (λ l. l ++ call ∷ []) at.knows.own
        ∙ ap (λ l. turns_of m.0.own.gone ++ l) (sym turn) ∙ sym (turns_last m.0.own.gone call);
    holds = e ∙ sym (holds_last false m.0.own.gone call);
  }

  others : (call : GuardCall T) (word : ℕ) (place : Place T) (u : Seated (GuardKnown T) (GuardCall T)) → u.number ≢ m.0.own.number → HasCalled u s
      → HasCalled u (next call word place)
  others call word place u ne o = record { own = strides_else u.number s.history (moment call) (λ q. ne (sym q)) ∙ o.own; holds = o.holds }

  -- the word is 0, and the lock is taken, with the value
  takes_it : is_some m.0.own.knows.holds ≡ false → (x : T) → s.at ≡ home x → Leads guard_rows seats m s words homes 0 1 (Took guard_rows here m)
  takes_it free x is_home =
      let lies : LiesAt (home x) s.word homes = subst (λ (p : Place T). LiesAt p s.word homes) is_home at.shows.lies in record {
        next = next (locked x) 1 (lent m.0.own.number);
        own = after m.0.own (locked x) (Some x);
        act = atomic.takes 0 x;
        valid = ap (λ (h : List (slot.Option T)). get_elem? h 0) lies.1;
        shows = shows (locked x) 1 (lent m.0.own.number) (slice_set homes 0 slot.none)
            (refl, ap (λ (h : List (slot.Option T)). slice_set h 0 slot.none) lies.1)
            (subst (λ (p : Place T). InTurns p (moment (locked x) ∷ []) (lent m.0.own.number)) (sym is_home) (refl, refl));
        same = refl;
        of_is = at.of_is;
        knows = own_calls (locked x) 1 (lent m.0.own.number) (Some x) refl refl;
        on = inr (locked x, refl, refl, refl);
        others = λ u ne low o. others (locked x) 1 (lent m.0.own.number) u ne o;
        tells = (went_lock m.0.own x free, (0, x, refl, (refl, refl)));
      }

  -- where the word is, by where the value is
  free_is : slice_index words 0 ≡ 0 → (x : T) × (s.at ≡ home x)
  free_is zero = by s.at at.shows.lies
    where
      by : (p : Place T) → LiesAt p s.word homes → (x : T) × (p ≡ home x)
      by (home x) lies = (x, refl)
      by (lent i) lies = let e = at.shows.word_is in let o : s.word ≡ 1 = lies.0 in absurd (omega arith)

  -- the seat holds the lock: the value is with it, and goes home
  gives_it : is_some m.0.own.knows.holds ≡ true → (y : T) → m.1 ≡ (0, y) ∷ []
      → Leads guard_rows seats m s words homes 0 0 (λ t. runs_unlock guard_rows (atomic.step 1 0 0 0 slot.none) m 0 t)
  gives_it holds y out =
      let is_mine : s.at ≡ lent m.0.own.number = lent_to m.0.own.number s.at
      (sym (holds_is m.0.own.number (home s.first) s.at s.history at.shows.in_turns)
      ∙ ap (holds_after false) at.knows.own ∙ holds_by_turns false m.0.own.gone ∙ sym at.knows.holds ∙ holds) in
      let lies : LiesAt (lent m.0.own.number) s.word homes = subst (λ (p : Place T). LiesAt p s.word homes) is_mine at.shows.lies in record {
        next = next (unlocked y) 0 (home y);
        own = after m.0.own (unlocked y) None;
        act = atomic.gives;
        valid = tt;
        shows = shows (unlocked y) 0 (home y) (atomic.put_back homes m.1)
            (refl, (λ j. atomic.put_back (lies.1 j) (out j)))
            (subst (λ (p : Place T). InTurns p (moment (unlocked y) ∷ []) (home y)) (sym is_mine) (y, refl, refl, refl));
        same = refl;
        of_is = at.of_is;
        knows = own_calls (unlocked y) 0 (home y) None refl refl;
        on = inr (unlocked y, refl, refl, refl);
        others = λ u ne low o. others (unlocked y) 0 (home y) u ne o;
        tells = (1, went_unlock m.0.own y holds, subst (HasGiven (unlocked y)) (sym out) refl, refl);
      }

turn_look : {T : Type 0} (was : Option T) (held : Bool) → IsTurn was (looked (is_some was) held) was
turn_look None held = inr (held, refl, refl)
turn_look (Some x) held = inr (held, refl, refl)

-- what the word is, by where the value is
word_told : {T : Type 0} (p : Place T) (word : ℕ) (homes : List (slot.Option T)) → LiesAt p word homes
    → (held : Bool) × (word ≡ (if held then 1 else 0))
word_told (home x) word homes lies = (false, lies.0)
word_told (lent i) word homes lies = (true, lies.0)

-- each seat may look at the lock
pub lock_seen : {T : Type 0} (seats : ℕ) → IsSeen (guard_rows {T = T}) seats 0
lock_seen {T} seats s words homes u st =
    let word = word_told s.at s.word homes st.shows.lies in let has : Bool = is_some u.knows.holds in
    let stands : is_with u.number s.at ≡ has =
    sym (holds_is u.number (home s.first) s.at s.history st.shows.in_turns) ∙ ap (holds_after false) st.knows.own
    ∙ holds_by_turns false u.gone ∙ sym st.knows.holds in
    let call : GuardCall T = looked has word.0 in record {
      now = after u call u.knows.holds;
      went = record {
        stride = call;
        ran = record {
          world = s;
          meets = record { met = tt; stands = stands; later = goes_on_here []; quiet = refl };
          stood = refl;
          seen = refl;
          did = record { read_is = sym word.1; told_is = refl; leads = λ j. record { stands = sym stands j; seen = [] } };
        };
        did = refl;
        read = sym word.1 ∙ sym st.shows.word_is;
        also = turn_look u.knows.holds word.0;
        one = refl;
        same = (refl, refl);
      };
      world_is = refl;
      knows = record {
        own = st.knows.own ∙ sym (append-nil (turns_of u.gone)) ∙ sym (turns_last u.gone call);
        holds = st.knows.holds ∙ sym (holds_last false u.gone call);
      };
    }

-- an exchange of 0 for 1 by a seat that doesn't hold the lock
pub lock_owes : {T : Type 0} (seats slots : ℕ) (m : Me T) → is_some m.0.own.knows.holds ≡ false
    → Owes guard_rows seats m 0 (λ n. either (n == 0) 1 n) (runs_lock guard_rows (λ st. here) (atomic.step slots 0 0 1 slot.none) m)
lock_owes {T} seats slots m free s words homes at =
    let n : ℕ = slice_index words 0 in
    let told : Me T → Type 0 = λ t. (n ≢ 0 → t ≡ m) × (n ≡ 0 → Took guard_rows here m t) in
    exchanged n 0 1 (λ x. Leads guard_rows seats m s words homes 0 x told)
    (λ zero. let o = free_is seats m s words homes at zero in
    tells_more guard_rows seats m 0 s words homes 1 (Took guard_rows here m) told (λ t o. ((λ held. absurd (held zero)), (λ e. o)))
    (takes_it seats m s words homes at free o.0 o.1))
    (λ held. stays_so guard_rows seats m 0 s words homes told at ((λ e. refl), (λ zero. absurd (held zero))))

-- a store of 0 by the seat that holds it
pub unlock_owes : {T : Type 0} (seats slots : ℕ) (m : Me T) → is_some m.0.own.knows.holds ≡ true → (y : T) → m.1 ≡ (0, y) ∷ []
    → Owes guard_rows seats m 0 (λ _. 0) (λ _. runs_unlock guard_rows (atomic.step slots 0 0 0 slot.none) m 0)
unlock_owes seats slots m holds y out s words homes at = gives_it seats m s words homes at holds y out

-- the world knows nothing of the word that says how many sleep
pub sleepers_aside : {T : Type 0} (seats : ℕ) → IsAside (guard_rows {T = T}) seats 1
sleepers_aside seats s words homes x o = record {
  word_is = get_or-set_other words 1 0 x 0 (omega arith) ∙ o.word_is;
  wide = length-set words 1 x ∙ o.wide;
  lies = o.lies;
  in_turns = o.in_turns;
  there = o.there;
}
