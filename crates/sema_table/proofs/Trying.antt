-- A try, and looks.
use Rattle.std.proofs.Common.{◌≡◌, ◌≢◌, ◌⊎◌, ℕ, ◌+◌, ◌-◌, ◌<◌, [], ◌∷◌, ◌++◌, length, sym, refl, ap, ◌∙◌, subst}
use Rattle.std.proofs.Common.{inl, inr, arith, append-nil}
use mathlib.Core.Logic.{dite}
use native.Mathlib.Decide.{ℕ_discrete}
use Rattle.step_table.specs.declared.effect.Effect.TheVariants.{Nothing, Tells}
use Rattle.step_table.specs.declared.entry.Entry.TheVariants.{Take}
use Rattle.step_table.specs.declared.place.AcquireRow.TheVariants.{A1, A2, A3}
use Rattle.step_table.specs.declared.place.Place.{Place}
use Rattle.step_table.specs.declared.place.Place.TheVariants.{Rest}
use Rattle.step_table.specs.declared.word.Word.{Word}
use Rattle.step_table.specs.declared.word.Word.TheVariants.{Counter, Lock, Waiters, Grant}
use Rattle.step_table.specs.World.{SeatState}
use Rattle.step_table.specs.Event.{Next}
use Rattle.step_table.specs.Counting.{total, on}
use Rattle.step_table.specs.Path.{Deed, looks, OnlyLooked, Did}
use Rattle.step_table.proofs.Paths.{stride_told}
use Rattle.step_table.proofs.Sums.{total_same}
use Rattle.step_law_semaphores.specs.SemaPath.{SemaDid, semaphores, placed, word_of_deed}
use Rattle.step_law_semaphores.proofs.Promises.{the_law}
use Rattle.step_law_semaphores.proofs.Accounts.{the_accounts}
use Rattle.step_law_semaphores.proofs.SemaPaths.{the_sema_paths}
use Rattle.running_rows.specs.Strides.{here}
use Rattle.sema_table.specs.declared.seat.Numbers.{Numbers}
use Rattle.sema_table.specs.declared.answers.Tried.TheVariants.{Taken, Zero, Lost}
use Rattle.sema_table.specs.Rows.{SemaSeat}
use Rattle.sema_table.specs.Setting.{root, layout, address, word_at}
use Rattle.sema_table.specs.Places.{is_free}
use Rattle.sema_table.specs.Rule.{stands_by, sight_by}
use Rattle.sema_table.specs.Starts.{begin}
use Rattle.sema_table.proofs.Striding.{Strode, Ran, ran_at, strode_at}
use Rattle.sema_table.specs.Seats.{Token, TableModel, seat_of, table_of, IsToken, IsSeat, IsMidway}
use Rattle.sema_table.specs.Walks.{Went, Walked, SawHeld, moved_to}
use Rattle.sema_table.specs.Calls.{CallsRows, rows_of, plain_seen}
use Rattle.sema_table.specs.Tries.{acquiring, LooksAt, FindsHeld, IsValue, IsWaiters, waits_seen, IsTried}
use Rattle.sema_table.proofs.Words.{root_root, counter_lies, waiters_lie, grant_lies}
use Rattle.sema_table.proofs.Leading.{Goes, next_by, led, load_zero, load_some, won, lost}
use Rattle.sema_table.proofs.Walking.{walked_by, walked_row, walked_on, token_after}
use Rattle.sema_table.proofs.Calling.{calls_rows, row_is}
use Rattle.sema_table.specs.Changes.{HasChanged}
use Rattle.sema_table.proofs.Changing.{has_changed}

-- a look at a counter, and at the waiter word of a counter's root, by where the word lies
pub counter_look : (v w : SemaSeat) (c i n : ℕ) → c < length v.knows.setting.starts → address v.knows.setting (Counter c) ≡ i
    → Strode here (looks (word_at v.knows.setting i)) v n w → Strode here (looks (Counter c)) v n w
counter_look v w c i n inside lies = subst (λ (x : Word). Strode here (looks x) v n w) (counter_lies v.knows.setting c i inside lies)

pub waiters_look : (v w : SemaSeat) (c i n : ℕ) → 0 < v.knows.setting.roots → address v.knows.setting (Waiters c) ≡ i
    → Strode here (looks (word_at v.knows.setting i)) v n w → Strode here (looks (Waiters (root v.knows.setting c))) v n w
waiters_look v w c i n some lies = subst (λ (x : Word). Strode here (looks x) v n w) (waiters_lie v.knows.setting c i some lies)

pub grant_look : (v w : SemaSeat) (k i n : ℕ) → address v.knows.setting (Grant k) ≡ i
    → Strode here (looks (word_at v.knows.setting i)) v n w → Strode here (looks (Grant k)) v n w
grant_look v w k i n lies = subst (λ (x : Word). Strode here (looks x) v n w) (grant_lies v.knows.setting k i lies)

-- a look
module _ (s t : Token) (n : Numbers) (w : Word) (k : ℕ) (token : IsToken s n) (r : Strode here (looks w) s.me.0.own k t.me.0.own)
    (same : t.table_id ≡ s.table_id) (bare : t.me.1 ≡ s.me.1) where
  only : OnlyLooked r.stride (sight_by t.me.0.own.knows)
  only = subst (SemaDid (layout s.me.0.own.knows.setting) s.me.0.own.number r.stride (sight_by t.me.0.own.knows)) r.did
      (the_sema_paths.does (layout s.me.0.own.knows.setting) s.me.0.own.number (sight_by s.me.0.own.knows) (sight_by t.me.0.own.knows) r.stride r.ran)

  stays : stands_by t.me.0.own.knows ≡ stands_by s.me.0.own.knows
  stays = only.leads ∙ r.ran.stood

  seen : t.me.0.own.knows.seen ≡ r.stride.seen
  seen = stride_told (semaphores (layout s.me.0.own.knows.setting)) s.me.0.own.number (sight_by s.me.0.own.knows) (sight_by t.me.0.own.knows) r.stride r.ran
      ∙ ap (λ l. r.stride.seen ++ l) only.told ∙ append-nil r.stride.seen

  abbrev walked : Went (λ p. p.deed ≡ looks w) s s.me.0.own.knows.place t (stands_by s.me.0.own.knows) [] 0
  walked =
      walked_by s t s.me.0.own.knows.place (looks w) k (stands_by s.me.0.own.knows) [] 0
      (strode_at (looks w) s.me.0.own t.me.0.own s.me.0.own.knows.place k refl r) refl same stays only.told

  pub looked_stays : stands_by t.me.0.own.knows ≡ stands_by s.me.0.own.knows
  looked_stays = stays

  pub looked_table : table_of t ≡ table_of s
  looked_table = walked.table_is

  pub looked_token : IsToken t n
  looked_token = token_after s t s.me.0.own.knows.place (stands_by s.me.0.own.knows) [] 0 n n token walked (bare ∙ token.bare)
      token.empty token.turns_are (omega arith) (omega arith) refl (omega arith)

  pub looks_at : LooksAt (seat_of s n) w k (seat_of t n)
  looks_at = subst (λ i. LooksAt (record (seat_of s n) { number = i }) w k (record (seat_of t n) { number = i })) token.number_is (record {
    same =
        λ i. record {
          table = walked.table_is i;
          number = s.me.0.own.number;
          left = n.left;
          taken = n.taken;
          sight = sight_by t.me.0.own.knows;
          strides = t.me.0.own.gone;
        };
    stride = r.stride;
    ran = r.ran;
    did = r.did;
    read = r.read;
    one = walked.all;
    stays = stays;
    later = (the_sema_paths.paths (layout s.me.0.own.knows.setting)).grows s.me.0.own.number (placed s.me.0.own.knows.place (sight_by s.me.0.own.knows))
        (sight_by t.me.0.own.knows) walked.strides walked.path;
  })

pub looked_seat : (s t : Token) (n : Numbers) (w : Word) (k : ℕ) → IsSeat s n → Strode here (looks w) s.me.0.own k t.me.0.own
    → t.table_id ≡ s.table_id → t.me.1 ≡ s.me.1 → IsSeat t n
looked_seat s t n w k seat r same bare = record {
  token_is = looked_token s t n w k seat.token_is r same bare;
  free = ap (λ (q : SeatState). is_free q.place) (looked_stays s t n w k seat.token_is r same bare) ∙ seat.free;
  counted = (walked s t n w k seat.token_is r same bare).counted seat.free;
}

-- a look that found a lock held
module _ (s t : Token) (n : Numbers) (c : ℕ) (saw : SawHeld s c t) where
  pub held_seat : IsSeat s n → IsSeat t n
  held_seat seat = looked_seat s t n (Lock (root s.me.0.own.knows.setting c)) saw.found seat saw.looked saw.table_id saw.slots

  module _ (token : IsToken s n) where
    pub held_midway : (d : ℕ) (place : Place) → IsMidway s n d place → IsMidway t n d place
    held_midway d place at = record {
      token_is = looked_token s t n (Lock (root s.me.0.own.knows.setting c)) saw.found token saw.looked saw.table_id saw.slots;
      inside = subst (λ (y : TableModel). d < length y.setting.starts)
          (sym (looked_table s t n (Lock (root s.me.0.own.knows.setting c)) saw.found token saw.looked saw.table_id saw.slots)) at.inside;
      at = ap (λ (q : SeatState). q.place)
          (looked_stays s t n (Lock (root s.me.0.own.knows.setting c)) saw.found token saw.looked saw.table_id saw.slots) ∙ at.at;
    }

    pub finds_held : FindsHeld (seat_of s n) c (seat_of t n)
    finds_held = (
      saw.found,
      saw.held,
      looks_at s t n (Lock (root s.me.0.own.knows.setting c)) saw.found token saw.looked saw.table_id saw.slots,
    )

pub is_value : (s t : Token) (n : Numbers) (c k : ℕ) → IsSeat s n → Strode here (looks (Counter c)) s.me.0.own k t.me.0.own
    → t.table_id ≡ s.table_id → t.me.1 ≡ s.me.1
    → IsValue (seat_of s n) c k (seat_of t n)
is_value s t n c k seat r same bare =
    let m = layout s.me.0.own.knows.setting in let i : ℕ = s.me.0.own.number in let at = seen s t n (Counter c) k seat.token_is r same bare in
    let x = walked s t n (Counter c) k seat.token_is r same bare in record {
      looked = looks_at s t n (Counter c) k seat.token_is r same bare;
      number = sym r.read ∙ the_sema_paths.reads m i c (sight_by s.me.0.own.knows) (sight_by t.me.0.own.knows) r.stride r.ran
          (ap (λ (d : Deed Word). word_of_deed m i r.stride d) r.did)
          ∙ ap (λ l. (plain_seen (record (seat_of s n) { sight = record { stands = stands_by s.me.0.own.knows; seen = l } })).numbers c) (sym at)
          ∙ (λ j. (plain_seen (record (seat_of t n) { table = sym x.table_is j })).numbers c);
    }

-- the waiter word in the world in which a seat looked at it
near_in : (s t : Token) (n : Numbers) (c k : ℕ) (seat : IsSeat s n) (r : Strode here (looks (Waiters c)) s.me.0.own k t.me.0.own)
    (same : t.table_id ≡ s.table_id) (bare : t.me.1 ≡ s.me.1)
    → (k ≡ waits_seen (seat_of t n) (root s.me.0.own.knows.setting c)) ⊎ (k ≡ waits_seen (seat_of t n) (root s.me.0.own.knows.setting c) + 1)
near_in s t n c k seat r same bare =
    let z = s.me.0.own.knows.setting in let m = layout z in let world = r.ran.world in let reached = r.ran.meets.met in let q : ℕ = root z c in
    let did = subst (λ (d : Deed Word). Did (semaphores m) world s.me.0.own.number d r.stride.read r.stride.told (sight_by t.me.0.own.knows))
    r.did r.ran.did in
    let read : k ≡ world.words.waiters q = sym r.read ∙ did.read_is in
    let near = the_accounts.near m world (the_law.invariant m world reached) q in
    let at = seen s t n (Waiters c) k seat.token_is r same bare in
    let x = walked s t n (Waiters c) k seat.token_is r same bare in
    let lists : (d : ℕ) → (plain_seen (record (seat_of t n) { table = table_of s })).lists d ≡ world.words.lists d
    = λ d. ap (λ l. (plain_seen (record (seat_of s n) { sight = record { stands = stands_by s.me.0.own.knows; seen = l } })).lists d) (at ∙ r.ran.seen)
    ∙ ap (λ y. y.lists d) (sym (the_law.reached m world reached).journal.0) in
    let sum : waits_seen (record (seat_of t n) { table = table_of s }) q ≡ total (length z.starts) (λ d. on (root z d) q (length (world.words.lists d)))
    = total_same (length z.starts) (λ d. on (root z d) q (length ((plain_seen (record (seat_of t n) { table = table_of s })).lists d)))
    (λ d. on (root z d) q (length (world.words.lists d)))
    (λ d h. ap (λ l. on (root z d) q (length l)) (lists d)) in
    subst (λ (y : TableModel). (k ≡ waits_seen (record (seat_of t n) { table = y }) q) ⊎ (k ≡ waits_seen (record (seat_of t n) { table = y }) q + 1))
    (sym x.table_is)
    (dite (ℕ_discrete k (waits_seen (record (seat_of t n) { table = table_of s }) q)) (λ e. inl e) (λ ne. inr (omega arith)))

pub is_waiters : (s t : Token) (n : Numbers) (c k : ℕ) → IsSeat s n → Strode here (looks (Waiters (root s.me.0.own.knows.setting c)))
    s.me.0.own k t.me.0.own → t.table_id ≡ s.table_id → t.me.1 ≡ s.me.1
    → IsWaiters (seat_of s n) c k (seat_of t n)
is_waiters s t n c k seat r same bare = let q : ℕ = root s.me.0.own.knows.setting c in record {
  looked = looks_at s t n (Waiters q) k seat.token_is r same bare;
  near = subst (λ i. (k ≡ waits_seen (seat_of t n) i) ⊎ (k ≡ waits_seen (seat_of t n) i + 1))
      (root_root s.me.0.own.knows.setting c) (near_in s t n q k seat r same bare);
}

-- the first row of a try
module _ (s t : Token) (n : Numbers) (c k : ℕ) (seat : IsSeat s n) (r : Ran (begin (acquiring c A1)) s.me.0.own k t.me.0.own)
    (same : t.table_id ≡ s.table_id) (bare : t.me.1 ≡ s.me.1) where
  pub first : Goes s.me.0.own r.stride (next_by s.me.0.own (acquiring c A1) r.stride k) t.me.0.own
  first = led s.me.0.own t.me.0.own (acquiring c A1) k r

  abbrev walked_zero : k ≡ 0 → Walked s (acquiring c A1) t (moved_to s (acquiring c A3)) [] 0
  walked_zero e = walked_row s t (acquiring c A1) k (acquiring c A3, Nothing) r (load_zero k (acquiring c A3) (λ left. acquiring c (A2 left)) first e) same

  abbrev pub walked_some : 0 < k → Walked s (acquiring c A1) t (moved_to s (acquiring c (A2 (k - 1)))) [] 0
  walked_some h =
      walked_row s t (acquiring c A1) k (acquiring c (A2 (k - 1)), Nothing) r (load_some k (acquiring c A3) (λ left. acquiring c (A2 left)) first h) same

  pub zero_seat : k ≡ 0 → IsSeat t n
  zero_seat e = let x = walked_zero e in record {
    token_is = token_after s t (acquiring c A1) (moved_to s (acquiring c A3)) [] 0 n n seat.token_is x (bare ∙ seat.token_is.bare)
        seat.token_is.empty seat.token_is.turns_are (omega arith) (omega arith) refl (omega arith);
    free = ap (λ (q : SeatState). is_free q.place) x.stands_is;
    counted = x.counted refl;
  }

  -- what A1 read is the number after all that is seen
  number_zero : k ≡ 0 → (plain_seen (seat_of t n)).numbers c ≡ 0
  number_zero e =
      let m = layout s.me.0.own.knows.setting in let i : ℕ = s.me.0.own.number in let x = walked_zero e in
      let word : word_of_deed m i r.stride r.stride.deed ≡ Counter c = λ j. word_of_deed m i (record r.stride { stood = r.ran.stood j }) (r.did j) in
      let read = the_sema_paths.reads m i c (sight_by (begin (acquiring c A1) s.me.0.own.knows)) (sight_by t.me.0.own.knows) r.stride r.ran word in
      let told : r.stride.told ≡ [] = sym (append-nil r.stride.told) ∙ x.told_is in
      let at : t.me.0.own.knows.seen ≡ r.stride.seen = stride_told (semaphores m) i (sight_by (begin (acquiring c A1) s.me.0.own.knows))
      (sight_by t.me.0.own.knows) r.stride r.ran ∙ ap (λ l. r.stride.seen ++ l) told ∙ append-nil r.stride.seen in
      (λ j. (plain_seen (record (seat_of t n) { table = x.table_is j })).numbers c)
      ∙ ap (λ l. (plain_seen (record (seat_of s n) { sight = record { stands = stands_by s.me.0.own.knows; seen = l } })).numbers c) at
      ∙ sym read ∙ r.read ∙ e

  pub tried_zero : k ≡ 0 → IsTried (seat_of s n) c Zero (seat_of t n)
  tried_zero e = let x = walked_zero e in (
    (λ i. record { table = x.table_is i; number = n.seat; left = n.left; taken = n.taken; sight = sight_by t.me.0.own.knows; strides = t.me.0.own.gone }),
    x.stands_is,
    calls_rows s t n n (acquiring c A1) (moved_to s (acquiring c A3)) [] 0 ((acquiring c A1, 0) ∷ []) seat.token_is x
        (subst (λ j. rows_of (r.stride ∷ []) ≡ (acquiring c A1, j) ∷ []) e (ap (λ y. y ∷ []) (row_is s.me.0.own t.me.0.own (acquiring c A1) k r))),
    number_zero e,
  )

-- and the second
module _ (s t u : Token) (n : Numbers) (c k found : ℕ) (seat : IsSeat s n) (r : Ran (begin (acquiring c A1)) s.me.0.own k t.me.0.own)
    (q : Ran here t.me.0.own found u.me.0.own)
    (same : t.table_id ≡ s.table_id) (again : u.table_id ≡ t.table_id) (bare : t.me.1 ≡ s.me.1) (still : u.me.1 ≡ t.me.1) (some : 0 < k) where
  abbrev before : Place
  before = acquiring c (A2 (k - 1))

  abbrev wins : Next
  wins = (Rest, Tells (Take c t.me.0.own.number))

  abbrev loses : Next
  loses = (acquiring c A1, Nothing)

  abbrev one : Walked s (acquiring c A1) t (moved_to s before) [] 0
  one = walked_some s t n c k seat r same bare some

  at : t.me.0.own.knows.place ≡ before
  at = ap (λ (y : SeatState). y.place) one.stands_is

  abbrev row : Ran (begin before) t.me.0.own found u.me.0.own
  row = ran_at t.me.0.own u.me.0.own before found at q

  next : Goes t.me.0.own row.stride (next_by t.me.0.own before row.stride found) u.me.0.own
  next = led t.me.0.own u.me.0.own before found row

  hand_is : t.me.0.own.knows.hand ≡ []
  hand_is = ap (λ (y : SeatState). y.hand) one.stands_is ∙ seat.token_is.empty

  rows : rows_of (r.stride ∷ row.stride ∷ []) ≡ (acquiring c A1, k) ∷ (before, found) ∷ []
  rows = λ i. row_is s.me.0.own t.me.0.own (acquiring c A1) k r i ∷ row_is t.me.0.own u.me.0.own before found row i ∷ []

  bare_after : u.me.1 ≡ []
  bare_after = still ∙ bare ∙ seat.token_is.bare

  abbrev lost_walk : found ≢ k → Walked s (acquiring c A1) u (moved_to t (acquiring c A1)) [] 0
  lost_walk ne = walked_on s t u (acquiring c A1) (moved_to s before) (moved_to t (acquiring c A1)) [] [] 0 0 one
      (walked_row t u before found loses row (lost found (k - 1 + 1) wins loses next (λ e. ne (omega arith))) again)

  abbrev taken_walk : found ≡ k → Walked s (acquiring c A1) u (moved_to t Rest) (Take c t.me.0.own.number ∷ []) 1
  taken_walk e = walked_on s t u (acquiring c A1) (moved_to s before) (moved_to t Rest) [] (Take c t.me.0.own.number ∷ []) 0 1 one
      (walked_row t u before found wins row (won found (k - 1 + 1) wins loses next (omega arith)) again)

  turns_stay : t.me.0.own.knows.turn ≡ n.turns
  turns_stay = ap (λ (y : SeatState). y.turn) one.stands_is ∙ seat.token_is.turns_are

  pub lost_seat : found ≢ k → IsSeat u n
  lost_seat ne = let x = lost_walk ne in record {
    token_is =
        token_after s u (acquiring c A1) (moved_to t (acquiring c A1)) [] 0 n n seat.token_is x bare_after hand_is turns_stay (omega arith) (omega arith) refl (omega arith);
    free = ap (λ (q : SeatState). is_free q.place) x.stands_is;
    counted = x.counted refl;
  }

  pub tried_lost : found ≢ k → IsTried (seat_of s n) c Lost (seat_of u n)
  tried_lost ne = let x = lost_walk ne in let k_is : k ≡ k - 1 + 1 = omega arith in (
    (λ i. record { table = x.table_is i; number = n.seat; left = n.left; taken = n.taken; sight = sight_by u.me.0.own.knows; strides = u.me.0.own.gone }),
    x.stands_is ∙ ap (λ (q : SeatState). record q { place = acquiring c A1 }) one.stands_is,
    (
      k - 1,
      found,
      (λ e. ne (omega arith)),
      calls_rows s u n n (acquiring c A1) (moved_to t (acquiring c A1)) [] 0 ((acquiring c A1, k - 1 + 1) ∷ (before, found) ∷ []) seat.token_is x
          (rows ∙ ap (λ j. (acquiring c A1, j) ∷ (before, found) ∷ []) k_is),
    ),
  )

  pub lost_changed : found ≢ k → HasChanged c s.me.0.own.knows.seen u.me.0.own.knows.seen
  lost_changed = has_changed s.me.0.own t.me.0.own u.me.0.own (acquiring c A1) before c k found r row (λ i x j. refl) (λ i x j. refl)

  abbrev counted : Numbers
  counted = record n { taken = n.taken + 1 }

  pub taken_seat : found ≡ k → IsSeat u counted
  taken_seat e = let x = taken_walk e in record {
    token_is = token_after s u (acquiring c A1) (moved_to t Rest) (Take c t.me.0.own.number ∷ []) 1 n counted seat.token_is x bare_after
        hand_is turns_stay (omega arith) (omega arith) refl refl;
    free = ap (λ (q : SeatState). is_free q.place) x.stands_is;
    counted = x.counted refl;
  }

  pub tried_taken : found ≡ k → IsTried (seat_of s n) c Taken (seat_of u counted)
  tried_taken e = let x = taken_walk e in let k_is : k ≡ k - 1 + 1 = omega arith in (
    (λ i. record { table = x.table_is i; number = n.seat; left = n.left; taken = n.taken + 1; sight = sight_by u.me.0.own.knows; strides = u.me.0.own.gone }),
    x.stands_is ∙ ap (λ (q : SeatState). record q { place = Rest }) one.stands_is,
    (
      k - 1,
      subst (λ i. CallsRows (seat_of s n) (acquiring c A1) (seat_of u counted) (Take c i ∷ []) ((acquiring c A1, k - 1 + 1) ∷ (before, k - 1 + 1) ∷ []))
          (one.number_is ∙ seat.token_is.number_is)
          (calls_rows s u n counted (acquiring c A1) (moved_to t Rest) (Take c t.me.0.own.number ∷ []) 1
          ((acquiring c A1, k - 1 + 1) ∷ (before, k - 1 + 1) ∷ []) seat.token_is x
          (row_eq e k_is)),
    ),
  )
    where
      row_eq : found ≡ k → k ≡ k - 1 + 1 → rows_of (r.stride ∷ row.stride ∷ []) ≡ (acquiring c A1, k - 1 + 1) ∷ (before, k - 1 + 1) ∷ []
      row_eq e k_is = rows ∙ (λ i. (acquiring c A1, k_is i) ∷ (before, (e ∙ k_is) i) ∷ [])
