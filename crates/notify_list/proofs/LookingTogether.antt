-- Looks at a word, and what two seats have that looked together.
use Rattle.std.proofs.Common.{◌≡◌, ℕ, zero, suc, ◌≤◌, Bool, List, [], ◌∷◌, ◌++◌, slice_index, sym, refl, ap, ◌∙◌, subst, arith}
use Rattle.step_table.specs.declared.list_place.ListWord.{ListWord}
use Rattle.step_table.specs.declared.list_place.ListWord.TheVariants.{Wait, Lock}
use Rattle.step_table.specs.ListWorld.{ListSeat, ListEntry, ListWorld}
use Rattle.step_table.specs.Path.{GoesOn, looks, Looked, Did, look_in, sight}
use Rattle.step_table.proofs.Paths.{meets_sight, stride_grows}
use Rattle.step_law_lists.specs.ListLawful.{told, IsInReach}
use Rattle.step_law_lists.specs.ListPath.{ListSight}
use Rattle.running_rows.specs.Strides.{Went, here}
use Rattle.running_rows.specs.Owing.{Stands, Sees, IsSeen}
use Rattle.running_rows.specs.Sitting.{Met}
use Rattle.notify_list.specs.declared.view.Setting.{Setting}
use Rattle.notify_list.specs.Setting.{address, IsThere}
use Rattle.notify_list.specs.Places.{is_free}
use Rattle.notify_list.specs.Rule.{watched, Lands, Homes}
use Rattle.notify_list.specs.Rows.{list_rows, word_at}
use Rattle.notify_list.specs.Plays.{OneSeat}
use Rattle.notify_list.specs.Seats.{Token, seat_of, IsToken, IsSeat, IsHolding, IsParked, IsNotifying, seen_of, setting_of, stands_of}
use Rattle.notify_list.specs.Meeting.{LooksAt, FindsHeld, HasMet}
use Rattle.notify_list.specs.Walks.{SawHeld}
use Rattle.notify_list.proofs.Keeping.{laws_of}
use Rattle.notify_list.proofs.Looking.{handed_since}

lies_at : (i : ℕ) → address (word_at i) ≡ i
lies_at zero = refl
lies_at (suc zero) = refl
lies_at (suc (suc zero)) = refl
lies_at (suc (suc (suc s))) = omega arith

pub sees_word : (i : ℕ) (u : OneSeat) (world : ListWorld) (words : List ℕ) (homes : Homes) → IsThere u.knows.setting (word_at i)
    → Stands list_rows u.knows.setting u world words homes i → Sees list_rows u.knows.setting u world i (slice_index words i)
sees_word i u world words homes there at = record {
  now = record {
    number = u.number;
    knows = record u.knows { sight = sight (watched u.knows.setting) world u.number; queue = world.words.queue; passed = world.words.numbers.passed; gone = world.words.numbers.gone };
    gone = u.gone ++ look_in (watched u.knows.setting) world u.number (word_at i) ∷ [];
  };
  went = record {
    stride = look_in (watched u.knows.setting) world u.number (word_at i);
    ran = record {
      world = world;
      meets = at.knows.meets;
      stood = at.knows.meets.stands;
      seen = refl;
      did = record { read_is = refl; told_is = refl; leads = refl };
    };
    did = refl;
    read = sym (at.shows.words (word_at i) there) ∙ ap (slice_index words) (lies_at i);
    also = record {
      held = at.knows.held;
      left = refl;
      met = at.shows.met;
      lands = record { world = world; met = at.shows.met; sees = refl; guarded = refl };
      there = at.there;
    };
    one = refl;
    same = (refl, refl);
  };
  world_is = refl;
  knows = record {
    meets = meets_sight (watched u.knows.setting) world u.number at.shows.met.reached;
    held = λ h. refl;
  };
}

-- each seat may look at a word that is there
pub word_seen : (k : Setting) (i : ℕ) → IsThere k (word_at i) → IsSeen list_rows k i
word_seen k i there world words homes u at = subst (λ (q : Setting). Sees list_rows q u world i (slice_index words i)) at.of_is
    (sees_word i u world words homes (subst (λ (q : Setting). IsThere q (word_at i)) (sym at.of_is) there)
    (subst (λ (q : Setting). Stands list_rows q u world words homes i) (sym at.of_is) at))

-- a look of a token
module _ (s t : Token) (n q : ℕ) (word : ListWord) (is : IsToken s n) (r : Went list_rows here (looks word) s.me.0.own q t.me.0.own)
    (same : t.table_id ≡ s.table_id) where
  only : Looked (watched (setting_of s)) r.ran.world s.me.0.own.number word r.stride.read r.stride.told t.me.0.own.knows.sight
  only = subst (λ d. Did (watched (setting_of s)) r.ran.world s.me.0.own.number d r.stride.read r.stride.told t.me.0.own.knows.sight) r.did r.ran.did

  pub look_stays : stands_of t ≡ stands_of s
  look_stays = ap (λ (y : ListSight). y.stands) only.leads ∙ r.ran.meets.stands

  pub journal_seen : seen_of t ≡ r.ran.world.journal
  journal_seen = ap (λ (y : ListSight). y.seen) only.leads

  pub looks_at : LooksAt (seat_of s n) word q (seat_of t n)
  looks_at = subst (λ i. LooksAt (record (seat_of s n) { number = i }) word q (record (seat_of t n) { number = i })) is.number_is (record {
    same = λ i. record {
      list = record { id = same i; setting = r.same.1 i };
      number = s.me.0.own.number;
      sight = t.me.0.own.knows.sight;
      strides = t.me.0.own.gone;
    };
    stride = r.stride;
    ran = r.ran;
    did = r.did;
    read = r.read;
    one = r.one;
    stays = look_stays;
    later = stride_grows (watched (setting_of s)) s.me.0.own.number s.me.0.own.knows.sight t.me.0.own.knows.sight r.stride r.ran;
    reach = subst IsInReach (sym journal_seen) r.also.met.reach;
  })

  pub looked_token : t.me.1 ≡ [] → IsToken t n
  looked_token bare = record {
    bare = bare;
    number_is = r.same.0 ∙ is.number_is;
    there = let e = ap (λ (z : Setting). z.seats) r.same.1 in let h = is.there in omega arith;
    few = let e = ap (λ (z : Setting). z.seats) r.same.1 in let h = is.few in omega arith;
    lands = subst (λ i. Lands i t.me.0.own.knows) (sym r.same.0) r.also.lands;
  }

pub looked_seat : (s t : Token) (n q : ℕ) → IsSeat s n → Went list_rows here (looks Wait) s.me.0.own q t.me.0.own → t.table_id ≡ s.table_id
    → t.me.1 ≡ [] → IsSeat t n
looked_seat s t n q seat r same bare = let stays = look_stays s t n q Wait seat.token_is r same in record {
  token_is = looked_token s t n q Wait seat.token_is r same bare;
  free = ap (λ (y : ListSeat). is_free y.place) stays ∙ seat.free;
  holds_none = ap (λ (y : ListSeat). y.ticket) stays ∙ seat.holds_none;
}

-- no ticket was taken back since
pub handed_later : (t : Token) (n : ℕ) (before : List ListEntry) → IsToken t n → GoesOn (seen_of t) before
    → (told before).handed ≤ (told (seen_of t)).handed
handed_later t n before is later =
    let L = is.lands in
    let since = handed_since (setting_of t).first (setting_of t).seats L.world before (laws_of (setting_of t) L.world L.met)
    (subst (λ (v : ListSight). GoesOn v.seen before) L.sees later) in
    let same = ap (λ (v : ListSight). (told v.seen).handed) L.sees in omega arith

-- a parked seat stays one that may leave, or that may not
pub parked_later : (s t : Token) (n : ℕ) (may_leave : Bool) → IsParked s n may_leave → IsToken t n → stands_of t ≡ stands_of s
    → GoesOn (seen_of t) (seen_of s) → IsParked t n may_leave
parked_later s t n may_leave parked is stays later = record {
  token_is = is;
  ticket = parked.ticket;
  at = ap (λ (y : ListSeat). y.place) stays ∙ parked.at;
  holds_none = ap (λ (y : ListSeat). y.ticket) stays ∙ parked.holds_none;
  early = λ e. ((parked.early e).0, ap (λ (y : ListSeat). y.late) stays ∙ (parked.early e).1);
  late = λ e. (let many = parked.late e in let since = handed_later t n (seen_of s) is later in omega arith);
}

-- a look that found the lock held
module _ (s t : Token) (n : ℕ) (saw : SawHeld s t) where
  held_stays : IsToken s n → stands_of t ≡ stands_of s
  held_stays is = look_stays s t n saw.found Lock is saw.looked saw.table_id

  held_token : IsToken s n → IsToken t n
  held_token is = looked_token s t n saw.found Lock is saw.looked saw.table_id (saw.slots ∙ is.bare)

  pub held_seat : IsSeat s n → IsSeat t n
  held_seat seat = record {
    token_is = held_token seat.token_is;
    free = ap (λ (y : ListSeat). is_free y.place) (held_stays seat.token_is) ∙ seat.free;
    holds_none = ap (λ (y : ListSeat). y.ticket) (held_stays seat.token_is) ∙ seat.holds_none;
  }

  pub held_holding : (word : ℕ) → IsHolding s n word → IsHolding t n word
  held_holding word holding = record {
    token_is = held_token holding.token_is;
    rests = ap (λ (y : ListSeat). y.place) (held_stays holding.token_is) ∙ holding.rests;
    ticket = holding.ticket;
    held = ap (λ (y : ListSeat). y.ticket) (held_stays holding.token_is) ∙ holding.held;
    word_is = holding.word_is;
  }

  pub held_notifying : IsNotifying s n → IsNotifying t n
  held_notifying owing = record {
    token_is = held_token owing.token_is;
    h = owing.h;
    at = ap (λ (y : ListSeat). y.place) (held_stays owing.token_is) ∙ owing.at;
    holds_none = ap (λ (y : ListSeat). y.ticket) (held_stays owing.token_is) ∙ owing.holds_none;
  }

  pub held_parked : (may_leave : Bool) → IsParked s n may_leave → IsParked t n may_leave
  held_parked may_leave parked = parked_later s t n may_leave parked (held_token parked.token_is) (held_stays parked.token_is)
      (looks_at s t n saw.found Lock parked.token_is saw.looked saw.table_id).later

  pub finds_held : IsToken s n → FindsHeld (seat_of s n) (seat_of t n)
  finds_held is = (saw.found, saw.held, looks_at s t n saw.found Lock is saw.looked saw.table_id)

pub have_met : (s o a b : Token) (n k q : ℕ) (seat_s : IsSeat s n) (seat_o : IsSeat o k)
    (m : Met list_rows Wait s.me.0.own o.me.0.own q a.me.0.own b.me.0.own)
    → a.table_id ≡ s.table_id → b.table_id ≡ o.table_id
    → HasMet (seat_of s n) (seat_of o k) (seat_of a n) (seat_of b k)
have_met s o a b n k q seat_s seat_o m same_a same_b = record {
  number = q;
  one_looked = looks_at s a n q Wait seat_s.token_is m.one same_a;
  other_looked = looks_at o b k q Wait seat_o.token_is m.other same_b;
  same = journal_seen s a n q Wait seat_s.token_is m.one same_a ∙ ap (λ (w : ListWorld). w.journal) m.together
      ∙ sym (journal_seen o b k q Wait seat_o.token_is m.other same_b);
  two = λ e. m.two (seat_s.token_is.number_is ∙ e ∙ sym seat_o.token_is.number_is);
}
