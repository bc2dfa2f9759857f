-- What is known of a seat by the world in which it has seen all.
use Rattle.std.proofs.Common.{◌≡◌, ℕ, ◌<◌, ◌≤◌, true, List, [], ◌∷◌, length, sym, refl, ap, ◌∙◌, subst, arith}
use Rattle.step_table.specs.declared.list_place.AllRow.TheVariants.{L3}
use Rattle.step_table.specs.declared.list_place.ListPlace.{ListPlace}
use Rattle.step_table.specs.declared.list_place.ListPlace.TheVariants.{Rest, NotifyingOne, NotifyingAll}
use Rattle.step_table.specs.declared.list_place.OneRow.TheVariants.{O3}
use Rattle.step_table.specs.declared.list_place.ListWord.TheVariants.{Grant}
use Rattle.step_table.specs.EventOf.{store}
use Rattle.step_table.specs.ListEvent.{ListNext}
use Rattle.step_table.specs.ListTable.{list_table}
use Rattle.step_table.specs.ListWorld.{ListWords, ListSeat, ListWorld}
use Rattle.step_law_lists.specs.ListInvariant.{HandFits}
use Rattle.step_law_lists.specs.ListPath.{ListSight}
use Rattle.step_law_lists.specs.ListWellFormed.{asleep_on_list}
use Rattle.step_law_lists.specs.ListPlaces.{ReachedList, GrantsParked}
use Rattle.step_law_lists.proofs.ListAccounts.{the_list_accounts}
use Rattle.notify_list.specs.Places.{is_free}
use Rattle.notify_list.specs.declared.view.Setting.{Setting}
use Rattle.notify_list.specs.Rule.{Guarded, IsMet, Lands}
use Rattle.notify_list.specs.Plays.{OneSeat}
use Rattle.notify_list.specs.Seats.{Token, IsToken, setting_of}
use Rattle.notify_list.proofs.Keeping.{laws_of}

module _ (u : OneSeat) (L : Lands u.number u.knows) (there : u.number < u.knows.setting.seats) (few : u.knows.setting.seats ≤ 65536) where
  pub laws_there : ReachedList u.knows.setting.first u.knows.setting.seats L.world
  laws_there = laws_of u.knows.setting L.world L.met

  pub stands_there : L.world.seats u.number ≡ u.knows.sight.stands
  stands_there = ap (λ (y : ListSight). y.stands) (sym L.sees)

  -- a seat that isn't parked has room for its wait
  pub room_there : ((n : ℕ) → asleep_on_list u.knows.sight.stands.place n ≡ 0) → length u.knows.queue < u.knows.setting.seats
  room_there awake =
      let r = the_list_accounts.room u.knows.setting.first u.knows.setting.seats L.world laws_there.invariant u.number there
      (ap (λ (y : ListSeat). asleep_on_list y.place (L.world.words.grants u.number)) stands_there ∙ awake (L.world.words.grants u.number)) in
      let q = ap (λ (g : Guarded). length g.queue) L.guarded in omega arith

  fits_there : HandFits u.knows.sight.stands.place (length u.knows.sight.stands.hand)
  fits_there = subst (λ (y : ListSeat). HandFits y.place (length y.hand)) stands_there (laws_there.invariant.seats_known u.number there).fits

  none : {A : Type 0} (l : List A) → length l ≡ 0 → l ≡ []
  none [] e = refl
  none (x ∷ l) e = absurd (omega arith)

  -- a seat that goes to the lock for a notification of all has nothing in hand
  pub empty_notifying : (h : ℕ) → u.knows.sight.stands.place ≡ NotifyingAll h L3 → u.knows.sight.stands.hand ≡ []
  empty_notifying h at = none u.knows.sight.stands.hand
      (subst (λ (p : ListPlace). HandFits p (length u.knows.sight.stands.hand)) at fits_there)

  -- nor has one that may begin a call
  pub empty_there : is_free u.knows.sight.stands.place ≡ true → u.knows.sight.stands.hand ≡ []
  empty_there free = none u.knows.sight.stands.hand (by u.knows.sight.stands.place free fits_there)
    where
      by : (p : ListPlace) → is_free p ≡ true → HandFits p (length u.knows.sight.stands.hand) → length u.knows.sight.stands.hand ≡ 0
      by Rest e f = f
      by (NotifyingOne h O3) e f = f
      by _ e f = absurd (cc)

pub there_of : (t : Token) (n : ℕ) → IsToken t n → t.me.0.own.number < (setting_of t).seats
there_of t n is = let a = is.number_is in let b = is.there in omega arith

-- a seat that is about to grant grants another, which is there and wasn't granted
pub grants_in : (z : Setting) (s : ListWorld) (i : ℕ) (a : ListSeat) (k : ℕ) (next : ListNext) → z.seats ≤ 65536
    → IsMet z s → i < z.seats → s.seats i ≡ a
    → ((g : ListWords) → list_table i a g ≡ store (Grant k) 1 next) → GrantsParked z.seats i k s
grants_in z s i a k next few met there is e =
    (the_list_accounts.granted z.first z.seats i k 1 s there (laws_of z s met).invariant
    (next, ap (λ (y : ListSeat). list_table i y s.words) is ∙ e s.words)).1
