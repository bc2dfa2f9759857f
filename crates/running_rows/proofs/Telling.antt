-- A step may be told otherwise.
use Rattle.std.proofs.Common.{◌≡◌, ℕ, List, slice_index, sym, refl, subst, inl}
use Rattle.std.proofs.lemmas.List.{set-get_or}
use mathlib.Core.Option.{Option}
use Rattle.atomic_table.specs.Table.{Me, keeps}
use Rattle.step_table.specs.Path.{Deed, Ran}
use Rattle.running_rows.specs.declared.view.View.{View}
use Rattle.running_rows.specs.declared.view.Seated.{Seated}
use Rattle.running_rows.specs.Family.{Family}
use Rattle.running_rows.specs.Strides.{Went}
use Rattle.running_rows.specs.Owing.{Stands, Leads, Owes}

module _ {S V T K : Type 0} (f : Family S V T K) where
  -- a stride hangs alone on what the seat knew as it began
  abbrev pub went_from : (from to : V → V) {deed : Deed f.Word} (u w : Seated V T) (n : ℕ) → from u.knows ≡ to u.knows
      → Went f from deed u n w → Went f to deed u n w
  went_from from to u w n e r =
      let o : (x : Ran (f.watched (f.of u.knows)) u.number (f.sight (to u.knows)) (f.stride r.stride) (f.sight w.knows))
      × f.Also x.world u.number (to u.knows) r.stride w.knows
      = subst (λ (v : V). (x : Ran (f.watched (f.of u.knows)) u.number (f.sight v) (f.stride r.stride) (f.sight w.knows))
      × f.Also x.world u.number v r.stride w.knows) e (r.ran, r.also) in
      record { stride = r.stride; ran = o.0; did = r.did; read = r.read; also = o.1; one = r.one; same = r.same }

  module _ (k : f.Key) (m : Me S (View V T)) (i : ℕ) where
    -- what is owed by what the seat knows itself
    pub owes_own : (g : ℕ → ℕ) (then : ℕ → Me S (View V T) → Type 0) → Owes f (f.of m.0.own.knows) m i g then → Owes f k m i g then
    owes_own g then owes world words homes at =
        subst (λ (q : f.Key). Leads f q m world words homes i (g (slice_index words i)) (then (slice_index words i))) at.of_is
        (owes world words homes (subst (λ (q : f.Key). Stands f q m.0.own world words homes i) (sym at.of_is) at))

    module _ (world : f.World) (words : List ℕ) (homes : List (Option S)) where
      -- a step that changes nothing leads on
      pub stays_so : (then : Me S (View V T) → Type 0) → Stands f k m.0.own world words homes i → then m
          → Leads f k m world words homes i (slice_index words i) then
      stays_so then at tells = record {
        next = world;
        own = m.0.own;
        act = keeps;
        valid = tt;
        shows = subst (λ (ws : List ℕ). f.Shows k world ws homes) (sym (set-get_or words i 0)) at.shows;
        same = refl;
        of_is = at.of_is;
        knows = at.knows;
        on = inl (refl, refl);
        others = λ u ne low known. known;
        tells = tells;
      }

      pub tells_more : (x : ℕ) (one other : Me S (View V T) → Type 0) → ((t : Me S (View V T)) → one t → other t)
          → Leads f k m world words homes i x one → Leads f k m world words homes i x other
      tells_more x one other more l = record {
        next = l.next;
        own = l.own;
        act = l.act;
        valid = l.valid;
        shows = l.shows;
        same = l.same;
        of_is = l.of_is;
        knows = l.knows;
        on = l.on;
        others = l.others;
        tells = more _ l.tells;
      }
