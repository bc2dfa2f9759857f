-- A row on the state word goes to the end of the history.
use Rattle.std.proofs.Common.{◌≡◌, ◌≢◌, ℕ, ◌<◌, List, [], ◌∷◌, ◌++◌, slice_index, sym, refl, ap, ◌∙◌, subst, ⊎_elim, inr}
use Rattle.std.proofs.Common.{arith, length-set, get_or-set_same}
use Rattle.std.proofs.Common.{IsTrue}
use mathlib.Core.Option.{Option}
use Rattle.running_rows.specs.Table.{keeps}
use Rattle.step_table.specs.declared.group_word.GroupWord.{GroupWord}
use Rattle.step_table.specs.declared.standing.GroupRow.{GroupRow}
use Rattle.step_table.specs.declared.standing.GroupRow.TheVariants.{G1, G2, G3, V1, V2, V3, V4, V5}
use Rattle.step_table.specs.declared.standing.GroupNext.{GroupNext}
use Rattle.step_table.specs.declared.standing.GroupNext.TheVariants.{Goes}
use Rattle.step_table.specs.Path.{runs, Ran}
use Rattle.step_table.specs.Group.{empty_word, group_event, group_row}
use Rattle.step_table.specs.GroupBits.{word_in, IsGroupWord}
use Rattle.step_table.specs.GroupPath.{going}
use Rattle.step_table.proofs.GroupBits.{the_group_words}
use Rattle.step_table.proofs.Paths.{goes_on_here}
use Rattle.step_table.proofs.Sums.{put_here}
use Rattle.running_rows.specs.declared.view.Seated.{Seated}
use Rattle.running_rows.specs.Strides.{Went, RanRow}
use Rattle.running_rows.specs.History.{SeatStride}
use Rattle.running_rows.proofs.History.{in_more, strides_here, strides_else}
use Rattle.running_rows.specs.Owing.{Stands, Leads as LeadsOn, Owes}
use Rattle.sync_parts.specs.declared.group_view.GroupKnown.{GroupKnown}
use Rattle.sync_parts.specs.declared.group_view.GroupStep.{GroupStep}
use Rattle.sync_parts.specs.GroupRule.{Follows, AreCalls, Leads, GroupLife, ShowsLife, HasRun, living_group, stride_of, group_rows}
use Rattle.sync_parts.specs.GroupPlays.{Me, step, at_row}

leads_more : (word left : GroupWord) (history : List (SeatStride GroupStep)) (m : SeatStride GroupStep) → Leads word history left → m.stride.found ≡ left
    → Leads word (history ++ m ∷ []) (group_row m.stride.row m.stride.found).0
leads_more word left [] m l e = (e ∙ l, refl)
leads_more word left (n ∷ history) m l e = (l.0, leads_more (group_row n.stride.row n.stride.found).0 left history m l.1 e)

calls_more : (from to : GroupNext) (steps : List GroupStep) (p : GroupStep) → AreCalls from steps to → Follows to p.row
    → AreCalls from (steps ++ p ∷ []) (group_row p.row p.found).1
calls_more from to [] p c f = (subst (λ (k : GroupNext). Follows k p.row) c f, refl)
calls_more from to (q ∷ steps) p c f = (c.0, calls_more (group_row q.row q.found).1 to steps p c.1 f)

row_can : (row : GroupRow) (w : GroupWord) → IsTrue ((group_event (tt {0}) row).can w)
row_can (G1 d) w = search
row_can (G2 seen) w = search
row_can (G3 seen) w = search
row_can (V1 ending) w = search
row_can (V2 ending seen) w = search
row_can (V3 ending) w = search
row_can (V4 how) w = search
row_can (V5 how seen) w = search

-- the row ran, and found this word
module _ (u : Seated GroupKnown GroupStep) (row : GroupRow) (found : GroupWord) (is : IsGroupWord found) where
  abbrev pub after : Seated GroupKnown GroupStep
  after = record { number = u.number; knows = record u.knows { next = (group_row row found).1 }; gone = u.gone ++ step row found ∷ [] }

  ran : Ran living_group u.number (going (Goes row)) (stride_of (step row found)) (going (group_row row found).1)
  ran = record {
    world = record { word = found; nexts = λ k. Goes row; history = [] };
    meets = record { met = is; stands = refl; later = goes_on_here []; quiet = refl };
    stood = refl;
    seen = refl;
    did = record {
      can = row_can row found;
      read_is = refl;
      told_is = refl;
      leads = λ j. record { stands = sym (put_here (λ k. Goes row) u.number (group_row row found).1) j; seen = [] };
    };
  }

  -- from wherever it began
  pub went : (at : GroupKnown → GroupKnown) (n : ℕ) → at u.knows ≡ at_row row u.knows → found ≡ word_in n → Went group_rows at runs u n after
  went at n begins read = record {
    stride = step row found;
    ran = subst (λ (v : GroupKnown). Ran living_group u.number (going v.next) (stride_of (step row found)) (going (group_row row found).1)) (sym begins) ran;
    did = refl;
    read = read;
    also = record { word = is; row = ap (λ (v : GroupKnown). v.next) begins; next = refl };
    one = refl;
    same = (refl, refl);
  }

-- a row of calls leads on
module _ (seats : ℕ) (m : Me) (row : GroupRow) (follows : Follows m.0.own.knows.next row) (f : ℕ → ℕ)
    (becomes : (n : ℕ) → n < 18446744073709551616 → word_in (f n) ≡ (group_row row (word_in n)).0) where
  module _ (s : GroupLife) (words : List ℕ) (homes : List (Option (Unit {0}))) (at : Stands group_rows seats m.0.own s words homes 0) where
    abbrev n : ℕ
    n = slice_index words 0

    abbrev moment : SeatStride GroupStep
    moment = record { seat = m.0.own.number; stride = step row (word_in n) }

    abbrev next : GroupLife
    next = record { word = (group_row row (word_in n)).0; nexts = s.nexts; history = s.history ++ moment ∷ [] }

    is_word : IsGroupWord (word_in n)
    is_word = the_group_words.words n at.below

    abbrev own : Seated GroupKnown GroupStep
    own = after m.0.own row (word_in n) is_word

    shows : ShowsLife seats next (Rattle.std.specs.Prelude.slice_set words 0 (f n))
    shows = record {
      word_is = ap word_in (get_or-set_same words 0 (f n) 0 at.shows.wide) ∙ becomes n at.below;
      leads = leads_more empty_word s.word s.history moment at.shows.leads at.shows.word_is;
      there =
          λ a h. ⊎_elim (λ q. at.shows.there a q) (λ q. subst (λ (b : SeatStride GroupStep). b.seat < seats) q at.there) (in_more a moment s.history h);
      wide = let l = length-set words 0 (f n) in let w = at.shows.wide in omega arith;
    }

    others : (u : Seated GroupKnown GroupStep) → u.number ≢ m.0.own.number → HasRun u s → HasRun u next
    others u ne o = record { own = strides_else u.number s.history moment (λ q. ne (sym q)) ∙ o.own; calls = o.calls }

    pub led : (begin : GroupKnown → GroupKnown) → begin m.0.own.knows ≡ at_row row m.0.own.knows
        → LeadsOn group_rows seats m s words homes 0 (f n) (λ t. RanRow group_rows begin m n t)
    led begin begins = record {
      next = next;
      own = own;
      act = keeps;
      valid = tt;
      shows = shows;
      same = refl;
      of_is = at.of_is;
      knows = record {
        own = strides_here m.0.own.number s.history moment refl ∙ ap (λ l. l ++ step row (word_in n) ∷ []) at.knows.own;
        calls = calls_more _ m.0.own.knows.next m.0.own.gone (step row (word_in n)) at.knows.calls follows;
      };
      on = inr (step row (word_in n), refl, refl, refl);
      others = λ u ne low. others u ne;
      tells = (went m.0.own row (word_in n) is_word begin n begins refl, refl);
    }

  pub owes : (begin : GroupKnown → GroupKnown) → begin m.0.own.knows ≡ at_row row m.0.own.knows
      → Owes group_rows seats m 0 f (RanRow group_rows begin m)
  owes begin begins s words homes at = led s words homes at begin begins
