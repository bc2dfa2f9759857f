-- The calls of a seat's line, and the first of them that is spelled as none.
use Rattle.std.proofs.Common.{◌≡◌, ℕ, ◌<◌, ◌≤◌, List, [], ◌∷◌, ◌++◌, length, take, drop, sym, ap, ◌∙◌, inl, inr, refl, subst}
use Rattle.std.proofs.Common.{arith, length-append}
use Rattle.std.specs.Prelude.{codes}
use Rattle.std.specs.List.{AllByRecursion}
use Rattle.std.specs.Str.Pattern.{FindsText, LacksTextAt, SplitsAroundMatch}
use Rattle.std.proofs.lemmas.List.{append-nil, append_assoc, take-append-drop, drop_at}
use Rattle.scenario_text.specs.Phrases.{IsSomeCall}
use Rattle.explorer_answers.specs.Explained.{Lacks, parted, HasCalls, IsUnspelledIn}

-- what comes before the first such text has none
module _ (this text front back : List ℕ) (some : 0 < length this) (h : SplitsAroundMatch (FindsText this) text front back) where
  pub first : Lacks front this
  first before behind e =
      let whole : text ≡ before ++ (this ++ (behind ++ drop h.0 text))
      = sym (take-append-drop h.0 text) ∙ (λ k. (sym h.3 ∙ e) k ++ drop h.0 text)
      ∙ append_assoc before (this ++ behind) (drop h.0 text) ∙ ap (λ l. before ++ l) (append_assoc this behind (drop h.0 text)) in
      h.2.0 (length before) (omega (arith, ap length e, length-append before (this ++ behind), length-append this behind, h.6))
      (behind ++ drop h.0 text) (ap (drop (length before)) whole ∙ drop_at before (this ++ (behind ++ drop h.0 text)) (length before) refl)

  pub split : text ≡ front ++ (this ++ back)
  split = sym (take-append-drop h.0 text) ∙ ap (λ l. take h.0 text ++ l) h.2.1.split ∙ (λ k. sym h.3 k ++ (this ++ sym h.4 k))

-- a text that is found nowhere
pub lacks : (this text : List ℕ) → ((i : ℕ) → i ≤ length text → LacksTextAt this text i) → Lacks text this
lacks this text none before behind e = none (length before) (omega (arith, ap length e, length-append before (this ++ behind))) behind
    (ap (drop (length before)) e ∙ drop_at before (this ++ behind) (length before) refl)

parted_more : (before : List (List ℕ)) (call others : List ℕ) → parted (before ++ call ∷ []) ++ others
    ≡ parted before ++ (call ++ (codes "; " ++ others))
parted_more [] call others = append_assoc call (codes "; ") others
parted_more (c ∷ before) call others =
    append_assoc c (codes "; " ++ parted (before ++ call ∷ [])) others
    ∙ ap (λ l. c ++ (codes "; " ++ l)) (parted_more before call others)
    ∙ sym (append_assoc c (codes "; " ++ parted before) (call ++ (codes "; " ++ others)))

all_more : (before : List (List ℕ)) (call : List ℕ) → AllByRecursion IsSomeCall before → IsSomeCall call
    → AllByRecursion IsSomeCall (before ++ call ∷ [])
all_more [] call all is = (is, tt)
all_more (c ∷ before) call all is = (all.0, all_more before call all.1 is)

-- the line is a seat's
pub calls_begin : (line seat calls : List ℕ) → line ≡ codes "seat " ++ (seat ++ (codes ": " ++ calls)) → Lacks seat (codes ": ") → HasCalls line calls
calls_begin line seat calls stands named = record { seat = seat; before = []; stands = stands; named = named; spelled = tt }

-- one call more is spelled as one
pub calls_go_on : (line rest call others : List ℕ) → HasCalls line rest → rest ≡ call ++ (codes "; " ++ others)
    → IsSomeCall call → HasCalls line others
calls_go_on line rest call others has e is = record {
  seat = has.seat;
  before = has.before ++ call ∷ [];
  stands = has.stands ∙ ap (λ l. codes "seat " ++ (has.seat ++ (codes ": " ++ l)))
      (ap (λ l. parted has.before ++ l) e ∙ sym (parted_more has.before call others));
  named = has.named;
  spelled = all_more has.before call has.spelled is;
}

-- this call is spelled as none, and another comes behind it
pub unspelled_here : (line rest call others : List ℕ) → HasCalls line rest → rest ≡ call ++ (codes "; " ++ others) → Lacks call (codes "; ")
    → (IsSomeCall call → ⊥) → IsUnspelledIn line call
unspelled_here line rest call others has e one none = record {
  behind = codes "; " ++ others;
  stands = subst (HasCalls line) e has;
  whole = inr (others, refl);
  one = one;
  no_call = none;
}

-- the last one is
pub unspelled_last : (line rest : List ℕ) → HasCalls line rest → Lacks rest (codes "; ") → (IsSomeCall rest → ⊥) → IsUnspelledIn line rest
unspelled_last line rest has one none = record {
  behind = [];
  stands = subst (HasCalls line) (sym (append-nil rest)) has;
  whole = inl refl;
  one = one;
  no_call = none;
}
