-- In a lawful journal in which only locks used a counter, one seat at most holds its unit.
use Rattle.std.proofs.Common.{◌≡◌, ◌≢◌, ◌⊎◌, ℕ, ◌+◌, ◌-◌, ◌<◌, Bool, true, false, ◌&&◌, eqb, cond, List, [], ◌∷◌}
use Rattle.std.proofs.Common.{◌++◌, refl, sym, ap, ◌∙◌, subst, inl, inr}
use Rattle.std.proofs.Common.{eq-eqb, ne_eqb, arith}
use Rattle.std.proofs.Math.Bool.{and-false}
use native.Mathlib.Decide.{ℕ_discrete}
use Rattle.step_table.specs.declared.entry.Entry.{Entry}
use Rattle.step_table.specs.declared.entry.Entry.TheVariants.{Add, AddMany, Take}
use Rattle.step_table.specs.World.{put}
use Rattle.step_table.specs.Journal.{Plain, plain_start, effect_of, replay, IsDefined}
use Rattle.step_table.proofs.Sums.{put_here, put_else}
use Rattle.sema_table.specs.Setting.{layout}
use Rattle.sync_parts.specs.Lock.{is_use, uses}
use Rattle.sync_parts.specs.Exclusion.{InTurn, TheLocks}

-- whether a seat holds a unit after this use
abbrev is_take : Entry → Bool
is_take (Take c s) = true
is_take _ = false

-- after these uses
abbrev after : Bool → List Entry → Bool
after b [] = b
after b (e ∷ es) = after (is_take e) es

-- a use that is in turn
abbrev Fits : Bool → Entry → Type 0
Fits false (Take c s) = Unit {0}
Fits true (Add c s) = Unit {0}
Fits b e = ⊥

fits_first : (b : Bool) (e : Entry) (es : List Entry) → InTurn b (e ∷ es) → Fits b e × InTurn (is_take e) es
fits_first false (Take c s) es turn = (tt, turn)
fits_first true (Add c s) es turn = (tt, turn)
fits_first b e es turn = absurd turn

-- the use, if it is one, is in turn, and so are the rest
fits_use : (u b : Bool) (e : Entry) (es : List Entry) → InTurn b (cond u (e ∷ es) es) → (u ≡ true
    → Fits b e) × InTurn (cond u (is_take e) b) es
fits_use true b e es turn = let both = fits_first b e es turn in (λ _. both.0, both.1)
fits_use false b e es turn = (λ no. absurd (cc no), turn)

after_use : (u b : Bool) (e : Entry) (es : List Entry) → after b (cond u (e ∷ es) es) ≡ after (cond u (is_take e) b) es
after_use true b e es = refl
after_use false b e es = refl

-- the unit is there and nobody holds it, or one seat holds it
abbrev One : ℕ → (ℕ → Bool) → Type 0
One n holds =
    ((n ≡ 1) × ((i : ℕ) → holds i ≡ false))
    ⊎ ((n ≡ 0) × ((k : ℕ) × (holds k ≡ true) × ((i : ℕ) → i ≢ k → holds i ≡ false)))

one_along : (n m : ℕ) (g h : ℕ → Bool) → n ≡ m → ((i : ℕ) → g i ≡ h i) → One n g → One m h
one_along n m g h e same (inl (is, none)) = inl (sym e ∙ is, λ i. sym (same i) ∙ none i)
one_along n m g h e same (inr (is, who)) = inr (sym e ∙ is, (who.0, sym (same who.0) ∙ who.1, λ i ne. sym (same i) ∙ who.2 i ne))

-- who holds a unit after one more entry
abbrev holds_then : ℕ → Entry → (ℕ → Bool) → ℕ → Bool
holds_then c e holds i = cond (is_use c i e) (is_take e) (holds i)

-- a use of c by the seat s, and by no other
its_use : (c s : ℕ) (b : Bool) (holds : ℕ → Bool) → cond (eqb c c && eqb s s) b (holds s) ≡ b
its_use c s b holds = λ j. cond (eq-eqb c c refl j && eq-eqb s s refl j) b (holds s)

no_use : (d c s i : ℕ) (b : Bool) (holds : ℕ → Bool) → s ≢ i → cond (eqb d c && eqb s i) b (holds i) ≡ holds i
no_use d c s i b holds ne = ap (λ t. cond (eqb d c && t) b (holds i)) (ne_eqb s i ne) ∙ ap (λ t. cond t b (holds i)) (and-false (eqb d c))

other_use : (d c s i : ℕ) (b : Bool) (holds : ℕ → Bool) → d ≢ c → cond (eqb d c && eqb s i) b (holds i) ≡ holds i
other_use d c s i b holds ne = ap (λ t. cond (t && eqb s i) b (holds i)) (ne_eqb d c ne)

is_its : (c s : ℕ) → (eqb c c && eqb s s) ≡ true
is_its c s = λ j. eq-eqb c c refl j && eq-eqb s s refl j

took : (c s : ℕ) (x : Plain) (holds : ℕ → Bool) → 0 < x.numbers c → One (x.numbers c) holds
    → One (x.numbers c - 1) (holds_then c (Take c s) holds)
took c s x holds some (inl (is, none)) = inr (
  omega arith,
  (
    s,
    its_use c s true holds,
    λ i ne. no_use c c s i true holds (λ q. ne (sym q)) ∙ none i,
  ),
)
took c s x holds some (inr (is, _)) = absurd (omega arith)

gave : (c s : ℕ) (x : Plain) (holds : ℕ → Bool) → holds s ≡ true → One (x.numbers c) holds
    → One (x.numbers c + 1) (holds_then c (Add c s) holds)
gave c s x holds has (inl (is, none)) = let no = none s in absurd (cc)
gave c s x holds has (inr (is, who)) = inl (omega arith, by)
  where
    mine : who.0 ≢ s → ⊥
    mine ne = let none = who.2 s (λ q. ne (sym q)) in absurd (cc)

    by : (i : ℕ) → holds_then c (Add c s) holds i ≡ false
    by i = one (ℕ_discrete s i)
      where
        one : Dec (s ≡ i) → holds_then c (Add c s) holds i ≡ false
        one (yes q) = subst (λ j. holds_then c (Add c s) holds j ≡ false) q (its_use c s false holds)
        one (no ne) = no_use c c s i false holds ne ∙ who.2 i (λ q. mine (λ p. ne (sym p ∙ sym q)))

fits_add : (b : Bool) (c s : ℕ) → Fits b (Add c s) → b ≡ true
fits_add true c s fits = refl
fits_add false c s fits = absurd fits

fits_many : (b : Bool) (c n s : ℕ) → Fits b (AddMany c n s) → ⊥
fits_many true c n s fits = fits
fits_many false c n s fits = fits

-- by one more entry, which is in turn if it is a use
abbrev Goes : ℕ → Entry → Plain → (ℕ → Bool) → Type 0
Goes c e x holds =
    IsDefined e x → ((i : ℕ) → is_use c i e ≡ true → Fits (holds i) e) → One (x.numbers c) holds
    → One ((effect_of e x).numbers c) (holds_then c e holds)

-- the number of c after a change of it, and after a change of another counter
here : (c n : ℕ) (x : Plain) (holds : ℕ → Bool) → One n holds → One (put x.numbers c n c) holds
here c n x holds one = subst (λ m. One m holds) (sym (put_here x.numbers c n)) one

elsewhere : (c d n s : ℕ) (b : Bool) (x : Plain) (holds : ℕ → Bool) → d ≢ c → One (x.numbers c) holds
    → One (put x.numbers d n c) (λ i. cond (eqb d c && eqb s i) b (holds i))
elsewhere c d n s b x holds ne one =
    one_along (x.numbers c) (put x.numbers d n c) holds (λ i. cond (eqb d c && eqb s i) b (holds i))
    (sym (put_else x.numbers d n c (λ q. ne (sym q)))) (λ i. sym (other_use d c s i b holds ne)) one

one_then : (c : ℕ) (e : Entry) (x : Plain) (holds : ℕ → Bool) → Goes c e x holds
one_then c (Take d s) x holds = by (ℕ_discrete d c)
  where
    by : Dec (d ≡ c) → Goes c (Take d s) x holds
    by (yes q) =
        subst (λ d. Goes c (Take d s) x holds) (sym q)
        (λ some fits one. here c (x.numbers c - 1) x (holds_then c (Take c s) holds) (took c s x holds some one))
    by (no ne) = λ some fits one. elsewhere c d (x.numbers d - 1) s true x holds ne one
one_then c (Add d s) x holds = by (ℕ_discrete d c)
  where
    by : Dec (d ≡ c) → Goes c (Add d s) x holds
    by (yes q) =
        subst (λ d. Goes c (Add d s) x holds) (sym q)
        (λ some fits one.
        here c (x.numbers c + 1) x (holds_then c (Add c s) holds)
        (gave c s x holds (fits_add (holds s) c s (fits s (is_its c s))) one))
    by (no ne) = λ some fits one. elsewhere c d (x.numbers d + 1) s false x holds ne one
one_then c (AddMany d n s) x holds = by (ℕ_discrete d c)
  where
    by : Dec (d ≡ c) → Goes c (AddMany d n s) x holds
    by (yes q) =
        subst (λ d. Goes c (AddMany d n s) x holds) (sym q)
        (λ some fits one. absurd (fits_many (holds s) c n s (fits s (is_its c s))))
    by (no ne) = λ some fits one. elsewhere c d (x.numbers d + n) s false x holds ne one
one_then c _ x holds = λ some fits one. one

abbrev AllDefined : Plain → List Entry → Type 0
AllDefined x es = (before rest : List Entry) (e : Entry) → es ≡ before ++ e ∷ rest → IsDefined e (replay x before)

one_along_all : (c : ℕ) (es : List Entry) (x : Plain) (holds : ℕ → Bool) → AllDefined x es → ((i : ℕ)
    → InTurn (holds i) (uses c i es)) → One (x.numbers c) holds
    → One ((replay x es).numbers c) (λ i. after (holds i) (uses c i es))
one_along_all c [] x holds defined turns one = one
one_along_all c (e ∷ es) x holds defined turns one =
    let then : ℕ → Bool = holds_then c e holds in
    let now = (replay (effect_of e x) es).numbers c in
    one_along now now (λ i. after (then i) (uses c i es)) (λ i. after (holds i) (uses c i (e ∷ es))) refl
    (λ i. sym (after_use (is_use c i e) (holds i) e (uses c i es)))
    (one_along_all c es (effect_of e x) then
    (λ before rest f is. defined (e ∷ before) rest f (ap (λ l. e ∷ l) is))
    (λ i. (fits_use (is_use c i e) (holds i) e (uses c i es) (turns i)).1)
    (one_then c e x holds (defined [] es e refl) (λ i. (fits_use (is_use c i e) (holds i) e (uses c i es) (turns i)).0) one))

one_alone : (n : ℕ) (holds : ℕ → Bool) → One n holds → (i k : ℕ) → holds i ≡ true → holds k ≡ true → i ≡ k
one_alone n holds (inl (is, none)) i k a b = let no = none i in absurd (cc)
one_alone n holds (inr (is, who)) i k a b = his i a ∙ sym (his k b)
  where
    his : (j : ℕ) → holds j ≡ true → j ≡ who.0
    his j has = by (ℕ_discrete j who.0)
      where
        by : Dec (j ≡ who.0) → j ≡ who.0
        by (yes q) = q
        by (no ne) = let none = who.2 j ne in absurd (cc)

after_last : (b : Bool) (before : List Entry) (c s : ℕ) → after b (before ++ Take c s ∷ []) ≡ true
after_last b [] c s = refl
after_last b (e ∷ before) c s = after_last (is_take e) before c s

pub the_locks : TheLocks
the_locks t c journal lawful only i k his its =
    let x = plain_start (layout t.setting).starts in
    one_alone ((replay x journal).numbers c) (λ j. after false (uses c j journal))
    (one_along_all c journal x (λ j. false) (λ before rest e is. (lawful.0 before rest e is).0) only.in_turn (inl (
      only.started,
      λ j. refl,
    )))
    i k (ap (after false) his.1 ∙ after_last false his.0 c i) (ap (after false) its.1 ∙ after_last false its.0 c k)
