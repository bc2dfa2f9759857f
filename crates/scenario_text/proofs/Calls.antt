-- Which call a text spells: one for each form, and none where no form fits.
use Rattle.std.proofs.Common.{◌≡◌, ◌≢◌, ℕ, suc, ◌+◌, ◌*◌, ◌^◌, ◌<◌, Bool, true, false, List, [], ◌∷◌, ◌++◌, length, get_or}
use Rattle.std.proofs.Common.{Option, Some, None}
use Rattle.std.proofs.Common.{refl, sym, ap, subst, ◌∙◌, arith, inr}
use Rattle.std.specs.Prelude.{codes}
use Rattle.std.specs.Fmt.{decimal}
use Rattle.std.proofs.lemmas.List.{append_cancel_left}
use Rattle.scenario_text.specs.declared.reader.call.Change.{Change}
use Rattle.scenario_text.specs.declared.reader.call.Change.TheVariants.{Up, Down}
use Rattle.scenario_text.specs.declared.reader.call.SpelledCall.{SpelledCall}
use Rattle.scenario_text.specs.declared.reader.call.SpelledCall.TheVariants.{Acquire, AcquireLifo, AcquireOrLeave, WaitOrLeave, Release, ReleaseHandoff, ReleaseMany, Add, Wait, One, All}
use Rattle.scenario_text.specs.declared.reader.call.SpelledCall.TheVariants.{GroupAdd, GroupWait, GroupWaitOrLeave}
use Rattle.scenario_text.specs.declared.reader.call.SpelledGivingUp.{SpelledGivingUp}
use Rattle.step_table.specs.declared.call.Late.{Late}
use Rattle.step_table.specs.declared.call.Late.TheVariants.{Kept, GivenBack}
use Rattle.scenario_text.specs.Line.{call_text, late_text, skips_text, giving_up_text, flag_text, IsShortSkips, IsShortGivingUp, keeping}
use Rattle.scenario_text.specs.Phrases.{ReadsAs, IsNumber, IsKeyed, IsFlagged, IsNumbered, IsPair, IsChange, IsGroupAdd, IsGivingUp, IsOrLeave, IsCall}
use Rattle.scenario_text.specs.Phrases.{IsKeyedSome, IsCallOrLeave, IsGroupLeave}
use Rattle.scenario_text.proofs.Numbers.{decimal_one}
use Rattle.scenario_text.proofs.Parts.{same, one, found, only, none, lacks}

abbrev NoSpace : List ℕ → Type 0
NoSpace xs = (i : ℕ) → i < length xs → get_or xs i 0 ≢ 32

space_in : (xs ys : List ℕ) → NoSpace (xs ++ (32 ∷ ys)) → ⊥
space_in [] ys h = h 0 (omega arith) refl
space_in (x ∷ xs) ys h = space_in xs ys (λ i lt. h (suc i) (omega arith))

split_same : (xs ys a b : List ℕ) → NoSpace xs → NoSpace ys → xs ++ (32 ∷ a) ≡ ys ++ (32 ∷ b) → (xs ≡ ys) × (a ≡ b)
split_same [] [] a b p q e = (refl, cc)
split_same [] (y ∷ ys) a b p q e = let first : 32 ≡ y = cc in absurd (q 0 (omega arith) (sym first))
split_same (x ∷ xs) [] a b p q e = let first : x ≡ 32 = cc in absurd (p 0 (omega arith) first)
split_same (x ∷ xs) (y ∷ ys) a b p q e =
    let first : x ≡ y = cc in
    let rest : xs ++ (32 ∷ a) ≡ ys ++ (32 ∷ b) = cc in
    let s = split_same xs ys a b (λ i lt. p (suc i) (omega arith)) (λ i lt. q (suc i) (omega arith)) rest in
    ((λ i. first i ∷ s.0 i), s.1)

plain : (n : ℕ) → n < 10 ^ 10 → NoSpace (decimal n)
plain n small = lacks n 32 (omega arith) (inr (omega arith))

-- a number alone, and a number with a word behind it, are two texts
alone : (keyword text more : List ℕ) (n m : ℕ) → n < 10 ^ 10 → text ≡ keyword ++ decimal n
    → text ≡ keyword ++ (decimal m ++ (32 ∷ more)) → ⊥
alone keyword text more n m small e f =
    space_in (decimal m) more (subst NoSpace (append_cancel_left keyword (decimal n) (decimal m ++ (32 ∷ more)) (sym e ∙ f)) (plain n small))

-- the number and what stands behind it are one
numbered_is : (keyword text x y : List ℕ) (n m : ℕ) → IsNumbered keyword text (n, x) → IsNumbered keyword text (m, y) → (n ≡ m) × (x ≡ y)
numbered_is keyword text x y n m p q =
    let s = split_same (decimal n) (decimal m) x y (plain n p.0) (plain m q.0)
    (append_cancel_left keyword (decimal n ++ (32 ∷ x)) (decimal m ++ (32 ∷ y)) (sym p.1 ∙ q.1)) in
    (decimal_one n m (omega (arith, p.0)) (omega (arith, q.0)) s.0, s.1)

behind : (keyword text x y : List ℕ) (n m : ℕ) → n < 10 ^ 10 → m < 10 ^ 10 → text ≡ keyword ++ (decimal n ++ (32 ∷ x))
    → text ≡ keyword ++ (decimal m ++ (32 ∷ y)) → x ≡ y
behind keyword text x y n m p q e f = (numbered_is keyword text x y n m (p, e) (q, f)).1

-- ---- a change

minus_is : (n : ℕ) (t : List ℕ) → n < 10 ^ 10 → decimal n ≡ 45 ∷ t → ⊥
minus_is n t small e =
    lacks n 45 (omega arith) (inr (omega arith)) 0 (subst (λ (x : List ℕ). 0 < length x) (sym e) (omega arith)) (ap (λ (x : List ℕ). get_or x 0 0) e)

pub change_up : (text : List ℕ) (n : ℕ) → ReadsAs (IsNumber 10 text) (Some n) → ReadsAs (IsChange text) (Some (Up n))
change_up text n h = let f = found (IsNumber 10 text) n h in one (IsChange text) (Up n) f is
  where
    is : (a : Change) → IsChange text a → a ≡ Up n
    is (Up m) q = ap Up (only (IsNumber 10 text) n m h q)
    is (Down m) q = let f = found (IsNumber 10 text) n h in absurd (minus_is n (decimal m) f.0 (sym f.1 ∙ q.1))

pub change_down : (text : List ℕ) (n : ℕ) → ReadsAs (IsNumber 10 text) None → ReadsAs (IsKeyed 10 (codes "-") text) (Some n) → (n ≡ 0 → ⊥)
    → ReadsAs (IsChange text) (Some (Down n))
change_down text n other h some = let f = found (IsKeyed 10 (codes "-") text) n h in one (IsChange text) (Down n) ((omega arith, f.0), f.1) is
  where
    is : (a : Change) → IsChange text a → a ≡ Down n
    is (Up m) q = absurd (none (IsNumber 10 text) m other q)
    is (Down m) q = ap Down (only (IsKeyed 10 (codes "-") text) n m h (q.0.1, q.1))

-- the first two bytes tell words apart
abbrev key : List ℕ → ℕ
key text = 256 * get_or text 0 0 + get_or text 1 0

-- ---- how a call may give up

late_is : (a b : Late) (x y : List ℕ) → late_text a ++ x ≡ late_text b ++ y → (a ≡ b) × (x ≡ y)
late_is Kept Kept x y e = (refl, append_cancel_left (codes "leave") x y e)
late_is GivenBack GivenBack x y e = (refl, append_cancel_left (codes "quit") x y e)
late_is Kept GivenBack x y e = absurd (omega (arith, ap key e))
late_is GivenBack Kept x y e = absurd (omega (arith, ap key e))

pub keyed_some : (word text : List ℕ) (n : ℕ) → ReadsAs (IsKeyed 10 word text) (Some n) → (n ≡ 0 → ⊥) → ReadsAs (IsKeyedSome word text) (Some n)
keyed_some word text n h some =
    one (IsKeyedSome word text) n (omega arith, found (IsKeyed 10 word text) n h) (λ a q. only (IsKeyed 10 word text) n a h q.1)

skips_is : (a b : Option ℕ) → IsShortSkips a → IsShortSkips b → skips_text a ≡ skips_text b → a ≡ b
skips_is None None p q e = refl
skips_is None (Some m) p q e = absurd (omega (arith, ap length e))
skips_is (Some n) None p q e = absurd (omega (arith, ap length e))
skips_is (Some n) (Some m) p q e =
    ap Some (decimal_one n m (omega (arith, p.1)) (omega (arith, q.1)) (append_cancel_left (codes " ") (decimal n) (decimal m) e))

way_is : (a b : SpelledGivingUp) → IsShortGivingUp a → IsShortGivingUp b → giving_up_text a ≡ giving_up_text b → a ≡ b
way_is a b p q e =
    let l = late_is a.late b.late (skips_text a.skips) (skips_text b.skips) e in
    let s = skips_is a.skips b.skips p q l.1 in
    (λ i. record { late = l.0 i; skips = s i })

pub way_reads : (text : List ℕ) (how : SpelledGivingUp) → IsGivingUp text how → ReadsAs (IsGivingUp text) (Some how)
way_reads text how p = one (IsGivingUp text) how p (λ a q. way_is a how q.0 p.0 (sym q.1 ∙ p.1))

pub no_way : (text : List ℕ) → text ≢ codes "leave" → text ≢ codes "quit" → ReadsAs (IsKeyedSome (codes "leave ") text) None
    → ReadsAs (IsKeyedSome (codes "quit ") text) None → (how : SpelledGivingUp) → IsGivingUp text how → ⊥
no_way text leave quit leaves quits how p = is how.late how.skips p.0 p.1
  where
    is : (l : Late) (o : Option ℕ) → IsShortSkips o → text ≡ late_text l ++ skips_text o → ⊥
    is Kept None q e = leave e
    is GivenBack None q e = quit e
    is Kept (Some n) q e = none (IsKeyedSome (codes "leave ") text) n leaves (q.0, (q.1, e))
    is GivenBack (Some n) q e = none (IsKeyedSome (codes "quit ") text) n quits (q.0, (q.1, e))

-- it doesn't begin as the flag does
no_flag : (how : SpelledGivingUp) (more : List ℕ) → giving_up_text how ≡ 108 ∷ 105 ∷ more → ⊥
no_flag how more e = is how.late (skips_text how.skips) e
  where
    is : (l : Late) (x : List ℕ) → late_text l ++ x ≡ 108 ∷ 105 ∷ more → ⊥
    is Kept x f = omega (arith, ap key f)
    is GivenBack x f = omega (arith, ap key f)

tail_is : (a b : Bool) (h k : SpelledGivingUp) → IsShortGivingUp h → IsShortGivingUp k
    → flag_text a ++ giving_up_text h ≡ flag_text b ++ giving_up_text k → (a ≡ b) × (h ≡ k)
tail_is true true h k p q e = (refl, way_is h k p q (append_cancel_left (codes "lifo ") (giving_up_text h) (giving_up_text k) e))
tail_is false false h k p q e = (refl, way_is h k p q e)
tail_is true false h k p q e = absurd (no_flag k (codes "fo " ++ giving_up_text h) (sym e))
tail_is false true h k p q e = absurd (no_flag h (codes "fo " ++ giving_up_text k) e)

flag_alone : (a : Bool) (h : SpelledGivingUp) → codes "lifo" ≡ flag_text a ++ giving_up_text h → ⊥
flag_alone true h e = omega (arith, ap length e)
flag_alone false h e = no_flag h (codes "fo") (sym e)

pub acquire_or_leave : (text : List ℕ) (n : ℕ) (lifo : Bool) (how : SpelledGivingUp)
    → ReadsAs (IsOrLeave (codes "acquire ") (flag_text lifo) text) (Some (n, how)) → ReadsAs (IsCallOrLeave text) (Some (AcquireOrLeave n lifo how))
acquire_or_leave text n lifo how reads =
    let f = found (IsOrLeave (codes "acquire ") (flag_text lifo) text) (n, how) reads in
    one (IsCallOrLeave text) (AcquireOrLeave n lifo how) (record { short = (f.0, f.1); spelled = f.2 }, refl) is
  where
    is : (a : SpelledCall) → IsCallOrLeave text a → a ≡ AcquireOrLeave n lifo how
    is (AcquireOrLeave m l h) q =
        let f = found (IsOrLeave (codes "acquire ") (flag_text lifo) text) (n, how) reads in
        let s = numbered_is (codes "acquire ") text (flag_text l ++ giving_up_text h) (flag_text lifo ++ giving_up_text how) m n
        (q.0.short.0, q.0.spelled) (f.0, f.2) in
        let t = tail_is l lifo h how q.0.short.1 f.1 s.1 in
        (λ i. AcquireOrLeave (s.0 i) (t.0 i) (t.1 i))
    is (WaitOrLeave m h) q =
        let f = found (IsOrLeave (codes "acquire ") (flag_text lifo) text) (n, how) reads in absurd (omega (arith, ap key (sym f.2 ∙ q.0.spelled)))
    is (GroupWaitOrLeave m k) q =
        let f = found (IsOrLeave (codes "acquire ") (flag_text lifo) text) (n, how) reads in absurd (omega (arith, ap key (sym f.2 ∙ q.0.spelled)))
    is a q = absurd cc

pub wait_or_leave : (text : List ℕ) (n : ℕ) (how : SpelledGivingUp) → ReadsAs (IsOrLeave (codes "wait ") [] text) (Some (n, how))
    → ReadsAs (IsCallOrLeave text) (Some (WaitOrLeave n how))
wait_or_leave text n how reads =
    let f = found (IsOrLeave (codes "wait ") [] text) (n, how) reads in
    one (IsCallOrLeave text) (WaitOrLeave n how) (record { short = (f.0, f.1); spelled = f.2 }, refl) is
  where
    is : (a : SpelledCall) → IsCallOrLeave text a → a ≡ WaitOrLeave n how
    is (WaitOrLeave m h) q =
        let f = found (IsOrLeave (codes "wait ") [] text) (n, how) reads in
        ap (λ (x : ℕ × SpelledGivingUp). WaitOrLeave x.0 x.1)
        (only (IsOrLeave (codes "wait ") [] text) (n, how) (m, h) reads (q.0.short.0, q.0.short.1, q.0.spelled))
    is (AcquireOrLeave m l h) q =
        let f = found (IsOrLeave (codes "wait ") [] text) (n, how) reads in absurd (omega (arith, ap key (sym f.2 ∙ q.0.spelled)))
    is (GroupWaitOrLeave m k) q =
        let f = found (IsOrLeave (codes "wait ") [] text) (n, how) reads in absurd (omega (arith, ap key (sym f.2 ∙ q.0.spelled)))
    is a q = absurd cc

-- a wait on a group that may leave has `leave` behind it
leaves_so : (how : SpelledGivingUp) → how.late ≡ Kept → how ≡ keeping how.skips
leaves_so how e = λ i. record { late = e i; skips = how.skips }

pub group_leaves : (text : List ℕ) (n : ℕ) (how : SpelledGivingUp) → ReadsAs (IsOrLeave (codes "gwait ") [] text) (Some (n, how)) → how.late ≡ Kept
    → ReadsAs (IsGroupLeave text) (Some (n, how.skips))
group_leaves text n how reads e =
    one (IsGroupLeave text) (n, how.skips)
    (subst (λ (h : SpelledGivingUp). IsOrLeave (codes "gwait ") [] text (n, h)) (leaves_so how e)
    (found (IsOrLeave (codes "gwait ") [] text) (n, how) reads))
    (λ a q. ap (λ (x : ℕ × SpelledGivingUp). (x.0, x.1.skips)) (only (IsOrLeave (codes "gwait ") [] text) (n, how) (a.0, keeping a.1) reads q))

pub group_quits : (text : List ℕ) (n : ℕ) (how : SpelledGivingUp) → ReadsAs (IsOrLeave (codes "gwait ") [] text) (Some (n, how)) → how.late ≡ GivenBack
    → (a : ℕ × Option ℕ) → IsGroupLeave text a → ⊥
group_quits text n how reads e a q =
    let same = ap (λ (x : ℕ × SpelledGivingUp). x.1.late) (only (IsOrLeave (codes "gwait ") [] text) (n, how) (a.0, keeping a.1) reads q) in
    absurd (let kept : Kept ≡ GivenBack = same ∙ e in cc)

pub group_wait_or_leave : (text : List ℕ) (n : ℕ) (skips : Option ℕ) → ReadsAs (IsGroupLeave text) (Some (n, skips))
    → ReadsAs (IsCallOrLeave text) (Some (GroupWaitOrLeave n skips))
group_wait_or_leave text n skips reads =
    let f = found (IsGroupLeave text) (n, skips) reads in
    one (IsCallOrLeave text) (GroupWaitOrLeave n skips) (record { short = (f.0, f.1); spelled = f.2 }, refl) is
  where
    is : (a : SpelledCall) → IsCallOrLeave text a → a ≡ GroupWaitOrLeave n skips
    is (GroupWaitOrLeave m k) q =
        ap (λ (x : ℕ × Option ℕ). GroupWaitOrLeave x.0 x.1)
        (only (IsGroupLeave text) (n, skips) (m, k) reads (q.0.short.0, q.0.short.1, q.0.spelled))
    is (AcquireOrLeave m l h) q =
        let f = found (IsGroupLeave text) (n, skips) reads in absurd (omega (arith, ap key (sym f.2 ∙ q.0.spelled)))
    is (WaitOrLeave m h) q =
        let f = found (IsGroupLeave text) (n, skips) reads in absurd (omega (arith, ap key (sym f.2 ∙ q.0.spelled)))
    is a q = absurd cc

pub no_call_or_leave : (text : List ℕ) → ReadsAs (IsOrLeave (codes "acquire ") [] text) None
    → ReadsAs (IsOrLeave (codes "acquire ") (codes "lifo ") text) None → ReadsAs (IsOrLeave (codes "wait ") [] text) None
    → ReadsAs (IsGroupLeave text) None → (call : SpelledCall) → IsCallOrLeave text call → ⊥
no_call_or_leave text acquire lifo wait group (AcquireOrLeave m false h) q =
    none (IsOrLeave (codes "acquire ") [] text) (m, h) acquire (q.0.short.0, q.0.short.1, q.0.spelled)
no_call_or_leave text acquire lifo wait group (AcquireOrLeave m true h) q =
    none (IsOrLeave (codes "acquire ") (codes "lifo ") text) (m, h) lifo (q.0.short.0, q.0.short.1, q.0.spelled)
no_call_or_leave text acquire lifo wait group (WaitOrLeave m h) q =
    none (IsOrLeave (codes "wait ") [] text) (m, h) wait (q.0.short.0, q.0.short.1, q.0.spelled)
no_call_or_leave text acquire lifo wait group (GroupWaitOrLeave m k) q =
    none (IsGroupLeave text) (m, k) group (q.0.short.0, q.0.short.1, q.0.spelled)
no_call_or_leave text acquire lifo wait group a q = absurd cc

-- ---- calls

pub acquire_reads : (text : List ℕ) (n : ℕ) → ReadsAs (IsKeyed 10 (codes "acquire ") text) (Some n) → ReadsAs (IsCall text) (Some (Acquire n))
acquire_reads text n h = let f = found (IsKeyed 10 (codes "acquire ") text) n h in one (IsCall text) (Acquire n) (record { short = f.0; spelled = f.1 }) is
  where
    is : (a : SpelledCall) → IsCall text a → a ≡ Acquire n
    is (Acquire m) q = ap Acquire (only (IsKeyed 10 (codes "acquire ") text) n m h (q.short, q.spelled))
    is (AcquireLifo m) q = let f = found (IsKeyed 10 (codes "acquire ") text) n h in absurd (alone (codes "acquire ") text (codes "lifo") n m f.0 f.1 q.spelled)
    is (AcquireOrLeave m l w) q =
        let f = found (IsKeyed 10 (codes "acquire ") text) n h in
        absurd (alone (codes "acquire ") text (flag_text l ++ giving_up_text w) n m f.0 f.1 q.spelled)
    is a q = let f = found (IsKeyed 10 (codes "acquire ") text) n h in let e : text ≡ call_text (Acquire n) = f.1 in
        absurd (omega (arith, ap key (sym e ∙ q.spelled)))

pub acquire_lifo_reads : (text : List ℕ) (n : ℕ) → ReadsAs (IsFlagged (codes "acquire ") (codes " lifo") text) (Some n)
    → ReadsAs (IsCall text) (Some (AcquireLifo n))
acquire_lifo_reads text n h =
    let f = found (IsFlagged (codes "acquire ") (codes " lifo") text) n h in one (IsCall text) (AcquireLifo n) (record { short = f.0; spelled = f.1 }) is
  where
    is : (a : SpelledCall) → IsCall text a → a ≡ AcquireLifo n
    is (AcquireLifo m) q = ap AcquireLifo (only (IsFlagged (codes "acquire ") (codes " lifo") text) n m h (q.short, q.spelled))
    is (Acquire m) q =
        let f = found (IsFlagged (codes "acquire ") (codes " lifo") text) n h in absurd (alone (codes "acquire ") text (codes "lifo") m n q.short q.spelled f.1)
    is (AcquireOrLeave m l w) q =
        let f = found (IsFlagged (codes "acquire ") (codes " lifo") text) n h in
        absurd (flag_alone l w (behind (codes "acquire ") text (codes "lifo") (flag_text l ++ giving_up_text w) n m f.0 q.short.0 f.1 q.spelled))
    is a q = let f = found (IsFlagged (codes "acquire ") (codes " lifo") text) n h in let e : text ≡ call_text (AcquireLifo n) = f.1 in
        absurd (omega (arith, ap key (sym e ∙ q.spelled)))

pub release_reads : (text : List ℕ) (n : ℕ) → ReadsAs (IsKeyed 10 (codes "release ") text) (Some n) → ReadsAs (IsCall text) (Some (Release n))
release_reads text n h = let f = found (IsKeyed 10 (codes "release ") text) n h in one (IsCall text) (Release n) (record { short = f.0; spelled = f.1 }) is
  where
    is : (a : SpelledCall) → IsCall text a → a ≡ Release n
    is (Release m) q = ap Release (only (IsKeyed 10 (codes "release ") text) n m h (q.short, q.spelled))
    is (ReleaseHandoff m) q =
        let f = found (IsKeyed 10 (codes "release ") text) n h in absurd (alone (codes "release ") text (codes "handoff") n m f.0 f.1 q.spelled)
    is (ReleaseMany m k) q =
        let f = found (IsKeyed 10 (codes "release ") text) n h in absurd (alone (codes "release ") text (codes "many " ++ decimal k) n m f.0 f.1 q.spelled)
    is a q = let f = found (IsKeyed 10 (codes "release ") text) n h in let e : text ≡ call_text (Release n) = f.1 in
        absurd (omega (arith, ap key (sym e ∙ q.spelled)))

pub release_handoff_reads : (text : List ℕ) (n : ℕ) → ReadsAs (IsFlagged (codes "release ") (codes " handoff") text) (Some n)
    → ReadsAs (IsCall text) (Some (ReleaseHandoff n))
release_handoff_reads text n h =
    let f = found (IsFlagged (codes "release ") (codes " handoff") text) n h in one (IsCall text) (ReleaseHandoff n) (record { short = f.0; spelled = f.1 }) is
  where
    is : (a : SpelledCall) → IsCall text a → a ≡ ReleaseHandoff n
    is (ReleaseHandoff m) q = ap ReleaseHandoff (only (IsFlagged (codes "release ") (codes " handoff") text) n m h (q.short, q.spelled))
    is (Release m) q = let f = found (IsFlagged (codes "release ") (codes " handoff") text) n h in
        absurd (alone (codes "release ") text (codes "handoff") m n q.short q.spelled f.1)
    is (ReleaseMany m k) q = let f = found (IsFlagged (codes "release ") (codes " handoff") text) n h in
        absurd (omega (arith, ap key (behind (codes "release ") text (codes "handoff") (codes "many " ++ decimal k) n m f.0 q.short.0 f.1 q.spelled)))
    is a q = let f = found (IsFlagged (codes "release ") (codes " handoff") text) n h in let e : text ≡ call_text (ReleaseHandoff n) = f.1 in
        absurd (omega (arith, ap key (sym e ∙ q.spelled)))

pub add_reads : (text : List ℕ) (n : ℕ) → ReadsAs (IsKeyed 10 (codes "add ") text) (Some n) → ReadsAs (IsCall text) (Some (Add n))
add_reads text n h = let f = found (IsKeyed 10 (codes "add ") text) n h in one (IsCall text) (Add n) (record { short = f.0; spelled = f.1 }) is
  where
    is : (a : SpelledCall) → IsCall text a → a ≡ Add n
    is (Add m) q = ap Add (only (IsKeyed 10 (codes "add ") text) n m h (q.short, q.spelled))
    is a q =
        let f = found (IsKeyed 10 (codes "add ") text) n h in let e : text ≡ call_text (Add n) = f.1 in absurd (omega (arith, ap key (sym e ∙ q.spelled)))

pub wait_reads : (text : List ℕ) (n : ℕ) → ReadsAs (IsKeyed 10 (codes "wait ") text) (Some n) → ReadsAs (IsCall text) (Some (Wait n))
wait_reads text n h = let f = found (IsKeyed 10 (codes "wait ") text) n h in one (IsCall text) (Wait n) (record { short = f.0; spelled = f.1 }) is
  where
    is : (a : SpelledCall) → IsCall text a → a ≡ Wait n
    is (Wait m) q = ap Wait (only (IsKeyed 10 (codes "wait ") text) n m h (q.short, q.spelled))
    is (WaitOrLeave m w) q =
        let f = found (IsKeyed 10 (codes "wait ") text) n h in absurd (alone (codes "wait ") text (giving_up_text w) n m f.0 f.1 q.spelled)
    is a q =
        let f = found (IsKeyed 10 (codes "wait ") text) n h in let e : text ≡ call_text (Wait n) = f.1 in absurd (omega (arith, ap key (sym e ∙ q.spelled)))

pub one_reads : (text : List ℕ) (n : ℕ) → ReadsAs (IsKeyed 10 (codes "one ") text) (Some n) → ReadsAs (IsCall text) (Some (One n))
one_reads text n h = let f = found (IsKeyed 10 (codes "one ") text) n h in one (IsCall text) (One n) (record { short = f.0; spelled = f.1 }) is
  where
    is : (a : SpelledCall) → IsCall text a → a ≡ One n
    is (One m) q = ap One (only (IsKeyed 10 (codes "one ") text) n m h (q.short, q.spelled))
    is a q =
        let f = found (IsKeyed 10 (codes "one ") text) n h in let e : text ≡ call_text (One n) = f.1 in absurd (omega (arith, ap key (sym e ∙ q.spelled)))

pub all_reads : (text : List ℕ) (n : ℕ) → ReadsAs (IsKeyed 10 (codes "all ") text) (Some n) → ReadsAs (IsCall text) (Some (All n))
all_reads text n h = let f = found (IsKeyed 10 (codes "all ") text) n h in one (IsCall text) (All n) (record { short = f.0; spelled = f.1 }) is
  where
    is : (a : SpelledCall) → IsCall text a → a ≡ All n
    is (All m) q = ap All (only (IsKeyed 10 (codes "all ") text) n m h (q.short, q.spelled))
    is a q =
        let f = found (IsKeyed 10 (codes "all ") text) n h in let e : text ≡ call_text (All n) = f.1 in absurd (omega (arith, ap key (sym e ∙ q.spelled)))

pub gwait_reads : (text : List ℕ) (n : ℕ) → ReadsAs (IsKeyed 10 (codes "gwait ") text) (Some n) → ReadsAs (IsCall text) (Some (GroupWait n))
gwait_reads text n h = let f = found (IsKeyed 10 (codes "gwait ") text) n h in one (IsCall text) (GroupWait n) (record { short = f.0; spelled = f.1 }) is
  where
    is : (a : SpelledCall) → IsCall text a → a ≡ GroupWait n
    is (GroupWait m) q = ap GroupWait (only (IsKeyed 10 (codes "gwait ") text) n m h (q.short, q.spelled))
    is (GroupWaitOrLeave m k) q =
        let f = found (IsKeyed 10 (codes "gwait ") text) n h in absurd (alone (codes "gwait ") text (giving_up_text (keeping k)) n m f.0 f.1 q.spelled)
    is a q = let f = found (IsKeyed 10 (codes "gwait ") text) n h in let e : text ≡ call_text (GroupWait n) = f.1 in
        absurd (omega (arith, ap key (sym e ∙ q.spelled)))

pub release_many_reads : (text : List ℕ) (n k : ℕ) → ReadsAs (IsPair (codes "release ") (codes "many ") text) (Some (n, k))
    → ReadsAs (IsCall text) (Some (ReleaseMany n k))
release_many_reads text n k h = let f = found (IsPair (codes "release ") (codes "many ") text) (n, k) h in
    one (IsCall text) (ReleaseMany n k) (record { short = (f.0, f.1); spelled = f.2 }) is
  where
    is : (a : SpelledCall) → IsCall text a → a ≡ ReleaseMany n k
    is (ReleaseMany m j) q =
        ap (λ (x : ℕ × ℕ). ReleaseMany x.0 x.1) (only (IsPair (codes "release ") (codes "many ") text) (n, k) (m, j) h (q.short.0, q.short.1, q.spelled))
    is (Release m) q = let f = found (IsPair (codes "release ") (codes "many ") text) (n, k) h in
        absurd (alone (codes "release ") text (codes "many " ++ decimal k) m n q.short q.spelled f.2)
    is (ReleaseHandoff m) q = let f = found (IsPair (codes "release ") (codes "many ") text) (n, k) h in
        absurd (omega (arith, ap key (behind (codes "release ") text (codes "many " ++ decimal k) (codes "handoff") n m f.0 q.short f.2 q.spelled)))
    is a q = let f = found (IsPair (codes "release ") (codes "many ") text) (n, k) h in let e : text ≡ call_text (ReleaseMany n k) = f.2 in
        absurd (omega (arith, ap key (sym e ∙ q.spelled)))

pub group_add_reads : (text : List ℕ) (n : ℕ) (d : Change) → ReadsAs (IsGroupAdd text) (Some (n, d)) → ReadsAs (IsCall text) (Some (GroupAdd n d))
group_add_reads text n d h = let f = found (IsGroupAdd text) (n, d) h in one (IsCall text) (GroupAdd n d) (record { short = (f.0, f.1); spelled = f.2 }) is
  where
    is : (a : SpelledCall) → IsCall text a → a ≡ GroupAdd n d
    is (GroupAdd m e) q = ap (λ (x : ℕ × Change). GroupAdd x.0 x.1) (only (IsGroupAdd text) (n, d) (m, e) h (q.short.0, q.short.1, q.spelled))
    is a q = let f = found (IsGroupAdd text) (n, d) h in let e : text ≡ call_text (GroupAdd n d) = f.2 in absurd (omega (arith, ap key (sym e ∙ q.spelled)))

pub other_calls : (text : List ℕ) (o : Option SpelledCall) → ReadsAs (IsKeyed 10 (codes "acquire ") text) None → ReadsAs (IsFlagged (codes "acquire ") (codes " lifo") text) None
    → ReadsAs (IsKeyed 10 (codes "release ") text) None → ReadsAs (IsFlagged (codes "release ") (codes " handoff") text) None
    → ReadsAs (IsPair (codes "release ") (codes "many ") text) None → ReadsAs (IsKeyed 10 (codes "add ") text) None
    → ReadsAs (IsKeyed 10 (codes "wait ") text) None → ReadsAs (IsKeyed 10 (codes "one ") text) None → ReadsAs (IsKeyed 10 (codes "all ") text) None
    → ReadsAs (IsGroupAdd text) None → ReadsAs (IsKeyed 10 (codes "gwait ") text) None → ReadsAs (IsCallOrLeave text) o
    → ReadsAs (IsCall text) o
other_calls text o acquire lifo release handoff many add wait one_is all group gwait leaving =
    same (IsCallOrLeave text) (IsCall text) o leaving (λ a p. p.0) is
  where
    is : (a : SpelledCall) → IsCall text a → IsCallOrLeave text a
    is (Acquire m) q = absurd (none (IsKeyed 10 (codes "acquire ") text) m acquire (q.short, q.spelled))
    is (AcquireLifo m) q = absurd (none (IsFlagged (codes "acquire ") (codes " lifo") text) m lifo (q.short, q.spelled))
    is (Release m) q = absurd (none (IsKeyed 10 (codes "release ") text) m release (q.short, q.spelled))
    is (ReleaseHandoff m) q = absurd (none (IsFlagged (codes "release ") (codes " handoff") text) m handoff (q.short, q.spelled))
    is (ReleaseMany m k) q = absurd (none (IsPair (codes "release ") (codes "many ") text) (m, k) many (q.short.0, q.short.1, q.spelled))
    is (Add m) q = absurd (none (IsKeyed 10 (codes "add ") text) m add (q.short, q.spelled))
    is (Wait m) q = absurd (none (IsKeyed 10 (codes "wait ") text) m wait (q.short, q.spelled))
    is (One m) q = absurd (none (IsKeyed 10 (codes "one ") text) m one_is (q.short, q.spelled))
    is (All m) q = absurd (none (IsKeyed 10 (codes "all ") text) m all (q.short, q.spelled))
    is (GroupAdd m d) q = absurd (none (IsGroupAdd text) (m, d) group (q.short.0, q.short.1, q.spelled))
    is (GroupWait m) q = absurd (none (IsKeyed 10 (codes "gwait ") text) m gwait (q.short, q.spelled))
    is (AcquireOrLeave m l w) q = (q, refl)
    is (WaitOrLeave m w) q = (q, refl)
    is (GroupWaitOrLeave m k) q = (q, refl)
