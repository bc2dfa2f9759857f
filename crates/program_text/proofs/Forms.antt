-- What the words behind each verb are read as, and which line they make.
use Rattle.std.proofs.Common.{◌≡◌, ℕ, true, false, List, [], ◌∷◌, Option, Some, None, refl, ap, subst, ◌∙◌, inl, inr, ◌⊎◌}
use Rattle.std.specs.Prelude.{⊤, codes}
use Rattle.std.specs.Option.{option_map}
use Rattle.scenario_text.specs.Phrases.{ReadsAs}
use Rattle.scenario_text.proofs.Parts.{nothing, one as one_of, found, only, none}
use Rattle.program_code.specs.declared.operator.Operator.{Operator}
use Rattle.program_code.specs.declared.relation.Relation.{Relation}
use Rattle.program_code.specs.Signs.{relation_text, IsRelation, IsOperator}
use Rattle.program_text.specs.declared.reader.keyword.Lifo.{Lifo}
use Rattle.program_text.specs.declared.reader.keyword.Handoff.{Handoff}
use Rattle.program_text.specs.declared.reader.keyword.ManyUnits.{ManyUnits}
use Rattle.program_text.specs.declared.reader.verb.Verb.{Verb}
use Rattle.program_text.specs.declared.reader.verb.Verb.TheVariants as verb
use Rattle.program_text.specs.declared.words.Number.{Number}
use Rattle.program_text.specs.declared.words.SpelledOperand.{SpelledOperand}
use Rattle.program_text.specs.declared.words.SpelledPlace.{SpelledPlace}
use Rattle.program_text.specs.declared.lines.SpelledShare.TheVariants as share
use Rattle.program_text.specs.declared.lines.SpelledLine.{SpelledLine}
use Rattle.program_text.specs.declared.lines.SpelledLine.TheVariants as line
use Rattle.program_text.specs.Words.{IsNameText, IsName, number_text, HasNumberForm, IsNumberWord, operand_text, HasOperandForm, IsOperand}
use Rattle.program_text.specs.Words.{place_text, HasPlaceForm, IsPlace}
use Rattle.program_text.specs.Lines.{verb_of, arguments_of, HasForm, AreArgumentsOf, is_fixed, is_fixed_index}
use Rattle.program_text.specs.Shapes.{AreOne, AreTwo, AreThree, AreFour, IsLifo, IsHandoff, IsMany, AreCells, AreAccess}

-- ---- readings

-- one reading or the other
abbrev pub Either : {A B : Type 0} → (List (List ℕ) → A → Type 0) → (List (List ℕ) → B → Type 0) → List (List ℕ) → A ⊎ B → Type 0
Either R S words (inl a) = R words a
Either R S words (inr b) = S words b

pub first : {A B : Type 0} (R : List (List ℕ) → A → Type 0) (S : List (List ℕ) → B → Type 0) (words : List (List ℕ)) (a : A)
    → ((b : B) → R words a → S words b → ⊥) → ReadsAs (R words) (Some a) → ReadsAs (Either R S words) (Some (inl a))
first {A} {B} R S words a apart h = one_of (Either R S words) (inl a) (found (R words) a h) is
  where
    is : (x : A ⊎ B) → Either R S words x → x ≡ inl a
    is (inl y) q = ap inl (only (R words) a y h q)
    is (inr y) q = absurd (apart y (found (R words) a h) q)

pub second : {A B : Type 0} (R : List (List ℕ) → A → Type 0) (S : List (List ℕ) → B → Type 0) (words : List (List ℕ)) (o : Option B)
    → ReadsAs (R words) None → ReadsAs (S words) o → ReadsAs (Either R S words) (option_map inr o)
second {A} {B} R S words None absent h = nothing (Either R S words) is
  where
    is : (x : A ⊎ B) → Either R S words x → ⊥
    is (inl y) q = none (R words) y absent q
    is (inr y) q = none (S words) y h q
second {A} {B} R S words (Some b) absent h = one_of (Either R S words) (inr b) (found (S words) b h) is
  where
    is : (x : A ⊎ B) → Either R S words x → x ≡ inr b
    is (inl y) q = absurd (none (R words) y absent q)
    is (inr y) q = ap inr (only (S words) b y h q)

-- what is read, and so it is
pub record Kept {A : Type 0} (R : List (List ℕ) → A → Type 0) (K : A → Type 0) (words : List (List ℕ)) (a : A) : Type 0 where
  pub read : R words a
  pub kept : K a

pub kept : {A : Type 0} (R : List (List ℕ) → A → Type 0) (K : A → Type 0) (words : List (List ℕ)) (a : A) → ReadsAs (R words) (Some a) → K a
    → ReadsAs (Kept R K words) (Some a)
kept R K words a h k = one_of (Kept R K words) a (record { read = found (R words) a h; kept = k }) (λ x q. only (R words) a x h q.read)

pub none_kept : {A : Type 0} (R : List (List ℕ) → A → Type 0) (K : A → Type 0) (words : List (List ℕ)) → ReadsAs (R words) None
    → ReadsAs (Kept R K words) None
none_kept R K words absent = nothing (Kept R K words) (λ x q. none (R words) x absent q.read)

pub not_kept : {A : Type 0} (R : List (List ℕ) → A → Type 0) (K : A → Type 0) (words : List (List ℕ)) (a : A) → ReadsAs (R words) (Some a)
    → (K a → ⊥) → ReadsAs (Kept R K words) None
not_kept R K words a h bad = nothing (Kept R K words) (λ x q. bad (subst K (only (R words) a x h q.read) q.kept))

-- ---- forms

-- what stands behind a verb, and the line of it
pub record Form : Type 1 where
  pub Parts : Type 0
  pub Reads : List (List ℕ) → Parts → Type 0
  pub line : Parts → SpelledLine

abbrev pub of : {A : Type 0} → (List (List ℕ) → A → Type 0) → (A → SpelledLine) → Form
of {A} R make = record { Parts = A; Reads = R; line = make }

abbrev pub AreNone : List (List ℕ) → ⊤ → Type 0
AreNone words x = words ≡ []

pub nil : (words : List (List ℕ)) → words ≡ [] → ReadsAs (AreNone words) (Some tt)
nil words e = one_of (AreNone words) tt e (λ x q. refl)

pub not_nil : (words : List (List ℕ)) → (words ≡ [] → ⊥) → ReadsAs (AreNone words) None
not_nil words h = nothing (AreNone words) (λ x q. h q)

abbrev pub IsFinal : SpelledPlace × Relation × SpelledOperand → Type 0
IsFinal x = (is_fixed_index x.0.index ≡ true) × (is_fixed x.2 ≡ true)

pub record AreJump (words : List (List ℕ)) (x : SpelledOperand × Relation × SpelledOperand × List ℕ) : Type 0 where
  pub first : HasOperandForm x.0
  pub second : HasOperandForm x.2
  pub label : IsNameText x.3
  pub spelled : words ≡ operand_text x.0 ∷ relation_text x.1 ∷ operand_text x.2 ∷ codes "goto" ∷ x.3 ∷ []

abbrev pub AreLifo : List (List ℕ) → SpelledPlace × Lifo → Type 0
AreLifo = AreTwo IsPlace (λ word _. IsLifo word)

abbrev pub AreHandoff : List (List ℕ) → SpelledPlace × Handoff → Type 0
AreHandoff = AreTwo IsPlace (λ word _. IsHandoff word)

abbrev pub AreMany : List (List ℕ) → SpelledPlace × ManyUnits × SpelledOperand → Type 0
AreMany = AreThree IsPlace (λ word _. IsMany word) IsOperand

-- so many units, or one
abbrev pub AreSome : List (List ℕ) → (SpelledPlace × ManyUnits × SpelledOperand) ⊎ SpelledPlace → Type 0
AreSome = Either AreMany (AreOne IsPlace)

pub handoff_apart : (words : List (List ℕ)) (a : SpelledPlace × Handoff) (b : (SpelledPlace × ManyUnits × SpelledOperand) ⊎ SpelledPlace) → AreHandoff words a → AreSome words b → ⊥
handoff_apart words a (inl b) r s = let e = r.words_are in let f = s.words_are in absurd cc
handoff_apart words a (inr b) r s = let e = r.words_are in let f = s.words_are in absurd cc

abbrev pub exchange_line : (SpelledPlace × SpelledOperand × SpelledOperand × List ℕ) ⊎ (SpelledPlace × SpelledOperand × SpelledOperand) → SpelledLine
exchange_line (inl x) = line.Exchange x.0 x.1 x.2 (Some x.3)
exchange_line (inr x) = line.Exchange x.0 x.1 x.2 None

abbrev pub await_line : (SpelledPlace × Relation × SpelledOperand × List ℕ) ⊎ (SpelledPlace × Relation × SpelledOperand) → SpelledLine
await_line (inl x) = line.Await x.0 x.1 x.2 (Some x.3)
await_line (inr x) = line.Await x.0 x.1 x.2 None

abbrev pub acquire_line : (SpelledPlace × Lifo) ⊎ SpelledPlace → SpelledLine
acquire_line (inl x) = line.Acquire x.0 true
acquire_line (inr place) = line.Acquire place false

abbrev pub release_line : (SpelledPlace × Handoff) ⊎ ((SpelledPlace × ManyUnits × SpelledOperand) ⊎ SpelledPlace) → SpelledLine
release_line (inl x) = line.Release x.0 share.Handoff
release_line (inr (inl x)) = line.Release x.0 (share.Many x.2)
release_line (inr (inr place)) = line.Release place share.One

abbrev pub let_line : (List ℕ × SpelledOperand × Operator × SpelledOperand) ⊎ (List ℕ × SpelledOperand) → SpelledLine
let_line (inl x) = line.Compute x.0 x.1 x.2 x.3
let_line (inr x) = line.Let x.0 x.1

abbrev pub form_of : Verb → Form
form_of verb.Const = of (AreTwo IsName IsNumberWord) (λ x. line.Const x.0 x.1)
form_of verb.Word = of AreCells (λ x. line.Word x.0 x.1)
form_of verb.Counter = of AreCells (λ x. line.Counter x.0 x.1)
form_of verb.List = of (AreOne IsName) line.List
form_of verb.Section = of (AreOne IsName) line.Section
form_of verb.Program = of (AreOne IsName) line.Program
form_of verb.Seats = of (AreTwo IsNumberWord IsName) (λ x. line.Seats x.0 x.1)
form_of verb.Most = of (AreTwo IsName IsNumberWord) (λ x. line.Most x.0 x.1)
form_of verb.Apart = of (AreTwo IsName IsName) (λ x. line.Apart x.0 x.1)
form_of verb.Passed = of (AreTwo IsName IsNumberWord) (λ x. line.Passed x.0 x.1)
form_of verb.Finally = of (Kept (AreThree IsPlace IsRelation IsOperand) IsFinal) (λ x. line.Finally x.0 x.1 x.2)
form_of verb.Load = of (AreTwo IsPlace IsName) (λ x. line.Load x.0 x.1)
form_of verb.Store = of (AreTwo IsPlace IsOperand) (λ x. line.Store x.0 x.1)
form_of verb.Swap = of AreAccess (λ x. line.Swap x.0 x.1 x.2)
form_of verb.Add = of AreAccess (λ x. line.Add x.0 x.1 x.2)
form_of verb.Exchange = of (Either (AreFour IsPlace IsOperand IsOperand IsName) (AreThree IsPlace IsOperand IsOperand)) exchange_line
form_of verb.Await = of (Either (AreFour IsPlace IsRelation IsOperand IsName) (AreThree IsPlace IsRelation IsOperand)) await_line
form_of verb.Acquire = of (Either AreLifo (AreOne IsPlace)) acquire_line
form_of verb.Release = of (Either AreHandoff AreSome) release_line
form_of verb.Ticket = of (AreOne IsName) line.Ticket
form_of verb.Wait = of (AreOne IsName) line.Wait
form_of verb.One = of (AreOne IsName) line.One
form_of verb.All = of (AreOne IsName) line.All
form_of verb.Park = of (AreTwo IsPlace IsOperand) (λ x. line.Park x.0 x.1)
form_of verb.Unpark = of (AreTwo IsPlace IsOperand) (λ x. line.Unpark x.0 x.1)
form_of verb.Out = of (AreOne IsName) line.Out
form_of verb.Let = of (Either (AreFour IsName IsOperand IsOperator IsOperand) (AreTwo IsName IsOperand)) let_line
form_of verb.If = of AreJump (λ x. line.If x.0 x.1 x.2 x.3)
form_of verb.Goto = of (AreOne IsName) line.Goto
form_of verb.In = of (AreOne IsName) line.In
form_of verb.Ask = of (AreOne IsName) line.Ask
form_of verb.Assert = of (AreThree IsOperand IsRelation IsOperand) (λ x. line.Assert x.0 x.1 x.2)
form_of verb.Fail = of AreNone (λ x. line.Fail)
form_of verb.Do = of (AreOne IsName) line.Do
form_of verb.Return = of AreNone (λ x. line.Return)

-- ---- a line's words are read as its form says

named : {n : List ℕ} → IsNameText n → IsName n n
named h = record { form = h; spelled = refl }

numbered : {n : Number} → HasNumberForm n → IsNumberWord (number_text n) n
numbered h = record { form = h; spelled = refl }

given : {e : SpelledOperand} → HasOperandForm e → IsOperand (operand_text e) e
given h = record { form = h; spelled = refl }

placed : {w : SpelledPlace} → HasPlaceForm w → IsPlace (place_text w) w
placed h = record { form = h; spelled = refl }

ones : {A : Type 0} {R : List ℕ → A → Type 0} {words : List (List ℕ)} {w : List ℕ} {x : A} → words ≡ w ∷ [] → R w x → AreOne R words x
ones {A} {R} {words} {w} e r = record { w = w; words_are = e; said = r }

twos : {A B : Type 0} {R : List ℕ → A → Type 0} {S : List ℕ → B → Type 0} {words : List (List ℕ)} {v w : List ℕ} {x : A × B}
    → words ≡ v ∷ w ∷ [] → R v x.0 → S w x.1 → AreTwo R S words x
twos {A} {B} {R} {S} {words} {v} {w} e r s = record { v = v; w = w; words_are = e; first = r; second = s }

threes : {A B C : Type 0} {R : List ℕ → A → Type 0} {S : List ℕ → B → Type 0} {T : List ℕ → C → Type 0} {words : List (List ℕ)}
    {u v w : List ℕ} {x : A × B × C} → words ≡ u ∷ v ∷ w ∷ [] → R u x.0 → S v x.1 → T w x.2 → AreThree R S T words x
threes {A} {B} {C} {R} {S} {T} {words} {u} {v} {w} e r s t = record { u = u; v = v; w = w; words_are = e; first = r; second = s; third = t }

fours : {A B C D : Type 0} {R : List ℕ → A → Type 0} {S : List ℕ → B → Type 0} {T : List ℕ → C → Type 0} {U : List ℕ → D → Type 0}
    {words : List (List ℕ)} {t u v w : List ℕ} {x : A × B × C × D} → words ≡ t ∷ u ∷ v ∷ w ∷ [] → R t x.0 → S u x.1 → T v x.2 → U w x.3
    → AreFour R S T U words x
fours {A} {B} {C} {D} {R} {S} {T} {U} {words} {t} {u} {v} {w} e p q r s =
    record { u = t; v = u; w = v; z = w; words_are = e; first = p; second = q; third = r; fourth = s }

abbrev Made : Option Verb → List (List ℕ) → SpelledLine → Type 0
Made None words l = ⊤
Made (Some v) words l = (x : (form_of v).Parts) × (form_of v).Reads words x × (l ≡ (form_of v).line x)

formed : (words : List (List ℕ)) (l : SpelledLine) → HasForm l → words ≡ arguments_of l → Made (verb_of l) words l
formed words line.Blank f s = tt
formed words (line.Label name) f s = tt
formed words (line.Registers names) f s = tt
formed words (line.Const a b) f s = ((a, b), twos s (named f.0) (numbered f.1), refl)
formed words (line.Word a b) f s = ((a, b), record { place = f.0; size = f.1; operand = f.2; value = f.3; spelled = s }, refl)
formed words (line.Counter a b) f s = ((a, b), record { place = f.0; size = f.1; operand = f.2; value = f.3; spelled = s }, refl)
formed words (line.Seats a b) f s = ((a, b), twos s (numbered f.0) (named f.1), refl)
formed words (line.Most a b) f s = ((a, b), twos s (named f.0) (numbered f.1), refl)
formed words (line.Apart a b) f s = ((a, b), twos s (named f.0) (named f.1), refl)
formed words (line.Passed a b) f s = ((a, b), twos s (named f.0) (numbered f.1), refl)
formed words (line.Finally a b c) f s =
    ((a, b, c), record { read = threes s (placed f.0) refl (given f.2); kept = (f.1, f.3) }, refl)
formed words (line.Load a b) f s = ((a, b), twos s (placed f.0) (named f.1), refl)
formed words (line.Store a b) f s = ((a, b), twos s (placed f.0) (given f.1), refl)
formed words (line.Swap a b c) f s = ((a, b, c), record { place = f.0; operand = f.1; register = f.2; spelled = s }, refl)
formed words (line.Add a b c) f s = ((a, b, c), record { place = f.0; operand = f.1; register = f.2; spelled = s }, refl)
formed words (line.Exchange a b c (Some d)) f s = (inl (a, b, c, d), fours s (placed f.0) (given f.1) (given f.2) (named f.3), refl)
formed words (line.Exchange a b c None) f s = (inr (a, b, c), threes s (placed f.0) (given f.1) (given f.2), refl)
formed words (line.Await a b c (Some d)) f s = (inl (a, b, c, d), fours s (placed f.0) refl (given f.1) (named f.2), refl)
formed words (line.Await a b c None) f s = (inr (a, b, c), threes s (placed f.0) refl (given f.1), refl)
formed words (line.Acquire a true) f s = (inl (a, record {}), twos s (placed f) refl, refl)
formed words (line.Acquire a false) f s = (inr a, ones s (placed f), refl)
formed words (line.Release a share.Handoff) f s = (inl (a, record {}), twos s (placed f.0) refl, refl)
formed words (line.Release a (share.Many b)) f s = (inr (inl (a, record {}, b)), threes s (placed f.0) refl (given f.1), refl)
formed words (line.Release a share.One) f s = (inr (inr a), ones s (placed f.0), refl)
formed words (line.Park a b) f s = ((a, b), twos s (placed f.0) (given f.1), refl)
formed words (line.Unpark a b) f s = ((a, b), twos s (placed f.0) (given f.1), refl)
formed words (line.Compute a b c d) f s = (inl (a, b, c, d), fours s (named f.0) (given f.1) refl (given f.2), refl)
formed words (line.Let a b) f s = (inr (a, b), twos s (named f.0) (given f.1), refl)
formed words (line.If a b c d) f s = ((a, b, c, d), record { first = f.0; second = f.1; label = f.2; spelled = s }, refl)
formed words (line.Assert a b c) f s = ((a, b, c), threes s (given f.0) refl (given f.1), refl)
formed words line.Fail f s = (tt, s, refl)
formed words line.Return f s = (tt, s, refl)
formed words (line.List a) f s = (a, ones s (named f), refl)
formed words (line.Section a) f s = (a, ones s (named f), refl)
formed words (line.Program a) f s = (a, ones s (named f), refl)
formed words (line.Ticket a) f s = (a, ones s (named f), refl)
formed words (line.Wait a) f s = (a, ones s (named f), refl)
formed words (line.One a) f s = (a, ones s (named f), refl)
formed words (line.All a) f s = (a, ones s (named f), refl)
formed words (line.Out a) f s = (a, ones s (named f), refl)
formed words (line.Goto a) f s = (a, ones s (named f), refl)
formed words (line.In a) f s = (a, ones s (named f), refl)
formed words (line.Ask a) f s = (a, ones s (named f), refl)
formed words (line.Do a) f s = (a, ones s (named f), refl)

-- ---- and what is read so is a line

two_texts : {words : List (List ℕ)} {v w a b : List ℕ} → words ≡ v ∷ w ∷ [] → v ≡ a → w ≡ b → words ≡ a ∷ b ∷ []
two_texts e p q = e ∙ (λ i. p i ∷ q i ∷ [])

three_texts : {words : List (List ℕ)} {u v w a b c : List ℕ} → words ≡ u ∷ v ∷ w ∷ [] → u ≡ a → v ≡ b → w ≡ c → words ≡ a ∷ b ∷ c ∷ []
three_texts e p q r = e ∙ (λ i. p i ∷ q i ∷ r i ∷ [])

four_texts : {words : List (List ℕ)} {t u v w a b c d : List ℕ} → words ≡ t ∷ u ∷ v ∷ w ∷ [] → t ≡ a → u ≡ b → v ≡ c → w ≡ d
    → words ≡ a ∷ b ∷ c ∷ d ∷ []
four_texts e p q r s = e ∙ (λ i. p i ∷ q i ∷ r i ∷ s i ∷ [])

lined : (v : Verb) (words : List (List ℕ)) (x : (form_of v).Parts) → (form_of v).Reads words x
    → (verb_of ((form_of v).line x) ≡ Some v) × HasForm ((form_of v).line x) × (words ≡ arguments_of ((form_of v).line x))
lined verb.Const words x r = (refl, (r.first.form, r.second.form), two_texts r.words_are r.first.spelled r.second.spelled)
lined verb.Word words x r = (refl, (r.place, r.size, r.operand, r.value), r.spelled)
lined verb.Counter words x r = (refl, (r.place, r.size, r.operand, r.value), r.spelled)
lined verb.Seats words x r = (refl, (r.first.form, r.second.form), two_texts r.words_are r.first.spelled r.second.spelled)
lined verb.Most words x r = (refl, (r.first.form, r.second.form), two_texts r.words_are r.first.spelled r.second.spelled)
lined verb.Apart words x r = (refl, (r.first.form, r.second.form), two_texts r.words_are r.first.spelled r.second.spelled)
lined verb.Passed words x r = (refl, (r.first.form, r.second.form), two_texts r.words_are r.first.spelled r.second.spelled)
lined verb.Finally words x r = (
  refl,
  (r.read.first.form, r.kept.0, r.read.third.form, r.kept.1),
  three_texts r.read.words_are r.read.first.spelled r.read.second r.read.third.spelled,
)
lined verb.Load words x r = (refl, (r.first.form, r.second.form), two_texts r.words_are r.first.spelled r.second.spelled)
lined verb.Store words x r = (refl, (r.first.form, r.second.form), two_texts r.words_are r.first.spelled r.second.spelled)
lined verb.Park words x r = (refl, (r.first.form, r.second.form), two_texts r.words_are r.first.spelled r.second.spelled)
lined verb.Unpark words x r = (refl, (r.first.form, r.second.form), two_texts r.words_are r.first.spelled r.second.spelled)
lined verb.Swap words x r = (refl, (r.place, r.operand, r.register), r.spelled)
lined verb.Add words x r = (refl, (r.place, r.operand, r.register), r.spelled)
lined verb.Exchange words (inl x) r = (
  refl,
  (r.first.form, r.second.form, r.third.form, r.fourth.form),
  four_texts r.words_are r.first.spelled r.second.spelled r.third.spelled r.fourth.spelled,
)
lined verb.Exchange words (inr x) r =
    (refl, (r.first.form, r.second.form, r.third.form, tt), three_texts r.words_are r.first.spelled r.second.spelled r.third.spelled)
lined verb.Await words (inl x) r = (
  refl,
  (r.first.form, r.third.form, r.fourth.form),
  four_texts r.words_are r.first.spelled r.second r.third.spelled r.fourth.spelled,
)
lined verb.Await words (inr x) r =
    (refl, (r.first.form, r.third.form, tt), three_texts r.words_are r.first.spelled r.second r.third.spelled)
lined verb.Acquire words (inl x) r = (refl, r.first.form, two_texts r.words_are r.first.spelled r.second)
lined verb.Acquire words (inr x) r = (refl, r.said.form, r.words_are ∙ (λ i. r.said.spelled i ∷ []))
lined verb.Release words (inl x) r = (refl, (r.first.form, tt), two_texts r.words_are r.first.spelled r.second)
lined verb.Release words (inr (inl x)) r =
    (refl, (r.first.form, r.third.form), three_texts r.words_are r.first.spelled r.second r.third.spelled)
lined verb.Release words (inr (inr x)) r = (refl, (r.said.form, tt), r.words_are ∙ (λ i. r.said.spelled i ∷ []))
lined verb.Let words (inl x) r = (
  refl,
  (r.first.form, r.second.form, r.fourth.form),
  four_texts r.words_are r.first.spelled r.second.spelled r.third r.fourth.spelled,
)
lined verb.Let words (inr x) r = (refl, (r.first.form, r.second.form), two_texts r.words_are r.first.spelled r.second.spelled)
lined verb.If words x r = (refl, (r.first, r.second, r.label), r.spelled)
lined verb.Assert words x r = (refl, (r.first.form, r.third.form), three_texts r.words_are r.first.spelled r.second r.third.spelled)
lined verb.Fail words x r = (refl, tt, r)
lined verb.Return words x r = (refl, tt, r)
lined verb.List words x r = (refl, r.said.form, r.words_are ∙ (λ i. r.said.spelled i ∷ []))
lined v words x r = (refl, r.said.form, r.words_are ∙ (λ i. r.said.spelled i ∷ []))

-- ---- so one is read as the other

pub read : (v : Verb) (words : List (List ℕ)) (o : Option (form_of v).Parts) → ReadsAs ((form_of v).Reads words) o
    → ReadsAs (AreArgumentsOf v words) (option_map (form_of v).line o)
read v words o h = is o h
  where
    of_line : (l : SpelledLine) → AreArgumentsOf v words l → Made (Some v) words l
    of_line l q = subst (λ (u : Option Verb). Made u words l) q.verb_is (formed words l q.form q.spelled)

    is : (o : Option (form_of v).Parts) → ReadsAs ((form_of v).Reads words) o → ReadsAs (AreArgumentsOf v words) (option_map (form_of v).line o)
    is None h = nothing (AreArgumentsOf v words) (λ l q. let k = of_line l q in none ((form_of v).Reads words) k.0 h k.1)
    is (Some x) h =
        let m = lined v words x (found ((form_of v).Reads words) x h) in
        one_of (AreArgumentsOf v words) ((form_of v).line x) (record { verb_is = m.0; form = m.1; spelled = m.2 }) (λ l q.
        let k = of_line l q in k.2 ∙ ap (form_of v).line (only ((form_of v).Reads words) x k.0 h k.1))
