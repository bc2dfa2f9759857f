-- Each verb has a spelling of its own.
use Rattle.std.proofs.Common.{◌≡◌, ◌≢◌, ℕ, suc, ◌<◌, true, false, cond, List, [], ◌∷◌, ◌++◌, length, get_or, Option, Some, None}
use Rattle.std.proofs.Common.{refl, sym, ap, ◌∙◌, arith}
use Rattle.std.specs.Prelude.{codes}
use Rattle.std.specs.Option.{MatchOption}
use Rattle.std.specs.Str.{bytes_eq}
use Rattle.std.proofs.Math.Dec.{ltb}
use Rattle.std.proofs.lemmas.Bool.{ltb-true}
use Rattle.scenario_text.specs.Phrases.{ReadsAs}
use Rattle.scenario_text.proofs.Joined.{has, has_in}
use Rattle.scenario_text.proofs.Parts.{nothing, one}
use Rattle.program_text.specs.declared.reader.verb.Verb.{Verb}
use Rattle.program_text.specs.declared.reader.verb.Verb.TheVariants as verb
use Rattle.program_text.specs.Verb.{verb_text, IsVerb}

abbrev pub verbs : List Verb
verbs =
    verb.Const ∷ verb.Word ∷ verb.Counter ∷ verb.List ∷ verb.Section ∷ verb.Program ∷ verb.Seats ∷ verb.Most ∷ verb.Apart ∷ verb.Passed
    ∷ verb.Finally ∷ verb.Load ∷ verb.Store ∷ verb.Swap ∷ verb.Add ∷ verb.Exchange ∷ verb.Await ∷ verb.Acquire ∷ verb.Release
    ∷ verb.Ticket ∷ verb.Wait ∷ verb.One ∷
    verb.All ∷ verb.Park ∷ verb.Unpark ∷ verb.Out ∷ verb.Let ∷ verb.If ∷ verb.Goto ∷ verb.In ∷ verb.Ask
    ∷ verb.Assert ∷ verb.Fail ∷ verb.Do ∷ verb.Return ∷ []

-- which verb the text spells
index : List ℕ → List Verb → ℕ
index text [] = 0
index text (v ∷ vs) = cond (bytes_eq text (verb_text v)) 0 (suc (index text vs))

-- a verb stands where its own spelling leads, and there is no colon in it
known : (v : Verb)
    → (ltb (index (verb_text v) verbs) 35 ≡ true) × (get_or verbs (index (verb_text v) verbs) verb.Const ≡ v) × (has 58 (verb_text v) ≡ false)
unfolding index
known verb.Const = (refl, refl, refl)
known v = (refl, refl, refl)

rank : Verb → ℕ
rank v = index (verb_text v) verbs

below : (v : Verb) → rank v < 35
unfolding rank
below v = ltb-true (index (verb_text v) verbs) 35 (known v).0

past_register : index (codes "register") verbs ≡ 35
unfolding index
past_register = refl

pub verb_one : (v w : Verb) → verb_text v ≡ verb_text w → v ≡ w
verb_one v w e = sym (known v).1 ∙ ap (λ (t : List ℕ). get_or verbs (index t verbs) verb.Const) e ∙ (known w).1

-- no verb is spelled so
pub no_register : (v : Verb) → codes "register" ≡ verb_text v → ⊥
unfolding rank
no_register v e =
    let same : index (codes "register") verbs ≡ index (verb_text v) verbs = ap (λ (t : List ℕ). index t verbs) e in
    let past : index (codes "register") verbs ≡ 35 = past_register in
    omega (arith, below v)

pub no_colon : (name : List ℕ) (v : Verb) → name ++ codes ":" ≡ verb_text v → ⊥
no_colon name v e = let there : has 58 (name ++ codes ":") ≡ true = has_in 58 name [] in
    let free : has 58 (name ++ codes ":") ≡ false = ap (has 58) e ∙ (known v).2 in absurd cc

pub verb_found : (word : List ℕ) (v : Verb) → word ≡ verb_text v → ReadsAs (IsVerb word) (Some v)
verb_found word v e = one (IsVerb word) v e (λ w q. verb_one w v (sym q ∙ e))

pub verb_none : (word : List ℕ) → ((k : ℕ) → k < length verbs → word ≢ verb_text (get_or verbs k verb.Const)) → ReadsAs (IsVerb word) None
unfolding rank
verb_none word h = nothing (IsVerb word) (λ v q. h (rank v) (omega (arith, below v)) (q ∙ ap verb_text (sym (known v).1)))

pub verb_read : (word : List ℕ) (o : Option Verb) → MatchOption o ((k : ℕ) → k < length verbs
    → word ≢ verb_text (get_or verbs k verb.Const)) (λ v. word ≡ verb_text v) → ReadsAs (IsVerb word) o
verb_read word None h = verb_none word h
verb_read word (Some v) h = verb_found word v h
