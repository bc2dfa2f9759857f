-- What is printed of a journal that was judged.
use Rattle.std.specs.Prelude.{ℕ, List, ◌++◌, codes}
use Rattle.std.specs.Fmt.{decimal}
use Rattle.journal.specs.declared.judgement.Judgement.{Judgement}
use Rattle.journal.specs.declared.judgement.Judgement.TheVariants as judged
use Rattle.journal.specs.declared.lock_rule.LockRule.{LockRule}
use Rattle.journal.specs.declared.lock_rule.LockRule.TheVariants.{NotHeld, HeldByAnother}
use Rattle.journal.specs.declared.rule.Rule.{Rule}
use Rattle.journal.specs.declared.rule.Rule.TheVariants.{NoUnit, NotFirst, NotQueued, GrantedBefore}
use Rattle.journal.specs.declared.rule.Rule.TheVariants.{PassedBefore, GoneBefore, NotHandedOut}
use Rattle.journal.specs.declared.rule.Rule.TheVariants.{QueuedTwice, LeftTwice, NoRelease}
use Rattle.journal.specs.declared.verdict.Verdict.{Verdict}
use Rattle.journal.specs.declared.verdict.Verdict.TheVariants.{Lawful, Unlawful}

-- the words for each rule
abbrev pub rule_text : Rule → List ℕ
rule_text NoUnit = codes "no unit"
rule_text NotFirst = codes "not first"
rule_text NotQueued = codes "not queued"
rule_text GrantedBefore = codes "granted before"
rule_text PassedBefore = codes "passed before"
rule_text GoneBefore = codes "gone before"
rule_text NotHandedOut = codes "not handed out"
rule_text QueuedTwice = codes "queued twice"
rule_text LeftTwice = codes "left twice"
rule_text NoRelease = codes "no release"

-- the whole answer, without the byte that ends its line
abbrev pub verdict_text : Verdict → List ℕ
verdict_text Lawful = codes "lawful"
verdict_text (Unlawful line rule) =
    codes "unlawful: line " ++ (decimal line ++ (codes ": " ++ rule_text rule))

abbrev pub lock_rule_text : LockRule → List ℕ
lock_rule_text NotHeld = codes "not held"
lock_rule_text HeldByAnother = codes "held by another"

-- the whole answer where more is asked than the law
abbrev pub judgement_text : Judgement → List ℕ
judgement_text judged.Lawful = codes "lawful"
judgement_text (judged.Unlawful line rule) =
    codes "unlawful: line " ++ (decimal line ++ (codes ": " ++ rule_text rule))
judgement_text (judged.Misheld line rule) =
    codes "unlawful: line " ++ (decimal line ++ (codes ": " ++ lock_rule_text rule))
judgement_text (judged.LeftAsleep counter) = codes "left asleep: counter " ++ decimal counter
