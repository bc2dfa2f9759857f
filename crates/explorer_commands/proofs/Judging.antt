-- What went out of a journal's verdict, and what it tells.
use Rattle.std.proofs.Common.{◌≡◌, ℕ, List, Option, Result, Ok, Err, IfOk, inl, inr, refl, sym, subst}
use Rattle.std.specs.Prelude.{string_bytes, option_map}
use Rattle.waiters.specs.declared.no_memory.NoMemory.{NoMemory}
use Rattle.explorer_answers.specs.declared.exit.Exit.{Exit}
use Rattle.explorer_answers.specs.declared.reply.Reply.{Reply}
use Rattle.explorer_answers.specs.Reply.{answer_of, aside_of}
use Rattle.journal.specs.declared.judgement.Demands.{Demands}
use Rattle.journal.specs.declared.journal_fault.JournalFault.{JournalFault}
use Rattle.journal.specs.declared.journal_fault.JournalFault.TheVariants.{Form, NoMemory as Short}
use Rattle.journal.specs.Reader.{IsFault}
use Rattle.explorer_answers.specs.Told.{IsTextOf}
use Rattle.explorer_commands.specs.JudgeText.{IsJudgeInput, IsJudgeReplyOf, IsJudgeToldOf}
use Rattle.explorer_commands.specs.JudgeText.{RefusesFault, RepliesJudgement}

-- it was replied to an input
abbrev IsReplyTo : Demands → List ℕ → Reply → Type 0
IsReplyTo demands input reply = RepliesJudgement demands input (string_bytes reply.answer.text) reply.answer.exit (option_map string_bytes reply.aside)

-- a reply to all that was read, and what of it goes out
pub replies_judgement : (demands : Demands) (most : Option ℕ) (old new : Option (List ℕ)) (input : List ℕ) (r : Result Reply NoMemory)
    → IsJudgeInput most old new input → IfOk r (IsReplyTo demands input) → (aside : Option (List ℕ))
    → aside ≡ aside_of r → (text : List ℕ) (exit : Exit)
    → IsTextOf (answer_of r) text exit → IsJudgeReplyOf demands most old new aside text exit
replies_judgement demands most old new input (Ok reply) read h aside e text exit t =
    let beside = option_map string_bytes reply.aside in
    let P : List ℕ → Type 0 = λ x. RepliesJudgement demands input x exit beside in
    let Q : Exit → Type 0 = λ x. RepliesJudgement demands input (string_bytes reply.answer.text) x beside in
    inl (input, read, subst (RepliesJudgement demands input text exit) (sym e) (subst P (sym t.0) (subst Q (sym t.1) h)))
replies_judgement demands most old new input (Err x) read h aside e text exit t = inr (t, e)

-- its answer alone
pub tells_judgement : (demands : Demands) (most : Option ℕ) (old new : Option (List ℕ)) (input : List ℕ) (r : Result Reply NoMemory)
    → IsJudgeInput most old new input → IfOk r (IsReplyTo demands input)
    → (text : List ℕ) (exit : Exit) → IsTextOf (answer_of r) text exit → IsJudgeToldOf demands most old new text exit
tells_judgement demands most old new input r read h text exit t =
    elim (replies_judgement demands most old new input r read h (aside_of r) refl text exit t) [
      | inl told ↦ inl (told.0, told.1, (aside_of r, told.2))
      | inr short ↦ inr short.0
    ]

-- a refusal for a fault of the text is a reply to it
pub refuses_well : (demands : Demands) (input : List ℕ) (fault : JournalFault) (r : Result Reply NoMemory) → IsFault input fault
    → IfOk r (λ reply. RefusesFault input fault (string_bytes reply.answer.text) reply.answer.exit (option_map string_bytes reply.aside))
    → IfOk r (IsReplyTo demands input)
refuses_well demands input (Form n) (Ok a) told h = inl (n, (told.0 n).1 refl, h)
refuses_well demands input Short (Ok a) told h = absurd h
refuses_well demands input fault (Err e) told h = tt
