-- How the program ends with what a command left.
use Rattle.std.proofs.Common.{◌≡◌, Result, Ok, Err, IfOk, Bool, false, true, refl, sym, ◌∙◌}
use Rattle.std.specs.Prelude.{IsTrue, ◌↔◌}
use Rattle.explorer_answers.specs.declared.fault.IoFault.{IoFault}
use Rattle.explorer_answers.specs.declared.fault.IoFault.TheVariants.{Read, Write}
use Rattle.explorer_answers.specs.declared.reply.Answered.{Answered}

false_true : false ≡ true → ⊥
false_true e = absurd cc

-- where neither failed the command has ended
pub ended : (P : Answered → Type 0) (outcome : Result Answered IoFault) (read_failed write_failed : Bool)
    → ((outcome ≡ Err Read) ↔ IsTrue read_failed) → ((outcome ≡ Err Write) ↔ IsTrue write_failed)
    → read_failed ≡ false → write_failed ≡ false → IfOk outcome P → (told : Answered) × (outcome ≡ Ok told) × P told
ended P (Ok told) r w reads writes e f p = (told, refl, p)
ended P (Err Read) r w reads writes e f p = let t = reads.0 refl in absurd (false_true (sym e ∙ t))
ended P (Err Write) r w reads writes e f p = let t = writes.0 refl in absurd (false_true (sym f ∙ t))
