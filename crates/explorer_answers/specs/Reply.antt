-- The parts of a reply.
use Rattle.std.specs.Prelude.{ℕ, List, Option, None, Result, Ok, Err, option_map, string_bytes}
use Rattle.waiters.specs.declared.no_memory.NoMemory.{NoMemory}
use Rattle.explorer_answers.specs.declared.answer.Answer.{Answer}
use Rattle.explorer_answers.specs.declared.reply.Reply.{Reply}

-- where there is one
abbrev pub answer_of : Result Reply NoMemory → Result Answer NoMemory
answer_of (Ok reply) = Ok reply.answer
answer_of (Err e) = Err e

abbrev pub aside_of : Result Reply NoMemory → Option (List ℕ)
aside_of (Ok reply) = option_map string_bytes reply.aside
aside_of (Err e) = None
