-- The first words of lines, but for `register`, behind which stands any number of names.
use Rattle.std.specs.Prelude.{◌≡◌, ℕ, List, codes}
use Rattle.program_text.specs.declared.reader.verb.Verb.{Verb}
use Rattle.program_text.specs.declared.reader.verb.Verb.TheVariants as verb

-- how a verb is spelled
abbrev pub verb_text : Verb → List ℕ
verb_text verb.Const = codes "const"
verb_text verb.Word = codes "word"
verb_text verb.Counter = codes "counter"
verb_text verb.List = codes "list"
verb_text verb.Section = codes "section"
verb_text verb.Program = codes "program"
verb_text verb.Seats = codes "seats"
verb_text verb.Most = codes "most"
verb_text verb.Apart = codes "apart"
verb_text verb.Passed = codes "passed"
verb_text verb.Finally = codes "finally"
verb_text verb.Load = codes "load"
verb_text verb.Store = codes "store"
verb_text verb.Swap = codes "swap"
verb_text verb.Add = codes "add"
verb_text verb.Exchange = codes "exchange"
verb_text verb.Await = codes "await"
verb_text verb.Acquire = codes "acquire"
verb_text verb.Release = codes "release"
verb_text verb.Ticket = codes "ticket"
verb_text verb.Wait = codes "wait"
verb_text verb.One = codes "one"
verb_text verb.All = codes "all"
verb_text verb.Park = codes "park"
verb_text verb.Unpark = codes "unpark"
verb_text verb.Out = codes "out"
verb_text verb.Let = codes "let"
verb_text verb.If = codes "if"
verb_text verb.Goto = codes "goto"
verb_text verb.In = codes "in"
verb_text verb.Ask = codes "ask"
verb_text verb.Assert = codes "assert"
verb_text verb.Fail = codes "fail"
verb_text verb.Do = codes "do"
verb_text verb.Return = codes "return"

-- the word is the verb's spelling
abbrev pub IsVerb : List ℕ → Verb → Type 0
IsVerb word v = word ≡ verb_text v
