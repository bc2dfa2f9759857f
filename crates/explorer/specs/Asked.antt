-- What the program's words may ask for.
use Rattle.std.specs.Prelude.{◌≡◌, ◌≢◌, ◌⊎◌, ℕ, ◌≤◌, List, [], ◌∷◌, ◌++◌, Option, Some, None, IsSome, IfSome}
use Rattle.std.specs.Prelude.{Bool, false, option_map, string_bytes, codes}
use Rattle.std.specs.Borrow.{Bor}
use Rattle.std.specs.IoError.{error_kind}
use Rattle.std.specs.declared.io.Error.{Error}
use Rattle.std.specs.declared.io.ErrorKind.TheVariants.{OutOfMemory}
use Rattle.explorer_commands.specs.declared.command.Command.{Command}
use Rattle.explorer_commands.specs.declared.command.Command.TheVariants.{OnScenario, OnProgram}
use Rattle.explorer_commands.specs.declared.on_scenario.command.ScenarioCommand.TheVariants.{Explore, Check, Replay}
pub use Rattle.explorer_commands.specs.Threads.{AreWithin}
use Rattle.explorer_commands.specs.declared.on_program.command.ProgramCommand.TheVariants.{Try, Retrace}
use Rattle.explorer.specs.declared.file_fault.FileFault.{FileFault}
use Rattle.explorer.specs.FileFault.{fault_text}
use Rattle.explorer.specs.declared.invocation.Invocation.{Invocation}
use Rattle.explorer.specs.declared.invocation.Invocation.TheVariants.{OfText, Judge}
use Rattle.explorer.specs.declared.invocation.Invocation.TheVariants.{Threads}
use Rattle.explorer.specs.declared.invocation.Invocation.TheVariants.{Mistake, NoText}
use Rattle.explorer.specs.declared.invocation.Invocation.TheVariants.{NoMemory}

-- 1 to so many
abbrev pub IsFromOne : ℕ → ℕ → Type 0
IsFromOne most n = (1 ≤ n) × (n ≤ most)

-- at most 64 steps, and 1 to 1,000,000,000 worlds
abbrev pub IsWithin : Command → Type 0
IsWithin (OnScenario (Explore bounds table extras)) = (bounds.depth ≤ 64) × IsFromOne 1000000000 bounds.worlds
IsWithin (OnScenario (Check worlds every extras)) = IsFromOne 1000000000 worlds
IsWithin (OnScenario (Replay spelled table every drawn)) = Unit {0}
IsWithin (OnProgram (Try worlds aims layout counted live)) = IsFromOne 1000000000 worlds
IsWithin (OnProgram (Retrace spelled layout)) = Unit {0}

-- the numbers are within the limits of their command: 1 to 64 threads share a search, 1 to 1,000,000 lines
-- are judged
abbrev pub IsWithinLimits : Invocation → Type 0
IsWithinLimits (OfText command file answer threads) = IsWithin command × IsFromOne 64 threads
IsWithinLimits (Judge file demands most) = IfSome most (IsFromOne 1000000)
IsWithinLimits (Threads workers rounds) = AreWithin workers rounds
IsWithinLimits _ = Unit {0}

-- words that couldn't be read for this reason: memory was short, or one is no text
abbrev pub IsWithoutWords : Error → Invocation → Type 0
IsWithoutWords error NoMemory = error_kind error ≡ OutOfMemory
IsWithoutWords error NoText = error_kind error ≢ OutOfMemory
IsWithoutWords error _ = ⊥

-- of a file that can't be read this alone is told; or memory was short
abbrev pub IsWithoutFile : List ℕ → FileFault → Invocation → Type 0
IsWithoutFile name fault (Mistake told) =
    string_bytes told ≡ codes "parklot: cannot read "
    ++ (name ++ (codes ": " ++ (fault_text fault ++ 10 ∷ [])))
IsWithoutFile name fault NoMemory = Unit {0}
IsWithoutFile name fault _ = ⊥

-- the name of the file that is read in place of standard input
abbrev pub file_of : Invocation → Option (List ℕ)
file_of (OfText command file answer threads) = option_map (λ name. name.now) file
file_of (Judge file demands most) = option_map (λ name. name.now) file
file_of _ = None

-- `-` is no file's name, but standard input
abbrev pub NamesNoInput : Invocation → Type 0
NamesNoInput asked = file_of asked ≢ Some (codes "-")

-- the file of this name, or none where that is standard input
abbrev pub IsFileNamed : Option (Bor (List ℕ)) → Option (Bor (List ℕ)) → Type 0
IsFileNamed name file =
    (option_map (λ text. text.now) file ≢ Some (codes "-"))
    × ((file ≡ name) ⊎ (option_map (λ text. text.now) name ≡ Some (codes "-")))

-- the name of the answer whose schedule is replayed or retraced
abbrev pub answer_named : Invocation → Option (List ℕ)
answer_named (OfText command file answer threads) = option_map (λ name. name.now) answer
answer_named _ = None

-- standard input has one text at most: where it has the answer, the scenario or lock program stands in a file
abbrev pub ReadsInputOnce : Invocation → Type 0
ReadsInputOnce asked = answer_named asked ≡ Some (codes "-") → IsSome (file_of asked)

-- the same with the schedule that its answer has told, where a replay or a retrace is asked for
abbrev pub with_schedule : Invocation → Bor (List ℕ) → Invocation
with_schedule (OfText (OnScenario (Replay spelled table every drawn)) file answer threads) schedule =
    OfText (OnScenario (Replay schedule table every drawn)) file None threads
with_schedule (OfText (OnProgram (Retrace spelled layout)) file answer threads) schedule =
    OfText (OnProgram (Retrace schedule layout)) file None threads
with_schedule asked schedule = asked

-- it is to be told how far a search has come, while it runs
abbrev pub is_live : Command → Bool
is_live (OnScenario (Explore bounds table extras)) = extras.live
is_live (OnScenario (Check worlds every extras)) = extras.live
is_live (OnProgram (Try worlds aims layout counted live)) = live
is_live _ = false

abbrev pub is_watched : Invocation → Bool
is_watched (OfText command file answer threads) = is_live command
is_watched _ = false
