-- What a command on the text of a scenario replies: what it answers, and what it tells beside.
use Rattle.std.specs.Prelude.{◌≡◌, ℕ, ◌<◌, ◌≤◌, ◌⊎◌, List, ◌++◌, Option, Some, None, Bool}
use Rattle.std.specs.Prelude.{true, false, [], length, codes}
use Rattle.step_law_alike.specs.declared.variant.Variant.{Variant}
use Rattle.search.specs.declared.extent.Searched.{Searched}
use Rattle.search.specs.declared.found.Found.{Found}
use Rattle.search.specs.declared.found_in_all.FoundInAll.{FoundInAll}
use Rattle.scenario_text.specs.declared.read_fault.ReadFault.{ReadFault}
use Rattle.scenario_text.specs.declared.request.SpelledRequest.{SpelledRequest}
use Rattle.scenario_text.specs.FaultTexts.{read_fault_text}
use Rattle.scenario_text.specs.ScenarioText.{IsRequestOf, IsFaultOf}
use Rattle.scenario_text.specs.ScheduleText.{IsSchedule}
use Rattle.scenario_search.specs.declared.asked_property.AskedProperty.TheVariants.{One}
use Rattle.scenario_search.specs.declared.bounds.Bounds.{Bounds}
use Rattle.explorer_commands.specs.declared.on_scenario.command.ScenarioCommand.{ScenarioCommand}
use Rattle.explorer_commands.specs.declared.on_scenario.command.ScenarioCommand.TheVariants.{Explore, Check, Replay}
use Rattle.explorer_answers.specs.declared.extras.Extras.{Extras}
use Rattle.explorer_answers.specs.declared.exit.Exit.{Exit}
use Rattle.scenario_search.specs.declared.kind.Kind.{Kind}
use Rattle.explorer_answers.specs.declared.refusal.Refusal.TheVariants as refusal
use Rattle.scenario_search.specs.Bad.{asked_with}
use Rattle.explorer_answers.specs.Aside.{beside_search, counted_text, counted_in_all_text}
use Rattle.explorer_answers.specs.CheckText.{found_in_all_text, found_in_all_exit, found_in_all_schedule}
use Rattle.explorer_answers.specs.FoundText.{found_text, found_exit, found_schedule}
use Rattle.explorer_commands.specs.FailedText.{beside_replay}
use Rattle.scenario_search.specs.Extent.{IsSearched, IsSearchedInAll}
use Rattle.explorer_answers.specs.InputText.{Refuses}
use Rattle.explorer_answers.specs.Refusal.{IsHelped}
use Rattle.explorer_commands.specs.ReplayText.{IsReplay}
use Rattle.explorer_answers.specs.StatsText.{found_stats, in_all_stats}

-- the depth of a search that has one is at most 64
abbrev pub IsWithinDepth : ScenarioCommand → Type 0
IsWithinDepth (Explore bounds table extras) = bounds.depth ≤ 64
IsWithinDepth _ = Unit {0}

-- ---- a search

-- behind the answer, where that is asked for: the replay of the schedule that was found, drawn as a table
abbrev pub IsDrawn : Bool → Option Variant → Bool → SpelledRequest → Option (List ℕ) → List ℕ → Type 0
IsDrawn false table every request found drawn = drawn ≡ []
IsDrawn true table every request None drawn = drawn ≡ []
IsDrawn true table every request (Some schedule) drawn =
    (exit : Exit) × IsReplay true table (asked_with every request.property) request.parts schedule drawn exit

-- what is replied to a request: what is found up to this depth and among so many worlds, by the step table or
-- a changed one
pub record RepliesFound (table : Option Variant) (bounds : Bounds) (extras : Extras) (request : SpelledRequest)
    (text : List ℕ) (exit : Exit)
    (aside : Option (List ℕ)) : Type 0 where
  pub searched : Searched (Found Kind)
  pub right : IsSearched table (One request.property) request.parts bounds.depth bounds.worlds searched
  pub drawn : List ℕ
  pub is_drawn : IsDrawn extras.drawn table false request (found_schedule searched.found) drawn
  pub told : text ≡ found_text bounds.depth searched.found ++ drawn
  pub exit_is : exit ≡ found_exit searched.found
  pub millis : ℕ
  pub beside : aside ≡ beside_search (One request.property) exit
      (counted_text extras.counted (found_stats searched bounds.worlds millis))

-- what is replied to a request: what is found in all schedules, among so many worlds at most, where every
-- property is asked or that of the text alone
pub record RepliesFoundInAll (most : ℕ) (every : Bool) (extras : Extras) (request : SpelledRequest) (text : List ℕ)
    (exit : Exit) (aside : Option (List ℕ)) : Type 0 where
  pub searched : Searched (FoundInAll Kind)
  pub right : IsSearchedInAll None (asked_with every request.property) request.parts most searched
  pub drawn : List ℕ
  pub is_drawn : IsDrawn extras.drawn None every request (found_in_all_schedule searched.found) drawn
  pub told : text ≡ found_in_all_text most searched.extent.counted searched.found ++ drawn
  pub exit_is : exit ≡ found_in_all_exit searched.found
  pub millis : ℕ
  pub beside : aside ≡ beside_search (asked_with every request.property) exit
      (counted_in_all_text extras.counted (in_all_stats searched most millis))

-- ---- a replay

-- what is replied to a request, with the text of a schedule: that it is none, and what one is; or what it
-- does, and beside that the seats that failed
abbrev pub RepliesReplay : Bool → Option Variant → Bool → List ℕ → SpelledRequest → List ℕ → Exit → Option (List ℕ)
    → Type 0
RepliesReplay drawn table every spelled request text exit aside =
    (((schedule : List ℕ) → IsSchedule spelled schedule → ⊥) × Refuses (codes "schedule") text exit
    × IsHelped [] refusal.Schedule aside)
    ⊎ ((schedule : List ℕ) × IsSchedule spelled schedule
    × IsReplay drawn table (asked_with every request.property) request.parts schedule text exit
    × (aside ≡ beside_replay table request.parts schedule exit))

-- ---- the whole

-- what the command replies to a request
abbrev pub RepliesToRequest : ScenarioCommand → SpelledRequest → List ℕ → Exit → Option (List ℕ) → Type 0
RepliesToRequest (Explore bounds table extras) = RepliesFound table bounds extras
RepliesToRequest (Check worlds every extras) = RepliesFoundInAll worlds every extras
RepliesToRequest (Replay spelled table every drawn) = RepliesReplay drawn table every spelled.now

-- what it replies to a text: its fault, and what is wrong there; or what it replies to its request
abbrev pub RepliesToScenario : ScenarioCommand → List ℕ → List ℕ → Exit → Option (List ℕ) → Type 0
RepliesToScenario command input text exit aside =
    ((fault : ReadFault) × IsFaultOf input fault × Refuses (read_fault_text fault) text exit
    × IsHelped input (refusal.Faulty fault) aside)
    ⊎ ((request : SpelledRequest) × IsRequestOf input request × RepliesToRequest command request text exit aside)

-- what it replies to an input: that it is longer than a text may be, or what it replies to the text
abbrev pub RepliesOnScenario : ScenarioCommand → List ℕ → List ℕ → Exit → Option (List ℕ) → Type 0
RepliesOnScenario command input text exit aside =
    ((65536 < length input) × Refuses (codes "too long") text exit × IsHelped input refusal.TooLong aside)
    ⊎ ((length input ≤ 65536) × RepliesToScenario command input text exit aside)
