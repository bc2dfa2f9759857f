-- A seat of words that threads share, as a crate above names it.
use Rattle.atomic_table.specs.declared.shared.Seat as tokens
use Rattle.running_rows.specs.declared.view.View.{View}

abbrev pub Token : Type 0 → Type 0 → Type 0 → Type 0
Token S V T = tokens.Seat S (View V T)
