-- One stride of a seat.
use Rattle.std.proofs.Common.{◌≡◌, ℕ, List, sym, ap}
use Rattle.step_table.specs.declared.place.Acquire.{Acquire}
use Rattle.step_table.specs.declared.place.AcquireRow.TheVariants.{Parked}
use Rattle.step_table.specs.declared.place.ParkedRow.TheVariants.{D3, D5}
use Rattle.step_table.specs.declared.place.Place.{Place}
use Rattle.step_table.specs.declared.place.Place.TheVariants.{Acquiring}
use Rattle.running_rows.specs.Table.{Step}
use Rattle.step_table.specs.declared.word.Word.{Word}
use Rattle.step_table.specs.Path.{Deed, runs}
use Rattle.running_rows.specs.Strides.{Went, here}
use Rattle.running_rows.proofs.Telling.{went_from}
use Rattle.sema_table.specs.declared.view.Known.{Known}
use Rattle.sema_table.specs.declared.view.Record.{Record}
use Rattle.sema_table.specs.Rows.{Me, SemaSeat, SemaView, semaphore_rows}
use Rattle.sema_table.specs.Starts.{begin, stays, at_stay}

abbrev pub Strode : (Known → Known) → Deed Word → SemaSeat → ℕ → SemaSeat → Type 0
Strode at deed u n w = Went semaphore_rows at deed u n w

-- a row
abbrev pub Ran : (Known → Known) → SemaSeat → ℕ → SemaSeat → Type 0
Ran at u n w = Went semaphore_rows at runs u n w

pub stands_here : (u : SemaSeat) (from : Place) → u.knows.place ≡ from → u.knows ≡ begin from u.knows
stands_here u from at i = record u.knows { place = at i }

-- from where it stood, and the other way
abbrev pub strode_at : (deed : Deed Word) (u w : SemaSeat) (from : Place) (n : ℕ) → u.knows.place ≡ from
    → Strode here deed u n w → Strode (begin from) deed u n w
strode_at deed u w from n at = went_from semaphore_rows here (begin from) u w n (stands_here u from at)

abbrev pub ran_at : (u w : SemaSeat) (from : Place) (n : ℕ) → u.knows.place ≡ from → Ran here u n w → Ran (begin from) u n w
ran_at = strode_at runs

abbrev pub ran_here : (u w : SemaSeat) (from : Place) (n : ℕ) → u.knows.place ≡ from → Ran (begin from) u n w → Ran here u n w
ran_here u w from n at = went_from semaphore_rows (begin from) here u w n (sym (stands_here u from at))

-- of a seat that may leave and sleeps on after all
staying : (u : SemaSeat) (a : Acquire) (turn : ℕ) (st : Step Record) → u.knows.place ≡ Acquiring a (Parked turn D3)
    → at_stay st u.knows ≡ begin (Acquiring a (Parked turn D5)) u.knows
staying u a turn st at = ap (λ (q : Place). begin (stays q) u.knows) at

pub ran_stay : (u w : SemaSeat) (a : Acquire) (turn n : ℕ) (st : Step Record) → u.knows.place ≡ Acquiring a (Parked turn D3)
    → Ran (begin (Acquiring a (Parked turn D5))) u n w → Ran (at_stay st) u n w
ran_stay u w a turn n st at = went_from semaphore_rows (begin (Acquiring a (Parked turn D5))) (at_stay st) u w n (sym (staying u a turn st at))

pub ran_stayed : (u w : SemaSeat) (a : Acquire) (turn n : ℕ) (st : Step Record) → u.knows.place ≡ Acquiring a (Parked turn D3)
    → Ran (at_stay st) u n w → Ran (begin (Acquiring a (Parked turn D5))) u n w
ran_stayed u w a turn n st at = went_from semaphore_rows (at_stay st) (begin (Acquiring a (Parked turn D5))) u w n (staying u a turn st at)

-- the slots that a token holds then
pub slots_are : {v : SemaView} {t : Me} {slots : List (ℕ × Record)} → t ≡ (v, slots) → t.1 ≡ slots
slots_are e = ap (λ (m : Me). m.1) e
