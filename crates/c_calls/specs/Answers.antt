-- What a call of a seat answers to a caller outside Rattle: the code of an answer, which means what the table or
-- the list promises by that answer. S is what a seat is there, and R why a call is refused.
use Rattle.std.specs.Prelude.{◌≡◌, ◌≢◌, ℕ, ◌⊎◌, ◌<◌, Option, Some, None, Result, IfOk, List, length, take}
use Rattle.arrayvec.specs.ArrayVec.{ArrayVec}
use Rattle.sema_table.specs.declared.answers.Wake.{Wake}
use Rattle.sema_table.specs.declared.answers.Wake.TheVariants.{Nobody, One, Handed}
use Rattle.c_calls.specs.Codes.{code_of, IsDone}

-- what a call is, by the seat before it, its answer, and the seat after it
abbrev pub Call : Type 0 → Type 0 → Type 0 → Type 1
Call S R X = S → Result X R → S → Type 0

-- the handle has no seat, and so it stays; or its seat s was called, the code is that of the call's answer, and
-- the handle has the seat as it stands after the call
abbrev pub Answers : {S R X : Type 0} → (R → ℕ) → (X → ℕ) → Call S R X → Option S → ℕ → Option S → Type 0
Answers refused code call None n now = (n ≡ 100) × (now ≡ None)
Answers {S} {R} {X} refused code call (Some s) n now =
    (a : Result X R) × (t : S) × (n ≡ code_of refused code a) × (now ≡ Some t) × call s a t

-- the call, whose answer is told beside its code where it is done
abbrev pub Telling : {S R X : Type 0} → (X → Type 0) → Call S R X → Call S R X
Telling Told call s a t = call s a t × IfOk a Told

-- what a call tells beside its code it writes with such a code only: with another it stays as it was
abbrev pub WritesOnlyWith : {X : Type 0} → (ℕ → Type 0) → ℕ → X → X → Type 0
WritesOnlyWith Tells code before now = Tells code ⊎ (now ≡ before)

-- the numbers of seats and how many they are it writes where all were woken
abbrev pub WritesSeats : ℕ → List ℕ → List ℕ → ℕ → ℕ → Type 0
WritesSeats code before now count counted = WritesOnlyWith IsDone code before now × WritesOnlyWith IsDone code count counted

-- n is the number of the seat that was woken, if one was
abbrev pub NamesWoken : ℕ → Wake → Type 0
NamesWoken n Nobody = Unit {0}
NamesWoken n (One w) = n ≡ w.seat
NamesWoken n (Handed w) = n ≡ w.seat

-- n numbers are told, which are these
abbrev pub NamesEach : List ℕ → ℕ → ArrayVec ℕ → Type 0
NamesEach written n seats = (n ≡ length seats.items) × (take n written ≡ seats.items)

-- so many numbers can't be told for sure: the handle has a seat or none, as it had before
abbrev pub LacksRoom : {S : Type 0} → List ℕ → Option S → ℕ → Option S → Type 0
LacksRoom room before code now = (code ≡ 107) × (length room < 256) × (now ≡ before)

-- the seat's own number is told
abbrev pub TellsNumber : {S : Type 0} → (S → ℕ) → Option S → ℕ → ℕ → Type 0
TellsNumber number None code n = code ≡ 100
TellsNumber number (Some s) code n = (code ≡ 0) × (n ≡ number s)

-- a seat may be freed that rests between two calls
abbrev pub MayLeave : {S G : Type 0} → (S → G) → G → Option S → ℕ → Type 0
MayLeave stage rest None code = code ≡ 100
MayLeave stage rest (Some s) code = ((code ≡ 0) × (stage s ≡ rest)) ⊎ ((code ≡ 101) × (stage s ≢ rest))

-- there is no seat any more; or it may not be freed, and is as it was
abbrev pub Frees : {S G : Type 0} → (S → G) → G → Option S → ℕ → Option S → Type 0
Frees stage rest before code now =
    MayLeave stage rest before code × (((code ≡ 0) × (now ≡ None)) ⊎ ((0 < code) × (now ≡ before)))
