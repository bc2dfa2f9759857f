-- Numbers of seats with a space between them.
use Rattle.std.proofs.Common.{◌≡◌, ℕ, ◌<◌, ◌≤◌, true, false, List, [], ◌∷◌, ◌++◌, length, Some, None, Bor, refl, sym, ap, subst}
use Rattle.std.proofs.Common.{◌∙◌, append_assoc, arith, inr}
use Rattle.std.specs.List.{AllByRecursion}
use Rattle.std.specs.Fmt.{decimal}
use Rattle.std.proofs.lemmas.List.{length-append}
use Rattle.std.proofs.lemmas.Str.Pattern.{IsSplitOnceResult, split_after, split_parts}
use Rattle.scenario_text.specs.Phrases.{ReadsAs, IsNumber}
use Rattle.scenario_text.specs.ScheduleText.{IsSchedule, SpellsSeats, IsShortNumber, schedule_text}
use Rattle.scenario_text.proofs.Numbers.{first_decimal}
use Rattle.scenario_text.proofs.Parts.{nothing, one, found, only, none, lacks}
use Rattle.scenario_text.proofs.Joined.{has, has_in, number_has}

-- one seat or more, however many
pub record AreSeats (text seats : List ℕ) : Type 0 where
  pub some : 0 < length seats
  pub short : AllByRecursion IsShortNumber seats
  pub spelled : text ≡ schedule_text seats

-- ---- one seat more or the last

-- the seats of a text in which a space stands
first_seat : (rest : List ℕ) (x : Bor (List ℕ) × Bor (List ℕ)) → IsSplitOnceResult 32 rest (Some x) → (seats : List ℕ) → AreSeats rest seats
    → (seat : ℕ) × (more : List ℕ) × (seats ≡ seat ∷ more) × IsNumber 2 x.0.now seat × AreSeats x.1.now more
first_seat rest x h [] p = absurd (omega (arith, p.some))
first_seat rest x h (c ∷ []) p =
    let s = split_parts 32 rest (Some x) h (omega arith) in
    let e : has 32 rest ≡ true = ap (has 32) s.0 ∙ has_in 32 x.0.now x.1.now in
    let f : has 32 rest ≡ false = ap (has 32) p.spelled ∙ number_has 32 c (omega (arith, p.short)) (inr (omega arith)) in absurd cc
first_seat rest x h (c ∷ d ∷ ds) p =
    let s = split_after 32 rest (decimal c) (schedule_text (d ∷ ds)) (Some x) h (omega arith) p.spelled
    (lacks c 32 (omega (arith, p.short)) (inr (omega arith))) in
    (c, d ∷ ds, refl, (p.short.0, s.0), record { some = omega arith; short = p.short.1; spelled = s.1 })

more_seats : (rest first after : List ℕ) (c : ℕ) (ds : List ℕ) → rest ≡ first ++ (32 ∷ after) → IsNumber 2 first c
    → AreSeats after ds → AreSeats rest (c ∷ ds)
more_seats rest first after c [] e p q = absurd (omega (arith, q.some))
more_seats rest first after c (d ∷ ds) e p q =
    record {
      some = omega arith;
      short = (p.0, q.short);
      spelled = e ∙ ap (λ (x : List ℕ). x ++ (32 ∷ after)) p.1 ∙ ap (λ (x : List ℕ). decimal c ++ (32 ∷ x)) q.spelled;
    }

-- the seat of a text without one
last_seat : (rest : List ℕ) → IsSplitOnceResult 32 rest None → (seats : List ℕ) → AreSeats rest seats → (seat : ℕ)
    × (seats ≡ seat ∷ []) × IsNumber 2 rest seat
last_seat rest h [] p = absurd (omega (arith, p.some))
last_seat rest h (c ∷ []) p = (c, refl, (p.short.0, p.spelled))
last_seat rest h (c ∷ d ∷ ds) p =
    absurd (split_after 32 rest (decimal c) (schedule_text (d ∷ ds)) None h (omega arith) p.spelled (lacks c 32 (omega (arith, p.short)) (inr (omega arith))))

-- ---- the loop

-- the seats of the text are those in front, and then those of the rest
pub record SoFar (text rest front : List ℕ) : Type 0 where
  pub to : (seats : List ℕ) → AreSeats rest seats → AreSeats text (front ++ seats)
  pub from : (all : List ℕ) → AreSeats text all → (seats : List ℕ) × (all ≡ front ++ seats) × AreSeats rest seats

pub begins : (text : List ℕ) → SoFar text text []
begins text = record { to = λ seats p. p; from = λ all p. (all, refl, p) }

pub turn : (text rest after front : List ℕ) (x : Bor (List ℕ) × Bor (List ℕ)) (c : ℕ) → SoFar text rest front → IsSplitOnceResult 32 rest (Some x)
    → ReadsAs (IsNumber 2 x.0.now) (Some c) → x.1.now ≡ after
    → SoFar text after (front ++ (c ∷ []))
turn text rest after front x c so h reads e = record {
  to = λ seats p.
      let s = split_parts 32 rest (Some x) h (omega arith) in
      let q = so.to (c ∷ seats) (more_seats rest x.0.now after c seats (s.0 ∙ ap (λ (y : List ℕ). x.0.now ++ (32 ∷ y)) e)
      (found (IsNumber 2 x.0.now) c reads) p) in
      subst (AreSeats text) (sym (append_assoc front (c ∷ []) seats)) q;
  from = λ all p.
      let g = so.from all p in
      let f = first_seat rest x h g.0 g.2 in
      let same : f.0 ≡ c = only (IsNumber 2 x.0.now) c f.0 reads f.3 in (
        f.1,
        g.1 ∙ ap (λ (y : List ℕ). front ++ y) (f.2 ∙ ap (λ (y : ℕ). y ∷ f.1) same) ∙ sym (append_assoc front (c ∷ []) f.1),
        subst (λ (y : List ℕ). AreSeats y f.1) e f.4,
      );
}

-- ---- what is answered

no_seats : (text : List ℕ) → 0 < length text → ((seats : List ℕ) → AreSeats text seats → ⊥) → ReadsAs (SpellsSeats text) None
no_seats text some other = nothing (SpellsSeats text) (λ seats p. refuse seats p)
  where
    refuse : (seats : List ℕ) → SpellsSeats text seats → ⊥
    refuse [] p = omega (arith, ap length p.spelled)
    refuse (c ∷ cs) p = other (c ∷ cs) (record { some = omega arith; short = p.short; spelled = p.spelled })

pub no_first : (text rest front : List ℕ) (x : Bor (List ℕ) × Bor (List ℕ)) → 0 < length text → SoFar text rest front
    → IsSplitOnceResult 32 rest (Some x) → ReadsAs (IsNumber 2 x.0.now) None → ReadsAs (SpellsSeats text) None
no_first text rest front x some so h reads =
    no_seats text some (λ seats p. let g = so.from seats p in let f = first_seat rest x h g.0 g.2 in none (IsNumber 2 x.0.now) f.0 reads f.3)

pub no_last : (text rest front : List ℕ) → 0 < length text → SoFar text rest front → IsSplitOnceResult 32 rest None
    → ReadsAs (IsNumber 2 rest) None → ReadsAs (SpellsSeats text) None
no_last text rest front some so h reads =
    no_seats text some (λ seats p. let g = so.from seats p in let l = last_seat rest h g.0 g.2 in none (IsNumber 2 rest) l.0 reads l.2)

-- the seats are these and no others
only_seats : (text rest front : List ℕ) (c : ℕ) → SoFar text rest front → IsSplitOnceResult 32 rest None → ReadsAs (IsNumber 2 rest) (Some c)
    → (seats : List ℕ) → AreSeats text seats → seats ≡ front ++ (c ∷ [])
only_seats text rest front c so h reads seats p =
    let g = so.from seats p in
    let l = last_seat rest h g.0 g.2 in
    g.1 ∙ ap (λ (y : List ℕ). front ++ y) (l.1 ∙ ap (λ (y : ℕ). y ∷ []) (only (IsNumber 2 rest) c l.0 reads l.2))

with_some : (text seats : List ℕ) → 0 < length text → SpellsSeats text seats → AreSeats text seats
with_some text [] some p = absurd (omega (arith, ap length p.spelled))
with_some text (c ∷ cs) some p = record { some = omega arith; short = p.short; spelled = p.spelled }

pub whole : (text rest front : List ℕ) (c : ℕ) → 0 < length text → SoFar text rest front → IsSplitOnceResult 32 rest None
    → ReadsAs (IsNumber 2 rest) (Some c) → ReadsAs (SpellsSeats text) (Some (front ++ (c ∷ [])))
whole text rest front c some so h reads =
    let f = found (IsNumber 2 rest) c reads in
    let all = so.to (c ∷ []) (record { some = omega arith; short = (f.0, tt); spelled = f.1 }) in
    one (SpellsSeats text) (front ++ (c ∷ [])) (record { short = all.short; spelled = all.spelled })
    (λ seats p. only_seats text rest front c so h reads seats (with_some text seats some p))

-- no seat is spelled by nothing
longer : (seats : List ℕ) → AllByRecursion IsShortNumber seats → 0 < length seats → 0 < length (schedule_text seats)
longer [] short some = absurd (omega arith)
longer (c ∷ []) short some = (first_decimal c (omega (arith, short))).0
longer (c ∷ d ∷ ds) short some = omega (arith, length-append (decimal c) (32 ∷ schedule_text (d ∷ ds)))

pub empty : (text : List ℕ) → length text ≡ 0 → ReadsAs (SpellsSeats text) (Some [])
empty [] e = one (SpellsSeats []) [] (record { short = tt; spelled = refl }) others
  where
    others : (seats : List ℕ) → SpellsSeats [] seats → seats ≡ []
    others [] p = refl
    others (c ∷ cs) p = absurd (omega (arith, longer (c ∷ cs) p.short (omega arith), ap length p.spelled))
empty (x ∷ xs) e = absurd (omega arith)

-- ---- 256 at most

seats_of : (text seats : List ℕ) → IsSchedule text seats → SpellsSeats text seats
seats_of text seats p = record { short = p.short; spelled = p.spelled }

pub few : (text seats : List ℕ) → ReadsAs (SpellsSeats text) (Some seats) → length seats ≤ 256 → ReadsAs (IsSchedule text) (Some seats)
few text seats reads within =
    let f = found (SpellsSeats text) seats reads in
    one (IsSchedule text) seats (record { few = within; short = f.short; spelled = f.spelled })
    (λ others p. only (SpellsSeats text) seats others reads (seats_of text others p))

pub too_long : (text seats : List ℕ) → ReadsAs (SpellsSeats text) (Some seats) → 256 < length seats → ReadsAs (IsSchedule text) None
too_long text seats reads long =
    nothing (IsSchedule text) (λ others p. let e = only (SpellsSeats text) seats others reads (seats_of text others p) in
    omega (arith, p.few, ap length e))

pub not_spelled : (text : List ℕ) → ReadsAs (SpellsSeats text) None → ReadsAs (IsSchedule text) None
not_spelled text reads = nothing (IsSchedule text) (λ others p. none (SpellsSeats text) others reads (seats_of text others p))
