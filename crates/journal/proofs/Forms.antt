-- Which entry a text spells: one for each form, and none where no form fits.
use Rattle.std.proofs.Common.{◌≡◌, ℕ, ◌+◌, ◌*◌, true, false, List, ◌++◌, get_or, Some, None, refl, sym, ap, ◌∙◌, arith}
use Rattle.std.specs.Prelude.{codes}
use Rattle.std.specs.Fmt.{decimal}
use Rattle.std.proofs.lemmas.List.{append_cancel_left}
use Rattle.journal.specs.declared.entry.JournalEntry.{JournalEntry}
use Rattle.journal.specs.declared.entry.JournalEntry.TheVariants.{Add, AddMany, Take, Queue, Leave, Withdraw, Ticket, Grant, Forgo}
use Rattle.journal.specs.declared.line.JournalLine.{JournalLine}
use Rattle.journal.specs.declared.line.JournalLine.TheVariants.{Counter, List as NotifyList, Entry as Tells}
use Rattle.journal.specs.JournalLine.{IsShort, entry_text, line_text, line_feed, queue_end}
use Rattle.journal.specs.Reading.{ReadsAs, IsDigit, EndsNumber, IsLast, IsIndexed, IsIndexedTwo, IsIndexedThree, IsEntryOf, IsHeadOf}
use Rattle.journal.proofs.Numbers.{decimal_digits}
use Rattle.journal.proofs.Parts.{nothing, one, found, only, none, runs_one}

-- the first two bytes tell the words apart
abbrev pub key : List ℕ → ℕ
key text = 256 * get_or text 0 0 + get_or text 1 0

-- what stands behind a number
behind : (n m : ℕ) (x y : List ℕ) → IsShort n → IsShort m → EndsNumber x → EndsNumber y → decimal n ++ x ≡ decimal m ++ y → x ≡ y
behind n m x y p q ex ey e = (runs_one (decimal n) (decimal m) x y (decimal_digits n (omega (arith, p))) (decimal_digits m (omega (arith, q))) ex ey e).1

-- behind a word and a number
behind_word : (word text x y : List ℕ) (n m : ℕ) → IsShort n → IsShort m → EndsNumber x → EndsNumber y → text ≡ word ++ (decimal n ++ x)
    → text ≡ word ++ (decimal m ++ y) → x ≡ y
behind_word word text x y n m p q ex ey e f = behind n m x y p q ex ey (append_cancel_left word (decimal n ++ x) (decimal m ++ y) (sym e ∙ f))

space : IsDigit 32 → ⊥
space d = omega (arith, d.0)

dot : IsDigit 46 → ⊥
dot d = omega (arith, d.0)

feed : IsDigit 10 → ⊥
feed d = omega (arith, d.0)

-- an entry that adds one unit isn't one that adds many
adds_apart : (text : List ℕ) (c s m k n : ℕ) → IsShort c → IsShort s → IsShort m → IsShort k → text ≡ entry_text (Add c s)
    → text ≡ entry_text (AddMany m k n) → ⊥
adds_apart text c s m k n pc ps pm pk e f =
    let x : List ℕ = codes " " ++ (decimal s ++ line_feed) in
    let y : List ℕ = codes " " ++ (decimal k ++ (codes " many " ++ (decimal n ++ line_feed))) in
    let first : x ≡ y = behind_word (codes "add ") text x y c m pc pm space space e f in
    let second : line_feed ≡ codes " many " ++ (decimal n ++ line_feed) =
    behind_word (codes " ") x line_feed (codes " many " ++ (decimal n ++ line_feed)) s k ps pk feed space refl first in
    omega (arith, ap key second)

-- the same of waits in the two ways
queues_apart : (text : List ℕ) (c s t m k u : ℕ) → IsShort c → IsShort s → IsShort t → IsShort m → IsShort k → IsShort u
    → text ≡ entry_text (Queue c (record { seat = s; turn = t }) false)
    → text ≡ entry_text (Queue m (record { seat = k; turn = u }) true) → ⊥
queues_apart text c s t m k u pc ps pt pm pk pu e f =
    let x : List ℕ = codes " " ++ (decimal s ++ (codes "." ++ (decimal t ++ queue_end false))) in
    let y : List ℕ = codes " " ++ (decimal k ++ (codes "." ++ (decimal u ++ queue_end true))) in
    let first : x ≡ y = behind_word (codes "queue ") text x y c m pc pm space space e f in
    let z : List ℕ = codes "." ++ (decimal t ++ queue_end false) in
    let w : List ℕ = codes "." ++ (decimal u ++ queue_end true) in
    let second : z ≡ w = behind_word (codes " ") x z w s k ps pk dot dot refl first in
    let third : queue_end false ≡ queue_end true =
    behind_word (codes ".") z (queue_end false) (queue_end true) t u pt pu feed space refl second in
    omega (arith, ap key third)

module _ (counters lists : ℕ) (text : List ℕ) where
  pub add_reads : (c s : ℕ) → ReadsAs (IsIndexed counters (codes "add ") (codes " ") (codes "\n") text) (Some (c, s))
      → ReadsAs (IsEntryOf counters lists text) (Some (Add c s))
  add_reads c s h =
      let f = found (IsIndexed counters (codes "add ") (codes " ") (codes "\n") text) (c, s) h in one (IsEntryOf counters lists text) (Add c s) f is
    where
      is : (a : JournalEntry) → IsEntryOf counters lists text a → a ≡ Add c s
      is (Add m k) q = ap (λ (x : ℕ × ℕ). Add x.0 x.1) (only (IsIndexed counters (codes "add ") (codes " ") (codes "\n") text) (c, s) (m, k) h q)
      is (AddMany m k n) q = let f = found (IsIndexed counters (codes "add ") (codes " ") (codes "\n") text) (c, s) h in
          absurd (adds_apart text c s m k n f.0.0.0 f.0.1 q.0.0.0 q.0.1.0 f.1 q.1)
      is a q = let f = found (IsIndexed counters (codes "add ") (codes " ") (codes "\n") text) (c, s) h in let e : text ≡ entry_text (Add c s) = f.1 in
          absurd (omega (arith, ap key (sym e ∙ q.1)))

  pub add_many_reads : (c s n : ℕ) → ReadsAs (IsIndexedTwo counters (codes "add ") (codes " ") (codes " many ") (codes "\n") text) (Some (c, (s, n)))
      → ReadsAs (IsEntryOf counters lists text) (Some (AddMany c s n))
  add_many_reads c s n h = let f = found (IsIndexedTwo counters (codes "add ") (codes " ") (codes " many ") (codes "\n") text) (c, (s, n)) h in
      one (IsEntryOf counters lists text) (AddMany c s n) f is
    where
      is : (a : JournalEntry) → IsEntryOf counters lists text a → a ≡ AddMany c s n
      is (AddMany m k j) q =
          ap (λ (x : ℕ × (ℕ × ℕ)). AddMany x.0 x.1.0 x.1.1)
          (only (IsIndexedTwo counters (codes "add ") (codes " ") (codes " many ") (codes "\n") text) (c, (s, n)) (m, (k, j)) h q)
      is (Add m k) q = let f = found (IsIndexedTwo counters (codes "add ") (codes " ") (codes " many ") (codes "\n") text) (c, (s, n)) h in
          absurd (adds_apart text m k c s n q.0.0.0 q.0.1 f.0.0.0 f.0.1.0 q.1 f.1)
      is a q = let f = found (IsIndexedTwo counters (codes "add ") (codes " ") (codes " many ") (codes "\n") text) (c, (s, n)) h in
          let e : text ≡ entry_text (AddMany c s n) = f.1 in absurd (omega (arith, ap key (sym e ∙ q.1)))

  pub take_reads : (c s : ℕ) → ReadsAs (IsIndexed counters (codes "take ") (codes " ") (codes "\n") text) (Some (c, s))
      → ReadsAs (IsEntryOf counters lists text) (Some (Take c s))
  take_reads c s h =
      let f = found (IsIndexed counters (codes "take ") (codes " ") (codes "\n") text) (c, s) h in one (IsEntryOf counters lists text) (Take c s) f is
    where
      is : (a : JournalEntry) → IsEntryOf counters lists text a → a ≡ Take c s
      is (Take m k) q = ap (λ (x : ℕ × ℕ). Take x.0 x.1) (only (IsIndexed counters (codes "take ") (codes " ") (codes "\n") text) (c, s) (m, k) h q)
      is a q = let f = found (IsIndexed counters (codes "take ") (codes " ") (codes "\n") text) (c, s) h in let e : text ≡ entry_text (Take c s) = f.1 in
          absurd (omega (arith, ap key (sym e ∙ q.1)))

  pub ticket_reads : (l s : ℕ) → ReadsAs (IsIndexed lists (codes "ticket ") (codes " ") (codes "\n") text) (Some (l, s))
      → ReadsAs (IsEntryOf counters lists text) (Some (Ticket l s))
  ticket_reads l s h =
      let f = found (IsIndexed lists (codes "ticket ") (codes " ") (codes "\n") text) (l, s) h in one (IsEntryOf counters lists text) (Ticket l s) f is
    where
      is : (a : JournalEntry) → IsEntryOf counters lists text a → a ≡ Ticket l s
      is (Ticket m k) q = ap (λ (x : ℕ × ℕ). Ticket x.0 x.1) (only (IsIndexed lists (codes "ticket ") (codes " ") (codes "\n") text) (l, s) (m, k) h q)
      is a q = let f = found (IsIndexed lists (codes "ticket ") (codes " ") (codes "\n") text) (l, s) h in let e : text ≡ entry_text (Ticket l s) = f.1 in
          absurd (omega (arith, ap key (sym e ∙ q.1)))

  pub grant_reads : (l u s : ℕ) → ReadsAs (IsIndexedTwo lists (codes "grant ") (codes " ") (codes " ") (codes "\n") text) (Some (l, (u, s)))
      → ReadsAs (IsEntryOf counters lists text) (Some (Grant l u s))
  grant_reads l u s h = let f = found (IsIndexedTwo lists (codes "grant ") (codes " ") (codes " ") (codes "\n") text) (l, (u, s)) h in
      one (IsEntryOf counters lists text) (Grant l u s) f is
    where
      is : (a : JournalEntry) → IsEntryOf counters lists text a → a ≡ Grant l u s
      is (Grant m k j) q =
          ap (λ (x : ℕ × (ℕ × ℕ)). Grant x.0 x.1.0 x.1.1)
          (only (IsIndexedTwo lists (codes "grant ") (codes " ") (codes " ") (codes "\n") text) (l, (u, s)) (m, (k, j)) h q)
      is a q = let f = found (IsIndexedTwo lists (codes "grant ") (codes " ") (codes " ") (codes "\n") text) (l, (u, s)) h in
          let e : text ≡ entry_text (Grant l u s) = f.1 in absurd (omega (arith, ap key (sym e ∙ q.1)))

  pub forgo_reads : (l n s : ℕ) → ReadsAs (IsIndexedTwo lists (codes "forgo ") (codes " ") (codes " ") (codes "\n") text) (Some (l, (n, s)))
      → ReadsAs (IsEntryOf counters lists text) (Some (Forgo l n s))
  forgo_reads l n s h = let f = found (IsIndexedTwo lists (codes "forgo ") (codes " ") (codes " ") (codes "\n") text) (l, (n, s)) h in
      one (IsEntryOf counters lists text) (Forgo l n s) f is
    where
      is : (a : JournalEntry) → IsEntryOf counters lists text a → a ≡ Forgo l n s
      is (Forgo m k j) q =
          ap (λ (x : ℕ × (ℕ × ℕ)). Forgo x.0 x.1.0 x.1.1)
          (only (IsIndexedTwo lists (codes "forgo ") (codes " ") (codes " ") (codes "\n") text) (l, (n, s)) (m, (k, j)) h q)
      is a q = let f = found (IsIndexedTwo lists (codes "forgo ") (codes " ") (codes " ") (codes "\n") text) (l, (n, s)) h in
          let e : text ≡ entry_text (Forgo l n s) = f.1 in absurd (omega (arith, ap key (sym e ∙ q.1)))

  pub withdraw_reads : (c s t : ℕ) → ReadsAs (IsIndexedTwo counters (codes "withdraw ") (codes " ") (codes ".") (codes "\n") text) (Some (c, (s, t)))
      → ReadsAs (IsEntryOf counters lists text) (Some (Withdraw c (record { seat = s; turn = t })))
  withdraw_reads c s t h = let f = found (IsIndexedTwo counters (codes "withdraw ") (codes " ") (codes ".") (codes "\n") text) (c, (s, t)) h in
      one (IsEntryOf counters lists text) (Withdraw c (record { seat = s; turn = t })) f is
    where
      is : (a : JournalEntry) → IsEntryOf counters lists text a → a ≡ Withdraw c (record { seat = s; turn = t })
      is (Withdraw m w) q = ap (λ (x : ℕ × (ℕ × ℕ)). Withdraw x.0 (record { seat = x.1.0; turn = x.1.1 }))
          (only (IsIndexedTwo counters (codes "withdraw ") (codes " ") (codes ".") (codes "\n") text) (c, (s, t)) (m, (w.seat, w.turn)) h q)
      is a q = let f = found (IsIndexedTwo counters (codes "withdraw ") (codes " ") (codes ".") (codes "\n") text) (c, (s, t)) h in
          let e : text ≡ entry_text (Withdraw c (record { seat = s; turn = t })) = f.1 in absurd (omega (arith, ap key (sym e ∙ q.1)))

  pub queue_reads : (c s t : ℕ) → ReadsAs (IsIndexedTwo counters (codes "queue ") (codes " ") (codes ".") (codes "\n") text) (Some (c, (s, t)))
      → ReadsAs (IsEntryOf counters lists text) (Some (Queue c (record { seat = s; turn = t }) false))
  queue_reads c s t h = let f = found (IsIndexedTwo counters (codes "queue ") (codes " ") (codes ".") (codes "\n") text) (c, (s, t)) h in
      one (IsEntryOf counters lists text) (Queue c (record { seat = s; turn = t }) false) f is
    where
      is : (a : JournalEntry) → IsEntryOf counters lists text a → a ≡ Queue c (record { seat = s; turn = t }) false
      is (Queue m w false) q = ap (λ (x : ℕ × (ℕ × ℕ)). Queue x.0 (record { seat = x.1.0; turn = x.1.1 }) false)
          (only (IsIndexedTwo counters (codes "queue ") (codes " ") (codes ".") (codes "\n") text) (c, (s, t)) (m, (w.seat, w.turn)) h q)
      is (Queue m w true) q = let f = found (IsIndexedTwo counters (codes "queue ") (codes " ") (codes ".") (codes "\n") text) (c, (s, t)) h in
          absurd (queues_apart text c s t m w.seat w.turn f.0.0.0 f.0.1.0 f.0.1.1 q.0.0.0 q.0.1.0 q.0.1.1 f.1 q.1)
      is a q = let f = found (IsIndexedTwo counters (codes "queue ") (codes " ") (codes ".") (codes "\n") text) (c, (s, t)) h in
          let e : text ≡ entry_text (Queue c (record { seat = s; turn = t }) false) = f.1 in absurd (omega (arith, ap key (sym e ∙ q.1)))

  pub queue_lifo_reads : (c s t : ℕ) → ReadsAs (IsIndexedTwo counters (codes "queue ") (codes " ") (codes ".") (codes " lifo\n") text) (Some (c, (s, t)))
      → ReadsAs (IsEntryOf counters lists text) (Some (Queue c (record { seat = s; turn = t }) true))
  queue_lifo_reads c s t h = let f = found (IsIndexedTwo counters (codes "queue ") (codes " ") (codes ".") (codes " lifo\n") text) (c, (s, t)) h in
      one (IsEntryOf counters lists text) (Queue c (record { seat = s; turn = t }) true) f is
    where
      is : (a : JournalEntry) → IsEntryOf counters lists text a → a ≡ Queue c (record { seat = s; turn = t }) true
      is (Queue m w true) q = ap (λ (x : ℕ × (ℕ × ℕ)). Queue x.0 (record { seat = x.1.0; turn = x.1.1 }) true)
          (only (IsIndexedTwo counters (codes "queue ") (codes " ") (codes ".") (codes " lifo\n") text) (c, (s, t)) (m, (w.seat, w.turn)) h q)
      is (Queue m w false) q = let f = found (IsIndexedTwo counters (codes "queue ") (codes " ") (codes ".") (codes " lifo\n") text) (c, (s, t)) h in
          absurd (queues_apart text m w.seat w.turn c s t q.0.0.0 q.0.1.0 q.0.1.1 f.0.0.0 f.0.1.0 f.0.1.1 q.1 f.1)
      is a q = let f = found (IsIndexedTwo counters (codes "queue ") (codes " ") (codes ".") (codes " lifo\n") text) (c, (s, t)) h in
          let e : text ≡ entry_text (Queue c (record { seat = s; turn = t }) true) = f.1 in absurd (omega (arith, ap key (sym e ∙ q.1)))

  pub leave_reads : (c s t r : ℕ) → ReadsAs (IsIndexedThree counters (codes "leave ") (codes " ") (codes ".") (codes " ") (codes "\n") text)
      (Some (c, (s, (t, r))))
      → ReadsAs (IsEntryOf counters lists text) (Some (Leave c (record { seat = s; turn = t }) r))
  leave_reads c s t r h = let f = found (IsIndexedThree counters (codes "leave ") (codes " ") (codes ".") (codes " ") (codes "\n") text) (c, (s, (t, r))) h in
      one (IsEntryOf counters lists text) (Leave c (record { seat = s; turn = t }) r) f is
    where
      is : (a : JournalEntry) → IsEntryOf counters lists text a → a ≡ Leave c (record { seat = s; turn = t }) r
      is (Leave m w k) q = ap (λ (x : ℕ × (ℕ × (ℕ × ℕ))). Leave x.0 (record { seat = x.1.0; turn = x.1.1.0 }) x.1.1.1)
          (only (IsIndexedThree counters (codes "leave ") (codes " ") (codes ".") (codes " ") (codes "\n") text)
          (c, (s, (t, r))) (m, (w.seat, (w.turn, k))) h q)
      is a q = let f = found (IsIndexedThree counters (codes "leave ") (codes " ") (codes ".") (codes " ") (codes "\n") text) (c, (s, (t, r))) h in
          let e : text ≡ entry_text (Leave c (record { seat = s; turn = t }) r) = f.1 in absurd (omega (arith, ap key (sym e ∙ q.1)))

  pub no_entry : ReadsAs (IsIndexed counters (codes "add ") (codes " ") (codes "\n") text) None
      → ReadsAs (IsIndexed counters (codes "take ") (codes " ") (codes "\n") text) None
      → ReadsAs (IsIndexedTwo counters (codes "queue ") (codes " ") (codes ".") (codes "\n") text) None
      → ReadsAs (IsIndexedThree counters (codes "leave ") (codes " ") (codes ".") (codes " ") (codes "\n") text) None
      → ReadsAs (IsIndexedTwo counters (codes "withdraw ") (codes " ") (codes ".") (codes "\n") text) None
      → ReadsAs (IsIndexed lists (codes "ticket ") (codes " ") (codes "\n") text) None
      → ReadsAs (IsIndexedTwo lists (codes "grant ") (codes " ") (codes " ") (codes "\n") text) None
      → ReadsAs (IsIndexedTwo lists (codes "forgo ") (codes " ") (codes " ") (codes "\n") text) None
      → ReadsAs (IsIndexedTwo counters (codes "queue ") (codes " ") (codes ".") (codes " lifo\n") text) None
      → ReadsAs (IsIndexedTwo counters (codes "add ") (codes " ") (codes " many ") (codes "\n") text) None
      → ReadsAs (IsEntryOf counters lists text) None
  no_entry add take queue leave withdraw ticket grant forgo lifo many = nothing (IsEntryOf counters lists text) is
    where
      is : (a : JournalEntry) → IsEntryOf counters lists text a → ⊥
      is (Add m k) q = none (IsIndexed counters (codes "add ") (codes " ") (codes "\n") text) (m, k) add q
      is (AddMany m k j) q = none (IsIndexedTwo counters (codes "add ") (codes " ") (codes " many ") (codes "\n") text) (m, (k, j)) many q
      is (Take m k) q = none (IsIndexed counters (codes "take ") (codes " ") (codes "\n") text) (m, k) take q
      is (Queue m w false) q = none (IsIndexedTwo counters (codes "queue ") (codes " ") (codes ".") (codes "\n") text) (m, (w.seat, w.turn)) queue q
      is (Queue m w true) q = none (IsIndexedTwo counters (codes "queue ") (codes " ") (codes ".") (codes " lifo\n") text) (m, (w.seat, w.turn)) lifo q
      is (Leave m w k) q =
          none (IsIndexedThree counters (codes "leave ") (codes " ") (codes ".") (codes " ") (codes "\n") text) (m, (w.seat, (w.turn, k))) leave q
      is (Withdraw m w) q =
          none (IsIndexedTwo counters (codes "withdraw ") (codes " ") (codes ".") (codes "\n") text) (m, (w.seat, w.turn)) withdraw q
      is (Forgo m k j) q = none (IsIndexedTwo lists (codes "forgo ") (codes " ") (codes " ") (codes "\n") text) (m, (k, j)) forgo q
      is (Ticket m k) q = none (IsIndexed lists (codes "ticket ") (codes " ") (codes "\n") text) (m, k) ticket q
      is (Grant m k j) q = none (IsIndexedTwo lists (codes "grant ") (codes " ") (codes " ") (codes "\n") text) (m, (k, j)) grant q

-- ---- head lines

pub counter_reads : (text : List ℕ) (n : ℕ) → ReadsAs (IsLast (codes "counter ") (codes "\n") text) (Some n)
    → ReadsAs (IsHeadOf text) (Some (Counter n))
counter_reads text n h = let f = found (IsLast (codes "counter ") (codes "\n") text) n h in one (IsHeadOf text) (Counter n) f is
  where
    is : (a : JournalLine) → IsHeadOf text a → a ≡ Counter n
    is (Counter m) q = ap Counter (only (IsLast (codes "counter ") (codes "\n") text) n m h q)
    is (NotifyList m) q = let f = found (IsLast (codes "counter ") (codes "\n") text) n h in let e : text ≡ line_text (Counter n) = f.1 in
        absurd (omega (arith, ap key (sym e ∙ q.1)))
    is (Tells entry) q = absurd q
