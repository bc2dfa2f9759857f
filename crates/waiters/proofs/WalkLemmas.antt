-- Lemmas on a walk along a chain.
use Rattle.std.proofs.Common.{◌≡◌, ℕ, ◌+◌, ◌<◌, ◌≤◌, List, [], ◌∷◌, ◌++◌, length, Option, Some, None, refl, sym, ap}
use Rattle.std.proofs.Common.{Bool, true, false, if◌then◌else◌, ◌∙◌, arith, append_assoc, append-nil}
use Rattle.std.proofs.Common.{length-append}
use Rattle.std.proofs.lemmas.List.{map-append}
use Rattle.slab.specs.Slab.{Slab, get, ContainsKey}
use Rattle.waiters.specs.Lists.{first_sought, without_sought}
use Rattle.waiters.specs.declared.wait.Wait.{Wait}
use Rattle.waiters.specs.declared.lists.Record.{Record}
use Rattle.waiters.specs.declared.lists.Chain.{Chain}
use Rattle.waiters.specs.Chains.{waits_from, waits_of, Linked, HasLinks, WalkedTo, Finds}
use Rattle.waiters.proofs.ChainLemmas.{waits_from-Linked, last_key-append}

-- a list from a wait on that is sought, or isn't
module _ (is : Wait → Bool) (wait : Wait) (rest : List Wait) where
  pub first-here : is wait ≡ true → first_sought is (wait ∷ rest) ≡ Some wait
  first-here e = ap (λ b. if b then Some wait else first_sought is rest) e

  pub first-later : is wait ≡ false → first_sought is (wait ∷ rest) ≡ first_sought is rest
  first-later e = ap (λ b. if b then Some wait else first_sought is rest) e

  pub without-here : is wait ≡ true → without_sought is (wait ∷ rest) ≡ rest
  without-here e = ap (λ b. if b then rest else wait ∷ without_sought is rest) e

  pub without-later : is wait ≡ false → without_sought is (wait ∷ rest) ≡ wait ∷ without_sought is rest
  without-later e = ap (λ b. if b then rest else wait ∷ without_sought is rest) e

module _ (records : Slab Record) where
  pub Linked-from : (here : Option ℕ) (key : ℕ) (rest : List (ℕ × Wait)) → here ≡ Some key
      → Linked records here rest None → Linked records (Some key) rest None
  Linked-from here key rest is linked = rw is at linked

  pub Linked-there : (key : ℕ) (rest : List (ℕ × Wait)) → Linked records (Some key) rest None → ContainsKey records key
  Linked-there key [] linked = absurd (cc)
  Linked-there key (entry ∷ later) linked =
      let same : key ≡ entry.0 = cc in rw (same, linked.2) refl

  -- a record that is linked to comes next
  pub Linked-next : (key : ℕ) (found : Record) (rest : List (ℕ × Wait)) → Linked records (Some key) rest None → get records key ≡ Some found
      → (later : List (ℕ × Wait)) × (rest ≡ (key, found.wait) ∷ later) × Linked records found.next later None
  Linked-next key found [] linked read = absurd (cc)
  Linked-next key found (entry ∷ later) linked read =
      let same : key ≡ entry.0 = cc in
      let is : Some (record { wait = entry.1; next = linked.0 }) ≡ Some found = sym linked.2 ∙ ap (get records) (sym same) ∙ read in
      let value : record { wait = entry.1; next = linked.0 } ≡ found = cc in
      (later, ap (λ e. e ∷ later) (rw (same, ← value) refl), rw (← value) linked.3)

module _ (records : Slab Record) (chain : Chain) (sought : Wait → Bool) where
  pub WalkedTo-start : HasLinks records chain → WalkedTo records chain sought None chain.first
  WalkedTo-start has =
      record {
        passed = [];
        rest = has.0;
        links = has.1;
        left = has.1.linked;
        ends = refl;
        first = refl;
        without = refl;
      }

  module _ (before : Option ℕ) (key : ℕ) (found : Record) (walked : WalkedTo records chain sought before (Some key)) where
    passing : (later : List (ℕ × Wait)) → walked.rest ≡ (key, found.wait) ∷ later → Linked records found.next later None
        → sought found.wait ≡ false → WalkedTo records chain sought (Some key) found.next
    passing later is left differs =
        let more : List (ℕ × Wait) = walked.passed ++ (key, found.wait) ∷ [] in
        let same : walked.passed ++ walked.rest ≡ more ++ later =
        rw (is, append_assoc walked.passed ((key, found.wait) ∷ []) later) refl in
        record {
          passed = more;
          rest = later;
          links = rw (← same) walked.links;
          left = left;
          ends = sym (last_key-append walked.passed (key, found.wait) []);
          first = rw (← same) (walked.first ∙ rw is (first-later sought found.wait (waits_of later) differs));
          without =
              rw (← same)
              (walked.without ∙ rw (
                is,
                map-append (λ entry. entry.1) walked.passed ((key, found.wait) ∷ []),
                append_assoc (waits_of walked.passed) (found.wait ∷ []),
              ) (ap (λ waits. waits_of walked.passed ++ waits) (without-later sought found.wait (waits_of later) differs)));
        }

    pub WalkedTo-next : get records key ≡ Some found → sought found.wait ≡ false → WalkedTo records chain sought (Some key) found.next
    WalkedTo-next read differs =
        let step = Linked-next records key found walked.rest walked.left read in
        passing step.0 step.1 step.2 differs

    arriving : (later : List (ℕ × Wait)) → walked.rest ≡ (key, found.wait) ∷ later → sought found.wait ≡ true
        → Finds records chain sought (Some (record { before = before; key = key }))
    arriving later is same = (
      walked.passed ++ walked.rest,
      walked.links,
      record {
        stands =
            record {
              passed = walked.passed;
              wait = found.wait;
              rest = later;
              splits = ap (λ rest. walked.passed ++ rest) is;
              before = walked.ends;
            };
        first = walked.first ∙ rw is (first-here sought found.wait (waits_of later) same);
        without =
            walked.without ∙ rw (is, map-append (λ entry. entry.1) walked.passed later)
            (ap (λ waits. waits_of walked.passed ++ waits) (without-here sought found.wait (waits_of later) same));
      },
    )

    pub WalkedTo-found : get records key ≡ Some found → sought found.wait ≡ true
        → Finds records chain sought (Some (record { before = before; key = key }))
    WalkedTo-found read same =
        let step = Linked-next records key found walked.rest walked.left read in arriving step.0 step.1 same

    -- the walk gets shorter
    pub WalkedTo-shorter : get records key ≡ Some found → length (waits_from records chain.len found.next)
        < length (waits_from records chain.len (Some key))
    WalkedTo-shorter read =
        let step = Linked-next records key found walked.rest walked.left read in
        let counted = rw step.1 at walked.links.counted in
        let left = rw step.1 at walked.left in
        let long : length step.0 + 1 ≤ chain.len =
        omega (arith, length-append walked.passed ((key, found.wait) ∷ step.0)) in
        let here = waits_from-Linked records ((key, found.wait) ∷ step.0) chain.len (Some key) (omega arith) left in
        let next = waits_from-Linked records step.0 chain.len found.next (omega arith) step.2 in
        rw (here, next) (omega arith)

  pub WalkedTo-end : (before : Option ℕ) → WalkedTo records chain sought before None → Finds records chain sought None
  WalkedTo-end before walked = ended walked.rest walked.left refl
    where
      ended : (rest : List (ℕ × Wait)) → Linked records None rest None → walked.rest ≡ rest → Finds records chain sought None
      ended [] left is =
          let whole : walked.passed ++ walked.rest ≡ walked.passed = ap (λ rest. walked.passed ++ rest) is ∙ append-nil walked.passed in (
            walked.passed ++ walked.rest,
            walked.links,
            walked.first ∙ rw is refl,
            walked.without ∙ rw (whole, is) (append-nil (waits_of walked.passed)),
          )
      ended (entry ∷ rest) left is = absurd (cc)
