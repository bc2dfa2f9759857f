-- What is wrong with one line.
use Rattle.std.proofs.Common.{◌≡◌, ℕ, zero, suc, ◌<◌, Bool, true, false, cond, List, [], ◌∷◌, Option, Some, None, Err, ◌⊎◌, inl, inr}
use Rattle.std.proofs.Common.{refl, sym, ap, subst, ◌∙◌}
use Rattle.std.proofs.Common.{arith}
use Rattle.std.specs.Prelude.{◌&&◌}
use Rattle.std.specs.List.{list_all}
use Rattle.std.specs.Str.{IsAscii, IsUtf8}
use Rattle.std.proofs.lemmas.Str.{IsUtf8-from_ascii}
use Rattle.scenario_text.specs.declared.read_fault.Cause.{Cause}
use Rattle.scenario_text.specs.declared.read_fault.Cause.TheVariants.{Cut, Byte, Place, Range, TooMany, Undeclared, Ticket, NoMemory}
use Rattle.scenario_text.specs.Line.{Line, Spells}
use Rattle.scenario_text.specs.Phrases.{ReadsAs}
use Rattle.scenario_text.specs.Pieces.{Piece}
use Rattle.scenario_text.specs.Causes.{SpellsSome, IsFault, IsReadable, is_misplaced, is_out_of_range, is_too_many, is_undeclared, has_wrong_ticket}
use Rattle.scenario_text.specs.Causes.{is_printable}
use Rattle.scenario_text.specs.Reader.{Judges, IsOnlyRight, flaw_of}
use Rattle.scenario_text.proofs.Parts.{found, only}

step : (b : Bool) (d c : Cause) (rest : Option Cause) → cond b (Some d) rest ≡ Some c → ((b ≡ true) × (c ≡ d))
    ⊎ ((b ≡ false) × (rest ≡ Some c))
step true d c rest e = inl (refl, cc)
step false d c rest e = inr (refl, e)

past : (b : Bool) (d : Cause) (rest : Option Cause) → cond b (Some d) rest ≡ None → (b ≡ false) × (rest ≡ None)
past true d rest e = absurd cc
past false d rest e = (refl, e)

-- of a line that is spelled in one way, a test holds or not
other : (text : List ℕ) (l : Line) (test : Line → Bool) → ReadsAs (Spells text) (Some l) → test l ≡ false → SpellsSome text test → ⊥
other text l test h no_test s = let e : s.0 ≡ l = only (Spells text) l s.0 h s.1 in let t : test l ≡ true = ap test (sym e) ∙ s.2 in absurd cc

-- want of memory is no cause of a line
no_cause : (lines : List Line) (p : Piece) → IsFault lines p NoMemory → IsReadable lines p
no_cause lines p (inl a) = let e : NoMemory ≡ Cut = a.1 in absurd cc
no_cause lines p (inr (cut, inl a)) = let e : NoMemory ≡ Byte = a.1 in absurd cc
no_cause lines p (inr (cut, inr more)) = (cut, more.0)

judges : (lines : List Line) (p : Piece) (c : Cause) → IsFault lines p c → Judges lines p (Err c)
judges lines p NoMemory f = no_cause lines p f
judges lines p c f = f

pub flawed : (lines : List Line) (p : Piece) (l : Line) (c : Cause) → (p.ended ≡ false → ⊥) → list_all is_printable p.text ≡ true
    → ReadsAs (Spells p.text) (Some l) → flaw_of lines l ≡ Some c → Judges lines p (Err c)
flawed lines p l c ended printable h e =
    let s = found (Spells p.text) l h in
    judges lines p c (inr (
      ended,
      inr (
        (λ f. absurd cc),
        inr (
          (λ f. f l s),
          elim (step (is_misplaced lines l) Place c _ e) [
            | inl a ↦ inl ((l, s, a.0), a.1)
            | inr a ↦ inr (
              other p.text l (is_misplaced lines) h a.0,
              elim (step (is_out_of_range l) Range c _ a.1) [
                | inl a2 ↦ inl ((l, s, a2.0), a2.1)
                | inr a2 ↦ inr (
                  other p.text l is_out_of_range h a2.0,
                  elim (step (is_too_many lines l) TooMany c _ a2.1) [
                    | inl a3 ↦ inl ((l, s, a3.0), a3.1)
                    | inr a3 ↦ inr (
                      other p.text l (is_too_many lines) h a3.0,
                      elim (step (is_undeclared lines l) Undeclared c _ a3.1) [
                        | inl a4 ↦ inl ((l, s, a4.0), a4.1)
                        | inr a4 ↦ inr (
                          other p.text l (is_undeclared lines) h a4.0,
                          elim (step (has_wrong_ticket l) Ticket c _ a4.1) [ inl a5 ↦ inl ((l, s, a5.0), a5.1) | inr a5 ↦ absurd (never c a5.1) ],
                        )
                      ],
                    )
                  ],
                )
              ],
            )
          ],
        ),
      ),
    ))
  where
    never : (c : Cause) → let o : Option Cause = None in o ≡ Some c → ⊥
    never c e = absurd cc

pub right : (lines : List Line) (p : Piece) (l : Line) → (p.ended ≡ false → ⊥) → list_all is_printable p.text ≡ true
    → ReadsAs (Spells p.text) (Some l) → flaw_of lines l ≡ None → IsOnlyRight lines p l
right lines p l ended printable h e =
    let s = found (Spells p.text) l h in
    let a = past (is_misplaced lines l) Place _ e in
    let a2 = past (is_out_of_range l) Range _ a.1 in
    let a3 = past (is_too_many lines l) TooMany _ a2.1 in
    let a4 = past (is_undeclared lines l) Undeclared _ a3.1 in
    let a5 = past (has_wrong_ticket l) Ticket _ a4.1 in (
      (
        s,
        (
          ended,
          (
            (λ f. absurd cc),
            (
              (λ f. f l s),
              (
                other p.text l (is_misplaced lines) h a.0,
                (
                  other p.text l is_out_of_range h a2.0,
                  (other p.text l (is_too_many lines) h a3.0, (other p.text l (is_undeclared lines) h a4.0, (other p.text l has_wrong_ticket h a5.0, tt))),
                ),
              ),
            ),
          ),
        ),
      ),
      λ m. ((λ q. only (Spells p.text) l m h q), λ e. subst (Spells p.text) (sym e) s),
    )

and_both : (a b : Bool) → (a && b) ≡ true → (a ≡ true) × (b ≡ true)
and_both true b e = (refl, e)
and_both false b e = absurd cc

low : (x : ℕ) → is_printable x ≡ true → x < 128
low x e = grind arith

pub ascii : (bytes : List ℕ) → list_all is_printable bytes ≡ true → IsAscii bytes
ascii [] e i = omega arith
ascii (x ∷ xs) e zero = low x (and_both (is_printable x) (list_all is_printable xs) e).0
ascii (x ∷ xs) e (suc i) = ascii xs (and_both (is_printable x) (list_all is_printable xs) e).1 i

pub utf8 : (bytes : List ℕ) → list_all is_printable bytes ≡ true → IsUtf8 bytes
utf8 bytes e = IsUtf8-from_ascii bytes (ascii bytes e)
