-- Words of wait groups are numbers of 64 bits, and each row does to the number what it does to the word.
use Rattle.std.proofs.Common.{◌≡◌, ℕ, ◌+◌, ◌-◌, ◌*◌, ◌/◌, ◌%◌, ◌<◌, ◌==◌, ◌&&◌, if◌then◌else◌, Bool, true, false, ℤ, pos}
use Rattle.std.proofs.Common.{negsuc, ◌*ℤ◌, refl, sym, ap, ◌∙◌, subst, eqb-true}
use Rattle.std.proofs.Common.{eq-eqb, arith}
use Rattle.std.specs.Prelude.{FitsSigned}
use Rattle.std.specs.Int.{w32, w64, cast_signed, cast_unsigned, int_wrapping_add}
use Rattle.std.proofs.lemmas.Int.{ints, of_z-to_z, to_z-of_z}
use Rattle.std.specs.Ordering.{int_eq}
use Rattle.std.proofs.lemmas.Bool.Decides.{Decides-eqb, Decides-int_eq, same_from_decides}
use Rattle.step_table.specs.declared.group_word.GroupWord.{GroupWord}
use Rattle.step_table.specs.declared.standing.GroupRow.{GroupRow}
use Rattle.step_table.specs.declared.standing.GroupRow.TheVariants.{G1, G2, G3, V1, V2, V3, V4, V5}
use Rattle.step_table.specs.Group.{same_word, plus, one_more, one_less, group_row}
use Rattle.step_table.specs.GroupBits.{bits_of, word_in, IsGroupWord, high, bits_after, ComparesWord, TheGroupWords}

pub same_is : (a b : GroupWord) → same_word a b ≡ true → a ≡ b
same_is a b e = by (int_eq a.counter b.counter) refl
  where
    by : (t : Bool) → int_eq a.counter b.counter ≡ t → a ≡ b
    by true q =
        let counters = (Decides-int_eq a.counter b.counter).0 q in
        let waits : a.waits ≡ b.waits = eqb-true a.waits b.waits (sym (ap (λ t. t && (a.waits == b.waits)) q) ∙ e) in
        λ i. record { counter = counters i; waits = waits i }
    by false q = absurd (let no = sym (ap (λ t. t && (a.waits == b.waits)) q) ∙ e in cc)

pub same_itself : (a b : GroupWord) → a ≡ b → same_word a b ≡ true
same_itself a b e =
    ap (λ t. t && (a.waits == b.waits)) ((Decides-int_eq a.counter b.counter).1 (ap (λ (w : GroupWord). w.counter) e))
    ∙ eq-eqb a.waits b.waits (ap (λ (w : GroupWord). w.waits) e)

-- halves of a number
low_below : (z : ℤ) → FitsSigned w32 z → cast_unsigned w32 z < 4294967296
low_below z fits = omega (arith, ints)

fits_back : (k : ℕ) → k < 4294967296 → FitsSigned w32 (cast_signed w32 k)
fits_back k few = search (arith, ints)

high_half : (c k : ℕ) → k < 4294967296 → (c * 4294967296 + k) / 4294967296 ≡ c
high_half c k few = omega arith

low_half : (c k : ℕ) → k < 4294967296 → (c * 4294967296 + k) % 4294967296 ≡ k
low_half c k few = omega arith

below_all : (c k : ℕ) → c < 4294967296 → k < 4294967296 → c * 4294967296 + k < 18446744073709551616
below_all c k few less = omega arith

both_halves : (n : ℕ) → n / 4294967296 * 4294967296 + n % 4294967296 ≡ n
both_halves n = omega arith

high_sum : (c d k : ℕ) → k < 4294967296 → (c + d) % 4294967296 * 4294967296 + k ≡ (c * 4294967296 + k + d * 4294967296) % 18446744073709551616
high_sum c d k few = omega arith

carried : (c k : ℕ) → k ≡ 4294967295 → (c + 1) % 4294967296 * 4294967296 + 0 ≡ (c * 4294967296 + k + 1) % 18446744073709551616
carried c k full = omega arith

one_up : (c k : ℕ) → c < 4294967296 → k < 4294967295 → c * 4294967296 + (k + 1) ≡ (c * 4294967296 + k + 1) % 18446744073709551616
one_up c k few room = omega arith

-- words and numbers
pub below : (w : GroupWord) → IsGroupWord w → bits_of w < 18446744073709551616
below w is = below_all (cast_unsigned w32 w.counter) w.waits (low_below w.counter is.0) is.1

pub words : (n : ℕ) → n < 18446744073709551616 → IsGroupWord (word_in n)
words n few = (fits_back (n / 4294967296) (omega arith), omega arith)

pub back : (w : GroupWord) → IsGroupWord w → word_in (bits_of w) ≡ w
back w is =
    λ i. record {
      counter = (ap (cast_signed w32) (high_half (cast_unsigned w32 w.counter) w.waits is.1) ∙ to_z-of_z w32 w.counter is.0) i;
      waits = low_half (cast_unsigned w32 w.counter) w.waits is.1 i;
    }

pub forth : (n : ℕ) → n < 18446744073709551616 → bits_of (word_in n) ≡ n
forth n few =
    ap (λ k. k * 4294967296 + n % 4294967296) (of_z-to_z w32 (n / 4294967296) (let h : n / 4294967296 < 4294967296 = omega arith in h)) ∙ both_halves n

pub same : (a b : GroupWord) → IsGroupWord a → IsGroupWord b → same_word a b ≡ (bits_of a == bits_of b)
same a b is_a is_b = same_from_decides (same_word a b) (bits_of a == bits_of b) ((same_is a b), (same_itself a b)) (
  (λ e. sym (back a is_a) ∙ ap word_in (eqb-true (bits_of a) (bits_of b) e) ∙ back b is_b),
  (λ e. eq-eqb (bits_of a) (bits_of b) (ap bits_of e)),
)

-- the counter after an add, as bits
raised : (x d : ℤ) → cast_unsigned w32 (int_wrapping_add w32 x d) ≡ (cast_unsigned w32 x + cast_unsigned w32 d) % 4294967296
raised x d =
    of_z-to_z w32 ((cast_unsigned w32 x + cast_unsigned w32 d) % 4294967296)
    (let h : (cast_unsigned w32 x + cast_unsigned w32 d) % 4294967296 < 4294967296 = omega arith in h)

pub adds : (w : GroupWord) (d : ℤ) → IsGroupWord w → bits_of (plus w d) ≡ (bits_of w + high d) % 18446744073709551616
adds w d is =
    ap (λ k. k * 4294967296 + w.waits) (raised w.counter d) ∙ high_sum (cast_unsigned w32 w.counter) (cast_unsigned w32 d) w.waits is.1

-- d * 2^32 modulo 2^64, and the bits of d moved up by 32
highs : (d : ℤ) → FitsSigned w32 d
    → (high d ≡ cast_unsigned w64 (d *ℤ pos 4294967296)) × (high d ≡ (cast_unsigned w64 d * 4294967296) % 18446744073709551616)
highs (pos n) fits = (refl, let h : n < 2147483648 = omega (arith, ints) in omega arith)
highs (negsuc n) fits = let h : n < 2147483648 = omega (arith, ints) in (omega (arith, ints), omega arith)

pub waits : (w : GroupWord) → IsGroupWord w → bits_of (one_more w) ≡ (bits_of w + 1) % 18446744073709551616
waits w is = by (w.waits == 4294967295) refl
  where
    by : (t : Bool) → (w.waits == 4294967295) ≡ t
        → bits_of (if t then record { counter = int_wrapping_add w32 w.counter (pos 1); waits = 0 } else record w { waits = w.waits + 1 })
        ≡ (bits_of w + 1) % 18446744073709551616
    by true e =
        ap (λ k. k * 4294967296 + 0) (raised w.counter (pos 1))
        ∙ carried (cast_unsigned w32 w.counter) w.waits (eqb-true w.waits 4294967295 e)
    by false e =
        one_up (cast_unsigned w32 w.counter) w.waits (low_below w.counter is.0) (not_full (Decides-eqb w.waits 4294967295))
      where
        not_full : ((w.waits == 4294967295) ≡ true → w.waits ≡ 4294967295)
            × (w.waits ≡ 4294967295 → (w.waits == 4294967295) ≡ true) → w.waits < 4294967295
        not_full d = let few = is.1 in let differ : w.waits ≡ 4294967295 → ⊥ = λ q. absurd (let yes = d.1 q in cc) in omega arith

less : (w : GroupWord) → 0 < w.waits → bits_of (one_less w) ≡ bits_of w - 1
less w some = omega arith

-- rows
pub kept : (w : GroupWord) (row : GroupRow) → IsGroupWord w → IsGroupWord (group_row row w).0
kept w (G1 d) is = (fits_back ((cast_unsigned w32 w.counter + cast_unsigned w32 d) % 4294967296) (omega arith), is.1)
kept w (G2 seen) is = is
kept w (G3 seen) is = words 0 (omega arith)
kept w (V1 ending) is = is
kept w (V2 ending seen) is = by (same_word seen w) (w.waits == 4294967295) refl
  where
    fits : FitsSigned w32 (int_wrapping_add w32 w.counter (pos 1))
    fits = fits_back ((cast_unsigned w32 w.counter + cast_unsigned w32 (pos 1)) % 4294967296) (omega arith)

    room : (w.waits == 4294967295) ≡ false → w.waits + 1 < 4294967296
    room e = let few = is.1 in let differ : w.waits ≡ 4294967295 → ⊥ = λ q. absurd (let yes = eq-eqb w.waits 4294967295 q in cc) in omega arith

    by : (won full : Bool) → (w.waits == 4294967295) ≡ full
        → IsGroupWord (if won then if full then record { counter = int_wrapping_add w32 w.counter (pos 1); waits = 0 }
        else record w { waits = w.waits + 1 } else w)
    by true true e = (fits, omega arith)
    by true false e = (is.0, room e)
    by false full e = is
kept w (V3 ending) is = is
kept w (V4 how) is = is
kept w (V5 how seen) is = by (same_word seen w)
  where
    by : (won : Bool) → IsGroupWord (if won then one_less w else w)
    by true = (is.0, let few = is.1 in omega arith)
    by false = is

swapped : (a b : ℕ) → (a == b) ≡ (b == a)
swapped a b =
    same_from_decides (a == b) (b == a) (Decides-eqb a b) ((λ e. sym (eqb-true b a e)), (λ e. eq-eqb b a (sym e)))

pub rows : (w : GroupWord) (row : GroupRow) → IsGroupWord w → ComparesWord row → bits_of (group_row row w).0 ≡ bits_after row (bits_of w)
rows w (G1 d) is compares = adds w d is
rows w (G2 seen) is compares = refl
rows w (G3 seen) is compares = refl
rows w (V1 ending) is compares = refl
rows w (V2 ending seen) is compares =
    ap (λ b. bits_of (if b then one_more w else w)) (same seen w compares is ∙ swapped (bits_of seen) (bits_of w)) ∙ by (bits_of w == bits_of seen)
  where
    by : (b : Bool) → bits_of (if b then one_more w else w) ≡ (if b then (bits_of w + 1) % 18446744073709551616 else bits_of w)
    by true = waits w is
    by false = refl
rows w (V3 ending) is compares = refl
rows w (V4 how) is compares = refl
rows w (V5 how seen) is compares = by (same_word seen w) refl
  where
    by : (b : Bool) → same_word seen w ≡ b
        → bits_of (if b then one_less w else w) ≡ (if bits_of w == bits_of seen then bits_of w - 1 else bits_of w)
    by b e =
        subst (λ t. bits_of (if b then one_less w else w) ≡ (if t then bits_of w - 1 else bits_of w))
        (sym e ∙ same seen w compares.0 is ∙ swapped (bits_of seen) (bits_of w)) (taken b e)
      where
        taken : (b : Bool) → same_word seen w ≡ b → bits_of (if b then one_less w else w) ≡ (if b then bits_of w - 1 else bits_of w)
        taken true e = less w (subst (λ (x : GroupWord). 0 < x.waits) (same_is seen w e) compares.1)
        taken false e = refl

pub shown : (n : ℕ) (row : GroupRow) → n < 18446744073709551616 → ComparesWord row
    → word_in (bits_after row n) ≡ (group_row row (word_in n)).0
shown n row few compares =
    ap (λ k. word_in (bits_after row k)) (sym (forth n few))
    ∙ ap word_in (sym (rows (word_in n) row (words n few) compares))
    ∙ back (group_row row (word_in n)).0 (kept (word_in n) row (words n few))

pub the_group_words : TheGroupWords
the_group_words = record {
  below = below;
  words = words;
  back = back;
  forth = forth;
  same = same;
  adds = adds;
  highs = highs;
  waits = waits;
  less = less;
  empty = refl;
  kept = kept;
  rows = rows;
  shown = shown;
}
