-- Words of wait groups as numbers of 64 bits.
use Rattle.std.specs.Prelude.{◌≡◌, ℕ, ◌+◌, ◌-◌, ◌*◌, ◌/◌, ◌%◌, ◌<◌, ◌==◌, if◌then◌else◌, ℤ, pos, ◌*ℤ◌, FitsSigned}
use Rattle.std.specs.Prelude.{◌^◌}
use Rattle.std.specs.Int.{w32, w64, cast_signed, cast_unsigned}
use Rattle.step_table.specs.declared.group_word.GroupWord.{GroupWord}
use Rattle.step_table.specs.declared.standing.GroupRow.{GroupRow}
use Rattle.step_table.specs.declared.standing.GroupRow.TheVariants.{G1, G2, G3, V1, V2, V3, V4, V5}
use Rattle.step_table.specs.Group.{empty_word, same_word, plus, one_more, one_less, group_row}

-- the counter in the high half, the waits in the low one
abbrev pub bits_of : GroupWord → ℕ
bits_of w = cast_unsigned w32 w.counter * 2 ^ 32 + w.waits

-- the word that a number shows
abbrev pub word_in : ℕ → GroupWord
word_in n = record { counter = cast_signed w32 (n / 2 ^ 32); waits = n % 2 ^ 32 }

-- the counter is from -2^31 to 2^31 - 1, and the waits are below 2^32
abbrev pub IsGroupWord : GroupWord → Type 0
IsGroupWord w = FitsSigned w32 w.counter × (w.waits < 2 ^ 32)

-- d in the high half: d * 2^32 modulo 2^64
abbrev pub high : ℤ → ℕ
high d = cast_unsigned w32 d * 2 ^ 32

-- what a row makes of a number
abbrev pub bits_after : GroupRow → ℕ → ℕ
bits_after (G1 d) n = (n + high d) % 2 ^ 64
bits_after (G2 seen) n = n
bits_after (G3 seen) n = 0
bits_after (V1 ending) n = n
bits_after (V2 ending seen) n = if n == bits_of seen then (n + 1) % 2 ^ 64 else n
bits_after (V3 ending) n = n
bits_after (V4 how) n = n
bits_after (V5 how seen) n = if n == bits_of seen then n - 1 else n

-- a row that compares what it finds with a word does so with one of 64 bits, and takes a wait out only of one that
-- counts some
abbrev pub ComparesWord : GroupRow → Type 0
ComparesWord (G2 seen) = IsGroupWord seen
ComparesWord (V2 ending seen) = IsGroupWord seen
ComparesWord (V5 how seen) = IsGroupWord seen × (0 < seen.waits)
ComparesWord _ = Unit {0}

-- words are numbers below 2^64 and those are words, each way and back; equal words are equal numbers. An add
-- to the high half is an add of so many times 2^32 modulo 2^64; one more wait is 1 more modulo 2^64, with the
-- carry from the low half into the high one and off the top; one wait less is 1 less; and the empty word is 0. And
-- so each row does to the number what it does to the word
pub record TheGroupWords : Type 0 where
  pub below : (w : GroupWord) → IsGroupWord w → bits_of w < 2 ^ 64
  pub words : (n : ℕ) → n < 2 ^ 64 → IsGroupWord (word_in n)
  pub back : (w : GroupWord) → IsGroupWord w → word_in (bits_of w) ≡ w
  pub forth : (n : ℕ) → n < 2 ^ 64 → bits_of (word_in n) ≡ n
  pub same : (a b : GroupWord) → IsGroupWord a → IsGroupWord b → same_word a b ≡ (bits_of a == bits_of b)
  pub adds : (w : GroupWord) (d : ℤ) → IsGroupWord w → bits_of (plus w d) ≡ (bits_of w + high d) % 2 ^ 64
  pub highs : (d : ℤ) → FitsSigned w32 d
      → (high d ≡ cast_unsigned w64 (d *ℤ pos (2 ^ 32))) × (high d ≡ (cast_unsigned w64 d * 2 ^ 32) % 2 ^ 64)
  pub waits : (w : GroupWord) → IsGroupWord w → bits_of (one_more w) ≡ (bits_of w + 1) % 2 ^ 64
  pub less : (w : GroupWord) → 0 < w.waits → bits_of (one_less w) ≡ bits_of w - 1
  pub empty : bits_of empty_word ≡ 0
  pub kept : (w : GroupWord) (row : GroupRow) → IsGroupWord w → IsGroupWord (group_row row w).0
  pub rows : (w : GroupWord) (row : GroupRow) → IsGroupWord w → ComparesWord row
      → bits_of (group_row row w).0 ≡ bits_after row (bits_of w)
  pub shown : (n : ℕ) (row : GroupRow) → n < 2 ^ 64 → ComparesWord row
      → word_in (bits_after row n) ≡ (group_row row (word_in n)).0
