-- The four kinds of step lead on, and tell which row ran.
use Rattle.std.proofs.Common.{◌≡◌, ◌≢◌, ℕ, ◌+◌, ◌*◌, ◌/◌, ◌%◌, ◌<◌, ◌==◌, if◌then◌else◌, Bool, ℤ, [], ◌∷◌}
use Rattle.std.proofs.Common.{◌++◌, sym, refl, ap, ◌∙◌, subst, arith, eq-eqb}
use Rattle.std.proofs.Common.{ne_eqb, eqb-true}
use Rattle.std.specs.Prelude.{FitsSigned}
use Rattle.std.specs.Int.{w32, cast_signed, cast_unsigned}
use Rattle.std.proofs.lemmas.Int.{ints, to_z-of_z}
use Rattle.std.proofs.lemmas.Bool.Decides.{Decides-eqb, same_from_decides}
use mathlib.Core.Option.{none}
use prog.Atomic.{either}
use Rattle.running_rows.specs.Table as atomic
use Rattle.running_rows.proofs.Lists.{exchanged}
use Rattle.step_table.specs.declared.group_word.GroupWord.{GroupWord}
use Rattle.step_table.specs.declared.standing.GroupRow.{GroupRow}
use Rattle.step_table.specs.declared.standing.GroupRow.TheVariants.{G1, G2, G3, V1, V2, V3, V4, V5}
use Rattle.step_table.specs.declared.standing.GroupNext.{GroupNext}
use Rattle.step_table.specs.declared.standing.GroupNext.TheVariants.{Ends, Goes, Fails, Acquires, Releases, SleepsOn, Withdraws}
use Rattle.step_table.specs.Group.{group_row, plus, same_word}
use Rattle.step_table.specs.GroupBits.{bits_of, word_in, high, bits_after, ComparesWord, IsGroupWord}
use Rattle.step_table.proofs.GroupBits.{the_group_words}
use Rattle.running_rows.specs.Strides.{RanRow, here, runs_access, runs_store}
use Rattle.running_rows.specs.Owing.{Owes}
use Rattle.running_rows.specs.Parking.{back_at}
use Rattle.sync_parts.specs.declared.group_view.GroupKnown.{GroupKnown}
use Rattle.sync_parts.specs.GroupRule.{Follows, group_rows}
use Rattle.sync_parts.specs.GroupPlays.{Me, Token, Steps, step, stepped, load_row, given_up, at_row, at_add, at_load, at_leave}
use Rattle.sync_parts.proofs.GroupKeeping.{owes, led}

-- what was added to the high half is d
pub begins_add : (d : ℤ) (more : ℕ) → FitsSigned w32 d → more ≡ high d → cast_signed w32 (more / 4294967296) ≡ d
begins_add d more fits is = ap (cast_signed w32) (omega (arith, is)) ∙ to_z-of_z w32 d fits

pub add_owes : (seats slots : ℕ) (m : Me) (d : ℤ) (more : ℕ) → FitsSigned w32 d → more ≡ high d → Follows m.0.own.knows.next (G1 d)
    → Owes group_rows seats m 0 (λ n. (n + more) % 18446744073709551616) (runs_access group_rows at_add (atomic.step slots 0 more 0 none) m)
add_owes seats slots m d more fits is follows =
    owes seats m (G1 d) follows (λ n. (n + more) % 18446744073709551616)
    (λ n below. ap (λ (k : ℕ). word_in ((n + k) % 18446744073709551616)) is ∙ the_group_words.shown n (G1 d) below tt)
    (at_add (atomic.step slots 0 more 0 none)) (ap (λ (x : ℤ). at_row (G1 x) m.0.own.knows) (begins_add d more fits is))

-- a load leaves the word
load_keeps : (next : GroupNext) (w : GroupWord) → w ≡ (group_row (load_row next) w).0
load_keeps Ends w = refl
load_keeps (Goes (G1 d)) w = refl
load_keeps (Goes (G2 seen)) w = refl
load_keeps (Goes (G3 seen)) w = refl
load_keeps (Goes (V1 ending)) w = refl
load_keeps (Goes (V2 ending seen)) w = refl
load_keeps (Goes (V3 ending)) w = refl
load_keeps (Goes (V4 how)) w = refl
load_keeps (Goes (V5 how seen)) w = refl
load_keeps (Fails misuse) w = refl
load_keeps (Acquires ending) w = refl
load_keeps (Releases n) w = refl
load_keeps (SleepsOn how) w = refl
load_keeps (Withdraws how) w = refl

pub load_owes : (seats slots : ℕ) (m : Me) → Follows m.0.own.knows.next (load_row m.0.own.knows.next)
    → Owes group_rows seats m 0 (λ n. n) (runs_access group_rows at_load (atomic.step slots 0 0 0 none) m)
load_owes seats slots m follows =
    owes seats m (load_row m.0.own.knows.next) follows (λ n. n) (λ n below. load_keeps m.0.own.knows.next (word_in n))
    (at_load (atomic.step slots 0 0 0 none)) refl

pub leave_owes : (seats slots : ℕ) (m : Me) → Follows m.0.own.knows.next (V4 given_up)
    → Owes group_rows seats m 0 (λ n. n) (runs_access group_rows at_leave (atomic.step slots 0 0 0 none) m)
leave_owes seats slots m follows =
    owes seats m (V4 given_up) follows (λ n. n) (λ n below. refl) (at_leave (atomic.step slots 0 0 0 none)) refl

-- a seat that goes to a row is at it
standing : (row : GroupRow) (v : GroupKnown) → v.next ≡ Goes row → v ≡ at_row row v
standing row v e i = record v { next = e i }

-- an exchange of this row, for the bits of the word that was seen
module _ (row : GroupRow) (seen : GroupWord) (change : ℕ → ℕ) (compares : ComparesWord row)
    (after : (n : ℕ) → bits_after row n ≡ (if n == bits_of seen then change n else n)) where
  pub exchange_owes : (seats slots : ℕ) (m : Me) (old new : ℕ) → m.0.own.knows.next ≡ Goes row → old ≡ bits_of seen → new ≡ change old
      → Owes group_rows seats m 0 (λ n. either (n == old) new n) (runs_access group_rows (λ st. here) (atomic.step slots 0 old new none) m)
  exchange_owes seats slots m old new at old_is new_is =
      owes seats m row (subst (λ (k : GroupNext). Follows k row) (sym at) refl) (λ n. either (n == old) new n)
      (λ n below. ap word_in (exchanged n old new (λ y. y ≡ bits_after row n) (won n) (lost n)) ∙ the_group_words.shown n row below compares)
      here (standing row m.0.own.knows at)
    where
      won : (n : ℕ) → n ≡ old → new ≡ bits_after row n
      won n e = new_is ∙ ap change (sym e)
          ∙ ap (λ (b : Bool). if b then change n else n) (sym (eq-eqb n (bits_of seen) (e ∙ old_is))) ∙ sym (after n)

      lost : (n : ℕ) → n ≢ old → n ≡ bits_after row n
      lost n ne = ap (λ (b : Bool). if b then change n else n) (sym (ne_eqb n (bits_of seen) (λ e. ne (e ∙ sym old_is)))) ∙ sym (after n)

pub store_owes : (seats slots : ℕ) (m : Me) (seen : GroupWord) → m.0.own.knows.next ≡ Goes (G3 seen)
    → Owes group_rows seats m 0 (λ _. 0) (λ _. runs_store group_rows (λ st. here) (atomic.step slots 0 0 0 none) m 0)
store_owes seats slots m seen at s words homes stands =
    let o = led seats m (G3 seen) (subst (λ (k : GroupNext). Follows k (G3 seen)) (sym at) refl) (λ _. 0) (λ n below. refl) s words homes stands
    here (standing (G3 seen) m.0.own.knows at) in record {
      next = o.next;
      own = o.own;
      act = o.act;
      valid = o.valid;
      shows = o.shows;
      same = o.same;
      of_is = o.of_is;
      knows = o.knows;
      on = o.on;
      others = o.others;
      tells = (_, o.tells);
    }

-- what a step of this row told
pub ran_steps : (s t : Token) (begin : GroupKnown → GroupKnown) (row : GroupRow) (n : ℕ) → (begin s.me.0.own.knows).next ≡ Goes row
    → t.table_id ≡ s.table_id → RanRow group_rows begin s.me n t.me → Steps s row (word_in n) t
ran_steps s t begin row n begins table told = record {
  word = subst IsGroupWord told.0.read told.0.also.word;
  table_is = table;
  me_is = told.1 ∙ (λ i. (record s.me.0 { own = own_is i; parking = back_at s.me.0.parking t.me.0.parking }, s.me.1));
}
  where
    goes_to : GroupNext → GroupRow
    goes_to (Goes r) = r
    goes_to _ = row

    row_is : told.0.stride.row ≡ row
    row_is = ap goes_to (sym told.0.also.row ∙ begins)

    stride_is : told.0.stride ≡ step row (word_in n)
    stride_is i = record { row = row_is i; found = told.0.read i }

    own_is : t.me.0.own ≡ (stepped row (word_in n) s.me.0).own
    own_is i = record {
      number = told.0.same.0 i;
      knows = record {
        seats = told.0.same.1 i;
        next = (told.0.also.next ∙ (λ j. (group_row (row_is j) (told.0.read j)).1)) i;
      };
      gone = (told.0.one ∙ (λ j. s.me.0.own.gone ++ stride_is j ∷ [])) i;
    }

-- a token is somebody's whose words have as many seats as another's
pub still_some : {a b : ℕ} → b ≡ a → 0 < a → 0 < b
still_some e some = subst (λ n. 0 < n) (sym e) some

-- the bits of d moved up by 32
shifted : (k : ℕ) → k < 4294967296 → (k * 4294967296) % 18446744073709551616 ≡ k * 4294967296
shifted k few = omega arith

pub more_is : (d : ℤ) (a b : ℕ) → FitsSigned w32 d → a ≡ cast_unsigned w32 (cast_signed w32 (cast_unsigned w32 d)) → b ≡ a
    → (b * 4294967296) % 18446744073709551616 ≡ high d
more_is d a b fits e h = ap (λ (k : ℕ). (k * 4294967296) % 18446744073709551616) (h ∙ e ∙ ap (cast_unsigned w32) (to_z-of_z w32 d fits))
    ∙ shifted (cast_unsigned w32 d) (omega (arith, ints))

-- the word after an add is the word found, with d added
pub added_is : (d : ℤ) (n more : ℕ) → n < 18446744073709551616 → more ≡ high d
    → word_in ((n + more) % 18446744073709551616) ≡ plus (word_in n) d
added_is d n more below is = ap (λ (k : ℕ). word_in ((n + k) % 18446744073709551616)) is ∙ the_group_words.shown n (G1 d) below tt

swapped : (a b : ℕ) → (a == b) ≡ (b == a)
swapped a b = same_from_decides (a == b) (b == a) (Decides-eqb a b) ((λ e. sym (eqb-true b a e)), (λ e. eq-eqb b a (sym e)))

-- an exchange is won where the word was the one seen
pub won_is : (seen : GroupWord) (n bits : ℕ) → IsGroupWord seen → n < 18446744073709551616 → bits ≡ bits_of seen
    → (n == bits) ≡ same_word seen (word_in n)
won_is seen n bits is below e =
    swapped n bits ∙ (λ i. e i == (sym (the_group_words.forth n below)) i)
    ∙ sym (the_group_words.same seen (word_in n) is (the_group_words.words n below))
