-- Journals of which one goes on from the other, and the entries of one seat that come between.
use Rattle.std.proofs.Common.{◌≡◌, ℕ, true, cond, List, [], ◌∷◌, ◌++◌, refl, sym, ap, ◌∙◌, append_assoc, append-nil}
use Rattle.std.specs.List.{filter}
use Rattle.std.proofs.lemmas.List.{append_cancel_left}
use Rattle.std.proofs.lemmas.List.Elements.{filter-append}
use Rattle.step_table.specs.ListWorld.{ListEntry}
use Rattle.step_table.specs.Path.{GoesOn}
use Rattle.step_law_lists.specs.ListLawful.{Follows}
use Rattle.step_law_lists.specs.ListPath.{is_own}

-- a beginning of a lawful journal is lawful
pub follows_first : (journal seen : List ListEntry) → GoesOn journal seen → Follows journal → Follows seen
follows_first journal seen later follows before after e is =
    follows before (after ++ later.more) e (later.is ∙ ap (λ l. l ++ later.more) is ∙ append_assoc before (e ∷ after) later.more)

-- where nothing is two parts in a row, both are nothing
pub none_first : (a b : List ListEntry) → a ++ b ≡ [] → a ≡ []
none_first [] b is = refl
none_first (x ∷ a) b is = absurd cc

pub none_rest : (a b : List ListEntry) → a ++ b ≡ [] → b ≡ []
none_rest [] b is = is
none_rest (x ∷ a) b is = absurd cc

-- one entry is a row of three parts whose middle is one entry: the others are none
alone : (a b : List ListEntry) (e f : ListEntry) → a ++ f ∷ b ≡ e ∷ [] → (a ≡ []) × (f ≡ e)
alone [] b e f is = (refl, cc)
alone (x ∷ []) b e f is = absurd cc
alone (x ∷ y ∷ a) b e f is = absurd cc

-- the seat's own entries
abbrev pub own_of : ℕ → List ListEntry → List ListEntry
own_of i journal = filter (is_own i) journal

own_more : (i : ℕ) (journal seen : List ListEntry) (later : GoesOn journal seen) → own_of i journal ≡ own_of i seen ++ own_of i later.more
own_more i journal seen later = ap (own_of i) later.is ∙ filter-append (is_own i) seen later.more

-- a seat that has told nothing from one journal to the next has told nothing to one between
pub own_between : (i : ℕ) (seen journal now : List ListEntry) → GoesOn journal seen → GoesOn now journal → own_of i now ≡ own_of i (seen ++ [])
    → own_of i journal ≡ own_of i seen
own_between i seen journal now one two own =
    let more : own_of i one.more ++ own_of i two.more ≡ [] = append_cancel_left (own_of i seen) (own_of i one.more ++ own_of i two.more) [] (
    sym (append_assoc (own_of i seen) (own_of i one.more) (own_of i two.more)) ∙ ap (λ l. l ++ own_of i two.more)
    (sym (own_more i journal seen one)) ∙ sym (own_more i now journal two)
    ∙ own ∙ filter-append (is_own i) seen []
    ) in
    own_more i journal seen one ∙ ap (λ l. own_of i seen ++ l) (none_first (own_of i one.more) (own_of i two.more) more) ∙ append-nil (own_of i seen)

-- one that has told one entry of its own, and has told this one after that journal, had told nothing till then, and this is the entry
pub own_before : (i : ℕ) (seen journal now : List ListEntry) (e f : ListEntry) → GoesOn journal seen → GoesOn now (journal ++ f ∷ [])
    → own_of i now ≡ own_of i (seen ++ e ∷ []) → is_own i e ≡ true → is_own i f ≡ true → (own_of i journal ≡ own_of i seen) × (f ≡ e)
own_before i seen journal now e f one two own e_own f_own =
    let a = own_of i one.more in let b = own_of i two.more in
    let e_is : own_of i (e ∷ []) ≡ e ∷ [] = ap (λ t. cond t (e ∷ []) []) e_own in
    let f_is : own_of i (f ∷ []) ≡ f ∷ [] = ap (λ t. cond t (f ∷ []) []) f_own in
    let here : own_of i (journal ++ f ∷ []) ≡ own_of i seen ++ (a ++ f ∷ []) =
    filter-append (is_own i) journal (f ∷ []) ∙ (λ k. own_more i journal seen one k ++ f_is k) ∙ append_assoc (own_of i seen) a (f ∷ []) in
    let more : a ++ f ∷ b ≡ e ∷ [] = append_cancel_left (own_of i seen) (a ++ f ∷ b) (e ∷ []) (
    ap (λ l. own_of i seen ++ l) (sym (append_assoc a (f ∷ []) b)) ∙ sym (append_assoc (own_of i seen) (a ++ f ∷ []) b) ∙ ap (λ l. l ++ b) (sym here)
    ∙ sym (own_more i now (journal ++ f ∷ []) two) ∙ own ∙ filter-append (is_own i) seen (e ∷ []) ∙ ap (λ l. own_of i seen ++ l) e_is
    ) in
    let parts = alone a b e f more in
    (own_more i journal seen one ∙ ap (λ l. own_of i seen ++ l) parts.0 ∙ append-nil (own_of i seen), parts.1)
