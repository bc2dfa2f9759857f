-- Lemmas on items that become those of others, one after the other.
use Rattle.std.proofs.Common.{◌≡◌, ℕ, ◌+◌, ◌<◌, ◌≤◌, List, [], ◌∷◌, ◌++◌, length, get_or, set, take, sym, ap, ◌∙◌, arith}
use Rattle.std.proofs.lemmas.List.{length-set, take_all, take_more, take_more_set}

module _ {T : Type 0} where
  -- so many of the first items are those of the others, and there are as many in all
  pub record AreCopied (items others : List T) (at : ℕ) : Type 0 where
    pub counted : length items ≡ length others
    pub same : take at items ≡ take at others

  pub AreCopied-next : (items others : List T) (at : ℕ) (new other : T) → at < length others → other ≡ get_or others at other → new ≡ other
      → AreCopied items others at → AreCopied (set items at new) others (at + 1)
  AreCopied-next items others at new other within found is copied = record {
    counted = length-set items at new ∙ copied.counted;
    same = take_more_set items at new (omega (arith, copied.counted))
        ∙ ap (λ front. front ++ new ∷ []) copied.same
        ∙ ap (λ item. take at others ++ item ∷ []) (is ∙ found)
        ∙ sym (take_more others at other within);
  }

  pub AreCopied-done : (items others : List T) (at : ℕ) → length others ≤ at → AreCopied items others at → items ≡ others
  AreCopied-done items others at done copied =
      sym (take_all at items (omega (arith, copied.counted))) ∙ copied.same ∙ take_all at others done
