-- Where words lie, and what a write changes.
use Rattle.std.proofs.Common.{◌≡◌, ◌≢◌, ℕ, ◌<◌, ◌≤◌, List, refl, ap, ◌∙◌, arith, length-set, get_or-set_other}
use Rattle.waiters.specs.declared.wait.Wait as waiters
use Rattle.step_table.specs.declared.list_place.ListWord.{ListWord}
use Rattle.step_table.specs.declared.list_place.ListWord.TheVariants.{Wait, Notify, Lock, Grant}
use Rattle.step_table.specs.ListWorld.{Numbers, ListWords, found, written}
use Rattle.step_table.specs.World.{put}
use Rattle.step_table.proofs.Sums.{put_here, put_else}
use Rattle.running_rows.specs.Owing.{IsAside}
use Rattle.notify_list.specs.declared.view.Setting.{Setting}
use Rattle.notify_list.specs.Setting.{address, words_shown, words_in, IsThere}
use Rattle.notify_list.specs.Rows.{list_rows}

-- a word after a write: the new number, or what it was
pub written_word : (g : ListWords) (numbers : Numbers) (queue : List waiters.Wait) (gone : List ℕ) (w u : ListWord) (x : ℕ)
    → (address u ≡ address w → found (record (written g w x) { numbers = numbers; queue = queue; gone = gone }) u ≡ x)
    × (address u ≢ address w → found (record (written g w x) { numbers = numbers; queue = queue; gone = gone }) u ≡ found g u)
written_word g m q l Wait Wait x = ((λ e. refl), (λ ne. absurd (ne refl)))
written_word g m q l Wait Notify x = ((λ e. absurd (omega arith)), (λ ne. refl))
written_word g m q l Wait Lock x = ((λ e. absurd (omega arith)), (λ ne. refl))
written_word g m q l Wait (Grant d) x = ((λ e. absurd (omega arith)), (λ ne. refl))
written_word g m q l Notify Wait x = ((λ e. absurd (omega arith)), (λ ne. refl))
written_word g m q l Notify Notify x = ((λ e. refl), (λ ne. absurd (ne refl)))
written_word g m q l Notify Lock x = ((λ e. absurd (omega arith)), (λ ne. refl))
written_word g m q l Notify (Grant d) x = ((λ e. absurd (omega arith)), (λ ne. refl))
written_word g m q l Lock Wait x = ((λ e. absurd (omega arith)), (λ ne. refl))
written_word g m q l Lock Notify x = ((λ e. absurd (omega arith)), (λ ne. refl))
written_word g m q l Lock Lock x = ((λ e. refl), (λ ne. absurd (ne refl)))
written_word g m q l Lock (Grant d) x = ((λ e. absurd (omega arith)), (λ ne. refl))
written_word g m q l (Grant c) Wait x = ((λ e. absurd (omega arith)), (λ ne. refl))
written_word g m q l (Grant c) Notify x = ((λ e. absurd (omega arith)), (λ ne. refl))
written_word g m q l (Grant c) Lock x = ((λ e. absurd (omega arith)), (λ ne. refl))
written_word g m q l (Grant c) (Grant d) x =
    ((λ e. ap (put g.grants c x) (omega arith) ∙ put_here g.grants c x), (λ ne. put_else g.grants c x d (λ q. ne (omega arith))))

pub shown : (z : Setting) (w : ListWord) → IsThere z w → address w < words_shown z
shown z Wait h = omega arith
shown z Notify h = omega arith
shown z Lock h = omega arith
shown z (Grant s) h = omega arith

pub inside : (z : Setting) (w : ListWord) → IsThere z w → address w < words_in z
inside z w h = let low = shown z w h in omega arith

-- the world knows nothing of the words behind those
pub wakes_aside : (z : Setting) (i : ℕ) → words_shown z ≤ i → IsAside list_rows z i
wakes_aside z i far world words homes x at = record {
  met = at.met;
  words = λ w h. get_or-set_other words i (address w) x 0 (λ e. let low = shown z w h in absurd (omega arith)) ∙ at.words w h;
  home = at.home;
  wide = length-set words i x ∙ at.wide;
  deep = at.deep;
  few = at.few;
}
