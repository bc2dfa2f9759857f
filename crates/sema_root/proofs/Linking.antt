-- One link of a tree is written, after the nodes on that side have changed.
use Rattle.std.proofs.Common.{◌≡◌, ◌≢◌, ℕ, [], ◌∷◌, ◌++◌, Option, Some}
use Rattle.std.proofs.Common.{refl, sym, ap, ◌∙◌}
use Rattle.slab.specs.Slab.{Slab, get, Updates}
use Rattle.sema_root.specs.declared.nodes.Node.{Node}
use Rattle.sema_root.specs.Entries.{AreRising}
use Rattle.sema_root.specs.Tree.{Tree, fork, entries}
use Rattle.sema_root.specs.Linked.{sprig, Stands, Lacks, Keeps}
use Rattle.sema_root.proofs.Rising.{All-append_left, All-append_right, All-weaken, Rising-below, Rising-above}
use Rattle.sema_root.proofs.Seeking.{entry}
use Rattle.sema_root.proofs.Standing.{Listed, Apart, Apart-rising, Apart-sym, Lacks-above, Lacks-below, Stands-kept}

-- round an entry of a rising list, the two sides lack it and share no counter
pub record Around (c : ℕ) (xs ys : Listed) : Type 0 where
  pub before : Lacks c xs
  pub behind : Lacks c ys
  pub apart : Apart xs ys
  pub apart_back : Apart ys xs

pub Around-rising : (e : ℕ × (ℕ × ℕ)) (xs ys : Listed) → AreRising (xs ++ e ∷ ys) → Around e.0 xs ys
Around-rising e xs ys rising =
    let whole = Apart-rising xs (e ∷ ys) rising in
    record {
      before = Lacks-below e.0 xs (Rising-below e.0 e.1 xs ys rising);
      behind = Lacks-above e.0 ys (Rising-above e.0 e.1 xs ys rising);
      apart = All-weaken _ _ (λ x lacks. lacks.1) xs whole;
      apart_back = (Apart-sym xs (e ∷ ys) whole).1;
    }

-- where a list lacks a counter, so do its parts
pub Lacks-parts : (c : ℕ) (xs ys : Listed) → Lacks c (xs ++ ys) → Lacks c xs × Lacks c ys
Lacks-parts c xs ys lacks = (All-append_left _ xs ys lacks, All-append_right _ xs ys lacks)

-- a node that is written over under the same counter
pub Keeps-updated : (old new : Slab Node) (at : ℕ) (node changed : Node) → get old at ≡ Some node → Updates old new at (Some changed)
    → new.capacity ≡ old.capacity → Keeps old new (entry (sprig node) ∷ [])
Keeps-updated old new at node changed got updates capacity = record {
  others = λ other found is lacks.
      let apart : other ≢ at = λ same. (let one : found ≡ node = cc in lacks.0 (sym (ap (λ n. n.counter) one))) in
      updates.others other apart ∙ is;
  capacity = capacity;
}

-- what two changes in a row keep
pub Keeps-both : (old mid new : Slab Node) (first second both : Listed) → Keeps old mid first → Keeps mid new second
    → ((c : ℕ) → Lacks c both → Lacks c first × Lacks c second) → Keeps old new both
Keeps-both old mid new first second both to_mid to_new covers = record {
  others = λ at node is lacks.
      let parts = covers node.counter lacks in
      to_new.others at node (to_mid.others at node is parts.0) parts.1;
  capacity = to_new.capacity ∙ to_mid.capacity;
}

pub Apart-one : (e : ℕ × (ℕ × ℕ)) (xs : Listed) → Lacks e.0 xs → Apart xs (e ∷ [])
Apart-one e xs lacks = All-weaken _ _ (λ x differs. (λ same. differs (sym same), tt)) xs lacks

-- after the nodes of one side changed, a link of the node above was written
pub record Rehangs (old mid new : Slab Node) (at : ℕ) (node : Node) (tree : Tree ℕ) (changed : Listed) : Type 0 where
  pub stands : Stands new (Some at) tree
  pub keeps : Keeps old new changed
  pub later : Keeps mid new (entry (sprig node) ∷ [])

module _ (old mid new : Slab Node) (at : ℕ) (node : Node) (link : Option ℕ) (whole : Listed) (got : get old at ≡ Some node)
    (capacity : new.capacity ≡ mid.capacity) where
  pub Rehangs-left : (xs : Listed) (below : Tree ℕ) (right : Tree ℕ) → AreRising (xs ++ entry (sprig node) ∷ entries right)
      → Keeps old mid xs → Stands mid link below → Lacks node.counter (entries below) → Stands old node.right right
      → ((found : Node) → get mid at ≡ Some found → Updates mid new at (Some (record found { left = link })))
      → ((c : ℕ) → Lacks c whole → Lacks c xs × (node.counter ≢ c))
      → Rehangs old mid new at node (fork below (sprig node) right) whole
  unfolding Stands
  Rehangs-left xs below right rising keeps stands lacks on_right updates covers =
      let around = Around-rising (entry (sprig node)) xs (entries right) rising in
      let there : get mid at ≡ Some node = keeps.others at node got around.before in
      let later = Keeps-updated mid new at node (record node { left = link }) there (updates node there) capacity in
      let right_mid = Stands-kept old mid xs keeps node.right right around.apart_back on_right in
      record {
        stands = (
          at,
          record node { left = link },
          refl,
          (updates node there).changed,
          refl,
          Stands-kept mid new _ later link below (Apart-one (entry (sprig node)) (entries below) lacks) stands,
          Stands-kept mid new _ later node.right right (Apart-one (entry (sprig node)) (entries right) around.behind) right_mid,
        );
        keeps = Keeps-both old mid new xs _ whole keeps later (λ c lacked. let parts = covers c lacked in (parts.0, (parts.1, tt)));
        later = later;
      }

  pub Rehangs-right : (ys : Listed) (below : Tree ℕ) (left : Tree ℕ) → AreRising (entries left ++ entry (sprig node) ∷ ys)
      → Keeps old mid ys → Stands mid link below → Lacks node.counter (entries below) → Stands old node.left left
      → ((found : Node) → get mid at ≡ Some found → Updates mid new at (Some (record found { right = link })))
      → ((c : ℕ) → Lacks c whole → Lacks c ys × (node.counter ≢ c))
      → Rehangs old mid new at node (fork left (sprig node) below) whole
  unfolding Stands
  Rehangs-right ys below left rising keeps stands lacks on_left updates covers =
      let around = Around-rising (entry (sprig node)) (entries left) ys rising in
      let there : get mid at ≡ Some node = keeps.others at node got around.behind in
      let later = Keeps-updated mid new at node (record node { right = link }) there (updates node there) capacity in
      let left_mid = Stands-kept old mid ys keeps node.left left around.apart on_left in
      record {
        stands = (
          at,
          record node { right = link },
          refl,
          (updates node there).changed,
          refl,
          Stands-kept mid new _ later node.left left (Apart-one (entry (sprig node)) (entries left) around.before) left_mid,
          Stands-kept mid new _ later link below (Apart-one (entry (sprig node)) (entries below) lacks) stands,
        );
        keeps = Keeps-both old mid new ys _ whole keeps later (λ c lacked. let parts = covers c lacked in (parts.0, (parts.1, tt)));
        later = later;
      }
