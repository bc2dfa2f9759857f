-- A path on the word of one wait group is its rows, each with the word that it found.
use Rattle.std.proofs.Common.{◌≡◌, ℕ, true, false, IsTrue, [], refl, sym, ap, ◌∙◌, subst}
use Rattle.step_table.specs.declared.group_word.GroupWord.{GroupWord}
use Rattle.step_table.specs.declared.standing.GroupNext.{GroupNext}
use Rattle.step_table.specs.declared.standing.GroupNext.TheVariants.{Ends, Goes, Fails, Acquires, Releases, SleepsOn, Withdraws}
use Rattle.step_table.specs.declared.standing.GroupRow.{GroupRow}
use Rattle.step_table.specs.declared.standing.GroupRow.TheVariants.{G1, G2, G3, V1, V2, V3, V4, V5}
use Rattle.step_table.specs.Group.{group_row}
use Rattle.step_table.specs.GroupBits.{IsGroupWord}
use Rattle.step_table.specs.Path.{Deed, runs, looks, Did}
use Rattle.step_table.specs.GroupPath.{GroupWorld, next_event, GroupSight, GroupStride, lone_group, GroupRan, going, ran_row, looked, GroupDid, TheGroupPaths}
use Rattle.step_table.proofs.Sums.{put_here}
use Rattle.step_table.proofs.Paths.{are_paths, goes_on_here}

-- the world in which every seat goes on so
abbrev whole : GroupWord → GroupNext → GroupWorld
whole w next = record { word = w; nexts = λ k. next }

row_can : (row : GroupRow) (w : GroupWord) → IsTrue ((next_event (Goes row)).can w)
row_can (G1 d) w = search
row_can (G2 seen) w = search
row_can (G3 seen) w = search
row_can (V1 ending) w = search
row_can (V2 ending seen) w = search
row_can (V3 ending) w = search
row_can (V4 how) w = search
row_can (V5 how seen) w = search

pub group_rows : (i : ℕ) (row : GroupRow) (w : GroupWord) → IsGroupWord w
    → GroupRan i (going (Goes row)) (ran_row row w) (going (group_row row w).1)
group_rows i row w is = record {
  world = whole w (Goes row);
  meets = record { met = is; stands = refl; later = goes_on_here []; quiet = refl };
  stood = refl;
  seen = refl;
  did = record {
    can = row_can row w;
    read_is = refl;
    told_is = refl;
    leads = λ j. record { stands = sym (put_here (λ k. Goes row) i (group_row row w).1) j; seen = [] };
  };
}

pub group_looked : (i : ℕ) (next : GroupNext) (w : GroupWord) → IsGroupWord w → GroupRan i (going next) (looked next w) (going next)
group_looked i next w is = record {
  world = whole w next;
  meets = record { met = is; stands = refl; later = goes_on_here []; quiet = refl };
  stood = refl;
  seen = refl;
  did = record { read_is = refl; told_is = refl; leads = refl };
}

-- only a seat that goes to a row can run one
goes_to_row : (next : GroupNext) (w : GroupWord) → IsTrue ((next_event next).can w) → (row : GroupRow) × (next ≡ Goes row)
goes_to_row (Goes row) w can = (row, refl)
goes_to_row Ends w can = absurd (let no : false ≡ true = can in cc)
goes_to_row (Fails misuse) w can = absurd (let no : false ≡ true = can in cc)
goes_to_row (Acquires ending) w can = absurd (let no : false ≡ true = can in cc)
goes_to_row (Releases n) w can = absurd (let no : false ≡ true = can in cc)
goes_to_row (SleepsOn how) w can = absurd (let no : false ≡ true = can in cc)
goes_to_row (Withdraws how) w can = absurd (let no : false ≡ true = can in cc)

pub group_strides : (i : ℕ) (v w : GroupSight) (p : GroupStride) → GroupRan i v p w
    → IsGroupWord p.read × (p.stood ≡ v.stands) × GroupDid p w p.deed
group_strides i v w p r = (subst IsGroupWord (sym (read_is p.deed r.did)) r.meets.met, r.stood, by p.deed r.did)
  where
    s : GroupWorld
    s = r.world

    stood_is : p.stood ≡ s.nexts i
    stood_is = r.stood ∙ sym r.meets.stands

    read_is : (d : Deed (Unit {0})) → Did lone_group s i d p.read p.told w → p.read ≡ s.word
    read_is runs did = did.read_is
    read_is (looks g) did = did.read_is

    by : (d : Deed (Unit {0})) → Did lone_group s i d p.read p.told w → GroupDid p w d
    by runs did =
        let row : (row : GroupRow) × (s.nexts i ≡ Goes row) = goes_to_row (s.nexts i) s.word did.can in (
          row.0,
          stood_is ∙ row.1,
          ap (λ (z : GroupSight). z.stands) did.leads
              ∙ put_here s.nexts i ((next_event (s.nexts i)).leads s.word)
              ∙ (λ j. (next_event (row.1 j)).leads (sym did.read_is j)),
        )
    by (looks g) did = ap (λ (z : GroupSight). z.stands) did.leads ∙ sym stood_is

pub the_group_paths : TheGroupPaths
the_group_paths = record { paths = are_paths lone_group; rows = group_rows; looked = group_looked; strides = group_strides }
