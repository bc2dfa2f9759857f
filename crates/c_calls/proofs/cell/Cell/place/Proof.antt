-- `place` lends the place, and the cell follows it.
use Rattle.atomic_table.proofs.Names.{◌≡◌, ℕ, List, [], ◌∷◌, refl, sym, ap, ◌∙◌, named, Val, SProp, ent, sep, fst∗, Lft, Share, Fml, ftrue, fsep, flft, ‵, raw, ◌⊛◌, some, later, at_ret, ◌$◌, ◌∵◌, !, qed, by, move, keep, drop, split, join, fsplit, fsplit3, fjoin, fpack, pick, await, group, use0, use1, rewrite, suffices, stop, fld, of_opd, load, addr, first, blocks, exec, returns, enter, alloc_all, pass_all, free_all, look_at, get, through, sets, sets_last, env, sub, whole, look_in, no, RattleType, owns, Ptr, block_ptr, nothing, on_entry, Stays, stay_dropped, walk_of, walk_Meets, Goes-spent_ref, ends_at, fact, cell_at, part_at, mem, Logic, sem, plain, opens, peeks, Is, shows, heard, length}
use seplogic.Ra.Ura.{Ura}
use base.Fml.{GName}
use base.Fraction.{full_share}
use base.Logic.{never}
use mir.Val.{vptr}
use mir.Raw.{raw as bare}
use prog.Memory.{Memory}
use prog.Routine.{Routine}
use prog.Wp.{Calls, Loops, WpFn, Tables, Env}
use contract.Monad.{Fun}
use contract.Running.{tables, tables_of}
use sound.WpLaws.{WpFn-mono}
use types.Kit.{frame, done}
use denote.Follow.{follows, Part, lends_Part}
use denote.Memory.{part_of}
use denote.RawPtr.{null_ptr, in_a_block}
use denote.Ref.{MutRef, mut_vals, mut_Tells}
use denote.Signature.{mut_ref_to}
use denote.Triple.Spec.{Meets, triple_of}
use denote.Triple.Table.{entered}
use denote.Triple.Walked.{says, walked}
use Rattle.std.proofs.VecSteps.Shapes.{after}
use Rattle.std.specs.Box.Ownership.{box_owns}
use Rattle.c_calls.specs.declared.cell.Cell.{Cell as CellValue}
use Rattle.c_calls.specs.declared.kept_seat.KeptSeat.{KeptSeat}
use Rattle.c_calls.specs.Cells.{cell_owns, heap_block}
use Rattle.c_calls.specs.Lent.{with_place}
use Rattle.c_calls.proofs.CellFields.{cell_of, Data, told, made, one_of}
use Rattle.c_calls.specs.contracts.cell.Cell as C
use Rattle.c_calls.specs.contracts.kept_seat.KeptSeat as P
use Rattle.c_calls.specs.contracts.cell.Cell.place as F
use Rattle.c_calls.specs.contracts.cell.Cell.place.Key.{name as #self}
use Rattle.c_calls.proofs.cell.Cell.place.Statement as stated
use Rattle.c_calls.proofs.cell.Cell.place.Code as code

abbrev B : RattleType
B = C.the_row

abbrev R : RattleType
R = P.the_row

abbrev stayed : Stays (F.ended).signature.params (F.ended).kept
stayed = (stay_dropped (mut_ref_to (0 ∷ []) tt (plain (λ _. B))) no, tt)

module _ {M : Type 1} {𝓤 : Ura M} (𝓛 : Logic 𝓤) (at_mem : Memory → SProp 𝓤) (run : Routine → Fun 𝓤) where
  open 𝓛 use {H, A}

  module _ (κ : Lft) (q : Share) (rb ro : ℕ) (γ : GName) (h : CellValue) where
    abbrev bound : (walk_of 𝓛 F.ended stayed (F.clauses 𝓛 at_mem run)).Ghost
    bound = (((κ, tt), (q, tt), tt, (record { ref_ptr = (rb, ro); ghost_name = γ; now = h }, tt), (vptr rb ro ∷ [], tt)), tt)

    abbrev Post : Val → SProp 𝓤
    Post = (walk_of 𝓛 F.ended stayed (F.clauses 𝓛 at_mem run)).post bound

    module _ (b o : ℕ) where
      -- all of the cell but its place
      abbrev Rest : Fml
      Rest = fsep (heap_block (bare (denote.Memory.lone R.mir)) (block_ptr b o)) (cell_at full_share B.mir (cell_of (block_ptr b o) ∷ []) rb ro)

      back : h.ptr ≡ block_ptr b o → (w : KeptSeat) → ent 𝓤 (sep 𝓤 (sem 𝓛 ((mem R).own_at w b o)) (sem 𝓛 Rest)) (sem 𝓛 ((mem B).own_at (with_place h w) rb ro))
      unfolding part_of
      back e w =
          qed 𝓛 (‵ (part_at R full_share w b o) ∷ ‵ Rest ∷ []) ∵ move ! (1 ∷ []) $ fsplit ! $ move ! (2 ∷ 0 ∷ []) $ fjoin ! $
          rewrite ! 0 (λ (π : Ptr). ‵ (box_owns heap_block R π w)) (sym e) refl $
          use0 𝓛 (‵ ((Data).own_val (h.ptr, tt) (cell_of h.ptr ∷ []))) (made 𝓛 h.ptr) $ rewrite ! 0 (λ (π : Ptr). ‵ ((Data).own_val (h.ptr, tt) (cell_of π ∷ []))) e refl $ fjoin ! $
          move ! (1 ∷ 0 ∷ []) $ fjoin ! $
          fpack ! (List Val) (λ us. fsep (cell_at full_share B.mir us rb ro) (B.own_val (with_place h w) us)) (cell_of (block_ptr b o) ∷ []) $ done !

      exits : (x : KeptSeat) → h.places ≡ x ∷ [] → (γ' : GName)
          → ent 𝓤 (sep 𝓤 (sem 𝓛 ((MutRef (named 0) κ R).own_val (record { ref_ptr = (b, o); ghost_name = γ'; now = x }) (vptr b o ∷ []))) (sep 𝓤 (A.lft κ q) (sem 𝓛 (follows B R γ γ' (with_place h))))) (Post (vptr b o))
      exits x is γ' =
          qed 𝓛 (‵ ((MutRef (named 0) κ R).own_val (record { ref_ptr = (b, o); ghost_name = γ'; now = x }) (vptr b o ∷ [])) ∷ ‵ (flft κ q) ∷ ‵ (follows B R γ γ' (with_place h)) ∷ []) ∵
          suffices ! _ (ends_at 𝓛 F.ended stayed (F.clauses 𝓛 at_mem run) bound (vptr b o) (record { ref_ptr = (b, o); ghost_name = γ'; now = x }) (tt, tt) (tt, tt)) $
          nothing ! $ nothing ! $ fjoin ! $ join ! $ nothing ! $ move ! (2 ∷ 0 ∷ []) $ join ! $ join ! $ frame ! $ says ! is $ done !

    module _ (Cs : Calls 𝓤 H) (Λ : Loops 𝓤 H) where
      walk : ent 𝓤 (sep 𝓤 (on_entry 𝓛 F.signature (κ, tt) (q, tt) (record { ref_ptr = (rb, ro); ghost_name = γ; now = h }, tt) (vptr rb ro ∷ [], tt)) (fact 𝓤 (length h.places ≡ 1))) (WpFn 𝓤 H Cs Λ code.function (vptr rb ro ∷ []) Post)
      walk =
          let fn = code.function in
          qed 𝓛 (((‵ (flft κ q) ⊛ ‵ ftrue) ⊛ ‵ (owns (MutRef (named 0) κ B ∷ []) (record { ref_ptr = (rb, ro); ghost_name = γ; now = h }, tt) (vptr rb ro ∷ [], tt))) ∷ raw (fact 𝓤 (length h.places ≡ 1)) ∷ []) ∵
          move ! (1 ∷ []) $ heard ! (length h.places ≡ 1) (λ one. let asked = one_of h.places one in let x = asked.0 in split ! $
          enter ! Cs Λ fn (vptr rb ro ∷ []) _ $
          alloc_all ! (λ l. pass_all ! refl ((tt, tt), tt) $
          let En : Env 𝓤 H = env fn.locals l in
          move ! (1 ∷ []) $ fsplit ! $ fsplit3 ! $ drop ! $ move ! (3 ∷ []) $ split ! $ move ! (2 ∷ 3 ∷ 0 ∷ []) $
          opens ! tt B {h = h} rb ro (λ vs. move ! (1 ∷ []) $
          peeks ! B (Is B) (shows 𝓛 B) h vs (λ is. fsplit ! $ move ! (1 ∷ []) $
          rewrite ! 0 (λ (xs : List KeptSeat). ‵ (cell_owns h.ptr xs)) asked.1 refl $
          in_a_block ! h.ptr (λ π. box_owns heap_block R π x) (fst∗ 𝓤 (never 𝓤) (sem 𝓛 (heap_block (bare (denote.Memory.lone R.mir)) null_ptr))) (λ b o e. fsplit ! $ move ! (2 ∷ []) $ drop ! $
          let es : vs ≡ cell_of (block_ptr b o) ∷ [] = told h.ptr vs is.0 ∙ ap (λ (π : Ptr). cell_of π ∷ []) e in rewrite ! 2 (λ (us : List Val). ‵ (cell_at full_share B.mir us rb ro)) es refl $
          -- [the place; the right to free it; the cell; the open borrow, in three entries]
          first ! $ blocks ! $
          sets ! (of_opd ! (load ! (through ! refl (fld ! refl (stop !))) (look_in ! 2 (sub ! 0 refl (whole !))))) refl (tt, tt) $ sets ! (of_opd ! (get ! refl)) refl (tt, tt) $
          sets_last ! (addr ! (through ! refl (stop !))) refl (tt, tt) $
          exec ! Cs Λ En (after 1 fn.body) (at_ret En Post) $ sets ! (of_opd ! (get ! refl)) refl (tt, tt) $
          move ! (1 ∷ 2 ∷ []) $ fjoin ! $ move ! (2 ∷ 3 ∷ 4 ∷ 1 ∷ 0 ∷ []) $ group ! 5 $
          use1 𝓛 (later (some (λ (γ' : GName). raw (Part 𝓛 B R (with_place h) (named 0) κ q rb ro b o γ (sem 𝓛 (Rest b o)) (back b o e) x γ'))))
          (lends_Part 𝓛 B R (with_place h) (named 0) κ q rb ro b o γ (sem 𝓛 (Rest b o)) (back b o e) (B.coded.code h) (B.coded.code h) x) $ await ! tt $ pick ! (λ γ'.
          returns ! (look_at ! 0 refl) $ free_all ! refl $ keep ! (0 ∷ []) $ by ! (exits b o x asked.1 γ')))))))

  meets : (𝓣 : Tables 𝓤 H) → Meets 𝓛 F.signature (WpFn 𝓤 H 𝓣.C 𝓣.Λ code.function) (F.spec 𝓛 at_mem run)
  meets 𝓣 =
      walk_Meets 𝓛 F.ended stayed (Goes-spent_ref 𝓛 1 (0 ∷ []) tt (plain (λ _. B)), tt) (F.clauses 𝓛 at_mem run) (WpFn 𝓤 H 𝓣.C 𝓣.Λ code.function) (WpFn-mono 𝓤 H 𝓛.laws 𝓣 code.function)
      (walked 𝓛 F.ended stayed (F.clauses 𝓛 at_mem run) (WpFn 𝓤 H 𝓣.C 𝓣.Λ code.function) (λ κs. (mut_vals, tt)) (λ κs. (mut_Tells (named 0) κs.0 B, tt))
      (λ κs qs bounds a g are. walk κs.0 qs.0 a.0.ref_ptr.0 a.0.ref_ptr.1 a.0.ghost_name a.0.now 𝓣.C 𝓣.Λ))

pub place_spec : {M : Type 1} → stated.statement M
unfolding tables_of
place_spec 𝓤 𝓛 𝓜 𝓡 wired =
    let 𝓣 : Tables 𝓤 𝓛.H = tables_of 𝓤 𝓛.H 𝓜 (tables 𝓤 𝓛.H 𝓜 𝓡 𝓡.env) in
    entered 𝓤 𝓛.H (triple_of 𝓛 F.signature (F.spec 𝓛 𝓜.mem 𝓡.returns)) 𝓣.C 𝓣.Λ #self code.function (code.unfolded 𝓤 𝓛.H 𝓜 𝓡 wired) (meets 𝓛 𝓜.mem 𝓡.returns 𝓣)
