-- `into_parts` moves the pointer, and what the cell owns goes with it.
use Rattle.atomic_table.proofs.Names.{◌≡◌, List, [], ◌∷◌, ◌++◌, refl, sym, ap, ◌∙◌, subst, Val, SProp, ent, emp, id⊢, ‵, raw, ◌⊛◌, ◌$◌, ◌∵◌, !, qed, by, move, keep, split, fsplit, fjoin, use0, use1, rewrite, suffices, stop, fld, of_opd, no_more, and_then, returns, enter, alloc_all, pass_all, free_all, look_at, get, get_in, sets, agg, sub, whole, tables, yes, owns, types_at, type_at, plain, Ptr, block_ptr, nothing, alive, Stays, stay_dropped, walk_of, Goes-dropped, fact, fact_i, WpFn, heard, length}
use base.Logic.{fst∗, never}
use denote.RawPtr.{null_ptr, in_a_block}
use mir.Raw.{raw as bare}
use types.Logic.{sem}
use Rattle.std.proofs.alloc.Calls.{token, handle_tells}
use Rattle.std.specs.Box.Ownership.{box_owns}
use Rattle.std.proofs.BoxSteps.Form.{D, R, τ, word, box_typed}
use Rattle.std.proofs.BoxSteps.Steps.{box_in}
use Rattle.std.below.std_heap.specs.contracts.Global as Heap
use Rattle.atomic_table.proofs.Walks.{proved_at, leaves}
use Rattle.c_calls.specs.declared.kept_seat.KeptSeat.{KeptSeat}
use Rattle.c_calls.specs.Cells.{cell_owns}
use Rattle.c_calls.proofs.AsBox.{E, FromCell}
use Rattle.c_calls.proofs.CellFields.{cell_of, cell_good, told, one_of}
use Rattle.c_calls.specs.contracts.cell.Cell.into_parts.{signature, ended, clauses}
use Rattle.c_calls.specs.contracts.cell.Cell.into_parts.Key.{name as #self}
use Rattle.c_calls.proofs.cell.Cell.into_parts.Statement.{statement}
use Rattle.c_calls.proofs.cell.Cell.into_parts.Code as code

pub into_parts_spec : {M : Type 1} → statement M
into_parts_spec 𝓤 𝓛 𝓜 𝓡 wired =
    let H = 𝓛.H in let 𝓣 = tables 𝓤 H 𝓜 𝓡 𝓡.env in let c = clauses 𝓛 𝓜.mem 𝓡.returns in let fn = code.function in
    let hs : Stays (ended).signature.params (ended).kept = (stay_dropped FromCell yes, (stay_dropped (plain (λ _. Heap.the_row)) yes, tt)) in
    proved_at 𝓛 ended hs c 𝓜 𝓡 (Goes-dropped 𝓛 0 FromCell yes (λ κs x f. refl), (Goes-dropped 𝓛 0 (plain (λ _. Heap.the_row)) yes (λ κs x f. refl), tt)) #self fn (code.unfolded 𝓤 H 𝓜 𝓡 wired) (λ z are.
    let Post : Val → SProp 𝓤 = (walk_of 𝓛 ended hs c).post z in let Run : List Val → SProp 𝓤 = λ ws. WpFn 𝓤 H 𝓣.C 𝓣.Λ fn ws Post in
    let d = z.0.3.0 in let a = z.0.3.1.0 in let p = d.ptr in let vss = z.0.4 in let To = type_at (signature).result tt in
    qed 𝓛 ((raw (alive 𝓛 (ended).signature z.0.0 z.0.1) ⊛ ‵ (owns (types_at (ended).signature.params z.0.0) z.0.3 vss)) ∷ raw (fact 𝓤 (length d.places ≡ 1)) ∷ []) ∵
    move ! (1 ∷ []) $ heard ! (length d.places ≡ 1) (λ one. let asked = one_of d.places one in let x = asked.0 in split ! $ move ! (1 ∷ []) $ fsplit ! $ fsplit ! $ keep ! (1 ∷ 2 ∷ 3 ∷ []) $
    rewrite ! 0 (λ (xs : List KeptSeat). ‵ (cell_owns p xs)) asked.1 refl $
    in_a_block ! p (λ π. box_owns (token E.al a) (R E) π x) (fst∗ 𝓤 (never 𝓤) (sem 𝓛 (token E.al a (bare (τ E)) null_ptr))) (λ b o e.
    fsplit ! $ move ! (2 ∷ []) $ fsplit ! $ handle_tells E.al ! a vss.1.0 (λ hv eh fa.
    let v : D E = record { ptr = p; alloc = a; value = x } in let w = word E hv b o in let made : To.Denot = record { ptr = p; alloc = a; value = x } in
    move ! (2 ∷ 3 ∷ 0 ∷ []) $ box_in E ! v b o x e refl $ use1 𝓛 (‵ (To.own_val made (w ∷ []))) (id⊢ 𝓤 _) $ keep ! (0 ∷ 2 ∷ []) $
    let us : List Val = cell_of (block_ptr b o) ∷ hv ∷ [] in let es : vss.0 ≡ cell_of (block_ptr b o) ∷ [] = told p vss.0 are.0.0 ∙ ap (λ (π : Ptr). cell_of π ∷ []) e in
    suffices ! (Run us) (subst (λ (ws : List Val). ent 𝓤 (Run us) (Run ws)) (sym (λ i. es i ++ (eh i ++ []))) (id⊢ 𝓤 (Run us))) $
    enter ! 𝓣.C 𝓣.Λ fn us Post $ alloc_all ! (λ l. pass_all ! refl (cell_good (block_ptr b o), (fa, tt)) $
    sets ! (of_opd ! (get_in ! (fld ! refl (stop !)) (sub ! 0 refl (whole !)))) refl (tt, tt) $ sets ! (of_opd ! (get ! refl)) refl (tt, tt) $
    sets ! (agg ! (and_then ! (get ! refl) (and_then ! (get ! refl) (no_more !)))) refl (box_typed E hv b o fa) $
    let Told : Type 0 = d.places ≡ x ∷ [] in
    use0 𝓛 (raw (fact 𝓤 Told)) (fact_i 𝓤 Told (emp 𝓤) asked.1) $ nothing ! $ nothing ! $ fjoin ! $ nothing ! $ fjoin ! $
    returns ! (look_at ! 0 refl) $ free_all ! refl $ keep ! (3 ∷ 0 ∷ 2 ∷ 1 ∷ []) $ by ! (leaves 𝓛 ended hs c z w made (tt, (tt, tt)) (tt, (tt, tt))))))))
