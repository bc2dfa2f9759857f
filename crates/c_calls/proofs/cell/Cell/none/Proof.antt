-- `none` owns nothing beside its null pointer.
use Rattle.atomic_table.proofs.Names.{◌≡◌, [], ◌∷◌, refl, Val, SProp, emp, ‵, raw, ◌⊛◌, ◌$◌, ◌∵◌, !, qed, by, keep, split, fjoin, use0, no_more, and_then, lit, returns, enter, alloc_all, pass_all, free_all, look_at, sets, agg, tables, owns, types_at, nothing, alive, Stays, walk_of, fact, fact_i}
use Rattle.atomic_table.proofs.Walks.{proved, leaves}
use denote.RawPtr.{null_ptr}
use Rattle.c_calls.specs.contracts.cell.Cell as cell
use Rattle.c_calls.proofs.CellFields.{cell_of, cell_good, Data, made}
use Rattle.c_calls.specs.contracts.cell.Cell.none.{ended, clauses}
use Rattle.c_calls.specs.contracts.cell.Cell.none.Key.{name as #self}
use Rattle.c_calls.proofs.cell.Cell.none.Statement.{statement}
use Rattle.c_calls.proofs.cell.Cell.none.Code as code

pub none_spec : {M : Type 1} → statement M
none_spec 𝓤 𝓛 𝓜 𝓡 wired =
    let H = 𝓛.H in let 𝓣 = tables 𝓤 H 𝓜 𝓡 𝓡.env in let c = clauses 𝓛 𝓜.mem 𝓡.returns in
    let fn = code.function in let closed = code.unfolded 𝓤 H 𝓜 𝓡 wired in
    let hs : Stays (ended).signature.params (ended).kept = tt in
    proved 𝓛 ended hs c 𝓜 𝓡 tt #self fn closed (λ κs. tt) (λ κs. tt) (λ κs qs bounds a gh are.
    let r : (cell.the_row).Denot = record { ptr = null_ptr; places = [] } in
    let Told : Type 0 = r.places ≡ [] in let y : (walk_of 𝓛 ended hs c).Ghost = ((κs, qs, bounds, a, tt), gh) in let Post : Val → SProp 𝓤 = (walk_of 𝓛 ended hs c).post y in
    qed 𝓛 ((raw (alive 𝓛 (ended).signature κs qs) ⊛ ‵ (owns (types_at (ended).signature.params κs) a y.0.4)) ∷ raw ((c κs a).requires gh) ∷ []) ∵
    split ! $ keep ! (0 ∷ []) $ nothing ! $ use0 𝓛 (‵ ((Data).own_val (null_ptr, tt) (cell_of null_ptr ∷ []))) (made 𝓛 null_ptr) $ fjoin ! $
    enter ! 𝓣.C 𝓣.Λ fn [] Post $ alloc_all ! (λ l. pass_all ! refl tt $
    sets ! (agg ! (and_then ! (lit ! tt) (no_more !))) refl (cell_good null_ptr) $
    use0 𝓛 (raw (fact 𝓤 Told)) (fact_i 𝓤 Told (emp 𝓤) refl) $ nothing ! $
    returns ! (look_at ! 0 refl) $ free_all ! refl $ keep ! (3 ∷ 0 ∷ 2 ∷ 1 ∷ []) $ by ! (leaves 𝓛 ended hs c y (cell_of null_ptr) r tt tt)))
