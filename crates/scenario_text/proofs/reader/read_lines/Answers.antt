use Rattle.std.proofs.Common.{◌≡◌, ◌+◌, List, [], ◌∷◌, ◌++◌, Option, None, Err, map, sym, ap, subst, ◌∙◌, arith}
use Rattle.std.proofs.lemmas.List.{map_push, length-map, nil_from_length}
use Rattle.scenario_text.specs.declared.reader.line.Line.TheVariants as code
use Rattle.std.proofs.lemmas.List.Sums.{fold_push}
use Rattle.step_table.specs.declared.parts.Parts.{Parts}
use Rattle.scenario_text.specs.declared.request.Property.{Property}
use Rattle.scenario_text.specs.Line.{Line}
use Rattle.scenario_text.specs.Phrases.{line_of}
use Rattle.scenario_text.specs.Pieces.{Piece}
use Rattle.scenario_text.specs.Reader.{Judges, IsOnlyRight}
use Rattle.scenario_text.specs.ScenarioText.{with_line, with_property, no_parts}
use Rattle.scenario_text.proofs.Texts.{begins, turn, failed, are_lines}
use Rattle.scenario_text.proofs.Keeping.{kept_none, kept_more, fits}
use Rattle.scenario_text.proofs.Passing.{passes}
use Rattle.scenario_text.proofs.reader.read_lines.Goals as goal

pub loop-rest-init : goal.loop-rest-init
loop-rest-init c = rw (c.requires.none) (record { so_far = begins c.args.text.now; kept = kept_none; parts = c.requires.parts; property = c.requires.property })

pub returns-in-Err-clause-fault : goal.returns-in-Err-clause-fault
returns-in-Err-clause-fault c =
    let p : Piece = record { text = c.first_line-ended.result.0.now; ended = c.first_line-ended.result.2 } in
    failed c.args.text.now c.loop-rest.rest.now c.first_line-ended.result.1.now (map line_of c.loop-rest.lines.items) p (c.len-number.result + 1) c.in-Err.cause
    (grind (arith, length-map)) c.loop-rest.invariant.so_far c.first_line-ended.ensures.line
    (subst (λ (ls : List code.the_data). Judges (map line_of ls) p (Err c.in-Err.cause)) c.deref.ensures.value c.in-Err.ensures)

pub add_line-requires-clause-fits : goal.add_line-requires-clause-fits
add_line-requires-clause-fits c =
    let p : Piece = record { text = c.first_line-ended.result.0.now; ended = c.first_line-ended.result.2 } in
    let h : IsOnlyRight (map line_of c.loop-rest.lines.items) p (line_of c.in-Ok.line) = (rw (c.deref.ensures.value) at c.in-Ok.ensures) in
    fits (map line_of c.loop-rest.lines.items) (line_of c.in-Ok.line) c.loop-rest.invariant.kept
    (passes (map line_of c.loop-rest.lines.items) p (line_of c.in-Ok.line) h.0)

pub loop-rest-preserved : goal.loop-rest-preserved
loop-rest-preserved c =
    let before : List Line = map line_of c.loop-rest.lines.items in
    let line : Line = line_of c.in-Ok.line in
    let p : Piece = record { text = c.first_line-ended.result.0.now; ended = c.first_line-ended.result.2 } in
    let h : IsOnlyRight before p line = (rw (c.deref.ensures.value) at c.in-Ok.ensures) in
    let items : map line_of c.add_line.new.lines.items ≡ before ++ (line ∷ []) = ap (map line_of) c.in-Ok-add_line.ensures.lines
    ∙ map_push line_of c.loop-rest.lines.items c.in-Ok.line in
    rw items
    (record {
      so_far =
          turn c.args.text.now c.loop-rest.rest.now c.first_line-ended.result.1.now before p line
          c.loop-rest.invariant.so_far c.first_line-ended.ensures.line h;
      kept = kept_more before line c.loop-rest.invariant.kept (passes before p line h.0);
      parts = c.in-Ok-add_line.ensures.parts ∙ ap (λ (q : Parts). with_line q line) c.loop-rest.invariant.parts
          ∙ sym (fold_push with_line no_parts before line);
      property = c.in-Ok-add_line.ensures.property ∙ ap (λ (q : Option Property). with_property q line) c.loop-rest.invariant.property
          ∙ sym (fold_push with_property None before line);
    })

pub returns-clause-lines : goal.returns-clause-lines
returns-clause-lines c =
    are_lines c.args.text.now c.loop-rest.rest.now (map line_of c.loop-rest.lines.items) c.loop-rest.invariant.so_far
    (nil_from_length c.loop-rest.rest.now (grind arith))
