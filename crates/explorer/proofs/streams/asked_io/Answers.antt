use Rattle.std.proofs.Common.{◌≡◌, ℕ, List, Option, MatchOption, ◌∙◌, ap, subst}
use Rattle.std.specs.Prelude.{string_bytes, option_map}
use Rattle.explorer.specs.Invocation.{status_after, beside, unless_closed, WritesAsFar}
use Rattle.explorer.proofs.Outcomes.{ended}
use Rattle.explorer.proofs.streams.asked_io.Goals as goal

pub returns-clause-whole : goal.returns-clause-whole
returns-clause-whole g c = λ read write.
    (let done = ended _ c.answer_io-outcome.result _ _ c.answer_io-outcome.ensures.read c.answer_io-outcome.ensures.write read write
    c.answer_io-outcome.ensures.whole in
    let P : Option (List ℕ) → Type 0 = λ told. MatchOption told (c.tell_beside.new.err ≡ c.args.err.now)
    (WritesAsFar (g.E.Sink.contents c.args.err.now) (g.E.Sink.contents c.tell_beside.new.err) (g.E.Sink.has_failed c.tell_beside.new.err)) in (
      done.0.exit,
      option_map string_bytes done.0.aside,
      c.status_after.ensures ∙ ap status_after done.1,
      done.2,
      subst P (c.beside.ensures ∙ ap (λ outcome. beside c.args.asked.now outcome c.is_closed.result) done.1) c.tell_beside.ensures,
    ))

pub returns-clause-begun : goal.returns-clause-begun
returns-clause-begun g c = λ failed.
    (let e = c.answer_io-outcome.ensures.write.1 failed in
    let P : Option (List ℕ) → Type 0 = λ told. MatchOption told (c.tell_beside.new.err ≡ c.args.err.now)
    (WritesAsFar (g.E.Sink.contents c.args.err.now) (g.E.Sink.contents c.tell_beside.new.err) (g.E.Sink.has_failed c.tell_beside.new.err)) in (
      c.status_after.ensures ∙ ap status_after e,
      c.answer_io-outcome.ensures.begun e,
      subst P (c.beside.ensures ∙ ap (λ outcome. beside c.args.asked.now outcome c.is_closed.result) e ∙ ap unless_closed c.is_closed.ensures)
          c.tell_beside.ensures,
    ))

pub returns-clause-unwritten : goal.returns-clause-unwritten
returns-clause-unwritten g c = λ failed.
    (let e = c.answer_io-outcome.ensures.read.1 failed in
    let P : Option (List ℕ) → Type 0 = λ told. MatchOption told (c.tell_beside.new.err ≡ c.args.err.now)
    (WritesAsFar (g.E.Sink.contents c.args.err.now) (g.E.Sink.contents c.tell_beside.new.err) (g.E.Sink.has_failed c.tell_beside.new.err)) in (
      c.status_after.ensures ∙ ap status_after e,
      c.answer_io-outcome.ensures.unwritten e,
      subst P (c.beside.ensures ∙ ap (λ outcome. beside c.args.asked.now outcome c.is_closed.result) e) c.tell_beside.ensures,
    ))
