use Rattle.std.proofs.Common.{◌∙◌, ap}
use Rattle.std.specs.Prelude.{string_bytes, option_map}
use Rattle.explorer.specs.Invocation.{status_after}
use Rattle.explorer.proofs.Outcomes.{ended}
use Rattle.explorer.proofs.whole.shown_io.Goals as goal

pub returns : goal.returns
returns g c =
    let E = c.shown_answer_io-outcome.ensures in
    record {
      whole = λ read write.
          (let done = ended _ c.shown_answer_io-outcome.result _ _ E.read E.write read write E.whole in
          (done.0.exit, option_map string_bytes done.0.aside, c.status_after.ensures ∙ ap status_after done.1, done.2));
      begun = λ failed. (c.status_after.ensures ∙ ap status_after (E.write.1 failed), E.begun (E.write.1 failed));
      unwritten = λ failed. (c.status_after.ensures ∙ ap status_after (E.read.1 failed), ap (λ out. g.O.Sink.contents out) (E.unwritten (E.read.1 failed)));
    }
