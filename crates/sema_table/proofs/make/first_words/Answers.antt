use Rattle.std.proofs.Common.{rules, ◌≡◌, ℕ, ◌+◌, ◌-◌, ◌*◌, ◌++◌, [], ◌∷◌, replicate, length, take, get_or, sym, ap, ◌∙◌}
use Rattle.std.proofs.Common.{arith}
use Rattle.std.specs.Vec.{vec_len}
use Rattle.std.proofs.lemmas.Grind.{common_steps}
use Rattle.std.proofs.lemmas.List.{take_more, take_all}
use Rattle.sema_table.specs.Setting.{apart}
use Rattle.sema_table.proofs.Apart.{apart_append, length_apart}
use Rattle.sema_table.proofs.make.first_words.Goals as goal

pub loop-start-preserved : goal.loop-start-preserved
loop-start-preserved c =
    let xs = c.deref-start-items.result.now in let i0 : ℕ = c.loop-start.start-index in let inv = c.loop-start.invariant in record {
      copied = c.in_ok-extend_from_slice.ensures.items
          ∙ (λ i. inv.copied i ++ apart (c.from.ensures i ∷ []))
          ∙ sym (apart_append (take i0 xs) (get_or xs i0 0 ∷ []))
          ∙ ap apart (sym (take_more xs i0 0 (search rules)));
      small = grind (arith, common_steps, inv.small);
    }

pub returns-clause-words : goal.returns-clause-words
returns-clause-words c =
    let xs = c.deref-start-items.result.now in let i0 : ℕ = c.loop-start.start-index in let inv = c.loop-start.invariant in
    let starts = c.args.settings.now.starts.items in let words = c.loop-start.words.items in
    let others : ℕ = c.args.settings.now.roots + c.args.settings.now.roots + c.args.settings.now.seats + c.args.settings.now.seats + c.args.settings.now.seats
    + c.args.settings.now.roots in let all : ℕ = 8 * c.len.result + others in
    let is : words ≡ apart starts = inv.copied ∙ ap apart (take_all i0 xs (search rules) ∙ c.deref-start-items.ensures.value) in
    let long : length words ≡ 8 * length starts = ap length is ∙ length_apart starts in let len = c.len.ensures in
    let rest : all - vec_len c.loop-start.words ≡ others = omega (arith, long, len) in
    c.in_ok-resize.ensures.items ∙ (λ i. take_all all words (omega (arith, long, len)) i ++ replicate {A = ℕ} (rest i) 0)
    ∙ ap (λ l. l ++ replicate others 0) is
