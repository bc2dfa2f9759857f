use Rattle.std.proofs.Common.{ℕ, vec_capacity, refl, ap, ◌∙◌, arith}
use Rattle.step_table.specs.Wrapping.{next_word}
use Rattle.notify_list.proofs.LiveReaching.{kept_more, kept_last, not_yet, there_yet, steps_left, room_left}
use Rattle.notify_list.proofs.live.Live.reach.Goals as goal

pub push_reserved-requires : goal.push_reserved-requires
push_reserved-requires c =
    let r = c.requires in let I = c.loop-self.invariant in let now = I.1 r.0 r.1 r.2 r.3 r.4 r.5 r.6 in
    let room : ℕ = vec_capacity c.args.self.now.words in
    let less = not_yet now.0 r.2 c.args.ticket room now.1 r.6 (λ e. omega (arith, e, c.loop-self-test.true)) in
    let few = room_left now.0 r.2 c.args.ticket room less r.6 in
    let same = I.0 in let len = c.loop-self.self.words.ok.0 in omega (arith, few, same, len)

pub loop-self-smaller : goal.loop-self-smaller
loop-self-smaller c =
    let r = c.requires in let I = c.loop-self.invariant in let now = I.1 r.0 r.1 r.2 r.3 r.4 r.5 r.6 in
    let room : ℕ = vec_capacity c.args.self.now.words in
    let less = not_yet now.0 r.2 c.args.ticket room now.1 r.6 (λ e. omega (arith, e, c.loop-self-test.true)) in
    let next = kept_more now.0 (record { words = c.push_reserved.new.self; end = c.next_word-self.result }) c.push_reserved.ensures.items c.next_word-self.ensures in
    let a = steps_left now.0 r.2 c.args.ticket room now.1 r.6 in
    let b = steps_left next.0 r.2 c.args.ticket room (let e = next.1 in omega arith) r.6 in let e = next.1 in omega (arith, a, b, e, less)

pub loop-self-preserved : goal.loop-self-preserved
loop-self-preserved c =
    let I = c.loop-self.invariant in (
      c.push_reserved.ensures.capacity ∙ I.0,
      λ first passed m gone kept le may.
          let now = I.1 first passed m gone kept le may in
          let less = not_yet now.0 m c.args.ticket (vec_capacity c.args.self.now.words) now.1 may (λ e. omega (arith, e, c.loop-self-test.true)) in
          let next = kept_more now.0 (record { words = c.push_reserved.new.self; end = c.next_word-self.result }) c.push_reserved.ensures.items c.next_word-self.ensures in
          (next.0, (let e = next.1 in omega (arith, e, less))),
    )

pub returns-clause-live : goal.returns-clause-live
returns-clause-live c first passed m gone kept le may more goes =
    let now = c.loop-self.invariant.1 first passed m gone kept le may in
    let at = there_yet now.0 m c.args.ticket (vec_capacity c.args.self.now.words) now.1 may (omega (arith, c.loop-self-test.false)) in
    kept_last now.0 _ m more at may.after refl (c.next_word-self-2.ensures ∙ ap next_word may.ticket_is) goes
