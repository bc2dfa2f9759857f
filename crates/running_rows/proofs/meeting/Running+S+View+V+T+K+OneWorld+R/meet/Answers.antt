use Rattle.std.proofs.Common.{sym, ap, ◌∙◌, subst, arith}
use Rattle.running_rows.specs.Rule.{IsSomeones}
use Rattle.running_rows.specs.Sitting.{sitting}
use Rattle.running_rows.proofs.Seating.{spares_kept, sits_kept}
use Rattle.running_rows.proofs.Parting.{parts_kept}
use Rattle.running_rows.proofs.LookingAtOnce.{meets_kept}
use Rattle.running_rows.proofs.Together.{guests_u, some_u, met_at, left_at, right_at}
use Rattle.running_rows.proofs.meeting.Running+S+View+V+T+K+OneWorld+R.meet.Goals as goal

pub split_seat-spare-requires : goal.split_seat-spare-requires
split_seat-spare-requires g c = (c.requires.one.0, (let h = c.requires.word in omega arith), spares_kept g.R.Rows.family _ _ _)

pub join_seat-requires : goal.join_seat-requires
join_seat-requires g c =
    let is = c.replace-theirs.ensures.value in let E = c.split_seat-spare.ensures in let A = c.seat_alone.ensures in (
      E.0 ∙ c.requires.one.0,
      ap (λ t. t.table_id) is ∙ A.own ∙ c.requires.other.0,
      ap (λ t. t.me.1) is ∙ ap (λ m. m.1) A.alone ∙ c.requires.bare,
      (let h = c.requires.word in omega arith),
      sits_kept g.R.Rows.family _ _ _ _ _ (subst (λ m. IsSomeones g.R.Rows.family m.0) (sym E.2) c.requires.one.1)
          (subst (λ m. IsSomeones g.R.Rows.family m.0) (sym (ap (λ t. t.me) is ∙ A.alone)) c.requires.other.1)
          (ap (λ t. t.me.0.guests) is ∙ ap (λ m. m.0.guests) A.alone),
    )

pub load-found-requires : goal.load-found-requires
load-found-requires g c =
    let is = c.replace-theirs.ensures.value in let E = c.split_seat-spare.ensures in
    let joined = c.join_seat.ensures.2 ∙ (λ i. (sitting (E.2 i).0 (is i).me.0, (E.2 i).1))
    ∙ (λ i. (sitting c.args.one.now.me.0 (c.seat_alone.ensures.alone i).0, c.args.one.now.me.1)) in
    let some = subst (λ m. IsSomeones g.R.Rows.family m.0) (sym joined) c.requires.one.1 in (
      c.join_seat.ensures.0 ∙ E.0 ∙ c.requires.one.0,
      c.requires.word,
      meets_kept g.R.Rows.family _ _ _ _ c.join_seat.new.seat.me _ _ (ap (λ m. m.0.guests) joined) some c.requires.seen,
    )

pub split_seat-requires : goal.split_seat-requires
split_seat-requires g c =
    let is = c.replace-theirs.ensures.value in let E = c.split_seat-spare.ensures in
    let joined = c.join_seat.ensures.2 ∙ (λ i. (sitting (E.2 i).0 (is i).me.0, (E.2 i).1))
    ∙ (λ i. (sitting c.args.one.now.me.0 (c.seat_alone.ensures.alone i).0, c.args.one.now.me.1)) in (
      c.load-found.ensures.0 ∙ c.join_seat.ensures.0 ∙ E.0 ∙ c.requires.one.0,
      (let h = c.requires.word in omega arith),
      parts_kept g.R.Rows.family _ _ _ _ _
          (guests_u g.R.Rows.family c.args.one.now.me c.args.other.now.me c.join_seat.new.seat.me c.load-found.new.seat.me
          joined c.args.word _ c.load-found.ensures.2)
          (some_u g.R.Rows.family c.args.one.now.me c.args.other.now.me c.join_seat.new.seat.me c.load-found.new.seat.me joined c.args.word
          _ c.load-found.ensures.2 c.requires.one.1),
    )

pub returns-clause-met : goal.returns-clause-met
returns-clause-met g c =
    let is = c.replace-theirs.ensures.value in let E = c.split_seat-spare.ensures in
    let joined = c.join_seat.ensures.2 ∙ (λ i. (sitting (E.2 i).0 (is i).me.0, (E.2 i).1))
    ∙ (λ i. (sitting c.args.one.now.me.0 (c.seat_alone.ensures.alone i).0, c.args.one.now.me.1)) in
    met_at g.R.Rows.family c.args.one.now.me c.args.other.now.me c.join_seat.new.seat.me c.load-found.new.seat.me joined c.args.word _ c.load-found.ensures.2
    c.split_seat.new.seat.me c.split_seat.result.me c.split_seat.ensures.2 c.split_seat.ensures.4

pub returns-clause-one : goal.returns-clause-one
returns-clause-one g c =
    let is = c.replace-theirs.ensures.value in let E = c.split_seat-spare.ensures in
    let joined = c.join_seat.ensures.2 ∙ (λ i. (sitting (E.2 i).0 (is i).me.0, (E.2 i).1))
    ∙ (λ i. (sitting c.args.one.now.me.0 (c.seat_alone.ensures.alone i).0, c.args.one.now.me.1)) in
    left_at g.R.Rows.family c.args.one.now.me c.args.other.now.me c.join_seat.new.seat.me c.load-found.new.seat.me joined c.args.word _ c.load-found.ensures.2
    c.split_seat.new.seat.me c.split_seat.result.me c.split_seat.ensures.2 c.split_seat.ensures.4

pub returns-clause-other : goal.returns-clause-other
returns-clause-other g c =
    let is = c.replace-theirs.ensures.value in let E = c.split_seat-spare.ensures in
    let joined = c.join_seat.ensures.2 ∙ (λ i. (sitting (E.2 i).0 (is i).me.0, (E.2 i).1))
    ∙ (λ i. (sitting c.args.one.now.me.0 (c.seat_alone.ensures.alone i).0, c.args.one.now.me.1)) in
    right_at g.R.Rows.family c.args.one.now.me c.args.other.now.me c.join_seat.new.seat.me c.load-found.new.seat.me joined c.args.word _ c.load-found.ensures.2
    c.split_seat.new.seat.me c.split_seat.result.me c.split_seat.ensures.2 c.split_seat.ensures.4
