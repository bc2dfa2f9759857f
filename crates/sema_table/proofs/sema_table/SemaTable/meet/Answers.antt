use Rattle.std.proofs.Common.{◌≡◌, ℕ, ◌<◌, length, sym, ap, subst, arith, refl}
use Rattle.step_table.specs.declared.word.Word.{Word}
use Rattle.step_table.specs.declared.word.Word.TheVariants.{Counter}
use Rattle.running_rows.specs.Sitting.{Met}
use Rattle.sema_table.specs.Setting.{word_at}
use Rattle.sema_table.specs.Rows.{semaphore_rows}
use Rattle.sema_table.specs.declared.sema_table.SemaTable.TheInside.{Inside}
use Rattle.sema_table.specs.Shared.{table_by}
use Rattle.sema_table.specs.Seats.{TableModel, SeatModel, Token, table_of, seat_of}
use Rattle.sema_table.specs.Meeting.{HasMet}
use Rattle.sema_table.proofs.Owned.{IsMade, own, has_word, someones}
use Rattle.sema_table.proofs.Striding.{slots_are}
use Rattle.sema_table.proofs.Words.{counter_lies}
use Rattle.sema_table.proofs.Seeing.{counter_seen}
use Rattle.sema_table.proofs.LookingTogether.{one_seat, other_seat, have_met}
use Rattle.sema_table.proofs.CallerEnds.{sees_the_same}
use Rattle.sema_table.proofs.sema_table.SemaTable.meet.Goals as goal

pub meet-requires : goal.meet-requires
meet-requires c =
    let at = own c.self.inside c.one.inside.token c.one.inside.numbers c.self.view_is c.one.view_is c.requires.0 in
    let at_o = own c.self.inside c.other.inside.token c.other.inside.numbers c.self.view_is c.other.view_is c.requires.1 in
    let any = c.self.invariant.any in let counted = c.self.invariant.counted in (
      omega arith,
      (
        (ap (λ (t : TableModel). t.id) at, someones c.self.inside c.self.invariant c.one.inside.token at),
        (
          (ap (λ (t : TableModel). t.id) at_o, someones c.self.inside c.self.invariant c.other.inside.token at_o),
          (c.other.invariant.token_is.bare, (has_word c.self.inside c.self.invariant, counter_seen _ 0 0 (omega arith) refl)),
        ),
      ),
    )

-- the word at the address 0 is the first counter
met_there : (x : Inside) (made : IsMade x) (s o a b : Token) (q : ℕ) → table_of s ≡ table_by x → Met semaphore_rows (word_at s.me.0.own.knows.setting 0)
    s.me.0.own o.me.0.own q a.me.0.own b.me.0.own → Met semaphore_rows (Counter 0) s.me.0.own o.me.0.own q a.me.0.own b.me.0.own
met_there x made s o a b q at = subst (λ (w : Word). Met semaphore_rows w s.me.0.own o.me.0.own q a.me.0.own b.me.0.own)
    (counter_lies s.me.0.own.knows.setting 0 0
    (subst (λ (y : TableModel). 0 < length y.setting.starts) (sym at) (let any = made.any in let counted = made.counted in omega arith)) refl)

pub invariant_of-one : goal.invariant_of-one
invariant_of-one c =
    let s = c.one.inside.token in let o = c.other.inside.token in let a = c.meet.new.one in let b = c.meet.new.other in let E = c.meet.ensures in
    let at = own c.self.inside s c.one.inside.numbers c.self.view_is c.one.view_is c.requires.0 in
    one_seat s o a b c.one.inside.numbers c.other.inside.numbers c.meet.result c.one.invariant c.other.invariant
    (met_there c.self.inside c.self.invariant s o a b c.meet.result at E.met) E.own.0 E.own.1 (slots_are E.one) (slots_are E.other)

pub invariant_of-other : goal.invariant_of-other
invariant_of-other c =
    let s = c.one.inside.token in let o = c.other.inside.token in let a = c.meet.new.one in let b = c.meet.new.other in let E = c.meet.ensures in
    let at = own c.self.inside s c.one.inside.numbers c.self.view_is c.one.view_is c.requires.0 in
    other_seat s o a b c.one.inside.numbers c.other.inside.numbers c.meet.result c.one.invariant c.other.invariant
    (met_there c.self.inside c.self.invariant s o a b c.meet.result at E.met) E.own.0 E.own.1 (slots_are E.one) (slots_are E.other)

pub returns-clause-rows : goal.returns-clause-rows
returns-clause-rows c =
    let s = c.one.inside.token in let o = c.other.inside.token in let a = c.meet.new.one in let b = c.meet.new.other in let E = c.meet.ensures in
    let at = own c.self.inside s c.one.inside.numbers c.self.view_is c.one.view_is c.requires.0 in
    subst (λ (q : SeatModel × SeatModel). HasMet q.0 q.1 (seat_of a c.one.inside.numbers) (seat_of b c.other.inside.numbers))
    (λ i. (c.one.view_is i, c.other.view_is i))
    (have_met s o a b c.one.inside.numbers c.other.inside.numbers c.meet.result c.one.invariant c.other.invariant
    (met_there c.self.inside c.self.invariant s o a b c.meet.result at E.met) E.own.0 E.own.1 (slots_are E.one) (slots_are E.other))

pub returns-clause-caller : goal.returns-clause-caller
returns-clause-caller c = sees_the_same c.args.one.now c.args.other.now (seat_of c.meet.new.one c.one.inside.numbers)
    (seat_of c.meet.new.other c.other.inside.numbers) (returns-clause-rows c)
