-- What looks are to their callers, and what the end of a list is, from what they are in rows.
use Rattle.std.proofs.Common.{ℕ, [], sym, ap, ◌∙◌, subst, append-nil}
use Rattle.step_table.specs.declared.list_place.ListWord.{ListWord}
use Rattle.step_table.specs.declared.list_place.ListWord.TheVariants.{Wait, Lock}
use Rattle.step_table.specs.Path.{Looked, Did}
use Rattle.std.proofs.Common.{List}
use Rattle.step_table.specs.Wrapping.{word_of}
use Rattle.step_law_lists.specs.ListLawful.{Follows}
use Rattle.step_law_lists.specs.ListPath.{ListSight, notify_list}
use Rattle.notify_list.specs.declared.closed.ListClosed.{ListClosed}
use Rattle.notify_list.specs.declared.view.Setting.{Setting}
use Rattle.notify_list.specs.Seats.{SeatModel}
use Rattle.notify_list.specs.Meeting.{LooksAt, FindsHeld, HasMet}
use Rattle.notify_list.specs.Closing.{IsClosed}
use Rattle.notify_list.specs.Callers.{IsSeatAfter, StandsOn, SeeTheSame, EndsList}
use Rattle.notify_list.proofs.Parting.{own_of}

pub after_look : (s t : SeatModel) (word : ListWord) (n : ℕ) → Follows t.sight.seen → LooksAt s word n t → IsSeatAfter s [] t
after_look s t word n lawful x =
    let only : Looked (notify_list s.list.setting.first s.list.setting.seats) x.ran.world s.number word x.stride.read x.stride.told t.sight =
    subst (λ d. Did (notify_list s.list.setting.first s.list.setting.seats) x.ran.world s.number d x.stride.read x.stride.told t.sight) x.did x.ran.did in
    record {
      list = ap (λ (y : SeatModel). y.list) x.same;
      number = ap (λ (y : SeatModel). y.number) x.same;
      tells = x.later;
      own = ap (λ (v : ListSight). own_of s.number v.seen) only.leads ∙ x.ran.meets.quiet ∙ ap (own_of s.number) (sym (append-nil s.sight.seen));
      lawful = lawful;
      reach = x.reach;
    }

pub stands_on : (s t : SeatModel) → Follows t.sight.seen → FindsHeld s t → StandsOn s t
stands_on s t lawful (n, held, looked) = (after_look s t Lock n lawful looked, looked.stays)

pub see_the_same : (one other one_now other_now : SeatModel) → Follows one_now.sight.seen → Follows other_now.sight.seen
    → HasMet one other one_now other_now → SeeTheSame one other one_now other_now
see_the_same one other one_now other_now is is_other x = record {
  one_after = after_look one one_now Wait x.number is x.one_looked;
  other_after = after_look other other_now Wait x.number is_other x.other_looked;
  same = x.same;
  two = x.two;
}

pub ends_list : (z : Setting) (seats : List SeatModel) (c : ListClosed) → IsClosed z seats c → EndsList z seats c
ends_list z seats c x = record {
  journal = x.world.journal;
  lawful = x.lawful.journal.0;
  reach = x.met.reach;
  begins = x.begins;
  each = x.each;
  own = x.own;
  granted = x.granted;
  next = x.next;
  notified = x.notified ∙ ap (word_of z.first) x.granted ∙ sym x.next;
}
