-- Looks at a grant, one after the other, and the row that takes it.
use Rattle.std.proofs.Common.{◌≡◌, ℕ, ◌+◌, [], ◌∷◌, ◌++◌, inr, sym, refl, ap, ◌∙◌, subst, append-nil, append_assoc}
use Rattle.std.specs.List.{All}
use Rattle.std.proofs.lemmas.List.Elements.{All-nil, All-push, All-append, All-weaker}
use Rattle.step_table.specs.declared.place.AcquireRow.TheVariants.{Parked, A10}
use Rattle.step_table.specs.declared.place.ParkedRow.TheVariants.{P}
use Rattle.step_table.specs.declared.place.Place.{Place}
use Rattle.step_table.specs.declared.place.Place.TheVariants.{Rest, Acquiring}
use Rattle.step_table.specs.declared.word.Word.TheVariants.{Grant}
use Rattle.step_table.specs.World.{SeatState}
use Rattle.step_table.specs.Journal.{HasItsUnit}
use Rattle.step_table.specs.Counting.{wait}
use Rattle.step_table.specs.Path.{OnlyLooked}
use Rattle.step_law_semaphores.specs.SemaPath.{SemaSight, SemaPath, SemaDid, placed}
use Rattle.step_law_semaphores.proofs.SemaPaths.{the_sema_paths}
use Rattle.sema_table.specs.declared.answers.Polled.TheVariants as polled
use Rattle.sema_table.specs.declared.answers.Roused.TheVariants.{Woken, Handed}
use Rattle.sema_table.specs.declared.seat.Numbers.{Numbers}
use Rattle.sema_table.specs.Setting.{layout}
use Rattle.sema_table.specs.Rule.{sight_by}
use Rattle.sema_table.specs.Walks.{IsSame}
use Rattle.sema_table.specs.Seats.{TableModel, SeatModel, Token, seat_of}
use Rattle.sema_table.specs.Tries.{LooksAt}
use Rattle.sema_table.specs.Waking.{FindsNoGrant, OnlyLooks, RunsOrWaits, CallsGranted, IsPolled}
use Rattle.sema_table.specs.Whole.{IsRoused}
use Rattle.sema_table.proofs.Walking.{told_append}
use Rattle.sema_table.proofs.Calling.{placed_at, call_of}

-- no look yet, and one more
pub no_look : (s : SeatModel) → OnlyLooks s s
no_look s =
    record { same = refl; stays = refl; call = call_of s s s.sight.stands.place [] [] (All-nil (FindsNoGrant s.number)) refl (sym (append-nil s.strides)) refl }

pub look_more : (s t u : SeatModel) → OnlyLooks s t → IsPolled t (polled.Still u) → OnlyLooks s u
look_more s t u x y = record {
  same = z.same;
  stays = z.stays ∙ x.stays;
  call = call_of s u s.sight.stands.place [] (x.call.strides ++ z.stride ∷ [])
      (All-push (FindsNoGrant s.number) x.call.strides z.stride x.call.each (record {
        call = y.0;
        turn = y.1;
        parked = ap (λ (q : SeatState). q.place) z.ran.stood ∙ y.2;
        did = z.did;
        read = z.read;
      }))
      ((the_sema_paths.paths (layout s.table.setting)).more s.number s.sight t.sight u.sight x.call.strides z.stride x.call.path z.ran)
      (z.one ∙ ap (λ l. l ++ z.stride ∷ []) x.call.all ∙ append_assoc s.strides x.call.strides (z.stride ∷ []))
      (told_append x.call.strides (z.stride ∷ []) ∙ (λ i. x.call.told_is i ++ (only.told i ++ [])));
}
  where
    z : LooksAt (record s { sight = t.sight; strides = t.strides }) (Grant s.number) 0 u
    z = subst (λ (q : SeatModel). LooksAt q (Grant q.number) 0 u) x.same y.3

    only : OnlyLooked z.stride u.sight
    only =
        subst (SemaDid (layout s.table.setting) s.number z.stride u.sight) z.did
        (the_sema_paths.does (layout s.table.setting) s.number t.sight u.sight z.stride z.ran)

-- the row that takes the grant, after looks
module _ (s t u : SeatModel) (x : OnlyLooks s t) where
  tables : t.table ≡ s.table
  tables = ap (λ (q : SeatModel). q.table) x.same

  numbers : t.number ≡ s.number
  numbers = ap (λ (q : SeatModel). q.number) x.same

  stood : (place : Place) → t.sight.stands.place ≡ place → s.sight.stands.place ≡ place
  stood place at = ap (λ (q : SeatState). q.place) (sym x.stays) ∙ at

  granted_after : (place : Place) (n : ℕ) → t.sight.stands.place ≡ place → CallsGranted t place u [] n → CallsGranted s place u x.call.strides n
  granted_after place n at g = record {
    call = call_of s u place [] (x.call.strides ++ g.call.strides)
        (All-append (RunsOrWaits s.number) x.call.strides g.call.strides
        (All-weaker (FindsNoGrant s.number) (RunsOrWaits s.number) (λ p. inr) x.call.strides x.call.each)
        (subst (λ i. All (RunsOrWaits i) g.call.strides) numbers g.call.each))
        ((the_sema_paths.paths (layout s.table.setting)).joined s.number (placed place s.sight) t.sight u.sight x.call.strides g.call.strides
        (subst (λ (v : SemaSight). SemaPath (layout s.table.setting) s.number v x.call.strides t.sight)
        (sym (placed_at place s.sight (stood place at))) x.call.path)
        (subst (λ (q : SemaSight × (TableModel × ℕ)). SemaPath (layout q.1.0.setting) q.1.1 q.0 g.call.strides u.sight)
        (λ i. (placed_at place t.sight at i, (tables i, numbers i))) g.call.path))
        (g.call.all ∙ ap (λ l. l ++ g.call.strides) x.call.all ∙ append_assoc s.strides x.call.strides g.call.strides)
        (told_append x.call.strides g.call.strides ∙ (λ i. x.call.told_is i ++ g.call.told_is i));
    last = g.last;
    strides_are = ap (λ l. x.call.strides ++ l) g.strides_are;
    looked = x.call.each;
    did = g.did;
    row = g.row;
    found = g.found;
  }

  pub roused_woken : IsPolled t (polled.Woken u) → IsRoused s (Woken u)
  roused_woken e = (
    e.0 ∙ ap (λ (q : SeatModel). record q { sight = u.sight; strides = u.strides }) x.same,
    (
      e.1.0,
      e.1.1,
      stood (Acquiring e.1.0 (Parked e.1.1 P)) e.1.2,
      e.1.3 ∙ ap (λ (q : SeatState). record q { place = Acquiring e.1.0 A10 }) x.stays,
      (x.call.strides, granted_after (Acquiring e.1.0 (Parked e.1.1 P)) 1 e.1.2 e.1.4),
    ),
  )

  pub roused_handed : IsPolled t (polled.Handed u) → IsRoused s (Handed u)
  roused_handed e = (
    e.0 ∙ ap (λ (q : SeatModel). record q { taken = q.taken + 1; sight = u.sight; strides = u.strides }) x.same,
    e.1 ∙ ap (λ (q : SeatState). record q { place = Rest }) x.stays,
    (
      e.2.0,
      e.2.1,
      stood (Acquiring e.2.0 (Parked e.2.1 P)) e.2.2,
      (x.call.strides, granted_after (Acquiring e.2.0 (Parked e.2.1 P)) 2 e.2.2 e.2.3),
      subst (λ i. HasItsUnit e.2.0.counter (wait i e.2.1) u.sight.seen) numbers e.2.4,
    ),
  )

-- a token of which nothing has come
pub same_seat : (s t : Token) (n : Numbers) → IsSame s t → seat_of t n ≡ seat_of s n
same_seat s t n e =
    λ i. record {
      table = record { id = e.0 i; setting = (e.1 i).0.own.knows.setting };
      number = n.seat;
      left = n.left;
      taken = n.taken;
      sight =
          sight_by (e.1 i).0.own.knows;
      strides = (e.1 i).0.own.gone;
    }
