-- The seats of a table or a list as it is made are all that it has, in the order of their numbers.
use Rattle.std.proofs.Common.{◌≡◌, ℕ, zero, suc, ◌+◌, ◌<◌, Option, Some, List, [], ◌∷◌, map, get_or, All, refl, sym, ap, ◌∙◌, subst, arith}
use Rattle.std.specs.Prelude.{⊤}
use Rattle.std.specs.List.{range_with_len}
use Rattle.std.proofs.lemmas.List.{length-map}
use Rattle.std.proofs.lemmas.List.FromFn.{length-range_with_len}
use Rattle.std.proofs.lemmas.List.Elements.{All-map, All-head}
use mathlib.Core.Option.{some, some-injective, some-ne-none}
use lib.ListN.{get_elem?}
use Rattle.sema_table.specs.declared.settings.Settings.{Settings}
use Rattle.sema_table.specs.declared.task_seat.TaskStage.TheVariants as table_stage
use Rattle.sema_table.specs.Seats.{TableModel, SeatModel}
use Rattle.sema_table.specs.TaskSeats.{TaskModel}
use Rattle.sema_table.specs.Making.{IsMade, new_seat}
use Rattle.sema_table.specs.Tasks.{IsMadeForTasks}
use Rattle.notify_list.specs.declared.task_seat.TaskStage.TheVariants as list_stage
use Rattle.notify_list.specs.Seats as list
use Rattle.notify_list.specs.TaskSeats as list_task
use Rattle.notify_list.specs.Making as list_made
use Rattle.notify_list.specs.Tasks as list_tasks
use Rattle.seat_pool.specs.Pools.{AreAllOf}

module _ {T H : Type 0} (home : T → H) (number : T → ℕ) (rests : T → Type 0) (count : H → ℕ) where
  in_order_from : (f : ℕ → T) → ((k : ℕ) → number (f k) ≡ k) → (a n k : ℕ) (x : T)
      → get_elem? (map f (range_with_len a n)) k ≡ some x → number x ≡ a + k
  in_order_from f its a zero k x at = absurd (some-ne-none x (sym at))
  in_order_from f its a (suc n) zero x at =
      let first : number x ≡ number (f a) = sym (ap number (some-injective (f a) x at)) in let is = its a in omega arith
  in_order_from f its a (suc n) (suc k) x at = let rest = in_order_from f its (a + 1) n k x at in omega arith

  are_all : (f : ℕ → T) (h : H) (n : ℕ) → ((k : ℕ) → (home (f k) ≡ h) × rests (f k)) → ((k : ℕ) → number (f k) ≡ k)
      → n ≡ count h → 0 < n → AreAllOf home number rests count h (map f (range_with_len 0 n))
  are_all f h n own its many more = record {
    own = All-map (λ x. (home x ≡ h) × rests x) f (range_with_len 0 n) (λ k d lt. own (get_or (range_with_len 0 n) k d));
    in_order = λ k x at. let is : number x ≡ 0 + k = in_order_from f its 0 n k x at in omega arith;
    all = omega (arith, many, length-map (range_with_len 0 n) f, length-range_with_len 0 n);
    some_are = omega arith;
  }

  -- what the pool knows of each seat it knows of the table, since there is one at least
  pub home_of_all : (o : Option H) (h : H) (seats : List T) → AreAllOf home number rests count h seats
      → All (λ x. o ≡ Some (home x)) seats → o ≡ Some h
  home_of_all o h [] all told = let none = all.all in let more = all.some_are in absurd (omega arith)
  home_of_all o h (x ∷ seats) all told =
      All-head (λ y. o ≡ Some (home y)) x seats told ∙ ap Some (All-head (λ y. (home y ≡ h) × rests y) x seats all.own).0

map_twice : {A B C : Type 0} (f : A → B) (g : B → C) (l : List A) → map g (map f l) ≡ map (λ x. g (f x)) l
map_twice f g [] = refl
map_twice f g (x ∷ l) = ap (λ rest. g (f x) ∷ rest) (map_twice f g l)

pub seats_of_table : (k : Settings) (t : TableModel) (seats : List SeatModel) → IsMade k t seats
    → AreAllOf (λ s. s.table) (λ s. s.number) (λ s. ⊤) (λ (u : TableModel). u.setting.seats) t seats
seats_of_table k t seats made =
    let many : k.seats ≡ t.setting.seats = sym (ap (λ z. z.seats) made.setting) in let allowed = made.allowed.seats in
    subst (AreAllOf (λ s. s.table) (λ s. s.number) (λ s. ⊤) (λ (u : TableModel). u.setting.seats) t) (sym made.seats_are)
    (are_all (λ s. s.table) (λ s. s.number) (λ s. ⊤) (λ (u : TableModel). u.setting.seats) (new_seat t) t k.seats (λ n. (refl, tt))
    (λ n. refl) many (omega (arith, allowed.0)))

pub seats_of_task_table : (k : Settings) (t : TableModel) (seats : List TaskModel) → IsMadeForTasks k t seats
    → AreAllOf (λ s. s.seat.table) (λ s. s.seat.number) (λ s. s.stage ≡ table_stage.Resting) (λ (u : TableModel). u.setting.seats) t seats
seats_of_task_table k t seats (own, made, each) =
    let many : k.seats ≡ t.setting.seats = sym (ap (λ z. z.seats) made.setting) in let allowed = made.allowed.seats in
    let as_task : SeatModel → TaskModel = λ s. record { seat = s; stage = table_stage.Resting } in
    let are = each ∙ ap (map as_task) made.seats_are ∙ map_twice (new_seat t) as_task (range_with_len 0 k.seats) in
    subst (AreAllOf (λ s. s.seat.table) (λ s. s.seat.number) (λ s. s.stage ≡ table_stage.Resting) (λ (u : TableModel). u.setting.seats) t) (sym are)
    (are_all (λ s. s.seat.table) (λ s. s.seat.number) (λ s. s.stage ≡ table_stage.Resting) (λ (u : TableModel). u.setting.seats)
    (λ n. as_task (new_seat t n)) t k.seats (λ n. (refl, refl)) (λ n. refl) many (omega (arith, allowed.0)))

pub seats_of_list : (first count : ℕ) (l : list.ListModel) (seats : List list.SeatModel) → list_made.IsMade first count l seats
    → AreAllOf (λ s. s.list) (λ s. s.number) (λ s. ⊤) (λ (u : list.ListModel). u.setting.seats) l seats
seats_of_list first count l seats made =
    let many : count ≡ l.setting.seats = sym (ap (λ z. z.seats) made.setting) in let allowed = made.allowed in
    subst (AreAllOf (λ s. s.list) (λ s. s.number) (λ s. ⊤) (λ (u : list.ListModel). u.setting.seats) l) (sym made.seats_are)
    (are_all (λ s. s.list) (λ s. s.number) (λ s. ⊤) (λ (u : list.ListModel). u.setting.seats) (list_made.new_seat l) l count (λ n. (refl, tt))
    (λ n. refl) many (omega (arith, allowed.0)))

pub seats_of_task_list : (first count : ℕ) (l : list.ListModel) (seats : List list_task.TaskModel)
    → list_tasks.IsMadeForTasks first count l seats
    → AreAllOf (λ s. s.seat.list) (λ s. s.seat.number) (λ s. s.stage ≡ list_stage.Resting) (λ (u : list.ListModel). u.setting.seats) l seats
seats_of_task_list first count l seats (own, made, each) =
    let many : count ≡ l.setting.seats = sym (ap (λ z. z.seats) made.setting) in let allowed = made.allowed in
    let as_task : list.SeatModel → list_task.TaskModel = λ s. record { seat = s; stage = list_stage.Resting } in
    let are = each ∙ ap (map as_task) made.seats_are ∙ map_twice (list_made.new_seat l) as_task (range_with_len 0 count) in
    subst (AreAllOf (λ s. s.seat.list) (λ s. s.seat.number) (λ s. s.stage ≡ list_stage.Resting) (λ (u : list.ListModel). u.setting.seats) l)
    (sym are)
    (are_all (λ s. s.seat.list) (λ s. s.seat.number) (λ s. s.stage ≡ list_stage.Resting) (λ (u : list.ListModel). u.setting.seats)
    (λ n. as_task (list_made.new_seat l n)) l count (λ n. (refl, refl)) (λ n. refl) many (omega (arith, allowed.0)))
