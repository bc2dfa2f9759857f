-- Events of one word, and the verbs that the tables are written in.
use Rattle.std.specs.Prelude.{ℕ, ◌+◌, ◌-◌, ◌==◌, nat_lt, if◌then◌else◌, Bool, true, false}

-- one event: its word, and by the value that is found there whether it can be, what the word becomes and what
-- follows
pub record EventOf (Word Value Next : Type 0) : Type 0 where
  pub word : Word
  pub can : Value → Bool
  pub becomes : Value → Value
  pub leads : Value → Next

abbrev pub load : {Word Value Next : Type 0} → Word → (Value → Next) → EventOf Word Value Next
load w next = record { word = w; can = λ v. true; becomes = λ v. v; leads = next }

abbrev pub store : {Word Value Next : Type 0} → Word → Value → Next → EventOf Word Value Next
store w x next = record { word = w; can = λ v. true; becomes = λ v. x; leads = λ v. next }

-- the word changes so, and what follows is told what it has become
abbrev pub change : {Word Value Next : Type 0} → Word → (Value → Value) → (Value → Next)
    → EventOf Word Value Next
change w to next = record { word = w; can = λ v. true; becomes = to; leads = λ v. next (to v) }

-- the word changes so where what is found is wanted
abbrev pub exchange_if : {Word Value Next : Type 0} → Word → (Value → Bool) → (Value → Value) → Next → Next
    → EventOf Word Value Next
exchange_if w wanted to won lost =
    record {
      word = w;
      can = λ v. true;
      becomes = λ v. if wanted v then to v else v;
      leads = λ v. if wanted v then won else lost;
    }

-- the word is changed to `left` if one more than that is found
abbrev pub exchange : {Word Next : Type 0} → Word → ℕ → Next → Next → EventOf Word ℕ Next
exchange w left won lost = exchange_if w (λ v. v == left + 1) (λ v. left) won lost

abbrev pub raise : {Word Next : Type 0} → Word → ℕ → Next → EventOf Word ℕ Next
raise w n next = change w (λ v. v + n) (λ x. next)

abbrev pub lower : {Word Next : Type 0} → Word → ℕ → Next → EventOf Word ℕ Next
lower w n next = change w (λ v. v - n) (λ x. next)

abbrev pub take_lock : {Word Next : Type 0} → Word → Next → EventOf Word ℕ Next
take_lock w next = record { word = w; can = λ v. v == 0; becomes = λ v. 1; leads = λ v. next }

abbrev pub give_lock : {Word Next : Type 0} → Word → Next → EventOf Word ℕ Next
give_lock w next = store w 0 next

abbrev pub take_grant : {Word Next : Type 0} → Word → (ℕ → Next) → EventOf Word ℕ Next
take_grant w next = record { word = w; can = λ v. nat_lt 0 v; becomes = λ v. 0; leads = next }

-- no event can be
abbrev pub stays : {Word Value Next : Type 0} → Word → Next → EventOf Word Value Next
stays w next = record { word = w; can = λ v. false; becomes = λ v. v; leads = λ v. next }
