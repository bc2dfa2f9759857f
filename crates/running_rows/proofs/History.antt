-- The history goes on with each stride.
use Rattle.std.proofs.Common.{◌≡◌, ◌≢◌, ◌⊎◌, ℕ, ◌==◌, if◌then◌else◌, Bool, true, false, List, [], ◌∷◌, ◌++◌, refl, sym}
use Rattle.std.proofs.Common.{ap, ◌∙◌, subst, ⊎_elim, inl, inr}
use Rattle.std.proofs.Common.{eq-eqb, ne_eqb, append-nil}
use Rattle.step_table.specs.Path.{Deed, Did}
use Rattle.running_rows.specs.declared.view.Seated.{Seated}
use Rattle.running_rows.specs.Family.{Family}
use Rattle.running_rows.specs.History.{SeatStride, strides_of, Writes, journal_of, TellsOn}
use Rattle.running_rows.specs.Rule.{In}
use Rattle.running_rows.specs.Owing.{Sees}

-- what is in a list with one more at its end
pub in_more : {A : Type 0} (a b : A) (l : List A) → In a (l ++ b ∷ []) → In a l ⊎ (b ≡ a)
in_more a b [] (inl e) = inr e
in_more a b [] (inr h) = absurd h
in_more a b (x ∷ xs) (inl e) = inl (inl e)
in_more a b (x ∷ xs) (inr h) = ⊎_elim (λ q. inl (inr q)) (λ q. inr q) (in_more a b xs h)

module _ {T : Type 0} (i : ℕ) where
  pub strides_here : (history : List (SeatStride T)) (m : SeatStride T) → m.seat ≡ i → strides_of i (history ++ m ∷ [])
      ≡ strides_of i history ++ m.stride ∷ []
  strides_here [] m e = ap (λ (b : Bool). if b then m.stride ∷ [] else []) (eq-eqb m.seat i e)
  strides_here (n ∷ history) m e = by (strides_here history m e) (n.seat == i)
    where
      by : strides_of i (history ++ m ∷ []) ≡ strides_of i history ++ m.stride ∷ [] → (b : Bool)
          → (if b then n.stride ∷ strides_of i (history ++ m ∷ []) else strides_of i (history ++ m ∷ []))
          ≡ (if b then n.stride ∷ strides_of i history else strides_of i history) ++ m.stride ∷ []
      by rest true = ap (λ l. n.stride ∷ l) rest
      by rest false = rest

  pub strides_else : (history : List (SeatStride T)) (m : SeatStride T) → m.seat ≢ i → strides_of i (history ++ m ∷ []) ≡ strides_of i history
  strides_else [] m ne = ap (λ (b : Bool). if b then m.stride ∷ [] else []) (ne_eqb m.seat i ne)
  strides_else (n ∷ history) m ne = by (strides_else history m ne) (n.seat == i)
    where
      by : strides_of i (history ++ m ∷ []) ≡ strides_of i history → (b : Bool)
          → (if b then n.stride ∷ strides_of i (history ++ m ∷ []) else strides_of i (history ++ m ∷ []))
          ≡ (if b then n.stride ∷ strides_of i history else strides_of i history)
      by rest true = ap (λ l. n.stride ∷ l) rest
      by rest false = rest

  -- a seat that went none has none
  pub strides_none : (history : List (SeatStride T)) → ((m : SeatStride T) → In m history → m.seat ≢ i) → strides_of i history ≡ []
  strides_none [] none = refl
  strides_none (m ∷ history) none =
      ap (λ (b : Bool). if b then m.stride ∷ strides_of i history else strides_of i history) (ne_eqb m.seat i (none m (inl refl)))
      ∙ strides_none history (λ n h. none n (inr h))

module _ {S V T K : Type 0} (f : Family S V T K) where
  writes_more : (seen journal : List f.Entry) (history : List (SeatStride T)) (m : SeatStride T) → Writes f seen history journal
      → (f.stride m.stride).seen ≡ journal
      → Writes f seen (history ++ m ∷ []) (journal ++ (f.stride m.stride).told)
  writes_more seen journal [] m w e = (e ∙ w, ap (λ (l : List f.Entry). l ++ (f.stride m.stride).told) w)
  writes_more seen journal (n ∷ history) m w e = (w.0, writes_more (seen ++ (f.stride n.stride).told) journal history m w.1 e)

  module _ (k : f.Key) where
    -- the history when the seat u has become w, and the world next
    pub record HasGoneOn (next : f.World) (history : List (SeatStride T)) (u w : Seated V T) : Type 0 where
      pub now : List (SeatStride T)
      pub writes : Writes f [] now (journal_of f k next)
      pub seats : (m : SeatStride T) → In m now → In m history ⊎ (m.seat ≡ u.number)
      pub here : strides_of u.number history ≡ u.gone → strides_of u.number now ≡ w.gone
      pub others : (i : ℕ) → i ≢ u.number → strides_of i now ≡ strides_of i history

    pub gone_on : (world next : f.World) (history : List (SeatStride T)) (u w : Seated V T) → TellsOn f k world next u w
        → Writes f [] history (journal_of f k world)
        → HasGoneOn next history u w
    gone_on world next history u w (inl idle) writes = record {
      now = history;
      writes = subst (Writes f [] history) (sym idle.1) writes;
      seats = λ m h. inl h;
      here = λ e. e ∙ sym idle.0;
      others = λ i ne. refl;
    }
    gone_on world next history u w (inr (p, one, seen, told)) writes = record {
      now = history ++ moment ∷ [];
      writes = subst (Writes f [] (history ++ moment ∷ [])) (sym told) (writes_more [] (journal_of f k world) history moment writes seen);
      seats = λ m h. ⊎_elim (λ q. inl q) (λ q. inr (ap (λ (n : SeatStride T). n.seat) (sym q))) (in_more m moment history h);
      here = λ e. strides_here u.number history moment refl ∙ ap (λ l. l ++ p ∷ []) e ∙ sym one;
      others = λ i ne. strides_else i history moment (λ q. ne (sym q));
    }
      where
        moment : SeatStride T
        moment = record { seat = u.number; stride = p }

    -- a look tells nothing
    pub looked_on : (world : f.World) (u : Seated V T) (i n : ℕ) → f.of u.knows ≡ k → (o : Sees f k u world i n) → TellsOn f k world world u o.now
    looked_on world u i n of_is o =
        inr (o.went.stride, o.went.one, seen, sym (append-nil (journal_of f k world)) ∙ ap (λ l. journal_of f k world ++ l) (sym told))
      where
        seen : (f.stride o.went.stride).seen ≡ journal_of f k world
        seen = o.went.ran.seen ∙ (λ j. (f.watched (of_is j)).journal (o.world_is j))

        told : (f.stride o.went.stride).told ≡ []
        told =
            (subst (λ (d : Deed f.Word). Did (f.watched (f.of u.knows)) o.went.ran.world u.number d (f.stride o.went.stride).read
            (f.stride o.went.stride).told (f.sight o.now.knows))
            o.went.did o.went.ran.did).told_is
