-- Lists as places come to handles, one after the other.
use Rattle.std.proofs.Common.{◌≡◌, ◌+◌, ◌<◌, ℕ, List, [], ◌∷◌, ◌++◌, Option, Some, length, map, reverse, refl, sym, ap, ◌∙◌, take, set, arith}
use Rattle.std.proofs.lemmas.List.{map-set, map-append, length-map, length-reverse, take_more_set, reverse-append, reverse-reverse}
use Rattle.std.proofs.lemmas.Simd.{map-map}
use mathlib.Core.List.{append_assoc}
use Rattle.c_calls.specs.declared.kept_seat.KeptSeat.{KeptSeat}
use Rattle.c_calls.specs.Places.{seat_of}

-- the last place goes to the next handle
pub one_given : {H B S : Type 0} (f : H → S) (g : B → S) (hs : List H) (i : ℕ) (h : H) (bs rest : List B) (b : B) (all : List S)
    → i < length hs → bs ≡ rest ++ b ∷ [] → f h ≡ g b
    → take i (map f hs) ++ reverse (map g bs) ≡ all
    → take (i + 1) (map f (set hs i h)) ++ reverse (map g rest) ≡ all
one_given f g hs i h bs rest b all lt is same sum =
    let backward : reverse (map g bs) ≡ g b ∷ reverse (map g rest) =
    ap (λ xs. reverse (map g xs)) is ∙ ap reverse (map-append g rest (b ∷ [])) ∙ reverse-append (map g rest) (g b ∷ []) in
    ap (λ xs. take (i + 1) xs ++ reverse (map g rest)) (map-set f hs i h)
    ∙ ap (λ xs. xs ++ reverse (map g rest)) (take_more_set (map f hs) i (f h) (let l = length-map hs f in omega arith))
    ∙ append_assoc (take i (map f hs)) (f h ∷ []) (reverse (map g rest))
    ∙ ap (λ x. take i (map f hs) ++ (x ∷ reverse (map g rest))) same
    ∙ ap (λ xs. take i (map f hs) ++ xs) (sym backward)
    ∙ sum

-- the last seat comes into the next place
pub one_placed : {B S : Type 0} (f : B → Option S) (more bs : List B) (b : B) (seats rest : List S) (s : S) (all : List (Option S))
    → more ≡ bs ++ b ∷ [] → seats ≡ rest ++ s ∷ [] → f b ≡ Some s
    → map f bs ++ reverse (map (λ (s : S). Some s) seats) ≡ all
    → map f more ++ reverse (map (λ (s : S). Some s) rest) ≡ all
one_placed {S} f more bs b seats rest s all longer is same sum =
    let some : List S → List (Option S) = map (λ (s : S). Some s) in
    let backward : reverse (some seats) ≡ Some s ∷ reverse (some rest) =
    ap (λ xs. reverse (some xs)) is ∙ ap reverse (map-append (λ (s : S). Some s) rest (s ∷ []))
    ∙ reverse-append (some rest) (Some s ∷ []) in
    ap (λ xs. xs ++ reverse (some rest)) (ap (map f) longer ∙ map-append f bs (b ∷ []))
    ∙ append_assoc (map f bs) (f b ∷ []) (reverse (some rest))
    ∙ ap (λ x. map f bs ++ (x ∷ reverse (some rest))) same
    ∙ ap (λ xs. map f bs ++ xs) (sym backward)
    ∙ sum

map_reverse : {A B : Type 0} (f : A → B) (xs : List A) → map f (reverse xs) ≡ reverse (map f xs)
map_reverse f [] = refl
map_reverse f (x ∷ xs) =
    ap (map f) (reverse-append (x ∷ []) xs) ∙ map-append f (reverse xs) (x ∷ [])
    ∙ ap (λ ys. ys ++ f x ∷ []) (map_reverse f xs) ∙ sym (reverse-append (f x ∷ []) (map f xs))

-- each seat has a place
pub as_many : {B S : Type 0} (seats : List S) (bs : List B) (g : B → Option S) → map g bs ≡ reverse (map (λ (s : S). Some s) seats)
    → length bs ≡ length seats
as_many {S} seats bs g placed =
    sym (length-map bs g) ∙ ap length placed ∙ length-reverse (map (λ (s : S). Some s) seats) ∙ length-map seats (λ (s : S). Some s)

-- the places were filled with the last seat first, and given away with the last place first
pub dealt : {H B S : Type 0} (seats : List S) (bs : List B) (hs : List H) (seat : KeptSeat → Option S) (cells : H → List KeptSeat) (value : B → KeptSeat)
    → map cells hs ≡ reverse (map (λ b. value b ∷ []) bs) → map (λ b. seat (value b)) bs ≡ reverse (map (λ (s : S). Some s) seats)
    → map (λ h. seat_of seat (cells h)) hs ≡ map (λ (s : S). Some s) seats
dealt {S} seats bs hs seat cells value given placed =
    sym (map-map (seat_of seat) cells hs) ∙ ap (map (seat_of seat)) given
    ∙ map_reverse (seat_of seat) (map (λ b. value b ∷ []) bs)
    ∙ ap reverse (map-map (seat_of seat) (λ b. value b ∷ []) bs ∙ placed)
    ∙ reverse-reverse (map (λ (s : S). Some s) seats)
