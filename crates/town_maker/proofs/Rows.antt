-- One number more, and what is made of it.
use Rattle.std.proofs.Common.{◌≡◌, ℕ, ◌+◌, List, [], ◌∷◌, ◌++◌, map, add-one, append_assoc, refl, ap}
use Rattle.std.specs.List.{flat_map}
use Rattle.std.proofs.lemmas.List.{flat_map_more}
use Rattle.town_maker.specs.Streets.{numbers_below}

map_more : {X Y : Type 0} (f : X → Y) (xs : List X) (x : X) → map f (xs ++ x ∷ []) ≡ map f xs ++ f x ∷ []
map_more f [] x = refl
map_more f (y ∷ ys) x = ap (λ zs. f y ∷ zs) (map_more f ys x)

pub one_more : {X : Type 0} (f : ℕ → X) (before : List X) (n : ℕ) → (before ++ map f (numbers_below n)) ++ f n ∷ [] ≡ before ++ map f (numbers_below (n + 1))
one_more f before n = rw (add-one, map_more f (numbers_below n) n) (append_assoc before (map f (numbers_below n)) (f n ∷ []))

pub row_more : {X : Type 0} (f : ℕ → List X) (before : List X) (n : ℕ) →
    (before ++ flat_map f (numbers_below n)) ++ f n ≡ before ++ flat_map f (numbers_below (n + 1))
row_more f before n = rw add-one (flat_map_more f before (numbers_below n) n)
