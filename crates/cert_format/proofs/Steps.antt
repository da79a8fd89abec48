-- One item more is written.
use Rattle.std.proofs.Common.{◌≡◌, ℕ, ◌+◌, ◌<◌, List, [], ◌++◌, length, get_or, take, pos, refl, sym, ap, ◌∙◌, add-one}
use Rattle.std.specs.List.{flat_map}
use Rattle.std.proofs.lemmas.List.{flat_map_more, take_more}
use Rattle.cut_pool.specs.Pools.{shore_at}
use Rattle.branch_rules.specs.Prices.{Prices, price_in}

pub piece_more : {X : Type 0} (f : X → List ℕ) (xs : List X) (i : ℕ) (d : X) (old new next : List ℕ) → i < length xs →
    new ≡ old ++ flat_map f (take i xs) → next ≡ new ++ f (get_or xs i d) → next ≡ old ++ flat_map f (take (i + 1) xs)
piece_more f xs i d old new next below first last =
    last ∙ ap (λ (bytes : List ℕ). bytes ++ f (get_or xs i d)) first ∙ flat_map_more f old (take i xs) (get_or xs i d)
    ∙ ap (λ ys. old ++ flat_map f ys) (sym (take_more xs i d below))

pub price_after : (set : Prices) (i : ℕ) → price_in set (i + 1) ≡ get_or set.services i (pos 0)
price_after set i = rw add-one refl

pub shore_after : (pool : List (List ℕ)) (i : ℕ) → shore_at pool (i + 1) ≡ get_or pool i []
shore_after pool i = rw add-one refl
