use Rattle.std.proofs.Common.{[], List, ℕ, arith}
use Rattle.std.specs.List.{All}
use Rattle.std.proofs.lemmas.List.Elements.{All-from_recursion, recursion_from_All}
use Rattle.cut_pool.specs.Pools.{IsShoreNumber}
use Rattle.branch_rules.specs.declared.weight.Weight.{Weight}
use Rattle.branch_rules.specs.Examples.{town_pool, town_prices, town_support}
use Rattle.branch_rules.specs.Prices.{Prices, no_weight}
use Rattle.branch_rules.specs.Trees.{fixed, pair, price, void}
use Rattle.grown_trees.specs.Stands.{IsFitStand, stands}
use Rattle.grown_trees.proofs.examples.sets_of_the_leaves.Goals as goal

pub returns-clause-without_prices : goal.returns-clause-without_prices
returns-clause-without_prices c = All-from_recursion (IsFitStand town_support) (stands [] (pair 1 2 void fixed)) (tt, (tt, (tt, tt)))

pub returns-clause-second_leaf : goal.returns-clause-second_leaf
returns-clause-second_leaf c = λ all.
    let each = recursion_from_All (IsFitStand town_support) (stands [] (pair 1 2 fixed (price 0))) all in
    absurd (omega (arith, each.1.1.0.0))

abbrev Held : List (List ℕ) → Prices → Type 0
Held pool set = All (λ (w : Weight). IsShoreNumber pool w.shore) set.weights

pub returns-clause-held : goal.returns-clause-held
returns-clause-held c = All-from_recursion (Held town_pool) town_support.sets
    (All-from_recursion (λ (w : Weight). IsShoreNumber town_pool w.shore) town_prices.weights (record { from_one = omega arith; in_range = omega arith }, tt), tt)

pub returns-clause-not_held : goal.returns-clause-not_held
returns-clause-not_held c = λ all. let number : IsShoreNumber [] 1 = all 0 town_prices (omega arith) 0 no_weight (omega arith) in absurd (omega (arith, number.in_range))
