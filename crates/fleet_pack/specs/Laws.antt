-- How few turns a tree has.
use Rattle.std.specs.Prelude.{ℕ, ◌+◌, ◌-◌, ◌*◌, ◌/◌, ◌^◌, ◌<◌, []}
use Rattle.carp_base.specs.Problem.{Problem}
use Rattle.packing_trees.specs.Trees.{PackTree, PairsIn, IsLean, turns_of}

-- a lean tree has few turns, whatever the count: a path splits each pair at most once
abbrev pub LeanTreesAreSmall : Type 0
LeanTreesAreSmall = (p : Problem) (count : ℕ) (tree : PackTree) → PairsIn p tree → IsLean p [] tree →
    turns_of p [] count tree < 2 ^ (p.required * (p.required - 1) / 2 + 1)
