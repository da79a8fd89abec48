use Rattle.std.proofs.Common.{◌+◌, ◌≤◌, length, ap, arith}
use Rattle.grown_trees.specs.Blocks.{joined}
use Rattle.grown_trees.specs.Growth.{Growth}
use Rattle.grown_trees.proofs.Filling.{spare_there, taken_there}
use Rattle.grown_trees.proofs.growing.GrowingTree.split.Goals as goal

pub split_in-requires-clause-spare : goal.split_in-requires-clause-spare
split_in-requires-clause-spare c =
    let less : length (joined c.self.inside.blocks.items) + 2 ≤ c.self.inside.room = omega (arith, c.requires.room, ap (λ (g : Growth). length g.nodes) c.self.view_is, ap (λ (g : Growth). g.room) c.self.view_is) in
    spare_there _ _ _ _ c.self.invariant.1.1 less

pub split_in-requires-clause-taken : goal.split_in-requires-clause-taken
split_in-requires-clause-taken c =
    let less : length (joined c.self.inside.blocks.items) + 2 ≤ c.self.inside.room = omega (arith, c.requires.room, ap (λ (g : Growth). length g.nodes) c.self.view_is, ap (λ (g : Growth). g.room) c.self.view_is) in
    taken_there _ _ _ _ c.self.invariant.1.1 less
