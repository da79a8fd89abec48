use Rattle.std.proofs.Common.{◌≡◌, length, position, take, None}
use Rattle.grown_trees.specs.Blocks.{joined}
use Rattle.grown_trees.specs.Growth.{shows_just}
use Rattle.grown_trees.proofs.blocks.first_that_shows.Given as goal

abbrev pub invariant-loop-block : goal.invariant-loop-block
invariant-loop-block l = (l.before ≡ length (joined (take l.block-index l.blocks))) × (position (shows_just l.fn.shows) (joined (take l.block-index l.blocks)) ≡ None)
