use Rattle.grown_trees.proofs.Sound.{leaf_at, sound_at, sound_tree}
use Rattle.grown_trees.proofs.laws.sound_trees_are_lean.Goals as goal

pub returns : goal.returns
returns c = record { tree = sound_tree; place = sound_at; leaf = leaf_at }
