use Rattle.grown_trees.proofs.Sound.{sound_grown}
use Rattle.grown_trees.proofs.laws.grown_trees_stay_sound.Goals as goal

pub returns : goal.returns
returns c = sound_grown
