use Rattle.grown_trees.proofs.Gaining.{sound_more}
use Rattle.grown_trees.proofs.Widening.{sound_wide}
use Rattle.grown_trees.proofs.laws.more_support_keeps_trees_sound.Goals as goal

pub returns : goal.returns
returns c = record { sets = sound_more; shores = sound_wide }
