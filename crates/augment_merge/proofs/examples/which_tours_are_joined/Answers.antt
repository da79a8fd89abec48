use Rattle.std.proofs.Common.{[], ◌∷◌, ◌++◌, true, false, length, refl, ap, length-append, arith}
use Rattle.augment_merge.specs.Examples.{far_task, near_task}
use Rattle.augment_merge.proofs.examples.which_tours_are_joined.Goals as goal

pub returns-clause-two : goal.returns-clause-two
returns-clause-two c = record { before = []; first = near_task ∷ []; between = []; second = far_task ∷ []; after = []; turn_first = false; turn_second = true; apart = refl; together = refl }

pub returns-clause-alone : goal.returns-clause-alone
returns-clause-alone c = λ join.
    absurd (omega (arith, ap length join.apart, length-append join.before (join.first ∷ (join.between ++ join.second ∷ join.after)), length-append join.between (join.second ∷ join.after)))
