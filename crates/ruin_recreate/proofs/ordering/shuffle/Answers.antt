use Rattle.std.proofs.Common.{◌<◌}
use Rattle.std.proofs.lemmas.List.Sorted.{All-permutation, IsPermutation-trans}
use Rattle.ruin_recreate.specs.declared.ruining.Removed.{Removed}
use Rattle.ruin_recreate.proofs.ordering.shuffle.Goals as goal

pub loop-i-preserved : goal.loop-i-preserved
loop-i-preserved c = IsPermutation-trans c.args.removed.now c.loop-i.removed c.swap.new.self c.loop-i.invariant c.swap.ensures.permutation

pub returns-in_default-clause-within : goal.returns-in_default-clause-within
returns-in_default-clause-within c width within = All-permutation (λ (s : Removed). s.stop < width) c.args.removed.now c.loop-i.removed c.loop-i.invariant within

pub returns-after-loop-i-clause-within : goal.returns-after-loop-i-clause-within
returns-after-loop-i-clause-within c width within = All-permutation (λ (s : Removed). s.stop < width) c.args.removed.now c.loop-i.removed c.loop-i.invariant within
