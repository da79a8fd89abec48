use Rattle.std.proofs.Common.{arith}
use Rattle.group_search.proofs.Counted.{few}
use Rattle.group_search.proofs.judging.violation.Goals as goal

pub vehicles-requires-clause-few : goal.vehicles-requires-clause-few
vehicles-requires-clause-few c = omega (arith, few c.args.inst.now c.args.group.now c.requires.group, c.validity.ensures.few_required)

pub cut-requires : goal.cut-requires
cut-requires c = record {
  few = omega (arith, few c.args.inst.now c.args.group.now c.requires.group, c.validity.ensures.few_required);
  within = λ k d below. omega (arith, (c.requires.group.required k d below).in_range, c.requires.flow);
}
