use Rattle.tight_prices.specs.Probes.{ground_of}
use Rattle.tight_prices.proofs.Tabled.{probe_says}
use Rattle.tight_prices.proofs.probe.try_set.Goals as goal

pub returns-then-branch-clause-says : goal.returns-then-branch-clause-says
returns-then-branch-clause-says c =
    probe_says c.surcharges_are_bond_weights.ensures.sum (ground_of c.args.setting.now) c.args.set.now c.fill.new.table (c.in_ok-fill.ensures.light.0 c.if-branch.true) (c.in_ok-fill.ensures.filled c.if-branch.true) c.least.result
    c.least.ensures c.outcome.result c.outcome.ensures
