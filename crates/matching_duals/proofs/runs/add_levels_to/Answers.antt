use Rattle.std.proofs.Math.Nat.{max-eq_left}
use Rattle.matching_duals.proofs.Running.{adds_none}
use Rattle.matching_duals.proofs.runs.add_levels_to.Goals as goal

pub returns-else-level-end-clause-added : goal.returns-else-level-end-clause-added
returns-else-level-end-clause-added c =
    rw (max-eq_left c.if-level-end.false) (adds_none c.args.inst.now c.args.depths.now c.args.level c.args.shores.now.items c.requires.joined)
