use Rattle.std.proofs.Common.{refl, arith, ◌<◌, vec_len}
use Rattle.branch_rules.proofs.Entering.{leaves_one}
use Rattle.branch_rules.proofs.path.Path.leave.Goals as goal

pub returns : goal.returns
returns c =
    let some : 0 < vec_len c.args.self.now.seconds = omega (arith, c.requires.some, c.args.self.now.seconds.ok) in
    leaves_one _ _ c.pop-2.result _ (omega (arith, c.requires.some, c.requires.path.even)) c.pop.ensures c.pop-2.ensures.items (c.pop-2.ensures.variant.1 some) c.flatten.ensures refl
