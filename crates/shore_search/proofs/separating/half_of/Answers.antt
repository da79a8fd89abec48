use Rattle.std.proofs.Common.{arith}
use Rattle.shore_search.proofs.Parts.{parts_read}
use Rattle.shore_search.proofs.separating.half_of.Goals as goal

pub returns : goal.returns
returns c = omega (arith, c.requires.parts.small c.args.e c.requires.number, parts_read c.args.x.now c.args.e c.requires.number.from_one)
