use Rattle.std.proofs.Common.{arith}
use Rattle.shore_search.proofs.Parts.{parts_read}
use Rattle.shore_search.proofs.judging.parts_across.Goals as goal

pub returns-then-crosses-clause-small : goal.returns-then-crosses-clause-small
returns-then-crosses-clause-small c =
    omega (arith, c.requires.parts.small c.args.e c.requires.number, parts_read c.args.x.now c.args.e c.requires.number.from_one)
