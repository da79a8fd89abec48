use Rattle.std.proofs.Common.{arith}
use Rattle.column_generation.proofs.Offered.{offered_less}
use Rattle.column_generation.proofs.groups.leave_out.Goals as goal

pub returns-then-place-len : goal.returns-then-place-len
returns-then-place-len c = offered_less c.args.inst.now c.remove.new.self.items c.args.groups.now.items c.lightest-place.result (omega arith) c.remove.ensures.items c.requires
