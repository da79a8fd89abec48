use Rattle.decision_chains.proofs.TakingOut.{left_are_unexcluded, takes_more, out_kept}
use Rattle.std.proofs.Common.{arith}
use Rattle.decision_chains.proofs.chains.Chains.allowed.Goals as goal

pub returns : goal.returns
returns c =
    let t = c.args.self.now in
    left_are_unexcluded t c.requires c.in_ok-allowed.allowed c.take_out_said.new.allowed c.in_ok-allowed.ensures
    (takes_more t.inst.now t.decisions.now c.in_ok-allowed.allowed c.take_out_barred.new.allowed c.take_out_said.new.allowed c.take_out_barred.ensures.takes c.take_out_said.ensures.takes)
    (λ a b a_in from_one less barred.
    out_kept t.inst.now t.decisions.now c.take_out_barred.new.allowed c.take_out_said.new.allowed c.take_out_said.ensures.takes a b a_in (record { from_one = from_one; in_range = omega (arith, less, a_in.in_range) })
    (c.take_out_barred.ensures.out a b a_in from_one less barred))
    c.take_out_said.ensures.out
