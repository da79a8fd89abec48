use Rattle.std.proofs.Common.{arith, inl, inr}
use Rattle.std.proofs.lemmas.Bool.{cases_eq}
use Rattle.decision_chains.proofs.TakingOut.{takes_none, takes_more, out_kept}
use Rattle.decision_chains.proofs.chains.Chains.take_out_row.Goals as goal

pub loop-b-init : goal.loop-b-init
loop-b-init c = record {
  takes = takes_none c.args.self.now.inst.now c.args.self.now.decisions.now c.args.allowed.now;
  row = λ b from_one less barred. absurd (omega (arith, from_one, less));
}

pub loop-b-preserved : goal.loop-b-preserved
loop-b-preserved c =
    let t = c.args.self.now in
    let one = c.take_out_pair.ensures in
    record {
      takes = takes_more t.inst.now t.decisions.now c.args.allowed.now c.loop-b.allowed c.take_out_pair.new.allowed c.loop-b.invariant.takes one.takes;
      row = λ b from_one less barred. elim (cases_eq b c.loop-b.b) [
        | inl last ↦ rw last (one.out (rw last at barred))
        | inr other ↦
            out_kept t.inst.now t.decisions.now c.loop-b.allowed c.take_out_pair.new.allowed one.takes c.args.a b c.requires.a
            (record { from_one = from_one; in_range = omega (arith, less, c.loop-b-test.true, c.requires.a.in_range) })
            (c.loop-b.invariant.row b from_one (omega (arith, less, other)) barred)
      ];
    }
