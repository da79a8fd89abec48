use Rattle.std.proofs.Common.{◌≤◌, ◌<◌, ℕ, ◌≡◌, true, arith, inl, inr, subst, sym}
use Rattle.std.proofs.lemmas.Bool.{cases_eq}
use Rattle.decision_chains.specs.ChainTables.{IsOut, is_barred}
use Rattle.decision_chains.proofs.TakingOut.{takes_none, takes_more, out_kept}
use Rattle.decision_chains.proofs.chains.Chains.take_out_barred.Goals as goal

pub loop-a-init : goal.loop-a-init
loop-a-init c = record {
  takes = takes_none c.args.self.now.inst.now c.args.self.now.decisions.now c.args.allowed.now;
  out = λ a b less from_one below barred. absurd (omega (arith, less, from_one, below));
}

pub loop-a-preserved : goal.loop-a-preserved
loop-a-preserved c =
    let t = c.args.self.now in
    let row = c.take_out_row.ensures in
    record {
      takes = takes_more t.inst.now t.decisions.now c.args.allowed.now c.loop-a.allowed c.take_out_row.new.allowed c.loop-a.invariant.takes row.takes;
      out = λ a b less from_one below barred. elim (cases_eq a c.loop-a.a) [
        | inl last ↦
            let before : b < c.loop-a.a = omega (arith, below, last) in
            subst (λ (e : ℕ). IsOut c.take_out_row.new.allowed e b) (sym last) (row.row b from_one before (subst (λ (e : ℕ). is_barred t e b ≡ true) last barred))
        | inr other ↦
            let within : a ≤ t.inst.now.required = omega (arith, less, c.loop-a-test.true, c.required-a-end.ensures.value) in
            out_kept t.inst.now t.decisions.now c.loop-a.allowed c.take_out_row.new.allowed row.takes a b
            (record { from_one = omega (arith, from_one, below); in_range = within }) (record { from_one = from_one; in_range = omega (arith, below, within) })
            (c.loop-a.invariant.out a b (omega (arith, less, other)) from_one below barred)
      ];
    }

pub returns-clause-out : goal.returns-clause-out
returns-clause-out c = λ a b a_in from_one below barred. c.loop-a.invariant.out a b (omega (arith, a_in.in_range, c.loop-a-test.false, c.required-a-end.ensures.value)) from_one below barred
