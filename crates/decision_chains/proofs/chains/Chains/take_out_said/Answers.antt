use Rattle.std.proofs.Common.{◌<◌, ℕ, get_or, arith, inl, inr, sym, subst}
use Rattle.std.proofs.lemmas.Bool.{cases_eq}
use Rattle.std.proofs.lemmas.List.{get_or_default}
use Rattle.decision_chains.specs.ChainTables.{IsNoOut}
use Rattle.decision_chains.proofs.TakingOut.{takes_none, takes_more, no_out_kept}
use Rattle.decision_chains.proofs.chains.Chains.take_out_said.Goals as goal

pub loop-decision-init : goal.loop-decision-init
loop-decision-init c = record {
  takes = takes_none c.args.self.now.inst.now c.args.self.now.decisions.now c.args.allowed.now;
  out = λ k d less. absurd (omega (arith, less));
}

pub loop-decision-preserved : goal.loop-decision-preserved
loop-decision-preserved c =
    let t = c.args.self.now in
    let ds = t.decisions.now in
    let one = c.take_out_no.ensures in
    record {
      takes = takes_more t.inst.now ds c.args.allowed.now c.loop-decision.allowed c.take_out_no.new.allowed c.loop-decision.invariant.takes one.takes;
      out = λ k d less. elim (cases_eq k c.loop-decision.decision-index) [
        | inl last ↦
            let new = c.take_out_no.new.allowed in
            subst (λ (i : ℕ). IsNoOut new (get_or ds i d)) (sym last) (subst (IsNoOut new) (get_or_default ds c.loop-decision.decision-index _ d c.loop-decision-test.true) one.out)
        | inr other ↦
            let before : k < c.loop-decision.decision-index = omega (arith, less, other) in
            no_out_kept t.inst.now ds c.loop-decision.allowed c.take_out_no.new.allowed one.takes (get_or ds k d) (c.requires.table.pairs k d (omega (arith, before, c.loop-decision-test.true))) (c.loop-decision.invariant.out k d before)
      ];
    }
