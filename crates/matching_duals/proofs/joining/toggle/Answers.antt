use Rattle.std.proofs.Common.{◌<◌, ◌-◌, ◌+◌, ◌%◌, ◌==◌, length, take, get_or, ap, sym, ◌∙◌, subst, arith}
use Rattle.std.specs.List.{count_by}
use Rattle.std.proofs.lemmas.List.{length-set}
use Rattle.carp_base.specs.Problem.{IsEdgeNumber}
use Rattle.plan_model.specs.declared.step.Step.{Step}
use Rattle.plan_model.specs.Plans.{no_step}
use Rattle.edge_components.specs.Parts.{parts_of}
use Rattle.matching_duals.proofs.Joined.{bits_set, count_more, toggled}
use Rattle.matching_duals.proofs.joining.toggle.Goals as goal

pub loop-i-preserved : goal.loop-i-preserved
loop-i-preserved c =
    let now = c.loop-i.counts in
    let walk = c.args.walk.now in
    let i = c.loop-i.i in
    let place = c.step.result.edge - 1 in
    let below : i < length walk = omega (arith, c.loop-i-test.true, c.len-i-end.ensures.value) in
    let number = subst (λ (s : Step). IsEdgeNumber c.args.inst.now s.edge) (sym c.step.ensures) (c.requires.edges i no_step below) in
    record {
      long = length-set now place (1 - get_or now place 0) ∙ c.loop-i.invariant.long;
      parities = λ e is.
          let more = count_more walk i e below (c.step.result) c.step.ensures in
          toggled now c.step.result.edge e (parts_of c.args.counts.now e) (count_by (λ s. s.edge == e) (take i walk)) number.from_one (omega (arith, number.in_range, number.from_one, c.loop-i.invariant.long)) (c.loop-i.invariant.parities e is)
          (c.loop-i.invariant.bits place) is.from_one ∙ ap (λ n. (parts_of c.args.counts.now e + n) % 2) (sym more);
      bits = bits_set now place c.loop-i.invariant.bits;
    }
