use Rattle.std.proofs.Common.{sym, subst}
use Rattle.plan_model.specs.Plans.{IsLawful}
use Rattle.helper_frame.specs.Keeping.{IsFoundBesideSome}
use Rattle.helper_frame.proofs.keeping.KnownPlan.of.Goals as goal

pub invariant_of-result : goal.invariant_of-result
invariant_of-result g c =
    let finds = g.F.Finder.finds in
    let plan = c.in_ok-copy-2.field-0 in
    let of_instance = sym c.in_ok-copy.ensures in
    let of_plan = sym c.in_ok-copy-2.ensures in
    record {
      lawful = ∣ subst (λ p. IsLawful p plan) of_instance (subst (IsLawful c.args.inst.now) of_plan c.requires.lawful) ∣₁;
      found = subst (λ p. IsFoundBesideSome finds p plan) of_instance (subst (IsFoundBesideSome finds c.args.inst.now) of_plan c.requires.found);
    }
