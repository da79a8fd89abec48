use Rattle.std.proofs.Common.{subst}
use Rattle.std.proofs.Math.Logic.{∥∥₁_elim}
use Rattle.plan_model.specs.Plans.{IsLawful}
use Rattle.helper_frame.specs.Keeping.{IsFoundBesideSome}
use Rattle.helper_frame.proofs.OneProof.{lawful_prop}
use Rattle.helper_frame.proofs.keeping.Keeper.kept.Goals as goal

pub returns-in-Some-clause-lawful : goal.returns-in-Some-clause-lawful
returns-in-Some-clause-lawful g c =
    let plan = c.in-Some.known.plan in
    let lawful = ∥∥₁_elim c.in-Some.known.lawful (lawful_prop c.in-Some.known.inst plan) (λ it. it) in
    subst (λ p. IsLawful p plan) (c.is_same.ensures.same c.if-is_same.true) lawful

pub returns-in-Some-clause-found : goal.returns-in-Some-clause-found
returns-in-Some-clause-found g c =
    subst (λ p. IsFoundBesideSome g.F.Finder.finds p c.in-Some.known.plan) (c.is_same.ensures.same c.if-is_same.true) c.in-Some.known.found
