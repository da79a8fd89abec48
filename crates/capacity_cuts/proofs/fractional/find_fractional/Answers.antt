use Rattle.std.proofs.Common.{ℕ, Bool, List, subst, sym}
use Rattle.flow_cut.specs.Flows.{is_on}
use Rattle.capacity_cuts.specs.Violation.{IsGreatestViolation, IsMostViolated, IsViolated}
use Rattle.capacity_cuts.proofs.Shoring.{shore, greatest}
use Rattle.capacity_cuts.proofs.fractional.find_fractional.Goals as goal

pub list_side-requires-clause-shore : goal.list_side-requires-clause-shore
list_side-requires-clause-shore c =
    let p = c.args.inst.now in
    let found = rw c.in-Some.is at c.in_ok-find_side.ensures in
    let violated = subst (λ (s : List Bool). IsViolated p c.args.unit c.args.x.now (is_on s)) (sym c.deref.ensures.value) found.positive in
    shore c.vertices_are_listed.ensures c.equal_sets_have_one_border.ensures p c.args.unit c.args.x.now (is_on c.deref.result.now) c.validity.ensures violated

pub returns-in_ok-list_side-in-Some : goal.returns-in_ok-list_side-in-Some
returns-in_ok-list_side-in-Some c =
    let p = c.args.inst.now in
    let found = rw c.in-Some.is at c.in_ok-find_side.ensures in
    let violated = subst (λ (s : List Bool). IsViolated p c.args.unit c.args.x.now (is_on s)) (sym c.deref.ensures.value) found.positive in
    let most = subst (λ (s : List Bool). IsMostViolated p c.args.unit c.args.x.now (is_on s)) (sym c.deref.ensures.value) found.most in
    subst (λ (l : List ℕ). IsGreatestViolation p c.args.unit c.args.x.now l) (sym c.in_ok-list_side-in-Some.ensures)
    (greatest c.vertices_are_listed.ensures c.equal_sets_have_one_border.ensures p c.args.unit c.args.x.now (is_on c.deref.result.now) c.validity.ensures violated most)
