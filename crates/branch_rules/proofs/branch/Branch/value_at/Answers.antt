use Rattle.std.specs.Int.{w128}
use Rattle.std.proofs.Common.{◌≡◌, ℤ, ◌+ℤ◌, ◌-ℤ◌, rules, FitsSigned, arith, ap, ◌∙◌, ◌+◌, ◌≤◌, get_or, length, subst, List}
use Rattle.std.proofs.lemmas.Int.{ints, to_z-of_z}
use Rattle.branch_rules.specs.Decisions.{rules_of}
use Rattle.std.proofs.lemmas.List.{take_all}
use Rattle.branch_rules.specs.Prices.{signed_sum, weight_value, room_weight, weight_at, no_weight}
use Rattle.branch_rules.specs.Refusals.{HasUpper}
use Rattle.branch_rules.specs.declared.weight.Weight.{Weight}
use Rattle.branch_rules.proofs.Signed.{signed_sum_step}
use Rattle.branch_rules.proofs.Places.{one_more, all_at}
use Rattle.branch_rules.proofs.branch.Branch.value_at.Goals as goal

pub loop-weight-preserved : goal.loop-weight-preserved
loop-weight-preserved c =
    let one = c.in_ok-sum.ensures in
    let rules = rules_of c.args.inst.now c.args.pool.now c.args.self.now in
    let i = c.loop-weight.weight-index in
    let same = c.shore_weights-weight-items.ensures.value in
    let few : c.loop-weight.weight-index + 1 ≤ 2000 = omega (arith, c.loop-weight-test.true, c.shore_weights-weight-items.ensures.fine.few_weights, ap length same) in
    record {
      value = signed_sum_step {X = Weight} (weight_value rules) c.args.set.now.weights i no_weight _ _ _ (omega (arith, c.loop-weight-test.true, ap length same)) c.loop-weight.invariant.value
          (one.value ∙ ap (λ (xs : List Weight). weight_value rules (get_or xs i no_weight)) same) (omega (arith, ints, one.low, one.high, few));
      low = omega (arith, ints, one.low, one.high, few);
      high = omega (arith, ints, one.low, one.high, few);
      before = one_more (λ k. HasUpper c.args.self.now (weight_at c.args.set.now k)) i c.loop-weight.invariant.before (subst (λ (xs : List Weight). HasUpper c.args.self.now (get_or xs i no_weight)) same one.accepted);
    }

pub returns-clause-accepted : goal.returns-clause-accepted
returns-clause-accepted c = all_at (HasUpper c.args.self.now) c.args.set.now.weights no_weight (λ k less. c.loop-weight.invariant.before k (omega (arith, less, c.loop-weight-test.false, ap length c.shore_weights-weight-items.ensures.value)))

pub returns-clause-value : goal.returns-clause-value
returns-clause-value c =
    let rules_here = rules_of c.args.inst.now c.args.pool.now c.args.self.now in
    let ends : length c.args.set.now.weights ≤ c.loop-weight.weight-index = omega (arith, c.loop-weight-test.false, ap length c.shore_weights-weight-items.ensures.value) in
    let whole = c.loop-weight.invariant.value ∙ ap (signed_sum (weight_value rules_here)) (take_all c.loop-weight.weight-index c.args.set.now.weights ends) in
    let rooms = c.rooms_weigh.ensures.value ∙ ap (room_weight rules_here) c.groups.ensures.value in
    let services = c.sum_of-prices.ensures.value ∙ ap (signed_sum (λ z. z)) c.prices.ensures.value in
    let fits : FitsSigned w128 c.sum_of-prices.result = search rules in
    let fits_rooms : FitsSigned w128 c.rooms_weigh.result = search rules in
    let fits_net : FitsSigned w128 c.net.result = search rules in
    to_z-of_z w128 c.net.result fits_net ∙ c.net.ensures.value
    ∙ net_of (to_z-of_z w128 c.sum_of-prices.result fits ∙ services) whole (to_z-of_z w128 c.rooms_weigh.result fits_rooms ∙ rooms)
  where
    net_of : {a b c d m n : ℤ} → a ≡ b → c ≡ d → m ≡ n → ((a +ℤ c) -ℤ m) ≡ ((b +ℤ d) -ℤ n)
    net_of first second third = λ i. (first i +ℤ second i) -ℤ third i
