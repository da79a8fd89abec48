use Rattle.std.proofs.Common.{◌≡◌, ◌∙◌, ap, arith, pos, ◌+ℤ◌, to_z, of_z, w64, List, map, sym, subst}
use Rattle.std.specs.List.{All}
use Rattle.std.specs.List.Sorted.{IsStrictlyIncreasing}
use Rattle.branch_rules.specs.Limits.{IsFineWeight}
use Rattle.branch_rules.specs.declared.weight.Weight.{Weight}
use Rattle.std.proofs.lemmas.Int.{ints}
use Rattle.std.proofs.lemmas.Result.{IfOk-weaker}
use Rattle.tight_prices.specs.Tight.{add_weight, weight_on}
use Rattle.tight_prices.proofs.place.higher_weights.Goals as goal

pub heavier-requires-clause-fine : goal.heavier-requires-clause-fine
heavier-requires-clause-fine c = subst (All IsFineWeight) (sym (c.deref.ensures.value ∙ c.in_ok-all.ensures)) c.unit.ensures.fine.weights

pub heavier-requires-clause-rising : goal.heavier-requires-clause-rising
heavier-requires-clause-rising c =
    subst (λ (ws : List Weight). IsStrictlyIncreasing (map (λ (w : Weight). w.shore) ws)) (sym (c.deref.ensures.value ∙ c.in_ok-all.ensures)) c.unit.ensures.fine.rising

pub returns : goal.returns
returns c =
    let all = c.deref.ensures.value ∙ c.in_ok-all.ensures in
    let z : to_z w64 (of_z w64 c.higher_weight-weight.result) ≡ weight_on c.deref.result.now c.args.s +ℤ pos c.args.more =
    omega (arith, ints, c.higher_weight-weight.ensures, c.higher_weight-weight.type_inv, ap (λ ws. weight_on ws c.args.s) all) in
    IfOk-weaker c.heavier.result (λ ws. ws.items ≡ add_weight c.args.s c.args.more c.deref.result.now) (λ ws. ws.items ≡ add_weight c.args.s c.args.more c.args.set.now.weights)
    (λ ws is. is ∙ ap (add_weight c.args.s c.args.more) all) (c.heavier.ensures c.args.more z)
