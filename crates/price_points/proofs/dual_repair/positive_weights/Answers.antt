use Rattle.std.proofs.Common.{rules, ◌≡◌, ◌++◌, ◌∷◌, []}
use Rattle.price_points.proofs.Pushed.{within_push}
use Rattle.price_points.proofs.dual_repair.positive_weights.Goals as goal

pub loop-weight-preserved : goal.loop-weight-preserved
loop-weight-preserved c =
    let items : c.push.new.self.items ≡ c.loop-weight.positive.items ++ c.positive_weight.result ∷ [] = search rules in
    within_push c.push.new.self.items c.loop-weight.positive.items c.positive_weight.result items c.loop-weight.invariant c.positive_weight.ensures
