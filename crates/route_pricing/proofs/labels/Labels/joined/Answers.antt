use Rattle.std.proofs.Common.{arith}
use Rattle.route_pricing.proofs.Inserting.{joined_are}
use Rattle.route_pricing.proofs.labels.Labels.joined.Goals as goal

pub returns : goal.returns
returns c =
    joined_are c.args.self c.args.other c.insert-more.result c.insert.result c.args.length c.saturating_add-first.result c.saturating_add-second.result c.requires.own
    (omega (arith, c.saturating_add-first.ensures)) (omega (arith, c.saturating_add-second.ensures))
    (λ less. omega (arith, c.saturating_add-first.ensures, less)) (λ less. omega (arith, c.saturating_add-second.ensures, less))
    c.insert-more.ensures c.insert.ensures
