use Rattle.std.proofs.Common.{rules, ◌==◌}
use Rattle.std.proofs.lemmas.Fn.{filter_same}
use Rattle.helper_rounds.proofs.dismissing.dismiss.Goals as goal

pub returns : goal.returns
returns g c = filter_same _ (λ b. (g.P.Proposer.tally b).fouls == 0) _ (λ x b f' t. search rules) _ _ c.retain.ensures.filtered
