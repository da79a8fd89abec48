use Rattle.std.proofs.Common.{sym, ◌∙◌}
use Rattle.branch_rules.specs.Limits.{IsFineWeight}
use Rattle.cert_format.specs.Lists.{weight_fine}
use Rattle.cert_format.proofs.Ranges.{all_hold, all_need, fine_holds, fine_needs}
use Rattle.cert_format.proofs.draft.are_weights.Goals as goal

pub returns : goal.returns
returns c = (λ e. all_hold weight_fine IsFineWeight fine_holds c.args.weights.now (sym c.all_weights.ensures ∙ e), λ all. c.all_weights.ensures ∙ all_need weight_fine IsFineWeight fine_needs c.args.weights.now all)
