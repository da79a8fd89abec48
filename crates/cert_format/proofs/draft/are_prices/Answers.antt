use Rattle.std.proofs.Common.{sym, ◌∙◌}
use Rattle.branch_rules.specs.Limits.{IsPriceNumber}
use Rattle.cert_format.specs.Lists.{price_ok}
use Rattle.cert_format.proofs.Ranges.{all_hold, all_need, price_holds, price_needs}
use Rattle.cert_format.proofs.draft.are_prices.Goals as goal

pub returns : goal.returns
returns c = (λ e. all_hold price_ok IsPriceNumber price_holds c.args.services.now (sym c.all_prices.ensures ∙ e), λ all. c.all_prices.ensures ∙ all_need price_ok IsPriceNumber price_needs c.args.services.now all)
