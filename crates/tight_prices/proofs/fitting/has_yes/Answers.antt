use Rattle.tight_prices.proofs.Passing.{yes_say}
use Rattle.tight_prices.proofs.fitting.has_yes.Goals as goal

pub returns : goal.returns
returns c = rw c.is_ok.ensures.value (yes_say c.args.branch.now c.args.set.now c.check_yes.result c.check_yes.ensures.accepted c.check_yes.ensures.refused)
