use Rattle.tight_prices.proofs.Passing.{uppers_say}
use Rattle.tight_prices.proofs.fitting.has_uppers.Goals as goal

pub returns : goal.returns
returns c = rw c.is_ok.ensures.value (uppers_say c.args.branch.now c.args.set.now c.value_at.result c.value_at.ensures.accepted c.value_at.ensures.refused)
