use Rattle.cert_format.proofs.Counted.{keep_good}
use Rattle.cert_format.proofs.laws.counts_keep_good.Goals as goal

pub returns : goal.returns
returns c = keep_good c.fine_is_spellable.ensures c.spellable_is_fine.ensures
