use Rattle.cert_format.proofs.Counted.{in_range}
use Rattle.cert_format.proofs.laws.counts_are_in_range.Goals as goal

pub returns : goal.returns
returns c = in_range
