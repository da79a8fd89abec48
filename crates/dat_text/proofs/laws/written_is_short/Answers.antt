use Rattle.dat_text.proofs.Lengths.{written_short}
use Rattle.dat_text.proofs.laws.written_is_short.Goals as goal

pub returns : goal.returns
returns c = written_short
