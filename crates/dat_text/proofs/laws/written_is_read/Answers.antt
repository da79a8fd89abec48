use Rattle.dat_text.proofs.RoundTrip.{written_text}
use Rattle.dat_text.proofs.laws.written_is_read.Goals as goal

pub returns : goal.returns
returns c = written_text
