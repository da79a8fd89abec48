use Rattle.cert_lines.proofs.Spelled.{spelled_read}
use Rattle.cert_lines.proofs.laws.spelled_is_read.Goals as goal

pub returns : goal.returns
returns c = spelled_read
