use Rattle.std.proofs.Common.{append_assoc, refl}
use Rattle.cert_format.specs.Pieces.{second_text}
use Rattle.cert_format.proofs.writing.push_second.Goals as goal

pub returns : goal.returns
unfolding second_text
returns c = rw (c.in_ok-push_counts.ensures, c.in_ok-push_line.ensures, append_assoc) refl
