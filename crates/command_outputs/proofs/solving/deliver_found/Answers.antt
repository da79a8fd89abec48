use Rattle.cert_format.specs.Certs.{certificate_in}
use Rattle.command_outputs.proofs.Solved.{of_ok, told}
use Rattle.command_outputs.proofs.solving.deliver_found.Goals as goal

pub returns : goal.returns
returns c =
    of_ok c.deliver_one.result c.deliver_one.ensures (λ d made.
    told (certificate_in c.args.solved.now.cert) c.args.solved.now.turns _ _ c.ending-status.result
    c.ending-status.ensures.either c.ending-status.ensures.is_proven c.ending-status.ensures.is_gap c.ending-status.ensures.proven c.in_ok-bytes.ensures.read c.in_ok-bytes.ensures.spelled c.in_ok-text.ensures d made)
