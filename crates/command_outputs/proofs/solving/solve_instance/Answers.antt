use Rattle.std.proofs.lemmas.List.Elements.{All-map}
use Rattle.helper_rounds.specs.Helpers.{IsAtMost}
use Rattle.cert_lines.specs.Certificates.{Certificate}
use Rattle.cert_format.specs.Certs.{certificate_in}
use Rattle.command_outputs.specs.Outputs.{output_in}
use Rattle.command_outputs.proofs.Solved.{of_ok, solved_by}
use Rattle.command_outputs.proofs.solving.solve_instance.Goals as goal

pub returns-clause-solved : goal.returns-clause-solved
returns-clause-solved g c =
    let certificate : Certificate = certificate_in c.in_ok-solved.solved.cert in
    let helped = All-map (IsAtMost certificate.cost) (λ helper. (g.P.Proposer.tally helper).least) _ c.in_ok-solved.ensures.least in
    of_ok c.deliver_found.result c.deliver_found.ensures (λ d told.
    solved_by certificate c.args.turns c.in_ok-solved.solved.turns d.status (output_in d) c.in_ok-solved.ensures.sound c.in_ok-solved.ensures.ended c.in_ok-solved.ensures.whole helped told)
