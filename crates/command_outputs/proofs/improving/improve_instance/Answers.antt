use Rattle.std.proofs.lemmas.List.Elements.{All-map}
use Rattle.helper_rounds.specs.Helpers.{IsAtMost}
use Rattle.cert_lines.specs.Certificates.{Certificate}
use Rattle.cert_format.specs.Certs.{certificate_in}
use Rattle.command_outputs.specs.Outputs.{output_in}
use Rattle.command_outputs.proofs.Bettered.{improved_by}
use Rattle.command_outputs.proofs.Solved.{of_ok}
use Rattle.command_outputs.proofs.improving.improve_instance.Goals as goal

pub returns-clause-improved : goal.returns-clause-improved
returns-clause-improved g c =
    let certificate : Certificate = certificate_in c.in_ok-better.better.cert in
    let better = c.in_ok-better.ensures.improved in
    let helped = All-map (IsAtMost certificate.cost) (λ helper. (g.P.Proposer.tally helper).least) _ c.in_ok-better.ensures.least in
    of_ok c.deliver_found.result c.deliver_found.ensures (λ d told.
    improved_by certificate c.args.turns c.in_ok-better.better.turns d.status (output_in d) better helped told)
