use Rattle.std.proofs.Common.{◌≡◌, ℕ, ◌+◌, ◌-◌, ◌*◌, ◌/◌, ◌^◌, ◌≤◌, subst, ap, ◌∙◌}
use Rattle.std.proofs.lemmas.List.Elements.{All-map}
use Rattle.carp_base.specs.Problem.{Problem}
use Rattle.helper_rounds.specs.Helpers.{IsAtMost}
use Rattle.carp_engine.specs.Solutions.{IsSound}
use Rattle.cert_lines.specs.Certificates.{Certificate}
use Rattle.cert_format.specs.Certs.{certificate_in}
use Rattle.command_outputs.specs.Outputs.{Output}
use Rattle.command_outputs.specs.Texts.{drill_text}
use Rattle.command_outputs.proofs.Solved.{of_ok, spent}
use Rattle.command_outputs.proofs.drilling.drill_town.Goals as goal

pub returns-clause-drilled : goal.returns-clause-drilled
returns-clause-drilled g c =
    let certificate : Certificate = certificate_in c.in_ok-solved.solved.cert in
    let turns : ℕ = c.in_ok-solved.solved.turns in
    of_ok c.deliver_checked.result c.deliver_checked.ensures (λ d made. (
      made.0,
      record {
        certificate = certificate;
        turns = turns;
        sound = subst (λ (p : Problem). IsSound p certificate turns) c.requires.town c.in_ok-solved.ensures.sound;
        ended = spent certificate.bound certificate.cost c.args.turns turns c.in_ok-solved.ensures.ended;
        whole = subst (λ (p : Problem). 2 ^ (p.required * (p.required - 1) / 2 + 5) ≤ c.args.turns → certificate.bound ≡ certificate.cost) c.requires.town c.in_ok-solved.ensures.whole;
        helped = All-map (IsAtMost certificate.cost) (λ helper. (g.P.Proposer.tally helper).least) _ c.in_ok-solved.ensures.least;
        keeps = ap (λ (w : Output). w.kept) made.1;
        writes = ap (λ (w : Output). w.text) made.1 ∙ ap (λ (p : Problem). drill_text c.args.seed c.args.turns p certificate.cost certificate.bound turns) c.requires.town;
      },
    ))
