-- What `drill` makes.
use Rattle.std.specs.Prelude.{◌≡◌, ◌≢◌, ℕ, ◌+◌, ◌-◌, ◌*◌, ◌/◌, ◌^◌, ◌≤◌, List, [], All, Option}
use Rattle.cert_lines.specs.Certificates.{Certificate}
use Rattle.town_maker.specs.Towns.{town_of}
use Rattle.helper_rounds.specs.Helpers.{IsAtMost}
use Rattle.carp_engine.specs.Solutions.{IsSound}
use Rattle.command_outputs.specs.Outputs.{Output}
use Rattle.command_outputs.specs.Texts.{drill_text}

-- A summary is to be written, and nothing is kept. The town of the number has a certificate of this cost, this bound and these turns: its plan is lawful and costs
-- no more than single tours or what helpers offered, and no lawful plan costs less than its bound, which is below the cost only if the turns are at least those
-- that were asked for, and not at all if so many were asked for that no tree has them.
pub record IsDrilled (seed asked : ℕ) (offered : List (Option ℕ)) (output : Output) : Type 0 where
  pub certificate : Certificate
  pub turns : ℕ
  pub sound : IsSound (town_of seed) certificate turns
  pub ended : certificate.bound ≢ certificate.cost → asked ≤ turns
  pub whole : 2 ^ ((town_of seed).required * ((town_of seed).required - 1) / 2 + 5) ≤ asked → certificate.bound ≡ certificate.cost
  pub helped : All (IsAtMost certificate.cost) offered
  pub keeps : output.kept ≡ []
  pub writes : output.text ≡ drill_text seed asked (town_of seed) certificate.cost certificate.bound turns
