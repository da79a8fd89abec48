-- What going on from a certificate makes, except for the files.
use Rattle.std.specs.Prelude.{◌≡◌, ℕ, ◌+◌, min, List, [], ◌∷◌, All, Option}
use Rattle.carp_base.specs.Problem.{Problem}
use Rattle.cert_lines.specs.Certificates.{Certificate}
use Rattle.cert_lines.specs.Texts as certificates
use Rattle.plan_print.specs.Report.{report_text}
use Rattle.helper_rounds.specs.Helpers.{IsAtMost}
use Rattle.carp_engine.specs.Improved.{IsImproved}
use Rattle.command_outputs.specs.Solving.{IsEnding}
use Rattle.command_outputs.specs.Outputs.{Output}
use Rattle.command_inputs.specs.declared.status.Status.{Status}

-- A name is to hold the text of a certificate of the instance, and its report is to be written: the certificate is good, costs no more than the
-- old one and than what helpers offered, and its bound is no lower than the old one's. The turns are those of its tree; the bound is below the
-- cost only if they are at least those of the old tree and so many more as were asked for, or 1,048,576.
pub record IsImprovedBy (p : Problem) (old : Certificate) (improved : List ℕ) (asked : ℕ) (offered : List (Option ℕ)) (status : Status) (output : Output) : Type 0 where
  pub certificate : Certificate
  pub turns : ℕ
  pub better : IsImproved p old certificate asked turns
  pub ending : IsEnding certificate (min (better.before + asked) 1048576) turns status
  pub helped : All (IsAtMost certificate.cost) offered
  pub kept_text : List ℕ
  pub kept_is : certificates.IsTextOf kept_text certificate
  pub keeps : output.kept ≡ record { name = improved; bytes = kept_text } ∷ []
  pub writes : output.text ≡ report_text p certificate turns
