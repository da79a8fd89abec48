-- What `check`, `sheet` and `upgrade` do with a certificate that is good, for each way of reading files.
use Rattle.std.specs.Prelude.{◌≡◌, ℕ, List, [], ◌∷◌, codes}
use Rattle.carp_base.specs.Problem.{Problem}
use Rattle.cert_lines.specs.Certificates.{Certificate}
use Rattle.cert_lines.specs.Texts as certificates
use Rattle.cert_format.specs.Good.{IsGood, with_counts}
use Rattle.plan_print.specs.Sheet.{sheet_text}
use Rattle.command_line.specs.Commands.{Source}
use Rattle.command_inputs.specs.Jobs.{AreCertified}
use Rattle.command_outputs.specs.Texts.{answer_text}
use Rattle.command_outputs.specs.Outputs.{Output}

-- the two files are the texts of an instance and of a certificate that is good for it; its cost and its bound are to be written
pub record IsChecked (Reads : Source → (List ℕ → Type 0) → Type 0) (file cert : List ℕ) (output : Output) : Type 0 where
  pub instance : Problem
  pub certificate : Certificate
  pub certified : AreCertified Reads file cert instance certificate
  pub keeps : output.kept ≡ []
  pub writes : output.text ≡ answer_text (codes "accepted\n") certificate.cost certificate.bound

-- the same, and the street sheet of its plan is to be written
pub record IsSpelledOut (Reads : Source → (List ℕ → Type 0) → Type 0) (file cert : List ℕ) (output : Output) : Type 0 where
  pub instance : Problem
  pub certificate : Certificate
  pub certified : AreCertified Reads file cert instance certificate
  pub keeps : output.kept ≡ []
  pub writes : output.text ≡ sheet_text instance certificate.plan

-- the same, and a name is to hold the text of this certificate with the numbers of the instance, for which it is good too
pub record IsUpgraded (Reads : Source → (List ℕ → Type 0) → Type 0) (file cert renewed : List ℕ) (output : Output) : Type 0 where
  pub instance : Problem
  pub certificate : Certificate
  pub certified : AreCertified Reads file cert instance certificate
  pub still_good : IsGood instance (with_counts instance certificate)
  pub kept_text : List ℕ
  pub kept_is : certificates.IsTextOf kept_text (with_counts instance certificate)
  pub keeps : output.kept ≡ record { name = renewed; bytes = kept_text } ∷ []
  pub writes : output.text ≡ answer_text (codes "upgraded\n") certificate.cost certificate.bound
