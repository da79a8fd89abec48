-- What is made of an edit: the edited instance, and the certificate that was carried over to it.
use Rattle.std.specs.Prelude.{◌≡◌, ℕ, ◌-◌, List, [], ◌∷◌, length}
use Rattle.carp_base.specs.Problem.{IsValid}
use Rattle.dat_text.specs.DatText.{dat_of}
use Rattle.cert_lines.specs.Certificates.{Certificate}
use Rattle.cert_lines.specs.Texts as certificates
use Rattle.cert_format.specs.Certs.{certificate_in}
use Rattle.cert_format.specs.Good.{IsProof}
use Rattle.cert_transfer.specs.Transfer.{IsCarriedOver}
use Rattle.command_inputs.specs.declared.edited.Edited.{Edited}
use Rattle.command_outputs.specs.Texts.{edit_text}
use Rattle.command_outputs.specs.Outputs.{Output}

-- the edited instance, which is valid, is to be kept under the first name, and then the carried certificate under the second; and a summary is to be written
pub record AreBothKept (read : Edited) (edited carried : List ℕ) (output : Output) : Type 0 where
  pub valid : IsValid read.after
  pub certificate : Certificate
  pub over : IsCarriedOver read.after (certificate_in read.cert) certificate
  pub proof : IsProof read.after certificate
  pub text : List ℕ
  pub text_is : certificates.IsTextOf text certificate
  pub keeps : output.kept ≡ record { name = edited; bytes = dat_of read.after } ∷ record { name = carried; bytes = text } ∷ []
  pub writes : output.text ≡ edit_text (length read.after.edges) (length read.before.edges - length read.after.edges) certificate.cost certificate.bound
