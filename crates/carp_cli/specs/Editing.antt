-- What `edit` does with an instance, a certificate that is good for it, and edits, for each way of reading files.
use Rattle.std.specs.Prelude.{◌≡◌, ℕ, ◌-◌, List, [], ◌∷◌, length}
use Rattle.carp_base.specs.Problem.{Problem, IsValid}
use Rattle.dat_text.specs.DatText.{dat_of}
use Rattle.dat_text.specs.Text.{IsTextOf}
use Rattle.cert_lines.specs.Certificates.{Certificate}
use Rattle.cert_lines.specs.Texts as certificates
use Rattle.cert_format.specs.Good.{IsGood, IsProof}
use Rattle.cert_transfer.specs.Transfer.{IsCarriedOver}
use Rattle.instance_edits.specs.declared.edit.Edit.{Edit}
use Rattle.instance_edits.specs.Edits.{edited}
use Rattle.instance_edits.specs.Texts.{IsEditsText}
use Rattle.command_line.specs.Commands.{Source, instance_at, certificate_at, edits_at}
use Rattle.command_outputs.specs.Texts.{edit_text}
use Rattle.command_outputs.specs.Outputs.{Output}

-- three files are the texts of an instance, of a certificate that is good for it, and of edits of it
pub record AreEdited (Reads : Source → (List ℕ → Type 0) → Type 0) (file cert edits : List ℕ) (instance : Problem) (certificate : Certificate) (changes : List Edit) : Type 0 where
  pub read : Reads (instance_at file) (λ bytes. IsTextOf bytes instance)
  pub certified : Reads (certificate_at cert) (λ bytes. certificates.IsTextOf bytes certificate)
  pub edits_read : Reads (edits_at edits) (λ bytes. IsEditsText instance bytes changes)
  pub good : IsGood instance certificate

-- Then one name is to hold the text of the edited instance, which is valid, and then another the text of a certificate: the old one, carried over, which is good for the
-- edited instance, so that no lawful plan of that one costs less than its bound, and whose bound is no lower than the old one. How many edges there are and how many were closed, its cost, its bound and the gap
-- between them are to be written.
pub record IsCarriedAlong (Reads : Source → (List ℕ → Type 0) → Type 0) (file cert edits new_file new_cert : List ℕ) (output : Output) : Type 0 where
  pub instance : Problem
  pub certificate : Certificate
  pub changes : List Edit
  pub files : AreEdited Reads file cert edits instance certificate changes
  pub valid : IsValid (edited instance changes)
  pub carried : Certificate
  pub over : IsCarriedOver (edited instance changes) certificate carried
  pub proof : IsProof (edited instance changes) carried
  pub text : List ℕ
  pub text_is : certificates.IsTextOf text carried
  pub keeps : output.kept ≡ record { name = new_file; bytes = dat_of (edited instance changes) } ∷ record { name = new_cert; bytes = text } ∷ []
  pub writes : output.text ≡ edit_text (length (edited instance changes).edges) (length instance.edges - length (edited instance changes).edges) carried.cost carried.bound
