-- What is left to be said once some of the three files are read. No public contract speaks of this.
use Rattle.std.specs.Prelude.{◌≡◌, ℕ, List, [], ◌∷◌, Option, Result, Ok, ◌⊎◌}
use Rattle.carp_base.specs.Problem.{Problem, IsValid}
use Rattle.dat_text.specs.Text.{IsTextOf}
use Rattle.cert_format.specs.declared.cert.Cert.{Cert}
use Rattle.instance_edits.specs.Edits.{edited}
use Rattle.instance_edits.specs.Texts.{IsEditsText}
use Rattle.carp_base.specs.declared.fail.Fail.{Fail}
use Rattle.carp_outside.specs.Causes.{Rose}
use Rattle.command_line.specs.Commands.{Source, certificate_at, edits_at}
use Rattle.command_inputs.specs.Files.{Holds, IsBadCertificate, IsBadFile, IsBadInstance, IsGoodText, IsInstance}
use Rattle.command_inputs.specs.Reads.{IsGoodCert, IsOfFile, IsParsed, IsTried, Seen}
use Rattle.command_inputs.specs.declared.status.Status.{Status}
use Rattle.command_inputs.specs.Edited.{AreBadTexts, AreGoodTexts, AreUnreadTwo, IsEditedBy, IsOfTexts}
use Rattle.command_inputs.specs.declared.edited.Edited.{Edited}
use Rattle.command_inputs.specs.declared.texts.Changed.{Changed}

-- the bytes were read as this instance, and as this certificate
abbrev pub IsReadInstance : List ℕ → Problem → Type 0
IsReadInstance file p = IsParsed {X = Problem} file IsTextOf IsBadInstance IsInstance (Ok p)

abbrev pub IsReadCert : Problem → List ℕ → Cert → Type 0
IsReadCert p text cert = IsParsed {X = Cert} text (IsGoodCert p) (IsBadCertificate p) (IsGoodText p) (Ok cert)

-- edits with this text, and the valid instance that they make
pub record IsChangedBy (p : Problem) (bytes : List ℕ) (changed : Changed) : Type 0 where
  pub text : IsEditsText p bytes changed.edits.items
  pub valid : IsValid (edited p changed.edits.items)
  pub after : changed.after ≡ edited p changed.edits.items

-- with two texts at hand: what the third file makes of them, how it is refused, and when it is not
abbrev pub AreOfThird : (file cert edits : List ℕ) → (Source → (List ℕ → Type 0) → Type 0) → Edited → Type 0
AreOfThird file cert edits Reads x = Reads (edits_at edits) (λ c. IsEditedBy file cert c x)

abbrev pub IsBadThird : (file cert edits : List ℕ) → (List ℕ → Option (List ℕ)) → Status → Type 0
IsBadThird file cert edits contents = IsBadFile (AreBadTexts file cert) (edits_at edits) contents

abbrev pub IsGoodThird : (file cert edits : List ℕ) → (List ℕ → Option (List ℕ)) → Type 0
IsGoodThird file cert edits contents = Holds (edits_at edits) contents (AreGoodTexts file cert)

abbrev pub IsTriedThird : (file cert edits : List ℕ) → Seen → Result Edited (Fail Status) → Type 0
IsTriedThird file cert edits seen result =
    IsTried seen (edits_at edits ∷ []) (λ status. IsOfFile status ⊎ IsOfTexts status) (Rose (seen.looks_before edits) (seen.looks_now edits))
    (IsBadThird file cert edits seen.contents) (IsGoodThird file cert edits seen.contents) result

-- with one text at hand: the same of the second file and the third
abbrev pub AreOfTwo : (file cert edits : List ℕ) → (Source → (List ℕ → Type 0) → Type 0) → Edited → Type 0
AreOfTwo file cert edits Reads x = Reads (certificate_at cert) (λ b. AreOfThird file b edits Reads x)

abbrev pub AreBadTwo : (file cert edits : List ℕ) → (List ℕ → Option (List ℕ)) → Status → Type 0
AreBadTwo file cert edits contents = IsBadFile (λ b. IsBadThird file b edits contents) (certificate_at cert) contents

abbrev pub AreGoodTwo : (file cert edits : List ℕ) → (List ℕ → Option (List ℕ)) → Type 0
AreGoodTwo file cert edits contents = Holds (certificate_at cert) contents (λ b. IsGoodThird file b edits contents)

abbrev pub AreTriedTwo : (file cert edits : List ℕ) → Seen → Result Edited (Fail Status) → Type 0
AreTriedTwo file cert edits seen result =
    IsTried seen (certificate_at cert ∷ edits_at edits ∷ []) (λ status. IsOfFile status ⊎ IsOfTexts status)
    (AreUnreadTwo cert edits seen.contents seen.looks_before seen.looks_now)
    (AreBadTwo file cert edits seen.contents) (AreGoodTwo file cert edits seen.contents) result
