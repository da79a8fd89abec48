-- What is made of the bytes of a certificate.
use Rattle.std.proofs.Common.{◌≡◌, ℕ, List, refl, sym, ap, ◌∙◌, subst, inl, inr, IsTrue, Bool, Option}
use Rattle.std.specs.Prelude.{Result, Err, IfOk, IsErrOf}
use Rattle.carp_base.specs.Problem.{Problem}
use Rattle.carp_base.specs.declared.fail.Fail.{Fail}
use Rattle.carp_base.specs.declared.fail.Fail.TheVariants.{Refused}
use Rattle.cert_lines.specs.declared.fault.CertFault.{CertFault}
use Rattle.cert_lines.specs.Certificates.{Certificate}
use Rattle.cert_lines.specs.Laws.{TextIsUnique, TextHasNoFault, FaultIsUnique}
use Rattle.cert_lines.specs.Texts.{IsTextOf, IsFaultOf}
use Rattle.cert_format.specs.Good.{IsGood}
use Rattle.cert_checker.specs.declared.reason.Answer.{Answer}
use Rattle.cert_checker.specs.declared.reason.Answer.TheVariants as answers
use Rattle.cert_checker.specs.declared.reason.Reason.{Reason}
use Rattle.cert_checker.specs.declared.streaming.Checked.{Checked}
use Rattle.cert_checker.specs.Reasons.{IsAnswer, IsFirstReason, GoodHasNoReason, ReasonIsUnique}
use Rattle.cert_checker.specs.Streams.{IsChecked, IsCheckedGiven}
use Rattle.dat_text.specs.Laws.{FaultIsUnique as DatFaultIsUnique, TextHasNoFault as InstanceHasNoFault}
use Rattle.dat_text.specs.Text as instances
use Rattle.dat_text.specs.declared.fault.DatFault.{DatFault}
use Rattle.command_inputs.specs.Files.{GivenIn, Holds, IsBadCertificate, IsBadInstance, IsGoodText, IsInstance}
use Rattle.command_line.specs.Commands.{Source}
use Rattle.command_inputs.specs.declared.reading.Stated.{Stated}
use Rattle.command_inputs.specs.Reads.{IsAcceptedText, IsFileRead, IsOfBytes, IsOfCertificate, IsOfInstance, IsParsed, accepted_of}
use Rattle.command_inputs.specs.declared.status.Status.{Status}
use Rattle.command_inputs.specs.declared.status.Status.TheVariants.{BadCertificate, BadInstance, Rejected}
use Rattle.command_inputs.proofs.FileReads.{file_parsed, same_refusal}
use Rattle.command_inputs.proofs.Results.{made, of_some, seen_by}

-- bytes have one text or one fault, and a certificate is good or has one first reason
pub record AreApart : Type 0 where
  pub text : TextIsUnique
  pub apart : TextHasNoFault
  pub fault : FaultIsUnique
  pub good : GoodHasNoReason
  pub reason : ReasonIsUnique

pub faulty : {X : Type 0} {p : Problem} {Is : List ℕ → X → Type 0} → TextHasNoFault → FaultIsUnique → (bytes : List ℕ) (fault : CertFault) → IsFaultOf bytes fault
    → IsParsed bytes Is (IsBadCertificate p) (IsGoodText p) (Err (Refused (BadCertificate fault)))
faulty {X} apart unique bytes fault is = record {
  made = tt;
  refusal = λ status e. subst IsOfBytes (same_refusal e) tt;
  refused = λ status e. inl (record { fault = fault; first = is; named = sym (same_refusal e) });
  bad = λ status bad. elim bad [
    | inl b ↦ inl (ap (λ s. Err (Refused s)) (ap BadCertificate (unique bytes fault b.fault is b.first) ∙ sym b.named))
    | inr r ↦ absurd (apart bytes r.certificate fault r.text is)
  ];
  good = λ good. absurd (apart bytes good.certificate fault good.text is);
}

pub rejected : {X : Type 0} {p : Problem} {Is : List ℕ → X → Type 0} → AreApart → (bytes : List ℕ) (c : Certificate) (reason : Reason) → IsTextOf bytes c → IsFirstReason p c reason
    → IsParsed bytes Is (IsBadCertificate p) (IsGoodText p) (Err (Refused (Rejected reason)))
rejected {X} {p} laws bytes c reason text first = record {
  made = tt;
  refusal = λ status e. subst IsOfBytes (same_refusal e) tt;
  refused = λ status e. inr (record { certificate = c; text = text; reason = reason; first = first; named = sym (same_refusal e) });
  bad = λ status bad. elim bad [
    | inl b ↦ absurd (laws.apart bytes c b.fault text b.first)
    | inr r ↦ inl (ap (λ s. Err (Refused s)) (ap Rejected (laws.reason p c reason r.reason first (subst (λ (d : Certificate). IsFirstReason p d r.reason) (laws.text bytes r.certificate c r.text text) r.first)) ∙ sym r.named))
  ];
  good = λ good. absurd (laws.good p c reason (subst (λ (d : Certificate). IsGood p d) (laws.text bytes good.certificate c good.text text) good.good) first);
}

pub accepted : {X : Type 0} {p : Problem} {Is : List ℕ → X → Type 0} → AreApart → (bytes : List ℕ) (c : Certificate) (x : X) → IsTextOf bytes c → IsGood p c → Is bytes x
    → IsParsed bytes Is (IsBadCertificate p) (IsGoodText p) (made X x)
accepted {X} {p} laws bytes c x text good is = record {
  made = is;
  refusal = λ status e. cc;
  refused = λ status e. cc;
  bad = λ status bad. elim bad [
    | inl b ↦ absurd (laws.apart bytes c b.fault text b.first)
    | inr r ↦ absurd (laws.good p c r.reason good (subst (λ (d : Certificate). IsFirstReason p d r.reason) (laws.text bytes r.certificate c r.text text) r.first))
  ];
  good = λ good. inl refl;
}

-- by which answers bytes are refused
pub of_instance : (bytes : List ℕ) (status : Status) → IsBadInstance bytes status → IsOfInstance status
of_instance bytes status bad = subst IsOfInstance (sym bad.named) tt

pub of_certificate : (p : Problem) (bytes : List ℕ) (status : Status) → IsBadCertificate p bytes status → IsOfCertificate status
of_certificate p bytes status (inl bad) = subst IsOfCertificate (sym bad.named) tt
of_certificate p bytes status (inr rejected) = subst IsOfCertificate (sym rejected.named) tt

-- bytes that are no text of an instance
pub bad_instance : InstanceHasNoFault → DatFaultIsUnique → (bytes : List ℕ) (fault : DatFault) → instances.IsFaultOf bytes fault
    → IsParsed {X = Problem} bytes instances.IsTextOf IsBadInstance IsInstance (Err (Refused (BadInstance fault)))
bad_instance apart unique bytes fault is = record {
  made = tt;
  refusal = λ status e. subst IsOfBytes (same_refusal e) tt;
  refused = λ status e. record { fault = fault; first = is; named = sym (same_refusal e) };
  bad = λ status bad. inl (ap (λ s. Err (Refused s)) (ap BadInstance (unique bytes fault bad.fault is bad.first) ∙ sym bad.named));
  good = λ good. absurd (apart bytes good.instance fault good.text is);
}

-- the certificate of a file is bad
pub file_faulty : {X : Type 0} {contents_told : Bool} {source : Source} {contents : List ℕ → Option (List ℕ)} {lb ln : List ℕ → ℕ} {gb gn : ℕ} {p : Problem} {Is : List ℕ → X → Type 0}
    → TextHasNoFault → FaultIsUnique → (fault : CertFault) → (IsTrue contents_told → Holds source contents (λ bytes. IsFaultOf bytes fault))
    → IsFileRead {X = X} (seen_by contents_told contents lb ln gb gn) source IsOfCertificate Is (IsBadCertificate p) (IsGoodText p) (Err (Refused (BadCertificate fault)))
file_faulty {X} {source = source} {contents = contents} apart unique fault is =
    file_parsed (Err (Refused (BadCertificate fault))) (λ told. of_some (contents source.name) (is told) (λ bytes held. (held.0, faulty apart unique bytes fault held.1))) tt
    (λ status e. subst IsOfBytes (same_refusal e) tt) (λ status e. subst IsOfCertificate (same_refusal e) tt)

-- the certificate of a file was checked
pub file_checked : {contents_told : Bool} {source : Source} {contents : List ℕ → Option (List ℕ)} {lb ln : List ℕ → ℕ} {gb gn : ℕ} {p : Problem} → AreApart → (checked : Checked)
    (r : Result Stated (Fail Status)) → r ≡ accepted_of checked checked.answer → (IsTrue contents_told → Holds source contents (λ bytes. IsChecked p bytes checked)) → IsCheckedGiven p gb gn checked
    → IsFileRead (seen_by contents_told contents lb ln gb gn) source IsOfCertificate (IsAcceptedText p) (IsBadCertificate p) (IsGoodText p) r
file_checked {contents_told} {source} {contents} {lb} {ln} {gb} {gn} {p} laws checked r is told given =
    subst (IsFileRead (seen_by contents_told contents lb ln gb gn) source IsOfCertificate (IsAcceptedText p) (IsBadCertificate p) (IsGoodText p)) (sym is)
    (file_parsed (accepted_of checked checked.answer) (λ tells. of_some (contents source.name) (told tells) (λ bytes held. (held.0, parsed bytes held.1)))
    (given_by checked.answer given.is.answer) (λ status. refusal checked.answer status) (λ status. kind checked.answer status)) where
      parsed : (bytes : List ℕ) → IsChecked p bytes checked → IsParsed bytes (IsAcceptedText p) (IsBadCertificate p) (IsGoodText p) (accepted_of checked checked.answer)
      parsed bytes of = by checked.answer of.answer where
        by : (a : Answer) → IsAnswer p of.certificate a → IsParsed bytes (IsAcceptedText p) (IsBadCertificate p) (IsGoodText p) (accepted_of checked a)
        by answers.Accepted good =
            accepted laws bytes of.certificate (record { cost = checked.cost; bound = checked.bound; plan = checked.plan }) of.text good (record { certificate = of.certificate; text = of.text; good = good; cost = of.cost; bound = of.bound; plan = of.plan })
        by (answers.Rejected reason) first = rejected laws bytes of.certificate reason of.text first

      given_by : (a : Answer) → IsAnswer p given.is.certificate a → IfOk (accepted_of checked a) (λ x. GivenIn gb gn source (λ bytes. IsAcceptedText p bytes x))
      given_by answers.Accepted good =
          (given.bytes, given.given, record { certificate = given.is.certificate; text = given.is.text; good = good; cost = given.is.cost; bound = given.is.bound; plan = given.is.plan })
      given_by (answers.Rejected reason) first = tt

      refusal : (a : Answer) (status : Status) → IsErrOf (accepted_of checked a) (Refused status) → IsOfBytes status
      refusal answers.Accepted status e = cc
      refusal (answers.Rejected reason) status e = subst IsOfBytes (same_refusal e) tt

      kind : (a : Answer) (status : Status) → IsErrOf (accepted_of checked a) (Refused status) → IsOfCertificate status
      kind answers.Accepted status e = cc
      kind (answers.Rejected reason) status e = subst IsOfCertificate (same_refusal e) tt
