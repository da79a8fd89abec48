-- The jobs that are made of what was read.
use Rattle.std.proofs.Common.{◌≡◌, ◌≤◌, List, ℕ, refl, sym, subst, Option, Some, None}
use Rattle.std.specs.Prelude.{IsSomeAnd}
use Rattle.carp_base.specs.Problem.{Problem, IsValid}
use Rattle.plan_model.specs.Plans.{IsLawful}
use Rattle.dat_text.specs.Text.{IsTextOf}
use Rattle.cert_lines.specs.Texts as certificates
use Rattle.cert_lines.specs.Certificates.{Certificate}
use Rattle.cert_lines.specs.Spelling.{IsSpellable}
use Rattle.cert_format.specs.Certs.{certificate_in}
use Rattle.cert_format.specs.Good.{CountsKeepGood, GoodIsProof, IsGood, with_counts}
use Rattle.cert_format.specs.declared.cert.Cert.{Cert}
use Rattle.command_line.specs.Commands.{Source, instance_at, certificate_at}
use Rattle.command_inputs.specs.Files.{GivenIn, HeldIn, Holds}
use Rattle.command_inputs.specs.Reads.{IsAcceptedText, IsGoodCert}
use Rattle.command_inputs.specs.declared.reading.Stated.{Stated}
use Rattle.command_inputs.specs.Jobs.{AreCertified, WasChecked, HasPlan, WasRenewed}
use Rattle.command_inputs.proofs.Given.{given_until, rose_since}

-- what is there, and that it is
with_some : {X : Type 0} {P : X → Type 0} {Q : Type 0} (o : Option X) → IsSomeAnd o P → ((x : X) → o ≡ Some x → P x → Q) → Q
with_some None none f = absurd none
with_some (Some x) holds f = f x refl holds

there : {X : Type 0} (P : X → Type 0) (o : Option X) (x : X) → o ≡ Some x → P x → IsSomeAnd o P
there P o x is holds = subst (λ y. IsSomeAnd y P) (sym is) holds

module _ {file cert : List ℕ} (p : Problem) (valid : IsValid p) (proves : GoodIsProof) where
  -- files that are read in some way
  module _ (Reads : Source → (List ℕ → Type 0) → Type 0) (read : Reads (instance_at file) (λ bytes. IsTextOf bytes p)) where
    certified : (c : Certificate) → Reads (certificate_at cert) (λ bytes. certificates.IsTextOf bytes c) → IsGood p c → AreCertified Reads file cert p c
    certified c text good = record { read = read; certified = text; good = good; proof = proves p c valid good }

    checked_by : {bytes : List ℕ} (stated : Stated) (accepted : IsAcceptedText p bytes stated) → Reads (certificate_at cert) (λ bytes. certificates.IsTextOf bytes accepted.certificate)
        → WasChecked Reads file cert stated.cost stated.bound
    checked_by stated accepted text = record {
      instance = p;
      certificate = accepted.certificate;
      certified = certified accepted.certificate text accepted.good;
      cost_is = accepted.cost;
      bound_is = accepted.bound;
    }

    plan_by : {bytes : List ℕ} (stated : Stated) (accepted : IsAcceptedText p bytes stated) → Reads (certificate_at cert) (λ bytes. certificates.IsTextOf bytes accepted.certificate)
        → HasPlan Reads file cert p stated.plan
    plan_by stated accepted text = record {
      certificate = accepted.certificate;
      certified = certified accepted.certificate text accepted.good;
      plan_is = accepted.plan;
    }

    renewed_by : CountsKeepGood → {bytes : List ℕ} (good renewed : Cert) → certificate_in renewed ≡ with_counts p (certificate_in good) → IsGoodCert p bytes good
        → Reads (certificate_at cert) (λ bytes. certificates.IsTextOf bytes (certificate_in good)) → WasRenewed Reads file cert renewed
    renewed_by keep good renewed is accepted text = record {
      instance = p;
      certificate = certificate_in good;
      certified = certified (certificate_in good) text accepted.good;
      renewed_is = is;
      still_good = (keep p (certificate_in good) valid accepted.good accepted.spellable).0;
    }

    held_by : {bytes : List ℕ} (good : Cert) → IsGoodCert p bytes good → Reads (certificate_at cert) (λ bytes. certificates.IsTextOf bytes (certificate_in good))
        → AreCertified Reads file cert p (certificate_in good)
    held_by good accepted text = certified (certificate_in good) text accepted.good

  -- of the bytes that names hold
  module _ (contents : List ℕ → Option (List ℕ)) (read : Holds (instance_at file) contents (λ bytes. IsTextOf bytes p)) where
    pub was_checked : (stated : Stated) → Holds (certificate_at cert) contents (λ bytes. IsAcceptedText p bytes stated) → WasChecked (HeldIn contents) file cert stated.cost stated.bound
    was_checked stated accepted = with_some (contents cert) accepted (λ bytes held text.
        checked_by (HeldIn contents) read stated text.1 (there _ (contents cert) bytes held (text.0, text.1.text)))

    pub has_plan : (stated : Stated) → Holds (certificate_at cert) contents (λ bytes. IsAcceptedText p bytes stated) → HasPlan (HeldIn contents) file cert p stated.plan
    has_plan stated accepted = with_some (contents cert) accepted (λ bytes held text.
        plan_by (HeldIn contents) read stated text.1 (there _ (contents cert) bytes held (text.0, text.1.text)))

    pub was_renewed : CountsKeepGood → (good renewed : Cert) → certificate_in renewed ≡ with_counts p (certificate_in good)
        → Holds (certificate_at cert) contents (λ bytes. IsGoodCert p bytes good) → WasRenewed (HeldIn contents) file cert renewed
    was_renewed keep good renewed is accepted = with_some (contents cert) accepted (λ bytes held text.
        renewed_by (HeldIn contents) read keep good renewed is text.1 (there _ (contents cert) bytes held (text.0, text.1.text)))

    pub was_held : (good : Cert) → Holds (certificate_at cert) contents (λ bytes. IsGoodCert p bytes good) → AreCertified (HeldIn contents) file cert p (certificate_in good)
    was_held good accepted = with_some (contents cert) accepted (λ bytes held text.
        held_by (HeldIn contents) read good text.1 (there _ (contents cert) bytes held (text.0, text.1.text)))

  -- of the bytes that files gave, one after the other
  module _ (gb gm gn : ℕ) (since : gb ≤ gm) (until : gm ≤ gn) (first : GivenIn gb gm (instance_at file) (λ bytes. IsTextOf bytes p)) where
    pub given_checked : (stated : Stated) → GivenIn gm gn (certificate_at cert) (λ bytes. IsAcceptedText p bytes stated) → WasChecked (GivenIn gb gn) file cert stated.cost stated.bound
    given_checked stated (bytes, rose, text) = checked_by (GivenIn gb gn) (given_until (instance_at file) (λ bytes. IsTextOf bytes p) gb gm gn until first) stated text (bytes, rose_since _ gb gm gn since rose, text.text)

    pub given_plan : (stated : Stated) → GivenIn gm gn (certificate_at cert) (λ bytes. IsAcceptedText p bytes stated) → HasPlan (GivenIn gb gn) file cert p stated.plan
    given_plan stated (bytes, rose, text) = plan_by (GivenIn gb gn) (given_until (instance_at file) (λ bytes. IsTextOf bytes p) gb gm gn until first) stated text (bytes, rose_since _ gb gm gn since rose, text.text)

    pub given_renewed : CountsKeepGood → (good renewed : Cert) → certificate_in renewed ≡ with_counts p (certificate_in good)
        → GivenIn gm gn (certificate_at cert) (λ bytes. IsGoodCert p bytes good) → WasRenewed (GivenIn gb gn) file cert renewed
    given_renewed keep good renewed is (bytes, rose, text) = renewed_by (GivenIn gb gn) (given_until (instance_at file) (λ bytes. IsTextOf bytes p) gb gm gn until first) keep good renewed is text (bytes, rose_since _ gb gm gn since rose, text.text)

    pub given_held : (good : Cert) → GivenIn gm gn (certificate_at cert) (λ bytes. IsGoodCert p bytes good) → AreCertified (GivenIn gb gn) file cert p (certificate_in good)
    given_held good (bytes, rose, text) =
        held_by (GivenIn gb gn) (given_until (instance_at file) (λ bytes. IsTextOf bytes p) gb gm gn until first) good text (bytes, rose_since _ gb gm gn since rose, text.text)

-- a checked plan is lawful
pub lawful_plan : {p : Problem} {bytes : List ℕ} (stated : Stated) → IsAcceptedText p bytes stated → IsLawful p stated.plan
lawful_plan {p} stated text = subst (IsLawful p) (sym text.plan) text.good.lawful

-- a renewed certificate can be spelled
pub spelled_again : {p : Problem} {bytes : List ℕ} → IsValid p → CountsKeepGood → (good renewed : Cert) → certificate_in renewed ≡ with_counts p (certificate_in good)
    → IsGoodCert p bytes good → IsSpellable (certificate_in renewed)
spelled_again {p} valid keep good renewed is text = subst IsSpellable (sym is) (keep p (certificate_in good) valid text.good text.spellable).1
