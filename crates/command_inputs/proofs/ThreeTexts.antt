-- What is made of three texts.
use Rattle.std.proofs.Common.{◌≡◌, ℕ, List, refl, sym, ap, ◌∙◌, subst, inl, inr}
use Rattle.std.specs.Prelude.{◌⊎◌, Result, Ok, Err, IfErr}
use Rattle.std.specs.declared.alloc.Global.{Global}
use Rattle.std.specs.declared.vec.Vec.{Vec}
use Rattle.carp_base.specs.Laws.{ValidWhereNoFault}
use Rattle.carp_base.specs.Problem.{Problem, IsValid}
use Rattle.carp_base.specs.Faults.{IsFirstFault}
use Rattle.carp_base.specs.Refusals.{RefusesFirstFault}
use Rattle.carp_base.specs.declared.fail.Fail.{Fail}
use Rattle.carp_base.specs.declared.fail.Fail.TheVariants.{Refused, Memory as NoMemory}
use Rattle.carp_base.specs.declared.fault.InstanceFault.{InstanceFault}
use Rattle.dat_text.specs.Laws.{InstanceIsUnique}
use Rattle.dat_text.specs.Text.{IsTextOf}
use Rattle.cert_format.specs.declared.cert.Cert.{Cert}
use Rattle.instance_edits.specs.Edits.{edited}
use Rattle.instance_edits.specs.Laws.{BadLineIsUnique, EditsAreUnique, EditsHaveNoFault}
use Rattle.instance_edits.specs.Texts.{IsEditsText, IsFirstBad, RefusesFirstBad}
use Rattle.instance_edits.specs.declared.edit.Edit.{Edit}
use Rattle.instance_edits.specs.declared.edit.EditFault.{EditFault}
use Rattle.instance_edits.specs.declared.edit.EditFault.TheVariants as faults
use Rattle.command_inputs.specs.Files.{IsBadCertificate, IsBadInstance, IsGoodText, IsInstance}
use Rattle.command_inputs.specs.Reads.{IsGoodCert, IsOfBytes, IsOfCertificate, IsOfInstance, IsParsed}
use Rattle.command_inputs.specs.declared.status.Status.{Status}
use Rattle.command_inputs.specs.declared.status.Status.TheVariants.{BadEdit}
use Rattle.command_inputs.specs.Edited.{AreBadTexts, AreGoodTexts, IsBadEdits, IsEditedBy, IsGoodEdits, IsOfEdits, IsOfTexts}
use Rattle.command_inputs.specs.Stages.{IsChangedBy, IsReadCert, IsReadInstance}
use Rattle.command_inputs.specs.declared.edited.Edited.{Edited}
use Rattle.command_inputs.specs.declared.texts.Changed.{Changed}
use Rattle.command_inputs.proofs.FirstFaults.{one_first}
use Rattle.command_inputs.proofs.Results.{again, failed, made}
use Rattle.command_inputs.proofs.Several.{moved, out}

-- by which answers texts are refused
of_edits : (p : Problem) (bytes : List ℕ) (status : Status) → IsBadEdits p bytes status → IsOfEdits status
of_edits p bytes status (inl line) = subst IsOfEdits (sym line.named) tt
of_edits p bytes status (inr refused) = subst IsOfEdits (sym refused.named) tt

of_certificate : (p : Problem) (bytes : List ℕ) (status : Status) → IsBadCertificate p bytes status → IsOfCertificate status
of_certificate p bytes status (inl bad) = subst IsOfCertificate (sym bad.named) tt
of_certificate p bytes status (inr rejected) = subst IsOfCertificate (sym rejected.named) tt

pub of_texts : (file cert edits : List ℕ) (status : Status) → AreBadTexts file cert edits status → IsOfTexts status
of_texts file cert edits status (inl first) = inl (subst IsOfInstance (sym first.named) tt)
of_texts file cert edits status (inr (inl second)) = inr (inl (of_certificate second.instance cert status second.bad))
of_texts file cert edits status (inr (inr third)) = inr (inr (of_edits third.instance edits status third.bad))

-- a valid instance has no first fault
no_first : (p : Problem) (edits : List Edit) (fault : InstanceFault) → ValidWhereNoFault → IsValid (edited p edits) → ¬ (IsFirstFault (edited p edits) fault)
no_first p edits fault valid_where is first = (valid_where _ _ _ _ _).0 is fault first.applies

-- refusals that are the same
same_refusal : {X : Type 0} {s t : Status} → failed X (Refused s) ≡ failed X (Refused t) → s ≡ t
same_refusal e = cc

same_fault : {s t : Status} → s ≡ t → failed Changed (Refused s) ≡ failed Changed (Refused t)
same_fault e = ap (λ s. Err (Refused s)) e

-- what a refusal names
same_error : {X E : Type 0} (e f : E) → ◌≡◌ {A = Result X E} (Err e) (Err f) → e ≡ f
same_error e f is = cc

pub named_line : (p : Problem) (bytes : List ℕ) (r : Result (Vec Edit Global) (Fail EditFault)) (fault : EditFault) → IfErr r (RefusesFirstBad p bytes) → r ≡ Err (Refused fault) → IsFirstBad p bytes fault
named_line p bytes (Ok x) fault is e = cc
named_line p bytes (Err f) fault is e = subst (RefusesFirstBad p bytes) (same_error f (Refused fault) e) is

pub named_fault : (p : Problem) (given edits : List Edit) → given ≡ edits → (r : Result Problem (Fail InstanceFault)) (fault : InstanceFault) → IfErr r (RefusesFirstFault (edited p given)) → r ≡ Err (Refused fault)
    → IsFirstFault (edited p edits) fault
named_fault p given edits same (Ok x) fault is e = cc
named_fault p given edits same (Err f) fault is e =
    subst (λ (xs : List Edit). IsFirstFault (edited p xs) fault) same (subst (RefusesFirstFault (edited p given)) (same_error f (Refused fault) e) is)

-- bytes that are no text of edits
pub unread : EditsHaveNoFault → BadLineIsUnique → (p : Problem) (bytes : List ℕ) (fault : EditFault) → IsFirstBad p bytes fault
    → IsParsed {X = Changed} bytes (IsChangedBy p) (IsBadEdits p) (IsGoodEdits p) (Err (Refused (BadEdit fault)))
unread apart unique p bytes fault first = record {
  made = tt;
  refusal = λ status e. subst IsOfBytes (same_refusal e) tt;
  refused = λ status e. inl (record { fault = fault; first = first; named = sym (same_refusal e) });
  bad = λ status bad. elim bad [
    | inl b ↦ inl (same_fault (ap BadEdit (unique p bytes fault b.fault first b.first) ∙ sym b.named))
    | inr r ↦ absurd (apart p bytes r.edits fault r.text first)
  ];
  good = λ good. absurd (apart p bytes good.edits fault good.text first);
}

-- edits that make no valid instance
pub refused : EditsAreUnique → EditsHaveNoFault → ValidWhereNoFault → (p : Problem) (bytes : List ℕ) (edits : List Edit) (fault : InstanceFault) → IsEditsText p bytes edits → IsFirstFault (edited p edits) fault
    → IsParsed {X = Changed} bytes (IsChangedBy p) (IsBadEdits p) (IsGoodEdits p) (Err (Refused (BadEdit (faults.Refused fault))))
refused one apart valid_where p bytes edits fault text first = record {
  made = tt;
  refusal = λ status e. subst IsOfBytes (same_refusal e) tt;
  refused = λ status e. inr (record { edits = edits; text = text; fault = fault; first = first; named = sym (same_refusal e) });
  bad = λ status bad. elim bad [
    | inl b ↦ absurd (apart p bytes edits b.fault text b.first)
    | inr r ↦
        let other : IsFirstFault (edited p edits) r.fault = subst (λ (xs : List Edit). IsFirstFault (edited p xs) r.fault) (one p bytes r.edits edits r.text text) r.first in
        inl (same_fault (ap (λ (f : InstanceFault). BadEdit (faults.Refused f)) (one_first (edited p edits) fault r.fault first other) ∙ sym r.named))
  ];
  good = λ good. absurd (no_first p edits fault valid_where (subst (λ (xs : List Edit). IsValid (edited p xs)) (one p bytes good.edits edits good.text text) good.valid) first);
}

-- edits that make a valid one
pub changed : EditsAreUnique → EditsHaveNoFault → ValidWhereNoFault → (p : Problem) (bytes : List ℕ) (x : Changed) → IsChangedBy p bytes x
    → IsParsed bytes (IsChangedBy p) (IsBadEdits p) (IsGoodEdits p) (made Changed x)
changed one apart valid_where p bytes x is = record {
  made = is;
  refusal = λ status e. cc;
  refused = λ status e. cc;
  bad = λ status bad. elim bad [
    | inl b ↦ absurd (apart p bytes x.edits.items b.fault is.text b.first)
    | inr r ↦ absurd (no_first p x.edits.items r.fault valid_where is.valid (subst (λ (xs : List Edit). IsFirstFault (edited p xs) r.fault) (one p bytes r.edits x.edits.items r.text is.text) r.first))
  ];
  good = λ good. inl refl;
}

-- what was made is not refused
not_refused : {X R : Type 0} {x : X} {status : Status} → (made X x ≡ failed X (Refused status)) ⊎ (made X x ≡ failed X NoMemory) → R
not_refused (inl e) = cc
not_refused (inr e) = cc

module _ (file cert edits : List ℕ) where
  -- what is refused as an instance is refused
  pub no_instance : (f : Fail Status) → IsParsed {X = Problem} file IsTextOf IsBadInstance IsInstance (failed Problem f)
      → IsParsed edits (IsEditedBy file cert) (AreBadTexts file cert) (AreGoodTexts file cert) (failed Edited f)
  no_instance f read = record {
    made = tt;
    refusal = λ status e. read.refusal status (again e);
    refused = λ status e. inl (read.refused status (again e));
    bad = λ status bad. elim bad [
      | inl b ↦ moved (read.bad status b)
      | inr (inl s) ↦ out (read.good (record { instance = s.instance; text = s.read }))
      | inr (inr t) ↦ out (read.good (record { instance = t.instance; text = t.read }))
    ];
    good = λ good. out (read.good (record { instance = good.instance; text = good.read }));
  }

  module _ (one : InstanceIsUnique) (p : Problem) (read : IsReadInstance file p) where
    -- or as a certificate
    pub no_certificate : (f : Fail Status) → IsParsed {X = Cert} cert (IsGoodCert p) (IsBadCertificate p) (IsGoodText p) (failed Cert f)
        → IsParsed edits (IsEditedBy file cert) (AreBadTexts file cert) (AreGoodTexts file cert) (failed Edited f)
    no_certificate f certified = record {
      made = tt;
      refusal = λ status e. certified.refusal status (again e);
      refused = λ status e. inr (inl (record { instance = p; read = read.made; bad = certified.refused status (again e) }));
      bad = λ status bad. elim bad [
        | inl b ↦ not_refused (read.bad status b)
        | inr (inl s) ↦ moved (certified.bad status (subst (λ (q : Problem). IsBadCertificate q cert status) (one file s.instance p s.read read.made) s.bad))
        | inr (inr t) ↦ out (certified.good (subst (λ (q : Problem). IsGoodText q cert) (one file t.instance p t.read read.made) t.good))
      ];
      good = λ good. out (certified.good (subst (λ (q : Problem). IsGoodText q cert) (one file good.instance p good.read read.made) good.good));
    }

    module _ (x : Cert) (certified : IsReadCert p cert x) where
      good_text : IsGoodText p cert
      good_text = record { certificate = _; text = certified.made.text; good = certified.made.good }

      second_is_good : {R : Type 0} (status : Status) (q : Problem) → IsTextOf file q → IsBadCertificate q cert status → R
      second_is_good status q text bad = not_refused (certified.bad status (subst (λ (q : Problem). IsBadCertificate q cert status) (one file q p text read.made) bad))

      -- or as edits
      pub no_edits : (f : Fail Status) → IsParsed {X = Changed} edits (IsChangedBy p) (IsBadEdits p) (IsGoodEdits p) (failed Changed f)
          → IsParsed edits (IsEditedBy file cert) (AreBadTexts file cert) (AreGoodTexts file cert) (failed Edited f)
      no_edits f parsed = record {
        made = tt;
        refusal = λ status e. parsed.refusal status (again e);
        refused = λ status e. inr (inr (record { instance = p; read = read.made; good = good_text; bad = parsed.refused status (again e) }));
        bad = λ status bad. elim bad [
          | inl b ↦ not_refused (read.bad status b)
          | inr (inl s) ↦ second_is_good status s.instance s.read s.bad
          | inr (inr t) ↦ moved (parsed.bad status (subst (λ (q : Problem). IsBadEdits q edits status) (one file t.instance p t.read read.made) t.bad))
        ];
        good = λ good. out (parsed.good (subst (λ (q : Problem). IsGoodEdits q edits) (one file good.instance p good.read read.made) good.edits_good));
      }

      -- all three texts are good
      pub all_good : (d : Changed) → IsParsed edits (IsChangedBy p) (IsBadEdits p) (IsGoodEdits p) (made Changed d)
          → IsParsed edits (IsEditedBy file cert) (AreBadTexts file cert) (AreGoodTexts file cert) (made Edited (record { before = p; cert = x; edits = d.edits; after = d.after }))
      all_good d parsed = record {
        made = record {
          read = read.made;
          certified = certified.made.text;
          edits_read = parsed.made.text;
          is = record { spellable = certified.made.spellable; good = certified.made.good; known = parsed.made.text.known; after = parsed.made.after };
          valid = subst (λ (q : Problem). IsValid q) (sym parsed.made.after) parsed.made.valid;
        };
        refusal = λ status e. cc;
        refused = λ status e. cc;
        bad = λ status bad. elim bad [
          | inl b ↦ not_refused (read.bad status b)
          | inr (inl s) ↦ second_is_good status s.instance s.read s.bad
          | inr (inr t) ↦ not_refused (parsed.bad status (subst (λ (q : Problem). IsBadEdits q edits status) (one file t.instance p t.read read.made) t.bad))
        ];
        good = λ good. inl refl;
      }
