-- What is made of the bytes of an instance over which a round is laid.
use Rattle.std.proofs.Common.{◌≡◌, ℕ, List, refl, sym, ap, ◌∙◌, subst, inl, inr, arith}
use Rattle.std.proofs.lemmas.Bool.{cases_lt}
use Rattle.std.specs.Prelude.{Err}
use Rattle.carp_base.specs.Problem.{Problem}
use Rattle.carp_base.specs.declared.fail.Fail.{Fail}
use Rattle.carp_base.specs.declared.fail.Fail.TheVariants.{Refused}
use Rattle.dat_text.specs.Laws.{InstanceIsUnique, TextHasNoFault}
use Rattle.dat_text.specs.Text.{IsTextOf}
use Rattle.postman.specs.Refusals.{RefusesApart}
use Rattle.postman.specs.declared.fault.PostmanFault.{PostmanFault}
use Rattle.postman.specs.declared.fault.PostmanFault.TheVariants as faults
use Rattle.postman.specs.Rounds.{AreJoined, IsFirstApart, IsShownRound}
use Rattle.command_inputs.specs.Files.{IsBadInstance, IsBadRound, IsInstance, IsJoinedText}
use Rattle.command_inputs.specs.Reads.{IsNamed, IsOfBytes, IsOfRound, IsParsed, IsRoundOf}
use Rattle.command_inputs.specs.declared.rounds.Laid.{Laid}
use Rattle.command_inputs.specs.declared.status.Status.{Status}
use Rattle.command_inputs.specs.declared.status.Status.TheVariants.{NotJoined}
use Rattle.command_inputs.proofs.FileReads.{same_refusal}
use Rattle.command_inputs.proofs.Results.{again, failed, made}

-- the least edge apart is one
one_apart : (p : Problem) (d e : ℕ) → IsFirstApart p d → IsFirstApart p e → d ≡ e
one_apart p d e first other = elim (cases_lt d e) [
  | inl less ↦ absurd (first.apart (other.before d first.required less))
  | inr not_less ↦ elim (cases_lt e d) [
    | inl more ↦ absurd (other.apart (first.before e other.required more))
    | inr not_more ↦ omega (arith, not_less, not_more)
  ]
]

-- by which answers bytes are refused over which a round is laid
pub of_round : (bytes : List ℕ) (status : Status) → IsBadRound bytes status → IsOfRound status
of_round bytes status (inl bad) = subst IsOfRound (sym bad.named) tt
of_round bytes status (inr apart) = subst IsOfRound (sym apart.named) tt

module _ (one : InstanceIsUnique) (apart : TextHasNoFault) (bytes : List ℕ) where
  pub laid : (x : Laid) → IsTextOf bytes x.inst → AreJoined x.inst → IsShownRound x.inst x.round.walk x.round.shores.items x.round.cost
      → IsParsed bytes IsRoundOf IsBadRound IsJoinedText (made Laid x)
  laid x text joined round = record {
    made = record { text = text; round = round };
    refusal = λ status e. cc;
    refused = λ status e. cc;
    bad = λ status bad. elim bad [
      | inl b ↦ absurd (apart bytes x.inst b.fault text b.first)
      | inr a ↦ let same : a.instance ≡ x.inst = one bytes a.instance x.inst a.text text in
          absurd ((subst (λ (p : Problem). IsFirstApart p a.edge) same a.first).apart (joined a.edge (subst (λ (p : Problem). IsFirstApart p a.edge) same a.first).required))
    ];
    good = λ good. inl refl;
  }

  pub not_joined : (p : Problem) (e : ℕ) → IsTextOf bytes p → IsFirstApart p e → IsParsed {X = Laid} bytes IsRoundOf IsBadRound IsJoinedText (Err (Refused (NotJoined e)))
  not_joined p e text first = record {
    made = tt;
    refusal = λ status is. subst IsOfBytes (same_refusal is) tt;
    refused = λ status is. inr (record { instance = p; text = text; edge = e; first = first; named = sym (same_refusal is) });
    bad = λ status bad. elim bad [
      | inl b ↦ absurd (apart bytes p b.fault text b.first)
      | inr a ↦ let same : a.instance ≡ p = one bytes a.instance p a.text text in
          inl (ap (λ s. Err (Refused s)) (ap NotJoined (one_apart p e a.edge first (subst (λ (q : Problem). IsFirstApart q a.edge) same a.first)) ∙ sym a.named))
    ];
    good = λ good. let same : good.instance ≡ p = one bytes good.instance p good.text text in
        absurd (first.apart (subst AreJoined same good.joined e first.required));
  }

  -- what is refused as an instance is refused
  pub no_instance : (f : Fail Status) → IsParsed bytes IsTextOf IsBadInstance IsInstance (failed Problem f) → IsParsed bytes IsRoundOf IsBadRound IsJoinedText (failed Laid f)
  no_instance f parsed = record {
    made = tt;
    refusal = λ status e. parsed.refusal status (again e);
    refused = λ status e. inl (parsed.refused status (again e));
    bad = λ status bad. elim bad [
      | inl b ↦ elim (parsed.bad status b) [ inl e ↦ inl (again e) | inr e ↦ inr (again e) ]
      | inr a ↦ elim (parsed.good (record { instance = a.instance; text = a.text })) [ inl none ↦ cc | inr e ↦ inr (again e) ]
    ];
    good = λ good. elim (parsed.good (record { instance = good.instance; text = good.text })) [ inl none ↦ cc | inr e ↦ inr (again e) ];
  }

  pub refused_apart : (p : Problem) (fault : PostmanFault) (status : Status) → IsTextOf bytes p → RefusesApart p (Refused fault) → IsNamed fault status
      → IsParsed {X = Laid} bytes IsRoundOf IsBadRound IsJoinedText (Err (Refused status))
  refused_apart p (faults.NotJoined e) status text first is =
      subst (λ (s : Status). IsParsed {X = Laid} bytes IsRoundOf IsBadRound IsJoinedText (Err (Refused s))) (sym is) (not_joined p e text first)
