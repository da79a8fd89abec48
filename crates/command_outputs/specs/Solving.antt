-- What solving an instance makes: the headline, except for the file.
use Rattle.std.specs.Prelude.{◌≡◌, ◌⊎◌, ◌≢◌, ℕ, ◌+◌, ◌-◌, ◌*◌, ◌/◌, ◌^◌, ◌≤◌, List, [], ◌∷◌, length, All, Option}
use Rattle.carp_base.specs.Problem.{Problem}
use Rattle.cert_lines.specs.Certificates.{Certificate}
use Rattle.cert_lines.specs.Spelling.{text_of}
use Rattle.cert_lines.specs.Texts as certificates
use Rattle.plan_print.specs.Report.{report_text}
use Rattle.helper_rounds.specs.Helpers.{IsAtMost}
use Rattle.carp_engine.specs.Solutions.{IsSound}
use Rattle.command_outputs.specs.Outputs.{Output}
use Rattle.command_inputs.specs.declared.status.Status.{Status}
use Rattle.command_inputs.specs.declared.status.Status.TheVariants.{Proven, Gap}

-- `Proven` only if the bound is the cost, and `Gap` only if it is not and the turns of the tree are at least the turns that were asked for
pub record IsEnding (c : Certificate) (asked turns : ℕ) (status : Status) : Type 0 where
  pub proven : status ≡ Proven → c.bound ≡ c.cost
  pub gap : status ≡ Gap → (c.bound ≢ c.cost) × (asked ≤ turns)

-- A name is to hold the text of a certificate of the instance, and its report is to be written: the certificate's plan is lawful, costs
-- what is stated and no more than single tours or what helpers offered, and no lawful plan costs less than its bound. The turns are those
-- of its tree; the bound is below the cost only if they are at least the turns asked for, and not at all if so many were asked for that no
-- tree has them. The text has at most 64,000,000 bytes.
pub record IsSolvedBy (p : Problem) (cert : List ℕ) (asked : ℕ) (offered : List (Option ℕ)) (status : Status) (output : Output) : Type 0 where
  pub certificate : Certificate
  pub turns : ℕ
  pub sound : IsSound p certificate turns
  pub ending : IsEnding certificate asked turns status
  pub whole : 2 ^ (p.required * (p.required - 1) / 2 + 5) ≤ asked → status ≡ Proven
  pub helped : All (IsAtMost certificate.cost) offered
  pub kept_text : List ℕ
  pub kept_is : certificates.IsTextOf kept_text certificate
  pub small : length kept_text ≤ 64000000
  pub keeps : output.kept ≡ record { name = cert; bytes = kept_text } ∷ []
  pub writes : output.text ≡ report_text p certificate turns

-- A name is to hold the text of a certificate with so many turns, and its report is to be written: `Proven` exactly if the bound is the cost,
-- and else `Gap`. No public contract speaks of this.
pub record IsTold (p : Problem) (c : Certificate) (turns : ℕ) (name : List ℕ) (status : Status) (output : Output) : Type 0 where
  pub either : (status ≡ Proven) ⊎ (status ≡ Gap)
  pub proven : status ≡ Proven → c.bound ≡ c.cost
  pub gap : status ≡ Gap → c.bound ≢ c.cost
  pub closed : c.bound ≡ c.cost → status ≡ Proven
  pub kept_text : List ℕ
  pub kept_is : certificates.IsTextOf kept_text c
  pub spelled : kept_text ≡ text_of c
  pub keeps : output.kept ≡ record { name = name; bytes = kept_text } ∷ []
  pub writes : output.text ≡ report_text p c turns
