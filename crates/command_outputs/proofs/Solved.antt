-- What was solved, as it is delivered.
use Rattle.std.proofs.Common.{◌≡◌, ◌≢◌, ℕ, ◌+◌, ◌-◌, ◌*◌, ◌/◌, ◌^◌, ◌≤◌, List, [], ◌∷◌, length, sym, ap, ◌∙◌, subst, inl, inr, Option, All}
use Rattle.std.specs.Prelude.{◌⊎◌, IfOk, Result, Ok, Err}
use Rattle.carp_base.specs.Problem.{Problem}
use Rattle.cert_lines.specs.Certificates.{Certificate}
use Rattle.cert_lines.specs.Spelling.{text_of}
use Rattle.cert_lines.specs.Texts as certificates
use Rattle.helper_rounds.specs.Helpers.{IsAtMost}
use Rattle.carp_engine.specs.Solutions.{IsSound}
use Rattle.plan_print.specs.Report.{report_text}
use Rattle.command_inputs.specs.declared.status.Status.{Status}
use Rattle.command_inputs.specs.declared.status.Status.TheVariants.{Proven, Gap}
use Rattle.command_outputs.specs.Solving.{IsEnding, IsSolvedBy, IsTold}
use Rattle.command_outputs.specs.Outputs.{Output, output_in}
use Rattle.command_outputs.specs.declared.delivery.Delivery.{Delivery}

-- what follows of the value of a call that did not fail
pub of_ok : {X E : Type 0} {P Q : X → Type 0} (r : Result X E) → IfOk r P → ((x : X) → P x → Q x) → IfOk r Q
of_ok (Ok x) holds f = f x holds
of_ok (Err e) holds f = tt

-- a bound that is not the cost is so only where the turns were spent
pub spent : (bound cost asked turns : ℕ) → (bound ≡ cost) ⊎ (asked ≤ turns) → bound ≢ cost → asked ≤ turns
spent bound cost asked turns (inl same) other = absurd (other same)
spent bound cost asked turns (inr more) other = more

-- what the call that delivers gives, with the status of the delivery
pub told : {p : Problem} {name : List ℕ} (c : Certificate) (turns : ℕ) (kept_text text : List ℕ) (status : Status)
    → (status ≡ Proven) ⊎ (status ≡ Gap) → (status ≡ Proven → c.bound ≡ c.cost) → (status ≡ Gap → c.bound ≢ c.cost) → (c.bound ≡ c.cost → status ≡ Proven)
    → certificates.IsTextOf kept_text c → kept_text ≡ text_of c → text ≡ report_text p c turns
    → (d : Delivery) → (output_in d ≡ record { kept = record { name = name; bytes = kept_text } ∷ []; text = text }) × (d.status ≡ status)
    → IsTold p c turns name d.status (output_in d)
told c turns kept_text text status either proven gap closed kept_is spelled text_is d made = record {
  either = subst (λ s. (s ≡ Proven) ⊎ (s ≡ Gap)) (sym made.1) either;
  proven = λ is. proven (sym made.1 ∙ is);
  gap = λ is. gap (sym made.1 ∙ is);
  closed = λ same. made.1 ∙ closed same;
  kept_text = kept_text;
  kept_is = kept_is;
  spelled = spelled;
  keeps = ap (λ (w : Output). w.kept) made.0;
  writes = ap (λ (w : Output). w.text) made.0 ∙ text_is;
}

pub ending : {p : Problem} {name : List ℕ} (c : Certificate) (asked turns : ℕ) (status : Status) (output : Output) → (c.bound ≡ c.cost) ⊎ (asked ≤ turns) → IsTold p c turns name status output → IsEnding c asked turns status
ending c asked turns status output ended told = record { proven = told.proven; gap = λ is. (told.gap is, spent c.bound c.cost asked turns ended (told.gap is)) }

pub solved_by : {p : Problem} {cert : List ℕ} {offered : List (Option ℕ)} (c : Certificate) (asked turns : ℕ) (status : Status) (output : Output)
    → IsSound p c turns → (c.bound ≡ c.cost) ⊎ (asked ≤ turns) → (2 ^ (p.required * (p.required - 1) / 2 + 5) ≤ asked → c.bound ≡ c.cost) → All (IsAtMost c.cost) offered
    → IsTold p c turns cert status output → ((status ≡ Proven) ⊎ (status ≡ Gap)) × IsSolvedBy p cert asked offered status output
solved_by c asked turns status output sound ended whole helped told = (
  told.either,
  record {
    certificate = c;
    turns = turns;
    sound = sound;
    ending = ending c asked turns status output ended told;
    whole = λ enough. told.closed (whole enough);
    helped = helped;
    kept_text = told.kept_text;
    kept_is = told.kept_is;
    small = subst (λ (bytes : List ℕ). length bytes ≤ 64000000) (sym told.spelled) sound.small;
    keeps = told.keeps;
    writes = told.writes;
  },
)
