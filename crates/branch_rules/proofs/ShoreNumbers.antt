-- The numbers of a shore, decision by decision.
use Rattle.std.proofs.Common.{◌≡◌, ℕ, ◌+◌, ◌<◌, ◌==◌, Bool, true, false, List, [], ◌∷◌, ◌++◌, length, take, get_or, refl, sym, ap, ◌∙◌, arith, Option, Some, None, max}
use Rattle.std.specs.Prelude.{if◌then◌else◌}
use Rattle.std.proofs.lemmas.List.{take_more}
use Rattle.plan_model.specs.Offers.{smaller}
use Rattle.branch_rules.specs.Decisions.{highest, lowest}
use Rattle.decision_chains.specs.declared.decision.Decision.{Decision}
use Rattle.decision_chains.specs.declared.decision.Decision.TheVariants.{Yes, No, Low, High}

if_max : (b : Bool) (k h one : ℕ) → (if b then max k (max h one) else max h one) ≡ max (if b then max k h else h) one
if_max true k h one = omega arith
if_max false k h one = refl

highest_push : (shore : ℕ) (ds : List Decision) (d : Decision) → highest shore (ds ++ d ∷ []) ≡ max (highest shore ds) (highest shore (d ∷ []))
highest_push shore [] d = omega arith
highest_push shore (Yes a b ∷ ds) d = highest_push shore ds d
highest_push shore (No a b ∷ ds) d = highest_push shore ds d
highest_push shore (Low s k ∷ ds) d = highest_push shore ds d
highest_push shore (High s k ∷ ds) d =
    ap (λ n. if s == shore then max (k + 1) n else n) (highest_push shore ds d) ∙ if_max (s == shore) (k + 1) (highest shore ds) (highest shore (d ∷ []))

-- the smaller of three numbers
smaller_three : (k : ℕ) (o one : Option ℕ) → smaller (Some k) (smaller o one) ≡ smaller (smaller (Some k) o) one
smaller_three k None one = refl
smaller_three k (Some n) None = refl
smaller_three k (Some n) (Some m) = ap Some (omega arith)

if_smaller : (b : Bool) (k : ℕ) (o one : Option ℕ) → (if b then smaller (Some k) (smaller o one) else smaller o one) ≡ smaller (if b then smaller (Some k) o else o) one
if_smaller true k o one = smaller_three k o one
if_smaller false k o one = refl

lowest_push : (shore : ℕ) (ds : List Decision) (d : Decision) → lowest shore (ds ++ d ∷ []) ≡ smaller (lowest shore ds) (lowest shore (d ∷ []))
lowest_push shore [] d = refl
lowest_push shore (Yes a b ∷ ds) d = lowest_push shore ds d
lowest_push shore (No a b ∷ ds) d = lowest_push shore ds d
lowest_push shore (Low s k ∷ ds) d =
    ap (λ o. if s == shore then smaller (Some k) o else o) (lowest_push shore ds d) ∙ if_smaller (s == shore) k (lowest shore ds) (lowest shore (d ∷ []))
lowest_push shore (High s k ∷ ds) d = lowest_push shore ds d

-- one decision more, as at a step of a loop
pub highest_step : (shore : ℕ) (ds : List Decision) (i : ℕ) (d : Decision) (most high new : ℕ) → i < length ds → most ≡ highest shore (take i ds) →
    high ≡ highest shore (get_or ds i d ∷ []) → new ≡ max most high → new ≡ highest shore (take (i + 1) ds)
highest_step shore ds i d most high new short most_is high_is new_is =
    let whole = ap (highest shore) (take_more ds i d short) ∙ highest_push shore (take i ds) (get_or ds i d) in
    new_is ∙ ap (λ n. max n high) most_is ∙ ap (max (highest shore (take i ds))) high_is ∙ sym whole

pub lowest_step : (shore : ℕ) (ds : List Decision) (i : ℕ) (d : Decision) (least low new : Option ℕ) → i < length ds → least ≡ lowest shore (take i ds) →
    low ≡ lowest shore (get_or ds i d ∷ []) → new ≡ smaller least low → new ≡ lowest shore (take (i + 1) ds)
lowest_step shore ds i d least low new short least_is low_is new_is =
    let whole = ap (lowest shore) (take_more ds i d short) ∙ lowest_push shore (take i ds) (get_or ds i d) in
    new_is ∙ ap (λ o. smaller o low) least_is ∙ ap (smaller (lowest shore (take i ds))) low_is ∙ sym whole
