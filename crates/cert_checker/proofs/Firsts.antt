-- The first item that lacks something, and what all have.
use Rattle.std.proofs.Common.{◌≡◌, ℕ, suc, zero, ◌+◌, ◌≤◌, ◌<◌, List, length, get_or, subst, arith}
use Rattle.std.specs.List.{All}
use Rattle.std.proofs.lemmas.List.Elements.{All-from_get_or}
use Rattle.plan_model.specs.declared.verdict.Verdict.{Verdict}
use Rattle.plan_model.specs.declared.verdict.Verdict.TheVariants.{Lawful, Broken, NotAtDepot, ServesOther, ServedTwice, NotServed, Overload}
use Rattle.plan_model.specs.Verdicts.{IsFailing}
use Rattle.cut_pool.specs.Pools.{shore_at}
use Rattle.branch_rules.specs.Prices.{Prices}
use Rattle.branch_rules.specs.Refusals.{IsTooHeavy, NoneTooHeavy}
use Rattle.branch_rules.specs.Trees.{Support, set_at, no_prices}
use Rattle.branch_rules.specs.declared.price_set.TooHeavy.{TooHeavy}
use Rattle.carp_base.specs.Problem.{Problem}
use Rattle.cert_lines.specs.Certificates.{Certificate}
use Rattle.cert_format.specs.Good.{support_of}
use Rattle.cert_checker.specs.Reasons.{IsFirstWithout, IsFirstHeavy}

pub first_without : {X : Type 0} (P : X → Type 0) (at : ℕ → X) (count number n : ℕ) → n ≡ number → 1 ≤ number → number ≤ count → (P (at number) → ⊥) → ((k : ℕ) → 1 ≤ k → k < number → P (at k)) → IsFirstWithout P at count n
first_without P at count number n is from_one in_range lacks before = record {
  from_one = omega (arith, is, from_one);
  in_range = omega (arith, is, in_range);
  lacks = λ has. lacks (subst (λ k. P (at k)) is has);
  before = λ k some less. before k some (omega (arith, is, less));
}

-- each shore by its number
pub all_shores : (P : List ℕ → Type 0) (pool : List (List ℕ)) (number : ℕ) → ((k : ℕ) → 1 ≤ k → k < number → P (shore_at pool k)) → length pool < number → All P pool
all_shores P pool number each done = All-from_get_or P pool _ (λ i less. each (suc i) (omega arith) (omega (arith, less, done)))

-- the sets before a place, by their numbers
pub sets_before : (P : Prices → Type 0) (s : Support) (place : ℕ) → ((k : ℕ) → k < place → P (get_or s.sets k no_prices)) → (k : ℕ) → 1 ≤ k → k < place + 1 → P (set_at s k)
sets_before P s place each zero some less = absurd (omega (arith, some))
sets_before P s place each (suc k) some less = each k (omega (arith, less))

pub first_set : (P : Prices → Type 0) (s : Support) (place : ℕ) → place < length s.sets → (P (get_or s.sets place no_prices) → ⊥) → ((k : ℕ) → k < place → P (get_or s.sets k no_prices)) → IsFirstWithout P (set_at s) (length s.sets) (place + 1)
first_set P s place less lacks each =
    first_without P (set_at s) (length s.sets) (suc place) (place + 1) (omega arith) (omega arith) (omega (arith, less)) lacks
    (λ k some before. sets_before P s place each k some (omega (arith, before)))

pub first_heavy : (p : Problem) (c : Certificate) (place : ℕ) (named : TooHeavy) → place < length c.sets → IsTooHeavy p c.shores (get_or c.sets place no_prices) named →
    ((k : ℕ) → k < place → NoneTooHeavy p c.shores (get_or c.sets k no_prices)) → IsFirstHeavy p c (place + 1) named
first_heavy p c place named less heavy each =
    let same : suc place ≡ place + 1 = omega arith in
    record {
      from_one = omega arith;
      in_range = omega (arith, less);
      heavy = subst (λ n. IsTooHeavy p c.shores (set_at (support_of p c) n) named) same heavy;
      before = λ k some before. sets_before (NoneTooHeavy p c.shores) (support_of p c) place each k some before;
    }

-- a verdict that is not that of a lawful plan says that something is wrong
pub failing : (v : Verdict) → ((cost : ℕ) → v ≡ Lawful cost → ⊥) → IsFailing v
failing (Lawful cost) other = absurd (other cost (λ i. Lawful cost))
failing (Broken tour step) other = omega arith
failing (NotAtDepot tour) other = omega arith
failing (ServesOther e) other = omega arith
failing (ServedTwice e) other = omega arith
failing (NotServed e) other = omega arith
failing (Overload tour load) other = omega arith
