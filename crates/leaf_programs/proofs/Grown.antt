-- A branch whose shores are in a pool, when the pool has grown.
use Rattle.std.proofs.Common.{◌≡◌, ℕ, zero, suc, List, [], ◌++◌, length-append, subst, sym, arith}
use Rattle.std.proofs.lemmas.List.{get_or_append_left}
use Rattle.std.proofs.lemmas.List.Elements.{All-weaker}
use Rattle.carp_base.specs.Problem.{Problem}
use Rattle.cut_pool.specs.Pools.{IsGrown, IsShoreNumber, shore_at}
use Rattle.cut_pool.specs.Shores.{Belongs}
use Rattle.decision_chains.specs.declared.decision.Decision.{Decision}
use Rattle.decision_chains.specs.declared.decision.Decision.TheVariants.{Yes, No, Low, High}
use Rattle.branch_rules.specs.Limits.{AreShoresIn, HasShoreOf, IsShoreOf}

grown_at : (pool more : List (List ℕ)) (i : ℕ) → IsShoreNumber pool i → shore_at (pool ++ more) i ≡ shore_at pool i
grown_at pool more zero is = absurd (omega (arith, is.from_one))
grown_at pool more (suc k) is = get_or_append_left pool more [] k (omega (arith, is.in_range))

shore_of_grown : (p : Problem) (pool more : List (List ℕ)) (i : ℕ) → IsShoreOf p pool i → IsShoreOf p (pool ++ more) i
shore_of_grown p pool more i is = record {
  number = record { from_one = is.number.from_one; in_range = omega (arith, is.number.in_range, length-append pool more) };
  belongs = subst (Belongs p) (sym (grown_at pool more i is.number)) is.belongs;
}

decision_of_grown : (p : Problem) (pool more : List (List ℕ)) (d : Decision) → HasShoreOf p pool d → HasShoreOf p (pool ++ more) d
decision_of_grown p pool more (Yes a b) is = is
decision_of_grown p pool more (No a b) is = is
decision_of_grown p pool more (Low shore k) is = shore_of_grown p pool more shore is
decision_of_grown p pool more (High shore k) is = shore_of_grown p pool more shore is

pub still_in : (p : Problem) (pool after : List (List ℕ)) (branch : List Decision) → IsGrown pool after → AreShoresIn p pool branch → AreShoresIn p after branch
still_in p pool after branch grown shores =
    subst (λ (now : List (List ℕ)). AreShoresIn p now branch) (sym grown.added)
    (All-weaker (HasShoreOf p pool) (HasShoreOf p (pool ++ grown.more)) (decision_of_grown p pool grown.more) branch shores)
