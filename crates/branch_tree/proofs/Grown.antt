-- A branch whose shores are in a pool, when the pool has grown.
use Rattle.std.proofs.Common.{ap, ◌∙◌, append_assoc, ℕ, List, ◌++◌, subst, sym}
use Rattle.std.proofs.lemmas.List.Elements.{All-weaker}
use Rattle.carp_base.specs.Problem.{Problem}
use Rattle.cut_pool.specs.Pools.{IsGrown}
use Rattle.decision_chains.specs.declared.decision.Decision.{Decision}
use Rattle.decision_chains.specs.declared.decision.Decision.TheVariants.{Yes, No, Low, High}
use Rattle.branch_rules.specs.Limits.{AreShoresIn, HasShoreOf}
use Rattle.branch_tree.proofs.Pools.{shore_of_grown}

decision_of_grown : (p : Problem) (pool more : List (List ℕ)) (d : Decision) → HasShoreOf p pool d → HasShoreOf p (pool ++ more) d
decision_of_grown p pool more (Yes a b) is = is
decision_of_grown p pool more (No a b) is = is
decision_of_grown p pool more (Low shore k) is = shore_of_grown p pool more shore is
decision_of_grown p pool more (High shore k) is = shore_of_grown p pool more shore is

pub still_in : (p : Problem) (pool after : List (List ℕ)) (branch : List Decision) → IsGrown pool after → AreShoresIn p pool branch → AreShoresIn p after branch
still_in p pool after branch grown shores =
    subst (λ (now : List (List ℕ)). AreShoresIn p now branch) (sym grown.added)
    (All-weaker (HasShoreOf p pool) (HasShoreOf p (pool ++ grown.more)) (decision_of_grown p pool grown.more) branch shores)

pub grows_more : (pool middle after : List (List ℕ)) → IsGrown pool middle → IsGrown middle after → IsGrown pool after
grows_more pool middle after one other =
    record { more = one.more ++ other.more; added = other.added ∙ ap (λ (xs : List (List ℕ)). xs ++ other.more) one.added ∙ append_assoc pool one.more other.more }
