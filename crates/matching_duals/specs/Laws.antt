-- What odd shores say of all deadheads that make every junction even, and what lawful plans say of these.
use Rattle.std.specs.Prelude.{◌≡◌, ℕ, zero, suc, ◌+◌, ◌*◌, ◌%◌, ◌≤◌, List, [], ◌∷◌, ◌++◌, length}
use Rattle.std.specs.List.{All}
use Rattle.carp_base.specs.Problem.{Problem, IsValid, required_cost}
use Rattle.plan_model.specs.declared.step.Step.{Step}
use Rattle.plan_model.specs.Plans.{IsLawful, deadheads_on}
use Rattle.plan_model.specs.Laws.{IsLowerBound}
use Rattle.cut_pool.specs.declared.shore.Weighted.{Weighted}
use Rattle.cut_pool.specs.Shores.{is_in, required_crossings}
use Rattle.matching_duals.specs.Joins.{MakesEven, IsLeastJoin, join_cost, all_halves, Packs}

-- where each of some shores has an odd number of required edges over it, and they pack, no deadheads that make every vertex even
-- cost less than half of what the shores weigh
abbrev pub ShoresBoundJoins : Type 0
ShoresBoundJoins =
    (p : Problem) (shores : List Weighted) (counts : List ℕ) → IsValid p → All (λ s. required_crossings p (is_in s.shore) % 2 ≡ 1) shores → Packs p shores →
    MakesEven p counts → all_halves shores ≤ 2 * join_cost p counts

-- how many deadheads a plan has on each of the first n edges
abbrev pub deadhead_counts : List (List Step) → ℕ → List ℕ
deadhead_counts plan zero = []
deadhead_counts plan (suc n) = deadhead_counts plan n ++ (deadheads_on (suc n) plan ∷ [])

-- the deadheads of a lawful plan make every vertex even
abbrev pub PlansMakeEven : Type 0
PlansMakeEven = (p : Problem) (plan : List (List Step)) → IsValid p → IsLawful p plan → MakesEven p (deadhead_counts plan (length p.edges))

-- so no lawful plan costs less than its services and the least join
abbrev pub JoinIsLowerBound : Type 0
JoinIsLowerBound = (p : Problem) (value : ℕ) → IsValid p → IsLeastJoin p value → IsLowerBound p (required_cost p + value)
