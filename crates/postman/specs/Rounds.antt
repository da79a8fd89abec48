-- Rounds: closed walks from the depot that serve each required edge, by one vehicle without a limit (the rural postman problem;
-- Eiselt, Gendreau and Laporte 1995, part II).
use Rattle.std.specs.Prelude.{◌≡◌, ℕ, ◌+◌, ◌*◌, ◌<◌, ◌≤◌, ◌==◌, ◌&&◌, Bool, List, [], IsTrue, count_by, length, not}
use Rattle.std.specs.List.{All, AllByRecursion}
use Rattle.carp_base.specs.declared.edge.Task.{Task}
use Rattle.carp_base.specs.Problem.{Problem, IsRequired, TasksLead, edge_at, required_cost}
use Rattle.plan_model.specs.declared.step.Step.{Step}
use Rattle.plan_model.specs.Plans.{IsWalk, serves, walk_cost}
use Rattle.cut_pool.specs.declared.shore.Weighted.{Weighted}
use Rattle.matching_duals.specs.Joins.{IsOddShore, Packs, all_halves}

-- a closed walk from the depot that serves required edges alone, and each of them exactly once; its load has no limit
pub record IsRound (p : Problem) (walk : List Step) : Type 0 where
  pub leads : IsWalk p walk
  pub serves_required : AllByRecursion (λ s. IsTrue s.served → IsRequired p s.edge) walk
  pub once : (e : ℕ) → IsRequired p e → count_by (serves e) walk ≡ 1

-- no round costs less
abbrev pub IsLeastRound : Problem → List Step → Type 0
IsLeastRound p walk = (other : List Step) → IsRound p other → walk_cost p walk ≤ walk_cost p other

-- how many steps of a walk do not serve
abbrev pub deadheads_in : List Step → ℕ
deadheads_in walk = count_by (λ s. not s.served) walk

-- a step that crosses the edge and does not serve
abbrev pub idles : ℕ → Step → Bool
idles e s = not s.served && (s.edge == e)

-- a path over required edges alone leads from the depot to the first end of the edge
pub record IsJoined (p : Problem) (e : ℕ) : Type 0 where
  pub path : List Task
  pub required : AllByRecursion (λ t. IsRequired p t.edge) path
  pub leads : TasksLead p p.depot path (edge_at p e).u

-- the required edges hang together with the depot
abbrev pub AreJoined : Problem → Type 0
AreJoined p = (e : ℕ) → IsRequired p e → IsJoined p e

-- the least required edge that does not
pub record IsFirstApart (p : Problem) (e : ℕ) : Type 0 where
  pub required : IsRequired p e
  pub apart : ¬ (IsJoined p e)
  pub before : (d : ℕ) → IsRequired p d → d < e → IsJoined p d

-- odd shores that pack show that no round costs less: their halves and twice what the services cost are twice the cost
pub record ShowLeast (p : Problem) (shores : List Weighted) (cost : ℕ) : Type 0 where
  pub odd : All (IsOddShore p) shores
  pub packs : Packs p shores
  pub twice : all_halves shores + 2 * required_cost p ≡ 2 * cost

-- a least round of few steps that crosses no edge twice without service and is empty if no edge is required, what it costs, and shores that show that no other costs less
pub record IsShownRound (p : Problem) (walk : List Step) (shores : List Weighted) (cost : ℕ) : Type 0 where
  pub is_round : IsRound p walk
  pub costs : walk_cost p walk ≡ cost
  pub least : IsLeastRound p walk
  pub shown : ShowLeast p shores cost
  pub few_steps : length walk ≤ p.required + length p.edges
  pub once_idle : (e : ℕ) → count_by (idles e) walk ≤ 1
  pub idle : p.required ≡ 0 → walk ≡ []
