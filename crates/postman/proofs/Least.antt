-- A round of least deadheads is least.
use Rattle.std.proofs.Common.{◌≡◌, ℕ, zero, suc, ◌+◌, ◌*◌, ◌≤◌, List, length, arith}
use Rattle.carp_base.specs.Problem.{Problem, IsValid, edge_at, required_cost}
use Rattle.plan_model.specs.declared.step.Step.{Step}
use Rattle.cut_pool.specs.declared.shore.Weighted.{Weighted}
use Rattle.edge_components.specs.Parts.{parts_of}
use Rattle.matching_duals.specs.Joins.{IsJoinBound, join_cost}
use Rattle.postman.specs.Laws.{RoundsPayJoins}
use Rattle.postman.specs.Rounds.{IsShownRound}
use Rattle.postman.specs.Trails.{IsCheapRound}
use Rattle.postman.proofs.Sums.{sum_to-edge_at, sum_to-most}

pub small_services : (p : Problem) → IsValid p → required_cost p ≤ 600000000
small_services p valid =
    omega (
      arith,
      sum_to-edge_at p (λ x. x.service) p.required valid.required_in,
      sum_to-most p.required 1000000 (λ e. (edge_at p e).service) (λ e one below. (valid.tasks e (record { from_one = one; in_range = below })).service_in),
      valid.few_required,
    )

one_cost : (d cost : ℕ) → d ≤ 1 → cost ≤ 1000000 → d * cost ≤ 1000000
one_cost zero cost one small = omega arith
one_cost (suc zero) cost one small = omega (arith, small)
one_cost (suc (suc d)) cost one small = absurd (omega (arith, one))

pub small_join : (p : Problem) (counts : List ℕ) → IsValid p → ((e : ℕ) → parts_of counts e ≤ 1) → join_cost p counts ≤ 4000000000
small_join p counts valid once =
    omega (
      arith,
      sum_to-most (length p.edges) 1000000 (λ e. parts_of counts e * (edge_at p e).cost)
          (λ e one below. one_cost (parts_of counts e) (edge_at p e).cost (once e) (valid.edges e (record { from_one = one; in_range = below })).cost_in),
      valid.few_edges,
    )

pub shown_round : RoundsPayJoins → (p : Problem) (counts : List ℕ) (shores : List Weighted) (value : ℕ) (walk : List Step) (cost : ℕ) → IsValid p →
    IsJoinBound p counts shores value → IsCheapRound p counts walk → cost ≡ required_cost p + value → IsShownRound p walk shores cost
shown_round pays p counts shores value walk cost valid bound cheap cost_is = record {
  is_round = cheap.is_round;
  costs = omega (arith, pays p value walk valid bound.least cheap.is_round, cheap.cheap, bound.costs, cost_is);
  least = λ other is. omega (arith, pays p value other valid bound.least is, cheap.cheap, bound.costs);
  shown = record { odd = bound.odd; packs = bound.packs; twice = omega (arith, bound.twice, cost_is) };
  few_steps = cheap.few;
  once_idle = cheap.once_idle;
  idle = cheap.idle;
}
