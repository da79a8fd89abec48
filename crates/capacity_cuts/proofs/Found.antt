-- The side that a greatest flow leaves is violated most.
use Rattle.std.proofs.Common.{◌≡◌, ℕ, ◌*◌, ◌≤◌, Bool, List, sym, subst, arith}
use Rattle.carp_base.specs.Problem.{Problem, IsValid, total_demand}
use Rattle.flow_cut.specs.declared.network.Arc.{Arc}
use Rattle.flow_cut.specs.Flows.{IsFlow, IsSide, is_on, cut_room}
use Rattle.flow_cut.specs.Laws.{EqualIsBest}
use Rattle.edge_components.specs.Laws.{EqualSetsHaveOneBorder}
use Rattle.capacity_cuts.specs.Network.{network, source}
use Rattle.capacity_cuts.specs.Violation.{IsMostViolated, NoneIsViolated}
use Rattle.capacity_cuts.proofs.Cuts.{cut_law}
use Rattle.capacity_cuts.proofs.Least.{least_law}

module _ (one_border : EqualSetsHaveOneBorder) (best : EqualIsBest) (p : Problem) (unit : ℕ) (xs : List ℕ) (arcs : List Arc) (s t value : ℕ) (flows : List ℕ) (side : List Bool) (valid : IsValid p)
    (arcs_are : arcs ≡ network p unit xs) (s_is : s ≡ source p) (t_is : t ≡ p.depot) (flow : IsFlow arcs s t value flows) (is : IsSide side s t) (cut : cut_room arcs side ≡ value) where
  side_is : IsSide side (source p) p.depot
  side_is = subst (λ v. IsSide side (source p) v) t_is (subst (λ v. IsSide side v t) s_is is)

  pub most : IsMostViolated p unit xs (is_on side)
  most =
      least_law one_border p unit xs side valid side_is (λ other also.
      subst (λ list. cut_room list side ≤ cut_room list other) arcs_are
      ((best arcs s t value flows side flow is cut).least other
      (subst (λ v. IsSide other v t) (sym s_is) (subst (λ v. IsSide other (source p) v) (sym t_is) also))))

  pub none : 2 * (unit * total_demand p) ≤ value → NoneIsViolated p unit xs
  none enough = λ other out.
      let here : cut_room (network p unit xs) side ≡ value = subst (λ list. cut_room list side ≡ value) arcs_are cut in
      omega (arith, enough, here, cut_law p unit xs side valid side_is, most.most other out)
