use Rattle.std.proofs.Common.{◌≡◌, ◌≤◌, ℕ, List, Vec, Global, get_or, sym, subst, ◌∙◌}
use Rattle.std.proofs.lemmas.Result.{IfOk-weaker}
use Rattle.carp_base.specs.Problem.{IsVertex}
use Rattle.cut_pool.specs.Shores.{touched}
use Rattle.edge_components.specs.Labels.{has_label}
use Rattle.capacity_cuts.specs.Network.{demand_at}
use Rattle.capacity_cuts.proofs.OwnLabels.{met_is}
use Rattle.capacity_cuts.proofs.network.demand_met.Goals as goal

pub returns-clause-sums : goal.returns-clause-sums
returns-clause-sums c =
    let p = c.args.inst.now in
    let labels = c.deref.result.now in
    let own = subst (λ (l : List ℕ). (v : ℕ) → v ≤ p.vertices → get_or l v 0 ≡ v) (sym c.deref.ensures.value) c.in_ok-labels.ensures.own in
    IfOk-weaker c.demand_by_label.result
    (λ (sums : Vec ℕ Global). (r : ℕ) → get_or sums.items r 0 ≡ touched p (has_label labels r))
    (λ (sums : Vec ℕ Global). (v : ℕ) → IsVertex p v → get_or sums.items v 0 ≡ demand_at p v)
    (λ sums are v vertex. are v ∙ met_is p labels own v c.validity.ensures)
    c.demand_by_label.ensures.sums
