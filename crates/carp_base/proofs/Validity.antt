-- Where no fault applies, a description is valid, and the other way round.
use Rattle.std.proofs.Common.{ℕ, ◌+◌, ◌-◌, ◌*◌, ◌<◌, ◌≤◌, false, List, length, get_or, inl, inr, refl, arith, sym, subst, ◌∙◌, ap}
use Rattle.std.proofs.lemmas.Bool.{cases_lt, false≢true}
use Rattle.carp_base.specs.declared.edge.RawEdge.{RawEdge}
use Rattle.carp_base.specs.declared.fault.InstanceFault.{InstanceFault}
use Rattle.carp_base.specs.declared.fault.InstanceFault.TheVariants.{TooManyVertices, TooManyEdges, TooManyRequired, EndOutOfRange, Loop, CostTooLarge, CapacityOutOfRange, ZeroDemand, Overweight, DepotOutOfRange, TooManyStates, Unreachable, ServiceTooLarge}
use Rattle.carp_base.specs.Problem.{Problem, described, edge_at, IsValid, IsVertex, IsEdgeNumber, IsRequired, IsFineEdge, IsFineTask, IsIdle}
use Rattle.carp_base.specs.Faults.{FaultApplies, fault_rank}
use Rattle.carp_base.specs.Checks.{IsClear}
use Rattle.carp_base.specs.Search.{AreReached}
use Rattle.carp_base.proofs.Bounds.{within, few_vertices, few_edges, few_required, capacity_in, depot_within}
use Rattle.carp_base.proofs.Ends.{long, at_others}
use Rattle.carp_base.proofs.Paths.{ends_within}
use Rattle.carp_base.proofs.Numbers.{edge_before}
use Rattle.carp_base.proofs.Ranks.{clear_below}
use Rattle.carp_base.proofs.Reachable.{marks_of, true_or_false}

-- what can't fail to be a vertex is one
vertex_from : (p : Problem) (v : ℕ) → (¬ (IsVertex p v) → ⊥) → IsVertex p v
vertex_from p v never = record {
  from_one = elim (cases_lt 0 v) [
    | inl positive ↦ positive
    | inr zero_is ↦ absurd (never (λ vertex. omega (arith, vertex.from_one, zero_is)))
  ];
  in_range = elim (cases_lt p.vertices v) [
    | inl above ↦ absurd (never (λ vertex. omega (arith, vertex.in_range, above)))
    | inr fits ↦ fits
  ];
}

module _ (p : Problem) (clear : IsClear p 13) where
  never : (f : InstanceFault) → fault_rank f ≤ 13 → FaultApplies p f → ⊥
  never f low applies = absurd (omega (arith, clear.above f applies, low))

  fine_edge : (e : ℕ) → IsEdgeNumber p e → IsFineEdge p (edge_at p e)
  fine_edge e number = record {
    u_in = vertex_from p (edge_at p e).u (λ astray. never (EndOutOfRange e) (omega arith) (number, inl astray));
    v_in = vertex_from p (edge_at p e).v (λ astray. never (EndOutOfRange e) (omega arith) (number, inr astray));
    no_loop = λ same. never (Loop e) (omega arith) (number, same);
    cost_in = within (edge_at p e).cost 1000000 13 p (CostTooLarge e) clear (omega arith) (λ above. (number, above));
  }

  fine_task : AreReached p → (e : ℕ) → IsRequired p e → IsFineTask p e
  fine_task reached e number = record {
    some_demand = elim (cases_lt 0 (edge_at p e).demand) [
      | inl positive ↦ positive
      | inr none ↦ absurd (never (ZeroDemand e) (omega arith) (number, omega (arith, none)))
    ];
    demand_fits = within (edge_at p e).demand p.capacity 13 p (Overweight e) clear (omega arith) (λ above. (number, above));
    reached = reached e number;
    service_in = within (edge_at p e).service 1000000 13 p (ServiceTooLarge e) clear (omega arith) (λ above. (number, above));
  }

  pub valid_from : AreReached p → p.required ≤ length p.edges → ((e : ℕ) → IsEdgeNumber p e → p.required < e → IsIdle (edge_at p e)) → IsValid p
  valid_from reached required_in idle = record {
    few_vertices = few_vertices p 13 clear (omega arith);
    few_edges = few_edges p 13 clear (omega arith);
    few_required = few_required p 13 clear (omega arith);
    required_in = required_in;
    depot_in = vertex_from p p.depot (λ astray. never (DepotOutOfRange p.depot) (omega arith) (refl, astray));
    some_capacity = elim (cases_lt 0 p.capacity) [
      | inl positive ↦ positive
      | inr none ↦ absurd (never (CapacityOutOfRange p.capacity) (omega arith) (refl, inl (omega (arith, none))))
    ];
    capacity_in = capacity_in p 13 clear (omega arith);
    few_states = within (2 * p.required * (p.capacity + 1)) 24000000 13 p (TooManyStates (2 * p.required * (p.capacity + 1))) clear (omega arith) (λ above. (refl, above));
    edges = fine_edge;
    tasks = fine_task reached;
    idle = idle;
  }

-- what is described has idle edges after the required ones
pub described_valid : (n d q : ℕ) (rs os : List RawEdge) → IsClear (described n d q rs os) 13 → AreReached (described n d q rs os) → IsValid (described n d q rs os)
described_valid n d q rs os clear reached =
    valid_from (described n d q rs os) clear reached (omega (arith, long n d q rs os)) (λ e number past.
    let is = edge_before (described n d q rs os) e number.from_one ∙ at_others n d q rs os (e - 1) (omega (arith, past)) (omega (arith, number.in_range, past)) in
    record { no_demand = ap (λ x. x.demand) is; no_service = ap (λ x. x.service) is })

-- no fault applies to what is valid
pub no_fault : (p : Problem) → IsValid p → (f : InstanceFault) → FaultApplies p f → ⊥
no_fault p valid (TooManyVertices n) applies = omega (arith, valid.few_vertices, applies.0, applies.1)
no_fault p valid (TooManyEdges n) applies = omega (arith, valid.few_edges, applies.0, applies.1)
no_fault p valid (TooManyRequired n) applies = omega (arith, valid.few_required, applies.0, applies.1)
no_fault p valid (EndOutOfRange e) applies =
    elim applies.1 [ inl no_u ↦ no_u (valid.edges e applies.0).u_in | inr no_v ↦ no_v (valid.edges e applies.0).v_in ]
no_fault p valid (Loop e) applies = (valid.edges e applies.0).no_loop applies.1
no_fault p valid (CostTooLarge e) applies = omega (arith, (valid.edges e applies.0).cost_in, applies.1)
no_fault p valid (CapacityOutOfRange n) applies =
    elim applies.1 [
      | inl none ↦ omega (arith, valid.some_capacity, applies.0, none)
      | inr above ↦ omega (arith, valid.capacity_in, applies.0, above)
    ]
no_fault p valid (ZeroDemand e) applies = omega (arith, (valid.tasks e applies.0).some_demand, applies.1)
no_fault p valid (Overweight e) applies = omega (arith, (valid.tasks e applies.0).demand_fits, applies.1)
no_fault p valid (DepotOutOfRange n) applies = let Vertex : ℕ → Type 0 = IsVertex p in applies.1 (subst Vertex (sym applies.0) valid.depot_in)
no_fault p valid (TooManyStates n) applies = omega (arith, valid.few_states, applies.0, applies.1)
no_fault p valid (Unreachable e) applies = applies.1 (valid.tasks e applies.0).reached
no_fault p valid (ServiceTooLarge e) applies = omega (arith, (valid.tasks e applies.0).service_in, applies.1)

-- where no fault applies, all ranks are clear and each required edge is reached
pub valid_where_no_fault : (n d q : ℕ) (rs os : List RawEdge) → ((f : InstanceFault) → FaultApplies (described n d q rs os) f → ⊥) → IsValid (described n d q rs os)
valid_where_no_fault n d q rs os none =
    let p = described n d q rs os in
    let clear : IsClear p 13 = record { above = λ f applies. absurd (none f applies) } in
    let marks = marks_of p (ends_within p (clear_below p 13 4 (omega arith) clear)) (depot_within p 13 clear (omega arith)) in
    described_valid n d q rs os clear (λ e required.
    elim (true_or_false (get_or marks.0 (edge_at p e).u false)) [
      | inl marked ↦ marks.1.reached (edge_at p e).u marked
      | inr unmarked ↦ absurd (none (Unreachable e) (required, λ path. false≢true (sym unmarked ∙ marks.1.all (edge_at p e).u path)))
    ])
