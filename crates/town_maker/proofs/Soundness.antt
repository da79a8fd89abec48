-- No fault applies to a town.
use Rattle.std.proofs.Common.{◌≡◌, inl, inr, ℕ, ◌+◌, ◌*◌, ◌<◌, ◌≤◌, List, [], ◌++◌, map, length, length-append, refl, sym, subst, ap, arith}
use Rattle.std.proofs.lemmas.List.{length-map}
use Rattle.carp_base.specs.declared.fault.InstanceFault.{InstanceFault}
use Rattle.carp_base.specs.declared.fault.InstanceFault.TheVariants.{TooManyVertices, TooManyEdges, TooManyRequired, EndOutOfRange, Loop, CostTooLarge, CapacityOutOfRange, ZeroDemand, Overweight, DepotOutOfRange, TooManyStates, Unreachable, ServiceTooLarge}
use Rattle.carp_base.specs.Problem.{Problem, described, required_edge, other_edge, IsEdgeNumber, IsRequired, IsVertex, IsValid, edge_at}
use Rattle.carp_base.specs.declared.edge.RawEdge.{RawEdge}
use Rattle.carp_base.specs.declared.fail.Fail.{Fail}
use Rattle.carp_base.specs.declared.fail.Fail.TheVariants.{Refused}
use Rattle.carp_base.specs.Faults.{FaultApplies}
use Rattle.carp_base.specs.Refusals.{RefusesFirstFault}
use Rattle.carp_base.specs.Laws.{ValidWhereNoFault}
use Rattle.rand_pcg.specs.Lcg.{Lcg}
use Rattle.town_maker.specs.declared.grid.Street.{Street}
use Rattle.town_maker.specs.Draws.{drawn_from, drawn_edges}
use Rattle.town_maker.specs.Streets.{town_streets}
use Rattle.town_maker.specs.Towns.{town_from, has_demand, has_none}
use Rattle.std.specs.Prelude.{filter}
use Rattle.town_maker.proofs.Facts.{IsTown, town_is}
use Rattle.town_maker.proofs.Ways.{reached}

module _ (p : Problem) (town : IsTown p) where
  vertex : (v : ℕ) → 1 ≤ v → v ≤ 100 → IsVertex p v
  vertex v from within = let all = town.vertices in record { from_one = from; in_range = omega (arith, within, all) }

  an_edge : (e : ℕ) → IsRequired p e → IsEdgeNumber p e
  an_edge e number = let few = town.required_in in let within = number.in_range in record { from_one = number.from_one; in_range = omega (arith, few, within) }

  no_fault : (fault : InstanceFault) → FaultApplies p fault → ⊥
  no_fault (TooManyVertices n) it = let all = town.vertices in let is = it.0 in let many = it.1 in omega (arith, all, is, many)
  no_fault (TooManyEdges n) it = let all = town.edges in let is = it.0 in let many = it.1 in omega (arith, all, is, many)
  no_fault (TooManyRequired n) it = let all = town.edges in let few = town.required_in in let is = it.0 in let many = it.1 in omega (arith, all, few, is, many)
  no_fault (EndOutOfRange e) it =
      let ends = (town.small e it.0).ends in
      elim it.1 [
        | inl at_u ↦ at_u (vertex (edge_at p e).u ends.u_from ends.u_in)
        | inr at_v ↦ at_v (vertex (edge_at p e).v ends.v_from ends.v_in)
      ]
  no_fault (Loop e) it = (town.small e it.0).ends.differ it.1
  no_fault (CostTooLarge e) it = let small = (town.small e it.0).cost_in in let large = it.1 in omega (arith, small, large)
  no_fault (CapacityOutOfRange n) it =
      let all = town.capacity in
      let is = it.0 in
      elim it.1 [
        | inl none ↦ omega (arith, all, is, none)
        | inr many ↦ omega (arith, all, is, many)
      ]
  no_fault (ZeroDemand e) it = let some = town.wanted e it.0 in let none = it.1 in omega (arith, some, none)
  no_fault (Overweight e) it =
      let small = (town.small e (an_edge e it.0)).demand_in in
      let all = town.capacity in
      let large = it.1 in
      omega (arith, small, all, large)
  no_fault (DepotOutOfRange n) it = it.1 (subst (λ v. IsVertex p v) (sym it.0) (vertex p.depot town.depot_from town.depot_in))
  no_fault (TooManyStates n) it = few_states p.required p.capacity n town.capacity (let all = town.edges in let few = town.required_in in omega (arith, all, few)) it.0 it.1
    where
      few_states : (required capacity n : ℕ) → capacity ≡ 60 → required ≤ 180 → n ≡ 2 * required * (capacity + 1) → 24000000 < n → ⊥
      few_states required capacity n is few states many = let e : n ≡ 2 * required * 61 = subst (λ c. n ≡ 2 * required * (c + 1)) is states in omega (arith, few, e, many)
  no_fault (Unreachable e) it = let ends = (town.small e (an_edge e it.0)).ends in it.1 (reached p town (edge_at p e).u ends.u_from ends.u_in)
  no_fault (ServiceTooLarge e) it = let small = (town.small e (an_edge e it.0)).service_in in let large = it.1 in omega (arith, small, large)

-- so each town is valid
pub town_valid : ValidWhereNoFault → (g : Lcg) → IsValid (town_from g)
unfolding town_from
town_valid law g =
    let t = drawn_edges town_streets g in
    (law 100 (drawn_from 1 100 t.1).0 60 (filter has_demand t.0) (filter has_none t.0)).1 (no_fault (town_from g) (town_is g))

-- what was drawn for the streets, onto lists that were empty, makes the town
pub drawn_town : (g words now after : Lcg) (streets : List Street) (first_required first_others required others : List RawEdge) (depot : ℕ) →
    streets ≡ town_streets → words ≡ g → first_required ≡ [] → first_others ≡ [] → required ≡ first_required ++ filter has_demand (drawn_edges streets words).0 →
    others ≡ first_others ++ filter has_none (drawn_edges streets words).0 → now ≡ (drawn_edges streets words).1 → (depot, after) ≡ drawn_from 1 100 now →
    described 100 depot 60 required others ≡ town_from g
unfolding town_from
drawn_town g words now after streets first_required first_others required others depot at_streets at_words no_required no_others is_required is_others moved drew =
    let e : depot ≡ (drawn_from 1 100 (drawn_edges streets words).1).0 = rw (sym moved) (ap (λ t. t.0) drew) in
    rw (is_required, is_others, e, no_required, no_others, at_streets, at_words) refl

-- a valid description has few edges
pub few_edges : (depot : ℕ) (required others : List RawEdge) → IsValid (described 100 depot 60 required others) → length required + length others ≤ 4000
few_edges depot required others valid =
    let all = length-append (map required_edge required) (map other_edge others) in
    let first : length (map required_edge required) ≡ length required = simp length-map refl in
    let second : length (map other_edge others) ≡ length others = simp length-map refl in
    let few = valid.few_edges in
    omega (arith, all, first, second, few)

pub never_refused : ValidWhereNoFault → (depot : ℕ) (required others : List RawEdge) (answer : Fail InstanceFault) (fault : InstanceFault) →
    IsValid (described 100 depot 60 required others) → answer ≡ Refused fault → RefusesFirstFault (described 100 depot 60 required others) answer → ⊥
never_refused law depot required others answer fault valid refused says =
    let first = subst (RefusesFirstFault (described 100 depot 60 required others)) refused says in
    (law 100 depot 60 required others).0 valid fault first.applies
