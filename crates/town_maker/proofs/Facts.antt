-- What is true of a town: its numbers, each of its edges, and that each street is one of them.
use Rattle.std.proofs.Common.{◌≡◌, length-append, inl, inr, ℕ, zero, suc, ◌<◌, ◌≤◌, ◌==◌, if◌then◌else◌, Bool, true, false, not, List, [], ◌∷◌, map, length, filter, nat_lt, refl, sym, ap, subst, ◌∙◌, arith}
use Rattle.std.proofs.Math.Nat.{mod-lt}
use Rattle.std.proofs.lemmas.Bool.{cases_Bool}
use Rattle.std.proofs.lemmas.List.{get_or_append_left, length-map}
use Rattle.std.proofs.lemmas.List.Filters.{length-filter_both}
use Rattle.std.specs.List.{AllByRecursion}
use Rattle.carp_base.specs.declared.edge.Edge.{Edge}
use Rattle.carp_base.specs.declared.edge.RawEdge.{RawEdge}
use Rattle.carp_base.specs.Problem.{Problem, required_edge, other_edge, no_edge, edge_at, IsEdgeNumber, IsRequired}
use Rattle.rand_pcg.specs.Lcg.{Lcg}
use Rattle.rand_pcg.specs.Pcg.{pcg32}
use Rattle.town_maker.specs.declared.grid.Street.{Street}
use Rattle.town_maker.specs.Draws.{drawn, drawn_from, drawn_demand, drawn_edge, drawn_edges}
use Rattle.town_maker.specs.Streets.{town_streets}
use Rattle.town_maker.specs.Towns.{has_demand, has_none, town_on, town_from}
use Rattle.town_maker.proofs.Members.{Among, among_left, among_right, among_map, among_filter, place_of, all_append, all_map, all_filter, all_at}
use Rattle.town_maker.proofs.Corners.{AreCorners, streets_count, streets_corners}

-- the ends are two corners, and the numbers are small
pub record IsSmall (u v cost demand service : ℕ) : Type 0 where
  pub ends : AreCorners u v
  pub cost_in : cost ≤ 99
  pub demand_in : demand ≤ 9
  pub service_in : service ≤ 99

-- an edge of the instance has these ends
pub record Joined (p : Problem) (u v : ℕ) : Type 0 where
  pub e : ℕ
  pub number : IsEdgeNumber p e
  pub at_u : (edge_at p e).u ≡ u
  pub at_v : (edge_at p e).v ≡ v

pub record IsTown (p : Problem) : Type 0 where
  pub vertices : p.vertices ≡ 100
  pub capacity : p.capacity ≡ 60
  pub depot_from : 1 ≤ p.depot
  pub depot_in : p.depot ≤ 100
  pub edges : length p.edges ≡ 180
  pub required_in : p.required ≤ length p.edges
  pub small : (e : ℕ) → IsEdgeNumber p e → IsSmall (edge_at p e).u (edge_at p e).v (edge_at p e).cost (edge_at p e).demand (edge_at p e).service
  pub wanted : (e : ℕ) → IsRequired p e → 1 ≤ (edge_at p e).demand
  pub joined : (s : Street) → Among s town_streets → Joined p s.u s.v

drawn_below : (k : ℕ) (g : Lcg) → 0 < k → (drawn k g).0 < k
unfolding drawn
drawn_below k g some = mod-lt (pcg32 g).0 some

demand_if : (b : Bool) (x y : ℕ × Lcg) → x.0 ≤ 9 → y.0 ≤ 9 → (if b then x else y).0 ≤ 9
demand_if true x y first second = first
demand_if false x y first second = second

demand_small : (g : Lcg) → (drawn_demand g).0 ≤ 9
unfolding drawn_demand
demand_small g =
    demand_if ((drawn 2 g).0 == 0) (drawn_from 1 9 (drawn 2 g).1) (0, (drawn 2 g).1) (let below = drawn_below 9 (drawn 2 g).1 (omega arith) in omega (arith, below)) (omega arith)

abbrev IsSmallEdge : RawEdge → Type 0
IsSmallEdge x = IsSmall x.u x.v x.cost x.demand x.service

abbrev IsSmallIn : Edge → Type 0
IsSmallIn x = IsSmall x.u x.v x.cost x.demand x.service

edge_small : (s : Street) (g : Lcg) → AreCorners s.u s.v → IsSmallEdge (drawn_edge s g).0
unfolding drawn_edge
edge_small s g corners = let below = drawn_below 90 g (omega arith) in record {
  ends = corners;
  cost_in = omega (arith, below);
  demand_in = demand_small (drawn 90 g).1;
  service_in = omega (arith, below);
}

edges_small : (ss : List Street) (g : Lcg) → AllByRecursion (λ s. AreCorners s.u s.v) ss → AllByRecursion IsSmallEdge (drawn_edges ss g).0
edges_small [] g all = tt
edges_small (s ∷ ss) g all = (edge_small s g all.0, edges_small ss (drawn_edge s g).1 all.1)

edges_count : (ss : List Street) (g : Lcg) → length (drawn_edges ss g).0 ≡ length ss
edges_count [] g = refl
edges_count (s ∷ ss) g = ap suc (edges_count ss (drawn_edge s g).1)

same_u : (s : Street) (g : Lcg) → (drawn_edge s g).0.u ≡ s.u
unfolding drawn_edge
same_u s g = refl

same_v : (s : Street) (g : Lcg) → (drawn_edge s g).0.v ≡ s.v
unfolding drawn_edge
same_v s g = refl

-- each street is among those with their draws
edge_of : (s : Street) (ss : List Street) (g : Lcg) → Among s ss → (x : RawEdge) × Among x (drawn_edges ss g).0 × (x.u ≡ s.u) × (x.v ≡ s.v)
edge_of s [] g at = absurd at
edge_of s (z ∷ zs) g (inl e) = ((drawn_edge z g).0, inl refl, same_u z g ∙ ap (λ t. t.u) (sym e), same_v z g ∙ ap (λ t. t.v) (sym e))
edge_of s (z ∷ zs) g (inr at) = let t = edge_of s zs (drawn_edge z g).1 at in (t.0, inr t.1, t.2, t.3)

module _ (depot : ℕ) (xs : List RawEdge) where
  abbrev p : Problem
  p = town_on depot xs

  abbrev required : List Edge
  required = map required_edge (filter has_demand xs)

  abbrev others : List Edge
  others = map other_edge (filter has_none xs)

  in_town : (x : RawEdge) → Among x xs → (y : Edge) × Among y p.edges × (y.u ≡ x.u) × (y.v ≡ x.v)
  in_town x at = elim (cases_Bool (has_demand x)) [
    | inl yes_it_has ↦ (required_edge x, among_left (required_edge x) required others (among_map required_edge x (filter has_demand xs) (among_filter has_demand x xs at yes_it_has)), refl, refl)
    | inr it_has_none ↦ (other_edge x, among_right (other_edge x) required others (among_map other_edge x (filter has_none xs) (among_filter has_none x xs at (ap not it_has_none))), refl, refl)
  ]

  joined_at : (s : Street) (x : RawEdge) → Among x xs → x.u ≡ s.u → x.v ≡ s.v → Joined p s.u s.v
  joined_at s x at at_u at_v =
      let y = in_town x at in
      let k = place_of y.0 p.edges y.1 in
      record {
        e = suc k.0;
        number = record { from_one = omega arith; in_range = omega (arith, k.1) };
        at_u = ap (λ t. t.u) (k.2 no_edge) ∙ (y.2 ∙ at_u);
        at_v = ap (λ t. t.v) (k.2 no_edge) ∙ (y.3 ∙ at_v);
      }

  all_small : AllByRecursion IsSmallEdge xs → AllByRecursion IsSmallIn p.edges
  all_small all =
      all_append IsSmallIn required others
      (all_map (λ x. IsSmallEdge x × (has_demand x ≡ true)) IsSmallIn required_edge (filter has_demand xs)
      (λ x of. record { ends = of.0.ends; cost_in = of.0.cost_in; demand_in = of.0.demand_in; service_in = of.0.service_in })
      (all_filter IsSmallEdge has_demand xs all))
      (all_map (λ x. IsSmallEdge x × (has_none x ≡ true)) IsSmallIn other_edge (filter has_none xs)
      (λ x of. record { ends = of.0.ends; cost_in = of.0.cost_in; demand_in = omega arith; service_in = omega arith })
      (all_filter IsSmallEdge has_none xs all))

  small_at : AllByRecursion IsSmallEdge xs → (e : ℕ) → IsEdgeNumber p e → IsSmallIn (edge_at p e)
  small_at all zero number = let from = number.from_one in absurd (omega (arith, from))
  small_at all (suc k) number = let within = number.in_range in all_at IsSmallIn p.edges k no_edge (all_small all) (omega (arith, within))

  all_wanted : AllByRecursion IsSmallEdge xs → AllByRecursion (λ (x : Edge). 1 ≤ x.demand) required
  all_wanted all =
      all_map (λ x. IsSmallEdge x × (has_demand x ≡ true)) (λ (x : Edge). 1 ≤ x.demand) required_edge (filter has_demand xs) (λ x of. demand_there x.demand of.1)
      (all_filter IsSmallEdge has_demand xs all)
    where
      demand_there : (n : ℕ) → nat_lt 0 n ≡ true → 1 ≤ n
      demand_there n is = grind (arith, is)

  count : length required ≡ length (filter has_demand xs)
  count = simp length-map refl

  wanted_at : AllByRecursion IsSmallEdge xs → (e : ℕ) → IsRequired p e → 1 ≤ (edge_at p e).demand
  wanted_at all zero number = let from = number.from_one in absurd (omega (arith, from))
  wanted_at all (suc k) number =
      let within = number.in_range in
      let same = count in
      let below : k < length required = omega (arith, within, same) in
      subst (λ (x : Edge). 1 ≤ x.demand) (sym (get_or_append_left required others no_edge k below)) (all_at (λ (x : Edge). 1 ≤ x.demand) required k no_edge (all_wanted all) below)

  edges_in : length p.edges ≡ length xs
  edges_in = let both = length-filter_both has_demand has_none (λ x. refl) xs in simp (length-append, length-map) both

pub town_is : (g : Lcg) → IsTown (town_from g)
unfolding town_from
town_is g =
    let t = drawn_edges town_streets g in
    let below = drawn_below 100 t.1 (omega arith) in
    let depot = (drawn_from 1 100 t.1).0 in
    let small = edges_small town_streets g streets_corners in
    let all = edges_in depot t.0 in
    let both = length-filter_both has_demand has_none (λ x. refl) t.0 in
    let n = edges_count town_streets g in
    let m = streets_count in
    record {
      vertices = refl;
      capacity = refl;
      depot_from = omega arith;
      depot_in = omega (arith, below);
      edges = all ∙ (n ∙ m);
      required_in = omega (arith, all, both);
      small = small_at depot t.0 small;
      wanted = wanted_at depot t.0 small;
      joined = λ s at. let x = edge_of s town_streets g at in joined_at depot t.0 s x.0 x.1 x.2 x.3;
    }
