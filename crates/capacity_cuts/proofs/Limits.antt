-- The network is within the limits of a flow.
use Rattle.std.proofs.Common.{◌≡◌, ℕ, zero, suc, ◌+◌, ◌-◌, ◌*◌, ◌≤◌, ◌==◌, Bool, true, false, leb, List, [], ◌∷◌, length, take, get_or, refl, arith, All, inl, inr}
use Rattle.std.specs.List.{sum_by, AllByRecursion}
use Rattle.std.proofs.lemmas.Bool.{cases_lt}
use Rattle.std.proofs.lemmas.List.{length-append}
use Rattle.std.proofs.lemmas.List.Sums.{sum_by-cons}
use Rattle.std.proofs.lemmas.List.Elements.{All-append, All-cons, All-nil}
use Rattle.std.proofs.Math.Nat.{mul-le-mul}
use Rattle.carp_base.specs.declared.edge.Edge.{Edge}
use Rattle.carp_base.specs.Problem.{Problem, IsValid, IsVertex, IsEdgeNumber, edge_at, required_edges}
use Rattle.plan_model.specs.Plans.{crosses}
use Rattle.flow_cut.specs.declared.network.Arc.{Arc}
use Rattle.flow_cut.specs.Flows.{IsNode, HasEnds, HasFineRoom, IsNetwork}
use Rattle.capacity_cuts.proofs.Meeting.{part, by_number, all_take}
use Rattle.edge_components.specs.Parts.{parts_of, AreParts}
use Rattle.capacity_cuts.specs.Network.{demand_at, room_at, arc, edge_arcs, source, source_arcs, network}

part-le : (b : Bool) (n : ℕ) → part b n ≤ n
part-le true n = omega arith
part-le false n = omega arith

sum_small : (f : Edge → ℕ) (most : ℕ) (edges : List Edge) → AllByRecursion (λ x. f x ≤ most) edges → sum_by f edges ≤ length edges * most
sum_small f most [] small = omega arith
sum_small f most (x ∷ edges) small =
    let step : suc (length edges) * most ≡ most + length edges * most = omega arith in
    omega (arith, step, sum_by-cons f x edges, small.0, sum_small f most edges small.1)

parts_small : (test : Edge → Bool) (most : ℕ) (edges : List Edge) → AllByRecursion (λ x. x.demand ≤ most) edges →
    AllByRecursion (λ x. part (test x) x.demand ≤ most) edges
parts_small test most [] small = tt
parts_small test most (x ∷ edges) small = (omega (arith, part-le (test x) x.demand, small.0), parts_small test most edges small.1)

take_short : (n : ℕ) (edges : List Edge) → length (take n edges) ≤ n
take_short zero edges = omega arith
take_short (suc n) [] = omega arith
take_short (suc n) (x ∷ edges) = omega (arith, take_short n edges)

demand_small : (p : Problem) → IsValid p → (e : ℕ) → IsEdgeNumber p e → (edge_at p e).demand ≤ p.capacity
demand_small p valid e number = elim (cases_lt p.required e) [
  | inl other ↦ omega (arith, (valid.idle e number other).no_demand)
  | inr required ↦ (valid.tasks e (record { from_one = number.from_one; in_range = required })).demand_fits
]

module _ (p : Problem) (unit : ℕ) (xs : List ℕ) (valid : IsValid p) (few : unit ≤ 1000000) (parts : AreParts p xs) where
  room_small : (e : ℕ) → IsEdgeNumber p e → room_at p unit xs e ≤ 1000000000000000000
  room_small e number =
      let less : p.capacity - (edge_at p e).demand ≤ 30000 = omega (arith, valid.capacity_in) in
      let first : unit * (p.capacity - (edge_at p e).demand) ≤ 1000000 * 30000 = mul-le-mul few less in
      let second : p.capacity * parts_of xs e ≤ 30000 * 1000000000000 = mul-le-mul valid.capacity_in (parts.small e number) in
      omega (arith, first, second, part-le (leb e p.required) (unit * (p.capacity - (edge_at p e).demand)))

  demand_at-small : (v : ℕ) → demand_at p v ≤ 18000000
  demand_at-small v =
      let sum = sum_small (λ x. part (crosses (λ w. w == v) x) x.demand) p.capacity (required_edges p)
      (parts_small (crosses (λ w. w == v)) p.capacity (required_edges p)
      (all_take (λ x. x.demand ≤ p.capacity) p.required p.edges (by_number p (λ x. x.demand ≤ p.capacity) (demand_small p valid)))) in
      let short : length (required_edges p) ≤ 600 = omega (arith, take_short p.required p.edges, valid.few_required) in
      let most : length (required_edges p) * p.capacity ≤ 600 * 30000 = mul-le-mul short valid.capacity_in in
      omega (arith, sum, most)

  source_small : (v : ℕ) → unit * demand_at p v ≤ 1000000000000000000
  source_small v = let most : unit * demand_at p v ≤ 1000000 * 18000000 = mul-le-mul few (demand_at-small v) in omega (arith, most)

  is_node : (v : ℕ) → IsVertex p v → IsNode (source p) v
  is_node v vertex = record { from_one = vertex.from_one; in_range = omega (arith, vertex.in_range) }

  edge_ends : (n : ℕ) → n ≤ length p.edges → All (HasEnds (source p)) (edge_arcs p unit xs n)
  edge_ends zero below = All-nil (HasEnds (source p))
  edge_ends (suc n) below =
      let x : Edge = edge_at p (suc n) in
      let fine = valid.edges (suc n) (record { from_one = omega arith; in_range = below }) in
      let room = room_at p unit xs (suc n) in
      All-append (HasEnds (source p)) (edge_arcs p unit xs n) (arc x.u x.v room ∷ (arc x.v x.u room ∷ [])) (edge_ends n (omega (arith, below)))
      (All-cons (HasEnds (source p)) (arc x.u x.v room) (arc x.v x.u room ∷ [])
      (record { from_in = is_node x.u fine.u_in; to_in = is_node x.v fine.v_in })
      (All-cons (HasEnds (source p)) (arc x.v x.u room) [] (record { from_in = is_node x.v fine.v_in; to_in = is_node x.u fine.u_in }) (All-nil (HasEnds (source p)))))

  edge_rooms : (n : ℕ) → n ≤ length p.edges → All HasFineRoom (edge_arcs p unit xs n)
  edge_rooms zero below = All-nil HasFineRoom
  edge_rooms (suc n) below =
      let x : Edge = edge_at p (suc n) in
      let room = room_at p unit xs (suc n) in
      let small = room_small (suc n) (record { from_one = omega arith; in_range = below }) in
      All-append HasFineRoom (edge_arcs p unit xs n) (arc x.u x.v room ∷ (arc x.v x.u room ∷ [])) (edge_rooms n (omega (arith, below)))
      (All-cons HasFineRoom (arc x.u x.v room) (arc x.v x.u room ∷ []) small (All-cons HasFineRoom (arc x.v x.u room) [] small (All-nil HasFineRoom)))

  source_ends : (n : ℕ) → n ≤ p.vertices → All (HasEnds (source p)) (source_arcs p unit n)
  source_ends zero below = All-nil (HasEnds (source p))
  source_ends (suc n) below =
      let last : Arc = arc (source p) (suc n) (unit * demand_at p (suc n)) in
      All-append (HasEnds (source p)) (source_arcs p unit n) (last ∷ []) (source_ends n (omega (arith, below)))
      (All-cons (HasEnds (source p)) last []
      (record { from_in = record { from_one = omega arith; in_range = omega arith }; to_in = record { from_one = omega arith; in_range = omega (arith, below) } })
      (All-nil (HasEnds (source p))))

  source_rooms : (n : ℕ) → All HasFineRoom (source_arcs p unit n)
  source_rooms zero = All-nil HasFineRoom
  source_rooms (suc n) =
      let last : Arc = arc (source p) (suc n) (unit * demand_at p (suc n)) in
      All-append HasFineRoom (source_arcs p unit n) (last ∷ []) (source_rooms n)
      (All-cons HasFineRoom last [] (source_small (suc n)) (All-nil HasFineRoom))

  length-edge_arcs : (n : ℕ) → length (edge_arcs p unit xs n) ≡ 2 * n
  length-edge_arcs zero = refl
  length-edge_arcs (suc n) = simp (length-append, length-edge_arcs n) (omega arith)

  length-source_arcs : (n : ℕ) → length (source_arcs p unit n) ≡ n
  length-source_arcs zero = refl
  length-source_arcs (suc n) = simp (length-append, length-source_arcs n) (omega arith)

  pub network_law : IsNetwork (source p) (network p unit xs)
  network_law =
      let edges : List Arc = edge_arcs p unit xs (length p.edges) in
      let others : List Arc = source_arcs p unit p.vertices in
      record {
        few_nodes = omega (arith, valid.few_vertices);
        few_arcs = omega (arith, length-append edges others, length-edge_arcs (length p.edges), length-source_arcs p.vertices, valid.few_edges, valid.few_vertices);
        ends = All-append (HasEnds (source p)) edges others (edge_ends (length p.edges) (omega arith)) (source_ends p.vertices (omega arith));
        rooms = All-append HasFineRoom edges others (edge_rooms (length p.edges) (omega arith)) (source_rooms p.vertices);
      }

-- the parts of an edge, as the code reads them
parts_read : (x : List ℕ) (e : ℕ) → 1 ≤ e → parts_of x e ≡ get_or x (e - 1) 0
parts_read x zero one = absurd (omega (arith, one))
parts_read x (suc k) one = let is : suc k - 1 ≡ k = omega arith in rw is refl

pub parts_most : (p : Problem) (x : List ℕ) (e : ℕ) → AreParts p x → IsEdgeNumber p e → get_or x (e - 1) 0 ≤ 1000000000000
parts_most p x e parts number = omega (arith, parts_read x e number.from_one, parts.small e number)
