-- The room of a cut is a constant less the violation of its side.
use Rattle.std.proofs.Common.{◌≡◌, ℕ, zero, suc, ◌+◌, ◌-◌, ◌*◌, ◌≤◌, ◌==◌, Bool, true, false, not, ◌&&◌, ◌||◌, leb, List, [], ◌∷◌, length, refl, ap, ◌∙◌, arith, inl, inr}
use Rattle.std.specs.Prelude.{if◌then◌else◌}
use Rattle.std.specs.List.{sum_by}
use Rattle.std.proofs.lemmas.Bool.{cases_lt, le-leb, lt-leb, leb-true}
use Rattle.std.proofs.lemmas.List.Sums.{sum_by-cons, sum_by-append}
use Rattle.carp_base.specs.declared.edge.Edge.{Edge}
use Rattle.carp_base.specs.Problem.{Problem, IsValid, edge_at, required_edges, total_demand}
use Rattle.plan_model.specs.Plans.{crosses}
use Rattle.plan_model.specs.Sums.{sum_to}
use Rattle.capacity_cuts.proofs.Sums.{sum_to-same, sum_to-edge_at}
use Rattle.flow_cut.specs.declared.network.Arc.{Arc}
use Rattle.flow_cut.specs.Flows.{IsSide, is_on, leaves, cut_room}
use Rattle.capacity_cuts.proofs.Meeting.{part, HasEnds, all_ends, all_take, vertices_sum, counts_over, counts_within}
use Rattle.cut_pool.specs.Shores.{touches, touched}
use Rattle.edge_components.specs.Parts.{parts_of}
use Rattle.capacity_cuts.specs.Violation.{gain, loss}
use Rattle.capacity_cuts.specs.Network.{demand_at, room_at, arc, edge_arcs, source, source_arcs, network}

-- the demands of edges, one for each
abbrev pub demands : List Edge → List ℕ
demands [] = []
demands (x ∷ edges) = x.demand ∷ demands edges

-- demand of the edges that cross
abbrev pub demand_over : (ℕ → Bool) → List Edge → ℕ
demand_over inside edges = sum_by (λ x. part (crosses inside x) x.demand) edges

demands_over : (inside : ℕ → Bool) (edges : List Edge) → demand_over inside edges ≡ counts_over inside edges (demands edges)
demands_over inside [] = refl
demands_over inside (x ∷ edges) = omega (arith, demands_over inside edges, sum_by-cons (λ y. part (crosses inside y) y.demand) x edges)

touch_one : (b c : Bool) (d : ℕ) → part (b || c) d ≡ part (if b then not c else c) d + part (b && c) d
touch_one true true d = omega arith
touch_one true false d = omega arith
touch_one false true d = omega arith
touch_one false false d = omega arith

-- the demand that touches a set crosses its border or lies within
touched_splits : (inside : ℕ → Bool) (edges : List Edge) →
    sum_by (λ x. part (touches inside x) x.demand) edges ≡ demand_over inside edges + counts_within inside edges (demands edges)
touched_splits inside [] = refl
touched_splits inside (x ∷ edges) =
    omega (
      arith,
      touched_splits inside edges,
      touch_one (inside x.u) (inside x.v) x.demand,
      sum_by-cons (λ y. part (touches inside y) y.demand) x edges,
      sum_by-cons (λ y. part (crosses inside y) y.demand) x edges,
    )

-- the touched demand is half the demands met at the vertices of the set plus half the crossing demand
pub twice_touched : (p : Problem) (inside : ℕ → Bool) → IsValid p →
    2 * touched p inside ≡ sum_to p.vertices (λ v. part (inside v) (demand_at p v)) + demand_over inside (required_edges p)
twice_touched p inside valid =
    omega (
      arith,
      touched_splits inside (required_edges p),
      demands_over inside (required_edges p),
      vertices_sum inside p.vertices (required_edges p) (demands (required_edges p)) (all_take (HasEnds p.vertices) p.required p.edges (all_ends p valid)),
      sum_to-same p.vertices (λ v. part (inside v) (demand_at p v)) (λ v. part (inside v) (counts_over (λ w. w == v) (required_edges p) (demands (required_edges p))))
          (λ v _ _. ap (part (inside v)) (demands_over (λ w. w == v) (required_edges p))),
    )

none_cross : (edges : List Edge) → demand_over (λ v. true) edges ≡ 0
none_cross [] = refl
none_cross (x ∷ edges) = omega (arith, none_cross edges, sum_by-cons (λ y. part (crosses (λ v. true) y) y.demand) x edges)

-- each demand is met at two vertices
pub all_demands : (p : Problem) → IsValid p → sum_to p.vertices (λ v. demand_at p v) ≡ 2 * total_demand p
all_demands p valid = omega (arith, twice_touched p (λ v. true) valid, none_cross (required_edges p))

room : Arc → List Bool → ℕ
room x side = if leaves side x then x.room else 0

both_ways : (b c : Bool) (n : ℕ) → part (b && not c) n + part (c && not b) n ≡ part (if b then not c else c) n
both_ways true true n = refl
both_ways true false n = omega arith
both_ways false true n = omega arith
both_ways false false n = refl

-- what the arcs of the edges 1 to n add to a cut
edges_cut : (p : Problem) (unit : ℕ) (xs : List ℕ) (side : List Bool) (n : ℕ) →
    cut_room (edge_arcs p unit xs n) side ≡ sum_to n (λ e. part (crosses (is_on side) (edge_at p e)) (room_at p unit xs e))
edges_cut p unit xs side zero = refl
edges_cut p unit xs side (suc n) =
    let x : Edge = edge_at p (suc n) in
    let f : Arc → ℕ = λ y. if leaves side y then y.room else 0 in
    let first : Arc = arc x.u x.v (room_at p unit xs (suc n)) in
    let second : Arc = arc x.v x.u (room_at p unit xs (suc n)) in
    omega (
      arith,
      edges_cut p unit xs side n,
      sum_by-append f (edge_arcs p unit xs n) (first ∷ (second ∷ [])),
      sum_by-cons f first (second ∷ []),
      sum_by-cons f second [],
      both_ways (is_on side x.u) (is_on side x.v) (room_at p unit xs (suc n)),
    )

from_source : (b c : Bool) (n : ℕ) → b ≡ true → part (b && not c) n + part c n ≡ n
from_source true true n is = omega arith
from_source true false n is = omega arith
from_source false c n is = cc

part-times : (b : Bool) (k n : ℕ) → part b (k * n) ≡ k * part b n
part-times true k n = refl
part-times false k n = omega arith

-- what the source's arcs to the vertices 1 to n add to a cut
source_cut : (p : Problem) (unit : ℕ) (side : List Bool) (n : ℕ) → is_on side (source p) ≡ true →
    cut_room (source_arcs p unit n) side + unit * sum_to n (λ v. part (is_on side v) (demand_at p v)) ≡ unit * sum_to n (λ v. demand_at p v)
source_cut p unit side zero there = omega arith
source_cut p unit side (suc n) there =
    let f : Arc → ℕ = λ y. if leaves side y then y.room else 0 in
    let last : Arc = arc (source p) (suc n) (unit * demand_at p (suc n)) in
    omega (
      arith,
      source_cut p unit side n there,
      sum_by-append f (source_arcs p unit n) (last ∷ []),
      sum_by-cons f last [],
      from_source (is_on side (source p)) (is_on side (suc n)) (unit * demand_at p (suc n)) there,
      part-times (is_on side (suc n)) unit (demand_at p (suc n)),
    )

-- of an edge that crosses: its room and its demand are the capacity and its x
edge_room : (c m : Bool) (unit q d x : ℕ) → (m ≡ true → d ≤ q) →
    part c (part m (unit * (q - d)) + q * x) + unit * part m (part c d) ≡ q * (unit * part m (part c 1)) + q * part c x
edge_room true true unit q d x fits = let e : (q - d) + d ≡ q = omega (arith, fits refl) in omega (arith, ap (λ k. unit * k) e)
edge_room true false unit q d x fits = omega arith
edge_room false true unit q d x fits = omega arith
edge_room false false unit q d x fits = omega arith

rooms_sum : (p : Problem) (unit : ℕ) (xs : List ℕ) (inside : ℕ → Bool) (n : ℕ) → IsValid p →
    sum_to n (λ e. part (crosses inside (edge_at p e)) (room_at p unit xs e))
    + unit * sum_to n (λ e. part (leb e p.required) (part (crosses inside (edge_at p e)) (edge_at p e).demand))
    ≡ p.capacity * (unit * sum_to n (λ e. part (leb e p.required) (part (crosses inside (edge_at p e)) 1)) + sum_to n (λ e. part (crosses inside (edge_at p e)) (parts_of xs e)))
rooms_sum p unit xs inside zero valid = omega arith
rooms_sum p unit xs inside (suc n) valid =
    omega (
      arith,
      rooms_sum p unit xs inside n valid,
      edge_room (crosses inside (edge_at p (suc n))) (leb (suc n) p.required) unit p.capacity (edge_at p (suc n)).demand (parts_of xs (suc n))
          (λ is. (valid.tasks (suc n) (record { from_one = omega arith; in_range = leb-true (suc n) p.required is })).demand_fits),
    )

-- beyond m nothing counts
sum_to-first : (m n : ℕ) (f : ℕ → ℕ) → m ≤ n → sum_to n (λ e. part (leb e m) (f e)) ≡ sum_to m f
sum_to-first m zero f below = let none : m ≡ 0 = omega (arith, below) in rw none refl
sum_to-first m (suc n) f below = elim (cases_lt n m) [
  | inl last ↦
      let same : m ≡ suc n = omega (arith, last, below) in
      rw same (sum_to-same (suc n) (λ e. part (leb e (suc n)) (f e)) f (λ e _ low. ap (λ b. part b (f e)) (le-leb e (suc n) low)))
  | inr later ↦ omega (arith, sum_to-first m n f later, ap (λ b. part b (f (suc n))) (lt-leb (suc n) m (omega (arith, later))))
]

required_sum : (p : Problem) (f : Edge → ℕ) → IsValid p → sum_to (length p.edges) (λ e. part (leb e p.required) (f (edge_at p e))) ≡ sum_by f (required_edges p)
required_sum p f valid =
    sum_to-first p.required (length p.edges) (λ e. f (edge_at p e)) valid.required_in
    ∙ sum_to-edge_at p f p.required valid.required_in

pub cut_law : (p : Problem) (unit : ℕ) (xs : List ℕ) (side : List Bool) → IsValid p → IsSide side (source p) p.depot →
    cut_room (network p unit xs) side + gain p unit (is_on side) ≡ 2 * (unit * total_demand p) + loss p unit xs (is_on side)
cut_law p unit xs side valid is =
    let inside = is_on side in
    omega (
      arith,
      sum_by-append (λ y. if leaves side y then y.room else 0) (edge_arcs p unit xs (length p.edges)) (source_arcs p unit p.vertices),
      edges_cut p unit xs side (length p.edges),
      source_cut p unit side p.vertices is.source,
      ap (λ k. unit * k) (all_demands p valid),
      ap (λ k. unit * k) (twice_touched p inside valid),
      rooms_sum p unit xs inside (length p.edges) valid,
      ap (λ k. unit * k) (required_sum p (λ x. part (crosses inside x) x.demand) valid),
      ap (λ k. p.capacity * (unit * k)) (required_sum p (λ x. part (crosses inside x) 1) valid),
    )
