-- What crosses the border of a set is even or odd as what meets its vertices one by one.
use Rattle.std.proofs.Common.{◌≡◌, ◌≢◌, ℕ, zero, suc, ◌+◌, ◌*◌, ◌%◌, ◌<◌, ◌≤◌, ◌==◌, Bool, true, false, not, ◌&&◌, cond, eqb, List, [], ◌∷◌, length, take, get_or, refl, sym, ap, ◌∙◌, arith}
use Rattle.std.specs.Prelude.{if◌then◌else◌}
use Rattle.std.specs.List.{count_by, AllByRecursion}
use Rattle.std.proofs.lemmas.Bool.{eqb-true}
use Rattle.std.proofs.lemmas.List.Sums.{sum_by-cons}
use Rattle.carp_base.specs.declared.edge.Edge.{Edge}
use Rattle.carp_base.specs.Problem.{Problem, IsValid, IsEdgeNumber, edge_at, no_edge, required_edges}
use Rattle.plan_model.specs.Plans.{crosses}
use Rattle.plan_model.specs.Sums.{sum_to}
use Rattle.cut_pool.specs.Shores.{required_crossings}
use Rattle.edge_components.specs.Parts.{parts_of, parts_over}
use Rattle.matching_duals.specs.OddSets.{degree}
use Rattle.matching_duals.specs.Joins.{MakesEven, join_cost}
use Rattle.matching_duals.proofs.Sums.{sum_to-zero, sum_to-add, sum_to-same, sum_to-single, sum_to-first, sum_to-parity}

-- how often counts, one for each edge in order, cross the border of a set
abbrev pub counts_over : (ℕ → Bool) → List Edge → List ℕ → ℕ
counts_over inside [] counts = 0
counts_over inside (x ∷ edges) [] = 0
counts_over inside (x ∷ edges) (n ∷ counts) = (if crosses inside x then n else 0) + counts_over inside edges counts

-- what counts cost
abbrev pub counts_cost : List Edge → List ℕ → ℕ
counts_cost [] counts = 0
counts_cost (x ∷ edges) [] = 0
counts_cost (x ∷ edges) (n ∷ counts) = n * x.cost + counts_cost edges counts

-- the edge of a number from 1 in a list
abbrev edge_in : List Edge → ℕ → Edge
edge_in edges zero = no_edge
edge_in edges (suc k) = get_or edges k no_edge

edge_is : (p : Problem) (e : ℕ) → edge_at p e ≡ edge_in p.edges e
edge_is p zero = refl
edge_is p (suc k) = refl

next_edge : (x : Edge) (edges : List Edge) (e : ℕ) → 1 ≤ e → edge_in (x ∷ edges) (suc e) ≡ edge_in edges e
next_edge x edges zero one = absurd (omega (arith, one))
next_edge x edges (suc k) one = refl

next_part : (n : ℕ) (counts : List ℕ) (e : ℕ) → 1 ≤ e → parts_of (n ∷ counts) (suc e) ≡ parts_of counts e
next_part n counts zero one = absurd (omega (arith, one))
next_part n counts (suc k) one = refl

over_list : (set : ℕ → Bool) (edges : List Edge) (counts : List ℕ) → length counts ≡ length edges →
    sum_to (length edges) (λ e. if crosses set (edge_in edges e) then parts_of counts e else 0) ≡ counts_over set edges counts
over_list set [] counts long = refl
over_list set (x ∷ edges) [] long = absurd (omega (arith, long))
over_list set (x ∷ edges) (n ∷ counts) long =
    omega (
      arith,
      over_list set edges counts (omega (arith, long)),
      sum_to-first (length edges) (λ e. if crosses set (edge_in (x ∷ edges) e) then parts_of (n ∷ counts) e else 0),
      sum_to-same (length edges) (λ e. if crosses set (edge_in (x ∷ edges) (suc e)) then parts_of (n ∷ counts) (suc e) else 0)
          (λ e. if crosses set (edge_in edges e) then parts_of counts e else 0)
          (λ e one _. ap (λ y. if crosses set y then parts_of (n ∷ counts) (suc e) else 0) (next_edge x edges e one)
          ∙ ap (λ k. if crosses set (edge_in edges e) then k else 0) (next_part n counts e one)),
    )

-- counts by the numbers of the edges, and by their list
pub parts_over-list : (p : Problem) (set : ℕ → Bool) (counts : List ℕ) → length counts ≡ length p.edges → parts_over p counts set ≡ counts_over set p.edges counts
parts_over-list p set counts long =
    sum_to-same (length p.edges) (λ e. if crosses set (edge_at p e) then parts_of counts e else 0) (λ e. if crosses set (edge_in p.edges e) then parts_of counts e else 0)
    (λ e _ _. ap (λ y. if crosses set y then parts_of counts e else 0) (edge_is p e))
    ∙ over_list set p.edges counts long

cost_list : (edges : List Edge) (counts : List ℕ) → length counts ≡ length edges →
    sum_to (length edges) (λ e. parts_of counts e * (edge_in edges e).cost) ≡ counts_cost edges counts
cost_list [] counts long = refl
cost_list (x ∷ edges) [] long = absurd (omega (arith, long))
cost_list (x ∷ edges) (n ∷ counts) long =
    omega (
      arith,
      cost_list edges counts (omega (arith, long)),
      sum_to-first (length edges) (λ e. parts_of (n ∷ counts) e * (edge_in (x ∷ edges) e).cost),
      sum_to-same (length edges) (λ e. parts_of (n ∷ counts) (suc e) * (edge_in (x ∷ edges) (suc e)).cost) (λ e. parts_of counts e * (edge_in edges e).cost)
          (λ e one _. ap (λ y. parts_of (n ∷ counts) (suc e) * y.cost) (next_edge x edges e one) ∙ ap (λ k. k * (edge_in edges e).cost) (next_part n counts e one)),
    )

pub join_cost-list : (p : Problem) (counts : List ℕ) → length counts ≡ length p.edges → join_cost p counts ≡ counts_cost p.edges counts
join_cost-list p counts long =
    sum_to-same (length p.edges) (λ e. parts_of counts e * (edge_at p e).cost) (λ e. parts_of counts e * (edge_in p.edges e).cost)
    (λ e _ _. ap (λ y. parts_of counts e * y.cost) (edge_is p e))
    ∙ cost_list p.edges counts long

-- an edge between two different vertices 1 to n
pub record HasEnds (n : ℕ) (x : Edge) : Type 0 where
  pub u_one : 1 ≤ x.u
  pub u_in : x.u ≤ n
  pub v_one : 1 ≤ x.v
  pub v_in : x.v ≤ n
  pub no_loop : x.u ≢ x.v

pub by_place : {X : Type 0} (P : X → Type 0) (none : X) (xs : List X) → ((i : ℕ) → i < length xs → P (get_or xs i none)) → AllByRecursion P xs
by_place P none [] each = tt
by_place P none (x ∷ xs) each = (each 0 (omega arith), by_place P none xs (λ i below. each (suc i) (omega (arith, below))))

pub all_take : {X : Type 0} (P : X → Type 0) (n : ℕ) (xs : List X) → AllByRecursion P xs → AllByRecursion P (take n xs)
all_take P zero xs all = tt
all_take P (suc n) [] all = tt
all_take P (suc n) (x ∷ xs) all = (all.0, all_take P n xs all.1)

pub by_number : (p : Problem) (P : Edge → Type 0) → ((e : ℕ) → IsEdgeNumber p e → P (edge_at p e)) → AllByRecursion P p.edges
by_number p P each = by_place P no_edge p.edges (λ i below. each (suc i) (record { from_one = omega arith; in_range = omega (arith, below) }))

pub all_ends : (p : Problem) → IsValid p → AllByRecursion (HasEnds p.vertices) p.edges
all_ends p valid = by_number p (HasEnds p.vertices) (λ e number. let fine = valid.edges e number in record {
  u_one = fine.u_in.from_one;
  u_in = fine.u_in.in_range;
  v_one = fine.v_in.from_one;
  v_in = fine.v_in.in_range;
  no_loop = fine.no_loop;
})

-- what counts within the set alone
abbrev pub part : Bool → ℕ → ℕ
part b n = if b then n else 0

one_vertex : (i b c : Bool) (k : ℕ) → (b ≡ true → c ≡ true → ⊥) → part i (part (if b then not c else c) k) ≡ cond b (part i k) 0 + cond c (part i k) 0
one_vertex true true true k apart = absurd (apart refl refl)
one_vertex true true false k apart = omega arith
one_vertex true false true k apart = omega arith
one_vertex true false false k apart = omega arith
one_vertex false true true k apart = omega arith
one_vertex false true false k apart = omega arith
one_vertex false false true k apart = omega arith
one_vertex false false false k apart = omega arith

pub two_ends : (b c : Bool) (k : ℕ) → part b k + part c k ≡ part (if b then not c else c) k + 2 * part (b && c) k
two_ends true true k = omega arith
two_ends true false k = omega arith
two_ends false true k = omega arith
two_ends false false k = omega arith

edge_sum : (inside : ℕ → Bool) (x : Edge) (n k : ℕ) → HasEnds n x →
    sum_to n (λ v. part (inside v) (part (crosses (λ w. w == v) x) k)) ≡ part (crosses inside x) k + 2 * part (inside x.u && inside x.v) k
edge_sum inside x n k ends =
    omega (
      arith,
      sum_to-same n (λ v. part (inside v) (part (crosses (λ w. w == v) x) k)) (λ v. cond (eqb x.u v) (part (inside v) k) 0 + cond (eqb x.v v) (part (inside v) k) 0)
          (λ v _ _. one_vertex (inside v) (eqb x.u v) (eqb x.v v) k (λ at_u at_v. ends.no_loop (eqb-true x.u v at_u ∙ sym (eqb-true x.v v at_v)))),
      sum_to-add n (λ v. cond (eqb x.u v) (part (inside v) k) 0) (λ v. cond (eqb x.v v) (part (inside v) k) 0),
      sum_to-single n x.u (λ v. part (inside v) k) ends.u_one ends.u_in,
      sum_to-single n x.v (λ v. part (inside v) k) ends.v_one ends.v_in,
      two_ends (inside x.u) (inside x.v) k,
    )

-- what counts on the edges between two vertices of the set
abbrev pub counts_within : (ℕ → Bool) → List Edge → List ℕ → ℕ
counts_within inside [] counts = 0
counts_within inside (x ∷ edges) [] = 0
counts_within inside (x ∷ edges) (n ∷ counts) = part (inside x.u && inside x.v) n + counts_within inside edges counts

pub part-zero : (b : Bool) → part b 0 ≡ 0
part-zero true = refl
part-zero false = refl

pub part-add : (b : Bool) (m n : ℕ) → part b (m + n) ≡ part b m + part b n
part-add true m n = refl
part-add false m n = refl

no_parts : (n : ℕ) (inside : ℕ → Bool) → sum_to n (λ v. part (inside v) 0) ≡ 0
no_parts n inside = sum_to-same n (λ v. part (inside v) 0) (λ v. 0) (λ v _ _. part-zero (inside v)) ∙ sum_to-zero n

-- over the vertices of a set, what counts at each of them is what crosses the border, and twice what lies within
pub vertices_sum : (inside : ℕ → Bool) (n : ℕ) (edges : List Edge) (counts : List ℕ) → AllByRecursion (HasEnds n) edges →
    sum_to n (λ v. part (inside v) (counts_over (λ w. w == v) edges counts)) ≡ counts_over inside edges counts + 2 * counts_within inside edges counts
vertices_sum inside n [] counts ends = no_parts n inside
vertices_sum inside n (x ∷ edges) [] ends = no_parts n inside
vertices_sum inside n (x ∷ edges) (k ∷ counts) ends =
    omega (
      arith,
      sum_to-same n (λ v. part (inside v) (counts_over (λ w. w == v) (x ∷ edges) (k ∷ counts)))
          (λ v. part (inside v) (part (crosses (λ w. w == v) x) k) + part (inside v) (counts_over (λ w. w == v) edges counts))
          (λ v _ _. part-add (inside v) (part (crosses (λ w. w == v) x) k) (counts_over (λ w. w == v) edges counts)),
      sum_to-add n (λ v. part (inside v) (part (crosses (λ w. w == v) x) k)) (λ v. part (inside v) (counts_over (λ w. w == v) edges counts)),
      edge_sum inside x n k ends.0,
      vertices_sum inside n edges counts ends.1,
    )

-- each edge once
abbrev pub ones : List Edge → List ℕ
ones [] = []
ones (x ∷ edges) = 1 ∷ ones edges

ones_over : (inside : ℕ → Bool) (edges : List Edge) → count_by (crosses inside) edges ≡ counts_over inside edges (ones edges)
ones_over inside [] = refl
ones_over inside (x ∷ edges) = omega (arith, ones_over inside edges, sum_by-cons (λ y. cond (crosses inside y) 1 0) x edges)

-- the same for the required edges
pub degrees_sum : (p : Problem) (inside : ℕ → Bool) → IsValid p →
    sum_to p.vertices (λ v. part (inside v) (degree p v)) ≡ required_crossings p inside + 2 * counts_within inside (required_edges p) (ones (required_edges p))
degrees_sum p inside valid =
    omega (
      arith,
      sum_to-same p.vertices (λ v. part (inside v) (degree p v)) (λ v. part (inside v) (counts_over (λ w. w == v) (required_edges p) (ones (required_edges p))))
          (λ v _ _. ap (part (inside v)) (ones_over (λ w. w == v) (required_edges p))),
      ones_over inside (required_edges p),
      vertices_sum inside p.vertices (required_edges p) (ones (required_edges p)) (all_take (HasEnds p.vertices) p.required p.edges (all_ends p valid)),
    )

part-even : (b : Bool) (m n : ℕ) → (m + n) % 2 ≡ 0 → (part b m + part b n) % 2 ≡ 0 % 2
part-even true m n even = even
part-even false m n even = refl

-- counts that make every vertex even cross each set as often as the required edges, up to an even number
pub even_over : (p : Problem) (counts : List ℕ) (inside : ℕ → Bool) → IsValid p → MakesEven p counts →
    (required_crossings p inside + counts_over inside p.edges counts) % 2 ≡ 0
even_over p counts inside valid makes =
    omega (
      arith,
      degrees_sum p inside valid,
      vertices_sum inside p.vertices p.edges counts (all_ends p valid),
      sum_to-add p.vertices (λ v. part (inside v) (degree p v)) (λ v. part (inside v) (counts_over (λ w. w == v) p.edges counts)),
      sum_to-parity p.vertices (λ v. part (inside v) (degree p v) + part (inside v) (counts_over (λ w. w == v) p.edges counts)) (λ v. 0)
          (λ v one below. part-even (inside v) (degree p v) (counts_over (λ w. w == v) p.edges counts) (even v one below)),
      sum_to-zero p.vertices,
    )
  where
    even : (v : ℕ) → 1 ≤ v → v ≤ p.vertices → (degree p v + counts_over (λ w. w == v) p.edges counts) % 2 ≡ 0
    even v one below = omega (arith, makes.even v (record { from_one = one; in_range = below }), parts_over-list p (λ w. w == v) counts makes.one_each)
