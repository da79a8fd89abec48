-- What crosses the border of a set, and what meets its vertices one by one.
use Rattle.std.proofs.Common.{◌≡◌, ◌≢◌, ℕ, zero, suc, ◌+◌, ◌*◌, ◌<◌, ◌≤◌, ◌==◌, Bool, true, false, not, ◌&&◌, cond, eqb, List, [], ◌∷◌, length, take, get_or, refl, sym, ◌∙◌, arith}
use Rattle.std.specs.Prelude.{if◌then◌else◌}
use Rattle.std.specs.List.{AllByRecursion}
use Rattle.std.proofs.lemmas.Bool.{eqb-true}
use Rattle.carp_base.specs.declared.edge.Edge.{Edge}
use Rattle.carp_base.specs.Problem.{Problem, IsValid, IsEdgeNumber, edge_at, no_edge}
use Rattle.plan_model.specs.Plans.{crosses}
use Rattle.plan_model.specs.Sums.{sum_to}
use Rattle.capacity_cuts.proofs.Sums.{sum_to-zero, sum_to-add, sum_to-same, sum_to-single}

-- of counts, one for each edge, those of the edges that cross
abbrev pub counts_over : (ℕ → Bool) → List Edge → List ℕ → ℕ
counts_over inside [] counts = 0
counts_over inside (x ∷ edges) [] = 0
counts_over inside (x ∷ edges) (n ∷ counts) = (if crosses inside x then n else 0) + counts_over inside edges counts

-- an edge between two different vertices 1 to n
pub record HasEnds (n : ℕ) (x : Edge) : Type 0 where
  pub u_one : 1 ≤ x.u
  pub u_in : x.u ≤ n
  pub v_one : 1 ≤ x.v
  pub v_in : x.v ≤ n
  pub no_loop : x.u ≢ x.v

pub by_place : {X : Type 0} (P : X → Type 0) (none : X) (xs : List X) → ((i : ℕ) → i < length xs → P (get_or xs i none)) → AllByRecursion P xs
by_place P none [] each = tt
by_place P none (x ∷ xs) each = (each 0 (omega arith), by_place P none xs (λ i below. each (suc i) (omega (arith, below))))

pub all_take : {X : Type 0} (P : X → Type 0) (n : ℕ) (xs : List X) → AllByRecursion P xs → AllByRecursion P (take n xs)
all_take P zero xs all = tt
all_take P (suc n) [] all = tt
all_take P (suc n) (x ∷ xs) all = (all.0, all_take P n xs all.1)

pub by_number : (p : Problem) (P : Edge → Type 0) → ((e : ℕ) → IsEdgeNumber p e → P (edge_at p e)) → AllByRecursion P p.edges
by_number p P each = by_place P no_edge p.edges (λ i below. each (suc i) (record { from_one = omega arith; in_range = omega (arith, below) }))

pub all_ends : (p : Problem) → IsValid p → AllByRecursion (HasEnds p.vertices) p.edges
all_ends p valid = by_number p (HasEnds p.vertices) (λ e number. let fine = valid.edges e number in record {
  u_one = fine.u_in.from_one;
  u_in = fine.u_in.in_range;
  v_one = fine.v_in.from_one;
  v_in = fine.v_in.in_range;
  no_loop = fine.no_loop;
})

-- what counts within the set alone
abbrev pub part : Bool → ℕ → ℕ
part b n = if b then n else 0

one_vertex : (i b c : Bool) (k : ℕ) → (b ≡ true → c ≡ true → ⊥) → part i (part (if b then not c else c) k) ≡ cond b (part i k) 0 + cond c (part i k) 0
one_vertex true true true k apart = absurd (apart refl refl)
one_vertex true true false k apart = omega arith
one_vertex true false true k apart = omega arith
one_vertex true false false k apart = omega arith
one_vertex false true true k apart = omega arith
one_vertex false true false k apart = omega arith
one_vertex false false true k apart = omega arith
one_vertex false false false k apart = omega arith

pub two_ends : (b c : Bool) (k : ℕ) → part b k + part c k ≡ part (if b then not c else c) k + 2 * part (b && c) k
two_ends true true k = omega arith
two_ends true false k = omega arith
two_ends false true k = omega arith
two_ends false false k = omega arith

edge_sum : (inside : ℕ → Bool) (x : Edge) (n k : ℕ) → HasEnds n x →
    sum_to n (λ v. part (inside v) (part (crosses (λ w. w == v) x) k)) ≡ part (crosses inside x) k + 2 * part (inside x.u && inside x.v) k
edge_sum inside x n k ends =
    omega (
      arith,
      sum_to-same n (λ v. part (inside v) (part (crosses (λ w. w == v) x) k)) (λ v. cond (eqb x.u v) (part (inside v) k) 0 + cond (eqb x.v v) (part (inside v) k) 0)
          (λ v _ _. one_vertex (inside v) (eqb x.u v) (eqb x.v v) k (λ at_u at_v. ends.no_loop (eqb-true x.u v at_u ∙ sym (eqb-true x.v v at_v)))),
      sum_to-add n (λ v. cond (eqb x.u v) (part (inside v) k) 0) (λ v. cond (eqb x.v v) (part (inside v) k) 0),
      sum_to-single n x.u (λ v. part (inside v) k) ends.u_one ends.u_in,
      sum_to-single n x.v (λ v. part (inside v) k) ends.v_one ends.v_in,
      two_ends (inside x.u) (inside x.v) k,
    )

-- what counts on the edges between two vertices of the set
abbrev pub counts_within : (ℕ → Bool) → List Edge → List ℕ → ℕ
counts_within inside [] counts = 0
counts_within inside (x ∷ edges) [] = 0
counts_within inside (x ∷ edges) (n ∷ counts) = part (inside x.u && inside x.v) n + counts_within inside edges counts

pub part-zero : (b : Bool) → part b 0 ≡ 0
part-zero true = refl
part-zero false = refl

pub part-add : (b : Bool) (m n : ℕ) → part b (m + n) ≡ part b m + part b n
part-add true m n = refl
part-add false m n = refl

no_parts : (n : ℕ) (inside : ℕ → Bool) → sum_to n (λ v. part (inside v) 0) ≡ 0
no_parts n inside = sum_to-same n (λ v. part (inside v) 0) (λ v. 0) (λ v _ _. part-zero (inside v)) ∙ sum_to-zero n

-- over the vertices of a set, what counts at each of them is what crosses the border, and twice what lies within
pub vertices_sum : (inside : ℕ → Bool) (n : ℕ) (edges : List Edge) (counts : List ℕ) → AllByRecursion (HasEnds n) edges →
    sum_to n (λ v. part (inside v) (counts_over (λ w. w == v) edges counts)) ≡ counts_over inside edges counts + 2 * counts_within inside edges counts
vertices_sum inside n [] counts ends = no_parts n inside
vertices_sum inside n (x ∷ edges) [] ends = no_parts n inside
vertices_sum inside n (x ∷ edges) (k ∷ counts) ends =
    omega (
      arith,
      sum_to-same n (λ v. part (inside v) (counts_over (λ w. w == v) (x ∷ edges) (k ∷ counts)))
          (λ v. part (inside v) (part (crosses (λ w. w == v) x) k) + part (inside v) (counts_over (λ w. w == v) edges counts))
          (λ v _ _. part-add (inside v) (part (crosses (λ w. w == v) x) k) (counts_over (λ w. w == v) edges counts)),
      sum_to-add n (λ v. part (inside v) (part (crosses (λ w. w == v) x) k)) (λ v. part (inside v) (counts_over (λ w. w == v) edges counts)),
      edge_sum inside x n k ends.0,
      vertices_sum inside n edges counts ends.1,
    )
