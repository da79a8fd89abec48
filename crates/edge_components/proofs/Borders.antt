-- Tests that agree at the vertices have one border.
use Rattle.std.proofs.Common.{◌≡◌, ℕ, zero, suc, ◌<◌, ◌≤◌, Bool, cond, List, [], ◌∷◌, length, take, get_or, refl, ap, arith}
use Rattle.std.specs.Prelude.{if◌then◌else◌}
use Rattle.std.specs.List.{sum_by, AllByRecursion}
use Rattle.std.proofs.lemmas.List.Sums.{sum_by-cons}
use Rattle.carp_base.specs.declared.edge.Edge.{Edge}
use Rattle.carp_base.specs.Problem.{Problem, IsValid, IsVertex, IsEdgeNumber, edge_at, no_edge, required_edges}
use Rattle.plan_model.specs.Plans.{crosses}
use Rattle.plan_model.specs.Sums.{sum_to}
use Rattle.cut_pool.specs.Shores.{touches, demand_inside}
use Rattle.edge_components.specs.Parts.{parts_of}
use Rattle.edge_components.specs.Laws.{HaveOneBorder}

-- both ends are vertices
pub record HasEnds (p : Problem) (x : Edge) : Type 0 where
  pub u_in : IsVertex p x.u
  pub v_in : IsVertex p x.v

by_place : {X : Type 0} (P : X → Type 0) (none : X) (xs : List X) → ((i : ℕ) → i < length xs → P (get_or xs i none)) → AllByRecursion P xs
by_place P none [] each = tt
by_place P none (x ∷ xs) each = (each 0 (omega arith), by_place P none xs (λ i below. each (suc i) (omega (arith, below))))

all_take : {X : Type 0} (P : X → Type 0) (n : ℕ) (xs : List X) → AllByRecursion P xs → AllByRecursion P (take n xs)
all_take P zero xs all = tt
all_take P (suc n) [] all = tt
all_take P (suc n) (x ∷ xs) all = (all.0, all_take P n xs all.1)

ends_at : (p : Problem) (e : ℕ) → IsValid p → IsEdgeNumber p e → HasEnds p (edge_at p e)
ends_at p e valid number = let fine = valid.edges e number in record { u_in = fine.u_in; v_in = fine.v_in }

required_ends : (p : Problem) → IsValid p → AllByRecursion (HasEnds p) (required_edges p)
required_ends p valid =
    all_take (HasEnds p) p.required p.edges
    (by_place (HasEnds p) no_edge p.edges (λ i below. ends_at p (suc i) valid (record { from_one = omega arith; in_range = omega (arith, below) })))

sums_same : (p : Problem) (f g : Edge → ℕ) (edges : List Edge) → AllByRecursion (HasEnds p) edges → ((x : Edge) → HasEnds p x → f x ≡ g x) → sum_by f edges ≡ sum_by g edges
sums_same p f g [] ends same = refl
sums_same p f g (x ∷ edges) ends same = omega (arith, sum_by-cons f x edges, sum_by-cons g x edges, same x ends.0, sums_same p f g edges ends.1 same)

module _ (p : Problem) (f g : ℕ → Bool) (agree : (v : ℕ) → IsVertex p v → f v ≡ g v) where
  crosses_same : (x : Edge) → HasEnds p x → crosses f x ≡ crosses g x
  crosses_same x ends = rw (agree x.u ends.u_in, agree x.v ends.v_in) refl

  touches_same : (x : Edge) → HasEnds p x → touches f x ≡ touches g x
  touches_same x ends = rw (agree x.u ends.u_in, agree x.v ends.v_in) refl

  parts_same : (x : List ℕ) (n : ℕ) → IsValid p → n ≤ length p.edges →
      sum_to n (λ e. if crosses f (edge_at p e) then parts_of x e else 0) ≡ sum_to n (λ e. if crosses g (edge_at p e) then parts_of x e else 0)
  parts_same x zero valid below = refl
  parts_same x (suc n) valid below =
      omega (
        arith,
        parts_same x n valid (omega (arith, below)),
        ap (λ b. if b then parts_of x (suc n) else 0) (crosses_same (edge_at p (suc n)) (ends_at p (suc n) valid (record { from_one = omega arith; in_range = below }))),
      )

pub border_law : (p : Problem) (x : List ℕ) (f g : ℕ → Bool) → IsValid p → ((v : ℕ) → IsVertex p v → f v ≡ g v) → HaveOneBorder p x f g
border_law p x f g valid agree = record {
  crossings =
      sums_same p (λ y. cond (crosses f y) 1 0) (λ y. cond (crosses g y) 1 0) (required_edges p) (required_ends p valid)
      (λ y ends. ap (λ b. cond b 1 0) (crosses_same p f g agree y ends));
  demand =
      sums_same p (demand_inside f) (demand_inside g) (required_edges p) (required_ends p valid)
      (λ y ends. ap (λ b. if b then y.demand else 0) (touches_same p f g agree y ends));
  parts = parts_same p f g agree x (length p.edges) valid (omega arith);
}
