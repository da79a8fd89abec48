-- Counts that make every vertex even cost at least half of what packing odd shores weigh.
use Rattle.std.proofs.Common.{◌≡◌, ℕ, ◌+◌, ◌*◌, ◌%◌, ◌≤◌, Bool, true, false, List, [], ◌∷◌, refl, ap, arith}
use Rattle.std.specs.Prelude.{if◌then◌else◌}
use Rattle.std.specs.List.{All, AllByRecursion}
use Rattle.std.proofs.Math.Nat.{mul-le-mul_left}
use Rattle.std.proofs.lemmas.List.Elements.{recursion_from_All}
use Rattle.std.proofs.lemmas.List.Sums.{sum_by-cons}
use Rattle.carp_base.specs.declared.edge.Edge.{Edge}
use Rattle.carp_base.specs.Problem.{Problem, IsValid}
use Rattle.plan_model.specs.Plans.{crosses}
use Rattle.cut_pool.specs.declared.shore.Weighted.{Weighted}
use Rattle.cut_pool.specs.Shores.{is_in, required_crossings}
use Rattle.matching_duals.specs.Joins.{MakesEven, join_cost, halves, halves_over, all_halves, Packs}
use Rattle.matching_duals.proofs.Parity.{by_number, counts_over, counts_cost, even_over, join_cost-list}

-- what the counts pay for the shores
abbrev pub paid : List Weighted → List Edge → List ℕ → ℕ
paid [] edges counts = 0
paid (s ∷ shores) edges counts = halves s * counts_over (is_in s.shore) edges counts + paid shores edges counts

paid-no_edges : (shores : List Weighted) (counts : List ℕ) → paid shores [] counts ≡ 0
paid-no_edges [] counts = refl
paid-no_edges (s ∷ shores) counts = omega (arith, paid-no_edges shores counts)

paid-no_counts : (shores : List Weighted) (x : Edge) (edges : List Edge) → paid shores (x ∷ edges) [] ≡ 0
paid-no_counts [] x edges = refl
paid-no_counts (s ∷ shores) x edges = omega (arith, paid-no_counts shores x edges)

one_shore : (c : Bool) (h n r : ℕ) → h * ((if c then n else 0) + r) ≡ n * (if c then h else 0) + h * r
one_shore true h n r = omega arith
one_shore false h n r = omega arith

paid-edge : (shores : List Weighted) (x : Edge) (edges : List Edge) (n : ℕ) (counts : List ℕ) →
    paid shores (x ∷ edges) (n ∷ counts) ≡ n * halves_over shores x + paid shores edges counts
paid-edge [] x edges n counts = omega arith
paid-edge (s ∷ shores) x edges n counts =
    omega (
      arith,
      one_shore (crosses (is_in s.shore) x) (halves s) n (counts_over (is_in s.shore) edges counts),
      paid-edge shores x edges n counts,
      ap (λ k. n * k) (sum_by-cons (λ r. if crosses (is_in r.shore) x then halves r else 0) s shores),
    )

paid-below : (shores : List Weighted) (edges : List Edge) (counts : List ℕ) → AllByRecursion (λ x. halves_over shores x ≤ 2 * x.cost) edges →
    paid shores edges counts ≤ 2 * counts_cost edges counts
paid-below shores [] counts pack = omega (arith, paid-no_edges shores counts)
paid-below shores (x ∷ edges) [] pack = omega (arith, paid-no_counts shores x edges)
paid-below shores (x ∷ edges) (n ∷ counts) pack =
    omega (arith, paid-edge shores x edges n counts, mul-le-mul_left n pack.0, paid-below shores edges counts pack.1)

paid-above : (shores : List Weighted) (edges : List Edge) (counts : List ℕ) → AllByRecursion (λ s. 1 ≤ counts_over (is_in s.shore) edges counts) shores →
    all_halves shores ≤ paid shores edges counts
paid-above [] edges counts crossed = omega arith
paid-above (s ∷ shores) edges counts crossed = omega (arith, mul-le-mul_left (halves s) crossed.0, paid-above shores edges counts crossed.1, sum_by-cons halves s shores)

all_crossed : (p : Problem) (counts : List ℕ) (shores : List Weighted) → IsValid p → MakesEven p counts → AllByRecursion (λ s. required_crossings p (is_in s.shore) % 2 ≡ 1) shores →
    AllByRecursion (λ s. 1 ≤ counts_over (is_in s.shore) p.edges counts) shores
all_crossed p counts [] valid makes odd = tt
all_crossed p counts (s ∷ shores) valid makes odd =
    (omega (arith, even_over p counts (is_in s.shore) valid makes, odd.0), all_crossed p counts shores valid makes odd.1)

pub counts_pay : (p : Problem) (shores : List Weighted) (counts : List ℕ) → IsValid p → All (λ s. required_crossings p (is_in s.shore) % 2 ≡ 1) shores →
    Packs p shores → MakesEven p counts → all_halves shores ≤ 2 * join_cost p counts
counts_pay p shores counts valid odd packs makes =
    omega (
      arith,
      paid-above shores p.edges counts
          (all_crossed p counts shores valid makes (recursion_from_All (λ s. required_crossings p (is_in s.shore) % 2 ≡ 1) shores odd)),
      paid-below shores p.edges counts (by_number p (λ x. halves_over shores x ≤ 2 * x.cost) packs),
      join_cost-list p counts makes.one_each,
    )
