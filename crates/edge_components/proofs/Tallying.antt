-- Sums over the edges so far, one edge more.
use Rattle.std.proofs.Common.{◌≡◌, ℕ, zero, suc, ◌+◌, ◌-◌, ◌≤◌, Bool, true, false, List, length, take, get_or, refl, sym, ap, ◌∙◌, add-one, arith, inl, inr}
use Rattle.std.specs.Prelude.{if◌then◌else◌}
use Rattle.std.specs.List.{sum_by, All}
use Rattle.std.proofs.lemmas.List.{get_or_default}
use Rattle.std.proofs.lemmas.Bool.{cases_lt}
use Rattle.std.proofs.lemmas.List.Sums.{sum_by_more}
use Rattle.carp_base.specs.declared.edge.Edge.{Edge}
use Rattle.carp_base.specs.Problem.{Problem, IsValid, IsEdgeNumber, edge_at, no_edge}
use Rattle.plan_model.specs.Sums.{sum_to}
use Rattle.edge_components.specs.Parts.{parts_of, AreParts}

edge_read : (p : Problem) (e : ℕ) → 1 ≤ e → edge_at p e ≡ get_or p.edges (e - 1) no_edge
edge_read p zero one = absurd (omega (arith, one))
edge_read p (suc k) one = let is : suc k - 1 ≡ k = omega arith in rw is refl

pub one_more : (p : Problem) (g : Edge → ℕ) (e : ℕ) → 1 ≤ e → e ≤ length p.edges →
    sum_by g (take (e + 1 - 1) p.edges) ≡ sum_by g (take (e - 1) p.edges) + g (edge_at p e)
one_more p g e one most =
    let next : e + 1 - 1 ≡ e - 1 + 1 = omega (arith, one) in
    ap (λ k. sum_by g (take k p.edges)) next
    ∙ sum_by_more g p.edges (e - 1) no_edge (omega (arith, one, most))
    ∙ ap (λ y. sum_by g (take (e - 1) p.edges) + g y) (sym (edge_read p e one))

-- a demand fits in a vehicle
pub demand_small : (p : Problem) (e : ℕ) → IsValid p → IsEdgeNumber p e → (edge_at p e).demand ≤ 30000
demand_small p e valid number = elim (cases_lt p.required e) [
  | inl other ↦ omega (arith, (valid.idle e number other).no_demand)
  | inr required ↦ omega (arith, (valid.tasks e (record { from_one = number.from_one; in_range = required })).demand_fits, valid.capacity_in)
]

pub part_most : (b : Bool) (n : ℕ) → (if b then n else 0) ≤ n
part_most true n = omega arith
part_most false n = omega arith

pub sum_next : (g : ℕ → ℕ) (i : ℕ) → sum_to (i + 1) g ≡ sum_to i g + g (i + 1)
sum_next g i = rw add-one refl

-- the parts at a place are those of the next number
pub parts_next : (x : List ℕ) (i : ℕ) → parts_of x (i + 1) ≡ get_or x i 0
parts_next x i = rw add-one refl

-- small numbers, one for each edge, are parts
pub parts_from : (p : Problem) (x : List ℕ) → length x ≡ length p.edges → All (λ n. n ≤ 1000000000000) x → AreParts p x
parts_from p x long small = record { one_each = long; small = each }
  where
    each : (e : ℕ) → IsEdgeNumber p e → parts_of x e ≤ 1000000000000
    each zero number = omega arith
    each (suc k) number = small k 0 (omega (arith, number.in_range, long))

pub parts_to : (p : Problem) (x : List ℕ) → AreParts p x → All (λ n. n ≤ 1000000000000) x
parts_to p x are k d below =
    let least : get_or x k 0 ≤ 1000000000000 = are.small (suc k) (record { from_one = omega arith; in_range = omega (arith, below, are.one_each) }) in
    omega (arith, get_or_default x k d 0 below, least)
