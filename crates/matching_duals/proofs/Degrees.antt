-- The odd vertices: how their required edges are counted, and that the depot reaches them.
use Rattle.std.proofs.Common.{◌≡◌, ℕ, zero, suc, ◌%◌, ◌≤◌, ◌==◌, Bool, true, false, not, ◌||◌, cond, List, [], ◌∷◌, ◌++◌, length, take, get_or, min, refl, sym, ap, ◌∙◌, subst, arith, add-one, inl, inr}
use Rattle.std.specs.Prelude.{if◌then◌else◌, nat_le}
use Rattle.std.specs.List.{count_by, AllByRecursion}
use Rattle.std.proofs.lemmas.Bool.{cases_Bool, cases_lt, eqb-true, le-leb, lt-leb}
use Rattle.std.proofs.lemmas.List.Sums.{sum_by-cons, sum_by-append, sum_by_more, count_by_more_no}
use Rattle.std.proofs.Math.Nat.{min-eq_left, min-eq_right}
use Rattle.carp_base.specs.declared.edge.Edge.{Edge}
use Rattle.carp_base.specs.declared.edge.Task.{Task}
use Rattle.carp_base.specs.Problem.{Problem, IsValid, IsEdgeNumber, IsReached, TasksLead, edge_at, no_edge, required_edges, head_of}
use Rattle.plan_model.specs.declared.step.Step.{Step}
use Rattle.plan_model.specs.Plans.{Leads, crosses}
use Rattle.road_network.specs.Incidence.{has_end, incident_among, required_degree_of}
use Rattle.deadhead_paths.specs.Prices.{NoneLead}
use Rattle.matching_duals.specs.OddSets.{degree, is_odd}
use Rattle.matching_duals.proofs.Parity.{part, HasEnds, all_ends, all_take}
use Rattle.matching_duals.proofs.Distances.{Leads-append, back, leads_back}

one_end : (b c : Bool) → (b ≡ true → c ≡ true → ⊥) → (b || c) ≡ (if b then not c else c)
one_end true true none = absurd (none refl refl)
one_end true false none = refl
one_end false c none = refl

by_ends : (n v : ℕ) (edges : List Edge) → AllByRecursion (HasEnds n) edges → count_by (has_end v) edges ≡ count_by (crosses (λ w. w == v)) edges
by_ends n v [] ends = refl
by_ends n v (x ∷ edges) ends =
    omega (
      arith,
      sum_by-cons (λ y. cond (has_end v y) 1 0) x edges,
      sum_by-cons (λ y. cond (crosses (λ w. w == v) y) 1 0) x edges,
      ap (λ b. part b 1) (one_end (x.u == v) (x.v == v) (λ at_u at_v. ends.0.no_loop (eqb-true x.u v at_u ∙ sym (eqb-true x.v v at_v)))),
      by_ends n v edges ends.1,
    )

one_number : (b : Bool) (r k : ℕ) → count_by (λ e. nat_le e r) (if b then suc k ∷ [] else []) ≡ (if b then cond (nat_le (suc k) r) 1 0 else 0)
one_number true r k = omega arith
one_number false r k = refl

part_none : (b : Bool) → part b 0 ≡ 0
part_none true = refl
part_none false = refl

-- of the first k edges, those at the vertex whose number is at most r
among_first : (edges : List Edge) (r v k : ℕ) → k ≤ length edges →
    count_by (λ e. nat_le e r) (incident_among edges k v) ≡ count_by (has_end v) (take (min k r) edges)
among_first edges r v zero most = let e : min 0 r ≡ 0 = omega arith in rw e refl
among_first edges r v (suc k) most =
    let before = among_first edges r v k (omega (arith, most)) in
    let split = sum_by-append (λ e. cond (nat_le e r) 1 0) (incident_among edges k v) (if has_end v (get_or edges k no_edge) then suc k ∷ [] else []) in
    let last = one_number (has_end v (get_or edges k no_edge)) r k in
    elim (cases_lt k r) [
      | inl below ↦
          let more = rw add-one at (sum_by_more (λ y. cond (has_end v y) 1 0) edges k no_edge (omega (arith, most))) in
          let value = ap {B = ℕ} (λ b. if has_end v (get_or edges k no_edge) then cond b 1 0 else 0) (le-leb (suc k) r (omega (arith, below))) in
          rw (min-eq_left {n = suc k} {m = r} (omega (arith, below)))
          (omega (arith, split, last, value, more, before, ap {B = ℕ} (λ n. count_by (has_end v) (take n edges)) (min-eq_left {n = k} {m = r} (omega (arith, below)))))
      | inr past ↦
          let value = ap {B = ℕ} (λ b. if has_end v (get_or edges k no_edge) then cond b 1 0 else 0) (lt-leb (suc k) r (omega (arith, past))) in
          rw (min-eq_right {n = r} {m = suc k} (omega (arith, past)))
          (omega (arith, split, last, value, part_none (has_end v (get_or edges k no_edge)), before, ap {B = ℕ} (λ n. count_by (has_end v) (take n edges)) (min-eq_right {n = r} {m = k} past)))
    ]

pub degree_is : (p : Problem) (v : ℕ) → IsValid p → required_degree_of p v ≡ degree p v
degree_is p v valid =
    among_first p.edges p.required v (length p.edges) (omega arith)
    ∙ ap (λ n. count_by (has_end v) (take n p.edges)) (min-eq_right {n = p.required} {m = length p.edges} valid.required_in)
    ∙ by_ends p.vertices v (required_edges p) (all_take (HasEnds p.vertices) p.required p.edges (all_ends p valid))

-- a required edge that ends at an odd vertex
found_edge : (p : Problem) (v m : ℕ) → m ≤ length p.edges → 1 ≤ count_by (crosses (λ w. w == v)) (take m p.edges) →
    (e : ℕ) × (1 ≤ e) × (e ≤ m) × (crosses (λ w. w == v) (edge_at p e) ≡ true)
found_edge p v zero most some = absurd (omega (arith, some))
found_edge p v (suc m) most some = elim (cases_Bool (crosses (λ w. w == v) (edge_at p (suc m)))) [
  | inl there ↦ (suc m, omega arith, omega arith, there)
  | inr none ↦
      let same = rw add-one at (count_by_more_no (crosses (λ w. w == v)) p.edges m no_edge (omega (arith, most)) none) in
      let found = found_edge p v m (omega (arith, most)) (omega (arith, some, same)) in
      (found.0, found.1, omega (arith, found.2), found.3)
]

abbrev as_steps : List Task → List Step
as_steps [] = []
as_steps (t ∷ tasks) = record { edge = t.edge; forward = t.forward; served = false } ∷ as_steps tasks

leads_to : (p : Problem) (a b : ℕ) (tasks : List Task) → TasksLead p a tasks b → Leads p a (as_steps tasks) b
leads_to p a b [] leads = leads
leads_to p a b (t ∷ tasks) leads = (leads.0, leads.1, leads_to p (head_of (edge_at p t.edge) t.forward) b tasks leads.2)

-- steps from the depot to an odd vertex
from_depot : (p : Problem) (v : ℕ) → IsValid p → is_odd p v ≡ true → (steps : List Step) × Leads p p.depot steps v
from_depot p v valid odd =
    let is : degree p v % 2 ≡ 1 = eqb-true (degree p v % 2) 1 odd in
    let found = found_edge p v p.required valid.required_in (omega (arith, is)) in
    let e : ℕ = found.0 in
    let number : IsEdgeNumber p e = record { from_one = found.1; in_range = omega (arith, found.2, valid.required_in) } in
    let reached : IsReached p (edge_at p e).u = (valid.tasks e (record { from_one = found.1; in_range = found.2 })).reached in
    let first = leads_to p p.depot (edge_at p e).u reached.path reached.leads in
    elim (cases_Bool ((edge_at p e).u == v)) [
      | inl here ↦ (as_steps reached.path, subst (λ w. Leads p p.depot (as_steps reached.path) w) (eqb-true (edge_at p e).u v here) first)
      | inr none ↦
          let other : (edge_at p e).v ≡ v =
          eqb-true (edge_at p e).v v (sym (ap (λ b. if b then not ((edge_at p e).v == v) else ((edge_at p e).v == v)) none) ∙ found.3) in
          let s : Step = record { edge = e; forward = true; served = false } in
          (as_steps reached.path ++ s ∷ [], Leads-append p p.depot (as_steps reached.path) (s ∷ []) (edge_at p e).u v first (number, refl, other))
    ]

-- steps lead between two odd vertices
pub odd_are_linked : (p : Problem) (a b : ℕ) → IsValid p → is_odd p a ≡ true → is_odd p b ≡ true → ¬ (NoneLead p a b)
odd_are_linked p a b valid a_odd b_odd none =
    let one = from_depot p a valid a_odd in
    let two = from_depot p b valid b_odd in
    none (back one.0 ++ two.0) (Leads-append p a (back one.0) two.0 p.depot b (leads_back p p.depot a one.0 one.1) two.1)
