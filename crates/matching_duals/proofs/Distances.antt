-- Least costs are distances, as far as the packing speaks of them.
use Rattle.std.proofs.Common.{◌≡◌, ◌≢◌, ℕ, zero, suc, ◌+◌, ◌*◌, ◌%◌, ◌≤◌, ◌==◌, Bool, true, false, not, cond, eqb, List, [], ◌∷◌, ◌++◌, map, length, get_or, refl, subst, sym, ◌∙◌, arith, inl, inr}
use Rattle.std.specs.Prelude.{if◌then◌else◌}
use Rattle.std.specs.List.{sum_by, count_by, AllByRecursion}
use Rattle.std.proofs.lemmas.Bool.{cases_lt, eqb-true, ne_eqb}
use Rattle.std.proofs.lemmas.List.Sums.{sum_by-cons, sum_by-append, sum_by_push}
use Rattle.carp_base.specs.declared.edge.Edge.{Edge}
use Rattle.carp_base.specs.Problem.{Problem, IsValid, IsVertex, IsEdgeNumber, edge_at, no_edge, tail_of, head_of, required_edges}
use Rattle.plan_model.specs.declared.step.Step.{Step}
use Rattle.plan_model.specs.Plans.{Leads, crosses}
use Rattle.deadhead_paths.specs.Laws.{FewStepsAreLeast}
use Rattle.deadhead_paths.specs.Prices.{Priced, price_of, costs_of, NoneServed, Deadheads, IsLeastPrice}
use Rattle.matching_duals.specs.OddSets.{is_odd, degree, AreDistances}
use Rattle.matching_duals.specs.Paths.{far, reach, IsReach, AreReaches}
use Rattle.matching_duals.proofs.Parity.{part, HasEnds, all_ends, all_take}

-- an odd vertex is a vertex
none_at : (n v : ℕ) (edges : List Edge) → ((w : ℕ) → 1 ≤ w → w ≤ n → w ≢ v) → AllByRecursion (HasEnds n) edges → count_by (crosses (λ w. w == v)) edges ≡ 0
none_at n v [] other ends = refl
none_at n v (x ∷ edges) other ends =
    omega (
      arith,
      sum_by-cons (λ y. cond (crosses (λ w. w == v) y) 1 0) x edges,
      quiet (eqb x.u v) (eqb x.v v) (ne_eqb x.u v (other x.u ends.0.u_one ends.0.u_in)) (ne_eqb x.v v (other x.v ends.0.v_one ends.0.v_in)),
      none_at n v edges other ends.1,
    )
  where
    quiet : (b c : Bool) → b ≡ false → c ≡ false → part (if b then not c else c) 1 ≡ 0
    quiet true c first second = cc
    quiet false true first second = cc
    quiet false false first second = refl

pub odd_vertex : (p : Problem) (v : ℕ) → IsValid p → is_odd p v ≡ true → IsVertex p v
odd_vertex p v valid odd =
    let is : degree p v % 2 ≡ 1 = eqb-true (degree p v % 2) 1 odd in
    let ends = all_take (HasEnds p.vertices) p.required p.edges (all_ends p valid) in
    record {
      from_one = elim (cases_lt v 1) [
        | inl less ↦ absurd (omega (arith, is, none_at p.vertices v (required_edges p) (λ w one below same. omega (arith, one, same, less)) ends))
        | inr more ↦ more
      ];
      in_range = elim (cases_lt p.vertices v) [
        | inl less ↦ absurd (omega (arith, is, none_at p.vertices v (required_edges p) (λ w one below same. omega (arith, below, same, less)) ends))
        | inr more ↦ more
      ];
    }

pub Leads-append : (p : Problem) (a : ℕ) (first second : List Step) (b c : ℕ) → Leads p a first b → Leads p b second c → Leads p a (first ++ second) c
Leads-append p a [] second b c first_leads second_leads = rw first_leads second_leads
Leads-append p a (s ∷ first) second b c first_leads second_leads =
    (first_leads.0, first_leads.1, Leads-append p (head_of (edge_at p s.edge) s.forward) first second b c first_leads.2 second_leads)

cost_at : (edges : List Edge) (k : ℕ) → get_or (map (λ x. x.cost) edges) k 0 ≡ (get_or edges k no_edge).cost
cost_at [] k = refl
cost_at (x ∷ edges) zero = refl
cost_at (x ∷ edges) (suc k) = cost_at edges k

-- the price of an edge is its cost
pub cost_price : (p : Problem) (e : ℕ) → price_of (costs_of p) e ≡ (edge_at p e).cost
cost_price p zero = refl
cost_price p (suc k) = cost_at p.edges k

-- steps the other way round
abbrev pub turned : Step → Step
turned s = record s { forward = not s.forward }

abbrev pub back : List Step → List Step
back [] = []
back (s ∷ steps) = back steps ++ turned s ∷ []

turned_ends : (x : Edge) (f : Bool) → (tail_of x (not f) ≡ head_of x f) × (head_of x (not f) ≡ tail_of x f)
turned_ends x true = (refl, refl)
turned_ends x false = (refl, refl)

pub leads_back : (p : Problem) (a b : ℕ) (steps : List Step) → Leads p a steps b → Leads p b (back steps) a
leads_back p a b [] leads = sym leads
leads_back p a b (s ∷ steps) leads =
    let ends = turned_ends (edge_at p s.edge) s.forward in
    Leads-append p b (back steps) (turned s ∷ []) (head_of (edge_at p s.edge) s.forward) a (leads_back p (head_of (edge_at p s.edge) s.forward) b steps leads.2)
    (leads.0, ends.0, ends.1 ∙ leads.1)

price_back : (q : ℕ → ℕ) (steps : List Step) → sum_by (λ s. q s.edge) (back steps) ≡ sum_by (λ s. q s.edge) steps
price_back q [] = refl
price_back q (s ∷ steps) = omega (arith, sum_by_push (λ s. q s.edge) (back steps) (turned s), sum_by-cons (λ s. q s.edge) s steps, price_back q steps)

unserved_append : (xs ys : List Step) → NoneServed xs → NoneServed ys → NoneServed (xs ++ ys)
unserved_append [] ys first second = second
unserved_append (s ∷ xs) ys first second = (first.0, unserved_append xs ys first.1 second)

unserved_back : (steps : List Step) → NoneServed steps → NoneServed (back steps)
unserved_back [] none = tt
unserved_back (s ∷ steps) none = unserved_append (back steps) (turned s ∷ []) (unserved_back steps none.1) (none.0, tt)

-- a distance of the table is one of the instance
pub distance_of : (p : Problem) (x : Priced) (a b n : ℕ) → x.problem ≡ p → x.prices ≡ costs_of p → IsLeastPrice x.problem (price_of x.prices) a b n →
    IsLeastPrice p (price_of (costs_of p)) a b n
distance_of p x a b n problem_is prices_are least =
    subst (λ prices. IsLeastPrice p (price_of prices) a b n) prices_are (subst (λ q. IsLeastPrice q (price_of x.prices) a b n) problem_is least)

-- few steps cost little
few_cost : (p : Problem) (a b : ℕ) (steps : List Step) → IsValid p → Leads p a steps b → sum_by (λ s. price_of (costs_of p) s.edge) steps ≤ length steps * 1000000
few_cost p a b [] valid leads = omega arith
few_cost p a b (s ∷ steps) valid leads =
    omega (
      arith,
      sum_by-cons (λ t. price_of (costs_of p) t.edge) s steps,
      few_cost p (head_of (edge_at p s.edge) s.forward) b steps valid leads.2,
      cost_price p s.edge,
      (valid.edges s.edge leads.0).cost_in,
    )

pub distance_small : FewStepsAreLeast → (p : Problem) (a b n : ℕ) → IsValid p → IsLeastPrice p (price_of (costs_of p)) a b n → n ≤ far
distance_small few p a b n valid is =
    let short = few p valid (price_of (costs_of p)) a b n is in
    let reached = short.1 in
    omega (arith, reached.costs, few_cost p a b short.0 valid reached.leads, short.2, valid.few_vertices)

module _ (p : Problem) (table : List ℕ) (valid : IsValid p) (are : AreReaches p table) where
  abbrev d : ℕ → ℕ → ℕ
  d = reach p table

  abbrev q : ℕ → ℕ
  q = price_of (costs_of p)

  abbrev Told : ℕ → ℕ → Type 0
  Told v x = IsReach p v x (d v x)

  -- a number is no more than what any steps cost
  at_most : (v x n : ℕ) (steps : List Step) → Told v x → Deadheads p q v x n steps → d v x ≤ n
  at_most v x n steps (inl is) leads = is.least n steps leads
  at_most v x n steps (inr none) leads = absurd (none.1 steps leads.leads)

  meet : (u v x : ℕ) → Told u v → d u v ≤ far → Told u x → Told v x → d u v ≤ d u x + d v x
  meet u v x at most (inl first) (inl second) =
      let one = first.steps in
      let two = second.steps in
      at_most u v (d u x + d v x) (one ++ back two) at (record {
        unserved = unserved_append one (back two) first.reached.unserved (unserved_back two second.reached.unserved);
        leads = Leads-append p u one (back two) x v first.reached.leads (leads_back p v x two second.reached.leads);
        costs = omega (arith, sum_by-append (λ s. q s.edge) one (back two), price_back q two, first.reached.costs, second.reached.costs);
      })
  meet u v x at most (inr none) second = omega (arith, most, none.0)
  meet u v x at most (inl first) (inr none) = omega (arith, most, none.0)

  along : (v e : ℕ) (forward : Bool) → IsEdgeNumber p e → Told v (head_of (edge_at p e) forward) → d v (head_of (edge_at p e) forward) ≤ far →
      Told v (tail_of (edge_at p e) forward) → d v (head_of (edge_at p e) forward) ≤ d v (tail_of (edge_at p e) forward) + (edge_at p e).cost
  along v e forward number at most (inl is) =
      let s : Step = record { edge = e; forward = forward; served = false } in
      at_most v (head_of (edge_at p e) forward) (d v (tail_of (edge_at p e) forward) + (edge_at p e).cost) (is.steps ++ s ∷ []) at (record {
        unserved = unserved_append is.steps (s ∷ []) is.reached.unserved (refl, tt);
        leads = Leads-append p v is.steps (s ∷ []) (tail_of (edge_at p e) forward) (head_of (edge_at p e) forward) is.reached.leads (number, refl, refl);
        costs = omega (arith, sum_by_push (λ s. q s.edge) is.steps s, is.reached.costs, cost_price p e);
      })
  along v e forward number at most (inr none) = omega (arith, most, none.0)

  most : (v x : ℕ) → d v x ≤ far
  most v x = are.small (x * (p.vertices + 1) + v)

  pub reaches_are_distances : AreDistances p d
  reaches_are_distances = record {
    same = λ v odd.
        let vertex = odd_vertex p v valid odd in
        let zero_at = at_most v v 0 [] (are.each v v vertex vertex) (record { unserved = tt; leads = refl; costs = refl }) in
        omega (arith, zero_at);
    meet = λ u v x u_odd v_odd x_in.
        let u_in = odd_vertex p u valid u_odd in
        let v_in = odd_vertex p v valid v_odd in
        meet u v x (are.each u v u_in v_in) (most u v) (are.each u x u_in x_in) (are.each v x v_in x_in);
    forth = λ v e odd number.
        let fine = valid.edges e number in
        let vertex = odd_vertex p v valid odd in
        along v e true number (are.each v _ vertex fine.v_in) (most v _) (are.each v _ vertex fine.u_in);
    back = λ v e odd number.
        let fine = valid.edges e number in
        let vertex = odd_vertex p v valid odd in
        along v e false number (are.each v _ vertex fine.u_in) (most v _) (are.each v _ vertex fine.v_in);
  }
