-- Where a tour can stand there are least prices to where one can stand.
use Rattle.std.proofs.Common.{◌≡◌, ℕ, ◌*◌, ◌≤◌, zero, suc, Bool, true, false, inl, inr, List, [], ◌∷◌, length, refl, sym, ap, arith, subst}
use Rattle.std.specs.Prelude.{Option, None, Some, IsSome, MatchOption}
use Rattle.std.specs.List.{sum_by}
use Rattle.std.proofs.lemmas.List.{get_or-map}
use Rattle.std.proofs.lemmas.List.Sums.{sum_by-cons}
use Rattle.carp_base.specs.declared.edge.Edge.{Edge}
use Rattle.carp_base.specs.declared.edge.Task.{Task}
use Rattle.carp_base.specs.Problem.{Problem, IsValid, IsRequired, IsVertex, IsEdgeNumber, edge_at, no_edge, tail_of, head_of}
use Rattle.plan_model.specs.declared.step.Step.{Step}
use Rattle.plan_model.specs.Plans.{Leads}
use Rattle.deadhead_paths.specs.Prices.{Priced, IsLeastPrice, NoneLead, edge_price, price_of, costs_of}
use Rattle.deadhead_paths.specs.Laws.{LeastDeadheadIsThere, FewStepsAreLeast}
use Rattle.task_tours.specs.Tours.{IsStand}

module _ (p : Problem) (valid : IsValid p) where
  pub required_number : (e : ℕ) → IsRequired p e → IsEdgeNumber p e
  required_number e required = record { from_one = required.from_one; in_range = omega (arith, required.in_range, valid.required_in) }

  pub stand_in : (at : ℕ) → IsStand p at → IsVertex p at
  stand_in at (inl depot) = subst (IsVertex p) (sym depot) valid.depot_in
  stand_in at (inr end) = subst (IsVertex p) (sym end.2) (one end.0.forward)
    where
      one : (b : Bool) → IsVertex p (head_of (edge_at p end.0.edge) b)
      one true = (valid.edges end.0.edge (required_number end.0.edge end.1)).v_in
      one false = (valid.edges end.0.edge (required_number end.0.edge end.1)).u_in

  -- the task that leads the other way ends where this one starts
  turned_end : (t : Task) → (forward : Bool) → t.forward ≡ forward → (u : Task) × (u.edge ≡ t.edge) × (tail_of (edge_at p u.edge) u.forward ≡ head_of (edge_at p t.edge) t.forward)
  turned_end t true is = (record { edge = t.edge; forward = false }, refl, ap (λ b. head_of (edge_at p t.edge) b) (sym is))
  turned_end t false is = (record { edge = t.edge; forward = true }, refl, ap (λ b. head_of (edge_at p t.edge) b) (sym is))

  module _ (there : LeastDeadheadIsThere) (q : ℕ → ℕ) where
    -- from the depot to the end of a task, and from the end of a task to the depot
    out_to : (t : Task) → IsRequired p t.edge → (n : ℕ) × IsLeastPrice p q p.depot (head_of (edge_at p t.edge) t.forward) n
    out_to t required =
        let u = turned_end t t.forward refl in
        let way = there p valid q (u.0 ∷ []) (subst (IsRequired p) (sym u.1) required, tt) in
        (way.1.0, subst (λ v. IsLeastPrice p q p.depot v way.1.0) u.2 way.1.2)

    home_from : (t : Task) → IsRequired p t.edge → (n : ℕ) × IsLeastPrice p q (head_of (edge_at p t.edge) t.forward) p.depot n
    home_from t required = let way = there p valid q (t ∷ []) (required, tt) in (way.1.1, way.1.3)

    between : (t u : Task) → IsRequired p t.edge → IsRequired p u.edge → (n : ℕ) × IsLeastPrice p q (head_of (edge_at p t.edge) t.forward) (head_of (edge_at p u.edge) u.forward) n
    between t u first second =
        let w = turned_end u u.forward refl in
        let way = there p valid q (t ∷ w.0 ∷ []) (first, (subst (IsRequired p) (sym w.1) second, tt)) in
        (way.1.3.0, subst (λ v. IsLeastPrice p q (head_of (edge_at p t.edge) t.forward) v way.1.3.0) w.2 way.1.3.2)

    stay : (n : ℕ) × IsLeastPrice p q p.depot p.depot n
    stay = there p valid q [] tt

    pub stands_linked : (a b : ℕ) → IsStand p a → IsStand p b → (n : ℕ) × IsLeastPrice p q a b n
    stands_linked a b (inl from) (inl to) = (stay.0, rw (from, to) stay.1)
    stands_linked a b (inl from) (inr to) = let way = out_to to.0 to.1 in (way.0, rw (from, to.2) way.1)
    stands_linked a b (inr from) (inl to) = let way = home_from from.0 from.1 in (way.0, rw (from.2, to) way.1)
    stands_linked a b (inr from) (inr to) = let way = between from.0 to.0 from.1 to.1 in (way.0, rw (from.2, to.2) way.1)

-- the price of an edge by cost
pub cost_price : (p : Problem) (e : ℕ) → IsEdgeNumber p e → price_of (costs_of p) e ≡ (edge_at p e).cost
cost_price p zero number = absurd (omega (arith, number.from_one))
cost_price p (suc k) number = get_or-map (λ (x : Edge). x.cost) p.edges k no_edge 0 (omega (arith, number.in_range))

-- a list of steps costs at most a million a step
steps_cost : (p : Problem) → IsValid p → (a b : ℕ) (steps : List Step) → Leads p a steps b → sum_by (λ s. price_of (costs_of p) s.edge) steps ≤ 1000000 * length steps
steps_cost p valid a b [] leads = omega arith
steps_cost p valid a b (s ∷ steps) leads =
    omega (
      arith,
      sum_by-cons (λ x. price_of (costs_of p) x.edge) s steps,
      cost_price p s.edge leads.0,
      (valid.edges s.edge leads.0).cost_in,
      steps_cost p valid (head_of (edge_at p s.edge) s.forward) b steps leads.2,
    )

pub small_cost : (few : FewStepsAreLeast) (p : Problem) → IsValid p → (a b n : ℕ) → IsLeastPrice p (price_of (costs_of p)) a b n → n ≤ 999000000
small_cost few p valid a b n least =
    let way = few p valid (price_of (costs_of p)) a b n least in
    omega (arith, way.1.costs, way.2, valid.few_vertices, steps_cost p valid a b way.0 way.1.leads)

-- a least price that was looked for
pub some_price : (p y : Problem) (q r : ℕ → ℕ) (a b : ℕ) (found : Option ℕ) → y ≡ p → MatchOption found (NoneLead y a b) (λ n. IsLeastPrice y r a b n) → (n : ℕ) → IsLeastPrice p q a b n → IsSome found
some_price p y q r a b None same none n least = absurd (none least.steps (subst (λ x. Leads x a least.steps b) (sym same) least.reached.leads))
some_price p y q r a b (Some m) same found n least = refl

pub price_is : (p : Problem) (x : Priced) → x.problem ≡ p → x.prices ≡ costs_of p → (a b : ℕ) (found : Option ℕ) →
    MatchOption found (NoneLead x.problem a b) (λ n. IsLeastPrice x.problem (edge_price x) a b n) → (n : ℕ) → found ≡ Some n → IsLeastPrice p (price_of (costs_of p)) a b n
price_is p x problem prices a b found least n is =
    let given : IsLeastPrice x.problem (edge_price x) a b n = subst (λ f. MatchOption f (NoneLead x.problem a b) (λ k. IsLeastPrice x.problem (edge_price x) a b k)) is least in
    rw (problem, prices) at given

-- steps lead from where a tour can stand to where one can stand
pub not_apart : (p y : Problem) → y ≡ p → (q : ℕ → ℕ) (a b n : ℕ) → IsLeastPrice p q a b n → NoneLead y a b → ⊥
not_apart p y same q a b n least none = none least.steps (subst (λ x. Leads x a least.steps b) (sym same) least.reached.leads)
