-- Steps of a raised instance are steps of the old one, and no cheaper.
use Rattle.std.proofs.Common.{◌≡◌, ℕ, ◌≤◌, Bool, true, false, List, [], ◌∷◌, map, refl, sym, subst, ◌∙◌, arith}
use Rattle.std.specs.Prelude.{sum_by, if◌then◌else◌}
use Rattle.std.proofs.lemmas.List.Sums.{sum_by-cons}
use Rattle.carp_base.specs.declared.edge.Edge.{Edge}
use Rattle.carp_base.specs.Problem.{Problem, IsEdgeNumber, IsRequired, edge_at, head_of, tail_of}
use Rattle.plan_model.specs.Plans.{Leads, step_cost, walk_cost}
use Rattle.plan_model.specs.declared.step.Step.{Step}
use Rattle.deadhead_paths.specs.Prices.{NoneServed, IsLeastPrice}
use Rattle.tree_transfer.specs.Raised.{IsNoCheaper, IsRaised}

pub tail_same : (x y : Edge) (forward : Bool) → IsNoCheaper x y → tail_of x forward ≡ tail_of y forward
tail_same x y true less = sym less.u_same
tail_same x y false less = sym less.v_same

pub head_same : (x y : Edge) (forward : Bool) → IsNoCheaper x y → head_of x forward ≡ head_of y forward
head_same x y true less = sym less.v_same
head_same x y false less = sym less.u_same

crossing_less : (served : Bool) (x y : Edge) → IsNoCheaper x y → (if served then x.service else x.cost) ≤ (if served then y.service else y.cost)
crossing_less true x y less = less.service
crossing_less false x y less = less.cost

-- a step, by the number that its edge had
abbrev pub moved : (ℕ → ℕ) → Step → Step
moved number s = record { edge = number s.edge; forward = s.forward; served = s.served }

module _ (old new : Problem) (raised : IsRaised old new) where
  -- a required edge keeps its number
  pub required_less : (e : ℕ) → IsEdgeNumber new e → IsRequired new e → IsNoCheaper (edge_at old e) (edge_at new e)
  required_less e number required = subst (λ d. IsNoCheaper (edge_at old d) (edge_at new e)) (raised.same e required) (raised.edges e number)

  pub leads_there : (a b : ℕ) (steps : List Step) → Leads new a steps b → Leads old a (map (moved raised.number) steps) b
  leads_there a b [] leads = leads
  leads_there a b (s ∷ steps) leads =
      let less = raised.edges s.edge leads.0 in (
        raised.inside s.edge leads.0,
        tail_same (edge_at old (raised.number s.edge)) (edge_at new s.edge) s.forward less ∙ leads.1,
        subst (λ v. Leads old v (map (moved raised.number) steps) b) (sym (head_same (edge_at old (raised.number s.edge)) (edge_at new s.edge) s.forward less))
            (leads_there (head_of (edge_at new s.edge) s.forward) b steps leads.2),
      )

  pub cost_there : (a b : ℕ) (steps : List Step) → Leads new a steps b → walk_cost old (map (moved raised.number) steps) ≤ walk_cost new steps
  cost_there a b [] leads = omega arith
  cost_there a b (s ∷ steps) leads = omega (
    arith,
    sum_by-cons (step_cost old) (moved raised.number s) (map (moved raised.number) steps),
    sum_by-cons (step_cost new) s steps,
    crossing_less s.served (edge_at old (raised.number s.edge)) (edge_at new s.edge) (raised.edges s.edge leads.0),
    cost_there (head_of (edge_at new s.edge) s.forward) b steps leads.2,
  )

  none_there : (steps : List Step) → NoneServed steps → NoneServed (map (moved raised.number) steps)
  none_there [] none = tt
  none_there (s ∷ steps) none = (none.0, none_there steps none.1)

  module _ (q r : ℕ → ℕ) (dearer : (e : ℕ) → IsEdgeNumber new e → q (raised.number e) ≤ r e) where
    price_there : (a b : ℕ) (steps : List Step) → Leads new a steps b → sum_by (λ s. q s.edge) (map (moved raised.number) steps) ≤ sum_by (λ s. r s.edge) steps
    price_there a b [] leads = omega arith
    price_there a b (s ∷ steps) leads = omega (
      arith,
      sum_by-cons (λ (x : Step). q x.edge) (moved raised.number s) (map (moved raised.number) steps),
      sum_by-cons (λ (x : Step). r x.edge) s steps,
      dearer s.edge leads.0,
      price_there (head_of (edge_at new s.edge) s.forward) b steps leads.2,
    )

    -- a least price is no less
    pub least_there : (a b k m : ℕ) → IsLeastPrice old q a b k → IsLeastPrice new r a b m → k ≤ m
    least_there a b k m one other =
        let found =
        one.least (sum_by (λ s. q s.edge) (map (moved raised.number) other.steps)) (map (moved raised.number) other.steps)
        (record { unserved = none_there other.steps other.reached.unserved; leads = leads_there a b other.steps other.reached.leads; costs = refl }) in
        omega (arith, found, other.reached.costs, price_there a b other.steps other.reached.leads)
