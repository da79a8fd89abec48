-- Least prices: backward, of nothing, one after another, and street by street.
use Rattle.std.proofs.Common.{◌≡◌, ℕ, ◌+◌, ◌≤◌, Bool, true, false, not, List, [], ◌∷◌, ◌++◌, refl, sym, ◌∙◌, arith, subst}
use Rattle.std.specs.List.{sum_by}
use Rattle.std.proofs.lemmas.List.Sums.{sum_by-cons}
use Rattle.carp_base.specs.declared.edge.Task.{Task}
use Rattle.carp_base.specs.declared.edge.Edge.{Edge}
use Rattle.carp_base.specs.Problem.{Problem, IsReached, IsEdgeNumber, TasksLead, edge_at, tail_of, head_of}
use Rattle.plan_model.specs.Plans.{Leads}
use Rattle.plan_model.specs.declared.step.Step.{Step}
use Rattle.deadhead_paths.specs.Prices.{IsLeastPrice, Deadheads, NoneServed}
use Rattle.route_pricing.specs.declared.grid.Grid.{Grid}
use Rattle.route_pricing.specs.Partial.{between, crossed, IsLedBy}
use Rattle.route_pricing.proofs.PartialTours.{leads_more}

pub tail_not : (e : Edge) (f : Bool) → tail_of e (not f) ≡ head_of e f
tail_not e true = refl
tail_not e false = refl

pub head_not : (e : Edge) (f : Bool) → head_of e (not f) ≡ tail_of e f
head_not e true = refl
head_not e false = refl

-- steps backward
record Backward (p : Problem) (q : ℕ → ℕ) (b c total : ℕ) : Type 0 where
  pub steps : List Step
  pub unserved : NoneServed steps
  pub leads : Leads p b steps c
  pub costs : sum_by (λ (s : Step). q s.edge) steps ≡ total

backward : (p : Problem) (q : ℕ → ℕ) (a b c : ℕ) (steps more : List Step) → Leads p a steps b → Leads p a more c → NoneServed more →
    Backward p q b c (sum_by (λ (s : Step). q s.edge) steps + sum_by (λ (s : Step). q s.edge) more)
backward p q a b c [] more leads go free = record { steps = more; unserved = free; leads = subst (λ v. Leads p v more c) leads go; costs = omega arith }
backward p q a b c (s ∷ steps) more leads go free =
    let t : Step = record { edge = s.edge; forward = not s.forward; served = false } in
    let x = edge_at p s.edge in
    let go' : Leads p (head_of x s.forward) (t ∷ more) c = (leads.0, tail_not x s.forward, subst (λ v. Leads p v more c) (sym (head_not x s.forward ∙ leads.1)) go) in
    let r = backward p q (head_of x s.forward) b c steps (t ∷ more) leads.2 go' (refl, free) in
    record {
      steps = r.steps;
      unserved = r.unserved;
      leads = r.leads;
      costs = omega (arith, r.costs, sum_by-cons (λ (y : Step). q y.edge) s steps, sum_by-cons (λ (y : Step). q y.edge) t more);
    }

deadheads_back : (p : Problem) (q : ℕ → ℕ) (a b n : ℕ) (steps : List Step) → Deadheads p q a b n steps → (back : List Step) × Deadheads p q b a n back
deadheads_back p q a b n steps d =
    let r = backward p q a b a steps [] d.leads refl tt in
    (r.steps, record { unserved = r.unserved; leads = r.leads; costs = omega (arith, r.costs, d.costs) })

pub least_back : (p : Problem) (q : ℕ → ℕ) (a b m n : ℕ) → IsLeastPrice p q a b m → IsLeastPrice p q b a n → m ≡ n
least_back p q a b m n x y =
    let there = deadheads_back p q a b m x.steps x.reached in
    let here = deadheads_back p q b a n y.steps y.reached in
    omega (arith, x.least n here.0 here.1, y.least m there.0 there.1)

-- nothing leads from a vertex to itself
pub least_stay : (p : Problem) (q : ℕ → ℕ) (a n : ℕ) → IsLeastPrice p q a a n → n ≡ 0
least_stay p q a n x = omega (arith, x.least 0 [] (record { unserved = tt; leads = refl; costs = refl }))

-- steps one after another
after : (p : Problem) (q : ℕ → ℕ) (a b c m n : ℕ) (steps more : List Step) → Deadheads p q a b m steps → Deadheads p q b c n more → (all : List Step) × Deadheads p q a c (m + n) all
after p q a b c m n [] more d e = (more, record { unserved = e.unserved; leads = subst (λ v. Leads p v more c) (sym d.leads) e.leads; costs = omega (arith, d.costs, e.costs) })
after p q a b c m n (s ∷ steps) more d e =
    let rest : Deadheads p q (head_of (edge_at p s.edge) s.forward) b (sum_by (λ (y : Step). q y.edge) steps) steps = record { unserved = d.unserved.1; leads = d.leads.2; costs = refl } in
    let r = after p q (head_of (edge_at p s.edge) s.forward) b c _ n steps more rest e in (
      s ∷ r.0,
      record {
        unserved = (d.unserved.0, r.1.unserved);
        leads = (d.leads.0, d.leads.1, r.1.leads);
        costs = omega (arith, d.costs, r.1.costs, sum_by-cons (λ (y : Step). q y.edge) s steps, sum_by-cons (λ (y : Step). q y.edge) s r.0);
      },
    )

pub least_triangle : (p : Problem) (q : ℕ → ℕ) (a b c m n k : ℕ) → IsLeastPrice p q a b m → IsLeastPrice p q b c n → IsLeastPrice p q a c k → k ≤ m + n
least_triangle p q a b c m n k x y z =
    let all = after p q a b c m n x.steps y.steps x.reached y.reached in
    z.least (m + n) all.0 all.1

-- a least way street by street
module _ (g : Grid) (q : ℕ → ℕ) (least : (a b : ℕ) → IsReached g.inst a → IsReached g.inst b → IsLeastPrice g.inst q a b (between g a b)) where
  street_most : (s : Step) → IsEdgeNumber g.inst s.edge → s.served ≡ false → IsReached g.inst (tail_of (edge_at g.inst s.edge) s.forward) → IsReached g.inst (head_of (edge_at g.inst s.edge) s.forward) →
      between g (tail_of (edge_at g.inst s.edge) s.forward) (head_of (edge_at g.inst s.edge) s.forward) ≤ q s.edge
  street_most s number unserved tail head =
      (least (tail_of (edge_at g.inst s.edge) s.forward) (head_of (edge_at g.inst s.edge) s.forward) tail head).least (q s.edge) (s ∷ [])
      (record { unserved = (unserved, tt); leads = (number, refl, refl); costs = omega (arith, sum_by-cons (λ (y : Step). q y.edge) s []) })

  along : (steps : List Step) (a b : ℕ) → IsReached g.inst a → Leads g.inst a steps b → NoneServed steps → (path : List Task) × TasksLead g.inst a path b × (crossed g path ≤ sum_by (λ (y : Step). q y.edge) steps)
  along [] a b a_in leads free = ([], leads, omega arith)
  along (s ∷ steps) a b a_in leads free =
      let tail = subst (IsReached g.inst) (sym leads.1) a_in in
      let head : IsReached g.inst (head_of (edge_at g.inst s.edge) s.forward) =
      record { path = tail.path ++ record { edge = s.edge; forward = s.forward } ∷ []; leads = leads_more g.inst g.inst.depot (tail_of (edge_at g.inst s.edge) s.forward) tail.path (record { edge = s.edge; forward = s.forward }) tail.leads leads.0 refl } in
      let rest = along steps (head_of (edge_at g.inst s.edge) s.forward) b head leads.2 free.1 in (
        record { edge = s.edge; forward = s.forward } ∷ rest.0,
        (leads.0, leads.1, rest.1),
        omega (arith, rest.2, street_most s leads.0 free.0 tail head, sum_by-cons (λ (y : Step). q y.edge) s steps),
      )

  pub least_led : (a b : ℕ) → IsReached g.inst a → IsReached g.inst b → IsLedBy g a b
  least_led a b a_in b_in =
      let x = least a b a_in b_in in
      let r = along x.steps a b a_in x.reached.leads x.reached.unserved in
      record { path = r.0; leads = r.1; most = omega (arith, r.2, x.reached.costs) }
