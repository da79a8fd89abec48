-- Steps that lead from one vertex to another, turned round, and ways through the depot.
use Rattle.std.proofs.Common.{◌≡◌, ℕ, ◌+◌, ◌≤◌, Bool, true, false, not, List, [], ◌∷◌, ◌++◌, refl, sym, ◌∙◌, arith, subst}
use Rattle.std.specs.List.{sum_by}
use Rattle.std.proofs.lemmas.List.Sums.{sum_by-cons, sum_by-append, sum_by_push}
use Rattle.carp_base.specs.Problem.{Problem, IsValid, IsRequired, IsEdgeNumber, TasksLead, edge_at, tail_of, head_of}
use Rattle.carp_base.specs.declared.edge.Task.{Task}
use Rattle.plan_model.specs.Plans.{Leads}
use Rattle.plan_model.specs.declared.step.Step.{Step}
use Rattle.deadhead_paths.specs.Prices.{NoneServed, Deadheads, NoneLead}
use Rattle.deadhead_paths.proofs.Following.{Leads-more, NoneServed-more}
use Rattle.deadhead_paths.proofs.Joining.{Leads-append}
use Rattle.deadhead_paths.proofs.Plans.{AllByRecursion-append}

-- some steps lead from a to b
pub record HasWay (p : Problem) (a b : ℕ) : Type 0 where
  pub steps : List Step
  pub leads : Leads p a steps b

-- a step the other way round, and steps from the last to the first
abbrev turned : Step → Step
turned s = record { edge = s.edge; forward = not s.forward; served = s.served }

abbrev turned_round : List Step → List Step
turned_round [] = []
turned_round (s ∷ steps) = turned_round steps ++ turned s ∷ []

turned_tail : (p : Problem) (s : Step) → tail_of (edge_at p s.edge) (not s.forward) ≡ head_of (edge_at p s.edge) s.forward
turned_tail p s = one s.forward
  where
    one : (b : Bool) → tail_of (edge_at p s.edge) (not b) ≡ head_of (edge_at p s.edge) b
    one true = refl
    one false = refl

turned_head : (p : Problem) (s : Step) → head_of (edge_at p s.edge) (not s.forward) ≡ tail_of (edge_at p s.edge) s.forward
turned_head p s = one s.forward
  where
    one : (b : Bool) → head_of (edge_at p s.edge) (not b) ≡ tail_of (edge_at p s.edge) b
    one true = refl
    one false = refl

turned_leads : (p : Problem) (steps : List Step) (a b : ℕ) → Leads p a steps b → Leads p b (turned_round steps) a
turned_leads p [] a b leads = sym leads
turned_leads p (s ∷ steps) a b leads =
    let rest = turned_leads p steps (head_of (edge_at p s.edge) s.forward) b leads.2 in
    subst (Leads p b (turned_round steps ++ turned s ∷ [])) (turned_head p s ∙ leads.1)
    (Leads-more p b (turned_round steps) (turned s) (head_of (edge_at p s.edge) s.forward) rest leads.0 (turned_tail p s))

turned_unserved : (steps : List Step) → NoneServed steps → NoneServed (turned_round steps)
turned_unserved [] none = tt
turned_unserved (s ∷ steps) none = NoneServed-more (turned_round steps) (turned s) (turned_unserved steps none.1) none.0

turned_price : (q : ℕ → ℕ) (steps : List Step) → sum_by (λ s. q s.edge) (turned_round steps) ≡ sum_by (λ s. q s.edge) steps
turned_price q [] = refl
turned_price q (s ∷ steps) =
    omega (arith, sum_by_push (λ x. q x.edge) (turned_round steps) (turned s), sum_by-cons (λ x. q x.edge) s steps, turned_price q steps)

pub turned_deadheads : (p : Problem) (q : ℕ → ℕ) (a b n : ℕ) (steps : List Step) → Deadheads p q a b n steps → Deadheads p q b a n (turned_round steps)
turned_deadheads p q a b n steps there = record {
  unserved = turned_unserved steps there.unserved;
  leads = turned_leads p steps a b there.leads;
  costs = there.costs ∙ sym (turned_price q steps);
}

pub joined_deadheads : (p : Problem) (q : ℕ → ℕ) (a b c m n : ℕ) (xs ys : List Step) → Deadheads p q a b m xs → Deadheads p q b c n ys → (k : ℕ) × Deadheads p q a c k (xs ++ ys) × (k ≤ m + n)
joined_deadheads p q a b c m n xs ys first second = (
  sum_by (λ s. q s.edge) (xs ++ ys),
  record {
    unserved = AllByRecursion-append (λ s. s.served ≡ false) xs ys first.unserved second.unserved;
    leads = Leads-append p a xs ys b c first.leads second.leads;
    costs = refl;
  },
  omega (arith, sum_by-append (λ s. q s.edge) xs ys, first.costs, second.costs),
)

-- ways turned round, and joined
pub back_way : (p : Problem) (a b : ℕ) → HasWay p a b → HasWay p b a
back_way p a b way = record { steps = turned_round way.steps; leads = turned_leads p way.steps a b way.leads }

pub joined_way : (p : Problem) (a b c : ℕ) → HasWay p a b → HasWay p b c → HasWay p a c
joined_way p a b c first second = record { steps = first.steps ++ second.steps; leads = Leads-append p a first.steps second.steps b c first.leads second.leads }

-- the crossings of tasks, as steps
abbrev crossings : List Task → List Step
crossings [] = []
crossings (t ∷ ts) = record { edge = t.edge; forward = t.forward; served = false } ∷ crossings ts

crossings_lead : (p : Problem) (ts : List Task) (a b : ℕ) → TasksLead p a ts b → Leads p a (crossings ts) b
crossings_lead p [] a b leads = leads
crossings_lead p (t ∷ ts) a b leads = (leads.0, leads.1, crossings_lead p ts (head_of (edge_at p t.edge) t.forward) b leads.2)

-- from the depot there are ways to both ends of a required edge
module _ (p : Problem) (valid : IsValid p) (e : ℕ) (required : IsRequired p e) where
  pub required_number : IsEdgeNumber p e
  required_number = record { from_one = required.from_one; in_range = omega (arith, required.in_range, valid.required_in) }

  way_out : HasWay p p.depot (edge_at p e).u
  way_out =
      let reached = (valid.tasks e required).reached in
      record { steps = crossings reached.path; leads = crossings_lead p reached.path p.depot (edge_at p e).u reached.leads }

  way_over : HasWay p (edge_at p e).u (edge_at p e).v
  way_over = record { steps = record { edge = e; forward = true; served = false } ∷ []; leads = (required_number, refl, refl) }

  pub way_to_tail : (forward : Bool) → HasWay p p.depot (tail_of (edge_at p e) forward)
  way_to_tail true = way_out
  way_to_tail false = joined_way p p.depot (edge_at p e).u (edge_at p e).v way_out way_over

  pub way_to_head : (forward : Bool) → HasWay p p.depot (head_of (edge_at p e) forward)
  way_to_head true = way_to_tail false
  way_to_head false = way_out

  -- so steps lead there, and home
  pub linked_out : (a : ℕ) (forward : Bool) → a ≡ p.depot → NoneLead p a (tail_of (edge_at p e) forward) → ⊥
  linked_out a forward at_depot none =
      let way = way_to_tail forward in
      none way.steps (subst (λ v. Leads p v way.steps (tail_of (edge_at p e) forward)) (sym at_depot) way.leads)

  pub linked_home : (a b : ℕ) (forward : Bool) → a ≡ head_of (edge_at p e) forward → b ≡ p.depot → NoneLead p a b → ⊥
  linked_home a b forward at_head at_depot none =
      let way = back_way p p.depot (head_of (edge_at p e) forward) (way_to_head forward) in
      none way.steps (subst (λ v. Leads p v way.steps b) (sym at_head) (subst (Leads p (head_of (edge_at p e) forward) way.steps) (sym at_depot) way.leads))
