-- Vertices that are joined: the same from both ends, and over a third.
use Rattle.std.proofs.Common.{◌≡◌, ℕ, ◌≤◌, Bool, true, false, not, List, [], ◌∷◌, ◌++◌, refl, sym, ◌∙◌, subst}
use Rattle.std.specs.List.{AllByRecursion}
use Rattle.carp_base.specs.declared.edge.Edge.{Edge}
use Rattle.carp_base.specs.declared.edge.Task.{Task}
use Rattle.carp_base.specs.Problem.{Problem, IsEdgeNumber, TasksLead, edge_at, tail_of, head_of}
use Rattle.edge_components.specs.Parts.{parts_of}
use Rattle.edge_components.specs.Components.{AreJoined}

turned_tail : (x : Edge) (forward : Bool) → tail_of x (not forward) ≡ head_of x forward
turned_tail x true = refl
turned_tail x false = refl

turned_head : (x : Edge) (forward : Bool) → head_of x (not forward) ≡ tail_of x forward
turned_head x true = refl
turned_head x false = refl

module _ (p : Problem) (x : List ℕ) (least : ℕ) where
  leads_on : (a : ℕ) (first : List Task) (b : ℕ) (second : List Task) (c : ℕ) → TasksLead p a first b → TasksLead p b second c → TasksLead p a (first ++ second) c
  leads_on a [] b second c leads more = subst (λ v. TasksLead p v second c) (sym leads) more
  leads_on a (t ∷ first) b second c leads more = (leads.0, leads.1, leads_on (head_of (edge_at p t.edge) t.forward) first b second c leads.2 more)

  strong_on : (first second : List Task) → AllByRecursion (λ t. least ≤ parts_of x t.edge) first → AllByRecursion (λ t. least ≤ parts_of x t.edge) second →
      AllByRecursion (λ t. least ≤ parts_of x t.edge) (first ++ second)
  strong_on [] second one two = two
  strong_on (t ∷ first) second one two = (one.0, strong_on first second one.1 two)

  pub joined_itself : (a : ℕ) → AreJoined p x least a a
  joined_itself a = record { path = []; leads = refl; strong = tt }

  pub joined_over : (a b c : ℕ) → AreJoined p x least a b → AreJoined p x least b c → AreJoined p x least a c
  joined_over a b c one two = record {
    path = one.path ++ two.path;
    leads = leads_on a one.path b two.path c one.leads two.leads;
    strong = strong_on one.path two.path one.strong two.strong;
  }

  -- from the tail of a strong edge over it, and on
  pub joined_by : (e : ℕ) (forward : Bool) (a b : ℕ) → IsEdgeNumber p e → least ≤ parts_of x e → tail_of (edge_at p e) forward ≡ a →
      AreJoined p x least (head_of (edge_at p e) forward) b → AreJoined p x least a b
  joined_by e forward a b number strong tail rest = record {
    path = record { edge = e; forward = forward } ∷ rest.path;
    leads = (number, tail, rest.leads);
    strong = (strong, rest.strong);
  }

  back : (a : ℕ) (path : List Task) (b : ℕ) → TasksLead p a path b → AllByRecursion (λ t. least ≤ parts_of x t.edge) path → AreJoined p x least b a
  back a [] b leads strong = subst (λ v. AreJoined p x least v a) leads (joined_itself a)
  back a (t ∷ path) b leads strong =
      let head = head_of (edge_at p t.edge) t.forward in
      joined_over b head a (back head path b leads.2 strong.1)
      (joined_by t.edge (not t.forward) head a leads.0 strong.0 (turned_tail (edge_at p t.edge) t.forward)
      (subst (λ v. AreJoined p x least v a) (sym (turned_head (edge_at p t.edge) t.forward ∙ leads.1)) (joined_itself a)))

  pub joined_back : (a b : ℕ) → AreJoined p x least a b → AreJoined p x least b a
  joined_back a b joined = back a joined.path b joined.leads joined.strong

  -- along strong edges labels stay the same, where they stay the same over each
  pub same_along : (label : ℕ → ℕ) → ((v : ℕ) → 1 ≤ label v → (e : ℕ) (forward : Bool) → IsEdgeNumber p e → least ≤ parts_of x e → tail_of (edge_at p e) forward ≡ v →
      label (head_of (edge_at p e) forward) ≡ label v) → (a : ℕ) (path : List Task) (b : ℕ) → TasksLead p a path b →
      AllByRecursion (λ t. least ≤ parts_of x t.edge) path → 1 ≤ label a → label b ≡ label a
  same_along label closed a [] b leads strong one = subst (λ v. label v ≡ label a) leads refl
  same_along label closed a (t ∷ path) b leads strong one =
      let head = head_of (edge_at p t.edge) t.forward in
      let here : label head ≡ label a = closed a one t.edge t.forward leads.0 strong.0 leads.1 in
      same_along label closed head path b leads.2 strong.1 (subst (λ n. 1 ≤ n) (sym here) one) ∙ here
