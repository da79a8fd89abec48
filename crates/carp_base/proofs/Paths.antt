-- Paths from the depot, and the arcs of edges.
use Rattle.std.proofs.Common.{◌≡◌, ℕ, ◌+◌, ◌-◌, ◌*◌, ◌/◌, ◌%◌, ◌<◌, ◌≤◌, ◌==◌, Bool, true, false, List, [], ◌∷◌, ◌++◌, length, get_or, refl, arith, sym, subst, ◌∙◌, ap}
use Rattle.std.proofs.lemmas.Bool.Decides.{nat_tests}
use Rattle.carp_base.specs.declared.edge.Edge.{Edge}
use Rattle.carp_base.specs.declared.edge.Task.{Task}
use Rattle.carp_base.specs.Problem.{Problem, IsEdgeNumber, IsReached, TasksLead, edge_at, no_edge, tail_of, head_of}
use Rattle.carp_base.specs.Checks.{IsClear}
use Rattle.carp_base.specs.Search.{arc_tail, arc_head, EndsWithin, IsMarked, IsSearch, LeadsToMarks, MarksReached}
use Rattle.carp_base.proofs.Ends.{small_ends}
use Rattle.carp_base.proofs.Numbers.{edge_after, edge_before}

tasks_more : (p : Problem) (a b : ℕ) (ts : List Task) (t : Task) → TasksLead p a ts b → IsEdgeNumber p t.edge → tail_of (edge_at p t.edge) t.forward ≡ b →
    TasksLead p a (ts ++ t ∷ []) (head_of (edge_at p t.edge) t.forward)
tasks_more p a b [] t leads number tail = (number, tail ∙ sym leads, refl)
tasks_more p a b (s ∷ ts) t leads number tail =
    (leads.0, leads.1, tasks_more p (head_of (edge_at p s.edge) s.forward) b ts t leads.2 number tail)

-- who crosses an arc from a vertex that is reached, reaches the other end
pub reached_more : (p : Problem) (v arc : ℕ) → IsReached p v → arc < 2 * length p.edges → arc_tail p.edges arc ≡ v → IsReached p (arc_head p.edges arc)
reached_more p v arc reached below leaves =
    let there = edge_after p (arc / 2) in
    let t : Task = record { edge = arc / 2 + 1; forward = arc % 2 == 0 } in
    let tail : tail_of (edge_at p t.edge) t.forward ≡ v = rw there leaves in
    let head : head_of (edge_at p t.edge) t.forward ≡ arc_head p.edges arc = rw there refl in
    let P : ℕ → Type 0 = IsReached p in
    subst P head (record {
      path = reached.path ++ t ∷ [];
      leads = tasks_more p p.depot v reached.path t reached.leads (record { from_one = omega arith; in_range = omega (arith, below) }) tail;
    })

-- the arc that crosses an edge in a direction
arc_of : (e : ℕ) (forward : Bool) → ℕ
arc_of e true = 2 * (e - 1)
arc_of e false = 2 * (e - 1) + 1

arc_of-below : (e n : ℕ) (forward : Bool) → 1 ≤ e → e ≤ n → arc_of e forward < 2 * n
unfolding arc_of
arc_of-below e n true from_one within = omega (arith, from_one, within)
arc_of-below e n false from_one within = omega (arith, from_one, within)

arc_tail-arc_of : (edges : List Edge) (e : ℕ) (forward : Bool) → arc_tail edges (arc_of e forward) ≡ tail_of (get_or edges (e - 1) no_edge) forward
unfolding arc_of
arc_tail-arc_of edges e true =
    let half : 2 * (e - 1) / 2 ≡ e - 1 = omega arith in
    let even : (2 * (e - 1) % 2 == 0) ≡ true = grind (arith, nat_tests) in
    rw (half, even) refl
arc_tail-arc_of edges e false =
    let half : (2 * (e - 1) + 1) / 2 ≡ e - 1 = omega arith in
    let odd : ((2 * (e - 1) + 1) % 2 == 0) ≡ false = grind (arith, nat_tests) in
    rw (half, odd) refl

arc_head-arc_of : (edges : List Edge) (e : ℕ) (forward : Bool) → arc_head edges (arc_of e forward) ≡ head_of (get_or edges (e - 1) no_edge) forward
unfolding arc_of
arc_head-arc_of edges e true =
    let half : 2 * (e - 1) / 2 ≡ e - 1 = omega arith in
    let even : (2 * (e - 1) % 2 == 0) ≡ true = grind (arith, nat_tests) in
    rw (half, even) refl
arc_head-arc_of edges e false =
    let half : (2 * (e - 1) + 1) / 2 ≡ e - 1 = omega arith in
    let odd : ((2 * (e - 1) + 1) % 2 == 0) ≡ false = grind (arith, nat_tests) in
    rw (half, odd) refl

-- no path leaves a set of marks that no arc leaves
pub path_marked : (p : Problem) (marks : List Bool) → ((v : ℕ) → IsMarked marks v → LeadsToMarks p.edges v marks) →
    (a : ℕ) (ts : List Task) (v : ℕ) → IsMarked marks a → TasksLead p a ts v → IsMarked marks v
path_marked p marks closed a [] v marked leads = let P : ℕ → Type 0 = IsMarked marks in subst P leads marked
path_marked p marks closed a (t ∷ ts) v marked leads =
    let arc = arc_of t.edge t.forward in
    let there = edge_before p t.edge leads.0.from_one in
    let P : ℕ → Type 0 = IsMarked marks in
    let next =
    closed a marked arc (arc_of-below t.edge (length p.edges) t.forward leads.0.from_one leads.0.in_range)
    (arc_tail-arc_of p.edges t.edge t.forward ∙ ap (λ x. tail_of x t.forward) (sym there) ∙ leads.1) in
    path_marked p marks closed (head_of (edge_at p t.edge) t.forward) ts v
    (subst P (arc_head-arc_of p.edges t.edge t.forward ∙ ap (λ x. head_of x t.forward) (sym there)) next) leads.2

end_within : (x : Edge) (forward : Bool) (n : ℕ) → x.u ≤ n → x.v ≤ n → (tail_of x forward ≤ n) × (head_of x forward ≤ n)
end_within x true n u v = (u, v)
end_within x false n u v = (v, u)

-- where no end is out of range, the ends of the arcs are vertices
pub ends_within : (p : Problem) → IsClear p 4 → EndsWithin p.edges p.vertices
ends_within p clear arc below =
    let small = rw (edge_after p (arc / 2)) at (small_ends p (arc / 2 + 1) clear (record { from_one = omega arith; in_range = omega (arith, below) })) in
    end_within (get_or p.edges (arc / 2) no_edge) (arc % 2 == 0) p.vertices small.0 small.1

-- where each vertex that is found leads to marked vertices alone, the search is at its end
pub search_ends : (p : Problem) (marks : List Bool) (order : List ℕ) → IsSearch p marks order → IsMarked marks p.depot →
    ((k : ℕ) → k < length order → LeadsToMarks p.edges (get_or order k 0) marks) → MarksReached p marks
search_ends p marks order search depot closed = record {
  long = search.long;
  reached = λ v marked. let at = search.found v marked in let P : ℕ → Type 0 = IsReached p in subst P at.2 (search.reached at.0 at.1);
  all = λ v reached.
      path_marked p marks
      (λ w marked. let at = search.found w marked in let P : ℕ → Type 0 = λ n. LeadsToMarks p.edges n marks in subst P at.2 (closed at.0 at.1))
      p.depot reached.path v depot reached.leads;
}
