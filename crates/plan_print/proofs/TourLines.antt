-- The lines of the first tours, and that a lawful plan keeps to the edges of its instance.
use Rattle.std.proofs.Common.{◌≡◌, ℕ, zero, suc, ◌+◌, ◌<◌, List, [], ◌∷◌, ◌++◌, length, take, sym, arith, add-one, append_assoc, append-nil}
use Rattle.carp_base.specs.Problem.{Problem, IsEdgeNumber, edge_at, head_of}
use Rattle.plan_model.specs.declared.step.Step.{Step}
use Rattle.plan_model.specs.Plans.{IsLawful, IsLawfulWalk, IsOnEdges, Leads, walk_at}
use Rattle.std.specs.List.{AllByRecursion}
use Rattle.plan_print.specs.Report.{tour_line, tour_lines}

tour_lines-take-suc : (p : Problem) (k i : ℕ) (walks : List (List Step)) → i < length walks →
    tour_lines p k (take (suc i) walks) ≡ tour_lines p k (take i walks) ++ tour_line p (k + i) (walk_at walks i)
tour_lines-take-suc p k i [] below = absurd (omega arith)
tour_lines-take-suc p k zero (walk ∷ walks) below = let e : k + 0 ≡ k = omega arith in rw e (append-nil _)
tour_lines-take-suc p k (suc i) (walk ∷ walks) below =
    let e : k + suc i ≡ (k + 1) + i = omega arith in
    rw (e, tour_lines-take-suc p (k + 1) i walks (omega arith)) (sym (append_assoc (tour_line p k walk) _ _))

pub tour_lines-take : (p : Problem) (k i : ℕ) (walks : List (List Step)) → i < length walks →
    tour_lines p k (take (i + 1) walks) ≡ tour_lines p k (take i walks) ++ tour_line p (k + i) (walk_at walks i)
tour_lines-take p k i walks below = rw add-one (tour_lines-take-suc p k i walks below)

on_edges-cons : (p : Problem) (s : Step) (steps : List Step) → IsEdgeNumber p s.edge → IsOnEdges p steps → IsOnEdges p (s ∷ steps)
on_edges-cons p s steps here rest zero d below = here
on_edges-cons p s steps here rest (suc k) d below = rest k d (omega arith)

-- a list of steps that leads anywhere is on edges of the instance
leads_on_edges : (p : Problem) (steps : List Step) (a b : ℕ) → Leads p a steps b → IsOnEdges p steps
leads_on_edges p [] a b leads = λ k d below. absurd (omega arith)
leads_on_edges p (s ∷ steps) a b leads = on_edges-cons p s steps leads.0 (leads_on_edges p steps (head_of (edge_at p s.edge) s.forward) b leads.2)

-- each walk of a lawful plan is on edges of the instance
walks_on_edges : (p : Problem) (walks : List (List Step)) → AllByRecursion (IsLawfulWalk p) walks → (i : ℕ) → i < length walks → IsOnEdges p (walk_at walks i)
walks_on_edges p [] all i below = absurd (omega arith)
walks_on_edges p (walk ∷ walks) all zero below = leads_on_edges p walk p.depot p.depot all.0.leads
walks_on_edges p (walk ∷ walks) all (suc i) below = walks_on_edges p walks all.1 i (omega arith)

pub lawful_on_edges : (p : Problem) (plan : List (List Step)) → IsLawful p plan → (i : ℕ) → i < length plan → IsOnEdges p (walk_at plan i)
lawful_on_edges p plan lawful = walks_on_edges p plan lawful.walks
