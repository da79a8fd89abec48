-- Tours whose edges have an order, and the cheapest directions to cross them in (Beullens et al. 2003).
use Rattle.std.specs.Prelude.{◌≡◌, ℕ, ◌≤◌, List, map}
use Rattle.carp_base.specs.declared.edge.Task.{Task}
use Rattle.carp_base.specs.Problem.{Problem}
use Rattle.deadhead_paths.specs.Prices.{price_of, costs_of}
use Rattle.deadhead_paths.specs.Tours.{LeastDeadhead}

-- the tasks serve exactly these edges in this order, each in one direction
abbrev pub Directs : List ℕ → List Task → Type 0
Directs edges tasks = map (λ t. t.edge) tasks ≡ edges

-- the tasks serve the edges in their order, and no other choice of directions has a lesser deadhead from the depot and back, by cost
pub record IsCheapestDirected (p : Problem) (edges : List ℕ) (tasks : List Task) : Type 0 where
  pub directs : Directs edges tasks
  pub least : (other : List Task) (n m : ℕ) → Directs edges other → LeastDeadhead p (price_of (costs_of p)) p.depot tasks p.depot n →
      LeastDeadhead p (price_of (costs_of p)) p.depot other p.depot m → n ≤ m
