-- What `solve` writes.
use Rattle.std.specs.Prelude.{ℕ, ◌+◌, ◌-◌, ◌++◌, ◌∷◌, [], List, length, codes, decimal, if◌then◌else◌, ◌==◌}
use Rattle.std.specs.List.{flat_map}
use Rattle.carp_base.specs.Problem.{Problem, edge_at, head_of, total_demand}
use Rattle.plan_model.specs.declared.step.Step.{Step}
use Rattle.plan_model.specs.Plans.{walk_cost, walk_load}
use Rattle.cert_lines.specs.Certificates.{Certificate}
use Rattle.plan_print.specs.NumberLines.{number_line}

-- `=` for a step that serves and `-` for one that does not, and the vertex that it reaches
abbrev pub crossing_text : Problem → Step → List ℕ
crossing_text p s = (if s.served then codes "=" else codes "-") ++ decimal (head_of (edge_at p s.edge) s.forward)

-- a route is the depot and then each crossing
unfoldable pub route_text : Problem → List Step → List ℕ
route_text p walk = decimal p.depot ++ flat_map (crossing_text p) walk

-- the line of the tour of a number
unfoldable pub tour_line : Problem → ℕ → List Step → List ℕ
tour_line p i walk =
    codes "tour " ++ decimal i ++ codes " load " ++ decimal (walk_load p walk) ++ codes " cost " ++ decimal (walk_cost p walk)
    ++ codes " route " ++ route_text p walk ++ codes "\n"

-- the lines of the tours, numbered from i
abbrev pub tour_lines : Problem → ℕ → List (List Step) → List ℕ
tour_lines p i [] = []
tour_lines p i (walk ∷ walks) = tour_line p i walk ++ tour_lines p (i + 1) walks

-- `proven` where the bound is the cost, else how far it lies below
unfoldable pub gap_line : ℕ → ℕ → List ℕ
gap_line cost bound = if bound == cost then codes "proven\n" else number_line (codes "open gap ") (cost - bound)

unfoldable pub instance_line : Problem → List ℕ
instance_line p =
    codes "instance vertices " ++ decimal p.vertices ++ codes " edges " ++ decimal (length p.edges)
    ++ codes " required " ++ decimal p.required ++ codes " capacity " ++ decimal p.capacity ++ number_line (codes " demand ") (total_demand p)

unfoldable pub result_lines : Certificate → ℕ → List ℕ
result_lines c turns =
    number_line (codes "cost ") c.cost ++ number_line (codes "bound ") c.bound ++ number_line (codes "turns ") turns ++ gap_line c.cost c.bound

-- how many tours there are, and the lines of the tours
unfoldable pub tours_text : Problem → List (List Step) → List ℕ
tours_text p plan = number_line (codes "tours ") (length plan) ++ tour_lines p 1 plan

-- the report of an instance, a certificate and its turns
abbrev pub report_text : Problem → Certificate → ℕ → List ℕ
report_text p c turns = instance_line p ++ result_lines c turns ++ tours_text p c.plan
