-- What `postman` writes.
use Rattle.std.specs.Prelude.{ℕ, ◌++◌, List, codes}
use Rattle.carp_base.specs.Problem.{Problem}
use Rattle.plan_model.specs.declared.step.Step.{Step}
use Rattle.plan_print.specs.Report.{route_text}
use Rattle.postman.specs.Rounds.{deadheads_in}
use Rattle.plan_print.specs.NumberLines.{number_line}

-- the cost of a round, how many of its steps are deadheads, and its route
unfoldable pub round_text : Problem → List Step → (cost : ℕ) → List ℕ
round_text p walk cost =
    number_line (codes "postman cost ") cost ++ number_line (codes "deadheads ") (deadheads_in walk) ++ codes "route " ++ route_text p walk ++ codes "\n"
