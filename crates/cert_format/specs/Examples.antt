-- Small data for the tests. No public contract speaks of this.
use Rattle.std.specs.Prelude.{pos, List, [], ◌∷◌, Option, true, false}
use Rattle.plan_model.specs.declared.step.Step.{Step}
use Rattle.branch_rules.specs.declared.node.Node.TheVariants.{Price}
use Rattle.cert_lines.specs.declared.counts.Counts.{Counts}
use Rattle.cert_lines.specs.Certificates.{Certificate}

-- one tour that serves three streets, the last of them backward
abbrev pub triangle_plan : List (List Step)
triangle_plan =
    (record { edge = 1; forward = true; served = true }
    ∷ record { edge = 2; forward = true; served = true }
    ∷ record { edge = 3; forward = false; served = true }
    ∷ [])
    ∷ []

-- its certificate, with numbers of an instance or without
abbrev pub triangle : Option Counts → Certificate
triangle counts = record {
  counts = counts;
  cost = 16;
  bound = 16;
  plan = triangle_plan;
  shores = [];
  sets = record { unit = 1; services = pos 5 ∷ pos 7 ∷ pos 4 ∷ []; weights = []; groups = [] } ∷ [];
  nodes = Price 1 ∷ [];
}
