-- What `fleet` finds and writes.
use Rattle.std.specs.Prelude.{◌≡◌, ℕ, ◌<◌, ◌≤◌, ◌++◌, List, [], length, codes, decimal}
use Rattle.std.specs.List.{flat_map}
use Rattle.carp_base.specs.Problem.{Problem}
use Rattle.plan_model.specs.declared.step.Step.{Step}
use Rattle.plan_model.specs.Plans.{IsLawful}
use Rattle.task_tours.specs.Tours.{PlanGoesByLeastPaths}
use Rattle.plan_print.specs.Report.{gap_line, tours_text}
use Rattle.packing_trees.specs.declared.node.PackNode.{PackNode}
use Rattle.packing_trees.specs.declared.node.PackNode.TheVariants.{Pair, Share, Apart}
use Rattle.packing_trees.specs.declared.packing.Packing.{Packing}
use Rattle.fleet_pack.specs.Packed.{IsPacked, all_turns}
use Rattle.group_plans.specs.Groups.{ServesGroups, serving_walks}
use Rattle.plan_print.specs.NumberLines.{number_line}
use Rattle.command_outputs.specs.Outputs.{Output}
use Rattle.command_inputs.specs.declared.status.Status.{Status}
use Rattle.command_inputs.specs.declared.status.Status.TheVariants.{Proven, Gap}

-- the line of a node
unfoldable pub node_line : PackNode → List ℕ
node_line (Pair a b) = (codes "pair " ++ decimal a) ++ number_line (codes " ") b
node_line (Share s) = number_line (codes "share ") s
node_line Apart = codes "apart\n"

-- how many nodes, and their lines
unfoldable pub nodes_text : List PackNode → List ℕ
nodes_text nodes = number_line (codes "nodes ") (length nodes) ++ flat_map node_line nodes

-- how many vehicles, how many at least, the turns, and how far these are apart
unfoldable pub counts_text : (count bound turns : ℕ) → List ℕ
counts_text count bound turns =
    number_line (codes "fleet ") count ++ number_line (codes "bound ") bound ++ number_line (codes "turns ") turns ++ gap_line count bound

unfoldable pub fleet_text : Problem → List (List Step) → Packing → List ℕ
fleet_text p plan found = counts_text found.count found.bound found.turns ++ tours_text p plan ++ nodes_text found.tree.items

-- `Proven` only if the bound is the count, and `Gap` only if it is below and the turns of the tree are at least those that were asked for
pub record IsCountEnding (found : Packing) (asked : ℕ) (status : Status) : Type 0 where
  pub proven : status ≡ Proven → found.bound ≡ found.count
  pub gap : status ≡ Gap → (found.bound < found.count) × (asked ≤ found.turns)

-- A packing with a tree that proves its bound, and a lawful plan with a tour for each group: its tours, all of which serve and go by least paths, and the tree are to be written. Every lawful plan has
-- at least as many walks that serve as the bound says; if enough turns were asked for, none has fewer than the plan.
pub record IsFleetFound (p : Problem) (asked : ℕ) (status : Status) (output : Output) : Type 0 where
  pub found : Packing
  pub packed : IsPacked p asked found
  pub plan : List (List Step)
  pub lawful : IsLawful p plan
  pub serves : ServesGroups p found.groups.items found.count plan
  pub serving : serving_walks plan ≡ found.count
  pub paths : PlanGoesByLeastPaths p plan
  pub least : (other : List (List Step)) → IsLawful p other → found.bound ≤ serving_walks other
  pub ending : IsCountEnding found asked status
  pub whole : all_turns p ≤ asked → status ≡ Proven
  pub keeps : output.kept ≡ []
  pub writes : output.text ≡ fleet_text p plan found
