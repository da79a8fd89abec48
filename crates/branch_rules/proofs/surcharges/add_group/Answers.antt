use Rattle.std.specs.Int.{w64}
use Rattle.std.proofs.Common.{◌∙◌, rules}
use Rattle.std.proofs.lemmas.Int.{to_z-of_z}
use Rattle.branch_rules.proofs.Adding.{bonds_added}
use Rattle.branch_rules.proofs.surcharges.add_group.Goals as goal

pub returns-clause-added : goal.returns-clause-added
returns-clause-added c =
    bonds_added c.args.required c.edges.result.now c.args.group.now.edges _ c.args.group.now.weight c.args.table.now c.add_members.new.table c.edges.ensures.value
    (to_z-of_z w64 c.weight.result (search rules) ∙ c.weight.ensures.value) c.edges.ensures.fine.rising c.add_members.ensures
