use Rattle.instance_edits.specs.Edits.{AreKnown}
use Rattle.instance_edits.specs.Examples.{some_edits, three_streets}
use Rattle.std.proofs.Common.{[], rules}
use Rattle.tree_transfer.proofs.SmallStreets.{valid_streets}
use Rattle.tree_transfer.proofs.examples.edits_that_raise.Goals as goal

pub returns : goal.returns
returns c =
    let known : AreKnown three_streets [] some_edits = search rules in
    c.edits_raise_instances.ensures three_streets some_edits valid_streets known
