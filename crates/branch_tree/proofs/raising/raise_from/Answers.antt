use Rattle.branch_tree.proofs.Groups.{at_number, raised_from}
use Rattle.branch_tree.proofs.raising.raise_from.Goals as goal

pub returns-clause-raised : goal.returns-clause-raised
returns-clause-raised g c =
    let start = c.index-sets-aim.result in
    let begins = c.requires.begins in
    let same = at_number c.args.sets.now c.args.aim.number start begins.from_one begins.to_last c.index-sets-aim.is in
    raised_from c.args.leaf.now.inst.now c.args.pool.now c.args.leaf.now.branch.now c.args.sets.now c.args.aim.number c.raise_with.new.pool start c.raise_with.result same
    c.unit.ensures.fine.some_unit c.raise_with.ensures.tight c.raise_with.ensures.no_lower c.raise_with.ensures.groups c.raise_with.ensures.short_groups c.raise_with.ensures.shores
