-- What a packing and its tree claim.
use Rattle.packing_trees.specs.declared.packing.Packing.{Packing}
use Rattle.packing_trees.specs.Reasons.{Claim}

-- a packing as plain data; its turns are not read
abbrev pub claim_of : Packing → Claim
claim_of c = record { groups = c.groups.items; count = c.count; bound = c.bound; nodes = c.tree.items }
