use Rattle.std.proofs.Common.{◌≡◌, ◌++◌, slice_index_or, false}
use Rattle.blossom_match.specs.Unfolded.{listed}
use Rattle.blossom_match.proofs.picking.list_members.Given as goal

abbrev pub invariant-loop-v : goal.invariant-loop-v
invariant-loop-v l = l.members.items ≡ l.fn.members.items ++ listed l.v (λ v. slice_index_or l.row v false)
