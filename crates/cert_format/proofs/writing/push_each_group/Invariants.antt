use Rattle.std.proofs.Common.{◌≡◌, ◌++◌, take}
use Rattle.std.specs.List.{flat_map}
use Rattle.cert_format.specs.Pieces.{group_piece}
use Rattle.cert_format.proofs.writing.push_each_group.Given as goal

-- those so far are written
abbrev pub invariant-loop-group : goal.invariant-loop-group
invariant-loop-group l = l.text.items ≡ l.fn.text.items ++ flat_map group_piece (take l.group-index l.groups)
