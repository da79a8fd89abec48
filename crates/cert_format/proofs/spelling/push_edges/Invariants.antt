use Rattle.std.proofs.Common.{◌≡◌, ◌++◌, take}
use Rattle.std.specs.List.{flat_map}
use Rattle.cert_format.specs.Pieces.{number_piece}
use Rattle.cert_format.proofs.spelling.push_edges.Given as goal

-- those so far are written
abbrev pub invariant-loop-edge : goal.invariant-loop-edge
invariant-loop-edge l = l.text.items ≡ l.fn.text.items ++ flat_map number_piece (take l.edge-index l.edges)
