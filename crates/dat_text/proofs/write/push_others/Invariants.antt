use Rattle.std.proofs.Common.{◌≡◌, ◌++◌, take}
use Rattle.std.specs.List.{flat_map}
use Rattle.carp_base.specs.Problem.{other_edges}
use Rattle.dat_text.specs.DatText.{other_line}
use Rattle.dat_text.proofs.write.push_others.Given as goal

-- the lines of the edges so far are written
abbrev pub invariant-loop-edge : goal.invariant-loop-edge
invariant-loop-edge l = l.text.items ≡ l.fn.text.items ++ flat_map other_line (take l.edge-index (other_edges l.inst))
