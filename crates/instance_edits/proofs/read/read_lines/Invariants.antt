use Rattle.std.proofs.Common.{◌≡◌, ◌+◌, length}
use Rattle.instance_edits.specs.Texts.{BeginsWith}
use Rattle.instance_edits.specs.Reading.{MarksClosedEdges}
use Rattle.instance_edits.proofs.read.read_lines.Given as goal

abbrev pub invariant-loop-rest : goal.invariant-loop-rest
invariant-loop-rest l = record { begun : BeginsWith l.fn.inst l.fn.bytes l.edits.items l.rest; marked : MarksClosedEdges l.closed l.edits.items; all : length l.closed ≡ length l.fn.inst.edges + 1 }

abbrev pub decreases-loop-rest : goal.decreases-loop-rest
decreases-loop-rest l = length l.rest
