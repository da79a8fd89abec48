use Rattle.std.proofs.Common.{◌≡◌, ◌≤◌, ◌-◌, length, take}
use Rattle.cert_format.specs.declared.reader.Standing.TheVariants.{Going}
use Rattle.cert_format.specs.Reads.{ReadsTree}
use Rattle.cert_format.proofs.reading.read_nodes.Given as goal

abbrev pub invariant-loop-taken : goal.invariant-loop-taken
invariant-loop-taken l = record {
  within : l.taken ≤ length l.bytes;
  going : l.reader.standing ≡ Going;
  reads : ReadsTree l.reader l.tree (take l.taken l.bytes);
}

abbrev pub decreases-loop-taken : goal.decreases-loop-taken
decreases-loop-taken l = length l.bytes - l.taken
