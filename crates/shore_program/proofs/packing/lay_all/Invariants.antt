use Rattle.std.proofs.Common.{take}
use Rattle.shore_program.specs.Programs.{ListsNoMore}
use Rattle.shore_program.specs.Tableaus.{AreWeighted, LeavesRoom, shores_of}
use Rattle.shore_program.proofs.packing.lay_all.Given as goal

abbrev pub invariant-loop-place : goal.invariant-loop-place
invariant-loop-place l = record {
  room : LeavesRoom l.inst.edges l.rooms l.shores.items;
  weighted : AreWeighted l.inst l.cuts l.shores.items;
  once : ListsNoMore (shores_of (take l.place l.cuts)) l.shores.items;
}
