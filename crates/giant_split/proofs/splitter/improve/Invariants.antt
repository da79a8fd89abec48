use Rattle.std.proofs.Common.{length}
use Rattle.task_tours.specs.Tours.{AreServedOnce}
use Rattle.giant_split.specs.Cutters.{IsCutterOf}
use Rattle.giant_split.proofs.splitter.improve.Given as goal

abbrev pub invariant-loop : goal.invariant-loop
invariant-loop l = record {
  order : AreServedOnce l.inst l.order;
  room : IsCutterOf (length l.order) l.cutter;
}
