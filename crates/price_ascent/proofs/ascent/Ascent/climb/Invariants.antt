use Rattle.route_pricing.specs.Tables.{IsRoom}
use Rattle.price_ascent.specs.Ascents.{IsAscent}
use Rattle.price_ascent.proofs.ascent.Ascent.climb.Given as goal

abbrev pub invariant-loop-step : goal.invariant-loop-step
invariant-loop-step l = record {
  room : IsRoom l.problem.inst.now l.table;
  ascent : IsAscent l.problem.inst.now l.self;
}
