use Rattle.route_pricing.specs.Tables.{IsRoom}
use Rattle.column_generation.specs.Points.{IsGeneration}
use Rattle.column_generation.proofs.generation.Generation.go_on.Given as goal

abbrev pub invariant-turns : goal.invariant-turns
invariant-turns l = record {
  room : IsRoom l.problem.inst.now l.table;
  generation : IsGeneration l.problem.inst.now l.self;
}
