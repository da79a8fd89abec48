use Rattle.route_pricing.proofs.Shortening.{rows_more}
use Rattle.route_pricing.proofs.grid.Grid.write_legs.Goals as goal

pub loop-column-preserved : goal.loop-column-preserved
loop-column-preserved c = record {
  long = c.write_legs_to.ensures.long;
  done = rows_more c.args.self.now c.loop-column.column c.loop-column.legs c.write_legs_to.new.legs c.loop-column.invariant.done c.write_legs_to.ensures.row c.write_legs_to.ensures.others;
}
