use Rattle.std.proofs.Common.{◌≡◌, ℕ, ◌*◌, ◌<◌, ◌≤◌, length, take}
use Rattle.task_tours.specs.Tours.{IsStand, tour_load}
use Rattle.giant_split.specs.Legs.{IsLegAt, load_before, stand_before, way_before}
use Rattle.giant_split.proofs.legs.measure.Given as goal

abbrev pub invariant-loop-i : goal.invariant-loop-i
invariant-loop-i l = record {
  long : length l.legs ≡ length l.order;
  stand : IsStand l.inst l.at;
  at : l.at ≡ stand_before l.inst l.order l.i;
  way : l.way ≡ way_before l.legs l.i;
  way_small : l.way ≤ 999000000 * l.i;
  load : l.load ≡ tour_load l.inst (take l.i l.order);
  load_before : l.load ≡ load_before l.legs l.i;
  load_small : l.load ≤ 30000 * l.i;
  each : (k : ℕ) → k < l.i → IsLegAt l.inst l.order l.legs k;
}
