use Rattle.std.proofs.Common.{◌≡◌, ℕ, ◌+◌, ◌*◌, ◌<◌, ◌≤◌, length, slice_index, arith, ap, subst, sym, ◌∙◌}
use Rattle.route_pricing.specs.Partial.{IsLeastJoin, column_task, width}
use Rattle.route_pricing.specs.Legs.{IsLegRow, IsShortRow, IsSum}
use Rattle.route_pricing.proofs.Shortening.{least_small, row_join}
use Rattle.route_pricing.proofs.grid.Grid.best_in_row.Goals as goal

-- what was found in the row, with the place where the legs begin as the definitions say it
record Found (c : goal.After-from) : Type 0 where
  long : length c.deref.result.now ≡ width c.args.self.now
  row : IsShortRow c.args.self.now c.args.load c.args.least (width c.args.self.now) c.deref.result.now
  legs : IsLegRow c.args.self.now c.args.column (width c.args.self.now) c.deref-2.result.now
  sum : IsSum c.deref.result.now c.deref-2.result.now (c.args.column * width c.args.self.now) c.least_sum-above.result
  most : (b : ℕ) → b < length c.deref.result.now → c.least_sum-above.result ≤ slice_index c.deref.result.now b + slice_index c.deref-2.result.now (c.args.column * width c.args.self.now + b)

found : (c : goal.After-from) → Found c
found c =
    let g = c.args.self.now in
    let row = c.deref.result.now in
    let legs = c.deref-2.result.now in
    let n = c.least_sum-above.result in
    let from : c.args.column * c.width.result ≡ c.args.column * width g = ap (λ k. c.args.column * k) c.width.ensures in
    record {
      long = ap length c.deref.ensures.value ∙ c.requires.rooms.row_long;
      row = subst (IsShortRow g c.args.load c.args.least (width g)) (sym c.deref.ensures.value) c.requires.row;
      legs = subst (IsLegRow g c.args.column (width g)) (sym c.deref-2.ensures.value) c.requires.legs;
      sum = subst (λ k. IsSum row legs k n) from (c.least_sum-above.ensures.attained c.if-above-lt-FAR.true);
      most = subst (λ k. (b : ℕ) → b < length row → n ≤ slice_index row b + slice_index legs (k + b)) from c.least_sum-above.ensures.least;
    }

pub overflow_add-result : goal.overflow_add-result
overflow_add-result c =
    let f = found c in
    omega (
      arith,
      c.from.ensures,
      c.if-above-lt-FAR.true,
      least_small c.args.self.now c.requires.grid c.args.load c.args.least c.args.column c.deref.result.now c.deref-2.result.now f.long c.requires.load f.row f.legs c.least_sum-above.result c.if-above-lt-FAR.true f.sum f.most,
    )

pub returns-then-above-lt-FAR : goal.returns-then-above-lt-FAR
returns-then-above-lt-FAR c =
    let f = found c in
    subst (λ n. IsLeastJoin c.args.self.now c.args.load (column_task c.args.column) (c.args.least + n)) (sym c.from.ensures)
    (row_join c.args.self.now c.requires.grid c.args.load c.args.least c.args.column c.deref.result.now c.deref-2.result.now f.long c.requires.load f.row f.legs c.least_sum-above.result c.if-above-lt-FAR.true f.sum f.most)
