-- Legs and values in 64 bits, and the least join that they show.
use Rattle.std.proofs.Common.{◌≡◌, ◌≢◌, ℕ, ◌+◌, ◌*◌, ◌^◌, ◌<◌, ◌≤◌, List, true, length, slice_index, slice_set, get_or, sym, ap, ◌∙◌, arith, inl, inr, subst}
use Rattle.std.proofs.lemmas.Bool.{cases_eq}
use Rattle.std.proofs.lemmas.List.{get_or-set_same, get_or-set_other}
use Rattle.std.proofs.Math.Nat.{mul-le-mul_right}
use Rattle.carp_base.specs.declared.edge.Task.{Task}
use Rattle.route_pricing.specs.declared.grid.Grid.{Grid}
use Rattle.route_pricing.specs.Partial.{IsGrid, IsCell, IsLeastJoin, width, column_task, leg, may_follow, Reaches}
use Rattle.route_pricing.specs.Legs.{KeepsRows, IsLegRow, IsShortLeg, IsShortRow, IsShortValue, IsSum, far, legs_written}
use Rattle.route_pricing.proofs.PartialTours.{column_of, task_is, column_in, reaches_required, reaches_small}

-- one number more of a row
pub leg_row_more : (g : Grid) (column columns : ℕ) (legs : List ℕ) (short : ℕ) → length legs ≡ width g * width g → column < width g → columns < width g → IsLegRow g column columns legs →
    IsShortLeg g (column_task columns) (column_task column) short → IsLegRow g column (columns + 1) (slice_set legs (column * width g + columns) short)
leg_row_more g column columns legs short long column_in columns_in row one b before = elim (cases_eq b columns) [
  | inl same ↦
      let last : column + 1 ≤ width g = omega (arith, column_in) in
      let within : column * width g + columns < length legs = omega (arith, long, mul-le-mul_right (width g) last, columns_in) in
      let is : slice_index (slice_set legs (column * width g + columns) short) (column * width g + b) ≡ short =
      ap (λ c. get_or (slice_set legs (column * width g + columns) short) (column * width g + c) 0) same ∙ get_or-set_same legs (column * width g + columns) short 0 within in
      subst (IsShortLeg g (column_task b) (column_task column)) (sym is) (subst (λ c. IsShortLeg g (column_task c) (column_task column) short) (sym same) one)
  | inr other ↦
      subst (IsShortLeg g (column_task b) (column_task column)) (sym (get_or-set_other legs (column * width g + columns) (column * width g + b) short 0 (λ e. other (omega (arith, e)))))
      (row b (omega (arith, before, other)))
]

pub keeps_more : (g : Grid) (column columns : ℕ) (old legs : List ℕ) (short : ℕ) → KeepsRows g column old legs → KeepsRows g column old (slice_set legs (column * width g + columns) short)
keeps_more g column columns old legs short same i before = get_or-set_other legs (column * width g + columns) i short 0 (λ e. absurd (omega (arith, e, before))) ∙ same i before

-- one row more
pub rows_more : (g : Grid) (column : ℕ) (old legs : List ℕ) → ((c : ℕ) → c < column → legs_written g c old) → legs_written g column legs → KeepsRows g column old legs →
    (c : ℕ) → c < column + 1 → legs_written g c legs
rows_more g column old legs done row same c before = elim (cases_eq c column) [
  | inl is ↦ subst (λ d. legs_written g d legs) (sym is) row
  | inr other ↦ λ charged b b_in.
      let less : c + 1 ≤ column = omega (arith, before, other) in
      let place : c * width g + b < column * width g = omega (arith, mul-le-mul_right (width g) less, b_in) in
      subst (IsShortLeg g (column_task b) (column_task c)) (sym (same _ place)) (done c (omega (arith, less)) charged b b_in)
]

-- one value more of the row of a load
pub short_row_more : (g : Grid) → IsGrid g → (load least columns : ℕ) (row : List ℕ) (value short : ℕ) → load ≤ g.inst.capacity → columns < length row → IsShortRow g load least columns row →
    IsCell g load (column_task columns) value → IsShortValue value least short → IsShortRow g load least (columns + 1) (slice_set row columns short)
short_row_more g grid load least columns row value short fits within so_far cell one =
    let new = slice_set row columns short in
    let own : slice_index new columns ≡ short = get_or-set_same row columns short 0 within in
    let other : (b : ℕ) → b ≢ columns → slice_index new b ≡ slice_index row b = λ b differ. get_or-set_other row columns b short 0 (λ e. differ (omega (arith, e))) in
    record {
      small = λ b before. elim (cases_eq b columns) [
        | inl same ↦ omega (arith, ap (slice_index new) same, own, one.small)
        | inr differ ↦ omega (arith, other b differ, so_far.small b (omega (arith, before, differ)))
      ];
      attained = λ b before less. elim (cases_eq b columns) [
        | inl same ↦
            let is : slice_index new b ≡ short = ap (slice_index new) same ∙ own in
            let exact = one.exact (omega (arith, less, is)) in
            subst (λ n. Reaches g (column_task b) load n) (omega (arith, is, exact.1))
            (subst (λ c. Reaches g (column_task c) load value) (sym same) (cell.attained exact.0))
        | inr differ ↦
            let is = other b differ in
            subst (λ n. Reaches g (column_task b) load (least + n)) (sym is) (so_far.attained b (omega (arith, before, differ)) (omega (arith, less, is)))
      ];
      least = λ b w before reaches. elim (cases_eq b columns) [
        | inl same ↦
            let here = subst (λ c. Reaches g (column_task c) load w) same reaches in
            let below = cell.least w here in
            omega (arith, ap (slice_index new) same, own, one.least (omega (arith, below, reaches_small g grid (column_task columns) load w here fits)), below)
        | inr differ ↦ omega (arith, other b differ, so_far.least b w (omega (arith, before, differ)) reaches)
      ];
    }

-- the least sum of a value and a leg in 64 bits is the least join
module _ (g : Grid) (grid : IsGrid g) (load least column : ℕ) (row legs : List ℕ) (long : length row ≡ width g) (fits : load ≤ g.inst.capacity) (short_row : IsShortRow g load least (width g) row)
    (leg_row : IsLegRow g column (width g) legs) (n : ℕ) (below : n < far) (sum : IsSum row legs (column * width g) n)
    (most : (b : ℕ) → b < length row → n ≤ slice_index row b + slice_index legs (column * width g + b)) where
  abbrev t : Task
  t = column_task column

  b_in : sum.column < width g
  b_in = omega (arith, sum.inside, long)

  pub least_small : least ≤ 2 ^ 89
  least_small = omega (arith, reaches_small g grid (column_task sum.column) load (least + slice_index row sum.column) (short_row.attained sum.column b_in (omega (arith, below, sum.sum))) fits)

  pub row_join : IsLeastJoin g load t (least + n)
  row_join =
      let one = leg_row sum.column b_in in
      let leg_below : slice_index legs (column * width g + sum.column) < far = omega (arith, below, sum.sum) in
      record {
        attained = λ _. record {
          last = column_task sum.column;
          value = least + slice_index row sum.column;
          reaches = short_row.attained sum.column b_in (omega (arith, below, sum.sum));
          allowed = one.allowed leg_below;
          sum = omega (arith, sum.sum, one.exact leg_below);
        };
        least = λ m join.
            let required = reaches_required g grid join.last load join.value join.reaches in
            let is = task_is join.last required.from_one in
            let b = column_of join.last in
            let inside = column_in g join.last required in
            let value = short_row.least b join.value inside (subst (λ u. Reaches g u load join.value) (sym is) join.reaches) in
            let way = (leg_row b inside).least (subst (λ u. may_follow g u t ≡ true) (sym is) join.allowed) in
            omega (arith, join.sum, most b (omega (arith, inside, long)), value, way, ap (λ u. leg g u t) is);
      }
