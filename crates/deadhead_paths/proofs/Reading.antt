-- What is read from a table.
use Rattle.std.proofs.Common.{◌≡◌, ℕ, ◌+◌, ◌-◌, ◌*◌, ◌/◌, ◌<◌, ◌≤◌, List, length, get_or, sym, arith, subst}
use Rattle.carp_base.specs.Problem.{IsVertex}
use Rattle.deadhead_paths.specs.Prices.{Priced, NoneLead, IsLeastPrice, edge_price}
use Rattle.deadhead_paths.specs.Table.{IsTable, row_of, unreached}
use Rattle.deadhead_paths.proofs.Labels.{least_price, none_lead, label_small}
use Rattle.deadhead_paths.proofs.Rows.{place_in, read_row}

module _ (x : Priced) (labels nexts : List ℕ) (table : IsTable x labels nexts) (to at place : ℕ)
    (to_in : IsVertex x.problem to) (at_in : IsVertex x.problem at) (place_is : place ≡ (to - 1) * (x.problem.vertices + 1) + at) where
  pub label_place : place < length labels
  label_place = omega (arith, place_is, table.labels_long, place_in x.problem.vertices (x.problem.vertices + 1) to at to_in.from_one to_in.in_range (omega (arith, at_in.in_range)))

  pub next_place : place < length nexts
  next_place = omega (arith, place_is, table.nexts_long, place_in x.problem.vertices (x.problem.vertices + 1) to at to_in.from_one to_in.in_range (omega (arith, at_in.in_range)))

  pub label_read : (l : ℕ) → l ≡ get_or labels place l → l ≡ get_or (row_of (x.problem.vertices + 1) labels to) at 0
  label_read l read = read_row (x.problem.vertices + 1) labels to at place l (omega (arith, at_in.in_range)) place_is label_place read

  pub next_read : (e : ℕ) → e ≡ get_or nexts place e → e ≡ get_or (row_of (x.problem.vertices + 1) nexts to) at 0
  next_read e read = read_row (x.problem.vertices + 1) nexts to at place e (omega (arith, at_in.in_range)) place_is next_place read

-- a label that is read is that of want of steps, or gives the least price
module _ (x : Priced) (labels nexts : List ℕ) (table : IsTable x labels nexts) (from to place l : ℕ)
    (to_in : IsVertex x.problem to) (from_in : IsVertex x.problem from) (place_is : place ≡ (to - 1) * (x.problem.vertices + 1) + from) (read : l ≡ get_or labels place l) where
  pub read_none : l ≡ unreached → NoneLead x.problem from to
  read_none none =
      let width = x.problem.vertices + 1 in
      none_lead x.problem table.valid x.prices table.prices to (row_of width labels to) (row_of width nexts to) (table.rows to to_in) from
      (omega (arith, none, label_read x labels nexts table to from place to_in from_in place_is l read))

  pub read_price : l < unreached → IsLeastPrice x.problem (edge_price x) from to (l / 1024)
  read_price reached =
      let width = x.problem.vertices + 1 in
      let is = label_read x labels nexts table to from place to_in from_in place_is l read in
      subst (λ n. IsLeastPrice x.problem (edge_price x) from to (n / 1024)) (sym is)
      (least_price x.problem table.valid x.prices table.prices to (row_of width labels to) (row_of width nexts to) (table.rows to to_in) from from_in (omega (arith, is, reached)))

  pub read_small : l < unreached → l / 1024 ≤ 4000000000000000000000
  read_small reached =
      let width = x.problem.vertices + 1 in
      let is = label_read x labels nexts table to from place to_in from_in place_is l read in
      omega (arith, is, label_small x.problem table.valid x.prices table.prices to (row_of width labels to) (row_of width nexts to) (table.rows to to_in) from from_in (omega (arith, is, reached)))
