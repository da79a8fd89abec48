-- A table of rows, one row further, and complete.
use Rattle.std.proofs.Common.{◌≡◌, ℕ, ◌+◌, ◌-◌, ◌*◌, ◌<◌, ◌≤◌, List, ◌++◌, length, ap, ◌∙◌, arith, inl, inr}
use Rattle.std.proofs.lemmas.Bool.{cases_lt}
use Rattle.carp_base.specs.Problem.{Problem, IsValid}
use Rattle.deadhead_paths.specs.Prices.{ArePrices}
use Rattle.deadhead_paths.specs.Table.{IsTowards, IsTable, row_of}
use Rattle.deadhead_paths.proofs.Rows.{row_new, row_old}

pub towards_more : (p : Problem) (prices labels nexts labels_row nexts_row : List ℕ) (target : ℕ) → 1 ≤ target →
    length labels ≡ (target - 1) * (p.vertices + 1) → length nexts ≡ (target - 1) * (p.vertices + 1) → IsTowards p prices target labels_row nexts_row →
    ((v : ℕ) → 1 ≤ v → v < target → IsTowards p prices v (row_of (p.vertices + 1) labels v) (row_of (p.vertices + 1) nexts v)) →
    (v : ℕ) → 1 ≤ v → v < target + 1 → IsTowards p prices v (row_of (p.vertices + 1) (labels ++ labels_row) v) (row_of (p.vertices + 1) (nexts ++ nexts_row) v)
towards_more p prices labels nexts labels_row nexts_row target from_one labels_long nexts_long row rows v one before = elim (cases_lt v target) [
  | inl earlier ↦
      rw (row_old (p.vertices + 1) labels labels_row v target one earlier labels_long, row_old (p.vertices + 1) nexts nexts_row v target one earlier nexts_long) (rows v one earlier)
  | inr last ↦
      let same : v ≡ target = omega arith in
      rw (same, row_new (p.vertices + 1) labels labels_row target labels_long row.labels_long, row_new (p.vertices + 1) nexts nexts_row target nexts_long row.nexts_long) row
]

pub table_whole : (p copy : Problem) (prices kept labels nexts : List ℕ) (target : ℕ) → IsValid p → ArePrices p prices → copy ≡ p → kept ≡ prices →
    target ≡ p.vertices + 1 → length labels ≡ (target - 1) * (p.vertices + 1) → length nexts ≡ (target - 1) * (p.vertices + 1) →
    ((v : ℕ) → 1 ≤ v → v < target → IsTowards p prices v (row_of (p.vertices + 1) labels v) (row_of (p.vertices + 1) nexts v)) →
    IsTable (record { problem = copy; prices = kept }) labels nexts
table_whole p copy prices kept labels nexts target valid fit same same_prices end labels_long nexts_long rows =
    let all : target - 1 ≡ p.vertices = omega (arith, end) in
    rw (same, same_prices) (record {
      valid = valid;
      prices = fit;
      labels_long = labels_long ∙ ap (λ n. n * (p.vertices + 1)) all;
      nexts_long = nexts_long ∙ ap (λ n. n * (p.vertices + 1)) all;
      rows = λ u vertex. rows u vertex.from_one (omega (arith, vertex.in_range, end));
    })
