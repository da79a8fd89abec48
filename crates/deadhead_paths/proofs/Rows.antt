-- Rows of one width in a table.
use Rattle.std.proofs.Common.{◌≡◌, ℕ, zero, suc, ◌+◌, ◌-◌, ◌*◌, ◌<◌, ◌≤◌, List, ◌++◌, length, take, drop, get_or, sym, ap, ◌∙◌, arith}
use Rattle.std.proofs.Math.Nat.{mul-le-mul_right}
use Rattle.std.proofs.lemmas.List.{get_or-take, get_or-drop, drop_at, drop-append-le, take-append-le, take_all, length-drop, length-append, get_or_read}
use Rattle.deadhead_paths.specs.Table.{row_of}

-- the rows before one end where it begins, or earlier
pub rows_before : (width u v : ℕ) → 1 ≤ u → u < v → (u - 1) * width + width ≤ (v - 1) * width
rows_before width u v from_one before =
    let more : u ≤ v - 1 = omega arith in
    let split : (u - 1) * width + width ≡ u * width = row_end u from_one in
    omega (arith, split, mul-le-mul_right width more)
  where
    row_end : (w : ℕ) → 1 ≤ w → (w - 1) * width + width ≡ w * width
    row_end zero one = absurd (omega (arith, one))
    row_end (suc k) one = let back : suc k - 1 ≡ k = omega arith in rw back (omega arith)

-- a place of a row is within the table
pub place_in : (n width v i : ℕ) → 1 ≤ v → v ≤ n → i < width → (v - 1) * width + i < n * width
place_in n width v i from_one last within = omega (arith, rows_before width v (n + 1) from_one (omega (arith, last)), whole)
  where
    whole : (n + 1 - 1) * width ≡ n * width
    whole = let back : n + 1 - 1 ≡ n = omega arith in ap (λ k. k * width) back

pub row_place : (width : ℕ) (table : List ℕ) (v i : ℕ) → i < width → get_or table ((v - 1) * width + i) 0 ≡ get_or (row_of width table v) i 0
row_place width table v i within = sym (get_or-take width (drop ((v - 1) * width) table) i 0 within ∙ get_or-drop ((v - 1) * width) table i 0)

-- a row that is added at the end, and those before it
pub row_new : (width : ℕ) (table row : List ℕ) (v : ℕ) → length table ≡ (v - 1) * width → length row ≡ width → row_of width (table ++ row) v ≡ row
row_new width table row v long wide = ap (take width) (drop_at table row ((v - 1) * width) long) ∙ take_all width row (omega (arith, wide))

pub row_old : (width : ℕ) (table row : List ℕ) (u v : ℕ) → 1 ≤ u → u < v → length table ≡ (v - 1) * width → row_of width (table ++ row) u ≡ row_of width table u
row_old width table row u v from_one before long =
    let end = rows_before width u v from_one before in
    ap (take width) (drop-append-le ((u - 1) * width) table row (omega (arith, end, long)))
    ∙ take-append-le width (drop ((u - 1) * width) table) row (omega (arith, end, long, length-drop ((u - 1) * width) table))

-- what is read at a place of a row
pub read_row : (width : ℕ) (table : List ℕ) (v i place x : ℕ) → i < width → place ≡ (v - 1) * width + i → place < length table → x ≡ get_or table place x → x ≡ get_or (row_of width table v) i 0
read_row width table v i place x within is in_range read =
    get_or_read table place x in_range read 0 ∙ ap (λ n. get_or table n 0) is ∙ row_place width table v i within

-- a table with one more row
pub rows_more : (width : ℕ) (table row : List ℕ) (v : ℕ) → 1 ≤ v → length table ≡ (v - 1) * width → length row ≡ width → length (table ++ row) ≡ (v + 1 - 1) * width
rows_more width table row v from_one long wide = length-append table row ∙ ends v from_one long
  where
    ends : (u : ℕ) → 1 ≤ u → length table ≡ (u - 1) * width → length table + length row ≡ (u + 1 - 1) * width
    ends zero one is = absurd (omega (arith, one))
    ends (suc k) one is =
        let back : suc k - 1 ≡ k = omega arith in
        let next : suc k + 1 - 1 ≡ k + 1 = omega arith in
        let is' : length table ≡ k * width = is ∙ ap (λ n. n * width) back in
        rw next (omega (arith, is', wide))
