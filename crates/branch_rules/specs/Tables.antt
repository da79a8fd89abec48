-- What is added to a table of surcharges. No public contract speaks of this.
use Rattle.std.specs.Prelude.{◌≡◌, ℕ, ◌≤◌, ◌==◌, ◌&&◌, ℤ, pos, ◌+ℤ◌, List, length, if◌then◌else◌}
use Rattle.branch_rules.specs.Sums.{signed_sum}
use Rattle.branch_rules.specs.Bonds.{entry}

-- both are of the first m edges, so that a table of m rows has a number for them
pub record ArePlaced (m e f : ℕ) : Type 0 where
  pub e_from : 1 ≤ e
  pub e_in : e ≤ m
  pub f_from : 1 ≤ f
  pub f_in : f ≤ m

-- the new table has at each pair the number of the old one and so much more
pub record IsAdded (m : ℕ) (old new : List ℤ) (amount : ℕ → ℕ → ℤ) : Type 0 where
  pub long : length new ≡ length old
  pub each : (x y : ℕ) → ArePlaced m x y → entry m new x y ≡ entry m old x y +ℤ amount x y

-- a weight at one pair
abbrev pub pair_amount : ℤ → ℕ → ℕ → ℕ → ℕ → ℤ
pair_amount weight e f x y = if (e == x) && (f == y) then weight else pos 0

-- a weight at each pair of one edge with these edges
abbrev pub row_amount : ℤ → List ℕ → ℕ → ℕ → ℕ → ℤ
row_amount weight edges e x y = signed_sum (λ f. pair_amount weight e f x y) edges

-- a weight at each pair of one of the rows with one of these edges
abbrev pub group_amount : ℤ → List ℕ → List ℕ → ℕ → ℕ → ℤ
group_amount weight edges rows x y = signed_sum (λ e. row_amount weight edges e x y) rows
