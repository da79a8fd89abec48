-- The streets of the grid: their number, their ends, and that none is missing.
use Rattle.std.proofs.Common.{◌≡◌, ℕ, ◌+◌, ◌<◌, ◌≤◌, length, refl, arith}
use Rattle.std.specs.Prelude.{◌≢◌}
use Rattle.std.specs.List.{flat_map, AllByRecursion}
use Rattle.town_maker.specs.declared.grid.Street.{Street}
use Rattle.town_maker.specs.Streets.{numbers_below, corner, street_along, street_down, streets_along, streets_down, town_streets}
use Rattle.town_maker.proofs.Members.{Among, among_left, among_right, among_map, among_flat, among_below, all_append, all_map, all_flat, all_below}

-- the ends are two different vertices
pub record AreCorners (u v : ℕ) : Type 0 where
  pub u_from : 1 ≤ u
  pub u_in : u ≤ 100
  pub v_from : 1 ≤ v
  pub v_in : v ≤ 100
  pub differ : u ≢ v

pub streets_count : length town_streets ≡ 180
unfolding town_streets
streets_count = refl

along_corners : (i : ℕ) → i < 10 → (j : ℕ) → j < 9 → AreCorners (corner i j) (corner i (j + 1))
along_corners i row j column = record { u_from = omega arith; u_in = omega arith; v_from = omega arith; v_in = omega arith; differ = λ e. omega (arith, e) }

down_corners : (i : ℕ) → i < 9 → (j : ℕ) → j < 10 → AreCorners (corner i j) (corner (i + 1) j)
down_corners i row j column = record { u_from = omega arith; u_in = omega arith; v_from = omega arith; v_in = omega arith; differ = λ e. omega (arith, e) }

abbrev HasCorners : Street → Type 0
HasCorners s = AreCorners s.u s.v

pub streets_corners : AllByRecursion (λ s. AreCorners s.u s.v) town_streets
unfolding town_streets
streets_corners =
    all_append HasCorners (flat_map streets_along (numbers_below 10)) (flat_map streets_down (numbers_below 9))
    (all_flat (λ i. i < 10) HasCorners streets_along (numbers_below 10)
    (λ i row. all_map (λ j. j < 9) HasCorners (street_along i) (numbers_below 9) (along_corners i row) (all_below 9 9 (omega arith)))
    (all_below 10 10 (omega arith)))
    (all_flat (λ i. i < 9) HasCorners streets_down (numbers_below 9)
    (λ i row. all_map (λ j. j < 10) HasCorners (street_down i) (numbers_below 10) (down_corners i row) (all_below 10 10 (omega arith)))
    (all_below 9 9 (omega arith)))

pub along_there : (i j : ℕ) → i < 10 → j < 9 → Among (street_along i j) town_streets
unfolding town_streets
along_there i j row column =
    among_left (street_along i j) (flat_map streets_along (numbers_below 10)) (flat_map streets_down (numbers_below 9))
    (among_flat streets_along i (street_along i j) (numbers_below 10) (among_below 10 i row) (among_map (street_along i) j (numbers_below 9) (among_below 9 j column)))

pub down_there : (i j : ℕ) → i < 9 → j < 10 → Among (street_down i j) town_streets
unfolding town_streets
down_there i j row column =
    among_right (street_down i j) (flat_map streets_along (numbers_below 10)) (flat_map streets_down (numbers_below 9))
    (among_flat streets_down i (street_down i j) (numbers_below 9) (among_below 9 i row) (among_map (street_down i) j (numbers_below 10) (among_below 10 j column)))
