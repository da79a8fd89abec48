-- The tables of a board while they are made. No public contract speaks of this.
use Rattle.std.specs.Prelude.{◌≡◌, ℕ, ◌+◌, ◌*◌, ◌<◌, ◌≤◌, List, ◌++◌, length, slice_index}
use Rattle.std.specs.List.{All}
use Rattle.carp_base.specs.Problem.{Problem, edge_at}
use Rattle.deadhead_paths.specs.Prices.{IsLeastPrice, costs_of, price_of}
use Rattle.ruin_recreate.specs.Boards.{edge_of, end_of, other_way, start_of}

-- a link between two stops
abbrev pub IsLink : Problem → ℕ → ℕ → ℕ → Type 0
IsLink p x y n = IsLeastPrice p (price_of (costs_of p)) (end_of p x) (start_of p y) n

-- the links from a stop to the first stops
pub record IsRow (p : Problem) (x count : ℕ) (row : List ℕ) : Type 0 where
  pub long : length row ≡ count
  pub links : (y : ℕ) → y < count → IsLink p x y (slice_index row y)
  pub near : All (λ n. n ≤ 999000000) row

-- the links from a stop to the first stops came to a list
pub record AddsLinks (p : Problem) (x count : ℕ) (before after : List ℕ) : Type 0 where
  pub row : List ℕ
  pub is : IsRow p x count row
  pub added : after ≡ before ++ row

abbrev pub AddsRow : Problem → ℕ → List ℕ → List ℕ → Type 0
AddsRow p x before after = AddsLinks p x (2 * p.required + 2) before after

-- rows of this width from each of the first stops
pub record AreRows (p : Problem) (width count : ℕ) (table : List ℕ) : Type 0 where
  pub long : length table ≡ count * width
  pub links : (x y : ℕ) → x < count → y < width → IsLink p x y (slice_index table (x * width + y))
  pub near : All (λ n. n ≤ 999000000) table

abbrev pub AreLinks : Problem → ℕ → List ℕ → Type 0
AreLinks p width links = AreRows p width width links

-- what each of the first stops loads
pub record AreDemands (p : Problem) (count : ℕ) (demands : List ℕ) : Type 0 where
  pub long : length demands ≡ count
  pub each : (x : ℕ) → x < count → slice_index demands x ≡ (edge_at p (edge_of x)).demand
  pub light : All (λ n. n ≤ 30000) demands

-- the other direction of each of the first stops, of so many in all
pub record AreTurns (width count : ℕ) (turns : List ℕ) : Type 0 where
  pub long : length turns ≡ count
  pub each : (x : ℕ) → x < count → slice_index turns x ≡ other_way x
  pub within : All (λ x. x < width) turns
