-- What the tours of a sequence load beside a place. No public contract speaks of this.
use Rattle.std.specs.Prelude.{◌≡◌, ℕ, ◌+◌, ◌<◌, ◌≤◌, ◌==◌, List, [], ◌∷◌, length, take, drop, if◌then◌else◌, slice_index}
use Rattle.std.specs.List.{All}
use Rattle.ruin_recreate.specs.declared.board.Board.{Board}
use Rattle.ruin_recreate.specs.Boards.{demand_of}
use Rattle.local_moves.specs.declared.loads.Loads.{Loads}

-- the load once a stop was made too: at the depot the next tour begins
abbrev pub load_with : Board → ℕ → ℕ → ℕ
load_with b load x = if x == 0 then 0 else load + demand_of b x

-- what the last of these tours loads, if the first has a load already
abbrev pub load_behind : Board → ℕ → List ℕ → ℕ
load_behind b load [] = load
load_behind b load (x ∷ xs) = load_behind b (load_with b load x) xs

-- what the stops before the next depot load
abbrev pub load_ahead : Board → List ℕ → ℕ
load_ahead b [] = 0
load_ahead b (x ∷ xs) = load_with b (load_ahead b xs) x

-- for each of the first places of a round a number that is at most what its tour loads before it
pub record AreLoadsBehind (b : Board) (xs : List ℕ) (count : ℕ) (loads : List ℕ) : Type 0 where
  pub long : length loads ≡ count
  pub each : (k : ℕ) → k < count → slice_index loads k ≤ load_behind b 0 (take k xs)
  pub small : All (λ n. n ≤ 60000) loads

-- for each of the last places one that is at most what its tour loads from it on
pub record AreLoadsAhead (b : Board) (xs : List ℕ) (from : ℕ) (loads : List ℕ) : Type 0 where
  pub long : length loads ≡ length xs + 1
  pub each : (k : ℕ) → from ≤ k → k ≤ length xs → slice_index loads k ≤ load_ahead b (drop k xs)
  pub small : All (λ n. n ≤ 60000) loads

pub record AreLoads (b : Board) (xs : List ℕ) (loads : Loads) : Type 0 where
  pub behind : AreLoadsBehind b xs (length xs + 1) loads.behind.items
  pub ahead : AreLoadsAhead b xs 0 loads.ahead.items

-- the depot stands between two places
pub record AreApart (xs : List ℕ) (first second : ℕ) : Type 0 where
  pub place : ℕ
  pub after_first : first < place
  pub before_second : place < second
  pub is_depot : slice_index xs place ≡ 0
