-- A plan as a sequence: its stops, tour after tour, with the depot before, between and after the tours; and changes of a sequence. No
-- public contract speaks of this.
use Rattle.std.specs.Prelude.{◌≡◌, ◌≢◌, ℕ, ◌+◌, ◌-◌, ◌<◌, ◌≤◌, Bool, ◌&&◌, ◌==◌, nat_le, List, [], ◌∷◌, ◌++◌, length, if◌then◌else◌, slice_index, slice_set, sum_by, IsTrue, ◌⊎◌}
use Rattle.std.specs.List.{All, insert, remove}
use Rattle.ruin_recreate.specs.declared.board.Board.{Board}
use Rattle.ruin_recreate.specs.Boards.{IsBoard, demand_of, depot, edge_of, link, other_way, turned}

-- the tables fit the stops, and each service is turned to that of the same edge
pub record IsStopBoard (b : Board) : Type 0 where
  pub tables : IsBoard b
  pub turns : (x : ℕ) → x < b.width → turned b x ≡ other_way x

-- the deadheads from a stop over those that follow it
abbrev pub links_from : Board → ℕ → List ℕ → ℕ
links_from b x [] = 0
links_from b x (y ∷ ys) = link b x y + links_from b y ys

-- the deadheads of a sequence
abbrev pub links_of : Board → List ℕ → ℕ
links_of b [] = 0
links_of b (x ∷ xs) = links_from b x xs

-- no tour loads more than the room, if the first has a load already
abbrev pub fits_from : Board → ℕ → List ℕ → Bool
fits_from b load [] = nat_le load b.room
fits_from b load (x ∷ xs) = if x == 0 then (nat_le load b.room) && fits_from b 0 xs else fits_from b (load + demand_of b x) xs

abbrev pub fits : Board → List ℕ → Bool
fits b xs = fits_from b 0 xs

-- stops of the board, from the depot to the depot; stop 1 is no service
pub record IsSequence (b : Board) (xs : List ℕ) : Type 0 where
  pub some : 1 ≤ length xs
  pub within : All (λ x. x < b.width) xs
  pub real : All (λ x. x ≢ 1) xs
  pub first : slice_index xs 0 ≡ depot
  pub last : slice_index xs (length xs - 1) ≡ depot

-- the same edges are served equally often: what is summed over the services, read off their edges, is the same
abbrev pub KeepsServices : List ℕ → List ℕ → Type 0
KeepsServices before after = (g : ℕ → ℕ) → g 0 ≡ 0 → sum_by (λ x. g (edge_of x)) after ≡ sum_by (λ x. g (edge_of x)) before

-- a later sequence fits, and its deadheads are fewer
pub record IsBetter (b : Board) (before after : List ℕ) : Type 0 where
  pub loads : IsTrue (fits b after)
  pub cheaper : links_of b after < links_of b before

-- a place in the sequence that is a service, and is so neither first nor last
pub record IsService (xs : List ℕ) (k : ℕ) : Type 0 where
  pub after_first : 1 ≤ k
  pub before_last : k + 1 < length xs
  pub no_depot : 1 ≤ slice_index xs k

-- a stop in one of its directions
abbrev pub IsEitherWay : Board → ℕ → ℕ → Type 0
IsEitherWay b x y = (y ≡ x) ⊎ (y ≡ turned b x)

-- one service is taken out, and goes in one direction to a place of the rest; to its own place in the other direction, if it turns
pub record IsMove (b : Board) (before after : List ℕ) : Type 0 where
  pub from : ℕ
  pub service : IsService before from
  pub x : ℕ
  pub same : IsEitherWay b (slice_index before from) x
  pub to : ℕ
  pub after_first : 1 ≤ to
  pub before_last : to + 1 < length before
  pub is : after ≡ insert (remove before from) to x

-- one service is taken out, and goes in one direction to a new tour
pub record IsNewTour (b : Board) (before after : List ℕ) : Type 0 where
  pub from : ℕ
  pub service : IsService before from
  pub x : ℕ
  pub same : IsEitherWay b (slice_index before from) x
  pub is : after ≡ remove before from ++ (x ∷ (depot ∷ []))

-- two services change places, and keep their directions
pub record IsSwap (before after : List ℕ) : Type 0 where
  pub first : ℕ
  pub second : ℕ
  pub order : first < second
  pub first_in : IsService before first
  pub second_in : IsService before second
  pub is : after ≡ slice_set (slice_set before first (slice_index before second)) second (slice_index before first)

pub data IsSequenceChange (b : Board) (before after : List ℕ) : Type 0 where
  moves : IsMove b before after → IsSequenceChange b before after
  opens : IsNewTour b before after → IsSequenceChange b before after
  swaps : IsSwap before after → IsSequenceChange b before after

-- no change is better
abbrev pub IsSettledSequence : Board → List ℕ → Type 0
IsSettledSequence b sequence = (after : List ℕ) → IsSequenceChange b sequence after → IsBetter b sequence after → ⊥

-- a better one, with the same services
pub record IsLater (b : Board) (before after : List ℕ) : Type 0 where
  pub sequence : IsSequence b after
  pub better : IsBetter b before after
  pub services : KeepsServices before after

-- one that fits and costs no more, with the same services
pub record IsNoDearer (b : Board) (before after : List ℕ) : Type 0 where
  pub sequence : IsSequence b after
  pub loads : IsTrue (fits b after)
  pub cost : links_of b after ≤ links_of b before
  pub services : KeepsServices before after

-- each tour has a service
abbrev pub NoneEmpty : List ℕ → Type 0
NoneEmpty xs = (k : ℕ) → k + 1 < length xs → slice_index xs k ≡ depot → slice_index xs (k + 1) ≡ depot → ⊥

-- the service at a place is not better as x at another
abbrev pub NoInsert : Board → List ℕ → ℕ → ℕ → ℕ → Type 0
NoInsert b xs from x to = IsBetter b xs (insert (remove xs from) to x) → ⊥

-- nor at any place in either direction
abbrev pub NoMove : Board → List ℕ → ℕ → Type 0
NoMove b xs from = IsService xs from → (x : ℕ) → IsEitherWay b (slice_index xs from) x → (to : ℕ) → 1 ≤ to → to + 1 < length xs → NoInsert b xs from x to

-- nor in a new tour
abbrev pub NoOpen : Board → List ℕ → ℕ → Type 0
NoOpen b xs from = IsService xs from → (x : ℕ) → IsEitherWay b (slice_index xs from) x → IsBetter b xs (remove xs from ++ (x ∷ (depot ∷ []))) → ⊥

-- no swap of the services at two places is better
abbrev pub NoSwap : Board → List ℕ → ℕ → ℕ → Type 0
NoSwap b xs first second =
    IsService xs first → IsService xs second → IsBetter b xs (slice_set (slice_set xs first (slice_index xs second)) second (slice_index xs first)) → ⊥

-- no change of the service at a place is better, and no swap with a later one
pub record IsQuiet (b : Board) (xs : List ℕ) (at : ℕ) : Type 0 where
  pub move : NoMove b xs at
  pub open_tour : NoOpen b xs at
  pub swap : (second : ℕ) → at < second → second + 1 < length xs → NoSwap b xs at second
