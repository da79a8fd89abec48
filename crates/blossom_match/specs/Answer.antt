-- Matchings with weights on odd sets, as they are answered. Members are numbered from 0 here, and from 1 in the lists of the sets.
use Rattle.std.specs.Prelude.{◌≡◌, ℕ, zero, suc, ◌+◌, ◌-◌, ◌<◌, ◌≤◌, ◌==◌, ◌||◌, Bool, false, length, slice_index}
use Rattle.blossom_match.specs.declared.costs.Costs.{Costs}
use Rattle.blossom_match.specs.declared.least.Matching.{Matching}
use Rattle.blossom_match.specs.Matching.{IsProved, members}
use Rattle.blossom_match.specs.Table.{cost}

-- the mate of a member
abbrev pub mate_in : Matching → ℕ → ℕ
mate_in m v = slice_index m.mates.items v

-- the number of sets
abbrev pub sets_in : Matching → ℕ
sets_in m = length m.weights.items

-- the weight of a set, in halves
abbrev pub halves_in : Matching → ℕ → ℕ
halves_in m i = slice_index m.weights.items i

-- the number of members of a set, and its members one by one, numbered from 1
abbrev pub len_in : Matching → ℕ → ℕ
len_in m i = slice_index m.starts.items (i + 1) - slice_index m.starts.items i

abbrev pub member_in : Matching → ℕ → ℕ → ℕ
member_in m i j = slice_index m.members.items (slice_index m.starts.items i + j)

-- one of the first k numbers of a list, which count from 1, is this member's
abbrev pub is_among : ℕ → (ℕ → ℕ) → ℕ → Bool
is_among zero list v = false
is_among (suc k) list v = (list k == suc v) || is_among k list v

-- whether a set holds a member
abbrev pub set_in : Matching → ℕ → ℕ → Bool
set_in m i v = is_among (len_in m i) (member_in m i) v

-- a list names k members out of n, in ascending order
pub record IsListed (n k : ℕ) (list : ℕ → ℕ) : Type 0 where
  pub range : (j : ℕ) → j < k → (1 ≤ list j) × (list j ≤ n)
  pub rising : (i j : ℕ) → i < j → j < k → list i < list j
  pub count : members n (is_among k list) ≡ k

-- each member has a mate, and each set a list
pub record IsMatching (m : Matching) : Type 0 where
  pub few : m.size ≤ 1000
  pub mates_len : length m.mates.items ≡ m.size
  pub mates_in : (v : ℕ) → v < m.size → mate_in m v < m.size
  pub starts_len : length m.starts.items ≡ sets_in m + 1
  pub rising : (i : ℕ) → i < sets_in m → slice_index m.starts.items i ≤ slice_index m.starts.items (i + 1)
  pub last : (i : ℕ) → i < sets_in m → slice_index m.starts.items (i + 1) ≤ length m.members.items

-- what an answer promises: a perfect matching, and weights on odd sets that prove it least
pub record IsLeastBy (costs : Costs) (m : Matching) : Type 0 where
  pub size : m.size ≡ costs.size
  pub made : IsMatching m
  pub some : (i : ℕ) → i < sets_in m → 1 ≤ halves_in m i
  pub listed : (i : ℕ) → i < sets_in m → IsListed m.size (len_in m i) (member_in m i)
  pub proved : IsProved costs.size (cost costs) (mate_in m) (sets_in m) (set_in m) (halves_in m)
