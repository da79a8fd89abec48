-- Walks along the cycle of a set's children. No public contract speaks of this.
use Rattle.std.specs.Prelude.{◌≡◌, ◌≢◌, ℕ, suc, ◌*◌, ◌/◌, ◌%◌, ◌<◌, ◌≤◌, Bool, true, false, List, slice_index, Option, Some}
use Rattle.blossom_match.specs.declared.state.Pair.{Pair}
use Rattle.blossom_match.specs.Views.{holds, turned, link_at, mate_at}
use Rattle.blossom_match.specs.Between.{after}

-- the first places from a node on are different slots
pub record IsTrip (next : List ℕ) (slots count base : ℕ) : Type 0 where
  pub in_slots : (k : ℕ) → k ≤ count → after next k base < slots
  pub apart : (j k : ℕ) → j < k → k ≤ count → after next j base ≢ after next k base

-- a cycle of an odd number of slots with different members
pub record IsRound (n : ℕ) (held : List Bool) (next : List ℕ) (first : ℕ) : Type 0 where
  pub len : ℕ
  pub odd : len % 2 ≡ 1
  pub few : len ≤ n
  pub closes : after next len first ≡ first
  pub in_slots : (k : ℕ) → k < len → after next k first < 2 * n
  pub disjoint : (j k v : ℕ) → j < k → k < len → v < n → holds n held (after next j first) v ≡ true → holds n held (after next k first) v ≡ false
  pub trip : (k : ℕ) → k < len → IsTrip next (2 * n) (2 * (len / 2)) (after next k first)

-- the members of so many children have these as their outermost nodes
pub record IsReleased (n : ℕ) (held : List Bool) (next : List ℕ) (len first : ℕ) (top top' : List ℕ) : Type 0 where
  pub own : (k v : ℕ) → k < len → v < n → holds n held (after next k first) v ≡ true → slice_index top' v ≡ after next k first
  pub off : (v : ℕ) → v < n → ((k : ℕ) → k < len → holds n held (after next k first) v ≡ false) → slice_index top' v ≡ slice_index top v

-- the walk came to its begin after so many steps, and not before
pub record IsWhole (next : List ℕ) (len first : ℕ) : Type 0 where
  pub some : 1 ≤ len
  pub closes : after next len first ≡ first
  pub least : (k : ℕ) → 1 ≤ k → k < len → after next k first ≢ first

-- the nodes after one are matched two by two
pub record ArePaired (next : List ℕ) (link : List Pair) (base pairs : ℕ) (mate mate' : List (Option Pair)) : Type 0 where
  pub odd : (i : ℕ) → i < pairs → mate_at mate' (after next (suc (2 * i)) base) ≡ Some (link_at link (after next (suc (2 * i)) base))
  pub even : (i : ℕ) → i < pairs → mate_at mate' (after next (suc (suc (2 * i))) base) ≡ Some (turned (link_at link (after next (suc (2 * i)) base)))
  pub off : (t : ℕ) → ((k : ℕ) → 1 ≤ k → k ≤ 2 * pairs → t ≢ after next k base) → mate_at mate' t ≡ mate_at mate t

-- the children of a cycle are outermost nodes, and matched, one of them by the pair of the whole
pub record IsOpened (n : ℕ) (held : List Bool) (next : List ℕ) (link : List Pair) (first len : ℕ) (p : Pair) (top top' : List ℕ) (mate mate' : List (Option Pair)) : Type 0 where
  pub whole : IsWhole next len first
  pub released : IsReleased n held next len first top top'
  pub at_base : mate_at mate' (slice_index top' p.inside) ≡ Some p
  pub odd : (i : ℕ) → i < len / 2 → mate_at mate' (after next (suc (2 * i)) (slice_index top' p.inside)) ≡ Some (link_at link (after next (suc (2 * i)) (slice_index top' p.inside)))
  pub even : (i : ℕ) → i < len / 2 →
      mate_at mate' (after next (suc (suc (2 * i))) (slice_index top' p.inside)) ≡ Some (turned (link_at link (after next (suc (2 * i)) (slice_index top' p.inside))))
  pub off : (t : ℕ) → t ≢ slice_index top' p.inside → ((k : ℕ) → 1 ≤ k → k ≤ 2 * (len / 2) → t ≢ after next k (slice_index top' p.inside)) → mate_at mate' t ≡ mate_at mate t
