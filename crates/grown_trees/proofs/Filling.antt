-- How many nodes blocks lack, each to 511, and that a spare block is there when one is divided.
use Rattle.std.proofs.Common.{◌≡◌, ℕ, zero, suc, ◌+◌, ◌-◌, ◌*◌, ◌≤◌, ◌<◌, List, [], ◌∷◌, ◌++◌, length, take, drop, get_or, set, sym, ap, ◌∙◌, arith, length-append}
use Rattle.std.proofs.lemmas.List.{length-take-le, length-drop}
use Rattle.grown_trees.specs.Blocks.{IsProvided, IsSpot, joined, lacking}
use Rattle.grown_trees.specs.declared.blocks.Spot.{Spot}
use Rattle.grown_trees.proofs.Joining.{Entries, block_is}

pub lacking_append : (xs ys : List Entries) → lacking (xs ++ ys) ≡ lacking xs + lacking ys
lacking_append [] ys = omega arith
lacking_append (x ∷ xs) ys = omega (arith, lacking_append xs ys)

-- one block more
pub lacking_push : (xs : List Entries) (x : Entries) → lacking (xs ++ x ∷ []) ≡ lacking xs + (511 - length x)
lacking_push xs x = lacking_append xs (x ∷ []) ∙ omega arith

-- a block that gives way to one of at least as many nodes
pub lacking_set : (xs : List Entries) (k : ℕ) (y d : Entries) → length (get_or xs k d) ≤ length y → lacking (set xs k y) ≤ lacking xs
lacking_set [] k y d less = omega arith
lacking_set (x ∷ xs) zero y d less = omega (arith, less)
lacking_set (x ∷ xs) (suc k) y d less = omega (arith, lacking_set xs k y d less)

pub blocks_few : (xs : List Entries) → 511 * length xs ≤ length (joined xs) + lacking xs
blocks_few [] = omega arith
blocks_few (x ∷ xs) = omega (arith, blocks_few xs, length-append x (joined xs))

-- other nodes in the place of a node
long_put : (xs news : Entries) (i : ℕ) → i < length xs → 1 ≤ length news → length xs ≤ length (take i xs ++ (news ++ drop (i + 1) xs))
long_put xs news i less some =
    omega (
      arith,
      less,
      some,
      length-append (take i xs) (news ++ drop (i + 1) xs),
      length-append news (drop (i + 1) xs),
      length-take-le i xs (omega (arith, less)),
      length-drop (i + 1) xs,
    )

module _ (blocks : List Entries) (place : ℕ) (spot : Spot) (s : IsSpot blocks place spot) where
  pub filled_put : (x news : Entries) → x ≡ s.here → 1 ≤ length news → lacking (set blocks spot.block (take spot.inner x ++ (news ++ drop (spot.inner + 1) x))) ≤ lacking blocks
  filled_put x news is some =
      let y = take spot.inner x ++ (news ++ drop (spot.inner + 1) x) in
      let less : spot.inner < length x = omega (arith, s.inside, ap length is) in
      let here : get_or blocks spot.block x ≡ x = block_is blocks place spot s x ∙ sym is in
      lacking_set blocks spot.block y x (omega (arith, ap length here, long_put x news spot.inner less some))

  -- The block is divided.

  module _ (news : List Entries) (full : 1022 < length s.here) (is : news ≡ s.before ++ (take 512 s.here ∷ drop 512 s.here ∷ s.behind)) where
    pub filled_divided : lacking news ≤ lacking blocks
    filled_divided =
        omega (
          arith,
          full,
          ap lacking is,
          lacking_append s.before (take 512 s.here ∷ drop 512 s.here ∷ s.behind),
          ap lacking s.whole,
          lacking_append s.before (s.here ∷ s.behind),
          length-take-le 512 s.here (omega (arith, full)),
          length-drop 512 s.here,
        )

    pub more_divided : length news ≡ length blocks + 1
    more_divided =
        omega (
          arith,
          ap length is,
          length-append s.before (take 512 s.here ∷ drop 512 s.here ∷ s.behind),
          ap length s.whole,
          length-append s.before (s.here ∷ s.behind),
        )

-- A spare block, and memory for it in the list of the blocks.

module _ (blocks : List Entries) (spare room capacity : ℕ) (is : IsProvided blocks spare room capacity) where
  pub spare_there : length (joined blocks) + 2 ≤ room → 0 < spare
  spare_there less = omega (arith, less, blocks_few blocks, is.filled, is.enough)

  pub taken_there : length (joined blocks) + 2 ≤ room → length blocks < capacity
  taken_there less = omega (arith, is.taken, spare_there less)

  pub still_provided : (news : List Entries) (left more : ℕ) → lacking news ≤ lacking blocks → length news + left ≡ length blocks + spare → capacity ≤ more → IsProvided news left room more
  still_provided news left more filled same grown = record {
    filled = omega (arith, is.filled, filled);
    enough = omega (arith, is.enough, same);
    taken = omega (arith, is.taken, same, grown);
  }
