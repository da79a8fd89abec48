-- The nodes that show a cost by themselves, where a leaf that does not gives way to others.
use Rattle.std.proofs.Common.{◌≡◌, ℕ, ◌+◌, ◌<◌, ◌≤◌, true, false, cond, List, [], ◌∷◌, ◌++◌, take, drop, length, get_or, refl, ap, arith}
use Rattle.std.specs.Prelude.{nat_le}
use Rattle.std.proofs.lemmas.Bool.Decides.{nat_tests}
use Rattle.std.proofs.lemmas.List.{length-append, length-drop, length-take-le}
use Rattle.std.proofs.lemmas.List.Sums.{count_by_more_no, sum_by-append, sum_by-le-sum_by, sum_by-take-drop}
use Rattle.grown_trees.specs.Growth.{turns_in}
use Rattle.grown_trees.specs.declared.growing.GrowingNode.{GrowingNode}

not_shown : (cost shows : ℕ) → shows < cost → nat_le cost shows ≡ false
not_shown cost shows below = grind (arith, nat_tests)

pub is_shown : (cost shows : ℕ) → cost ≤ shows → nat_le cost shows ≡ true
is_shown cost shows within = grind (arith, nat_tests)

one_more : (less more shows : ℕ) → less ≤ more → cond (nat_le more shows) 1 0 ≤ cond (nat_le less shows) 1 0
one_more less more shows within = grind (arith, nat_tests)

-- for a lower cost no fewer
pub no_fewer : (less more : ℕ) (entries : List GrowingNode) → less ≤ more → turns_in more entries ≤ turns_in less entries
no_fewer less more entries within =
    sum_by-le-sum_by (λ (entry : GrowingNode). cond (nat_le more entry.shows) 1 0) (λ (entry : GrowingNode). cond (nat_le less entry.shows) 1 0) entries (λ entry. one_more less more entry.shows within)

pub turns_both : (cost : ℕ) (entries more : List GrowingNode) → turns_in cost (entries ++ more) ≡ turns_in cost entries + turns_in cost more
turns_both cost entries more = sum_by-append (λ (entry : GrowingNode). cond (nat_le cost entry.shows) 1 0) entries more

-- a node that shows the cost counts
pub turns_first : (cost : ℕ) (entry : GrowingNode) (rest : List GrowingNode) → cost ≤ entry.shows → 1 ≤ turns_in cost (entry ∷ rest)
turns_first cost entry rest shown =
    let one : cond (nat_le cost entry.shows) 1 0 ≡ 1 = ap {B = ℕ} (λ b. cond b 1 0) (is_shown cost entry.shows shown) in
    let first : turns_in cost (entry ∷ []) ≡ 0 + cond (nat_le cost entry.shows) 1 0 = refl in
    omega (arith, one, first, turns_both cost (entry ∷ []) rest)

module _ (cost : ℕ) (entries : List GrowingNode) (place : ℕ) (old : GrowingNode) (inside : place < length entries) where
  -- a leaf that does not show the cost does not count
  without_it : (get_or entries place old).shows < cost → turns_in cost entries ≡ turns_in cost (take place entries) + turns_in cost (drop (place + 1) entries)
  without_it below =
      let f : GrowingNode → ℕ = λ (entry : GrowingNode). cond (nat_le cost entry.shows) 1 0 in
      omega (
        arith,
        sum_by-take-drop f entries (place + 1),
        count_by_more_no (λ (entry : GrowingNode). nat_le cost entry.shows) entries place old inside (not_shown cost (get_or entries place old).shows below),
      )

  -- where it gives way to others, the number rises by that of the others at least
  pub turns_rise : (lower : ℕ) (news : List GrowingNode) → lower ≤ cost → (get_or entries place old).shows < cost →
      turns_in cost entries + turns_in lower news ≤ turns_in lower (take place entries ++ (news ++ drop (place + 1) entries))
  turns_rise lower news within below =
      omega (
        arith,
        without_it below,
        turns_both lower (take place entries) (news ++ drop (place + 1) entries),
        turns_both lower news (drop (place + 1) entries),
        no_fewer lower cost (take place entries) within,
        no_fewer lower cost (drop (place + 1) entries) within,
      )

  pub nodes_then : (news : List GrowingNode) → length (take place entries ++ (news ++ drop (place + 1) entries)) + 1 ≡ length entries + length news
  nodes_then news =
      omega (
        arith,
        length-append (take place entries) (news ++ drop (place + 1) entries),
        length-append news (drop (place + 1) entries),
        length-take-le place entries (omega (arith, inside)),
        length-drop (place + 1) entries,
        inside,
      )
