-- A lean tree is small: each path decides each pair at most once, and has few cuts.
use Rattle.std.proofs.Common.{◌≡◌, ℕ, zero, suc, ◌+◌, ◌-◌, ◌*◌, ◌/◌, ◌^◌, ◌≤◌, ◌<◌, ◌==◌, Bool, true, false, ◌||◌, ◌&&◌, cond, List, [], ◌∷◌, ◌++◌, refl, ap, arith, add-one, inl, inr, ◌⊎◌}
use Rattle.std.specs.List.{list_any}
use Rattle.std.proofs.lemmas.List.Folds.{list_any-append}
use Rattle.std.proofs.lemmas.Bool.{or_cases, or_left, or_right, false_from_ne_true, eq-eqb, cases_order, and_from, cases_eq}
use Rattle.std.proofs.Math.Pow.{pow_mono}
use Rattle.std.proofs.Math.Nat.{two-pow-succ}
use Rattle.carp_base.specs.Problem.{Problem, IsRequired}
use Rattle.plan_model.specs.Sums.{sum_to}
use Rattle.decision_chains.specs.Exclusions.{says_yes, says_no, IsYes, IsNo, IsDetermined, same, said_no}
use Rattle.branch_rules.specs.Trees.{Tree, pair, cut, price, void, fixed, Support, IsLean, HasTurns, IsTest, PairsIn}
use Rattle.decision_chains.specs.declared.decision.Decision.{Decision}
use Rattle.decision_chains.specs.declared.decision.Decision.TheVariants.{Yes, No, Low, High}
use Rattle.decision_chains.specs.Laws.{YesPairsJoin}

sum_to-le : (m : ℕ) (f g : ℕ → ℕ) → ((e : ℕ) → f e ≤ g e) → sum_to m f ≤ sum_to m g
sum_to-le zero f g le = omega arith
sum_to-le (suc m) f g le = omega (arith, sum_to-le m f g le, le (suc m))

sum_to-less : (m : ℕ) (f g : ℕ → ℕ) (at : ℕ) → ((e : ℕ) → f e ≤ g e) → 1 ≤ at → at ≤ m → f at + 1 ≤ g at → sum_to m f + 1 ≤ sum_to m g
sum_to-less zero f g at le one most less = absurd (omega (arith, one, most))
sum_to-less (suc m) f g at le one most less = elim (cases_eq at (suc m)) [
  | inl last ↦ let less' : f (suc m) + 1 ≤ g (suc m) = rw last at less in omega (arith, sum_to-le m f g le, less')
  | inr other ↦ omega (arith, sum_to-less m f g at le one (omega (arith, most, other)) less, le (suc m))
]

-- the pair has a decision
abbrev pub decides : ℕ → ℕ → Decision → Bool
decides a b d = says_yes a b d || says_no a b d

abbrev pub open_pair : List Decision → ℕ → ℕ → ℕ
open_pair branch a b = cond (list_any (decides a b) branch) 0 1

-- how many pairs of different edges from 1 to m have none
abbrev pub open_pairs : ℕ → List Decision → ℕ
open_pairs m branch = sum_to m (λ b. sum_to (b - 1) (λ a. open_pair branch a b))

open_less : (x y : Bool) → cond (x || y) 0 1 ≤ cond x 0 1
open_less true y = omega arith
open_less false true = omega arith
open_less false false = omega arith

open_more : (branch : List Decision) (d : Decision) (a b : ℕ) → open_pair (branch ++ d ∷ []) a b ≤ open_pair branch a b
open_more branch d a b = rw (list_any-append (decides a b) branch (d ∷ [])) (open_less (list_any (decides a b) branch) (decides a b d || false))

open_pairs_more : (m : ℕ) (branch : List Decision) (d : Decision) → open_pairs m (branch ++ d ∷ []) ≤ open_pairs m branch
open_pairs_more m branch d = sum_to-le m _ _ (λ b. sum_to-le (b - 1) _ _ (λ a. open_more branch d a b))

abbrev pub open_bit : Bool → ℕ
open_bit b = cond b 0 1

closed_now : (x y : Bool) → y ≡ true → open_bit (x || (y || false)) ≡ 0
closed_now true y is = refl
closed_now false true is = refl
closed_now false false is = absurd (omega (arith, ap {B = ℕ} (λ t. cond t 1 0) is))

-- a new decision on an open pair leaves one fewer
open_pairs_less : (m : ℕ) (branch : List Decision) (d : Decision) (a b : ℕ) → 1 ≤ a → a < b → b ≤ m → list_any (decides a b) branch ≡ false → decides a b d ≡ true →
    open_pairs m (branch ++ d ∷ []) + 1 ≤ open_pairs m branch
open_pairs_less m branch d a b low order high open_yet here =
    let now : open_pair (branch ++ d ∷ []) a b ≡ 0 = rw (list_any-append (decides a b) branch (d ∷ [])) (closed_now (list_any (decides a b) branch) (decides a b d) here) in
    let then_one : open_pair branch a b ≡ 1 = ap open_bit open_yet in
    sum_to-less m _ _ b (λ e. sum_to-le (e - 1) _ _ (λ i. open_more branch d i e)) (omega (arith, low, order)) high
    (sum_to-less (b - 1) _ _ a (λ i. open_more branch d i b) low (omega (arith, order)) (omega (arith, now, then_one)))

decided_by : (branch : List Decision) (a b : ℕ) → list_any (decides a b) branch ≡ true → IsYes branch a b ⊎ IsNo branch a b
decided_by [] a b is = cc
decided_by (d ∷ branch) a b is = elim (or_cases (decides a b d) (list_any (decides a b) branch) is) [
  | inl here ↦ elim (or_cases (says_yes a b d) (says_no a b d) here) [
    | inl agrees ↦ inl (or_left (says_yes a b d) (list_any (says_yes a b) branch) agrees)
    | inr denies ↦ inr (or_left (says_no a b d) (list_any (says_no a b) branch) denies)
  ]
  | inr later ↦ elim (decided_by branch a b later) [
    | inl agrees ↦ inl (or_right (says_yes a b d) (list_any (says_yes a b) branch) agrees)
    | inr denies ↦ inr (or_right (says_no a b d) (list_any (says_no a b) branch) denies)
  ]
]

itself : (a b : ℕ) → ((a == a) && (b == b)) ≡ true
itself a b = and_from (a == a) (b == b) (eq-eqb a a refl) (eq-eqb b b refl)

-- both sides of a split at a pair that is not settled have fewer open pairs
split_less : (joins : YesPairsJoin) (p : Problem) (branch : List Decision) (a b : ℕ) (d : Decision) → IsRequired p a → IsRequired p b → ¬ (IsDetermined p branch a b) →
    decides a b d ≡ true → decides b a d ≡ true → open_pairs p.required (branch ++ d ∷ []) + 1 ≤ open_pairs p.required branch
split_less joins p branch a b d a_required b_required settled_not here there = elim (cases_order a b) [
  | inl is ↦ absurd (settled_not (inr (same is)))
  | inr apart ↦ elim apart [
    | inl below ↦ open_pairs_less p.required branch d a b a_required.from_one below b_required.in_range
        (false_from_ne_true _ (λ is. elim (decided_by branch a b is) [ inl agrees ↦ settled_not (inl agrees) | inr denies ↦ settled_not (inr (said_no denies)) ])) here
    | inr above ↦ open_pairs_less p.required branch d b a b_required.from_one above a_required.in_range
        (false_from_ne_true _ (λ is. elim (decided_by branch b a is) [ inl agrees ↦ settled_not (inl (joins.yes_turned branch b a agrees)) | inr denies ↦ settled_not (inr (said_no (joins.no_turned branch b a denies))) ])) there
  ]
]

doubled : (x i j n : ℕ) → i + 1 ≤ 2 ^ x → j + 1 ≤ 2 ^ x → n ≡ i + j + 1 → n + 1 ≤ 2 ^ (x + 1)
doubled x i j n one two is = let twice : 2 ^ (x + 1) ≡ 2 ^ x + 2 ^ x = rw add-one (two-pow-succ x) in omega (arith, twice, is)

leaf_turns : (P : Type 0) (n x : ℕ) → IsTest P n → n + 1 ≤ 2 ^ (x + 1)
leaf_turns P n x (inl holds) = let large : 2 ^ 1 ≤ 2 ^ (x + 1) = pow_mono {i = 1} {j = x + 1} (omega arith) in omega (arith, holds.1, large)
leaf_turns P n x (inr fails) = let large : 2 ^ 1 ≤ 2 ^ (x + 1) = pow_mono {i = 1} {j = x + 1} (omega arith) in omega (arith, fails.1, large)

module _ (joins : YesPairsJoin) (c : Support) (cost : ℕ) where
  turns_below : (branch : List Decision) (cuts : ℕ) (tree : Tree) (n : ℕ) → IsLean c branch cuts tree → PairsIn c.problem tree → HasTurns c branch cost tree n →
      n + 1 ≤ 2 ^ (open_pairs c.problem.required branch + cuts + 1)
  turns_below branch cuts (pair a b together apart) n lean pairs turns =
      let m = c.problem.required in
      let yes_less = split_less joins c.problem branch a b (Yes a b) pairs.0 pairs.1 lean.0
      (or_left _ false (or_left _ _ (itself a b))) (or_left _ false (or_right ((a == b) && (b == a)) _ (itself a b))) in
      let no_less = split_less joins c.problem branch a b (No a b) pairs.0 pairs.1 lean.0 (or_left _ _ (itself a b)) (or_right ((a == b) && (b == a)) _ (itself a b)) in
      let one = turns_below (branch ++ Yes a b ∷ []) cuts together turns.0 lean.1 pairs.2 turns.2 in
      let two = turns_below (branch ++ No a b ∷ []) cuts apart turns.1 lean.2 pairs.3 turns.3 in
      let one_pow : 2 ^ (open_pairs m (branch ++ Yes a b ∷ []) + cuts + 1) ≤ 2 ^ (open_pairs m branch + cuts) = pow_mono (omega (arith, yes_less)) in
      let two_pow : 2 ^ (open_pairs m (branch ++ No a b ∷ []) + cuts + 1) ≤ 2 ^ (open_pairs m branch + cuts) = pow_mono (omega (arith, no_less)) in
      doubled (open_pairs m branch + cuts) turns.0 turns.1 n (omega (arith, one, one_pow)) (omega (arith, two, two_pow)) turns.4
  turns_below branch cuts (cut shore k below above) n lean pairs turns =
      let m = c.problem.required in
      let one = turns_below (branch ++ Low shore k ∷ []) (cuts - 1) below turns.0 lean.1 pairs.0 turns.2 in
      let two = turns_below (branch ++ High shore k ∷ []) (cuts - 1) above turns.1 lean.2 pairs.1 turns.3 in
      let one_pow : 2 ^ (open_pairs m (branch ++ Low shore k ∷ []) + (cuts - 1) + 1) ≤ 2 ^ (open_pairs m branch + cuts) = pow_mono (omega (arith, open_pairs_more m branch (Low shore k), lean.0.0)) in
      let two_pow : 2 ^ (open_pairs m (branch ++ High shore k ∷ []) + (cuts - 1) + 1) ≤ 2 ^ (open_pairs m branch + cuts) = pow_mono (omega (arith, open_pairs_more m branch (High shore k), lean.0.0)) in
      doubled (open_pairs m branch + cuts) turns.0 turns.1 n (omega (arith, one, one_pow)) (omega (arith, two, two_pow)) turns.4
  turns_below branch cuts (price set) n lean pairs turns = leaf_turns _ n (open_pairs c.problem.required branch + cuts) turns
  turns_below branch cuts void n lean pairs turns = leaf_turns _ n (open_pairs c.problem.required branch + cuts) turns
  turns_below branch cuts fixed n lean pairs turns = leaf_turns _ n (open_pairs c.problem.required branch + cuts) turns

ones : (k : ℕ) → sum_to k (λ _. 1) ≡ k
ones zero = refl
ones (suc k) = omega (arith, ones k)

all_pairs : (m : ℕ) → 2 * sum_to m (λ b. sum_to (b - 1) (λ _. 1)) + m ≡ m * m
all_pairs zero = refl
all_pairs (suc m) = let back : suc m - 1 ≡ m = omega arith in let row : sum_to (suc m - 1) (λ _. 1) ≡ m = rw back (ones m) in omega (arith, all_pairs m, row)

half_of : (m s : ℕ) → 2 * s + m ≡ m * m → s ≤ m * (m - 1) / 2
half_of zero s twice = omega (arith, twice)
half_of (suc k) s twice =
    let back : suc k - 1 ≡ k = omega arith in
    let even : 2 * s ≡ suc k * k = omega (arith, twice) in
    rw back (omega (arith, even))

pub few_turns : (joins : YesPairsJoin) (c : Support) (cost : ℕ) (tree : Tree) (n : ℕ) → IsLean c [] 4 tree → PairsIn c.problem tree → HasTurns c [] cost tree n →
    n < 2 ^ (c.problem.required * (c.problem.required - 1) / 2 + 5)
few_turns joins c cost tree n lean pairs turns =
    let m = c.problem.required in
    let same_power : open_pairs m [] + 4 + 1 ≤ m * (m - 1) / 2 + 5 = omega (arith, half_of m (open_pairs m []) (all_pairs m)) in
    omega (arith, turns_below joins c cost [] 4 tree n lean pairs turns, pow_mono same_power)
