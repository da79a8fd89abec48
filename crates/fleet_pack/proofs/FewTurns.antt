-- A lean tree is small: a path splits each pair at most once.
use Rattle.std.proofs.Common.{◌≡◌, ℕ, zero, suc, ◌+◌, ◌-◌, ◌*◌, ◌/◌, ◌^◌, ◌≤◌, ◌<◌, ◌==◌, Bool, true, false, ◌||◌, ◌&&◌, cond, if◌then◌else◌, nat_le, List, [], ◌∷◌, ◌++◌, refl, sym, ap, ◌∙◌, subst, arith, add-one, inl, inr, ◌⊎◌}
use Rattle.std.specs.List.{list_any, Contains}
use Rattle.std.proofs.lemmas.List.Folds.{list_any-append}
use Rattle.std.proofs.lemmas.Bool.{or_cases, and_from, false_from_ne_true, eq-eqb, eqb-true, cases_eq}
use Rattle.std.proofs.Math.Pow.{pow_mono}
use Rattle.std.proofs.Math.Nat.{two-pow-succ}
use Rattle.carp_base.specs.Problem.{Problem}
use Rattle.plan_model.specs.Sums.{sum_to}
use Rattle.packing_trees.specs.declared.node.PackChoice.{PackChoice}
use Rattle.packing_trees.specs.declared.node.PackChoice.TheVariants.{Together, Apart}
use Rattle.packing_trees.specs.Bundles.{IsPair, IsClosedPair, joined, bundles_after, bundle_count, share_value}
use Rattle.packing_trees.specs.Trees.{PackTree, pair, share, settled, PairsIn, IsLean, turns_of}
use Rattle.fleet_pack.proofs.Bundling.{sum_le, together_same}

sum_less : (m : ℕ) (f g : ℕ → ℕ) (at : ℕ) → ((e : ℕ) → f e ≤ g e) → 1 ≤ at → at ≤ m → f at + 1 ≤ g at → sum_to m f + 1 ≤ sum_to m g
sum_less zero f g at le one most less = absurd (omega (arith, one, most))
sum_less (suc m) f g at le one most less = elim (cases_eq at (suc m)) [
  | inl last ↦ let less' : f (suc m) + 1 ≤ g (suc m) = rw last at less in omega (arith, sum_le m f g le, less')
  | inr other ↦ omega (arith, sum_less m f g at le one (omega (arith, most, other)) less, le (suc m))
]

-- the choice is on this pair
abbrev decides : ℕ → ℕ → PackChoice → Bool
decides a b (Together c d) = (c == a) && (d == b)
decides a b (Apart c d) = (c == a) && (d == b)

abbrev open_bit : Bool → ℕ
open_bit b = cond b 0 1

abbrev open_pair : List PackChoice → ℕ → ℕ → ℕ
open_pair branch a b = open_bit (list_any (decides a b) branch)

-- how many pairs of different edges from 1 to m have no choice
abbrev open_pairs : ℕ → List PackChoice → ℕ
open_pairs m branch = sum_to m (λ b. sum_to (b - 1) (λ a. open_pair branch a b))

open_less : (x y : Bool) → open_bit (x || y) ≤ open_bit x
open_less true y = omega arith
open_less false true = omega arith
open_less false false = omega arith

open_more : (branch : List PackChoice) (d : PackChoice) (a b : ℕ) → open_pair (branch ++ d ∷ []) a b ≤ open_pair branch a b
open_more branch d a b = rw (list_any-append (decides a b) branch (d ∷ [])) (open_less (list_any (decides a b) branch) (decides a b d || false))

closed_now : (x y : Bool) → y ≡ true → open_bit (x || (y || false)) ≡ 0
closed_now true y is = refl
closed_now false true is = refl
closed_now false false is = absurd (omega (arith, ap {B = ℕ} (λ t. cond t 1 0) is))

-- a choice on an open pair leaves one fewer
open_pairs_less : (m : ℕ) (branch : List PackChoice) (d : PackChoice) (a b : ℕ) → 1 ≤ a → a < b → b ≤ m → list_any (decides a b) branch ≡ false → decides a b d ≡ true →
    open_pairs m (branch ++ d ∷ []) + 1 ≤ open_pairs m branch
open_pairs_less m branch d a b low order high open_yet here =
    let now : open_pair (branch ++ d ∷ []) a b ≡ 0 = rw (list_any-append (decides a b) branch (d ∷ [])) (closed_now (list_any (decides a b) branch) (decides a b d) here) in
    let then_one : open_pair branch a b ≡ 1 = ap open_bit open_yet in
    sum_less m _ _ b (λ e. sum_le (e - 1) _ _ (λ i. open_more branch d i e)) (omega (arith, low, order)) high
    (sum_less (b - 1) _ _ a (λ i. open_more branch d i b) low (omega (arith, order)) (omega (arith, now, then_one)))

both_true : (x y : Bool) → (x && y) ≡ true → (x ≡ true) × (y ≡ true)
both_true true y is = (refl, is)
both_true false y is = cc

same_both : (c a d b : ℕ) → ((c == a) && (d == b)) ≡ true → (c ≡ a) × (d ≡ b)
same_both c a d b is = let both = both_true (c == a) (d == b) is in (eqb-true c a both.0, eqb-true d b both.1)

later : (branch : List PackChoice) (x y : PackChoice) → Contains branch y → Contains (x ∷ branch) y
later branch x y has = (suc has.0, omega (arith, has.1), has.2)

-- a pair with a choice is in one bundle, or parted
decided_is : (names : ℕ → ℕ) (branch : List PackChoice) (a b : ℕ) → list_any (decides a b) branch ≡ true →
    (bundles_after names branch a ≡ bundles_after names branch b) ⊎ Contains branch (Apart a b)
decided_is names [] a b is = cc
decided_is names (Together c d ∷ branch) a b is = elim (or_cases (decides a b (Together c d)) (list_any (decides a b) branch) is) [
  | inl here ↦
      let same = same_both c a d b here in
      inl (subst (λ x. bundles_after names (Together x d ∷ branch) a ≡ bundles_after names (Together x d ∷ branch) b) (sym same.0)
      (subst (λ y. bundles_after names (Together a y ∷ branch) a ≡ bundles_after names (Together a y ∷ branch) b) (sym same.1) (together_same names branch a b)))
  | inr after ↦ elim (decided_is (joined names c d) branch a b after) [ inl same ↦ inl same | inr has ↦ inr (later branch (Together c d) (Apart a b) has) ]
]
decided_is names (Apart c d ∷ branch) a b is = elim (or_cases (decides a b (Apart c d)) (list_any (decides a b) branch) is) [
  | inl here ↦
      let same = same_both c a d b here in
      inr (0, omega arith, ap (λ x. Apart x d) same.0 ∙ ap (λ y. Apart a y) same.1)
  | inr after ↦ elim (decided_is names branch a b after) [ inl same ↦ inl same | inr has ↦ inr (later branch (Apart c d) (Apart a b) has) ]
]

decided_closed : (p : Problem) (branch : List PackChoice) (a b : ℕ) → list_any (decides a b) branch ≡ true → IsClosedPair p branch a b
decided_closed p branch a b is = elim (decided_is (λ e. e) branch a b is) [
  | inl same ↦ inl same
  | inr has ↦ inr (inl (record { c = a; d = b; apart = has; between = inl (refl, refl) }))
]

itself : (a b : ℕ) → ((a == a) && (b == b)) ≡ true
itself a b = and_from (a == a) (b == b) (eq-eqb a a refl) (eq-eqb b b refl)

split_less : (p : Problem) (branch : List PackChoice) (a b : ℕ) (d : PackChoice) → IsPair p a b → ¬ (IsClosedPair p branch a b) → decides a b d ≡ true →
    open_pairs p.required (branch ++ d ∷ []) + 1 ≤ open_pairs p.required branch
split_less p branch a b d within stays here =
    open_pairs_less p.required branch d a b within.0 within.1 within.2 (false_from_ne_true _ (λ is. stays (decided_closed p branch a b is))) here

doubled : (x i j : ℕ) → i + 1 ≤ 2 ^ x → j + 1 ≤ 2 ^ x → i + j + 1 + 1 ≤ 2 ^ (x + 1)
doubled x i j one two = let twice : 2 ^ (x + 1) ≡ 2 ^ x + 2 ^ x = rw add-one (two-pow-succ x) in omega (arith, twice, one, two)

bit_turns : (b : Bool) (x : ℕ) → (if b then 1 else 0) + 1 ≤ 2 ^ (x + 1)
bit_turns true x = let large : 2 ^ 1 ≤ 2 ^ (x + 1) = pow_mono {i = 1} {j = x + 1} (omega arith) in omega (arith, large)
bit_turns false x = let large : 2 ^ 1 ≤ 2 ^ (x + 1) = pow_mono {i = 1} {j = x + 1} (omega arith) in omega (arith, large)

turns_below : (p : Problem) (count : ℕ) (branch : List PackChoice) (tree : PackTree) → PairsIn p tree → IsLean p branch tree →
    turns_of p branch count tree + 1 ≤ 2 ^ (open_pairs p.required branch + 1)
turns_below p count branch (pair a b together apart) pairs lean =
    let m = p.required in
    let one_less = split_less p branch a b (Together a b) pairs.0 lean.0 (itself a b) in
    let two_less = split_less p branch a b (Apart a b) pairs.0 lean.0 (itself a b) in
    let one = turns_below p count (branch ++ Together a b ∷ []) together pairs.1 lean.1 in
    let two = turns_below p count (branch ++ Apart a b ∷ []) apart pairs.2 lean.2 in
    let one_pow : 2 ^ (open_pairs m (branch ++ Together a b ∷ []) + 1) ≤ 2 ^ open_pairs m branch = pow_mono (omega (arith, one_less)) in
    let two_pow : 2 ^ (open_pairs m (branch ++ Apart a b ∷ []) + 1) ≤ 2 ^ open_pairs m branch = pow_mono (omega (arith, two_less)) in
    doubled (open_pairs m branch) (turns_of p (branch ++ Together a b ∷ []) count together) (turns_of p (branch ++ Apart a b ∷ []) count apart) (omega (arith, one, one_pow)) (omega (arith, two, two_pow))
turns_below p count branch (share s) pairs lean = bit_turns (nat_le count (share_value p branch s)) (open_pairs p.required branch)
turns_below p count branch settled pairs lean = bit_turns (nat_le count (bundle_count p branch)) (open_pairs p.required branch)

ones : (k : ℕ) → sum_to k (λ _. 1) ≡ k
ones zero = refl
ones (suc k) = omega (arith, ones k)

all_pairs : (m : ℕ) → 2 * sum_to m (λ b. sum_to (b - 1) (λ _. 1)) + m ≡ m * m
all_pairs zero = refl
all_pairs (suc m) = let back : suc m - 1 ≡ m = omega arith in let row : sum_to (suc m - 1) (λ _. 1) ≡ m = rw back (ones m) in omega (arith, all_pairs m, row)

half_of : (m s : ℕ) → 2 * s + m ≡ m * m → s ≤ m * (m - 1) / 2
half_of zero s twice = omega (arith, twice)
half_of (suc k) s twice =
    let back : suc k - 1 ≡ k = omega arith in
    let even : 2 * s ≡ suc k * k = omega (arith, twice) in
    rw back (omega (arith, even))

pub few_turns : (p : Problem) (count : ℕ) (tree : PackTree) → PairsIn p tree → IsLean p [] tree → turns_of p [] count tree < 2 ^ (p.required * (p.required - 1) / 2 + 1)
few_turns p count tree pairs lean =
    let m = p.required in
    let same_power : open_pairs m [] + 1 ≤ m * (m - 1) / 2 + 1 = omega (arith, half_of m (open_pairs m []) (all_pairs m)) in
    omega (arith, turns_below p count [] tree pairs lean, pow_mono same_power)
