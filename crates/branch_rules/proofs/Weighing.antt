-- What the bonds of a plan weigh, and the surcharges that they are.
use Rattle.std.proofs.Common.{◌≡◌, ℕ, suc, ◌+◌, ◌≤◌, Bool, true, false, ◌&&◌, List, [], ◌∷◌, refl, sym, ap, arith, ℤ, pos, negsuc, ◌+ℤ◌, ◌*ℤ◌, ◌≤ℤ◌, ◌<ℤ◌}
use Rattle.std.specs.Prelude.{IsTrue}
use Rattle.std.specs.List.{AllByRecursion}
use Rattle.std.proofs.lemmas.Bool.{false≢true}
use Rattle.std.proofs.lemmas.Int.{ints}
use Rattle.std.proofs.lemmas.List.Sums.{sum_by-cons}
use Rattle.std.proofs.Math.Nat.{mul-le-mul_left}
use Rattle.plan_model.specs.declared.step.Step.{Step}
use Rattle.decision_chains.specs.Neighbours.{served_edges}
use Rattle.branch_rules.specs.Bonds.{is_of, bond, bonds_after, bonds, plan_bonds, GroupWeight, bond_weight, surcharge, surcharges, surcharges_after, IsApart}
use Rattle.branch_rules.specs.Prices.{Rules, room_weight, signed_sum, weigh_bonds}
use Rattle.branch_rules.proofs.Bonding.{bit}
use Rattle.branch_rules.proofs.Signed.{signed_sum-none}

-- a weight times a sum
times_sum : (w : ℤ) (m n : ℕ) → w *ℤ pos (m + n) ≡ w *ℤ pos m +ℤ w *ℤ pos n
times_sum w m n = omega (arith, ints)

-- what the bonds of all walks weigh is, for each group, its weight times its bonds in the plan
pub no_bonds : (groups : List GroupWeight) → signed_sum (λ (w : GroupWeight). w.weight *ℤ pos 0) groups ≡ pos 0
no_bonds groups = signed_sum-none (λ (w : GroupWeight). w.weight *ℤ pos 0) groups (λ w. omega (arith, ints))

walk_more : (groups : List GroupWeight) (walk : List Step) (plan : List (List Step)) →
    signed_sum (λ w. w.weight *ℤ pos (plan_bonds w.edges (walk ∷ plan))) groups ≡
    bond_weight groups (served_edges walk) +ℤ signed_sum (λ w. w.weight *ℤ pos (plan_bonds w.edges plan)) groups
walk_more [] walk plan = refl
walk_more (w ∷ groups) walk plan =
    omega (
      arith,
      ints,
      ap (λ n. w.weight *ℤ pos n) (sum_by-cons (λ x. bonds w.edges (served_edges x)) walk plan),
      times_sum w.weight (bonds w.edges (served_edges walk)) (plan_bonds w.edges plan),
      walk_more groups walk plan,
    )

plan_weight : (groups : List GroupWeight) (plan : List (List Step)) →
    signed_sum (λ walk. bond_weight groups (served_edges walk)) plan ≡ signed_sum (λ w. w.weight *ℤ pos (plan_bonds w.edges plan)) groups
plan_weight groups [] = sym (no_bonds groups)
plan_weight groups (walk ∷ plan) = omega (arith, ints, plan_weight groups plan, walk_more groups walk plan)

-- no group weighs more than its bonds can
weigh_most : (z : ℤ) (n room : ℕ) → n ≤ room → (z <ℤ pos 0 → 1 ≤ n) → (z *ℤ pos n) ≤ℤ weigh_bonds z room
weigh_most (pos w) n room most some = omega (arith, ints, mul-le-mul_left w most)
weigh_most (negsuc w) n room most some = omega (arith, ints, mul-le-mul_left (suc w) (some (omega (arith, ints))))

module _ (rules : Rules) (plan : List (List Step)) (rooms : (group : List ℕ) → plan_bonds group plan ≤ rules.room group) (pairs : (group : List ℕ) → IsTrue (rules.together group) → 1 ≤ plan_bonds group plan) where
  each_most : (groups : List GroupWeight) → AllByRecursion (λ w. w.weight <ℤ pos 0 → IsTrue (rules.together w.edges)) groups →
      signed_sum (λ w. w.weight *ℤ pos (plan_bonds w.edges plan)) groups ≤ℤ room_weight rules groups
  each_most [] has_yes = omega (arith, ints)
  each_most (w ∷ groups) has_yes =
      omega (
        arith,
        ints,
        weigh_most w.weight (plan_bonds w.edges plan) (rules.room w.edges) (rooms w.edges) (λ sign. pairs w.edges (has_yes.0 sign)),
        each_most groups has_yes.1,
      )

  pub bonds_paid : (groups : List GroupWeight) → AllByRecursion (λ w. w.weight <ℤ pos 0 → IsTrue (rules.together w.edges)) groups →
      signed_sum (λ walk. bond_weight groups (served_edges walk)) plan ≤ℤ room_weight rules groups
  bonds_paid groups has_yes = omega (arith, ints, plan_weight groups plan, each_most groups has_yes)

-- bonds weigh what surcharges add
bond_turned : (a b : Bool) → bit (a && b) ≡ bit (b && a)
bond_turned true true = refl
bond_turned true false = refl
bond_turned false true = refl
bond_turned false false = refl

bond_none : (a b : Bool) (w : ℤ) → a ≡ false → w *ℤ pos (bit (a && b)) ≡ pos 0
bond_none true b w not = absurd (false≢true (sym not))
bond_none false b w not = omega (arith, ints)

pub surcharge_turned : (groups : List GroupWeight) (e f : ℕ) → surcharge groups e f ≡ surcharge groups f e
surcharge_turned [] e f = refl
surcharge_turned (w ∷ groups) e f =
    omega (arith, ints, ap (λ n. w.weight *ℤ pos n) (bond_turned (is_of w.edges e) (is_of w.edges f)), surcharge_turned groups e f)

pub surcharge_apart : (groups : List GroupWeight) (e f : ℕ) → IsApart groups e → surcharge groups e f ≡ pos 0
surcharge_apart [] e f apart = refl
surcharge_apart (w ∷ groups) e f apart =
    omega (arith, ints, bond_none (is_of w.edges e) (is_of w.edges f) w.weight apart.0, surcharge_apart groups e f apart.1)

weight_after : List GroupWeight → ℕ → List ℕ → ℤ
weight_after groups e es = signed_sum (λ (w : GroupWeight). w.weight *ℤ pos (bonds_after w.edges e es)) groups

one_follows : (groups : List GroupWeight) (e f : ℕ) (es : List ℕ) → weight_after groups e (f ∷ es) ≡ surcharge groups e f +ℤ weight_after groups f es
unfolding weight_after
one_follows [] e f es = refl
one_follows (w ∷ groups) e f es =
    omega (arith, ints, times_sum w.weight (bond w.edges e f) (bonds_after w.edges f es), one_follows groups e f es)

after_is : (groups : List GroupWeight) (e : ℕ) (es : List ℕ) → weight_after groups e es ≡ surcharges_after (surcharge groups) e es
unfolding weight_after
after_is groups e [] = no_bonds groups
after_is groups e (f ∷ es) = omega (arith, ints, one_follows groups e f es, after_is groups f es)

pub surcharges_are : (groups : List GroupWeight) (es : List ℕ) → bond_weight groups es ≡ surcharges (surcharge groups) es
unfolding weight_after
surcharges_are groups [] = no_bonds groups
surcharges_are groups (e ∷ es) = after_is groups e es
