-- A set that was raised, over a pool that gains shores.
use Rattle.std.proofs.Common.{ℕ, zero, suc, ◌≤◌, Bool, true, false, List, [], ◌∷◌, ◌++◌, length, sym, subst, ◌∙◌, ap, arith, ℤ, pos, negsuc, ◌+ℤ◌, ◌*ℤ◌, ◌≤ℤ◌, length-append, inl, inr}
use Rattle.std.specs.Prelude.{◌==◌, nat_lt, if◌then◌else◌}
use Rattle.std.specs.List.{All, AllByRecursion}
use Rattle.std.proofs.lemmas.List.Elements.{All-from_recursion, All-weaker, recursion_from_All}
use Rattle.carp_base.specs.Problem.{Problem}
use Rattle.cut_pool.specs.Pools.{IsGrown, IsShoreNumber}
use Rattle.decision_chains.specs.declared.decision.Decision.{Decision}
use Rattle.branch_rules.specs.Decisions.{rules_of}
use Rattle.branch_rules.specs.Limits.{IsShoreOf}
use Rattle.branch_rules.specs.Prices.{Prices, value_of}
use Rattle.branch_rules.specs.declared.weight.Weight.{Weight}
use Rattle.tight_prices.specs.Tight.{IsNeededSingle, IsPriceTight, IsTight, IsWeightTight, add_weight, put_weight, with_price, with_weight}
use Rattle.dual_master.specs.Growth.{GrowthKeepsSets}
use Rattle.branch_tree.specs.Leaves.{IsRaisedFrom}
use Rattle.branch_tree.specs.Searches.{set_in}
use Rattle.branch_tree.proofs.Pools.{grown_at, numbers_of, shore_of_grown}

-- what holds both ways holds whatever a test says
either_way : {X : Type 0} (P : X → Type 0) (b : Bool) (x y : X) → P x → P y → P (if b then x else y)
either_way P true x y first second = first
either_way P false x y first second = second

-- one more weight on a shore of a pool
module _ (pool : List (List ℕ)) (shore : ℕ) (is : IsShoreNumber pool shore) where
  abbrev IsInside : Weight → Type 0
  IsInside w = IsShoreNumber pool w.shore

  put_inside : (z : ℤ) (weights : List Weight) → AllByRecursion IsInside weights → AllByRecursion IsInside (put_weight shore z weights)
  put_inside (pos zero) weights all = all
  put_inside (pos (suc n)) weights all = (is, all)
  put_inside (negsuc n) weights all = (is, all)

  add_inside : (d : ℕ) (weights : List Weight) → AllByRecursion IsInside weights → AllByRecursion IsInside (add_weight shore d weights)
  add_inside d [] all = put_inside (pos d) [] tt
  add_inside d (w ∷ weights) all =
      either_way (AllByRecursion IsInside) (nat_lt shore w.shore) (put_weight shore (pos d) (w ∷ weights))
      (if w.shore == shore then put_weight shore (w.weight +ℤ pos d) weights else w ∷ add_weight shore d weights) (put_inside (pos d) (w ∷ weights) all)
      (either_way (AllByRecursion IsInside) (w.shore == shore) (put_weight shore (w.weight +ℤ pos d) weights) (w ∷ add_weight shore d weights)
      (put_inside (w.weight +ℤ pos d) weights all.1) (all.0, add_inside d weights all.1))

  added_inside : (d : ℕ) (set : Prices) → All IsInside set.weights → All IsInside (add_weight shore d set.weights)
  added_inside d set all = All-from_recursion IsInside (add_weight shore d set.weights) (add_inside d set.weights (recursion_from_All IsInside set.weights all))

-- a tight set stays tight
module _ (law : GrowthKeepsSets) (p : Problem) (pool more : List (List ℕ)) (branch : List Decision) (set : Prices) (inside : All (λ (w : Weight). IsShoreNumber pool w.shore) set.weights) where
  price_still : (e : ℕ) → IsPriceTight p pool branch set e → IsPriceTight p (pool ++ more) branch set e
  price_still e (inl most) = inl most
  price_still e (inr over) = inr (λ fits. over ((law p pool more branch (with_price set e 1) inside).fitted fits))

  weight_still : (shore : ℕ) → IsShoreNumber pool shore → IsWeightTight p pool branch set shore → IsWeightTight p (pool ++ more) branch set shore
  weight_still shore is (inl most) = inl most
  weight_still shore is (inr over) = inr (λ fits. over ((law p pool more branch (with_weight set shore 1) (added_inside pool shore is 1 set inside)).fitted fits))

  needed_before : (shore : ℕ) → shore ≤ length pool → IsNeededSingle p (pool ++ more) shore → IsNeededSingle p pool shore
  needed_before shore within x =
      let is : IsShoreNumber pool shore = record { from_one = x.number.from_one; in_range = within } in
      record { number = is; v = x.v; single = sym (grown_at pool more shore is) ∙ x.single; needed = x.needed }

  tight_still : (known : ℕ) → known ≤ length pool → IsTight p pool known branch set → IsTight p (pool ++ more) known branch set
  tight_still known few tight = record {
    fits = (law p pool more branch set inside).fits tight.fits;
    prices = λ e required. price_still e (tight.prices e required);
    weights = λ shore below x. weight_then shore below (needed_before shore (omega (arith, below, few)) x);
  } where
    weight_then : (shore : ℕ) → shore ≤ known → IsNeededSingle p pool shore → IsWeightTight p (pool ++ more) branch set shore
    weight_then shore below x = weight_still shore x.number (tight.weights shore below x)

no_shorter : (pool after : List (List ℕ)) → IsGrown pool after → length pool ≤ length after
no_shorter pool after grown = omega (arith, ap (λ (xs : List (List ℕ)). length xs) grown.added, length-append pool grown.more)

-- what was raised from the set of a number is so over a pool that gains more shores
pub raised_grows : GrowthKeepsSets → (p : Problem) (pool middle after : List (List ℕ)) (branch : List Decision) (sets : List Prices) (number : ℕ) (set : Prices) → IsGrown pool middle → IsGrown middle after →
    IsRaisedFrom p pool branch sets number middle set → IsRaisedFrom p pool branch sets number after set
raised_grows law p pool middle after branch sets number set one other raised =
    let start = set_in sets number in
    let inside = numbers_of p middle set raised.shores in
    subst (λ (xs : List (List ℕ)). IsRaisedFrom p pool branch sets number xs set) (sym other.added) (record {
      from_unit = raised.from_unit;
      tight = tight_still law p middle other.more branch set inside (length pool) (no_shorter pool middle one) raised.tight;
      shores =
          All-weaker (λ (w : Weight). IsShoreOf p middle w.shore) (λ (w : Weight). IsShoreOf p (middle ++ other.more) w.shore) (λ w. shore_of_grown p middle other.more w.shore) set.weights raised.shores;
      groups = raised.groups;
      short_groups = raised.short_groups;
      no_lower =
          subst (λ (z : ℤ). (pos set.unit *ℤ value_of (rules_of p pool branch) start) ≤ℤ (pos start.unit *ℤ z)) (sym (law p middle other.more branch set inside).value) raised.no_lower;
    })
