-- How large the value of a set without decisions is at most.
use Rattle.std.proofs.Common.{◌≡◌, ℕ, zero, suc, ◌+◌, ◌*◌, ◌≤◌, ◌<◌, max, Bool, true, false, List, [], ◌∷◌, length, subst, sym, ap, ◌∙◌, arith, to_z, of_z, SFits, ℤ, pos, negsuc, neg_ℤ, ◌+ℤ◌, ◌*ℤ◌, ◌≤ℤ◌, ◌<ℤ◌}
use mir.Syntax.{w128}
use Rattle.std.specs.Prelude.{if◌then◌else◌, IsSome, Option, None, Some, unwrap_or, ◌==◌}
use Rattle.std.specs.Int.{div_ceil}
use Rattle.std.specs.List.{All}
use Rattle.std.proofs.Math.Nat.{div-le_self, mul-le-mul}
use Rattle.std.proofs.lemmas.Int.{ints, to_z-of_z}
use Rattle.std.proofs.lemmas.List.{get_or-take, length-take-le}
use Rattle.std.proofs.lemmas.List.Elements.{All-from_get_or, All-from_recursion, All-head, All-tail, All-weaker}
use Rattle.std.proofs.lemmas.List.Sums.{sum_by-le, sum_by-le-sum_by}
use Rattle.carp_base.specs.declared.edge.Edge.{Edge}
use Rattle.carp_base.specs.Problem.{Problem, IsValid, no_edge, required_edges, total_demand}
use Rattle.cut_pool.specs.Pools.{shore_at}
use Rattle.cut_pool.specs.Shores.{is_in, demand_inside, need, required_crossings, touched, touches}
use Rattle.branch_rules.specs.declared.weight.Weight.{Weight}
use Rattle.decision_chains.specs.declared.decision.Decision.{Decision}
use Rattle.decision_chains.specs.declared.decision.Decision.TheVariants.{Yes, No, Low, High}
use Rattle.branch_rules.specs.Decisions.{highest, lowest, rules_of, to_parity}
use Rattle.branch_rules.specs.Laws.{FitsBranch}
use Rattle.branch_rules.specs.Limits.{IsFineDecision, IsFineGroup, IsFineWeight, IsPriceNumber, IsPriceSet}
use Rattle.branch_rules.specs.Bonds.{GroupWeight, room}
use Rattle.branch_rules.specs.Prices.{Prices, no_weight, signed_sum, value_of, weigh, weigh_bonds, weight_value}
use Rattle.branch_rules.specs.Refusals.{IsWithoutUpper}
use Rattle.branch_rules.specs.declared.branch.NoUpper.{NoUpper}
use Rattle.plan_model.specs.Offers.{smaller}
use Rattle.dual_master.specs.Candidates.{IsValueWithin}

demand_is_small : (p : Problem) → IsValid p → total_demand p ≤ 18000000
demand_is_small p valid =
    let count : length (required_edges p) ≡ p.required = length-take-le p.required p.edges valid.required_in in
    let each : All (λ (x : Edge). x.demand ≤ 30000) (required_edges p) = All-from_get_or (λ (x : Edge). x.demand ≤ 30000) (required_edges p) no_edge (λ i within.
    let inside : i < p.required = subst (λ n. i < n) count within in
    let task = valid.tasks (suc i) (record { from_one = omega arith; in_range = omega (arith, inside) }) in
    rw (get_or-take p.required p.edges i no_edge inside) (omega (arith, task.demand_fits, valid.capacity_in))) in
    omega (arith, sum_by-le (λ (x : Edge). x.demand) 30000 (required_edges p) each, count, valid.few_required)

if_less : (b : Bool) (n : ℕ) → (if b then n else 0) ≤ n
if_less true n = omega arith
if_less false n = omega arith

touched_is_small : (p : Problem) (inside : ℕ → Bool) → IsValid p → touched p inside ≤ 18000000
touched_is_small p inside valid =
    omega (arith, sum_by-le-sum_by (demand_inside inside) (λ (x : Edge). x.demand) (required_edges p) (λ x. if_less (touches inside x) x.demand), demand_is_small p valid)

ceil_small : (n k : ℕ) → div_ceil n k ≤ n + 1
ceil_small n k = omega (arith, div-le_self n k)

lower_small : (r n k : ℕ) → n ≤ 36000002 → k ≤ 1000001 → to_parity r (max n k) ≤ 36000003
lower_small r n k small few = omega arith

either : (b : Bool) (n m most : ℕ) → n ≤ most → m ≤ most → (if b then max n m else m) ≤ most
either true n m most one other = omega arith
either false n m most one other = other

highest_is_small : (shore : ℕ) (branch : List Decision) → All IsFineDecision branch → highest shore branch ≤ 1000001
highest_is_small shore [] fine = omega arith
highest_is_small shore (Yes a b ∷ rest) fine = highest_is_small shore rest (All-tail IsFineDecision (Yes a b) rest fine)
highest_is_small shore (No a b ∷ rest) fine = highest_is_small shore rest (All-tail IsFineDecision (No a b) rest fine)
highest_is_small shore (Low s k ∷ rest) fine = highest_is_small shore rest (All-tail IsFineDecision (Low s k) rest fine)
highest_is_small shore (High s k ∷ rest) fine =
    either (s == shore) (k + 1) (highest shore rest) 1000001 (omega (arith, All-head IsFineDecision (High s k) rest fine))
    (highest_is_small shore rest (All-tail IsFineDecision (High s k) rest fine))

smaller_is_small : (b : Bool) (k : ℕ) (other : Option ℕ) → k ≤ 1000000 → unwrap_or other 0 ≤ 1000000 → unwrap_or (if b then smaller (Some k) other else other) 0 ≤ 1000000
smaller_is_small true k None small rest = small
smaller_is_small true k (Some n) small rest = omega arith
smaller_is_small false k other small rest = rest

lowest_is_small : (shore : ℕ) (branch : List Decision) → All IsFineDecision branch → unwrap_or (lowest shore branch) 0 ≤ 1000000
lowest_is_small shore [] fine = omega arith
lowest_is_small shore (Yes a b ∷ rest) fine = lowest_is_small shore rest (All-tail IsFineDecision (Yes a b) rest fine)
lowest_is_small shore (No a b ∷ rest) fine = lowest_is_small shore rest (All-tail IsFineDecision (No a b) rest fine)
lowest_is_small shore (High s k ∷ rest) fine = lowest_is_small shore rest (All-tail IsFineDecision (High s k) rest fine)
lowest_is_small shore (Low s k ∷ rest) fine =
    smaller_is_small (s == shore) k (lowest shore rest) (All-head IsFineDecision (Low s k) rest fine) (lowest_is_small shore rest (All-tail IsFineDecision (Low s k) rest fine))

need_is_small : (p : Problem) (inside : ℕ → Bool) → IsValid p → need p inside ≤ 36000002
need_is_small p inside valid = omega (arith, ceil_small (touched p inside) p.capacity, touched_is_small p inside valid)

-- a number is at most so large, either way
pub record IsUpTo (most : ℕ) (z : ℤ) : Type 0 where
  pub low : neg_ℤ (pos most) ≤ℤ z
  pub high : z ≤ℤ pos most

sum_small : {X : Type 0} (f : X → ℤ) (most : ℕ) (xs : List X) → All (λ x. IsUpTo most (f x)) xs → IsUpTo (most * length xs) (signed_sum f xs)
sum_small f most [] all = record { low = omega (arith, ints); high = omega (arith, ints) }
sum_small f most (x ∷ xs) all =
    let first = All-head (λ y. IsUpTo most (f y)) x xs all in
    let rest = sum_small f most xs (All-tail (λ y. IsUpTo most (f y)) x xs all) in
    record {
      low = omega (arith, ints, first.low, rest.low);
      high = omega (arith, ints, first.high, rest.high);
    }

neg_times : (n m : ℕ) → (pos n *ℤ neg_ℤ (pos m)) +ℤ pos (n * m) ≡ pos 0
neg_times n zero = omega (arith, ints)
neg_times n (suc m) = omega (arith, ints)

weigh_small : (z : ℤ) (low high : ℕ) → IsPriceNumber z → low ≤ 36000003 → high ≤ 1000000 → IsUpTo 40000000000000000000000 (weigh z low high)
weigh_small (pos w) low high within small few =
    let bound : w ≤ 1000000000000000 = omega (arith, ints, within.high) in
    let most : w * low ≤ 1000000000000000 * 36000003 = mul-le-mul bound small in
    record { low = omega (arith, ints, most); high = omega (arith, ints, most) }
weigh_small (negsuc w) low high within small few =
    let bound : suc w ≤ 1000000000000000 = omega (arith, ints, within.low) in
    let most : suc w * high ≤ 1000000000000000 * 1000000 = mul-le-mul bound few in
    record { low = omega (arith, ints, most); high = omega (arith, ints, most) }

-- a weight on bonds, counted by a room of at most 600
bonds_small : (z : ℤ) (most : ℕ) → IsPriceNumber z → most ≤ 600 → IsUpTo 600000000000000000 (weigh_bonds z most)
bonds_small (pos w) most within few =
    let bound : w ≤ 1000000000000000 = omega (arith, ints, within.high) in
    let product : w * most ≤ 1000000000000000 * 600 = mul-le-mul bound few in
    record { low = omega (arith, ints, product); high = omega (arith, ints, product) }
bonds_small (negsuc w) most within few = record { low = omega (arith, ints, within.low); high = omega (arith, ints) }

module _ (p : Problem) (pool : List (List ℕ)) (branch : List Decision) (set : Prices) (valid : IsValid p) (decisions : All IsFineDecision branch) (fine : IsPriceSet set) where
  weight_small : (w : Weight) → IsFineWeight w → IsUpTo 40000000000000000000000 (weight_value (rules_of p pool branch) w)
  weight_small w is =
      let inside = is_in (shore_at pool w.shore) in
      weigh_small w.weight (to_parity (required_crossings p inside) (max (need p inside) (highest w.shore branch))) (unwrap_or (lowest w.shore branch) 0) is.within
      (lower_small (required_crossings p inside) (need p inside) (highest w.shore branch) (need_is_small p inside valid) (highest_is_small w.shore branch decisions))
      (lowest_is_small w.shore branch decisions)

  pub value_within : IsValueWithin (value_of (rules_of p pool branch) set)
  value_within =
      let services =
      sum_small (λ (z : ℤ). z) 1000000000000000 set.services
      (All-weaker IsPriceNumber (λ (z : ℤ). IsUpTo 1000000000000000 z) (λ z is. record { low = is.low; high = is.high }) set.services fine.services) in
      let weights =
      sum_small (weight_value (rules_of p pool branch)) 40000000000000000000000 set.weights
      (All-weaker IsFineWeight (λ (w : Weight). IsUpTo 40000000000000000000000 (weight_value (rules_of p pool branch) w)) weight_small set.weights fine.weights) in
      let rooms =
      sum_small (λ (w : GroupWeight). weigh_bonds w.weight (room p w.edges)) 600000000000000000 set.groups
      (All-weaker IsFineGroup (λ (w : GroupWeight). IsUpTo 600000000000000000 (weigh_bonds w.weight (room p w.edges)))
      (λ w is. bonds_small w.weight (room p w.edges) is.within (omega (arith, is.few))) set.groups fine.groups) in
      record {
        low = omega (arith, ints, services.low, weights.low, rooms.high, fine.few_services, fine.few_weights, fine.few_groups);
        high = omega (arith, ints, services.high, weights.high, rooms.low, fine.few_services, fine.few_weights, fine.few_groups);
      }

-- a value times a denominator
pub product_small : (unit : ℕ) (value : ℤ) → unit ≤ 1000000 → IsValueWithin value → IsUpTo 100000000000000000000000000000000 (pos unit *ℤ value)
product_small unit (pos v) few within =
    let small : v ≤ 100000000000000000000000000 = omega (arith, ints, within.high) in
    let most : unit * v ≤ 1000000 * 100000000000000000000000000 = mul-le-mul few small in
    record { low = omega (arith, ints, most); high = omega (arith, ints, most) }
product_small unit (negsuc v) few within =
    let small : suc v ≤ 100000000000000000000000000 = omega (arith, ints, within.low) in
    let most : unit * suc v ≤ 1000000 * 100000000000000000000000000 = mul-le-mul few small in
    record { low = omega (arith, ints, most, neg_times unit (suc v)); high = omega (arith, ints, most, neg_times unit (suc v)) }

-- such a number has a place in 128 bits
pub fits_bits : (z : ℤ) → IsUpTo 100000000000000000000000000000000 z → SFits w128 z
fits_bits (pos n) small = omega (arith, ints, small.high)
fits_bits (negsuc n) small = omega (arith, ints, small.low)

pub same_bits : (z : ℤ) → IsUpTo 100000000000000000000000000000000 z → to_z w128 (of_z w128 z) ≡ z
same_bits z small = to_z-of_z w128 z (fits_bits z small)

pub value_bits : (z : ℤ) → IsValueWithin z → to_z w128 (of_z w128 z) ≡ z
value_bits z within = same_bits z (record { low = omega (arith, ints, within.low); high = omega (arith, ints, within.high) })

-- what a product of a denominator and a value is made of
module _ (unit : ℕ) (value read : ℤ) (few : unit ≤ 1000000) (within : IsValueWithin value) (is : read ≡ pos unit) where
  unit_bits : to_z w128 (of_z w128 read) ≡ pos unit
  unit_bits = ap (λ (z : ℤ). to_z w128 (of_z w128 z)) is ∙ same_bits (pos unit) (record { low = omega (arith, ints); high = omega (arith, ints, few) })

  product_is : (to_z w128 (of_z w128 read) *ℤ to_z w128 (of_z w128 value)) ≡ (pos unit *ℤ value)
  product_is = ap (λ (z : ℤ). z *ℤ to_z w128 (of_z w128 value)) unit_bits ∙ ap (λ (z : ℤ). pos unit *ℤ z) (value_bits value within)

  pub product_fits : SFits w128 (to_z w128 (of_z w128 read) *ℤ to_z w128 (of_z w128 value))
  product_fits = subst (SFits w128) (sym product_is) (fits_bits (pos unit *ℤ value) (product_small unit value few within))

  -- as it is read back
  pub product_back : to_z w128 (of_z w128 (to_z w128 (of_z w128 read) *ℤ to_z w128 (of_z w128 value))) ≡ (pos unit *ℤ value)
  product_back = to_z-of_z w128 (to_z w128 (of_z w128 read) *ℤ to_z w128 (of_z w128 value)) product_fits ∙ product_is

-- a set that fits under a branch has an upper number for each negative weight
pub not_refused : (p : Problem) (pool : List (List ℕ)) (branch : List Decision) (set : Prices) (refusal : NoUpper) → FitsBranch p pool branch set → IsWithoutUpper branch set refusal → ⊥
not_refused p pool branch set refusal fits is =
    is.lacks (All-from_recursion (λ (w : Weight). w.weight <ℤ pos 0 → IsSome (lowest w.shore branch)) set.weights fits.fits.has_upper is.place no_weight is.in_range)
