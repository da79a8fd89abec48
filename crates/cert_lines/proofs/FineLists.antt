-- The lines of tours, shores and price sets are good.
use Rattle.std.proofs.Common.{◌≡◌, ◌≢◌, ℕ, zero, suc, ◌+◌, ◌-◌, ◌<◌, ◌≤◌, Bool, true, false, cond, eqb, List, [], ◌∷◌, ◌++◌, map, length, get_or, IsTrue, refl, sym, ap, subst, ◌∙◌, append_assoc, arith, length-append}
use Rattle.std.specs.List.{All, AllByRecursion, flat_map, sum_by}
use Rattle.std.specs.List.Sorted.{IsStrictlyIncreasing}
use Rattle.std.proofs.lemmas.Bool.{false≢true}
use Rattle.std.proofs.lemmas.List.{get_or_append_left, get_or_default, length-map}
use Rattle.std.proofs.lemmas.List.Elements.{All-map, All-weaker}
use Rattle.std.proofs.lemmas.List.Sums.{sum_by-cons}
use Rattle.std.proofs.Math.Seq.{get_or-append_seam}
use Rattle.plan_model.specs.declared.step.Step.{Step}
use Rattle.cut_pool.specs.Pools.{IsShoreNumber, AreDifferent, shore_at}
use Rattle.branch_rules.specs.Limits.{IsPriceSet}
use Rattle.branch_rules.specs.Prices.{Prices}
use Rattle.branch_rules.specs.declared.weight.Weight.{Weight}
use Rattle.cert_lines.specs.declared.next.Next.{Next}
use Rattle.cert_lines.specs.declared.next.Next.TheVariants as stands
use Rattle.cert_lines.specs.Lines.{Line, prices, weights, bonds, nothing}
use Rattle.cert_lines.specs.Order.{LatestFirst, version_of, next_of, follows, left_of, tours_to_come, shores_to_come, sets_to_come}
use Rattle.cert_lines.specs.Certificates.{steps_of, shores_of, sets_of, has_groups}
use Rattle.cert_lines.specs.Ranges.{IsWithin, IsWeightInRange, IsGroupInRange, AreGroupsInRange}
use Rattle.cert_lines.specs.Agreement.{AreGroups}
use Rattle.cert_lines.specs.Spelling.{AreGood, tour_line, shore_line, set_lines, IsFineShore, IsFineSet}
use Rattle.cert_lines.proofs.Listed.{listed}

less : (n : ℕ) → suc n - 1 ≡ n
less n = omega arith

-- Tours.

pub tours_good : (plan : List (List Step)) (said : LatestFirst) (lines : List Line) → next_of said ≡ tours_to_come (length plan) → steps_of said + sum_by length plan ≤ 2000000 →
    AllByRecursion (All (λ s. IsWithin 1 4000 s.edge)) plan →
    (next_of (listed (map tour_line plan) said) ≡ stands.Shores → AreGood (listed (map tour_line plan) said) lines) → AreGood said (map tour_line plan ++ lines)
tours_good [] said lines at few edges later = later at
tours_good (steps ∷ plan) said lines at few edges later =
    let total = sum_by-cons length steps plan in (
      subst (λ (y : Next). IsTrue (follows y (tour_line steps))) (sym at) refl,
      (omega arith, edges.0),
      refl,
      tours_good plan (tour_line steps ∷ said) lines (ap (λ (y : Next). tours_to_come (left_of y - 1)) at ∙ ap tours_to_come (less (length plan))) (omega arith) edges.1 later,
    )

-- Shores.

-- a shore is none of those before it
none_before : (earlier later : List (List ℕ)) (vertices : List ℕ) → AreDifferent (earlier ++ vertices ∷ later) → All (λ other. other ≢ vertices) earlier
none_before earlier later vertices different k d below same =
    let whole = length-append earlier (vertices ∷ later) in
    let first : shore_at (earlier ++ vertices ∷ later) (suc k) ≡ vertices =
    get_or_append_left earlier (vertices ∷ later) [] k below ∙ get_or_default earlier k [] d below ∙ same in
    let second : shore_at (earlier ++ vertices ∷ later) (suc (length earlier)) ≡ vertices = get_or-append_seam earlier vertices later [] in
    let one = different (suc k) (suc (length earlier)) (record { from_one = omega arith; in_range = omega arith }) (record { from_one = omega arith; in_range = omega arith }) (first ∙ sym second) in
    omega arith

pub shores_good : (pool : List (List ℕ)) (said : LatestFirst) (lines : List Line) → next_of said ≡ shores_to_come (length pool) → AreDifferent (shores_of said ++ pool) →
    AllByRecursion IsFineShore pool →
    (next_of (listed (map shore_line pool) said) ≡ stands.Sets → AreGood (listed (map shore_line pool) said) lines) → AreGood said (map shore_line pool ++ lines)
shores_good [] said lines at different fine later = later at
shores_good (vertices ∷ pool) said lines at different fine later = (
  subst (λ (y : Next). IsTrue (follows y (shore_line vertices))) (sym at) refl,
  (fine.0.size, fine.0.vertices_in),
  record { stated = refl; rising = fine.0.rising; new = none_before (shores_of said) pool vertices different },
  shores_good pool (shore_line vertices ∷ said) lines (ap (λ (y : Next). shores_to_come (left_of y - 1)) at ∙ ap shores_to_come (less (length pool)))
      (subst AreDifferent (sym (append_assoc (shores_of said) (vertices ∷ []) pool)) different) fine.1 later,
)

-- Price sets.

-- rising numbers from 1 to n are n at most
above_place : (xs : List ℕ) (n : ℕ) → IsStrictlyIncreasing xs → All (IsWithin 1 n) xs → (k : ℕ) → k < length xs → k + 1 ≤ get_or xs k 0
above_place xs n rising within zero below = omega (arith, (within 0 0 below).from_first)
above_place xs n rising within (suc k) below =
    let before : k + 1 ≤ get_or xs k 0 = above_place xs n rising within k (omega arith) in
    let more : get_or xs k 0 < get_or xs (k + 1) 0 = rising k (omega arith) in
    let same : get_or xs (k + 1) 0 ≡ get_or xs (suc k) 0 = ap (λ (i : ℕ). get_or xs i 0) (omega arith) in
    omega arith

few_rising : (xs : List ℕ) (n m : ℕ) → length xs ≡ m → IsStrictlyIncreasing xs → All (IsWithin 1 n) xs → length xs ≤ n
few_rising xs n zero long rising within = omega arith
few_rising xs n (suc m) long rising within =
    let low : m + 1 ≤ get_or xs m 0 = above_place xs n rising within m (omega arith) in
    let high : get_or xs m 0 ≤ n = (within m 0 (omega arith)).to_last in
    omega arith

within_pool : (pool : List (List ℕ)) (w : Weight) → IsShoreNumber pool w.shore → IsWithin 1 (length pool) w.shore
within_pool pool w number = record { from_first = number.from_one; to_last = number.in_range }

few_weights : (pool : List (List ℕ)) (set : Prices) → IsFineSet pool set → length set.weights ≤ length pool
few_weights pool set fine =
    let numbers : All (IsWithin 1 (length pool)) (map (λ w. w.shore) set.weights) =
    All-map (IsWithin 1 (length pool)) (λ (w : Weight). w.shore) set.weights
    (All-weaker (λ (w : Weight). IsShoreNumber pool w.shore) (λ (w : Weight). IsWithin 1 (length pool) w.shore) (within_pool pool) set.weights fine.shores) in
    let few = few_rising (map (λ w. w.shore) set.weights) (length pool) _ refl fine.prices.rising numbers in
    omega (arith, few, length-map set.weights (λ (w : Weight). w.shore))

weights_in : (pool : List (List ℕ)) (set : Prices) → IsFineSet pool set → All (IsWeightInRange (length pool)) set.weights
weights_in pool set fine k d below = record {
  shore = within_pool pool (get_or set.weights k d) (fine.shores k d below);
  weight = (fine.prices.weights k d below).within;
}

-- The groups of a set.

groups_in : (set : Prices) → IsPriceSet set → All (λ w. All (IsWithin 1 600) w.edges) set.groups → All IsGroupInRange set.groups
groups_in set fine edges k d below =
    let one = fine.groups k d below in
    record { weight = one.within; size = record { from_first = one.two; to_last = one.few }; edges = edges k d below }

groups_range : (pool : List (List ℕ)) (set : Prices) → IsFineSet pool set → AreGroupsInRange (length set.groups) set.groups nothing
groups_range pool set fine = record {
  few = fine.prices.few_groups;
  each = groups_in set fine.prices fine.group_edges;
  behind = tt;
  few_edges = omega (arith, fine.prices.few_edges);
}

groups_agree : (pool : List (List ℕ)) (set : Prices) → IsFineSet pool set → AreGroups (length set.groups) set.groups nothing
groups_agree pool set fine = record {
  stated = refl;
  complete = refl;
  in_order = λ k d below. (let one = fine.prices.groups k d below in record { rising = one.rising; some = one.some; pair = one.pair });
}

-- The lines of a set.

abbrev prices_line : Prices → Line
prices_line set = prices set.unit (length set.services) set.services

abbrev weights_line : Prices → Line
weights_line set = weights (length set.weights) set.weights

halves_good : (n : ℕ) (pool : List (List ℕ)) (set : Prices) (said : LatestFirst) (lines : List Line) → next_of said ≡ sets_to_come (suc n) → shores_of said ≡ pool →
    IsFineSet pool set → AreGood (weights_line set ∷ (prices_line set ∷ said)) lines → AreGood said (prices_line set ∷ (weights_line set ∷ lines))
halves_good n pool set said lines at has fine later =
    let borders : length pool ≡ length (shores_of said) = ap length (sym has) in (
      subst (λ (y : Next). IsTrue (follows y (prices_line set))) (sym at) refl,
      (record { from_first = fine.prices.some_unit; to_last = fine.prices.unit_in }, fine.prices.few_services, fine.prices.services),
      refl,
      (
        refl,
        (omega (arith, few_weights pool set fine), subst (λ (k : ℕ). All (IsWeightInRange k) set.weights) borders (weights_in pool set fine)),
        record { stated = refl; rising = fine.prices.rising; some = λ k d below. (fine.prices.weights k d below).some },
        later,
      ),
    )

no_length : {X : Type 0} (xs : List X) → length xs ≡ 0 → xs ≡ []
no_length {X} [] none = refl
no_length {X} (x ∷ xs) none = absurd (omega (arith, none))

-- with the last set some set has a group
some_has : (set : Prices) (all : List Prices) (said : LatestFirst) (left : ℕ) → eqb (version_of said) 4 ≡ true → left ≡ suc (length all) →
    IsTrue (has_groups (sets_of said ++ set ∷ all)) → left ≡ 1 →
    IsTrue (has_groups (sets_of (bonds (length set.groups) set.groups nothing ∷ (weights_line set ∷ (prices_line set ∷ said)))))
some_has set all said left in_version is some last =
    let none : all ≡ [] = no_length all (omega (arith, is, last)) in
    let before : sets_of said ≡ cond (eqb (version_of said) 4) (sets_of said) (sets_of said ++ record set { groups = [] } ∷ []) =
    λ i. cond (sym in_version i) (sets_of said) (sets_of said ++ record set { groups = [] } ∷ []) in
    subst (λ (sets : List Prices). IsTrue (has_groups sets)) (λ i. before i ++ set ∷ none i) some

abbrev HasSome : Bool → List Prices → Type 0
HasSome grouped all = grouped ≡ true → IsTrue (has_groups all)

pub sets_good : (grouped : Bool) (all : List Prices) (pool : List (List ℕ)) (said : LatestFirst) (lines : List Line) → next_of said ≡ sets_to_come (length all) →
    shores_of said ≡ pool → eqb (version_of said) 4 ≡ grouped → HasSome grouped (sets_of said ++ all) → AllByRecursion (IsFineSet pool) all →
    (next_of (listed (flat_map (set_lines grouped) all) said) ≡ stands.Nodes → AreGood (listed (flat_map (set_lines grouped) all) said) lines) →
    AreGood said (flat_map (set_lines grouped) all ++ lines)
sets_good grouped [] pool said lines at has in_version some fine later = later at
sets_good false (set ∷ all) pool said lines at has in_version some fine later =
    halves_good (length all) pool set said (flat_map (set_lines false) all ++ lines) at has fine.0
    (sets_good false all pool (weights_line set ∷ (prices_line set ∷ said)) lines
    (ap (λ (b : Bool). cond b (stands.Bonds (left_of (next_of said))) (sets_to_come (left_of (next_of said) - 1))) in_version
    ∙ ap (λ (y : Next). sets_to_come (left_of y - 1)) at ∙ ap sets_to_come (less (length all)))
    has in_version (λ none. absurd (false≢true none)) fine.1 later)
sets_good true (set ∷ all) pool said lines at has in_version some fine later =
    let half : LatestFirst = weights_line set ∷ (prices_line set ∷ said) in
    let bonds_at : next_of half ≡ stands.Bonds (suc (length all)) =
    ap (λ (b : Bool). cond b (stands.Bonds (left_of (next_of said))) (sets_to_come (left_of (next_of said) - 1))) in_version
    ∙ ap (λ (y : Next). stands.Bonds (left_of y)) at in
    let line : Line = bonds (length set.groups) set.groups nothing in
    let whole : sets_of (line ∷ half) ≡ sets_of said ++ set ∷ [] =
    λ i. cond (in_version i) (sets_of said) (sets_of said ++ record set { groups = [] } ∷ []) ++ set ∷ [] in
    halves_good (length all) pool set said (line ∷ (flat_map (set_lines true) all ++ lines)) at has fine.0 (
      subst (λ (y : Next). IsTrue (follows y line)) (sym bonds_at) refl,
      groups_range pool set fine.0,
      (groups_agree pool set fine.0, some_has set all said (left_of (next_of half)) in_version (ap left_of bonds_at) (some refl)),
      sets_good true all pool (line ∷ half) lines
          (ap (λ (y : Next). sets_to_come (left_of y - 1)) bonds_at ∙ ap sets_to_come (less (length all)))
          has in_version
          (λ is. subst (λ (sets : List Prices). IsTrue (has_groups sets))
          (sym (append_assoc (sets_of said) (set ∷ []) all) ∙ (λ i. sym whole i ++ all)) (some is)) fine.1 later,
    )
