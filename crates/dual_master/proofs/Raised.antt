-- A set over a pool that grew, and sets that are no lower.
use Rattle.std.proofs.Common.{◌≡◌, ℕ, zero, suc, ◌+◌, ◌*◌, ◌≤◌, List, [], ◌++◌, length, sum_by, sym, subst, ap, ◌∙◌, arith, ℤ, pos, negsuc, neg_ℤ, ◌+ℤ◌, ◌*ℤ◌, ◌≤ℤ◌, Option, Some, None, IfSome, Result, Ok, Err, IfOk, All, append_assoc, length-append, inl, inr}
use Rattle.std.proofs.Math.Nat.{mul-le-mul_left}
use Rattle.std.proofs.lemmas.Bool.{cases_lt}
use Rattle.std.proofs.lemmas.Int.{ints}
use Rattle.std.proofs.lemmas.List.Elements.{All-nil, All-weaker}
use Rattle.carp_base.specs.Problem.{Problem}
use Rattle.cut_pool.specs.Pools.{IsGrown, IsShoreNumber}
use Rattle.decision_chains.specs.declared.decision.Decision.{Decision}
use Rattle.branch_rules.specs.Bonds.{GroupWeight, IsGroup}
use Rattle.branch_rules.specs.Decisions.{rules_of}
use Rattle.branch_rules.specs.Laws.{FitsBranch}
use Rattle.branch_rules.specs.Limits.{IsShoreOf}
use Rattle.branch_rules.specs.Prices.{Prices, value_of}
use Rattle.branch_rules.specs.declared.weight.Weight.{Weight}
use Rattle.dual_master.specs.Growth.{GrowthKeepsSets, IsAsBefore}
use Rattle.dual_master.specs.Raising.{HasShortGroups, HasGroupsFrom, HasGroupsOf, IsAccepted, IsNoLower, IsRaised}
use Rattle.dual_master.proofs.Chosen.{shore_of_grown}

neg_times : (n m : ℕ) → (pos n *ℤ neg_ℤ (pos m)) +ℤ pos (n * m) ≡ pos 0
neg_times n zero = omega (arith, ints)
neg_times n (suc m) = omega (arith, ints)

more_times : (n : ℕ) (v w : ℤ) → v ≤ℤ w → (pos n *ℤ v) ≤ℤ (pos n *ℤ w)
more_times n (pos v) (pos w) less =
    let more : n * v ≤ n * w = mul-le-mul_left n (omega (arith, ints, less)) in
    omega (arith, ints, more)
more_times n (pos v) (negsuc w) less = absurd (omega (arith, ints, less))
more_times n (negsuc v) (pos w) less = omega (arith, ints, neg_times n (suc v))
more_times n (negsuc v) (negsuc w) less =
    let more : n * suc w ≤ n * suc v = mul-le-mul_left n (omega (arith, ints, less)) in
    omega (arith, ints, more, neg_times n (suc v), neg_times n (suc w))

times_neg : (n m : ℕ) → (pos n *ℤ neg_ℤ (pos m)) ≡ neg_ℤ (pos (n * m))
times_neg n m = omega (arith, ints, neg_times n m)

swap : (a b : ℕ) (v : ℤ) → (pos a *ℤ (pos b *ℤ v)) ≡ (pos b *ℤ (pos a *ℤ v))
swap a b (pos n) = omega (arith, ints)
swap a b (negsuc n) =
    let same : a * (b * suc n) ≡ b * (a * suc n) = omega arith in
    ap (λ (z : ℤ). pos a *ℤ z) (times_neg b (suc n)) ∙ times_neg a (b * suc n) ∙ ap (λ (k : ℕ). neg_ℤ (pos k)) same ∙ sym (times_neg b (a * suc n))
    ∙ sym (ap (λ (z : ℤ). pos b *ℤ z) (times_neg a (suc n)))

cancel : (b m n : ℕ) → 1 ≤ b → b * m ≤ b * n → m ≤ n
cancel b m n some most = elim (cases_lt n m) [
  | inl less ↦
      let more : b * suc n ≤ b * m = mul-le-mul_left b (omega (arith, less)) in
      absurd (omega (arith, more, most, some))
  | inr within ↦ within
]

cancel_times : (u : ℕ) (v w : ℤ) → 1 ≤ u → (pos u *ℤ v) ≤ℤ (pos u *ℤ w) → v ≤ℤ w
cancel_times u (pos v) (pos w) some less = let most = cancel u v w some (omega (arith, ints, less)) in omega (arith, ints, most)
cancel_times u (pos v) (negsuc w) some less =
    let low : u * 1 ≤ u * suc w = mul-le-mul_left u (omega arith) in
    absurd (omega (arith, ints, less, neg_times u (suc w), low, some))
cancel_times u (negsuc v) (pos w) some less = omega (arith, ints)
cancel_times u (negsuc v) (negsuc w) some less =
    let most = cancel u (suc w) (suc v) some (omega (arith, ints, less, neg_times u (suc v), neg_times u (suc w))) in omega (arith, ints, most)

-- what is no lower than a set that is no lower is no lower
pub no_lower_through : (p : Problem) (branch : List Decision) (pool middle after : List (List ℕ)) (start set raised : Prices) → 1 ≤ set.unit →
    IsNoLower p branch pool start middle set → IsNoLower p branch middle set after raised → IsNoLower p branch pool start after raised
no_lower_through p branch pool middle after start set raised some one other =
    let v = value_of (rules_of p pool branch) start in
    let w = value_of (rules_of p middle branch) set in
    let z = value_of (rules_of p after branch) raised in
    let first : (pos raised.unit *ℤ (pos set.unit *ℤ v)) ≤ℤ (pos raised.unit *ℤ (pos start.unit *ℤ w)) = more_times raised.unit (pos set.unit *ℤ v) (pos start.unit *ℤ w) one in
    let second : (pos start.unit *ℤ (pos raised.unit *ℤ w)) ≤ℤ (pos start.unit *ℤ (pos set.unit *ℤ z)) = more_times start.unit (pos raised.unit *ℤ w) (pos set.unit *ℤ z) other in
    let left = swap raised.unit set.unit v in
    let middle' = swap raised.unit start.unit w in
    let right = swap start.unit set.unit z in
    cancel_times set.unit (pos raised.unit *ℤ v) (pos start.unit *ℤ z) some (omega (arith, ints, first, second, left, middle', right))

pub grows_more : (pool middle after : List (List ℕ)) → IsGrown pool middle → IsGrown middle after → IsGrown pool after
grows_more pool middle after one other =
    record { more = one.more ++ other.more; added = other.added ∙ ap (λ (xs : List (List ℕ)). xs ++ other.more) one.added ∙ append_assoc pool one.more other.more }

pub no_shorter : (pool after : List (List ℕ)) → IsGrown pool after → length pool ≤ length after
no_shorter pool after grown = omega (arith, ap (λ (xs : List (List ℕ)). length xs) grown.added, length-append pool grown.more)

-- a set that is worth no less than one that is no lower is no lower
pub no_lower_then : (p : Problem) (branch : List Decision) (pool after : List (List ℕ)) (start set raised : Prices) → IsNoLower p branch pool start after set → set.unit ≡ raised.unit →
    value_of (rules_of p after branch) set ≤ℤ value_of (rules_of p after branch) raised → IsNoLower p branch pool start after raised
no_lower_then p branch pool after start set raised no_lower unit worth =
    let more = more_times start.unit (value_of (rules_of p after branch) set) (value_of (rules_of p after branch) raised) worth in
    subst (λ (n : ℕ). (pos n *ℤ value_of (rules_of p pool branch) start) ≤ℤ (pos start.unit *ℤ value_of (rules_of p after branch) raised)) unit (omega (arith, ints, no_lower, more))

module _ (law : GrowthKeepsSets) (p : Problem) (branch : List Decision) (pool after : List (List ℕ)) (grown : IsGrown pool after) (set : Prices) (shores : All (λ w. IsShoreOf p pool w.shore) set.weights) where
  -- it is as it was
  as_before : IsAsBefore p pool after branch set
  as_before =
      subst (λ (xs : List (List ℕ)). IsAsBefore p pool xs branch set) (sym grown.added)
      (law p pool grown.more branch set (All-weaker (λ (w : Weight). IsShoreOf p pool w.shore) (λ (w : Weight). IsShoreNumber pool w.shore) (λ w is. is.number) set.weights shores))

  pub still_fits : FitsBranch p pool branch set → FitsBranch p after branch set
  still_fits = as_before.fits

  pub still_there : All (λ w. IsShoreOf p after w.shore) set.weights
  still_there =
      All-weaker (λ (w : Weight). IsShoreOf p pool w.shore) (λ (w : Weight). IsShoreOf p after w.shore)
      (λ w is. subst (λ (xs : List (List ℕ)). IsShoreOf p xs w.shore) (sym grown.added) (shore_of_grown p pool grown.more w.shore is)) set.weights shores

  -- no less than another set is no less than this set was
  pub no_lower_before : (other : Prices) → IsNoLower p branch after set after other → IsNoLower p branch pool set after other
  no_lower_before other no_lower = subst (λ (z : ℤ). (pos other.unit *ℤ z) ≤ℤ (pos set.unit *ℤ value_of (rules_of p after branch) other)) as_before.value no_lower

  -- and what is no lower than this set now was no lower before
  pub no_lower_since : (later : List (List ℕ)) (other : Prices) → IsNoLower p branch after set later other → IsNoLower p branch pool set later other
  no_lower_since later other no_lower = subst (λ (z : ℤ). (pos other.unit *ℤ z) ≤ℤ (pos set.unit *ℤ value_of (rules_of p later branch) other)) as_before.value no_lower

  -- what is no less than the set was is no less than it is
  pub no_lower_now : (other : Prices) → IsNoLower p branch pool set after other → IsNoLower p branch after set after other
  no_lower_now other no_lower = subst (λ (z : ℤ). (pos other.unit *ℤ z) ≤ℤ (pos set.unit *ℤ value_of (rules_of p after branch) other)) (sym as_before.value) no_lower

  -- and what the set is no less than it stays no less than
  pub worth_as_much : (start : Prices) → IsNoLower p branch pool start pool set → IsNoLower p branch pool start after set
  worth_as_much start no_lower = subst (λ (z : ℤ). (pos set.unit *ℤ value_of (rules_of p pool branch) start) ≤ℤ (pos start.unit *ℤ z)) (sym as_before.value) no_lower

  pub itself : IsNoLower p branch pool set after set
  itself = no_lower_before set (omega (arith, ints))

-- a set without groups has groups of the instance
pub none_of : (p : Problem) (set : Prices) → set.groups ≡ [] → HasGroupsOf p set
none_of p set none = subst (All (λ (w : GroupWeight). IsGroup p w.edges)) (sym none) (All-nil (λ (w : GroupWeight). IsGroup p w.edges))

-- a set that has its groups from one with groups of the instance has such groups
pub of_instance : (p : Problem) (start set : Prices) → HasGroupsFrom p start set → HasGroupsOf p start → HasGroupsOf p set
of_instance p start set (inl same) of = subst (All (λ (w : GroupWeight). IsGroup p w.edges)) (sym same) of
of_instance p start set (inr own) of = own

-- a set with the groups of one with short groups has short groups
pub short_of : (start set : Prices) → start.groups ≡ set.groups → HasShortGroups start → HasShortGroups set
short_of start set same short = subst (λ (ws : List GroupWeight). sum_by (λ (w : GroupWeight). length w.edges + 6) ws ≤ 5000) same short

pub both_ok : {X E : Type 0} (r : Result X E) (P Q R : X → Type 0) → ((x : X) → P x → Q x → R x) → IfOk r P → IfOk r Q → IfOk r R
both_ok (Ok x) P Q R all p q = all x p q
both_ok (Err e) P Q R all p q = tt

-- what an offered set with groups of the instance is if it is accepted over a pool that grew
pub raised_since : {E : Type 0} (law : GrowthKeepsSets) (p : Problem) (branch : List Decision) (pool after : List (List ℕ)) → IsGrown pool after → (start : Prices) →
    All (λ w. IsShoreOf p pool w.shore) start.weights → (offered : Prices) → All (λ w. IsShoreOf p after w.shore) offered.weights → HasGroupsOf p offered →
    (r : Result (Option Prices) E) → IfOk r (λ better. IfSome better (IsAccepted p branch after offered start)) → IfOk r (λ better. IfSome better (IsRaised p branch pool start after))
raised_since law p branch pool after grown start from offered shores groups (Ok (Some set)) accepted =
    subst (IsRaised p branch pool start after) (sym accepted.same) (record {
      fits = accepted.fits;
      shores = shores;
      groups = groups;
      short_groups = accepted.short_groups;
      no_lower = no_lower_before law p branch pool after grown start from offered accepted.no_lower;
    })
raised_since law p branch pool after grown start from offered shores groups (Ok None) accepted = tt
raised_since law p branch pool after grown start from offered shores groups (Err e) accepted = tt
