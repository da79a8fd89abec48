-- What good lines of tours, shores and price sets say of them.
use Rattle.std.proofs.Common.{◌≡◌, ◌≢◌, ℕ, zero, suc, ◌+◌, ◌<◌, ◌≤◌, ◌⊎◌, inl, inr, Bool, true, false, List, [], ◌∷◌, ◌++◌, map, length, get_or, refl, sym, ap, subst, ◌∙◌, append_assoc, arith, length-append}
use Rattle.std.specs.List.{All, AllByRecursion, flat_map, sum_by}
use Rattle.std.proofs.lemmas.Bool.{cases_lt}
use Rattle.std.proofs.lemmas.List.{append-nil, get_or_append_left}
use Rattle.std.proofs.lemmas.List.Sums.{sum_by-cons}
use Rattle.std.proofs.Math.Seq.{get_or-append_seam}
use Rattle.plan_model.specs.declared.step.Step.{Step}
use Rattle.cut_pool.specs.Pools.{AreDifferent, shore_at}
use Rattle.branch_rules.specs.Bonds.{GroupWeight}
use Rattle.branch_rules.specs.Limits.{IsFineGroup}
use Rattle.branch_rules.specs.Prices.{Prices}
use Rattle.cert_lines.specs.Lines.{Line, prices, weights, bonds, nothing}
use Rattle.cert_lines.specs.Order.{LatestFirst}
use Rattle.cert_lines.specs.Certificates.{steps_of, shores_of}
use Rattle.cert_lines.specs.Ranges.{IsWithin, IsInRange, AreGroupsInRange}
use Rattle.cert_lines.specs.Agreement.{AreWeights, AreGroups}
use Rattle.cert_lines.specs.Spelling.{AreGood, tour_line, shore_line, set_lines, IsFineShore, IsFineSet}
use Rattle.cert_lines.proofs.Listed.{listed}
use Rattle.cert_lines.proofs.Spelled.{IsSaidIn}

-- Tours.

pub record SaysTours (plan : List (List Step)) (said : LatestFirst) (lines : List Line) : Type 0 where
  pub few : steps_of said + sum_by length plan ≤ 2000000
  pub edges : AllByRecursion (All (λ s. IsWithin 1 4000 s.edge)) plan
  pub later : AreGood (listed (map tour_line plan) said) lines

pub tours_say : (plan : List (List Step)) (said : LatestFirst) (lines : List Line) → steps_of said ≤ 2000000 → AreGood said (map tour_line plan ++ lines) → SaysTours plan said lines
tours_say [] said lines few good = record { few = omega arith; edges = tt; later = good }
tours_say (steps ∷ plan) said lines few good =
    let rest = tours_say plan (tour_line steps ∷ said) lines good.1.0 good.3 in
    record { few = omega (arith, rest.few, sum_by-cons length steps plan); edges = (good.1.1, rest.edges); later = rest.later }

-- Shores.

early : (earlier : List (List ℕ)) (vertices : List ℕ) (k : ℕ) → k < length earlier → shore_at (earlier ++ vertices ∷ []) (suc k) ≡ shore_at earlier (suc k)
early earlier vertices k below = get_or_append_left earlier (vertices ∷ []) [] k below

last : (earlier : List (List ℕ)) (vertices : List ℕ) (k : ℕ) → k ≡ length earlier → shore_at (earlier ++ vertices ∷ []) (suc k) ≡ vertices
last earlier vertices k at = ap (λ (n : ℕ). get_or (earlier ++ vertices ∷ []) n []) at ∙ get_or-append_seam earlier vertices [] []

-- one shore more, which is none of those before it
one_more : (earlier : List (List ℕ)) (vertices : List ℕ) → AreDifferent earlier → All (λ other. other ≢ vertices) earlier → AreDifferent (earlier ++ vertices ∷ [])
one_more earlier vertices different new zero j one two same = absurd (omega (arith, one.from_one))
one_more earlier vertices different new (suc k) zero one two same = absurd (omega (arith, two.from_one))
one_more earlier vertices different new (suc k) (suc m) one two same = by_place (cases_lt k (length earlier)) (cases_lt m (length earlier))
  where
    whole : length (earlier ++ vertices ∷ []) ≡ length earlier + 1
    whole = length-append earlier (vertices ∷ []) ∙ refl

    by_place : (k < length earlier) ⊎ (length earlier ≤ k) → (m < length earlier) ⊎ (length earlier ≤ m) → suc k ≡ suc m
    by_place (inl a) (inl b) =
        different (suc k) (suc m) (record { from_one = omega arith; in_range = omega arith }) (record { from_one = omega arith; in_range = omega arith })
        (sym (early earlier vertices k a) ∙ same ∙ early earlier vertices m b)
    by_place (inl a) (inr b) =
        absurd (new k [] a (sym (early earlier vertices k a) ∙ same ∙ last earlier vertices m (omega (arith, two.in_range, whole))))
    by_place (inr a) (inl b) =
        absurd (new m [] b (sym (early earlier vertices m b) ∙ sym same ∙ last earlier vertices k (omega (arith, one.in_range, whole))))
    by_place (inr a) (inr b) = omega (arith, one.in_range, two.in_range, whole)

pub record SaysShores (pool : List (List ℕ)) (said : LatestFirst) (lines : List Line) : Type 0 where
  pub different : AreDifferent (shores_of said ++ pool)
  pub fine : AllByRecursion IsFineShore pool
  pub later : AreGood (listed (map shore_line pool) said) lines

pub shores_say : (pool : List (List ℕ)) (said : LatestFirst) (lines : List Line) → AreDifferent (shores_of said) → AreGood said (map shore_line pool ++ lines) → SaysShores pool said lines
shores_say [] said lines different good = record { different = subst AreDifferent (sym (append-nil (shores_of said))) different; fine = tt; later = good }
shores_say (vertices ∷ pool) said lines different good =
    let rest = shores_say pool (shore_line vertices ∷ said) lines (one_more (shores_of said) vertices different good.2.new) good.3 in
    record {
      different = subst AreDifferent (append_assoc (shores_of said) (vertices ∷ []) pool) rest.different;
      fine = (record { size = good.1.0; vertices_in = good.1.1; rising = good.2.rising }, rest.fine);
      later = rest.later;
    }

-- Price sets.

pub record SaysSets (grouped : Bool) (pool : List (List ℕ)) (all : List Prices) (said : LatestFirst) (lines : List Line) : Type 0 where
  pub fine : AllByRecursion (IsFineSet pool) all
  pub later : AreGood (listed (flat_map (set_lines grouped) all) said) lines

-- groups that a price set may have
record AreFineGroups (groups : List GroupWeight) : Type 0 where
  few : length groups ≤ 2000
  few_edges : sum_by (λ (w : GroupWeight). length w.edges) groups ≤ 60000
  fine : All IsFineGroup groups
  edges : All (λ w. All (IsWithin 1 600) w.edges) groups

no_group_is_fine : (groups : List GroupWeight) → groups ≡ [] → AreFineGroups groups
no_group_is_fine groups none = record {
  few = omega (arith, ap length none);
  few_edges = omega (arith, ap (λ (gs : List GroupWeight). sum_by (λ (w : GroupWeight). length w.edges) gs) none);
  fine = λ k d below. absurd (omega (arith, below, ap length none));
  edges = λ k d below. absurd (omega (arith, below, ap length none));
}

groups_are_fine : (groups : List GroupWeight) → AreGroupsInRange (length groups) groups nothing → AreGroups (length groups) groups nothing → AreFineGroups groups
groups_are_fine groups inside agree = record {
  few = inside.few;
  few_edges = omega (arith, inside.few_edges);
  fine = λ k d below. (
      let one = inside.each k d below in
      let order = agree.in_order k d below in
      record { two = one.size.from_first; few = one.size.to_last; rising = order.rising; some = order.some; within = one.weight; pair = order.pair }
      );
  edges = λ k d below. (inside.each k d below).edges;
}

set_is_fine : (pool : List (List ℕ)) (set : Prices) (said : LatestFirst) → shores_of said ≡ pool → length pool ≤ 2000 →
    IsInRange said (prices set.unit (length set.services) set.services) → IsInRange said (weights (length set.weights) set.weights) →
    AreWeights (length set.weights) set.weights → AreFineGroups set.groups → IsFineSet pool set
set_is_fine pool set said has few numbers inside agree groups =
    let borders : length (shores_of said) ≡ length pool = ap length has in
    let items = inside.1 in
    record {
      prices = record {
        some_unit = numbers.0.from_first;
        unit_in = numbers.0.to_last;
        few_services = numbers.1;
        services = numbers.2;
        few_weights = omega (arith, inside.0, borders, few);
        weights = λ k d below. record { from_one = (items k d below).shore.from_first; some = agree.some k d below; within = (items k d below).weight };
        rising = agree.rising;
        few_groups = groups.few;
        few_edges = groups.few_edges;
        groups = groups.fine;
      };
      shores = λ k d below. record { from_one = (items k d below).shore.from_first; in_range = omega (arith, (items k d below).shore.to_last, borders) };
      group_edges = groups.edges;
    }

pub sets_say : (grouped : Bool) (pool : List (List ℕ)) (all : List Prices) (said : LatestFirst) (lines : List Line) → shores_of said ≡ pool → length pool ≤ 2000 →
    AllByRecursion (IsSaidIn grouped) all → AreGood said (flat_map (set_lines grouped) all ++ lines) → SaysSets grouped pool all said lines
sets_say grouped pool [] said lines has few none good = record { fine = tt; later = good }
sets_say false pool (set ∷ all) said lines has few none good =
    let rest =
    sets_say false pool all (weights (length set.weights) set.weights ∷ (prices set.unit (length set.services) set.services ∷ said)) lines has few none.1 good.3.3 in
    record { fine = (set_is_fine pool set said has few good.1 good.3.1 good.3.2 (no_group_is_fine set.groups none.0), rest.fine); later = rest.later }
sets_say true pool (set ∷ all) said lines has few none good =
    let half : LatestFirst = weights (length set.weights) set.weights ∷ (prices set.unit (length set.services) set.services ∷ said) in
    let rest = sets_say true pool all (bonds (length set.groups) set.groups nothing ∷ half) lines has few none.1 good.3.3.3 in
    record {
      fine = (set_is_fine pool set said has few good.1 good.3.1 good.3.2 (groups_are_fine set.groups good.3.3.1 good.3.3.2.0), rest.fine);
      later = rest.later;
    }
