-- The best set over a pool that grew.
use Rattle.std.proofs.Common.{◌≡◌, ℕ, ◌≤◌, List, [], ◌++◌, length, ap, ◌∙◌, sym, subst, arith, pos, ◌*ℤ◌, ◌≤ℤ◌, inl, inr, ◌⊎◌}
use Rattle.std.specs.List.{All}
use Rattle.std.proofs.lemmas.Int.{ints}
use Rattle.std.proofs.lemmas.List.{length-append}
use Rattle.std.proofs.lemmas.List.Elements.{All-weaker}
use Rattle.carp_base.specs.Problem.{Problem}
use Rattle.cut_pool.specs.Pools.{IsShoreNumber}
use Rattle.cut_pool.specs.Shores.{Belongs}
use Rattle.branch_rules.specs.declared.weight.Weight.{Weight}
use Rattle.branch_rules.specs.Limits.{IsShoreOf}
use Rattle.branch_rules.specs.Prices.{Prices}
use Rattle.dual_master.specs.Floors.{FitsAlways, ReachesJoin, ReachesRatio, ReachesShell, WeighsEach, plain_value}
use Rattle.dual_master.specs.Laws.{BetterReachesAsMuch, ReachesAsMuch}
use Rattle.dual_master.specs.Candidates.{IsCandidate, IsFloorSet, IsNoMore}
use Rattle.dual_master.specs.Growth.{GrowthKeepsSets}
use Rattle.dual_master.specs.Singles.{HasSingles, IsFloorPool}
use Rattle.dual_master.specs.declared.candidate.Candidate.{Candidate}
use Rattle.dual_master.proofs.Growing.{grown_at}
use Rattle.dual_master.proofs.PlacedSingles.{singles_grow}

-- a candidate that is no less reaches what the other one reaches
pub candidate_reaches : BetterReachesAsMuch → (p : Problem) (one other : Candidate) → IsCandidate p one → IsCandidate p other → IsNoMore one other →
    ReachesAsMuch p one.pool one.set other.pool other.set
candidate_reaches law p one other is_one is_other more =
    law p one.pool one.set other.pool other.set is_one.fine.some_unit
    (subst (λ v. (pos other.set.unit *ℤ v) ≤ℤ (pos one.set.unit *ℤ plain_value p other.pool other.set)) is_one.value
    (subst (λ v. (pos other.set.unit *ℤ one.value) ≤ℤ (pos one.set.unit *ℤ v)) is_other.value more))

pub either_candidate : (p : Problem) (one other best : Candidate) → IsCandidate p one → IsCandidate p other → (best ≡ one) ⊎ (best ≡ other) → IsCandidate p best
either_candidate p one other best is_one is_other (inl is) = subst (IsCandidate p) (sym is) is_one
either_candidate p one other best is_one is_other (inr is) = subst (IsCandidate p) (sym is) is_other

numbers : (p : Problem) (pool : List (List ℕ)) (set : Prices) → All (λ w. IsShoreOf p pool w.shore) set.weights → All (λ w. IsShoreNumber pool w.shore) set.weights
numbers p pool set all = All-weaker (λ (w : Weight). IsShoreOf p pool w.shore) (λ (w : Weight). IsShoreNumber pool w.shore) (λ w is. is.number) set.weights all

pub shore_of_grown : (p : Problem) (pool more : List (List ℕ)) (i : ℕ) → IsShoreOf p pool i → IsShoreOf p (pool ++ more) i
shore_of_grown p pool more i is = record {
  number = record { from_one = is.number.from_one; in_range = omega (arith, is.number.in_range, length-append pool more) };
  belongs = subst (Belongs p) (sym (grown_at pool more i is.number)) is.belongs;
}

module _ (law : GrowthKeepsSets) (p : Problem) (base pool : List (List ℕ)) (n : ℕ) (set : Prices) (singles : HasSingles p base n pool) (floor : IsFloorSet p base set) where
  more : List (List ℕ)
  more = (singles_grow p base n pool singles).0

  grown : pool ≡ base ++ more
  unfolding more
  grown = (singles_grow p base n pool singles).1

  pub fits_then : FitsAlways p pool set
  fits_then = subst (λ xs. FitsAlways p xs set) (sym grown) (λ branch. (law p base more branch set (numbers p base set floor.shores)).fits (floor.fits branch))

  pub shores_then : All (λ w. IsShoreOf p pool w.shore) set.weights
  shores_then =
      subst (λ (xs : List (List ℕ)). All (λ (w : Weight). IsShoreOf p xs w.shore) set.weights) (sym grown)
      (All-weaker (λ (w : Weight). IsShoreOf p base w.shore) (λ (w : Weight). IsShoreOf p (base ++ more) w.shore) (λ w is. shore_of_grown p base more w.shore is) set.weights floor.shores)

  pub same_value : plain_value p pool set ≡ plain_value p base set
  same_value = subst (λ xs. plain_value p xs set ≡ plain_value p base set) (sym grown) (law p base more [] set (numbers p base set floor.shores)).value

  -- the floors that the set reached it still reaches
  pub reaches_then : BetterReachesAsMuch → 1 ≤ set.unit → ReachesAsMuch p base set pool set
  reaches_then better some = better p base set pool set some (subst (λ v. (pos set.unit *ℤ plain_value p base set) ≤ℤ (pos set.unit *ℤ v)) (sym same_value) (omega (arith, ints)))

-- no weights stand on no shores
pub none_weighed : (pool : List (List ℕ)) (set : Prices) → pool ≡ [] → set.weights ≡ [] → WeighsEach pool set
none_weighed pool set none no_weights =
    let long : length set.weights ≡ 0 = ap length no_weights in
    let few : length pool ≡ 0 = ap length none in record {
      one_each = long ∙ sym few;
      numbers = λ i below. absurd (omega (arith, few, below));
    }

-- all that is said of the best set
pub record IsBest (p : Problem) (pool : List (List ℕ)) (set : Prices) : Type 0 where
  pub fits : FitsAlways p pool set
  pub shell : ReachesShell p pool set
  pub ratio : ReachesRatio p pool set
  pub join : ReachesJoin p pool set
  pub no_groups : set.groups ≡ []
  pub shores : All (λ w. IsShoreOf p pool w.shore) set.weights
  pub held : IsFloorPool p pool set

module _ (p : Problem) (shell ratio join first best : Candidate) (is_shell : IsCandidate p shell) (is_ratio : IsCandidate p ratio) (is_join : IsCandidate p join)
    (either_first : (first ≡ shell) ⊎ (first ≡ ratio)) (either_best : (best ≡ first) ⊎ (best ≡ join)) where
  is_first : IsCandidate p first
  is_first = either_candidate p shell ratio first is_shell is_ratio either_first

  pub is_best : IsCandidate p best
  is_best = either_candidate p first join best is_first is_join either_best

  pub best_of_three : BetterReachesAsMuch → GrowthKeepsSets → IsNoMore shell first → IsNoMore ratio first → IsNoMore first best → IsNoMore join best →
      ReachesShell p shell.pool shell.set → ReachesRatio p ratio.pool ratio.set → ReachesJoin p join.pool join.set →
      (pool : List (List ℕ)) → HasSingles p best.pool p.vertices pool → IsBest p pool best.set
  best_of_three better growth over_shell over_ratio over_first over_join shell_reached ratio_reached join_reached pool singles =
      let then' = reaches_then growth p best.pool pool p.vertices best.set singles is_best.floor better is_best.fine.some_unit in
      let from_first = candidate_reaches better p first best is_first is_best over_first in
      record {
        fits = fits_then growth p best.pool pool p.vertices best.set singles is_best.floor;
        shell = then'.shell (from_first.shell ((candidate_reaches better p shell first is_shell is_first over_shell).shell shell_reached));
        ratio = then'.ratio (from_first.ratio ((candidate_reaches better p ratio first is_ratio is_first over_ratio).ratio ratio_reached));
        join = then'.join ((candidate_reaches better p join best is_join is_best over_join).join join_reached);
        no_groups = is_best.floor.no_groups;
        shores = shores_then growth p best.pool pool p.vertices best.set singles is_best.floor;
        held = record {
          base = best.pool;
          of_floor = is_best.floor.base;
          weighed = is_best.floor.weighed;
          singles = singles;
          value = same_value growth p best.pool pool p.vertices best.set singles is_best.floor;
        };
      }
