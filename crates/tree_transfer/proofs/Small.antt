-- Facts on a star of three streets, and on a place without streets.
use Rattle.std.proofs.Common.{◌≡◌, ◌≢◌, ℕ, ◌<◌, ◌≤◌, List, [], ◌∷◌, refl, subst, arith, lit≤, inl, inr, ◌⊎◌, false}
use Rattle.std.specs.Prelude.{sum_by}
use Rattle.std.specs.List.{AllByRecursion}
use Rattle.std.proofs.lemmas.Int.{ints}
use Rattle.carp_base.specs.Problem.{IsEdgeNumber, IsRequired, edge_at}
use Rattle.carp_base.specs.declared.edge.Task.{Task}
use Rattle.decision_chains.specs.Neighbours.{times}
use Rattle.decision_chains.specs.Exclusions.{IsYes, AreJoined, AreDistinct, Excluded, same, said_no, first_full, second_full, closes, heavy}
use Rattle.decision_chains.specs.Laws.{DistinctSumToNoMore}
use Rattle.decision_chains.specs.declared.decision.Decision.{Decision}
use Rattle.decision_chains.specs.declared.decision.Decision.TheVariants.{High, Low}
use Rattle.decision_chains.specs.FixedValue.{HasFixedValue}
use Rattle.branch_rules.specs.Decisions.{IsFixed, IsVoid, rules_of, three, cycle, heavy_chain, crossed}
use Rattle.branch_rules.specs.Prices.{Fits}
use Rattle.branch_rules.specs.Trees.{price}
use Rattle.tree_transfer.specs.Carried.{FixedWouldShow, WouldShow}
use Rattle.tree_transfer.specs.CarriedExamples.{star, waste, waste_prices, waste_support}
use Rattle.tree_transfer.proofs.Chaining.{alone}

-- Two streets of the star weigh 4.

star_heavy : (b : ℕ) → IsRequired (star 3) b → 1 ≢ b → AreDistinct (1 ∷ b ∷ []) → 3 < sum_by (λ e. (edge_at (star 3) e).demand) (1 ∷ b ∷ []) → Excluded (star 3) [] 1 b
star_heavy b required apart distinct over =
    heavy (λ joined. apart (alone 1 b joined.0 joined.1)) (record {
      edges = 1 ∷ b ∷ [];
      distinct = distinct;
      joined = ((record { from_one = lit≤ tt; in_range = lit≤ tt }, inl ([], refl)), ((required, inr ([], refl)), tt));
      over = over;
    })

pub with_second : Excluded (star 3) [] 1 2
with_second = star_heavy 2 (record { from_one = lit≤ tt; in_range = lit≤ tt }) (λ is. omega (arith, is)) (refl, (refl, tt)) (lit≤ tt)

pub with_third : Excluded (star 3) [] 1 3
with_third = star_heavy 3 (record { from_one = lit≤ tt; in_range = lit≤ tt }) (λ is. omega (arith, is)) (refl, (refl, tt)) (lit≤ tt)

one_of_two : (e : ℕ) → AreJoined [] 1 e ⊎ AreJoined [] 2 e → 1 ≤ times e (1 ∷ 2 ∷ [])
one_of_two e (inl joined) = subst (λ x. 1 ≤ times x (1 ∷ 2 ∷ [])) (alone 1 e joined.0 joined.1) (lit≤ tt)
one_of_two e (inr joined) = subst (λ x. 1 ≤ times x (1 ∷ 2 ∷ [])) (alone 2 e joined.0 joined.1) (lit≤ tt)

each_of_two : (es : List ℕ) → AllByRecursion (λ e. IsRequired (star 4) e × (AreJoined [] 1 e ⊎ AreJoined [] 2 e)) es → AllByRecursion (λ e. 1 ≤ times e (1 ∷ 2 ∷ [])) es
each_of_two [] all = tt
each_of_two (e ∷ es) all = (one_of_two e all.0.1, each_of_two es all.1)

pub free : DistinctSumToNoMore → ¬ (Excluded (star 4) [] 1 2)
free distinct (same is) = omega (arith, is)
free distinct (said_no is) = cc
free distinct (first_full two) = cc
free distinct (second_full two) = cc
free distinct (closes joined one_end two_end never) = omega (arith, alone 1 2 joined.0 joined.1)
free distinct (heavy apart over) =
    let weight : sum_by (λ e. (edge_at (star 4) e).demand) (1 ∷ 2 ∷ []) ≡ 4 = refl in
    omega (arith, over.over, weight, distinct (λ e. (edge_at (star 4) e).demand) over.edges (1 ∷ 2 ∷ []) over.distinct (each_of_two over.edges over.joined))

-- Where there is no street.

abbrev waste_pool : List (List ℕ)
waste_pool = (2 ∷ []) ∷ []

none_required : (e : ℕ) → IsRequired waste e → ⊥
none_required e required = omega (arith, required.from_one, required.in_range)

no_number : (e : ℕ) → IsEdgeNumber waste e → ⊥
no_number e number = omega (arith, number.from_one, number.in_range)

no_tour : (tasks : List Task) → tasks ≢ [] → AllByRecursion (λ (t : Task). IsRequired waste t.edge) tasks → ⊥
no_tour [] some all = some refl
no_tour (t ∷ tasks) some all = none_required t.edge all.0

waste_fits : (branch : List Decision) → Fits waste waste_pool (rules_of waste waste_pool branch) (λ a b. ¬ (Excluded waste branch a b)) waste_prices
waste_fits branch = record {
  not_negative = λ e number. absurd (no_number e number);
  has_upper = ((λ less. absurd (omega (arith, ints, less))), tt);
  has_yes = tt;
  tours = λ tasks n tour joined. absurd (no_tour tasks tour.some tour.required);
}

-- the lower number is 2, and the weight 5
pub high_shows : WouldShow waste_support (High 1 1 ∷ []) 10 (price 1)
high_shows = (lit≤ tt, lit≤ tt, record { fits = waste_fits (High 1 1 ∷ []); above = omega (arith, ints) })

pub high_again_shows : WouldShow waste_support (High 1 1 ∷ High 1 1 ∷ []) 10 (price 1)
high_again_shows = (lit≤ tt, lit≤ tt, record { fits = waste_fits (High 1 1 ∷ High 1 1 ∷ []); above = omega (arith, ints) })

pub root_shows : WouldShow waste_support [] 0 (price 1)
root_shows = (lit≤ tt, lit≤ tt, record { fits = waste_fits []; above = omega (arith, ints) })

pub crossed_now : IsVoid waste waste_pool (High 1 1 ∷ Low 1 1 ∷ [])
crossed_now = crossed 1 1 refl (lit≤ tt)

never_yes : (a b : ℕ) → IsYes [] a b → ⊥
never_yes a b is = cc

no_load : (a : ℕ) (es : List ℕ) → AllByRecursion (λ e. IsRequired waste e × (AreJoined [] a e ⊎ AreJoined [] a e)) es → 1 < sum_by (λ e. (edge_at waste e).demand) es → ⊥
no_load a [] all over = omega (arith, over)
no_load a (e ∷ es) all over = none_required e all.0.0

pub not_void : IsVoid waste waste_pool [] → ⊥
not_void (three a b is two) = never_yes a b is
not_void (cycle a b path other is detour) = never_yes a b is
not_void (heavy_chain a over) = no_load a over.edges over.joined over.over
not_void (crossed shore k is less) = cc

waste_is_fixed : IsFixed waste waste_pool []
waste_is_fixed = record { open_yet = not_void; settled = λ a b a_required. absurd (none_required a a_required) }

pub fixed_shows_none : FixedWouldShow waste_support [] 0
fixed_shows_none = record { settled = waste_is_fixed; enough = λ value has. omega arith }

pub waste_value : HasFixedValue waste [] 0
waste_value = record {
  cost = λ e. 0;
  first = λ e. false;
  some_first = λ e required. absurd (none_required e required);
  one_first = λ e f joined e_first. cc;
  costs = λ e required. absurd (none_required e required);
  sum_is = refl;
}
