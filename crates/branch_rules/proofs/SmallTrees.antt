-- Facts on a row of two streets, and trees for the town of one street.
use Rattle.std.proofs.Common.{◌≡◌, ℕ, ◌≤◌, false, List, [], ◌∷◌, length, refl, sym, ap, ◌∙◌, arith, lit≤, inl, inr, ◌⊎◌, length-append}
use Rattle.std.specs.List.{AllByRecursion, sum_by, list_any}
use Rattle.std.proofs.lemmas.Bool.{or_cases, cases_eq}
use Rattle.std.proofs.lemmas.Int.{ints}
use Rattle.carp_base.specs.Problem.{IsRequired, edge_at}
use Rattle.plan_model.specs.Plans.{IsLawful, services_of}
use Rattle.deadhead_paths.specs.Tours.{IsFollowed}
use Rattle.deadhead_paths.specs.Examples.{town}
use Rattle.cut_pool.specs.Examples.{in_a_row}
use Rattle.decision_chains.specs.Neighbours.{AreNeighbours, times}
use Rattle.decision_chains.specs.Exclusions.{says_yes, IsYes, YesPath, AreJoined, IsHeavy, Excluded, IsDetermined, same, said_no, first_full, second_full, closes, heavy}
use Rattle.branch_rules.specs.Decisions.{IsVoid, Spells, three, cycle, crossed}
use Rattle.branch_rules.specs.Trees.{Shows, price}
use Rattle.decision_chains.specs.declared.decision.Decision.{Decision}
use Rattle.decision_chains.specs.declared.decision.Decision.TheVariants.{Yes, Low, High}
use Rattle.branch_rules.specs.Examples.{one_row_tour, two_row_tours, town_plan, town_pool, town_support}
use Rattle.branch_rules.proofs.Small.{town_fits, only_task}
use Rattle.decision_chains.specs.Laws.{YesPairsJoin, DistinctSumToNoMore}

pub row_neighbours : AreNeighbours one_row_tour 1 2
row_neighbours = inl (inl (record { before = []; after = []; joined = refl }))

pub row_neighbours_turned : AreNeighbours one_row_tour 2 1
row_neighbours_turned = inl (inr (record { before = []; after = []; joined = refl }))

-- a tour with one service has no neighbours
lone : (e a b : ℕ) → IsFollowed (e ∷ []) a b → ⊥
lone e a b follows = omega (arith, ap length follows.joined, length-append follows.before (a ∷ (b ∷ follows.after)))

pub row_apart : ¬ (AreNeighbours two_row_tours 1 2)
row_apart (inl (inl follows)) = lone 1 1 2 follows
row_apart (inl (inr follows)) = lone 1 2 1 follows
row_apart (inr (inl (inl follows))) = lone 2 1 2 follows
row_apart (inr (inl (inr follows))) = lone 2 2 1 follows
row_apart (inr (inr none)) = none

pub row_apart_turned : ¬ (AreNeighbours two_row_tours 2 1)
row_apart_turned (inl (inl follows)) = lone 1 2 1 follows
row_apart_turned (inl (inr follows)) = lone 1 1 2 follows
row_apart_turned (inr (inl (inl follows))) = lone 2 2 1 follows
row_apart_turned (inr (inl (inr follows))) = lone 2 1 2 follows
row_apart_turned (inr (inr none)) = none

-- both streets together weigh 3
row_required : (capacity e : ℕ) → 1 ≤ e → e ≤ 2 → IsRequired (in_a_row capacity) e
row_required capacity e one two = record { from_one = one; in_range = two }

row_weighs : (branch : List Decision) (a b : ℕ) → (AreJoined branch a 1 ⊎ AreJoined branch b 1) → (AreJoined branch a 2 ⊎ AreJoined branch b 2) → IsHeavy (in_a_row 2) branch a b
row_weighs branch a b one two = record {
  edges = 1 ∷ (2 ∷ []);
  distinct = (refl, (refl, tt));
  joined = ((row_required 2 1 (lit≤ tt) (lit≤ tt), one), ((row_required 2 2 (lit≤ tt) (lit≤ tt), two), tt));
  over = lit≤ tt;
}

no_path : (a b : ℕ) (path : List ℕ) → YesPath [] a path b → a ≡ b
no_path a b [] joined = joined
no_path a b (x ∷ path) joined = cc

pub row_heavy : Excluded (in_a_row 2) [] 1 2
row_heavy = heavy (λ joined. omega (arith, no_path 1 2 joined.0 joined.1)) (row_weighs [] 1 2 (inl ([], refl)) (inr ([], refl)))

pub row_chain_heavy : IsHeavy (in_a_row 2) (Yes 1 2 ∷ []) 1 1
row_chain_heavy = row_weighs (Yes 1 2 ∷ []) 1 1 (inl ([], refl)) (inl (2 ∷ [], (refl, refl)))

pub full_now : Excluded (in_a_row 3) (Yes 1 3 ∷ Yes 4 1 ∷ []) 1 2
full_now = first_full (record { x = 3; y = 4; x_yes = refl; y_yes = refl; apart = λ is. omega (arith, is); x_other = λ is. omega (arith, is); y_other = λ is. omega (arith, is) })

pub three_now : IsVoid town town_pool (Yes 1 2 ∷ Yes 1 3 ∷ Yes 1 4 ∷ [])
three_now = three 1 2 refl (record { x = 3; y = 4; x_yes = refl; y_yes = refl; apart = λ is. omega (arith, is); x_other = λ is. omega (arith, is); y_other = λ is. omega (arith, is) })

pub cycle_now : IsVoid town town_pool (Yes 1 2 ∷ Yes 2 3 ∷ Yes 1 3 ∷ [])
cycle_now = cycle 1 2 (3 ∷ (2 ∷ [])) (λ is. omega (arith, is)) refl (refl, (λ is. omega (arith, is)), (λ is. omega (arith, is)), (refl, (λ is. omega (arith, is)), (λ is. omega (arith, is)), refl))

pub crossed_now : IsVoid town town_pool (Low 1 0 ∷ [])
crossed_now = crossed 1 0 refl (lit≤ tt)

-- where 3 joins 1 and 2, it is the only yes neighbour of each
module _ (joins : YesPairsJoin) where
  one_next : (x : ℕ) → IsYes (Yes 1 3 ∷ Yes 3 2 ∷ []) 1 x → x ≡ 3
  one_next x is = elim (or_cases (says_yes 1 x (Yes 1 3)) (list_any (says_yes 1 x) (Yes 3 2 ∷ [])) is) [
    | inl here ↦ elim (joins.names_yes 1 x (Yes 1 3) here) [
      | inl straight ↦ cc
      | inr turned ↦ let never : ◌≡◌ {A = ℕ} 3 1 = cc in omega (arith, never)
    ]
    | inr later ↦ elim (or_cases (says_yes 1 x (Yes 3 2)) false later) [
      | inl there ↦ elim (joins.names_yes 1 x (Yes 3 2) there) [
        | inl straight ↦ let never : ◌≡◌ {A = ℕ} 3 1 = cc in omega (arith, never)
        | inr turned ↦ let never : ◌≡◌ {A = ℕ} 2 1 = cc in omega (arith, never)
      ]
      | inr never ↦ cc
    ]
  ]

  two_next : (x : ℕ) → IsYes (Yes 1 3 ∷ Yes 3 2 ∷ []) 2 x → x ≡ 3
  two_next x is = elim (or_cases (says_yes 2 x (Yes 1 3)) (list_any (says_yes 2 x) (Yes 3 2 ∷ [])) is) [
    | inl here ↦ elim (joins.names_yes 2 x (Yes 1 3) here) [
      | inl straight ↦ let never : ◌≡◌ {A = ℕ} 1 2 = cc in omega (arith, never)
      | inr turned ↦ let never : ◌≡◌ {A = ℕ} 3 2 = cc in omega (arith, never)
    ]
    | inr later ↦ elim (or_cases (says_yes 2 x (Yes 3 2)) false later) [
      | inl there ↦ elim (joins.names_yes 2 x (Yes 3 2) there) [
        | inl straight ↦ let never : ◌≡◌ {A = ℕ} 3 2 = cc in omega (arith, never)
        | inr turned ↦ cc
      ]
      | inr never ↦ cc
    ]
  ]

  pub ends_now : Excluded (in_a_row 3) (Yes 1 3 ∷ Yes 3 2 ∷ []) 1 2
  ends_now = closes (3 ∷ (2 ∷ []), (refl, (refl, refl))) (λ x y x_yes y_yes. one_next x x_yes ∙ sym (one_next y y_yes)) (λ x y x_yes y_yes. two_next x x_yes ∙ sym (two_next y y_yes)) (λ is. cc)

one_of_two : (e : ℕ) → 1 ≤ e → e ≤ 2 → 1 ≤ times e (1 ∷ (2 ∷ []))
one_of_two e one two = elim (cases_eq e 1) [
  | inl is ↦ rw is (lit≤ tt)
  | inr other ↦ let is : e ≡ 2 = omega (arith, one, two, other) in rw is (lit≤ tt)
]

row_all : (es : List ℕ) → AllByRecursion (λ e. IsRequired (in_a_row 3) e × (AreJoined [] 1 e ⊎ AreJoined [] 2 e)) es → AllByRecursion (λ e. 1 ≤ times e (1 ∷ (2 ∷ []))) es
row_all [] all = tt
row_all (e ∷ es) all = (one_of_two e all.0.0.from_one all.0.0.in_range, row_all es all.1)

pub row_free : DistinctSumToNoMore → ¬ (Excluded (in_a_row 3) [] 1 2)
row_free distinct (same is) = omega (arith, is)
row_free distinct (said_no is) = cc
row_free distinct (first_full two) = cc
row_free distinct (second_full two) = cc
row_free distinct (closes joined one_end two_end never) = omega (arith, no_path 1 2 joined.0 joined.1)
row_free distinct (heavy apart over) =
    let weight : sum_by (λ e. (edge_at (in_a_row 3) e).demand) (1 ∷ (2 ∷ [])) ≡ 3 = refl in
    omega (arith, over.over, weight, distinct (λ e. (edge_at (in_a_row 3) e).demand) over.edges (1 ∷ (2 ∷ [])) over.distinct (row_all over.edges over.joined))

pub free_pair : DistinctSumToNoMore → ¬ (IsDetermined (in_a_row 3) [] 1 2)
free_pair distinct (inl is) = cc
free_pair distinct (inr excluded) = row_free distinct excluded

pub town_lawful : IsLawful town town_plan
town_lawful = record {
  walks = (
    record {
      leads = (record { from_one = lit≤ tt; in_range = lit≤ tt }, refl, (record { from_one = lit≤ tt; in_range = lit≤ tt }, refl, refl));
      serves_required = ((λ is. record { from_one = lit≤ tt; in_range = lit≤ tt }), ((λ is. record { from_one = lit≤ tt; in_range = lit≤ tt }), tt));
      load = lit≤ tt;
    },
    tt,
  );
  once = λ e required. one e (only_task e required);
}
  where
    one : (e : ℕ) → e ≡ 1 → services_of e town_plan ≡ 1
    one e is = rw is refl

pub town_spelt : Spells [] town_plan
town_spelt = record {
  each_yes = λ a b is. cc;
  only_yes = λ a b near. absurd (apart a b near);
}
  where
    apart : (a b : ℕ) → AreNeighbours town_plan a b → ⊥
    apart a b (inl (inl follows)) = lone 1 a b follows
    apart a b (inl (inr follows)) = lone 1 b a follows
    apart a b (inr none) = none

-- the prices show 12
pub town_shows : Shows town_support [] 12 (price 1)
town_shows = (lit≤ tt, lit≤ tt, record { fits = (town_fits []).fits; above = omega (arith, ints) })

pub town_shows_above : Shows town_support (High 1 0 ∷ []) 12 (price 1)
town_shows_above = (lit≤ tt, lit≤ tt, record { fits = (town_fits (High 1 0 ∷ [])).fits; above = omega (arith, ints) })
