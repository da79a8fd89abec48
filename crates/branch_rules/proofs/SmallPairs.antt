-- Two streets in a row: a set with a negative weight on their pair fits if a branch says yes to them.
use Rattle.std.proofs.Common.{◌≡◌, ℕ, ◌*◌, ◌≤◌, List, [], ◌∷◌, length, map, refl, arith, inl, inr, ◌⊎◌, pos, ◌+ℤ◌, ◌≤ℤ◌}
use Rattle.std.specs.Prelude.{IsTrue}
use Rattle.std.specs.List.{AllByRecursion}
use Rattle.std.proofs.lemmas.Int.{ints}
use Rattle.std.proofs.lemmas.Bool.{cases_eq}
use Rattle.carp_base.specs.declared.edge.Task.{Task}
use Rattle.carp_base.specs.Problem.{IsRequired, edge_at}
use Rattle.cut_pool.specs.Examples.{in_a_row}
use Rattle.decision_chains.specs.declared.decision.Decision.{Decision}
use Rattle.branch_rules.specs.Bonds.{bond_weight, bonds}
use Rattle.branch_rules.specs.Decisions.{is_yes_pair}
use Rattle.branch_rules.specs.Examples.{row, yes_prices, yes_weights}
use Rattle.branch_rules.specs.Laws.{FitsBranch}
use Rattle.branch_rules.specs.Prices.{deadhead_price, signed_sum, task_adds}
use Rattle.branch_rules.proofs.Bonding.{bonds_short}

one_or_two : (e : ℕ) → 1 ≤ e → e ≤ 2 → (e ≡ 1) ⊎ (e ≡ 2)
one_or_two e from within = elim (cases_eq e 1) [
  | inl one ↦ inl one
  | inr other ↦ inr (omega (arith, from, within, other))
]

crossing : (e : ℕ) → (e ≡ 1) ⊎ (e ≡ 2) → pos 0 ≤ℤ deadhead_price [] yes_prices (edge_at (in_a_row 3) e)
crossing e (inl one) = rw one (omega (arith, ints))
crossing e (inr two) = rw two (omega (arith, ints))

service : (e : ℕ) → (e ≡ 1) ⊎ (e ≡ 2) → task_adds (in_a_row 3) yes_prices e ≡ pos 4
service e (inl one) = rw one refl
service e (inr two) = rw two refl

all_services : (tasks : List Task) → AllByRecursion (λ t. IsRequired (in_a_row 3) t.edge) tasks →
    signed_sum (λ t. task_adds (in_a_row 3) yes_prices t.edge) tasks ≡ pos (4 * length tasks)
all_services [] all = refl
all_services (t ∷ tasks) all =
    omega (arith, ints, service t.edge (one_or_two t.edge all.0.from_one all.0.in_range), all_services tasks all.1)

-- the pair gains at most 4 for each task
few_bonds : (tasks : List Task) → bonds row (map (λ t. t.edge) tasks) ≤ length tasks
few_bonds [] = omega arith
few_bonds (t ∷ tasks) = omega (arith, bonds_short row t.edge (map (λ u. u.edge) tasks), same_long tasks)
  where
    same_long : (us : List Task) → length (map (λ u. u.edge) us) ≡ length us
    same_long [] = refl
    same_long (u ∷ us) = omega (arith, same_long us)

gains : (tasks : List Task) → pos 0 ≤ℤ (pos (4 * length tasks) +ℤ bond_weight yes_weights (map (λ t. t.edge) tasks))
gains tasks = omega (arith, ints, few_bonds tasks)

pub pair_fits : (branch : List Decision) → IsTrue (is_yes_pair branch row) → FitsBranch (in_a_row 3) [] branch yes_prices
pair_fits branch is = record {
  one_each = refl;
  fits = record {
    not_negative = λ e number. crossing e (one_or_two e number.from_one number.in_range);
    has_upper = tt;
    has_yes = ((λ less. is), tt);
    tours = λ tasks n tour joined. omega (arith, ints, all_services tasks tour.required, gains tasks);
  };
}
