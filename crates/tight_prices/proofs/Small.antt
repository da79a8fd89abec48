-- The town of one street: no number of its prices can be raised.
use Rattle.std.proofs.Common.{◌≡◌, ℕ, ◌≤◌, List, [], ◌∷◌, length, refl, ap, subst, arith, lit≤, inl, inr, pos, ◌≤ℤ◌, length-append}
use Rattle.std.specs.List.{AllByRecursion}
use Rattle.std.proofs.lemmas.Int.{ints}
use Rattle.carp_base.specs.declared.edge.Task.{Task}
use Rattle.carp_base.specs.Problem.{IsRequired, IsEdgeNumber, edge_at}
use Rattle.deadhead_paths.specs.Examples.{town, homeward, task}
use Rattle.deadhead_paths.specs.Prices.{price_of}
use Rattle.deadhead_paths.specs.Tours.{IsTaskTour, LeastDeadhead}
use Rattle.decision_chains.specs.Exclusions.{Excluded}
use Rattle.branch_rules.specs.Examples.{heavy_prices, light_prices, town_pool, town_prices}
use Rattle.branch_rules.specs.Laws.{FitsBranch}
use Rattle.branch_rules.specs.Prices.{Prices, crossing_prices, deadhead_price, signed_sum, task_adds}
use Rattle.tight_prices.specs.Tight.{AreKept, IsNeededSingle, IsNoHigher, IsPriceTight, IsTight, IsWeightTight, with_price, with_weight}
use Rattle.tight_prices.proofs.Weighed.{weight_else}

only_task : (e : ℕ) → IsRequired town e → e ≡ 1
only_task e required = omega (arith, required.from_one, required.in_range)

only_edge : (e : ℕ) → IsEdgeNumber town e → e ≡ 1
only_edge e number = omega (arith, number.from_one, number.in_range)

free_crossing : (e : ℕ) → e ≡ 1 → pos 0 ≤ℤ deadhead_price town_pool town_prices (edge_at town e)
free_crossing e is = rw is (omega (arith, ints))

free_service : (e : ℕ) → e ≡ 1 → task_adds town town_prices e ≡ pos 0
free_service e is = rw is refl

free_tasks : (tasks : List Task) → AllByRecursion (λ t. IsRequired town t.edge) tasks → signed_sum (λ t. task_adds town town_prices t.edge) tasks ≡ pos 0
free_tasks [] all = refl
free_tasks (t ∷ tasks) all = omega (arith, ints, free_service t.edge (only_task t.edge all.0), free_tasks tasks all.1)

town_fits : FitsBranch town town_pool [] town_prices
town_fits = record {
  one_each = refl;
  fits = record {
    not_negative = λ e number. free_crossing e (only_edge e number);
    has_upper = ((λ less. absurd (omega (arith, ints, less))), tt);
    has_yes = tt;
    tours = λ tasks n tour joined. omega (arith, ints, free_tasks tasks tour.required);
  };
}

-- the tour that serves the street and comes back
one_tour : IsTaskTour town (λ a b. ¬ (Excluded town [] a b)) (task ∷ [])
one_tour = record {
  some = λ none. omega (arith, ap length none);
  required = (record { from_one = lit≤ tt; in_range = lit≤ tt }, tt);
  load = lit≤ tt;
  each_allowed = λ a b follows. absurd (omega (arith, ap length follows.joined, length-append follows.before (a ∷ (b ∷ follows.after))));
}

free_home : LeastDeadhead town (price_of (crossing_prices town town_pool town_prices)) 1 (task ∷ []) 1 0
free_home = (
  0,
  0,
  record { steps = []; reached = record { unserved = tt; leads = refl; costs = refl }; least = λ n other is. omega arith },
  record {
    steps = homeward ∷ [];
    reached = record { unserved = (refl, tt); leads = (record { from_one = lit≤ tt; in_range = lit≤ tt }, refl, refl); costs = refl };
    least = λ n other is. omega arith;
  },
  refl,
)

no_price : FitsBranch town town_pool [] (with_price town_prices 1 1) → ⊥
no_price fits = omega (arith, ints, fits.fits.tours (task ∷ []) 0 one_tour free_home)

no_weight : FitsBranch town town_pool [] (with_weight town_prices 1 1) → ⊥
no_weight fits = omega (arith, ints, fits.fits.not_negative 1 (record { from_one = lit≤ tt; in_range = lit≤ tt }))

price_tight : (e : ℕ) → e ≡ 1 → IsPriceTight town town_pool [] town_prices e
price_tight e is = rw is (inr no_price)

weight_tight : (s : ℕ) → s ≡ 1 → IsWeightTight town town_pool [] town_prices s
weight_tight s is = rw is (inr no_weight)

pub town_tight : IsTight town town_pool 1 [] town_prices
town_tight = record {
  fits = town_fits;
  prices = λ e required. price_tight e (only_task e required);
  weights = λ s within needed. weight_tight s (omega (arith, within, needed.number.from_one));
}

abbrev pub low_prices : Prices
low_prices = record { unit = 1; services = pos 6 ∷ []; weights = town_prices.weights; groups = [] }

pub low_not : IsTight town town_pool 1 [] low_prices → ⊥
low_not is = elim (is.prices 1 (record { from_one = lit≤ tt; in_range = lit≤ tt })) [
  | inl most ↦ omega (arith, ints, most)
  | inr not ↦ not town_fits
]

pub heavy_not : IsTight town town_pool 1 [] heavy_prices → ⊥
heavy_not is = omega (arith, ints, is.fits.fits.not_negative 1 (record { from_one = lit≤ tt; in_range = lit≤ tt }))

pub lighter : IsNoHigher town_prices light_prices → ⊥
lighter is = omega (arith, ints, is.weights 1)

-- the first shores that are needed single vertices
abbrev Held : ℕ → ℕ → Type 0
Held held shore = (shore ≤ held) × IsNeededSingle town town_pool shore

first_needed : IsNeededSingle town town_pool 1
first_needed = record { number = record { from_one = lit≤ tt; in_range = lit≤ tt }; v = 2; single = refl; needed = lit≤ tt }

first_held : (shore : ℕ) → 1 ≡ shore → Held 1 shore
first_held shore is = subst (Held 1) is (lit≤ tt, first_needed)

pub held_only : AreKept (Held 1) town_prices heavy_prices
held_only shore not = weight_else 1 shore 1 town_prices.weights (λ is. not (first_held shore is))

pub not_kept : AreKept (Held 0) town_prices heavy_prices → ⊥
not_kept kept =
    let same : pos 6 ≡ pos 5 = kept 1 (λ held. omega (arith, held.0)) in
    omega (arith, ints, same)
