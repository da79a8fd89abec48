-- Sets of shores that pack: they fit, and their value is what the shores need.
use Rattle.std.proofs.Common.{◌≡◌, ℕ, ◌+◌, ◌-◌, ◌*◌, ◌%◌, ◌≤◌, max, List, [], ◌∷◌, map, refl, sym, subst, ap, ◌∙◌, arith, ℤ, pos, negsuc, ◌-ℤ◌, ◌≤ℤ◌, ◌<ℤ◌, nat_abs}
use Rattle.std.specs.Prelude.{if◌then◌else◌, IsSome, IsTrue}
use Rattle.std.specs.List.{All, AllByRecursion, sum_by}
use Rattle.std.proofs.Math.Nat.{mul-le-mul_left}
use Rattle.std.proofs.lemmas.Int.{ints}
use Rattle.std.proofs.lemmas.List.Elements.{All-head, All-tail, All-weaker, recursion_from_All}
use Rattle.std.proofs.lemmas.List.Sums.{sum_by-cons}
use Rattle.carp_base.specs.declared.edge.Task.{Task}
use Rattle.carp_base.specs.Problem.{Problem, IsValid, IsRequired, IsEdgeNumber, edge_at, required_cost}
use Rattle.plan_model.specs.Plans.{crosses}
use Rattle.cut_pool.specs.Shores.{is_in, need, required_crossings, touched, vehicles, Belongs}
use Rattle.cut_pool.specs.declared.shore.Weighted.{Weighted}
use Rattle.capacity_cuts.specs.Levels.{weighted_needs}
use Rattle.branch_rules.specs.declared.weight.Weight.{Weight}
use Rattle.branch_rules.specs.Bonds.{GroupWeight, bond_weight}
use Rattle.branch_rules.specs.Decisions.{is_yes_pair, lowest, to_parity}
use Rattle.branch_rules.specs.Limits.{IsPriceSet, IsShoreOf}
use Rattle.branch_rules.specs.Prices.{Prices, price_in, task_adds, signed_sum, weigh}
use Rattle.dual_master.specs.Floors.{FitsAlways, plain_value, shores_of}
use Rattle.dual_master.specs.Laws.{PackingWeightsFit, ServesAtCost}
use Rattle.dual_master.specs.Pieces.{ArePlaceable, ArePricesSmall, IsPositive, prices_of, weights_from}
use Rattle.dual_master.proofs.Sums.{services_sum, prices_long, price_at, prices_small}
use Rattle.dual_master.proofs.Numbers.{each_weight, each_number, weights_sum, crossing_sum, numbers_rise, weights_fine, weights_long}

-- services at cost add nothing
no_price : (n : ℕ) (z : ℤ) → z ≡ pos n → pos n -ℤ z ≡ pos 0
no_price n z is = omega (arith, ints, is)

nothing_added : (p : Problem) (set : Prices) → ServesAtCost p set → (tasks : List Task) → AllByRecursion (λ t. IsRequired p t.edge) tasks →
    signed_sum (λ t. task_adds p set t.edge) tasks ≡ pos 0
nothing_added p set serves [] all = refl
nothing_added p set serves (t ∷ tasks) all =
    omega (
      arith,
      ints,
      no_price (set.unit * (edge_at p t.edge).service) (price_in set t.edge) (serves.at_cost t.edge all.0),
      nothing_added p set serves tasks all.1,
    )

pub packing_law : PackingWeightsFit
packing_law p pool set serves pack branch = record {
  one_each = serves.one_each;
  fits = record {
    not_negative = λ e number. omega (arith, ints, pack.packs e number);
    has_upper =
        recursion_from_All (λ (w : Weight). w.weight <ℤ pos 0 → IsSome (lowest w.shore branch)) set.weights
        (All-weaker (λ (w : Weight). pos 0 ≤ℤ w.weight) (λ (w : Weight). w.weight <ℤ pos 0 → IsSome (lowest w.shore branch)) (λ w most less. absurd (omega (arith, ints, most, less))) set.weights pack.none_negative);
    has_yes = subst (AllByRecursion (λ (w : GroupWeight). w.weight <ℤ pos 0 → IsTrue (is_yes_pair branch w.edges))) (sym serves.no_groups) tt;
    tours = λ tasks n tour joined.
        omega (arith, ints, nothing_added p set serves tasks tour.required, ap (λ groups. bond_weight groups (map (λ (t : Task). t.edge) tasks)) serves.no_groups);
  };
}

-- no price of a service at cost is large
pub costs_small : (p : Problem) (unit : ℕ) → IsValid p → unit ≤ 1000000 → ArePricesSmall p unit 0
costs_small p unit valid few e is =
    let cost = (valid.tasks e is).service_in in
    let one : unit * (edge_at p e).service ≤ unit * 1000000 = mul-le-mul_left unit cost in
    omega (arith, one, few)

-- the services of such a set are at cost
pub serves_at_cost : (p : Problem) (unit : ℕ) (shores : List Weighted) → IsValid p → ServesAtCost p (prices_of p unit shores)
serves_at_cost p unit shores valid = record {
  one_each = prices_long p unit 0 valid;
  at_cost = λ e is. price_at p (prices_of p unit shores) unit 0 e valid refl is ∙ ap pos (omega arith);
  no_groups = refl;
}

-- the set is within its limits
pub set_fine : (p : Problem) (unit : ℕ) (shores : List Weighted) → IsValid p → 1 ≤ unit → unit ≤ 1000000 → ArePlaceable p shores → IsPriceSet (prices_of p unit shores)
set_fine p unit shores valid some few placeable = record {
  some_unit = some;
  unit_in = few;
  few_services = omega (arith, prices_long p unit 0 valid, valid.few_required);
  services = prices_small p unit 0 valid (costs_small p unit valid few);
  few_weights = omega (arith, weights_long 1 shores, placeable.few);
  weights = weights_fine 1 shores (omega arith) placeable.positive;
  rising = numbers_rise 1 shores;
  few_groups = omega arith;
  groups = λ k d below. absurd (omega (arith, below));
  few_edges = omega arith;
}

module _ (p : Problem) (pool : List (List ℕ)) (unit : ℕ) (shores : List Weighted) (valid : IsValid p) (held : pool ≡ shores_of shores) (placeable : ArePlaceable p shores) where
  -- the shores that belong
  pub pool_belongs : All (λ w. IsShoreOf p pool w.shore) (weights_from 1 shores)
  pool_belongs k d below = record {
    number = each_number pool [] 1 shores held refl k d below;
    belongs = each_weight (λ shore z. Belongs p shore) pool [] 1 shores held refl placeable.belong k d below;
  }

  none_negative : All (λ w. pos 0 ≤ℤ w.weight) (weights_from 1 shores)
  none_negative = each_weight (λ shore z. pos 0 ≤ℤ z) pool [] 1 shores held refl (All-weaker IsPositive (λ (s : Weighted). pos 0 ≤ℤ s.weight) (λ s is. omega (arith, ints, is.natural)) shores placeable.positive)

  pub shores_fit : ((e : ℕ) → IsEdgeNumber p e → sum_by (λ s. if crosses (is_in s.shore) (edge_at p e) then nat_abs s.weight else 0) shores ≤ unit * (edge_at p e).cost) →
      FitsAlways p pool (prices_of p unit shores)
  shores_fit packs = packing_law p pool (prices_of p unit shores) (serves_at_cost p unit shores valid) (record {
    none_negative = none_negative;
    packs = λ e number.
        omega (
          arith,
          ints,
          weights_sum (λ shore z. if crosses (is_in shore) (edge_at p e) then z else pos 0) pool [] 1 shores held refl,
          crossing_sum (λ shore. crosses (is_in shore) (edge_at p e)) shores placeable.positive,
          packs e number,
        );
  })

  -- each weight counts just so often as its shore needs
  weigh_just : (z : ℤ) (n low least : ℕ) → z ≡ pos n → low ≡ least → weigh z low 0 ≡ pos (n * least)
  weigh_just (pos m) n low least is same =
      let first : m ≡ n = omega (arith, ints, is) in
      let product : n * low ≡ n * least = ap (λ (i : ℕ). n * i) same in
      rw first (omega (arith, ints, product))
  weigh_just (negsuc m) n low least is same = absurd (omega (arith, ints, is))

  -- a need has the parity of the required crossings
  needed : (r v : ℕ) → to_parity r (max (max (r % 2) (2 * v - r)) 0) ≡ max (r % 2) (2 * v - r)
  needed r v = omega arith

  weights_are : (rest : List Weighted) → All IsPositive rest →
      signed_sum (λ s. weigh s.weight (to_parity (required_crossings p (is_in s.shore)) (max (need p (is_in s.shore)) 0)) 0) rest ≡ pos (weighted_needs p rest)
  weights_are [] positive = refl
  weights_are (s ∷ rest) positive =
      let first = All-head IsPositive s rest positive in
      omega (
        arith,
        ints,
        weigh_just s.weight (nat_abs s.weight) (to_parity (required_crossings p (is_in s.shore)) (max (need p (is_in s.shore)) 0)) (need p (is_in s.shore)) first.natural
            (needed (required_crossings p (is_in s.shore)) (vehicles p (touched p (is_in s.shore)))),
        weights_are rest (All-tail IsPositive s rest positive),
        sum_by-cons (λ r. nat_abs r.weight * need p (is_in r.shore)) s rest,
      )

  pub value_is : plain_value p pool (prices_of p unit shores) ≡ pos (unit * required_cost p + weighted_needs p shores)
  value_is =
      omega (
        arith,
        ints,
        services_sum p unit 0,
        weights_sum (λ shore z. weigh z (to_parity (required_crossings p (is_in shore)) (max (need p (is_in shore)) 0)) 0) pool [] 1 shores held refl,
        weights_are shores placeable.positive,
      )
