-- Prices by the least ratio of deadhead and load: they are small, they fit, and their value is the Ratio floor.
use Rattle.std.proofs.Common.{◌≡◌, ℕ, suc, ◌+◌, ◌*◌, ◌≤◌, true, List, [], ◌∷◌, ◌++◌, length, take, refl, sym, ap, ◌∙◌, subst, arith, inl, inr, ℤ, pos, ◌*ℤ◌, ◌≤ℤ◌}
use Rattle.std.specs.List.{sum_by}
use Rattle.std.proofs.Math.Nat.{mul-le-mul_left}
use Rattle.std.proofs.lemmas.Bool.{cases_lt}
use Rattle.std.proofs.lemmas.Int.{ints}
use Rattle.std.proofs.lemmas.List.{length-append}
use Rattle.std.proofs.lemmas.List.Sums.{sum_by-cons}
use Rattle.carp_base.specs.declared.edge.Edge.{Edge}
use Rattle.carp_base.specs.declared.edge.Task.{Task}
use Rattle.carp_base.specs.Problem.{Problem, IsValid, IsRequired, edge_at, tail_of, head_of, required_cost, total_demand}
use Rattle.plan_model.specs.declared.step.Step.{Step}
use Rattle.deadhead_paths.specs.Prices.{IsLeastPrice, price_of, costs_of}
use Rattle.deadhead_paths.specs.Tours.{LeastDeadhead}
use Rattle.deadhead_paths.specs.Laws.{FewStepsAreLeast, LeastDeadheadIsThere}
use Rattle.decision_chains.specs.Exclusions.{same}
use Rattle.branch_rules.specs.Prices.{crossing_prices}
use Rattle.branch_rules.specs.Limits.{IsPriceSet}
use Rattle.dual_master.specs.Floors.{FitsAlways, IsFreeTour, tour_load, IsLeastCostRatio, ReachesRatio, ShowsRatio, plain_value}
use Rattle.dual_master.specs.Pieces.{ArePricesSmall, IsRatioIn, ratio_set}
use Rattle.dual_master.proofs.Nested.{least_small}
use Rattle.dual_master.proofs.Taking.{crossing_scaled, services_take}
use Rattle.dual_master.proofs.Packed.{costs_small, packing_law}
use Rattle.dual_master.proofs.Sums.{services_sum, prices_long, price_at, prices_small}

-- least prices by scaled costs are scaled least prices
steps_scaled : (q r : ℕ → ℕ) (b : ℕ) → ((e : ℕ) → r e ≡ b * q e) → (steps : List Step) → sum_by (λ s. r s.edge) steps ≡ b * sum_by (λ s. q s.edge) steps
steps_scaled q r b scaled [] = omega arith
steps_scaled q r b scaled (s ∷ steps) =
    let here = sum_by-cons (λ (x : Step). q x.edge) s steps in
    let there = sum_by-cons (λ (x : Step). r x.edge) s steps in
    rw (here, there) (omega (arith, scaled s.edge, steps_scaled q r b scaled steps))

pub cancel : (b m n : ℕ) → 1 ≤ b → b * m ≤ b * n → m ≤ n
cancel b m n some most = elim (cases_lt n m) [
  | inl less ↦
      let more : b * suc n ≤ b * m = mul-le-mul_left b (omega (arith, less)) in
      absurd (omega (arith, more, most, some))
  | inr within ↦ within
]

least_back : (p : Problem) (q r : ℕ → ℕ) (b : ℕ) → 1 ≤ b → ((e : ℕ) → r e ≡ b * q e) → (a c n : ℕ) → IsLeastPrice p r a c n → (m : ℕ) × (n ≡ b * m) × IsLeastPrice p q a c m
least_back p q r b some scaled a c n is =
    let m = sum_by (λ (s : Step). q s.edge) is.steps in
    let whole : n ≡ b * m = is.reached.costs ∙ steps_scaled q r b scaled is.steps in (
      m,
      whole,
      record {
        steps = is.steps;
        reached = record { unserved = is.reached.unserved; leads = is.reached.leads; costs = refl };
        least = λ k other reached.
            let most : n ≤ b * k =
            is.least (b * k) other (record {
              unserved = reached.unserved;
              leads = reached.leads;
              costs = ap (λ i. b * i) reached.costs ∙ sym (steps_scaled q r b scaled other);
            }) in
            cancel b m k some (omega (arith, whole, most));
      },
    )

deadhead_back : (p : Problem) (q r : ℕ → ℕ) (b : ℕ) → 1 ≤ b → ((e : ℕ) → r e ≡ b * q e) → (a c : ℕ) (tasks : List Task) (n : ℕ) → LeastDeadhead p r a tasks c n →
    (m : ℕ) × (n ≡ b * m) × LeastDeadhead p q a tasks c m
deadhead_back p q r b some scaled a c [] n is = least_back p q r b some scaled a c n is
deadhead_back p q r b some scaled a c (t ∷ tasks) n is =
    let x = edge_at p t.edge in
    let here = least_back p q r b some scaled a (tail_of x t.forward) is.0 is.2 in
    let rest = deadhead_back p q r b some scaled (head_of x t.forward) c tasks is.1 is.3 in
    (here.0 + rest.0, omega (arith, is.4, here.1, rest.1), (here.0, rest.0, here.2, rest.2, refl))

-- a tour of one edge
one_follows : (x a b : ℕ) (before after : List ℕ) → x ∷ [] ≡ before ++ (a ∷ (b ∷ after)) → ⊥
one_follows x a b before after is = absurd (omega (arith, ap length is, length-append before (a ∷ (b ∷ after))))

abbrev alone : ℕ → List Task
alone e = record { edge = e; forward = true } ∷ []

tour_alone : (p : Problem) (e : ℕ) → IsValid p → IsRequired p e → IsFreeTour p (alone e)
tour_alone p e valid is = record {
  some = λ none. omega (arith, ap length none);
  required = (is, tt);
  load = omega (arith, (valid.tasks e is).demand_fits);
  each_allowed = λ a b follows. absurd (one_follows e a b follows.before follows.after follows.joined);
}

load_alone : (p : Problem) (e : ℕ) → tour_load p (alone e) ≡ (edge_at p e).demand
load_alone p e = omega arith

loaded_some : (p : Problem) (tasks : List Task) → IsValid p → IsFreeTour p tasks → 1 ≤ tour_load p tasks
loaded_some p [] valid tour = absurd (tour.some refl)
loaded_some p (t ∷ tasks) valid tour =
    omega (arith, sum_by-cons (λ (u : Task). (edge_at p u.edge).demand) t tasks, (valid.tasks t.edge tour.required.0).some_demand)

some_required : (p : Problem) (tasks : List Task) → IsFreeTour p tasks → (e : ℕ) × IsRequired p e
some_required p [] tour = absurd (tour.some refl)
some_required p (t ∷ tasks) tour = (t.edge, tour.required.0)

module _ (few : FewStepsAreLeast) (there : LeastDeadheadIsThere) (p : Problem) (valid : IsValid p) (a b : ℕ) (ratio : IsLeastCostRatio p a b) where
  load_some : 1 ≤ b
  load_some = omega (arith, ratio.loaded, loaded_some p ratio.tasks valid ratio.tour)

  load_few : b ≤ 30000
  load_few = omega (arith, ratio.loaded, ratio.tour.load, valid.capacity_in)

  -- the tour of an edge alone bounds what its demand takes
  share_small : (e : ℕ) → IsRequired p e → a * (edge_at p e).demand ≤ 2000000000 * b
  share_small e is =
      let x = edge_at p e in
      let way = there p valid (price_of (costs_of p)) (alone e) (is, tt) in
      let most : a * x.demand ≤ way.0 * b = subst (λ n. a * n ≤ way.0 * b) (load_alone p e) (ratio.least (alone e) way.0 (tour_alone p e valid is) way.1) in
      let out = least_small few p p.depot (tail_of x true) way.1.0 valid way.1.2 in
      let back = least_small few p (head_of x true) p.depot way.1.1 valid way.1.3 in
      let short : way.0 ≤ 2000000000 = omega (arith, way.1.4, out, back) in
      let times : b * way.0 ≤ b * 2000000000 = mul-le-mul_left b short in
      omega (arith, most, times)

  prices_in : ArePricesSmall p b a
  prices_in e is =
      let cost = (valid.tasks e is).service_in in
      let one : b * (edge_at p e).service ≤ b * 1000000 = mul-le-mul_left b cost in
      omega (arith, one, share_small e is, load_few)

  share_in : a ≤ 1000000000000000
  share_in =
      let some = some_required p ratio.tasks ratio.tour in
      let one : a * 1 ≤ a * (edge_at p some.0).demand = mul-le-mul_left a (valid.tasks some.0 some.1).some_demand in
      omega (arith, one, share_small some.0 some.1, load_few)

  pub ratio_in : IsRatioIn p a b
  ratio_in = record { some = load_some; few = omega (arith, load_few); small = share_in; prices = prices_in }

  -- each relaxed tour pays
  pub ratio_fits : (pool : List (List ℕ)) → FitsAlways p pool (ratio_set p a b)
  ratio_fits pool branch = record {
    one_each = prices_long p b a valid;
    fits = record {
      not_negative = λ e number. omega (arith, ints);
      has_upper = tt;
      has_yes = tt;
      tours = λ tasks n tour joined.
          let free : IsFreeTour p tasks = record {
            some = tour.some;
            required = tour.required;
            load = tour.load;
            each_allowed = λ c d follows. λ equal. tour.each_allowed c d follows (same equal);
          } in
          let back = deadhead_back p (price_of (costs_of p)) (price_of (crossing_prices p pool (ratio_set p a b))) b load_some (crossing_scaled p pool a b) p.depot p.depot tasks n joined in
          let most : a * tour_load p tasks ≤ back.0 * b = ratio.least tasks back.0 free back.2 in
          omega (arith, ints, services_take p a b valid tasks tour.required, most, back.1);
    };
  }

  -- the value is the floor
  reached : (c t a' b' : ℕ) (value : ℤ) → value ≡ pos (b * c + a * t) → a' * b ≤ a * b' → pos (b * (c * b' + t * a')) ≤ℤ (value *ℤ pos b')
  reached c t a' b' value is most =
      let more : t * (a' * b) ≤ t * (a * b') = mul-le-mul_left t most in
      let product : (b * c + a * t) * b' ≡ b * (c * b') + t * (a * b') = omega arith in
      let floor : b * (c * b' + t * a') ≡ b * (c * b') + t * (a' * b) = omega arith in
      rw is (omega (arith, ints, more, product, floor))

  pub ratio_reaches : (pool : List (List ℕ)) → ReachesRatio p pool (ratio_set p a b)
  ratio_reaches pool a' b' other =
      reached (required_cost p) (total_demand p) a' b' (plain_value p pool (ratio_set p a b))
      (omega (arith, ints, services_sum p b a))
      (let most : a' * tour_load p ratio.tasks ≤ a * b' = other.least ratio.tasks a ratio.tour ratio.joined in rw ratio.loaded most)

  -- and no more
  just : (c t a' b' : ℕ) (value : ℤ) → value ≡ pos (b * c + a * t) → a' * b ≡ a * b' → (value *ℤ pos b') ≡ pos (b * (c * b' + t * a'))
  just c t a' b' value is equal =
      let shared : t * (a' * b) ≡ t * (a * b') = ap (λ (n : ℕ). t * n) equal in
      let product : (b * c + a * t) * b' ≡ b * (c * b') + t * (a * b') = omega arith in
      let floor : b * (c * b' + t * a') ≡ b * (c * b') + t * (a' * b) = omega arith in
      rw is (omega (arith, ints, shared, product, floor))

  pub ratio_shows : (pool : List (List ℕ)) → ShowsRatio p pool (ratio_set p a b)
  ratio_shows pool = record {
    ratio = λ a' b' other.
        let no_less : a * b' ≤ a' * b = rw other.loaded (ratio.least other.tasks a' other.tour other.joined) in
        let no_more : a' * b ≤ a * b' = rw ratio.loaded (other.least ratio.tasks a ratio.tour ratio.joined) in
        just (required_cost p) (total_demand p) a' b' (plain_value p pool (ratio_set p a b)) (omega (arith, ints, services_sum p b a)) (omega (arith, no_less, no_more));
    nothing = λ none. let some = some_required p ratio.tasks ratio.tour in absurd (omega (arith, none, some.1.from_one, some.1.in_range));
  }

-- the set is within its limits
pub ratio_set_fine : (p : Problem) (a b : ℕ) → IsValid p → IsRatioIn p a b → IsPriceSet (ratio_set p a b)
ratio_set_fine p a b valid is = record {
  some_unit = is.some;
  unit_in = is.few;
  few_services = omega (arith, prices_long p b a valid, valid.few_required);
  services = prices_small p b a valid is.prices;
  few_weights = omega arith;
  weights = λ k d below. absurd (omega (arith, below));
  rising = λ k below. absurd (omega (arith, below));
  few_groups = omega arith;
  groups = λ k d below. absurd (omega (arith, below));
  few_edges = omega arith;
}

pub nothing_in : (p : Problem) → IsValid p → IsRatioIn p 0 1
nothing_in p valid = record { some = omega arith; few = omega arith; small = omega arith; prices = costs_small p 1 valid (omega arith) }

-- without a ratio services are at cost, and pay by themselves
pub plain_fits : (p : Problem) (pool : List (List ℕ)) → IsValid p → FitsAlways p pool (ratio_set p 0 1)
plain_fits p pool valid =
    packing_law p pool (ratio_set p 0 1)
    (record { one_each = prices_long p 1 0 valid; at_cost = λ e is. price_at p (ratio_set p 0 1) 1 0 e valid refl is ∙ ap pos (omega arith); no_groups = refl })
    (record { none_negative = λ k d below. absurd (omega (arith, below)); packs = λ e number. omega (arith, ints) })

-- without required edges their value is 0
pub plain_shows : (p : Problem) (pool : List (List ℕ)) → p.required ≡ 0 → ShowsRatio p pool (ratio_set p 0 1)
plain_shows p pool none = record {
  ratio = λ a b least. let some = some_required p least.tasks least.tour in absurd (omega (arith, none, some.1.from_one, some.1.in_range));
  nothing = λ _.
      let no_cost : required_cost p ≡ 0 = ap (λ (n : ℕ). sum_by (λ (x : Edge). x.service) (take n p.edges)) none in
      omega (arith, ints, services_sum p 1 0, no_cost);
}
