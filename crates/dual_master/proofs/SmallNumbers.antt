-- The town of one street: its least ways, its level sets, its least ratio and its least join.
use Rattle.std.proofs.Common.{◌≡◌, ◌≢◌, ℕ, zero, suc, ◌+◌, ◌*◌, ◌<◌, ◌≤◌, Bool, true, false, List, [], ◌∷◌, ◌++◌, length, map, refl, sym, ap, ◌∙◌, subst, arith, inl, inr, ◌⊎◌, pos, negsuc, ◌*ℤ◌, ◌≤ℤ◌, lit≤, nat_abs, slice_index_or}
use Rattle.std.specs.List.{sum_by}
use Rattle.std.specs.Prelude.{◌&&◌, ◌↔◌, IsTrue, nat_lt}
use Rattle.std.proofs.lemmas.Bool.{false≢true, cases_lt, lt-ltb, le-ltb}
use Rattle.std.proofs.lemmas.List.Elements.{All-nil, All-cons}
use Rattle.std.proofs.lemmas.Int.{ints}
use Rattle.std.proofs.lemmas.List.{length-map}
use Rattle.std.proofs.lemmas.List.Sums.{sum_by-cons}
use Rattle.carp_base.specs.declared.edge.Task.{Task}
use Rattle.carp_base.specs.Problem.{IsEdgeNumber, IsFineEdge, IsFineTask, IsRequired, IsValid, IsVertex, edge_at, head_of, tail_of}
use Rattle.plan_model.specs.Plans.{Leads}
use Rattle.plan_model.specs.declared.step.Step.{Step}
use Rattle.cut_pool.specs.Shores.{Belongs, IsShore, is_in, need}
use Rattle.cut_pool.specs.declared.shore.Weighted.{Weighted}
use Rattle.capacity_cuts.specs.Laws.{ShellsWeighTheirNeeds}
use Rattle.capacity_cuts.specs.Levels.{IsBeyond, IsLevelSet, AreShells, AreLevelSets, needs_below, weighted_needs}
use Rattle.deadhead_paths.specs.Examples.{town, forth, homeward, task}
use Rattle.deadhead_paths.specs.Prices.{IsLeastPrice, price_of, costs_of}
use Rattle.matching_duals.specs.Joins.{MakesEven, IsJoinBound, IsLeastJoin, IsOddShore, all_halves, halves_over, join_cost}
use Rattle.branch_rules.specs.Examples.{light_prices, town_pool, town_prices}
use Rattle.branch_rules.specs.Prices.{Prices, no_weight, price_in}
use Rattle.dual_master.specs.Examples.{bare_prices, half_prices, high_prices, no_town, shared_prices, town_halves, town_level, town_shells}
use Rattle.dual_master.specs.Floors.{IsFreeTour, HasDeadhead, IsLeastCostRatio, ReachesJoin, ReachesRatio, ReachesShell, ShowsJoinShores, ShowsRatio, ShowsShell, plain_value, shores_of, tour_load}
use Rattle.dual_master.specs.Laws.{ServesAtCost, WeightsPack}
use Rattle.dual_master.specs.Sets.{IsJoinSet, IsRatioSet, IsShellSet, empty_set}

abbrev q : ℕ → ℕ
q e = price_of (costs_of town) e

only_edge : (e : ℕ) → IsEdgeNumber town e → e ≡ 1
only_edge e number = omega (arith, number.from_one, number.in_range)

only_task : (e : ℕ) → IsRequired town e → e ≡ 1
only_task e required = omega (arith, required.from_one, required.in_range)

-- one goes over the street or stays
apart_cost : (a b : ℕ) (steps : List Step) → a ≢ b → Leads town a steps b → 5 ≤ sum_by (λ s. q s.edge) steps
apart_cost a b [] apart leads = absurd (apart leads)
apart_cost a b (s ∷ steps) apart leads =
    let five : q s.edge ≡ 5 = ap q (only_edge s.edge leads.0) in
    omega (arith, five, sum_by-cons (λ (x : Step). q x.edge) s steps)

pub stays : (a : ℕ) → IsLeastPrice town q a a 0
stays a = record { steps = []; reached = record { unserved = tt; leads = refl; costs = refl }; least = λ n other reached. omega arith }

street_number : IsEdgeNumber town 1
street_number = record { from_one = lit≤ tt; in_range = lit≤ tt }

pub out : IsLeastPrice town q 1 2 5
out = record {
  steps = forth ∷ [];
  reached = record { unserved = (refl, tt); leads = (street_number, refl, refl); costs = refl };
  least = λ n other reached. omega (arith, reached.costs, apart_cost 1 2 other (λ is. omega (arith, is)) reached.leads);
}

back : IsLeastPrice town q 2 1 5
back = record {
  steps = homeward ∷ [];
  reached = record { unserved = (refl, tt); leads = (street_number, refl, refl); costs = refl };
  least = λ n other reached. omega (arith, reached.costs, apart_cost 2 1 other (λ is. omega (arith, is)) reached.leads);
}

least_apart : (a b n : ℕ) → a ≢ b → IsLeastPrice town q a b n → 5 ≤ n
least_apart a b n apart is = omega (arith, is.reached.costs, apart_cost a b is.steps apart is.reached.leads)

-- the tour of the street
one_tour : IsFreeTour town (task ∷ [])
one_tour = record {
  some = λ none. omega (arith, ap length none);
  required = (record { from_one = lit≤ tt; in_range = lit≤ tt }, tt);
  load = lit≤ tt;
  each_allowed = λ a b follows. absurd (none a b follows.before follows.after follows.joined);
}
  where
    none : (a b : ℕ) (before after : List ℕ) → 1 ∷ [] ≡ before ++ (a ∷ (b ∷ after)) → ⊥
    none a b [] after is = omega (arith, ap length is)
    none a b (c ∷ []) after is = omega (arith, ap length is)
    none a b (c ∷ (d ∷ before)) after is = omega (arith, ap length is)

one_deadhead : HasDeadhead town (task ∷ []) 5
one_deadhead = (0, 5, stays 1, back, refl)

-- each tour serves the street once, and goes over it once more
way_cost : (e k m : ℕ) (forward : Bool) → e ≡ 1 → IsLeastPrice town q 1 (tail_of (edge_at town e) forward) k → IsLeastPrice town q (head_of (edge_at town e) forward) 1 m → 5 ≤ k + m
way_cost e k m true is first second =
    let at : (edge_at town e).v ≡ 2 = ap (λ i. (edge_at town i).v) is in
    omega (arith, least_apart (edge_at town e).v 1 m (λ same. omega (arith, same, at)) second)
way_cost e k m false is first second =
    let at : (edge_at town e).v ≡ 2 = ap (λ i. (edge_at town i).v) is in
    omega (arith, least_apart 1 (edge_at town e).v k (λ same. omega (arith, same, at)) first)

tour_least : (tasks : List Task) (n : ℕ) → IsFreeTour town tasks → HasDeadhead town tasks n → 5 * tour_load town tasks ≤ n * 1
tour_least [] n tour joined = absurd (tour.some refl)
tour_least (t ∷ []) n tour joined =
    let is = only_task t.edge tour.required.0 in
    let one : (edge_at town t.edge).demand ≡ 1 = ap (λ e. (edge_at town e).demand) is in
    omega (arith, one, way_cost t.edge joined.0 joined.1 t.forward is joined.2 joined.3, joined.4, sum_by-cons (λ (u : Task). (edge_at town u.edge).demand) t [])
tour_least (t ∷ (u ∷ rest)) n tour joined =
    absurd (tour.each_allowed t.edge u.edge (record { before = []; after = map (λ (v : Task). v.edge) rest; joined = refl }) (only_task t.edge tour.required.0 ∙ sym (only_task u.edge tour.required.1.0)))

pub town_ratio : IsLeastCostRatio town 5 1
town_ratio = record { tasks = task ∷ []; tour = one_tour; joined = one_deadhead; loaded = refl; least = tour_least }

pub no_dearer_ratio : IsLeastCostRatio town 6 1 → ⊥
no_dearer_ratio ratio = let most : 6 * 1 ≤ 5 * 1 = ratio.least (task ∷ []) 5 one_tour one_deadhead in omega (arith, most)

value_is : plain_value town town_pool town_prices ≡ pos 12
value_is = refl

pub ratio_reached : ReachesRatio town town_pool town_prices
ratio_reached a b ratio =
    let most : a * 1 ≤ 5 * b = ratio.least (task ∷ []) 5 one_tour one_deadhead in
    let floor : pos (1 * (7 * b + 1 * a)) ≤ℤ (pos 12 *ℤ pos b) = omega (arith, ints, most) in
    floor

pub ratio_missed : ReachesRatio town town_pool bare_prices → ⊥
ratio_missed reaches =
    let floor : pos (1 * (7 * 1 + 1 * 5)) ≤ℤ (pos 7 *ℤ pos 1) = reaches 5 1 town_ratio in
    omega (arith, ints, floor)

-- each least ratio is 5 to 1
five_times : (a b : ℕ) → IsLeastCostRatio town a b → a ≡ 5 * b
five_times a b ratio =
    let no_less : 5 * tour_load town ratio.tasks ≤ a * 1 = tour_least ratio.tasks a ratio.tour ratio.joined in
    let no_more : a * 1 ≤ 5 * b = ratio.least (task ∷ []) 5 one_tour one_deadhead in
    omega (arith, no_less, no_more, ratio.loaded)

pub ratio_shown : ShowsRatio town [] shared_prices
ratio_shown = record {
  ratio = λ a b ratio.
      let floor : (pos 12 *ℤ pos b) ≡ pos (1 * (7 * b + 1 * a)) = omega (arith, ints, five_times a b ratio) in
      floor;
  nothing = λ none. absurd (omega (arith, none));
}

pub ratio_passed : ShowsRatio town [] high_prices → ⊥
ratio_passed shows =
    let floor : (pos 13 *ℤ pos 1) ≡ pos (1 * (7 * 1 + 1 * 5)) = shows.ratio 5 1 town_ratio in
    omega (arith, ints, floor)

no_tour : (tasks : List Task) → IsFreeTour no_town tasks → ⊥
no_tour [] tour = absurd (tour.some refl)
no_tour (t ∷ tasks) tour = omega (arith, tour.required.0.from_one, tour.required.0.in_range)

pub no_ratio_shown : ShowsRatio no_town [] empty_set
no_ratio_shown = record { ratio = λ a b least. absurd (no_tour least.tasks least.tour); nothing = λ _. refl }

-- one deadhead makes both ends even, and none does not
one_or_two : (v : ℕ) → IsVertex town v → (v ≡ 1) ⊎ (v ≡ 2)
one_or_two v vertex = elim (cases_lt v 2) [
  | inl low ↦ inl (omega (arith, low, vertex.from_one))
  | inr high ↦ inr (omega (arith, high, vertex.in_range))
]

one_is_even : MakesEven town (1 ∷ [])
one_is_even = record {
  one_each = refl;
  even = λ v vertex. elim (one_or_two v vertex) [
    | inl is ↦ rw is refl
    | inr is ↦ rw is refl
  ];
}

join_least : (counts : List ℕ) → MakesEven town counts → 5 ≤ join_cost town counts
join_least [] even = absurd (omega (arith, even.one_each))
join_least (zero ∷ rest) even =
    let odd : 1 ≡ 0 = even.even 2 (record { from_one = lit≤ tt; in_range = lit≤ tt }) in
    absurd (omega (arith, odd))
join_least (suc c ∷ rest) even =
    let cost : join_cost town (suc c ∷ rest) ≡ 0 + suc c * 5 = refl in
    omega (arith, cost)

pub town_join : IsLeastJoin town 5
town_join = record { counts = 1 ∷ []; makes_even = one_is_even; costs = refl; least = join_least }

pub join_reached : ReachesJoin town town_pool town_prices
join_reached value is =
    let most : value ≤ 5 = is.least (1 ∷ []) one_is_even in
    let floor : pos (1 * (7 + value)) ≤ℤ pos 12 = omega (arith, ints, most) in
    floor

pub join_missed : ReachesJoin town town_pool bare_prices → ⊥
join_missed reaches =
    let floor : pos (1 * (7 + 5)) ≤ℤ pos 7 = reaches 5 town_join in
    omega (arith, ints, floor)

-- the other vertex lies beyond the levels below 5
beyond_two : (t : ℕ) → t < 5 → IsBeyond town t 2
beyond_two t below = record { distance = 5; is = out; above = below }

not_beyond_two : (t : ℕ) → 5 ≤ t → IsBeyond town t 2 → ⊥
not_beyond_two t past beyond = let most : beyond.distance ≤ 5 = beyond.is.least 5 out.steps out.reached in omega (arith, most, past, beyond.above)

not_beyond_one : (t : ℕ) → IsBeyond town t 1 → ⊥
not_beyond_one t beyond = let stay = stays 1 in let most : beyond.distance ≤ 0 = beyond.is.least 0 stay.steps stay.reached in omega (arith, most, beyond.above)

abbrev LevelAt : (ℕ → Bool) → ℕ → ℕ → Type 0
LevelAt inside t v = IsTrue (inside v) ↔ IsBeyond town t v

pub town_levels : AreLevelSets town town_level
town_levels t v vertex = elim (one_or_two v vertex) [
  | inl is ↦ subst (LevelAt (town_level t) t) (sym is) (at_one (nat_lt t 5))
  | inr is ↦ subst (LevelAt (town_level t) t) (sym is) (at_two (nat_lt t 5) (lt-ltb t 5) (le-ltb t 5) (cases_lt t 5))
]
  where
    at_one : (b : Bool) → IsTrue (b && false) ↔ IsBeyond town t 1
    at_one true = ((λ there. absurd (false≢true there)), (λ beyond. absurd (not_beyond_one t beyond)))
    at_one false = ((λ there. absurd (false≢true there)), (λ beyond. absurd (not_beyond_one t beyond)))

    at_two : (b : Bool) → (t < 5 → b ≡ true) → (5 ≤ t → b ≡ false) → (t < 5) ⊎ (5 ≤ t) → IsTrue (b && true) ↔ IsBeyond town t 2
    at_two true holds fails (inl below) = ((λ there. beyond_two t below), (λ beyond. refl))
    at_two true holds fails (inr past) = absurd (false≢true (sym (fails past)))
    at_two false holds fails (inl below) = absurd (false≢true (holds below))
    at_two false holds fails (inr past) = ((λ there. absurd (false≢true there)), (λ beyond. absurd (not_beyond_two t past beyond)))

shell_level : (s : ℕ) → s < 5 → IsLevelSet town s (is_in (2 ∷ []))
shell_level s below v vertex = elim (one_or_two v vertex) [
  | inl is ↦ subst (LevelAt (is_in (2 ∷ [])) s) (sym is) ((λ there. absurd (false≢true there)), (λ beyond. absurd (not_beyond_one s beyond)))
  | inr is ↦ subst (LevelAt (is_in (2 ∷ [])) s) (sym is) ((λ there. beyond_two s below), (λ beyond. refl))
]

two_in : IsVertex town 2
two_in = record { from_one = lit≤ tt; in_range = lit≤ tt }

two_shore : IsShore (2 ∷ [])
two_shore = record { some = λ none. omega (arith, ap length none); rising = λ k below. absurd (omega (arith, below)) }

two_belongs : Belongs town (2 ∷ [])
two_belongs = record { vertices = All-cons (IsVertex town) 2 [] two_in (All-nil (IsVertex town)); no_depot = refl }

town_are_shells : AreShells town town_shells
town_are_shells = (
  record {
    is_shore = two_shore;
    belongs = two_belongs;
    weight = refl;
    some = lit≤ tt;
    level = λ s low below. shell_level s (omega (arith, below));
    ends = λ again. not_beyond_two 5 (lit≤ tt) ((again 2 two_in).0 refl);
  },
  λ v vertex beyond. elim (one_or_two v vertex) [
    | inl is ↦ not_beyond_one 5 (subst (IsBeyond town 5) is beyond)
    | inr is ↦ not_beyond_two 5 (lit≤ tt) (subst (IsBeyond town 5) is beyond)
  ],
)

street_fine : IsFineEdge town (edge_at town 1)
street_fine = record {
  u_in = record { from_one = lit≤ tt; in_range = lit≤ tt };
  v_in = two_in;
  no_loop = λ same. omega (arith, same);
  cost_in = lit≤ tt;
}

task_fine : IsFineTask town 1
task_fine = record { some_demand = lit≤ tt; demand_fits = lit≤ tt; reached = record { path = []; leads = refl }; service_in = lit≤ tt }

town_valid : IsValid town
town_valid = record {
  few_vertices = lit≤ tt;
  few_edges = lit≤ tt;
  few_required = lit≤ tt;
  required_in = lit≤ tt;
  depot_in = record { from_one = lit≤ tt; in_range = lit≤ tt };
  some_capacity = lit≤ tt;
  capacity_in = lit≤ tt;
  few_states = lit≤ tt;
  edges = λ e number. subst (λ i. IsFineEdge town (edge_at town i)) (sym (only_edge e number)) street_fine;
  tasks = λ e required. subst (IsFineTask town) (sym (only_task e required)) task_fine;
  idle = λ e number above. absurd (omega (arith, number.in_range, above));
}

module _ (weigh : ShellsWeighTheirNeeds) where
  five_levels : (level : ℕ → ℕ → Bool) (k : ℕ) → AreLevelSets town level → 1000000000 ≤ k → needs_below town level k ≡ 5
  five_levels level k levels far =
      let five : weighted_needs town town_shells ≡ 5 = refl in
      sym (weigh town town_shells level k town_valid town_are_shells levels far) ∙ five

  pub shell_reached : ReachesShell town town_pool town_prices
  shell_reached level k levels far =
      let floor : pos (1 * (7 + needs_below town level k)) ≤ℤ pos 12 = omega (arith, ints, five_levels level k levels far) in
      floor

  pub shell_shown : ShowsShell town town_pool town_prices
  shell_shown level k levels far =
      let floor : pos 12 ≡ pos (1 * (7 + needs_below town level k)) = omega (arith, ints, five_levels level k levels far) in
      floor

  passed_at : (k : ℕ) → 1000000000 ≤ k → ShowsShell town town_pool high_prices → ⊥
  passed_at k far shows =
      let floor : pos 13 ≡ pos (1 * (7 + needs_below town town_level k)) = shows town_level k town_levels far in
      omega (arith, ints, floor, five_levels town_level k town_levels far)

  pub shell_passed : ShowsShell town town_pool high_prices → ⊥
  shell_passed = passed_at 1000000000 (lit≤ tt)

  missed_at : (k : ℕ) → 1000000000 ≤ k → ReachesShell town town_pool bare_prices → ⊥
  missed_at k far reaches =
      let floor : pos (1 * (7 + needs_below town town_level k)) ≤ℤ pos 7 = reaches town_level k town_levels far in
      omega (arith, ints, floor, five_levels town_level k town_levels far)

  pub shell_missed : ReachesShell town town_pool bare_prices → ⊥
  shell_missed = missed_at 1000000000 (lit≤ tt)

-- Sets that are made.

at_cost : (set : Prices) → length set.services ≡ 1 → price_in set 1 ≡ pos (set.unit * 7) → set.groups ≡ [] → ServesAtCost town set
at_cost set long one none = record { one_each = long; at_cost = λ e is. each e (only_task e is); no_groups = none }
  where
    each : (e : ℕ) → e ≡ 1 → price_in set e ≡ pos (set.unit * (edge_at town e).service)
    each e is = rw is one

pub shell_made : IsShellSet town town_pool town_prices
shell_made = record {
  shells = town_shells;
  are = town_are_shells;
  weighs = record { denominator = refl; services = at_cost town_prices refl refl refl; held = refl; weights = refl };
}

pub shell_weightless : IsShellSet town town_pool bare_prices → ⊥
shell_weightless is =
    omega (
      arith,
      ap length is.weighs.held,
      ap length is.weighs.weights,
      length-map is.shells (λ (s : Weighted). s.shore),
      length-map is.shells (λ (s : Weighted). s.weight),
    )

by_number : (Holds : ℕ → Type 0) → Holds zero → ((k : ℕ) → Holds (suc k)) → (e : ℕ) → Holds e
by_number Holds first later zero = first
by_number Holds first later (suc k) = later k

halves_pack : (e : ℕ) → e ≡ 1 → halves_over town_halves (edge_at town e) ≤ 2 * (edge_at town e).cost
halves_pack e is = rw is (lit≤ tt)

town_bound : IsJoinBound town (1 ∷ []) town_halves 5
town_bound = record {
  makes_even = one_is_even;
  once = by_number _ (omega arith) (by_number _ (omega arith) (λ k. omega arith));
  costs = refl;
  least = town_join;
  odd =
      All-cons (IsOddShore town) (record { shore = 2 ∷ []; weight = pos 10 }) []
      (record { is_shore = two_shore; belongs = two_belongs; odd = refl; positive = refl; some = lit≤ tt }) (All-nil (IsOddShore town));
  packs = λ e number. halves_pack e (only_edge e number);
  twice = refl;
  different = λ i j d i_in j_in same. omega (arith, i_in, j_in);
  few = lit≤ tt;
}

pub join_made : IsJoinSet town town_pool half_prices
join_made = record {
  counts = 1 ∷ [];
  shores = town_halves;
  value = 5;
  show = town_bound;
  weighs = record { denominator = refl; services = at_cost half_prices refl refl refl; held = refl; weights = refl };
}

pub join_shown : ShowsJoinShores town town_pool half_prices
join_shown = record {
  shores = record { counts = 1 ∷ []; shores = town_halves; value = 5; show = town_bound; held = refl };
  needs = refl;
}

-- the one shore needs one deadhead
needs_ten : (shores : List Weighted) → town_pool ≡ shores_of shores → weighted_needs town shores ≡ all_halves shores
needs_ten [] held = absurd (omega (arith, ap length held))
needs_ten (s ∷ []) held =
    let same : s.shore ≡ 2 ∷ [] = sym (ap (λ (xs : List (List ℕ)). slice_index_or xs 0 []) held) in
    let one : need town (is_in s.shore) ≡ 1 = ap (λ (xs : List ℕ). need town (is_in xs)) same in
    let product : nat_abs s.weight * need town (is_in s.shore) ≡ nat_abs s.weight * 1 = ap (λ (n : ℕ). nat_abs s.weight * n) one in
    omega (arith, product)
needs_ten (s ∷ (r ∷ shores)) held = absurd (omega (arith, ap length held))

pub join_passed : ShowsJoinShores town town_pool high_prices → ⊥
join_passed shows =
    let value : pos 26 ≡ pos (1 * (2 * 7 + weighted_needs town shows.shores.shores)) = shows.needs in
    let least : shows.shores.value ≤ 5 = shows.shores.show.least.least (1 ∷ []) one_is_even in
    omega (arith, ints, value, needs_ten shows.shores.shores shows.shores.held, shows.shores.show.twice, least)

pub join_wholes : IsJoinSet town town_pool town_prices → ⊥
join_wholes is = omega (arith, is.weighs.denominator)

shared_price : (e : ℕ) → e ≡ 1 → price_in shared_prices e ≡ pos (1 * (edge_at town e).service + 5 * (edge_at town e).demand)
shared_price e is = rw is refl

pub ratio_made : IsRatioSet town shared_prices
ratio_made = inr (record {
  deadhead = 5;
  load = 1;
  least = town_ratio;
  denominator = refl;
  one_each = refl;
  prices = λ e is. shared_price e (only_task e is);
  no_weights = refl;
})

street_required : IsRequired town 1
street_required = record { from_one = lit≤ tt; in_range = lit≤ tt }

-- the deadhead of the only street is shared out
pub ratio_unshared : IsRatioSet town bare_prices → ⊥
ratio_unshared (inl (none, same)) = omega (arith, none)
ratio_unshared (inr is) =
    let least : 5 * tour_load town is.least.tasks ≤ is.deadhead * 1 = tour_least is.least.tasks is.deadhead is.least.tour is.least.joined in
    let price : pos 7 ≡ pos (is.load * 7 + is.deadhead * 1) = is.prices 1 street_required in
    let one : 1 ≡ is.load = is.denominator in
    omega (arith, ints, least, price, one, is.least.loaded)

pub nothing_made : IsRatioSet no_town empty_set
nothing_made = inl (refl, refl)

pub empty_not : IsRatioSet town empty_set → ⊥
empty_not (inl (none, same)) = omega (arith, none)
empty_not (inr is) = omega (arith, is.one_each)

-- a weight is negative
pub negative_weight : WeightsPack town town_pool light_prices → ⊥
negative_weight pack =
    let low : pos 0 ≤ℤ negsuc 0 = pack.none_negative 0 no_weight (lit≤ tt) in
    omega (arith, ints, low)
