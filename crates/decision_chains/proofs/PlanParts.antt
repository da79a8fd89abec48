-- One tour more: its chain is served and paid for.
use Rattle.std.proofs.Common.{◌≡◌, ◌≢◌, ℕ, zero, suc, ◌+◌, ◌-◌, ◌≤◌, ◌<◌, ◌==◌, Bool, true, false, ◌||◌, cond, List, [], ◌∷◌, ◌++◌, length, map, get_or, refl, sym, ◌∙◌, ap, subst, arith, length-append, inl, inr, ◌⊎◌}
use Rattle.std.specs.Prelude.{if◌then◌else◌}
use Rattle.std.specs.List.{AllByRecursion, sum_by, count_by, list_any}
use Rattle.std.proofs.lemmas.List.{flat_map_more, map-append, get_or_default}
use Rattle.std.proofs.lemmas.List.Sums.{sum_by-cons, sum_by-append}
use Rattle.std.proofs.lemmas.Bool.{cases_eq, cases_lt, eq-eqb, ne_eqb, or_left, or_from, both_ways, false_from_ne_true, not_from_false}
use Rattle.carp_base.specs.declared.edge.Task.{Task}
use Rattle.carp_base.specs.Problem.{IsValid, IsRequired, edge_at}
use Rattle.plan_model.specs.Plans.{IsLawful, plan_cost, steps_of, step_cost, walk_cost}
use Rattle.plan_model.specs.Sums.{sum_to}
use Rattle.plan_model.specs.declared.step.Step.{Step}
use Rattle.deadhead_paths.specs.Laws.{LeastPriceIsSymmetric, LeastDeadheadIsThere, LeastDeadheadIsLeast, LeastPathsCost}
use Rattle.deadhead_paths.specs.Tidy.{GoByLeastPaths, served_steps}
use Rattle.deadhead_paths.specs.Tours.{IsFollowed, tasks_of, task_of}
use Rattle.task_tours.specs.Laws.{LawfulToursMakeLawfulPlans}
use Rattle.task_tours.specs.Tours.{all_tasks, plan_tours, tour_load}
use Rattle.decision_chains.specs.Neighbours.{served_edges, times}
use Rattle.decision_chains.specs.Exclusions.{IsYes, AreJoined, AreDistinct, IsHeavy}
use Rattle.decision_chains.specs.FixedValue.{HasChainCost, HasFixedValue}
use Rattle.decision_chains.specs.Laws.{YesPairsJoin}
use Rattle.decision_chains.specs.ChainTables.{IsChainTable}
use Rattle.decision_chains.specs.ChainWalks.{IsTrail, Runs, RunsFrom, is_marked, unmarked}
use Rattle.decision_chains.specs.ChainPlans.{IsChainTour, IsPartPlan}
use Rattle.decision_chains.specs.declared.chains.Chains.{Chains}
use Rattle.decision_chains.specs.declared.decision.Decision.{Decision}
use Rattle.decision_chains.proofs.PlanTimes.{times-cons, times-same}
use Rattle.decision_chains.proofs.Walking.{joined_free}
use Rattle.decision_chains.proofs.Uniqueness.{turned_on, two_orders}
use Rattle.decision_chains.proofs.ChainTours.{tasks_serve, tour_leads, tour_least, walk_serves, paths_short, all_of}

-- what follows along a run is yes
follows_trail : (branch : List Decision) (a b x : ℕ) (ys before after : List ℕ) → IsTrail branch x ys → x ∷ ys ≡ before ++ (a ∷ (b ∷ after)) → IsYes branch a b
follows_trail branch a b x [] [] after trail joined = cc
follows_trail branch a b x (y ∷ ys) [] after trail joined =
    let x_a : x ≡ a = cc in
    let y_b : y ≡ b = cc in
    rw (sym x_a, sym y_b) trail.0
follows_trail branch a b x [] (w ∷ []) after trail joined = cc
follows_trail branch a b x [] (w ∷ (v ∷ ws)) after trail joined = cc
follows_trail branch a b x (y ∷ ys) (w ∷ ws) after trail joined = follows_trail branch a b y ys ws after trail.1 (let rest : y ∷ ys ≡ ws ++ (a ∷ (b ∷ after)) = cc in rest)

run_trail : (branch : List Decision) (b x : ℕ) (ys : List ℕ) → Runs branch b x ys → IsTrail branch x ys
run_trail branch b x [] runs = tt
run_trail branch b x (y ∷ ys) runs = (runs.0, run_trail branch x y ys runs.3)

follows_run : (branch : List Decision) (es : List ℕ) (a b : ℕ) → RunsFrom branch es → IsFollowed es a b → IsYes branch a b
follows_run branch [] a b runs follows = absurd runs
follows_run branch (x ∷ xs) a b runs follows = follows_trail branch a b x xs follows.before follows.after (run_trail branch 0 x xs runs) follows.joined

-- lists
count_map : (e : ℕ) (ts : List Task) → count_by (λ t. t.edge == e) ts ≡ times e (map (λ t. t.edge) ts)
count_map e [] = refl
count_map e (t ∷ ts) = omega (arith, sum_by-cons (λ u. cond (u.edge == e) 1 0) t ts, times-cons e t.edge (map (λ u. u.edge) ts), count_map e ts)

length_map : (ts : List Task) → length (map (λ t. t.edge) ts) ≡ length ts
length_map [] = refl
length_map (t ∷ ts) = ap suc (length_map ts)

length_tasks : (ss : List Step) → length (map task_of ss) ≡ length ss
length_tasks [] = refl
length_tasks (s ∷ ss) = ap suc (length_tasks ss)

sum_map : (f : ℕ → ℕ) (ts : List Task) → sum_by (λ t. f t.edge) ts ≡ sum_by f (map (λ t. t.edge) ts)
sum_map f [] = refl
sum_map f (t ∷ ts) = omega (arith, sum_by-cons (λ u. f u.edge) t ts, sum_by-cons f t.edge (map (λ u. u.edge) ts), sum_map f ts)

all_more : {X : Type 0} (P : X → Type 0) (xs ys : List X) → AllByRecursion P xs → AllByRecursion P ys → AllByRecursion P (xs ++ ys)
all_more P [] ys all more = more
all_more P (x ∷ xs) ys all more = (all.0, all_more P xs ys all.1 more)

none_any : (e : ℕ) (es : List ℕ) → times e es ≡ 0 → list_any (λ x. x == e) es ≡ false
none_any e [] none = refl
none_any e (x ∷ es) none = elim (cases_eq x e) [
  | inl same ↦ absurd (omega (arith, none, times-cons e x es, ap {B = ℕ} (λ b. cond b 1 0) (eq-eqb x e same)))
  | inr other ↦ or_from (x == e) _ (ne_eqb x e other) (none_any e es (omega (arith, none, times-cons e x es)))
]

distinct_of : (es : List ℕ) → ((e : ℕ) → times e es ≤ 1) → AreDistinct es
distinct_of [] once = tt
distinct_of (e ∷ es) once = (
  not_from_false _ (none_any e es (omega (arith, once e, times-same e es))),
  distinct_of es (λ f. omega (arith, once f, times-cons f e es)),
)

-- a sum of which one number changes
sum_to-one : (m k c : ℕ) (f g : ℕ → ℕ) → 1 ≤ k → k ≤ m → f k ≡ g k + c → ((e : ℕ) → e ≢ k → f e ≡ g e) → sum_to m f ≡ sum_to m g + c
sum_to-one zero k c f g from_one most here there = absurd (omega (arith, from_one, most))
sum_to-one (suc m) k c f g from_one most here there = elim (cases_eq k (suc m)) [
  | inl last ↦
      let here' : f (suc m) ≡ g (suc m) + c = subst (λ e. f e ≡ g e + c) last here in
      omega (arith, here', below m (omega (arith, last)))
  | inr other ↦ omega (arith, sum_to-one m k c f g from_one (omega (arith, most, other)) here there, there (suc m) (λ same. other (sym same)))
]
  where
    below : (n : ℕ) → n < k → sum_to n f ≡ sum_to n g
    below zero less = refl
    below (suc n) less = omega (arith, below n (omega (arith, less)), there (suc n) (λ same. omega (arith, same, less)))

tasks_more : (plan : List (List Step)) (walk : List Step) → all_tasks (plan_tours (plan ++ walk ∷ [])) ≡ all_tasks (plan_tours plan) ++ tasks_of walk
tasks_more plan walk = ap all_tasks (map-append tasks_of plan (walk ∷ [])) ∙ sym (flat_map_more (λ tour. tour) [] (plan_tours plan) (tasks_of walk))

steps_more : (plan : List (List Step)) (walk : List Step) → steps_of (plan ++ walk ∷ []) ≡ steps_of plan ++ walk
steps_more plan walk = sym (flat_map_more (λ w. w) [] plan walk)

module _ (laws : YesPairsJoin) (t : Chains) (table : IsChainTable t) (untangled : t.tangled ≡ false) (light : (e : ℕ) → ¬ (IsHeavy t.inst.now t.decisions.now e e)) (valid : IsValid t.inst.now)
    (symmetric : LeastPriceIsSymmetric) (there : LeastDeadheadIsThere) (least : LeastDeadheadIsLeast) (paths_cost : LeastPathsCost) where
  pub first_part : (marks : List Bool) → length marks ≡ t.inst.now.required → ((e : ℕ) → is_marked marks e ≡ false) → unmarked marks ≡ t.inst.now.required → IsPartPlan t 1 marks []
  first_part marks long none all = record {
    long = long;
    closed = λ a b is marked. absurd (both_ways _ (none a) marked);
    below = λ e from_one less. absurd (omega (arith, from_one, less));
    paths = tt;
    required = tt;
    once = λ e marked. absurd (both_ways _ (none e) marked);
    none = λ e free. refl;
    loads = tt;
    few = omega arith;
    few_tasks = omega (arith, all);
    few_steps = omega arith;
    cost = λ e. 0;
    first = λ e. false;
    first_marked = λ e is. cc;
    some_first = λ e marked. absurd (both_ways _ (none e) marked);
    one_first = λ e f joined is_e is_f. cc;
    costs = λ e is. cc;
    sum_is = sym (nothing t.inst.now.required);
  }
    where
      nothing : (m : ℕ) → sum_to m (λ e. 0) ≡ 0
      nothing zero = refl
      nothing (suc m) = omega (arith, nothing m)

  pub skipped_part : (k : ℕ) (marks : List Bool) (plan : List (List Step)) → IsPartPlan t k marks plan → is_marked marks k ≡ true → IsPartPlan t (k + 1) marks plan
  skipped_part k marks plan part marked = record {
    long = part.long;
    closed = part.closed;
    paths = part.paths;
    required = part.required;
    once = part.once;
    none = part.none;
    loads = part.loads;
    few_tasks = part.few_tasks;
    few_steps = part.few_steps;
    cost = part.cost;
    first = part.first;
    first_marked = part.first_marked;
    some_first = part.some_first;
    one_first = part.one_first;
    costs = part.costs;
    sum_is = part.sum_is;
    below = λ e from_one less. elim (cases_eq e k) [
      | inl same ↦ rw same marked
      | inr other ↦ part.below e from_one (omega (arith, less, other))
    ];
    few = omega (arith, part.few);
  }

  module _ (k : ℕ) (marks marks' : List Bool) (plan : List (List Step)) (walk : List Step) (part : IsPartPlan t k marks plan) (tour : IsChainTour t k marks walk marks') (required : IsRequired t.inst.now k) (free : is_marked marks k ≡ false) where
    itself : AreJoined t.decisions.now k k
    itself = ([], refl)

    required_all : (es : List ℕ) → AllByRecursion (IsRequired t.inst.now) es → (e : ℕ) → 1 ≤ times e es → IsRequired t.inst.now e
    required_all [] all e some = absurd (omega (arith, some))
    required_all (x ∷ es) all e some = elim (cases_eq x e) [
      | inl same ↦ subst (IsRequired t.inst.now) same all.0
      | inr other ↦ required_all es all.1 e (omega (arith, some, times-cons e x es, ap {B = ℕ} (λ b. cond b 1 0) (ne_eqb x e other)))
    ]

    edge_required : (e : ℕ) → 1 ≤ times e tour.edges → IsRequired t.inst.now e
    edge_required = required_all tour.edges tour.ordered.all_required

    serves : served_edges walk ≡ tour.edges
    serves = walk_serves t.inst.now valid symmetric there least paths_cost tour.edges tour.tasks walk tour.cheapest tour.joins edge_required

    walk_edges : map (λ u. u.edge) (tasks_of walk) ≡ tour.edges
    walk_edges = tasks_serve walk ∙ serves

    -- the walk serves the chain, and no other that does costs less
    chain_cost : HasChainCost t.inst.now t.decisions.now k (walk_cost t.inst.now walk)
    chain_cost = record {
      walk = walk;
      serves = record {
        leads = tour_leads t.inst.now valid symmetric there least paths_cost tour.edges tour.tasks walk tour.cheapest tour.joins edge_required;
        just = λ f some. tour.ordered.joined f (omega (arith, some, ap (times f) serves));
        each = λ f joined. ap (times f) serves ∙ tour.ordered.each f joined;
        order = λ a b follows. follows_run t.decisions.now tour.edges a b tour.ordered.runs (subst (λ es. IsFollowed es a b) serves follows);
      };
      costs = refl;
      least = λ other chain. tour_least t.inst.now valid symmetric there least paths_cost tour.edges tour.tasks walk tour.cheapest tour.joins edge_required other chain.leads
          (orders (served_edges other) chain.order chain.each chain.just);
    }
      where
        orders : (es : List ℕ) → ((a b : ℕ) → IsFollowed es a b → IsYes t.decisions.now a b) → ((f : ℕ) → AreJoined t.decisions.now k f → times f es ≡ 1) →
            ((f : ℕ) → 1 ≤ times f es → AreJoined t.decisions.now k f) → (es ≡ tour.edges) ⊎ (es ≡ turned_on tour.edges [])
        orders [] order each just = absurd (omega (arith, each k itself))
        orders (z ∷ zs) order each just = two_orders laws t table untangled k tour.edges tour.ordered.each tour.ordered.joined z zs order each just tour.ordered.runs

    once_edges : (e : ℕ) → times e tour.edges ≤ 1
    once_edges e = elim (cases_lt 0 (times e tour.edges)) [ inl some ↦ omega (arith, tour.ordered.each e (tour.ordered.joined e some)) | inr none ↦ omega (arith, none) ]

    in_chains : (es : List ℕ) → ((e : ℕ) → 1 ≤ times e es → IsRequired t.inst.now e × AreJoined t.decisions.now k e) →
        AllByRecursion (λ e. IsRequired t.inst.now e × (AreJoined t.decisions.now k e ⊎ AreJoined t.decisions.now k e)) es
    in_chains [] each = tt
    in_chains (e ∷ es) each = (
      (let both = each e (omega (arith, times-same e es)) in (both.0, inl both.1)),
      in_chains es (λ f some. each f (omega (arith, some, times-cons f e es))),
    )

    load_fits : tour_load t.inst.now (tasks_of walk) ≤ t.inst.now.capacity
    load_fits = elim (cases_lt t.inst.now.capacity (sum_by (λ e. (edge_at t.inst.now e).demand) tour.edges)) [
      | inl over ↦ absurd (light k record {
        edges = tour.edges;
        distinct = distinct_of tour.edges once_edges;
        joined = in_chains tour.edges (λ e some. (edge_required e some, tour.ordered.joined e some));
        over = over;
      })
      | inr fits ↦ omega (arith, fits, sum_map (λ e. (edge_at t.inst.now e).demand) (tasks_of walk), ap (sum_by (λ e. (edge_at t.inst.now e).demand)) walk_edges)
    ]

    count_more : (e : ℕ) → count_by (λ u. u.edge == e) (all_tasks (plan_tours (plan ++ walk ∷ []))) ≡ count_by (λ u. u.edge == e) (all_tasks (plan_tours plan)) + times e tour.edges
    count_more e =
        omega (
          arith,
          ap (count_by (λ u. u.edge == e)) (tasks_more plan walk),
          sum_by-append (λ u. cond (u.edge == e) 1 0) (all_tasks (plan_tours plan)) (tasks_of walk),
          count_map e (tasks_of walk),
          ap (times e) walk_edges,
        )

    first' : ℕ → Bool
    first' e = (e == k) || part.first e

    cost' : ℕ → ℕ
    cost' e = if e == k then walk_cost t.inst.now walk else part.cost e

    first_k : first' k ≡ true
    unfolding first'
    first_k = or_left (k == k) (part.first k) (eq-eqb k k refl)

    not_first : part.first k ≡ false
    not_first = false_from_ne_true _ (λ is. both_ways _ free (part.first_marked k is))

    first_old : (e : ℕ) → e ≢ k → first' e ≡ part.first e
    unfolding first'
    first_old e other = ap (λ b. b || part.first e) (ne_eqb e k other)

    cost_old : (e : ℕ) → e ≢ k → cost' e ≡ part.cost e
    unfolding cost'
    cost_old e other = ap (λ b. if b then walk_cost t.inst.now walk else part.cost e) (ne_eqb e k other)

    cost_k : cost' k ≡ walk_cost t.inst.now walk
    unfolding cost'
    cost_k = ap (λ b. if b then walk_cost t.inst.now walk else part.cost k) (eq-eqb k k refl)

    marked_k : is_marked marks' k ≡ true
    marked_k = tour.ordered.marked.added k (omega (arith, tour.ordered.each k itself))

    free_of : (f : ℕ) → AreJoined t.decisions.now k f → part.first f ≡ true → ⊥
    free_of f joined is = both_ways _ free (joined_free laws t.decisions.now marks part.closed k f joined.0 joined.1 (part.first_marked f is))

    joined_back : (e f : ℕ) → AreJoined t.decisions.now e f → AreJoined t.decisions.now f e
    joined_back e f joined = laws.turned t.decisions.now e f joined

    pub longer_part : IsPartPlan t (k + 1) marks' (plan ++ walk ∷ [])
    longer_part = record {
      long = tour.ordered.long;
      closed = tour.ordered.closed;
      below = λ e from_one less. elim (cases_eq e k) [
        | inl same ↦ rw same marked_k
        | inr other ↦ tour.ordered.marked.kept e (part.below e from_one (omega (arith, less, other)))
      ];
      paths = all_more (λ w. GoByLeastPaths t.inst.now (served_steps w) t.inst.now.depot t.inst.now.depot w) plan (walk ∷ []) part.paths (tour.joins.paths, tt);
      required = rw (tasks_more plan walk) (all_more (λ u. IsRequired t.inst.now u.edge) (all_tasks (plan_tours plan)) (tasks_of walk) part.required
          (all_of t.inst.now (IsRequired t.inst.now) (tasks_of walk) (λ e some. edge_required e (omega (arith, some, ap (times e) walk_edges)))));
      once = λ e marked. elim (cases_lt 0 (times e tour.edges)) [
        | inl some ↦ omega (arith, count_more e, part.none e (tour.ordered.marked.fresh e some), tour.ordered.each e (tour.ordered.joined e some))
        | inr none ↦ elim (tour.ordered.marked.only e marked) [
          | inl before ↦ omega (arith, count_more e, part.once e before, none)
          | inr some ↦ absurd (omega (arith, some, none))
        ]
      ];
      none = λ e unmarked'. elim (cases_lt 0 (times e tour.edges)) [
        | inl some ↦ absurd (both_ways _ unmarked' (tour.ordered.marked.added e some))
        | inr none ↦ omega (arith, count_more e, none, part.none e (false_from_ne_true _ (λ before. both_ways _ unmarked' (tour.ordered.marked.kept e before))))
      ];
      loads = rw (map-append tasks_of plan (walk ∷ [])) (all_more (λ tour'. tour_load t.inst.now tour' ≤ t.inst.now.capacity) (plan_tours plan) (tasks_of walk ∷ []) part.loads (load_fits, tt));
      few = omega (arith, part.few, length-append plan (walk ∷ []));
      few_tasks = omega (
        arith,
        part.few_tasks,
        tour.ordered.fewer,
        ap length (tasks_more plan walk),
        length-append (all_tasks (plan_tours plan)) (tasks_of walk),
        length_map (tasks_of walk),
        ap length walk_edges,
      );
      few_steps = omega (
        arith,
        part.few_steps,
        ap length (steps_more plan walk),
        length-append (steps_of plan) walk,
        paths_short t.inst.now (served_steps walk) t.inst.now.depot t.inst.now.depot walk valid.few_vertices tour.joins.paths,
        length_tasks (served_steps walk),
        ap length (tasks_more plan walk),
        length-append (all_tasks (plan_tours plan)) (tasks_of walk),
        length-append plan (walk ∷ []),
      );
      cost = cost';
      first = first';
      first_marked = λ e is. elim (cases_eq e k) [
        | inl same ↦ rw same marked_k
        | inr other ↦ tour.ordered.marked.kept e (part.first_marked e (sym (first_old e other) ∙ is))
      ];
      some_first = λ e marked. elim (tour.ordered.marked.only e marked) [
        | inl before ↦ let old = part.some_first e before in (old.0, old.1, old.2, keep old.0 old.3)
        | inr some ↦ (k, required, joined_back k e (tour.ordered.joined e some), first_k)
      ];
      one_first = λ e f joined is_e is_f. elim (cases_eq e k) [
        | inl e_k ↦ elim (cases_eq f k) [
          | inl f_k ↦ e_k ∙ sym f_k
          | inr f_other ↦ absurd (free_of f (subst (λ x. AreJoined t.decisions.now x f) e_k joined) (sym (first_old f f_other) ∙ is_f))
        ]
        | inr e_other ↦ elim (cases_eq f k) [
          | inl f_k ↦ absurd (free_of e (joined_back e k (subst (AreJoined t.decisions.now e) f_k joined)) (sym (first_old e e_other) ∙ is_e))
          | inr f_other ↦ part.one_first e f joined (sym (first_old e e_other) ∙ is_e) (sym (first_old f f_other) ∙ is_f)
        ]
      ];
      costs = λ e is. elim (cases_eq e k) [
        | inl same ↦ subst (λ x. HasChainCost t.inst.now t.decisions.now x (cost' x)) (sym same) (subst (HasChainCost t.inst.now t.decisions.now k) (sym cost_k) chain_cost)
        | inr other ↦ subst (HasChainCost t.inst.now t.decisions.now e) (sym (cost_old e other)) (part.costs e (sym (first_old e other) ∙ is))
      ];
      sum_is = omega (
        arith,
        part.sum_is,
        ap (sum_by (step_cost t.inst.now)) (steps_more plan walk),
        sum_by-append (step_cost t.inst.now) (steps_of plan) walk,
        sum_to-one t.inst.now.required k (walk_cost t.inst.now walk) (λ e. if first' e then cost' e else 0) (λ e. if part.first e then part.cost e else 0) required.from_one required.in_range here elsewhere,
      );
    }
      where
        keep : (e : ℕ) → part.first e ≡ true → first' e ≡ true
        keep e is = elim (cases_eq e k) [
          | inl same ↦ rw same first_k
          | inr other ↦ first_old e other ∙ is
        ]

        here : (if first' k then cost' k else 0) ≡ (if part.first k then part.cost k else 0) + walk_cost t.inst.now walk
        here = omega (arith, ap (λ b. if b then cost' k else 0) first_k, ap (λ b. if b then part.cost k else 0) not_first, cost_k)

        elsewhere : (e : ℕ) → e ≢ k → (if first' e then cost' e else 0) ≡ (if part.first e then part.cost e else 0)
        elsewhere e other = ap (λ b. if b then cost' e else 0) (first_old e other) ∙ ap (λ c. if part.first e then c else 0) (cost_old e other)

module _ (t : Chains) (marks : List Bool) (plan : List (List Step)) (part : IsPartPlan t (t.inst.now.required + 1) marks plan) where
  marked_all : (e : ℕ) → IsRequired t.inst.now e → is_marked marks e ≡ true
  marked_all e is = part.below e is.from_one (omega (arith, is.in_range))

  -- with all chains the plan is lawful, and costs the fixed value
  pub whole_lawful : IsValid t.inst.now → LawfulToursMakeLawfulPlans → IsLawful t.inst.now plan
  whole_lawful valid law = law t.inst.now valid plan part.paths (record {
    served = record { required = part.required; once = λ e is. part.once e (marked_all e is) };
    loads = part.loads;
  })

  pub whole_value : HasFixedValue t.inst.now t.decisions.now (plan_cost t.inst.now plan)
  whole_value = record {
    cost = part.cost;
    first = part.first;
    some_first = λ e is. part.some_first e (marked_all e is);
    one_first = part.one_first;
    costs = λ e is first. part.costs e first;
    sum_is = part.sum_is;
  }

pub tasks_required : (P : ℕ → Type 0) (ts : List Task) → AllByRecursion P (map (λ t. t.edge) ts) → AllByRecursion (λ t. P t.edge) ts
tasks_required P [] all = tt
tasks_required P (t ∷ ts) all = (all.0, tasks_required P ts all.1)

pub mark_place : (marks : List Bool) (e : ℕ) (d : Bool) → 1 ≤ e → e ≤ length marks → get_or marks (e - 1) d ≡ is_marked marks e
mark_place marks zero d from_one in_range = absurd (omega arith)
mark_place marks (suc k) d from_one in_range = let place : suc k - 1 ≡ k = omega arith in ap (λ i. get_or marks i d) place ∙ get_or_default marks k d false (omega (arith, in_range))
