-- The town of one street: its prices fit, and without decisions its branch is fixed.
use Rattle.std.proofs.Common.{◌≡◌, ℕ, ◌≤◌, ◌==◌, Bool, true, false, cond, List, [], ◌∷◌, length, map, refl, sym, ap, ◌∙◌, arith, lit≤, inl, inr, ◌⊎◌, pos, ◌≤ℤ◌, length-append}
use Rattle.std.specs.Prelude.{if◌then◌else◌}
use Rattle.std.specs.List.{AllByRecursion, sum_by}
use Rattle.std.proofs.lemmas.List.Sums.{sum_by-cons}
use Rattle.std.proofs.lemmas.Bool.{cases_Bool, cases_eq, ne_eqb}
use Rattle.std.proofs.lemmas.Int.{ints}
use Rattle.carp_base.specs.declared.edge.Task.{Task}
use Rattle.carp_base.specs.Problem.{IsRequired, IsEdgeNumber, edge_at, tail_of, head_of}
use Rattle.plan_model.specs.Plans.{Leads, walk_cost, step_cost}
use Rattle.plan_model.specs.declared.step.Step.{Step}
use Rattle.deadhead_paths.specs.Tidy.{served_steps}
use Rattle.deadhead_paths.specs.Tours.{IsFollowed}
use Rattle.deadhead_paths.specs.Examples.{town, serve, homeward}
use Rattle.decision_chains.specs.Neighbours.{served_edges, times}
use Rattle.branch_rules.specs.Prices.{signed_sum, task_adds, deadhead_price}
use Rattle.decision_chains.specs.Exclusions.{IsYes, YesPath, AreJoined, same}
use Rattle.branch_rules.specs.Decisions.{IsVoid, IsFixed, three, cycle, heavy_chain, crossed}
use Rattle.decision_chains.specs.FixedValue.{ServesChain, HasChainCost, HasFixedValue}
use Rattle.branch_rules.specs.Laws.{FitsBranch}
use Rattle.decision_chains.specs.declared.decision.Decision.{Decision}
use Rattle.branch_rules.specs.Examples.{town_pool, town_prices}
use Rattle.branch_rules.proofs.Line.{times-cons}
use Rattle.decision_chains.specs.Laws.{DistinctSumToNoMore}

pub only_task : (e : ℕ) → IsRequired town e → e ≡ 1
only_task e required = omega (arith, required.from_one, required.in_range)

only_edge : (e : ℕ) → IsEdgeNumber town e → e ≡ 1
only_edge e number = omega (arith, number.from_one, number.in_range)

-- prices
free_crossing : (e : ℕ) → e ≡ 1 → pos 0 ≤ℤ deadhead_price town_pool town_prices (edge_at town e)
free_crossing e is = rw is (omega (arith, ints))

free_service : (e : ℕ) → e ≡ 1 → task_adds town town_prices e ≡ pos 0
free_service e is = rw is refl

free_tasks : (tasks : List Task) → AllByRecursion (λ t. IsRequired town t.edge) tasks → signed_sum (λ t. task_adds town town_prices t.edge) tasks ≡ pos 0
free_tasks [] all = refl
free_tasks (t ∷ tasks) all = omega (arith, ints, free_service t.edge (only_task t.edge all.0), free_tasks tasks all.1)

pub town_fits : (branch : List Decision) → FitsBranch town town_pool branch town_prices
town_fits branch = record {
  one_each = refl;
  fits = record {
    not_negative = λ e number. free_crossing e (only_edge e number);
    has_upper = ((λ less. absurd (omega (arith, ints, less))), tt);
    has_yes = tt;
    tours = λ tasks n tour joined. omega (arith, ints, free_tasks tasks tour.required);
  };
}

-- chains
no_yes : (a b : ℕ) → IsYes [] a b → ⊥
no_yes a b is = cc

joined_same : (a b : ℕ) (path : List ℕ) → YesPath [] a path b → a ≡ b
joined_same a b [] joined = joined
joined_same a b (x ∷ path) joined = absurd (no_yes a x joined.0)

just_one : (f : ℕ) → 1 ≤ times f (1 ∷ []) → AreJoined [] 1 f
just_one f some = elim (cases_eq 1 f) [
  | inl is ↦ ([], is)
  | inr other ↦ absurd (omega (arith, some, times-cons f 1 [], ap {B = ℕ} (λ b. cond b 1 0) (ne_eqb 1 f other)))
]

once_one : (f : ℕ) → 1 ≡ f → times f (1 ∷ []) ≡ 1
once_one f is = rw (← is) refl

none_follows : (a b : ℕ) → IsFollowed (1 ∷ []) a b → IsYes [] a b
none_follows a b follows = absurd (omega (arith, ap length follows.joined, length-append follows.before (a ∷ (b ∷ follows.after))))

one_chain : ServesChain town [] 1 (serve ∷ homeward ∷ [])
one_chain = record {
  leads = (record { from_one = lit≤ tt; in_range = lit≤ tt }, refl, (record { from_one = lit≤ tt; in_range = lit≤ tt }, refl, refl));
  just = just_one;
  each = λ f joined. once_one f (joined_same 1 f joined.0 joined.1);
  order = none_follows;
}

-- each step costs 5, or 7 where it serves, and a walk that serves goes out and comes back
step_is : (s : Step) → IsEdgeNumber town s.edge → step_cost town s ≡ (if s.served then 7 else 5)
step_is s number = go s.served s.edge (only_edge s.edge number)
  where
    go : (b : Bool) (e : ℕ) → e ≡ 1 → (if b then (edge_at town e).service else (edge_at town e).cost) ≡ (if b then 7 else 5)
    go true e is = rw is refl
    go false e is = rw is refl

some_cost : (b : Bool) → 5 ≤ (if b then 7 else 5)
some_cost true = omega arith
some_cost false = omega arith

serves_later : (s : Step) (walk : List Step) → s.served ≡ false → served_edges (s ∷ walk) ≡ served_edges walk
serves_later s walk = go s.served
  where
    go : (b : Bool) → b ≡ false → map (λ x. x.edge) (cond b (s ∷ served_steps walk) (served_steps walk)) ≡ served_edges walk
    go true is = cc
    go false is = refl

no_round : (forward : Bool) (e : ℕ) → e ≡ 1 → tail_of (edge_at town e) forward ≡ 1 → head_of (edge_at town e) forward ≡ 1 → ⊥
no_round true e is tail head = let two : 2 ≡ 1 = ap (λ x. head_of (edge_at town x) true) (sym is) ∙ head in omega (arith, two)
no_round false e is tail head = let two : 2 ≡ 1 = ap (λ x. tail_of (edge_at town x) false) (sym is) ∙ tail in omega (arith, two)

service_cost : (a b : ℕ) (walk : List Step) → Leads town a walk b → 1 ≤ times 1 (served_edges walk) → 7 ≤ walk_cost town walk
service_cost a b [] leads some = absurd (omega (arith, some))
service_cost a b (s ∷ walk) leads some = elim (cases_Bool s.served) [
  | inl is ↦ omega (arith, sum_by-cons (step_cost town) s walk, step_is s leads.0, ap {B = ℕ} (λ x. if x then 7 else 5) is)
  | inr not ↦ omega (arith, sum_by-cons (step_cost town) s walk, service_cost (head_of (edge_at town s.edge) s.forward) b walk leads.2 (omega (arith, some, ap (times 1) (serves_later s walk not))))
]

round_cost : (walk : List Step) → Leads town 1 walk 1 → 1 ≤ times 1 (served_edges walk) → 12 ≤ walk_cost town walk
round_cost [] leads some = absurd (omega (arith, some))
round_cost (s ∷ []) leads some = absurd (no_round s.forward s.edge (only_edge s.edge leads.0) leads.1 leads.2)
round_cost (s ∷ (t ∷ walk)) leads some = elim (cases_Bool s.served) [
  | inl is ↦
      omega (
        arith,
        sum_by-cons (step_cost town) s (t ∷ walk),
        sum_by-cons (step_cost town) t walk,
        step_is s leads.0,
        ap {B = ℕ} (λ x. if x then 7 else 5) is,
        step_is t leads.2.0,
        some_cost t.served,
      )
  | inr not ↦
      omega (
        arith,
        sum_by-cons (step_cost town) s (t ∷ walk),
        step_is s leads.0,
        some_cost s.served,
        service_cost (head_of (edge_at town s.edge) s.forward) 1 (t ∷ walk) leads.2 (omega (arith, some, ap (times 1) (serves_later s (t ∷ walk) not))),
      )
]

one_cost : HasChainCost town [] 1 12
one_cost = record {
  walk = serve ∷ homeward ∷ [];
  serves = one_chain;
  costs = refl;
  least = λ other is. round_cost other is.leads (omega (arith, is.each 1 ([], refl)));
}

chain_cost : (e : ℕ) → e ≡ 1 → HasChainCost town [] e 12
chain_cost e is = rw is one_cost

pub town_value : HasFixedValue town [] 12
town_value = record {
  cost = λ e. 12;
  first = λ e. e == 1;
  some_first = λ e required. (1, record { from_one = lit≤ tt; in_range = lit≤ tt }, ([], only_task e required), refl);
  one_first = λ e f joined e_first f_first. joined_same e f joined.0 joined.1;
  costs = λ e required first. chain_cost e (only_task e required);
  sum_is = refl;
}

-- no decisions leave nothing open where there is one edge
all_there : (es : List ℕ) → AllByRecursion (λ e. IsRequired town e) es → AllByRecursion (λ e. 1 ≤ times e (1 ∷ [])) es
all_there [] all = tt
all_there (e ∷ es) all = (omega (arith, once_one e (sym (only_task e all.0))), all_there es all.1)

firsts : (P Q : ℕ → Type 0) (es : List ℕ) → AllByRecursion (λ e. P e × Q e) es → AllByRecursion P es
firsts P Q [] all = tt
firsts P Q (e ∷ es) all = (all.0.0, firsts P Q es all.1)

pub town_is_not_void : DistinctSumToNoMore → IsVoid town town_pool [] → ⊥
town_is_not_void distinct (three a b is two) = no_yes a b is
town_is_not_void distinct (cycle a b path other is detour) = no_yes a b is
town_is_not_void distinct (heavy_chain a over) =
    let weight : sum_by (λ e. (edge_at town e).demand) (1 ∷ []) ≡ 1 = refl in
    omega (arith, over.over, weight, distinct (λ e. (edge_at town e).demand) over.edges (1 ∷ []) over.distinct (all_there over.edges (firsts (IsRequired town) (λ e. AreJoined [] a e ⊎ AreJoined [] a e) over.edges over.joined)))
town_is_not_void distinct (crossed shore k is less) = cc

pub town_is_fixed : DistinctSumToNoMore → IsFixed town town_pool []
town_is_fixed distinct = record {
  open_yet = town_is_not_void distinct;
  settled = λ a b a_required b_required. inr (same (only_task a a_required ∙ sym (only_task b b_required)));
}
