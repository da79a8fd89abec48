-- A plan's cost, split into the prices of its walks, the prices of its services and the weights of its deadheads.
use Rattle.std.proofs.Common.{◌≡◌, ℕ, zero, suc, take, get_or, add-one, sym, ◌+◌, ◌*◌, ◌≤◌, Bool, true, false, ◌&&◌, not, cond, List, [], ◌∷◌, length, refl, ap, ◌∙◌, arith, pos, negsuc, ◌+ℤ◌, ◌-ℤ◌, ◌*ℤ◌, ◌≤ℤ◌, ◌<ℤ◌, ℤ, Some, None, Option}
use Rattle.std.specs.Prelude.{if◌then◌else◌, IsSome, IfSome, IsTrue, unwrap_or}
use Rattle.std.specs.List.{AllByRecursion, sum_by, count_by}
use Rattle.std.proofs.lemmas.List.Sums.{sum_by-cons, sum_by_more}
use Rattle.std.proofs.lemmas.Int.{ints}
use borrow.Author.Differences.{up, down}
use Rattle.carp_base.specs.Problem.{Problem, edge_at}
use Rattle.carp_base.specs.declared.edge.Edge.{Edge}
use Rattle.plan_model.specs.Plans.{IsLawful, IsLawfulWalk, steps_of, step_cost, plan_cost}
use Rattle.plan_model.specs.declared.step.Step.{Step}
use Rattle.plan_model.specs.Laws.{ServedOnceByNumber}
use Rattle.plan_model.specs.Sums.{sum_to}
use Rattle.decision_chains.specs.Neighbours.{served_edges}
use Rattle.deadhead_paths.specs.Tours.{IsFollowed}
use Rattle.branch_rules.specs.Bonds.{bond_weight, plan_bonds}
use Rattle.branch_rules.specs.Prices.{weigh, KeepsRules, Prices, signed_sum, crosses_shore, price_in, task_adds, deadhead_price, Rules, weight_value, value_of}
use Rattle.branch_rules.specs.declared.weight.Weight.{Weight}
use Rattle.branch_rules.proofs.Signed.{signed_sum-append, signed_sum-none, signed_sum-split, product_up, product_down, sum_by-same}
use Rattle.branch_rules.proofs.Weighing.{bonds_paid}
use Rattle.std.proofs.lemmas.List.{take_all}

module _ (p : Problem) (pool : List (List ℕ)) (set : Prices) where
  -- what a step adds to the price of a walk
  abbrev pub step_price : Step → ℤ
  step_price s = if s.served then task_adds p set s.edge else deadhead_price pool set (edge_at p s.edge)

  abbrev pub tour_price : List Step → ℤ
  tour_price walk = signed_sum step_price walk

  -- a step crosses a shore without serving
  abbrev pub deadheads_at : ℕ → Step → Bool
  deadheads_at i s = not s.served && crosses_shore pool i (edge_at p s.edge)

  -- the prices of services
  abbrev pub paid_for_service : Step → ℤ
  paid_for_service s = if s.served then price_in set s.edge else pos 0

  -- each weight, times the number of deadheads over its shore
  abbrev pub paid_at_shores : List Weight → List Step → ℤ
  paid_at_shores weights steps = signed_sum (λ w. w.weight *ℤ pos (count_by (deadheads_at w.shore) steps)) weights

  once_more : (w : ℤ) (b : Bool) (n : ℕ) → w *ℤ pos (cond b 1 0 + n) ≡ (if b then w else pos 0) +ℤ w *ℤ pos n
  once_more w true n = omega (arith, ints)
  once_more w false n = omega (arith, ints)

  shores_step : (weights : List Weight) (s : Step) (steps : List Step) →
      paid_at_shores weights (s ∷ steps) ≡ signed_sum (λ w. if deadheads_at w.shore s then w.weight else pos 0) weights +ℤ paid_at_shores weights steps
  shores_step [] s steps = refl
  shores_step (w ∷ weights) s steps =
      let more =
      ap (λ n. w.weight *ℤ pos n) (sum_by-cons (λ x. cond (deadheads_at w.shore x) 1 0) s steps)
      ∙ once_more w.weight (deadheads_at w.shore s) (count_by (deadheads_at w.shore) steps) in
      omega (arith, ints, more, shores_step weights s steps)

  split_by : (b : Bool) (x : Edge) (price : ℤ) → pos (set.unit * (if b then x.service else x.cost)) ≡
      (if b then pos (set.unit * x.service) -ℤ price else deadhead_price pool set x)
      +ℤ (if b then price else pos 0)
      +ℤ signed_sum (λ w. if not b && crosses_shore pool w.shore x then w.weight else pos 0) set.weights
  split_by true x price = omega (arith, ints, signed_sum-none (λ w. if not true && crosses_shore pool w.shore x then w.weight else pos 0) set.weights (λ w. refl))
  split_by false x price = omega (arith, ints)

  step_split : (s : Step) → pos (set.unit * step_cost p s) ≡
      step_price s +ℤ paid_for_service s +ℤ signed_sum (λ w. if deadheads_at w.shore s then w.weight else pos 0) set.weights
  step_split s = split_by s.served (edge_at p s.edge) (price_in set s.edge)

  pub cost_split : (steps : List Step) → pos (set.unit * sum_by (step_cost p) steps) ≡
      tour_price steps +ℤ signed_sum paid_for_service steps +ℤ paid_at_shores set.weights steps
  cost_split [] = omega (arith, ints, signed_sum-none (λ w. w.weight *ℤ pos 0) set.weights (λ w. omega (arith, ints)))
  cost_split (s ∷ steps) =
      omega (arith, ints, step_split s, cost_split steps, shores_step set.weights s steps, ap (λ n. set.unit * n) (sum_by-cons (step_cost p) s steps))

  -- the first prices, one by one
  first_prices : (part : ℤ → ℕ) (m : ℕ) → m ≤ length set.services → sum_to m (λ e. part (price_in set e)) ≡ sum_by part (take m set.services)
  first_prices part zero short = refl
  first_prices part (suc m) short =
      let more = rw add-one at (sum_by_more part set.services m (pos 0) (omega arith)) in
      ap (λ n. n + part (get_or set.services m (pos 0))) (first_prices part m (omega arith)) ∙ sym more

  -- the prices of all services of a lawful plan are those of the set
  part_of : (part : ℤ → ℕ) (none : part (pos 0) ≡ 0) (b : Bool) (z : ℤ) → part (if b then z else pos 0) ≡ (if b then part z else 0)
  part_of part none true z = refl
  part_of part none false z = none

  parts_paid : ServedOnceByNumber → (part : ℤ → ℕ) (none : part (pos 0) ≡ 0) (plan : List (List Step)) → IsLawful p plan → length set.services ≡ p.required →
      sum_by (λ s. part (paid_for_service s)) (steps_of plan) ≡ sum_by part set.services
  parts_paid served_once part none plan lawful long =
      sum_by-same _ (λ s. if s.served then part (price_in set s.edge) else 0) (steps_of plan) (λ s. part_of part none s.served (price_in set s.edge))
      ∙ served_once p plan (λ e. part (price_in set e)) lawful
      ∙ first_prices part p.required (omega arith)
      ∙ ap (sum_by part) (take_all p.required set.services (omega arith))

  pub services_paid : ServedOnceByNumber → (plan : List (List Step)) → IsLawful p plan → length set.services ≡ p.required →
      signed_sum paid_for_service (steps_of plan) ≡ signed_sum (λ z. z) set.services
  services_paid served_once plan lawful long =
      omega (
        arith,
        ints,
        signed_sum-split paid_for_service (steps_of plan),
        signed_sum-split (λ z. z) set.services,
        parts_paid served_once up refl plan lawful long,
        parts_paid served_once down refl plan lawful long,
      )

  -- the weights of the deadheads are at least those of the rules
  weigh_le : (z : ℤ) (low high n : ℕ) → low ≤ n → (z <ℤ pos 0 → n ≤ high) → weigh z low high ≤ℤ (z *ℤ pos n)
  weigh_le (pos w) low high n least most = product_up (pos w) low n (omega (arith, ints)) least
  weigh_le (negsuc w) low high n least most = product_down (negsuc w) n high (omega (arith, ints)) (most (omega (arith, ints)))

  within_upper : (o : Option ℕ) (n : ℕ) → IsSome o → IfSome o (λ k. n ≤ k) → n ≤ unwrap_or o 0
  within_upper None n some most = cc
  within_upper (Some k) n some most = most

  pub shores_paid : (rules : Rules) (weights : List Weight) (steps : List Step) →
      AllByRecursion (λ w. w.weight <ℤ pos 0 → IsSome (rules.upper w.shore)) weights →
      AllByRecursion (λ w. KeepsRules rules w.shore (count_by (deadheads_at w.shore) steps)) weights →
      signed_sum (weight_value rules) weights ≤ℤ paid_at_shores weights steps
  shores_paid rules [] steps some keeps = omega (arith, ints)
  shores_paid rules (w ∷ weights) steps some keeps =
      omega (
        arith,
        ints,
        shores_paid rules weights steps some.1 keeps.1,
        weigh_le w.weight (rules.lower w.shore) (unwrap_or (rules.upper w.shore) 0) (count_by (deadheads_at w.shore) steps) keeps.0.least
            (λ sign. within_upper (rules.upper w.shore) _ (some.0 sign) keeps.0.most),
      )

  -- a lawful walk whose services are allowed pays for them, with what its bonds weigh
  abbrev pub Pays : (ℕ → ℕ → Type 0) → Type 0
  Pays allowed = (walk : List Step) → IsLawfulWalk p walk → ((a b : ℕ) → IsFollowed (served_edges walk) a b → allowed a b) → pos 0 ≤ℤ (tour_price walk +ℤ bond_weight set.groups (served_edges walk))

  pub walks_paid : (allowed : ℕ → ℕ → Type 0) → Pays allowed →
      (plan : List (List Step)) → AllByRecursion (IsLawfulWalk p) plan → AllByRecursion (λ walk. (a b : ℕ) → IsFollowed (served_edges walk) a b → allowed a b) plan →
      pos 0 ≤ℤ (tour_price (steps_of plan) +ℤ signed_sum (λ walk. bond_weight set.groups (served_edges walk)) plan)
  walks_paid allowed pays [] lawful follow = omega (arith, ints)
  walks_paid allowed pays (walk ∷ plan) lawful follow =
      omega (
        arith,
        ints,
        walks_paid allowed pays plan lawful.1 follow.1,
        signed_sum-append step_price walk (steps_of plan),
        pays walk lawful.0 follow.0,
      )

  -- the value is at most the plan's cost
  pub value_le : ServedOnceByNumber → (rules : Rules) (allowed : ℕ → ℕ → Type 0) → Pays allowed →
      AllByRecursion (λ w. w.weight <ℤ pos 0 → IsSome (rules.upper w.shore)) set.weights →
      AllByRecursion (λ w. w.weight <ℤ pos 0 → IsTrue (rules.together w.edges)) set.groups → length set.services ≡ p.required →
      (plan : List (List Step)) → IsLawful p plan →
      AllByRecursion (λ walk. (a b : ℕ) → IsFollowed (served_edges walk) a b → allowed a b) plan →
      AllByRecursion (λ w. KeepsRules rules w.shore (count_by (deadheads_at w.shore) (steps_of plan))) set.weights →
      ((group : List ℕ) → plan_bonds group plan ≤ rules.room group) →
      ((group : List ℕ) → IsTrue (rules.together group) → 1 ≤ plan_bonds group plan) →
      value_of rules set ≤ℤ pos (set.unit * plan_cost p plan)
  value_le served_once rules allowed pays has_upper has_yes long plan lawful follow keeps rooms pairs =
      omega (
        arith,
        ints,
        cost_split (steps_of plan),
        services_paid served_once plan lawful long,
        shores_paid rules set.weights (steps_of plan) has_upper keeps,
        walks_paid allowed pays plan lawful.walks follow,
        bonds_paid rules plan rooms pairs set.groups has_yes,
      )
