-- A price set that fits an instance fits a raised one.
use Rattle.std.proofs.Common.{◌≡◌, ℕ, zero, suc, ◌≤◌, List, [], ◌∷◌, refl, sym, ap, subst, ◌∙◌, arith, ℤ, pos, negsuc, ◌≤ℤ◌, ◌<ℤ◌, nat_abs, IsSome, mul-le-mul_left}
use Rattle.std.specs.Prelude.{IsTrue, sum_by}
use Rattle.std.specs.List.{AllByRecursion}
use Rattle.std.proofs.lemmas.Int.{ints}
use Rattle.std.proofs.lemmas.List.{get_or-map}
use Rattle.std.proofs.lemmas.List.Sums.{sum_by-cons}
use Rattle.carp_base.specs.declared.edge.Edge.{Edge}
use Rattle.carp_base.specs.declared.edge.Task.{Task}
use Rattle.carp_base.specs.Problem.{Problem, IsValid, IsEdgeNumber, IsRequired, edge_at, head_of, no_edge, tail_of}
use Rattle.deadhead_paths.specs.Laws.{LeastDeadheadIsThere}
use Rattle.deadhead_paths.specs.Prices.{IsLeastPrice, price_of}
use Rattle.deadhead_paths.specs.Tours.{IsTaskTour, LeastDeadhead}
use Rattle.decision_chains.specs.declared.decision.Decision.{Decision}
use Rattle.decision_chains.specs.Exclusions.{Excluded, IsYes}
use Rattle.branch_rules.specs.declared.weight.Weight.{Weight}
use Rattle.branch_rules.specs.Bonds.{GroupWeight}
use Rattle.branch_rules.specs.Decisions.{is_yes_pair, lowest}
use Rattle.branch_rules.specs.Prices.{PaysAtLeast, Prices, crossing_prices, crossing_weight, deadhead_price, signed_sum, task_adds}
use Rattle.branch_rules.specs.Refusals.{NoneTooHeavy}
use Rattle.tree_transfer.specs.Raised.{IsNoCheaper, IsRaised}
use Rattle.tree_transfer.specs.Laws.{DeadheadsStayLight, SetsStayFit}
use Rattle.tree_transfer.proofs.Rising.{head_same, least_there, required_less, tail_same}

-- an edge of which only the ends count
abbrev bare : ℕ → ℕ → Edge
bare u v = record { u = u; v = v; cost = 0; demand = 0; service = 0 }

natural : (z : ℤ) → pos 0 ≤ℤ z → z ≡ pos (nat_abs z)
natural (pos n) least = refl
natural (negsuc n) least = absurd (omega (arith, ints, least))

module _ (pool : List (List ℕ)) (set : Prices) where
  weights_same : (x y : Edge) → IsNoCheaper x y → signed_sum (crossing_weight pool y) set.weights ≡ signed_sum (crossing_weight pool x) set.weights
  weights_same x y less =
      ap (λ u. signed_sum (crossing_weight pool (bare u y.v)) set.weights) less.u_same ∙ ap (λ v. signed_sum (crossing_weight pool (bare x.u v)) set.weights) less.v_same

  deadhead_less : (x y : Edge) → IsNoCheaper x y → deadhead_price pool set x ≤ℤ deadhead_price pool set y
  deadhead_less x y less = omega (arith, ints, weights_same x y less, mul-le-mul_left set.unit less.cost)

  -- where no deadhead price is negative, they are the prices of the edges
  crossing_is : (p : Problem) → NoneTooHeavy p pool set → (e : ℕ) → IsEdgeNumber p e → deadhead_price pool set (edge_at p e) ≡ pos (price_of (crossing_prices p pool set) e)
  crossing_is p light zero number = absurd (omega (arith, number.from_one))
  crossing_is p light (suc k) number =
      natural (deadhead_price pool set (edge_at p (suc k))) (light (suc k) number)
      ∙ ap pos (sym (get_or-map (λ (x : Edge). nat_abs (deadhead_price pool set x)) p.edges k no_edge 0 (omega (arith, number.in_range))))

  module _ (old new : Problem) (raised : IsRaised old new) where
    light_there : NoneTooHeavy old pool set → NoneTooHeavy new pool set
    light_there light e number =
        omega (arith, ints, light (raised.number e) (raised.inside e number), deadhead_less (edge_at old (raised.number e)) (edge_at new e) (raised.edges e number))

    module _ (valid : IsValid old) (valid' : IsValid new) (light : NoneTooHeavy old pool set) where
      dearer : (e : ℕ) → IsEdgeNumber new e → price_of (crossing_prices old pool set) (raised.number e) ≤ price_of (crossing_prices new pool set) e
      dearer e number = omega (
        arith,
        ints,
        crossing_is old light (raised.number e) (raised.inside e number),
        crossing_is new (light_there light) e number,
        deadhead_less (edge_at old (raised.number e)) (edge_at new e) (raised.edges e number),
      )

      task_less : (e : ℕ) → IsRequired new e → IsNoCheaper (edge_at old e) (edge_at new e)
      task_less e required = required_less old new raised e (record { from_one = required.from_one; in_range = omega (arith, required.in_range, valid'.required_in) }) required

      old_required : (tasks : List Task) → AllByRecursion (λ t. IsRequired new t.edge) tasks → AllByRecursion (λ t. IsRequired old t.edge) tasks
      old_required [] all = tt
      old_required (t ∷ tasks) all = (record { from_one = all.0.from_one; in_range = omega (arith, all.0.in_range, raised.required) }, old_required tasks all.1)

      load_less : (tasks : List Task) → AllByRecursion (λ t. IsRequired new t.edge) tasks → sum_by (λ t. (edge_at old t.edge).demand) tasks ≤ sum_by (λ t. (edge_at new t.edge).demand) tasks
      load_less [] all = omega arith
      load_less (t ∷ tasks) all = omega (
        arith,
        sum_by-cons (λ (x : Task). (edge_at old x.edge).demand) t tasks,
        sum_by-cons (λ (x : Task). (edge_at new x.edge).demand) t tasks,
        (task_less t.edge all.0).demand,
        load_less tasks all.1,
      )

      adds_less : (tasks : List Task) → AllByRecursion (λ t. IsRequired new t.edge) tasks → signed_sum (λ t. task_adds old set t.edge) tasks ≤ℤ signed_sum (λ t. task_adds new set t.edge) tasks
      adds_less [] all = omega (arith, ints)
      adds_less (t ∷ tasks) all = omega (arith, ints, mul-le-mul_left set.unit (task_less t.edge all.0).service, adds_less tasks all.1)

      leg_less : (a c b d k m : ℕ) → a ≡ c → b ≡ d → IsLeastPrice old (price_of (crossing_prices old pool set)) a b k → IsLeastPrice new (price_of (crossing_prices new pool set)) c d m → k ≤ m
      leg_less a c b d k m from to one other =
          least_there old new raised (price_of (crossing_prices old pool set)) (price_of (crossing_prices new pool set)) dearer c d k m
          (subst (λ x. IsLeastPrice old (price_of (crossing_prices old pool set)) x d k) from (subst (λ x. IsLeastPrice old (price_of (crossing_prices old pool set)) a x k) to one)) other

      deadhead_there : (a c b d : ℕ) (tasks : List Task) (k m : ℕ) → a ≡ c → b ≡ d → AllByRecursion (λ t. IsRequired new t.edge) tasks →
          LeastDeadhead old (price_of (crossing_prices old pool set)) a tasks b k → LeastDeadhead new (price_of (crossing_prices new pool set)) c tasks d m → k ≤ m
      deadhead_there a c b d [] k m from to all one other = leg_less a c b d k m from to one other
      deadhead_there a c b d (t ∷ tasks) k m from to all one other =
          let less = task_less t.edge all.0 in
          let first =
          leg_less a c (tail_of (edge_at old t.edge) t.forward) (tail_of (edge_at new t.edge) t.forward) one.0 other.0 from (tail_same (edge_at old t.edge) (edge_at new t.edge) t.forward less) one.2 other.2 in
          let rest =
          deadhead_there (head_of (edge_at old t.edge) t.forward) (head_of (edge_at new t.edge) t.forward) b d tasks one.1 other.1
          (head_same (edge_at old t.edge) (edge_at new t.edge) t.forward less) to all.1 one.3 other.3 in
          omega (arith, first, rest, one.4, other.4)

      pays_there : LeastDeadheadIsThere → (before after : ℕ → ℕ → Type 0) → ((a b : ℕ) → after a b → before a b) →
          PaysAtLeast old before (task_adds old set) (price_of (crossing_prices old pool set)) set.groups → PaysAtLeast new after (task_adds new set) (price_of (crossing_prices new pool set)) set.groups
      pays_there found before after also pays tasks n tour deadhead =
          let old_tour : IsTaskTour old before tasks = record {
            some = tour.some;
            required = old_required tasks tour.required;
            load = omega (arith, tour.load, load_less tasks tour.required, raised.capacity);
            each_allowed = λ a b follows. also a b (tour.each_allowed a b follows);
          } in
          let least = found old valid (price_of (crossing_prices old pool set)) tasks old_tour.required in
          omega (
            arith,
            ints,
            pays tasks least.0 old_tour least.1,
            adds_less tasks tour.required,
            deadhead_there old.depot new.depot old.depot new.depot tasks least.0 n (sym raised.depot) (sym raised.depot) tour.required least.1 deadhead,
          )

uppers_there : (before after : List Decision) → ((shore : ℕ) → lowest shore after ≡ lowest shore before) → (ws : List Weight) →
    AllByRecursion (λ w. w.weight <ℤ pos 0 → IsSome (lowest w.shore before)) ws → AllByRecursion (λ w. w.weight <ℤ pos 0 → IsSome (lowest w.shore after)) ws
uppers_there before after uppers [] all = tt
uppers_there before after uppers (w ∷ ws) all =
    (λ negative. subst (λ o. IsSome o) (sym (uppers w.shore)) (all.0 negative), uppers_there before after uppers ws all.1)

yes_pair_there : (before after : List Decision) → ((a b : ℕ) → IsYes before a b → IsYes after a b) → (group : List ℕ) → IsTrue (is_yes_pair before group) → IsTrue (is_yes_pair after group)
yes_pair_there before after says [] is = cc
yes_pair_there before after says (a ∷ []) is = cc
yes_pair_there before after says (a ∷ b ∷ []) is = says a b is
yes_pair_there before after says (a ∷ b ∷ c ∷ rest) is = cc

yeses_there : (before after : List Decision) → ((a b : ℕ) → IsYes before a b → IsYes after a b) → (groups : List GroupWeight) →
    AllByRecursion (λ w. w.weight <ℤ pos 0 → IsTrue (is_yes_pair before w.edges)) groups → AllByRecursion (λ w. w.weight <ℤ pos 0 → IsTrue (is_yes_pair after w.edges)) groups
yeses_there before after says [] all = tt
yeses_there before after says (w ∷ groups) all =
    (λ negative. yes_pair_there before after says w.edges (all.0 negative), yeses_there before after says groups all.1)

pub deadheads_stay : DeadheadsStayLight
deadheads_stay old new pool set raised light = light_there pool set old new raised light

pub sets_stay : LeastDeadheadIsThere → SetsStayFit
sets_stay found old new pool before after set valid valid' raised uppers says excluded fits = record {
  not_negative = light_there pool set old new raised fits.not_negative;
  has_upper = uppers_there before after uppers set.weights fits.has_upper;
  has_yes = yeses_there before after says set.groups fits.has_yes;
  tours = pays_there pool set old new raised valid valid' fits.not_negative found (λ a b. ¬ (Excluded old before a b)) (λ a b. ¬ (Excluded new after a b))
      (λ a b free out. free (excluded a b out)) fits.tours;
}
