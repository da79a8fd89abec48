-- The certificate of what a search found: it can be spelled, and it is good.
use Rattle.std.proofs.Common.{◌≡◌, ℕ, zero, suc, ◌+◌, ◌*◌, ◌^◌, ◌≤◌, ◌<◌, ℤ, pos, negsuc, ◌*ℤ◌, ◌≤ℤ◌, List, [], ◌∷◌, length, get_or, refl, sym, subst, arith, All, inl, inr}
use Rattle.std.proofs.Math.Nat.{mul-le-mul_left}
use Rattle.std.proofs.lemmas.Bool.{cases_lt}
use Rattle.std.proofs.lemmas.Int.{ints}
use Rattle.std.proofs.lemmas.List.Concat.{length-flat_map}
use Rattle.std.proofs.lemmas.List.Elements.{All-weaker, All-tail, All-head}
use Rattle.carp_base.specs.Problem.{Problem, required_cost, total_demand}
use Rattle.plan_model.specs.Plans.{plan_cost}
use Rattle.plan_model.specs.Laws.{IsLowerBound}
use Rattle.cut_pool.specs.Pools.{IsShoreNumber}
use Rattle.cut_pool.specs.Shores.{Belongs, IsShore}
use Rattle.branch_rules.specs.Laws.{NoDepot}
use Rattle.branch_rules.specs.Limits.{IsNodeIn, IsPriceSet, IsShoreOf}
use Rattle.branch_rules.specs.Prices.{Prices}
use Rattle.branch_rules.specs.Refusals.{NoneTooHeavy}
use Rattle.branch_rules.specs.Trees.{set_at, no_prices}
use Rattle.branch_rules.specs.declared.node.Node.{Node}
use Rattle.branch_rules.specs.declared.node.Node.TheVariants as nodes
use Rattle.branch_rules.specs.declared.weight.Weight.{Weight}
use Rattle.grown_trees.specs.Growth.{IsSpelledNode}
use Rattle.branch_tree.specs.Founds.{Findings, IsFound, support_found}
use Rattle.branch_tree.specs.Values.{IsFloored}
use Rattle.branch_tree.specs.Searches.{IsHeldSet}
use Rattle.cert_lines.specs.Spelling.{IsFine, IsFineNode, IsFineSet, IsFineShore}
use Rattle.cert_format.specs.Good.{HasPriceEach, IsGood}
use Rattle.carp_engine.specs.Certifying.{AreWithinLimits, certificate_by}
use Rattle.carp_engine.specs.Known.{Known}
use Rattle.carp_engine.specs.Solutions.{IsAboveFloors}
use Rattle.carp_engine.proofs.Groups.{in_range_spelled}

both_all : {X : Type 0} (P Q R : X → Type 0) → ((x : X) → P x → Q x → R x) → (xs : List X) → All P xs → All Q xs → All R xs
both_all P Q R gives xs one other = λ k d less. gives (get_or xs k d) (one k d less) (other k d less)

no_depot : (p : Problem) (pool : List (List ℕ)) → All (Belongs p) pool → NoDepot p pool
no_depot p [] all = tt
no_depot p (shore ∷ pool) all = ((All-head (Belongs p) shore pool all).no_depot, no_depot p pool (All-tail (Belongs p) shore pool all))

module _ (laws : Known) (p : Problem) (f : Findings) (turns : ℕ) (found : IsFound p f turns) where
  pub small : plan_cost p f.plan < 10 ^ 18
  small =
      let little = laws.costs p f.plan found.valid found.allowed.lawful found.allowed.few_steps in
      omega (arith, little)

  -- It can be spelled.

  fine_node : (node : Node) → IsNodeIn p f.pool node → IsSpelledNode (length f.sets) node → IsFineNode (length f.pool) (length f.sets) node
  fine_node (nodes.Pair a b) inside spelled = (inside.a_from_one, spelled, omega (arith, inside.b_in_range, found.valid.few_required))
  fine_node (nodes.Cut shore k) inside spelled = (record { from_first = inside.number.from_one; to_last = inside.number.in_range }, spelled)
  fine_node (nodes.Price set) inside spelled = record { from_first = spelled.0; to_last = spelled.1 }
  fine_node nodes.Void inside spelled = tt
  fine_node nodes.Fixed inside spelled = tt

  fine_set : (set : Prices) → IsPriceSet set → IsHeldSet p f.pool set → IsFineSet f.pool set
  fine_set set fine held = record {
    prices = fine;
    shores = All-weaker (λ (w : Weight). IsShoreOf p f.pool w.shore) (λ (w : Weight). IsShoreNumber f.pool w.shore) (λ w is. is.number) set.weights held.shores;
    group_edges = in_range_spelled set held.groups;
  }

  pub is_fine : AreWithinLimits f.pool f.sets → IsFine (certificate_by p f)
  is_fine limits = record {
    counts_in = laws.counts p found.valid;
    cost_in = small;
    bound_in = omega (arith, small, found.at_most);
    few_tours = found.allowed.few_tours;
    few_steps = subst (λ n. n ≤ 2000000) (length-flat_map (λ walk. walk) f.plan) found.allowed.few_steps;
    edges_in = laws.edges p f.plan found.valid found.allowed.lawful;
    few_shores = limits.few;
    shores_fine = both_all IsShore (Belongs p) IsFineShore (λ shore is belongs. laws.shores p shore found.valid is belongs) f.pool limits.shores found.belong;
    different = limits.different;
    few_sets = found.few_sets;
    sets_fine = both_all IsPriceSet (IsHeldSet p f.pool) (IsFineSet f.pool) fine_set f.sets limits.fine found.sets;
    counted = λ grouped. refl;
    few_nodes = found.few_nodes;
    nodes_fine = both_all (IsNodeIn p f.pool) (IsSpelledNode (length f.sets)) (IsFineNode (length f.pool) (length f.sets)) fine_node f.nodes found.inside found.spelled;
    tree = found.tree;
    in_preorder = sym found.in_preorder;
  }

  -- It is good.

  unfoldable pub is_good : IsGood p (certificate_by p f)
  is_good = record {
    counts = refl;
    lawful = found.allowed.lawful;
    cost = refl;
    shores = found.belong;
    prices = All-weaker (IsHeldSet p f.pool) (HasPriceEach p) (λ set is. is.one_each) f.sets found.sets;
    deadheads = All-weaker (IsHeldSet p f.pool) (NoneTooHeavy p f.pool) (λ set is. is.not_negative) f.sets found.sets;
    tree = found.tree;
    nodes = found.in_preorder;
    pairs = found.pairs;
    lean = found.lean;
    shows = found.shows;
  }

  -- Its bound.

  one_each : (k : ℕ) → 1 ≤ k → k ≤ length f.sets → length (set_at (support_found p f) k).services ≡ p.required
  one_each zero one most = absurd (omega (arith, one))
  one_each (suc k) one most = (found.sets k no_prices (omega (arith, most))).one_each

  pub bounds : IsLowerBound p f.bound
  bounds = laws.trees (support_found p f) f.bound found.tree (record { valid = found.valid; shores = no_depot p f.pool found.belong; sets = one_each }) found.shows

-- It is at least each floor.

module _ (p : Problem) (f : Findings) (floored : IsFloored p f.bound) where
  pub reached : (x : ℕ) → pos (floored.base.unit * x) ≤ℤ floored.base.value → x ≤ f.bound
  reached x at_least = elim (cases_lt f.bound x) [
    | inl more ↦
        let far : floored.base.unit * suc f.bound ≤ floored.base.unit * x = mul-le-mul_left floored.base.unit (omega (arith, more)) in
        absurd (omega (arith, ints, at_least, far, floored.above, floored.floors.some_unit))
    | inr most ↦ most
  ]

  none_times : (v load : ℕ) → (negsuc v *ℤ pos load) ≤ℤ pos 0
  none_times v zero = omega (arith, ints)
  none_times v (suc load) = omega (arith, ints)

  pub reached_by_parts : (value : ℤ) (u x b load : ℕ) → 1 ≤ u → value ≤ℤ pos (u * b) → pos (u * x) ≤ℤ (value *ℤ pos load) → x ≤ b * load
  reached_by_parts (negsuc v) u zero b load some above at_least = omega arith
  reached_by_parts (negsuc v) u (suc x) b load some above at_least =
      let one : u * 1 ≤ u * suc x = mul-le-mul_left u (omega arith) in
      absurd (omega (arith, ints, none_times v load, one, some, at_least))
  reached_by_parts (pos v) u x b load some above at_least = elim (cases_lt (b * load) x) [
    | inl more ↦
        let far : u * suc (b * load) ≤ u * x = mul-le-mul_left u (omega (arith, more)) in
        let near : load * v ≤ load * (u * b) = mul-le-mul_left load (omega (arith, ints, above)) in
        absurd (omega (arith, ints, far, near, at_least, some))
    | inr most ↦ most
  ]

  pub above_floors : IsAboveFloors p f.bound
  above_floors = record {
    shell = λ level k levels far. reached _ (floored.floors.floors.shell level k levels far);
    ratio = λ deadhead load ratio. reached_by_parts floored.base.value floored.base.unit (required_cost p * load + total_demand p * deadhead) f.bound load floored.floors.some_unit floored.above (floored.floors.floors.ratio deadhead load ratio);
    join = λ value least. reached _ (floored.floors.floors.join value least);
  }

-- so is a greater bound
pub floored_more : (p : Problem) (less more : ℕ) → less ≤ more → IsFloored p less → IsFloored p more
floored_more p less more within is =
    let product : is.base.unit * less ≤ is.base.unit * more = mul-le-mul_left is.base.unit within in
    record { base = is.base; floors = is.floors; above = omega (arith, ints, is.above, product) }
