-- The parts of a carried certificate, and that they make a good one.
use Rattle.std.proofs.Common.{◌≡◌, ℕ, zero, suc, ◌+◌, ◌≤◌, List, [], ◌∷◌, ◌++◌, length, refl, sym, subst, ◌∙◌, arith, All}
use Rattle.std.specs.Prelude.{Some, false}
use Rattle.std.specs.List.{AllByRecursion}
use Rattle.std.proofs.lemmas.List.Concat.{length-flat_map}
use Rattle.std.proofs.lemmas.List.Elements.{All-nil, All-cons, All-head, All-tail, All-append, All-weaker}
use Rattle.carp_base.specs.declared.edge.Task.{Task}
use Rattle.carp_base.specs.Problem.{Problem, IsValid, IsRequired, IsVertex}
use Rattle.plan_model.specs.declared.step.Step.{Step}
use Rattle.plan_model.specs.Plans.{IsLawful, plan_cost, steps_of}
use Rattle.plan_model.specs.Laws.{IsLowerBound}
use Rattle.task_tours.specs.Tours.{AreServedOnce, PlanGoesByLeastPaths, all_tasks, plan_tours}
use Rattle.cert_transfer.specs.Cutting.{cut_tours}
use Rattle.cut_pool.specs.Pools.{IsShoreNumber}
use Rattle.cut_pool.specs.Shores.{Belongs, is_in}
use Rattle.branch_rules.specs.Limits.{IsNodeIn, IsShoreOf}
use Rattle.branch_rules.specs.Laws.{NoDepot}
use Rattle.branch_rules.specs.Prices.{Prices}
use Rattle.branch_rules.specs.Refusals.{NoneTooHeavy}
use Rattle.branch_rules.specs.Trees.{Tree, pair, cut, price, void, fixed, preorder, PairsIn, Shows, Support, set_at, no_prices}
use Rattle.branch_rules.specs.declared.node.Node.{Node}
use Rattle.branch_rules.specs.declared.node.Node.TheVariants as nodes
use Rattle.branch_rules.specs.declared.weight.Weight.{Weight}
use Rattle.grown_trees.specs.Places as places
use Rattle.cert_lines.specs.Certificates.{Certificate}
use Rattle.cert_lines.specs.Spelling.{IsFine, IsFineNode, IsFineSet, IsSpellable}
use Rattle.cert_format.specs.Good.{HasPriceEach, IsGood, counts_in}
use Rattle.tree_transfer.specs.Raised.{IsRaised}
use Rattle.tree_transfer.specs.Carried.{IsCarried}
use Rattle.tree_transfer.specs.CarriedLaws.{WouldBeShowing}
use Rattle.tree_transfer.specs.Shown.{AreCarried, AreTreeNodes, HasShores, IsGreatestShown, WouldShowSome}
use Rattle.cert_transfer.specs.Known.{Known}
use Rattle.cert_transfer.specs.Transfer.{IsCarriedOver}
use Rattle.cert_transfer.proofs.Preorders.{all_back, all_front, carried_all, one_tree}

module _ (known : Known) (p q : Problem) (valid : IsValid p) (valid_now : IsValid q) (raised : IsRaised p q) (c : Certificate) (spelled : IsSpellable c) (good : IsGood p c) where
  fine : IsFine c
  fine = known.fine c spelled

  abbrev support : Support
  support = record { problem = q; pool = c.shores; sets = c.sets }

  -- The services.

  required_now : (e : ℕ) → IsRequired p e → IsRequired q e
  required_now e is = record { from_one = is.from_one; in_range = omega (arith, is.in_range, raised.required) }

  required_before : (e : ℕ) → IsRequired q e → IsRequired p e
  required_before e is = record { from_one = is.from_one; in_range = omega (arith, is.in_range, raised.required) }

  each_required : (ts : List Task) → AllByRecursion (λ t. IsRequired p t.edge) ts → AllByRecursion (λ t. IsRequired q t.edge) ts
  each_required [] all = tt
  each_required (t ∷ ts) all = (required_now t.edge all.0, each_required ts all.1)

  pub served : AreServedOnce q (all_tasks (plan_tours c.plan))
  served =
      let old = (known.tours p c.plan good.lawful).served in
      record { required = each_required (all_tasks (plan_tours c.plan)) old.required; once = λ e is. old.once e (required_before e is) }

  -- The shores, and the nodes of the tree.

  belongs_now : (shore : List ℕ) → Belongs p shore → Belongs q shore
  belongs_now shore is = record {
    vertices = All-weaker (IsVertex p) (IsVertex q) (λ v at. record { from_one = at.from_one; in_range = omega (arith, at.in_range, raised.vertices) }) shore is.vertices;
    no_depot = subst (λ d. is_in shore d ≡ false) (sym raised.depot) is.no_depot;
  }

  pub belong : All (Belongs q) c.shores
  belong = All-weaker (Belongs p) (Belongs q) belongs_now c.shores good.shores

  shore_of : (i : ℕ) → IsShoreNumber c.shores i → IsShoreOf q c.shores i
  shore_of zero number = absurd (omega (arith, number.from_one))
  shore_of (suc k) number = record { number = number; belongs = belong k [] (omega (arith, number.in_range)) }

  pub shores : HasShores support
  shores = All-weaker (IsFineSet c.shores) (λ (set : Prices). All (λ (w : Weight). IsShoreOf q c.shores w.shore) set.weights)
      (λ set is. All-weaker (λ (w : Weight). IsShoreNumber c.shores w.shore) (λ (w : Weight). IsShoreOf q c.shores w.shore) (λ w number. shore_of w.shore number) set.weights is.shores) c.sets fine.sets_fine

  abbrev IsFineHere : Node → Type 0
  IsFineHere = IsFineNode (length c.shores) (length c.sets)

  inside_two : (node : Node) (t u : Tree) → IsNodeIn q c.shores node → All (IsNodeIn q c.shores) (preorder t) → All (IsNodeIn q c.shores) (preorder u) →
      All (IsNodeIn q c.shores) (node ∷ (preorder t ++ preorder u))
  inside_two node t u here first second =
      All-cons (IsNodeIn q c.shores) node (preorder t ++ preorder u) here (All-append (IsNodeIn q c.shores) (preorder t) (preorder u) first second)

  inside_tree : (t : Tree) → PairsIn p t → All IsFineHere (preorder t) → All (IsNodeIn q c.shores) (preorder t)
  inside_tree (pair a b t u) pairs all =
      let here = All-head IsFineHere (nodes.Pair a b) (preorder t ++ preorder u) all in
      let rest = All-tail IsFineHere (nodes.Pair a b) (preorder t ++ preorder u) all in
      let first = required_now a pairs.0 in
      let second = required_now b pairs.1 in
      inside_two (nodes.Pair a b) t u
      (record { a_from_one = first.from_one; a_in_range = first.in_range; b_from_one = second.from_one; b_in_range = second.in_range; different = λ same. omega (arith, same, here.1) })
      (inside_tree t pairs.2 (all_front IsFineHere (preorder t) (preorder u) rest)) (inside_tree u pairs.3 (all_back IsFineHere (preorder t) (preorder u) rest))
  inside_tree (cut shore k t u) pairs all =
      let here = All-head IsFineHere (nodes.Cut shore k) (preorder t ++ preorder u) all in
      let rest = All-tail IsFineHere (nodes.Cut shore k) (preorder t ++ preorder u) all in
      inside_two (nodes.Cut shore k) t u (shore_of shore (record { from_one = here.0.from_first; in_range = here.0.to_last }))
      (inside_tree t pairs.0 (all_front IsFineHere (preorder t) (preorder u) rest)) (inside_tree u pairs.1 (all_back IsFineHere (preorder t) (preorder u) rest))
  inside_tree (price set) pairs all = All-cons (IsNodeIn q c.shores) (nodes.Price set) [] tt (All-nil (IsNodeIn q c.shores))
  inside_tree void pairs all = All-cons (IsNodeIn q c.shores) nodes.Void [] tt (All-nil (IsNodeIn q c.shores))
  inside_tree fixed pairs all = All-cons (IsNodeIn q c.shores) nodes.Fixed [] tt (All-nil (IsNodeIn q c.shores))

  fine_node : (node : Node) → IsFineHere node → places.IsFineNode node
  fine_node (nodes.Pair a b) is = tt
  fine_node (nodes.Cut shore k) is = is.1
  fine_node (nodes.Price set) is = tt
  fine_node nodes.Void is = tt
  fine_node nodes.Fixed is = tt

  pub tree_nodes : AreTreeNodes q c.shores c.nodes
  tree_nodes = record {
    tree = good.tree;
    in_preorder = good.nodes;
    inside = subst (All (IsNodeIn q c.shores)) good.nodes (inside_tree good.tree good.pairs (subst (All IsFineHere) (sym good.nodes) fine.nodes_fine));
    fine = All-weaker IsFineHere places.IsFineNode fine_node c.nodes fine.nodes_fine;
  }

  -- The carried tree.

  module _ (new : List Node) (carried : AreCarried q c.shores c.nodes new) where
    from_good : IsCarried q c.shores [] good.tree carried.carried
    from_good = subst (λ (t : Tree). IsCarried q c.shores [] t carried.carried) (one_tree carried.tree good.tree (carried.old_nodes ∙ sym good.nodes)) carried.is

    pub showing : WouldBeShowing support c.bound carried.carried
    showing = known.trees p q c.shores c.sets c.bound good.tree carried.carried valid valid_now raised (record { pairs = good.pairs; lean = good.lean; shows = good.shows }) from_good

    pub would_show : WouldShowSome support new
    would_show = record { tree = carried.carried; in_preorder = carried.new_nodes; bound = c.bound; shows = showing.shows }

    all_fine : All IsFineHere new
    all_fine = subst (All IsFineHere) carried.new_nodes
        (carried_all q c.shores IsFineHere good.tree carried.carried [] (subst (All IsFineHere) (sym good.nodes) fine.nodes_fine) from_good)

    -- The whole.

    module _ (plan : List (List Step)) (cost bound : ℕ) (lawful : IsLawful q plan) (cost_is : cost ≡ plan_cost q plan) (few_tours : length plan ≤ q.required)
        (few_steps : length (steps_of plan) ≤ 2000000) (no_more : length new ≤ length c.nodes) (greatest : IsGreatestShown support cost new bound) where
      abbrev made : Certificate
      made = record { counts = Some (counts_in q); cost = cost; bound = bound; plan = plan; shores = c.shores; sets = c.sets; nodes = new }

      shown : Shows support [] bound carried.carried
      shown = (greatest.shows carried.carried bound carried.new_nodes greatest.at_most).1 (omega arith)

      is_good : IsGood q made
      is_good = record {
        counts = refl;
        lawful = lawful;
        cost = cost_is;
        shores = belong;
        prices = All-weaker (HasPriceEach p) (HasPriceEach q) (λ set is. is ∙ sym raised.required) c.sets good.prices;
        deadheads = All-weaker (NoneTooHeavy p c.shores) (NoneTooHeavy q c.shores) (λ set light. known.light p q c.shores set raised light) c.sets good.deadheads;
        tree = carried.carried;
        nodes = carried.new_nodes;
        pairs = showing.pairs;
        lean = showing.lean;
        shows = shown;
      }

      is_fine : IsFine made
      is_fine = record {
        counts_in = known.counts q valid_now;
        cost_in = omega (arith, cost_is, known.costs q plan valid_now lawful few_steps);
        bound_in = omega (arith, greatest.at_most, cost_is, known.costs q plan valid_now lawful few_steps);
        few_tours = omega (arith, few_tours, valid_now.few_required);
        few_steps = subst (λ n. n ≤ 2000000) (length-flat_map (λ walk. walk) plan) few_steps;
        edges_in = known.edges q plan valid_now lawful;
        few_shores = fine.few_shores;
        shores_fine = fine.shores_fine;
        different = fine.different;
        few_sets = fine.few_sets;
        sets_fine = fine.sets_fine;
        counted = λ grouped. refl;
        few_nodes = omega (arith, no_more, fine.few_nodes);
        nodes_fine = all_fine;
        tree = carried.carried;
        in_preorder = sym carried.new_nodes;
      }

      no_depot : (pool : List (List ℕ)) → All (Belongs q) pool → NoDepot q pool
      no_depot [] all = tt
      no_depot (shore ∷ pool) all = ((All-head (Belongs q) shore pool all).no_depot, no_depot pool (All-tail (Belongs q) shore pool all))

      one_each : (k : ℕ) → 1 ≤ k → k ≤ length c.sets → length (set_at support k).services ≡ q.required
      one_each zero one most = absurd (omega (arith, one))
      one_each (suc k) one most = good.prices k no_prices (omega (arith, most)) ∙ sym raised.required

      old_shown : Shows support [] c.bound carried.carried
      old_shown = greatest.values carried.carried c.bound carried.new_nodes showing.shows

      bounds : IsLowerBound q c.bound
      bounds = known.bounds support c.bound carried.carried (record { valid = valid_now; shores = no_depot c.shores belong; sets = one_each }) old_shown

      pub carried_over : plan_tours plan ≡ cut_tours q (plan_tours c.plan) → PlanGoesByLeastPaths q plan → IsCarriedOver q c made
      carried_over tours paths =
          let below : c.bound ≤ cost = omega (arith, bounds plan lawful, cost_is) in
          record {
            spellable = known.spelled made is_fine;
            good = is_good;
            counts = refl;
            shores = refl;
            sets = refl;
            nodes = carried;
            no_lower = (greatest.shows carried.carried c.bound carried.new_nodes below).0 old_shown;
            at_most = greatest.at_most;
            greatest = λ tree b are within shows. (greatest.shows tree b are within).0 shows;
            tours = tours;
            paths = paths;
          }
