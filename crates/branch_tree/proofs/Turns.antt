-- A search after a step, with what it stands on.
use Rattle.std.proofs.Common.{◌≡◌, ℕ, ◌+◌, ◌*◌, ◌<◌, ◌≤◌, Bool, true, false, List, [], ◌∷◌, length, get_or, refl, sym, subst, ap, ◌∙◌, arith, inl, inr, Result, Ok, Err, IfOk, All}
use Rattle.std.specs.Prelude.{IsErr, OnErr, if◌then◌else◌, nat_lt}
use Rattle.std.proofs.lemmas.Bool.Decides.{nat_tests}
use Rattle.std.proofs.lemmas.List.{get_or_default}
use Rattle.std.proofs.lemmas.Result.{IfOk-from_err}
use Rattle.carp_base.specs.Problem.{Problem}
use Rattle.carp_base.specs.declared.fail.Memory.{Memory}
use Rattle.plan_model.specs.declared.step.Step.{Step}
use Rattle.plan_model.specs.Plans.{IsLawful, plan_cost, steps_of}
use Rattle.decision_chains.specs.declared.decision.Decision.{Decision}
use Rattle.cut_pool.specs.Pools.{IsGrown}
use Rattle.cut_pool.specs.Shores.{Belongs}
use Rattle.branch_rules.specs.Decisions.{IsFixed, IsVoid, rules_of}
use Rattle.branch_rules.specs.Prices.{Prices, value_of}
use Rattle.dual_master.specs.Raising.{IsNoLower}
use Rattle.branch_rules.specs.Trees.{FixedShows}
use Rattle.branch_rules.specs.declared.node.Node.{Node}
use Rattle.branch_rules.specs.declared.node.Node.TheVariants as nodes
use Rattle.decision_chains.specs.FixedValue.{HasFixedValue}
use Rattle.route_pricing.specs.Tables.{IsRoom}
use Rattle.grown_trees.specs.Places.{IsLeaf}
use Rattle.grown_trees.specs.Stands.{NodeShows}
use Rattle.grown_trees.specs.declared.growing.GrowingNode.{GrowingNode}
use Rattle.branch_tree.specs.Known.{Known}
use Rattle.branch_tree.specs.Leaves.{HasClosed, HasSplit, IsAtLeaf, IsFramed, IsRaisedFrom, IsRepriced, IsTurn, MayStand, NamesSet, split_nodes, with_cheaper, with_news, with_pool, with_set}
use Rattle.branch_tree.specs.Searches.{IsHeld, IsSearch, State, set_in, state_of, support_in}
use Rattle.task_tours.specs.Shorts.{IsAllowedPlan, IsShortPlan}
use Rattle.branch_tree.specs.Steps.{IsAsBefore, IsStep}
use Rattle.branch_tree.specs.declared.search.Search.{Search}
use Rattle.branch_tree.specs.declared.search.Turn.{Turn}
use Rattle.branch_tree.specs.declared.search.Turn.TheVariants.{Closed, Split}
use Rattle.grown_trees.specs.Values.{IsMostShown, IsShown}
use Rattle.branch_tree.proofs.Pools.{may_stand, names_then, no_lower_now, pool_grows}
use Rattle.branch_tree.proofs.Standing.{leaf_shores, named_groups, named_shores, raised_value_some}
use Rattle.branch_tree.proofs.Taking.{is_leaf, old, old_is, sound}
use Rattle.branch_tree.proofs.Turning.{Goes, closes_fixed, closes_new, same_pool, splits_new}

pub framed_repriced : (p : Problem) (before after : Search) → IsSearch p before → IsFramed before after → IsRepriced p before after
framed_repriced p before after search framed = record {
  net = framed.net;
  dist = framed.dist;
  table = subst (λ table. IsRoom p table) (sym framed.table) search.table;
  turns = framed.turns;
  least = framed.least;
  room = framed.room;
  few = framed.few;
}

pub framed_then : (p : Problem) (before middle after : Search) → IsRepriced p before middle → IsFramed middle after → IsRepriced p before after
framed_then p before middle after one other = record {
  net = other.net ∙ one.net;
  dist = other.dist ∙ one.dist;
  table = subst (λ table. IsRoom p table) (sym other.table) one.table;
  turns = other.turns ∙ one.turns;
  least = other.least ∙ one.least;
  room = other.room ∙ one.room;
  few = λ before_few. other.few (one.few before_few);
}

pub framed_both : (before middle after : Search) → IsFramed before middle → IsFramed middle after → IsFramed before after
framed_both before middle after one other = record {
  net = other.net ∙ one.net;
  dist = other.dist ∙ one.dist;
  table = other.table ∙ one.table;
  turns = other.turns ∙ one.turns;
  least = other.least ∙ one.least;
  room = other.room ∙ one.room;
  few = λ before_few. other.few (one.few before_few);
}

pub search_on : (p : Problem) (before after : Search) → IsSearch p before → IsRepriced p before after → IsHeld p (state_of after) → IsSearch p after
search_on p before after search repriced held = record {
  net = repriced.net ∙ search.net;
  problem = ap (λ dist. dist.problem) repriced.dist ∙ search.problem;
  costs = ap (λ dist. dist.prices) repriced.dist ∙ search.costs;
  table = repriced.table;
  some_turns = subst (λ (n : ℕ). 1 ≤ n) (sym repriced.turns) search.some_turns;
  turns_in_range = subst (λ (n : ℕ). n ≤ 1048576) (sym repriced.turns) search.turns_in_range;
  room = repriced.room ∙ search.room ∙ ap (λ (n : ℕ). 2 * n + 1) (sym repriced.turns);
  few = repriced.few search.few;
  held = held;
}

-- a step that was made
pub turn_then : (p : Problem) (before after : Search) (answer : Turn) → IsSearch p before → IsRepriced p before after → Goes p (state_of before) (state_of after) answer → IsTurn p before after (Ok answer)
turn_then p before after answer search repriced goes = record {
  search = search_on p before after search repriced goes.held;
  turns = repriced.turns;
  least = repriced.least;
  step = goes.step;
  err = tt;
}

pub turn_framed : (p : Problem) (before after : Search) (answer : Turn) (state : State) → IsSearch p before → IsFramed before after → state_of after ≡ state → Goes p (state_of before) state answer →
    IsTurn p before after (Ok answer)
turn_framed p before after answer state search framed is goes =
    turn_then p before after answer search (framed_repriced p before after search framed) (subst (λ (s : State). Goes p (state_of before) s answer) (sym is) goes)

on_err : {X : Type 0} (r : Result Turn Memory) → X → OnErr r X
on_err (Ok answer) x = tt
on_err (Err memory) x = x

-- a step for which there was no memory
pub turn_failed : (p : Problem) (before after : Search) (r : Result Turn Memory) → IsErr r → IsSearch p after → after.turns ≡ before.turns → after.least ≡ before.least → IsAsBefore (state_of before) (state_of after) →
    IsTurn p before after r
turn_failed p before after r failed search turns least as_before = record {
  search = search;
  turns = turns;
  least = least;
  step = IfOk-from_err r (IsStep p (state_of before) (state_of after)) failed;
  err = on_err r as_before;
}

pub as_before_same : (s : State) → IsAsBefore s s
as_before_same s = record { grown = same_pool s.pool; sets = refl; nodes = refl; plan = refl; cost = refl; done = refl; base = refl }

pub as_before_with : (s : State) (pool : List (List ℕ)) → IsGrown s.pool pool → IsAsBefore s (with_pool s pool)
as_before_with s pool grown = record { grown = grown; sets = refl; nodes = refl; plan = refl; cost = refl; done = refl; base = refl }

-- what a leaf is that is neither void nor fixed
module _ (known : Known) (p : Problem) (s : State) (held : IsHeld p s) (place : ℕ) (branch : List Decision) (at : IsAtLeaf s place branch) (not_void : ¬ (IsVoid p s.pool branch))
    (not_fixed : ¬ (IsFixed p s.pool branch)) where
  shown_at_0 : NodeShows (support_in p s) 0 branch (old known p s held place branch at).node
  shown_at_0 = ((sound known p s held place branch at).shows 0 (omega arith)).1 (omega arith)

  by_node : (node : Node) → (old known p s held place branch at).node ≡ node → (set : ℕ) × (node ≡ nodes.Price set)
  by_node (nodes.Pair a b) is = absurd (subst IsLeaf is (is_leaf known p s held place branch at))
  by_node (nodes.Cut shore k) is = absurd (subst IsLeaf is (is_leaf known p s held place branch at))
  by_node (nodes.Price set) is = (set, refl)
  by_node nodes.Void is = absurd (not_void (subst (NodeShows (support_in p s) 0 branch) is shown_at_0))
  by_node nodes.Fixed is =
      let shown : FixedShows (support_in p s) branch 0 = subst (NodeShows (support_in p s) 0 branch) is shown_at_0 in
      absurd (not_fixed shown.settled)

  module _ (entry : GrowingNode) (read : entry ≡ get_or s.nodes place entry) where
    -- it is a price leaf
    pub is_price_leaf : ((set : ℕ) → entry.node ≡ nodes.Price set → ⊥) → ⊥
    is_price_leaf other =
        let it = by_node (old known p s held place branch at).node refl in
        other it.0 (ap (λ (x : GrowingNode). x.node) (read ∙ old_is known p s held place branch at entry) ∙ it.1)

    pub names_set : (set : ℕ) → entry.node ≡ nodes.Price set → NamesSet p s place branch set
    names_set set is = record {
      at = at;
      not_void = not_void;
      not_fixed = not_fixed;
      named = λ other. ap (λ (x : GrowingNode). x.node) (get_or_default s.nodes place other entry at.least.inside ∙ sym read) ∙ is;
    }

-- a fixed leaf, whose plan may be the best one from then on
module _ (known : Known) (p : Problem) (s : State) (held : IsHeld p s) (place : ℕ) (branch : List Decision) (at : IsAtLeaf s place branch) (is : IsFixed p s.pool branch)
    (plan : List (List Step)) (lawful : IsLawful p plan) (has : HasFixedValue p branch (plan_cost p plan)) (few_tours : length plan ≤ p.required) (few_steps : length (steps_of plan) ≤ 2000000) where
  short : IsShortPlan p plan
  short = record { lawful = lawful; few_tours = few_tours; few_steps = few_steps }

  allowed : IsAllowedPlan p plan
  allowed = record { lawful = lawful; few_tours = omega (arith, few_tours, held.valid.few_required); few_steps = few_steps }

  pub small_plan : plan_cost p plan ≤ 2000000000000
  small_plan = known.costs p plan held.valid lawful few_steps

  pub fixed_goes : (value : ℕ) → value ≡ plan_cost p plan → Goes p s (with_news (with_cheaper s plan value) place (record { node = nodes.Fixed; shows = value } ∷ [])) Closed
  fixed_goes value value_is = by (nat_lt value s.cost) refl where
    by : (b : Bool) → nat_lt value s.cost ≡ b → Goes p s (with_news (if b then record s { plan = plan; cost = value } else s) place (record { node = nodes.Fixed; shows = value } ∷ [])) Closed
    by true test =
        closes_fixed known p s held place branch at plan plan value value is lawful value_is has (grind (arith, nat_tests)) (omega arith) allowed value_is
        (inr (short, refl, grind (arith, nat_tests)))
    by false test =
        closes_fixed known p s held place branch at plan s.plan value s.cost is lawful value_is has (omega arith) (grind (arith, nat_tests)) held.allowed held.cost_is
        (inl refl)

-- a set was raised for a leaf
module _ (known : Known) (p : Problem) (before middle : Search) (place : ℕ) (branch : List Decision) (number : ℕ) (search : IsSearch p before) (names : NamesSet p (state_of before) place branch number)
    (repriced : IsRepriced p before middle) (state : state_of middle ≡ with_pool (state_of before) middle.pool) (grown : IsGrown before.pool middle.pool) (belong : All (Belongs p) middle.pool) where
  abbrev middle_state : State
  middle_state = with_pool (state_of before) middle.pool

  middle_held : IsHeld p middle_state
  middle_held = pool_grows known p (state_of before) search.held middle.pool grown belong

  pub middle_search : IsSearch p middle
  middle_search = search_on p before middle search repriced (subst (IsHeld p) (sym state) middle_held)

  plain_names : NamesSet p middle_state place branch number
  plain_names =
      names_then p (state_of before) place number branch middle.pool grown (leaf_shores known p (state_of before) search.held place branch names.at) names

  pub middle_names : NamesSet p (state_of middle) place branch number
  middle_names = subst (λ (s : State). NamesSet p s place branch number) (sym state) plain_names

  as_before : IsAsBefore (state_of before) (state_of middle)
  as_before = subst (IsAsBefore (state_of before)) (sym state) (as_before_with (state_of before) middle.pool grown)

  pub raise_failed : (r : Result Turn Memory) → IsErr r → IsTurn p before middle r
  raise_failed r failed = turn_failed p before middle r failed middle_search repriced.turns repriced.least as_before

  module _ (set : Prices) (raised : IsRaisedFrom p before.pool branch before.sets.items number middle.pool set) (few : length before.sets.items < 256) where
    plain_may : 1 ≤ set.unit → MayStand p middle_state branch number set
    plain_may some =
        may_stand known.growth p search.held.valid (state_of before) number branch middle.pool set grown some
        (named_shores known p (state_of before) search.held place branch names.at number names)
        (named_groups known p (state_of before) search.held place branch names.at number names) raised

    pub middle_may : 1 ≤ set.unit → MayStand p (state_of middle) branch number set
    middle_may some = subst (λ (s : State). MayStand p s branch number set) (sym state) (plain_may some)

    -- it shows 0
    pub raised_some : 1 ≤ set.unit → IsShown set.unit (value_of (rules_of p middle.pool branch) set) 0
    raised_some some = raised_value_some known p middle_state middle_held place branch plain_names.at number plain_names set raised_no_lower raised.from_unit some where
      raised_no_lower : IsNoLower p branch middle.pool (set_in before.sets.items number) middle.pool set
      raised_no_lower =
          no_lower_now known.growth p (state_of before) number branch middle.pool set grown (named_shores known p (state_of before) search.held place branch names.at number names) raised

    module _ (shown : ℕ) (some : 1 ≤ set.unit) (most : IsMostShown set.unit (value_of (rules_of p middle.pool branch) set) shown) (after : Search) (framed : IsFramed middle after) where
      abbrev leaves_for : State → List GrowingNode
      leaves_for s = record { node = nodes.Price (length s.sets + 1); shows = shown } ∷ []

      after_repriced : IsRepriced p before after
      after_repriced = framed_then p before middle after repriced framed

      after_failed : (r : Result Turn Memory) → IsErr r → state_of after ≡ state_of middle → IsTurn p before after r
      after_failed r failed same =
          turn_failed p before after r failed (search_on p before after search after_repriced (subst (IsHeld p) (sym (same ∙ state)) middle_held)) after_repriced.turns after_repriced.least
          (subst (IsAsBefore (state_of before)) (sym same) as_before)

      -- it closes the leaf
      pub closed_turn : before.cost ≤ shown → (r : Result Turn Memory) → IfOk r (HasClosed (state_of middle) place set shown (state_of after)) → OnErr r (state_of after ≡ state_of middle) →
          IsTurn p before after r
      closed_turn closed (Ok answer) ok err =
          let is : state_of after ≡ with_news (with_set middle_state set) place (leaves_for middle_state) = ok.state ∙ ap (λ (s : State). with_news (with_set s set) place (leaves_for s)) state in
          let goes = closes_new known p (state_of before) search.held place branch number middle.pool grown names middle_held plain_names few set (plain_may some) raised.tight shown most closed in
          subst (λ (t : Turn). IsTurn p before after (Ok t)) (sym ok.closed)
          (turn_then p before after Closed search after_repriced (subst (λ (s : State). Goes p (state_of before) s Closed) (sym is) goes))
      closed_turn closed (Err memory) ok err = after_failed (Err memory) refl err

      -- or the leaf is split
      pub split_turn : shown < before.cost → (r : Result Turn Memory) →
          IfOk r (HasSplit p (with_set (state_of middle) set) place branch set (length (state_of middle).sets + 1) (state_of after)) → OnErr r (state_of after ≡ state_of middle) → IsTurn p before after r
      split_turn less (Ok answer) ok err =
          let is : state_of after ≡ with_news (with_set middle_state set) place (split_nodes ok.node (length middle_state.sets + 1) ok.children) =
          ok.state ∙ ap (λ (s : State). with_news (with_set s set) place (split_nodes ok.node (length s.sets + 1) ok.children)) state in
          let goes = splits_new known p (state_of before) search.held place branch number middle.pool grown names middle_held plain_names few set (plain_may some) raised.tight shown most ok.node ok.children ok.by less in
          subst (λ (t : Turn). IsTurn p before after (Ok t)) (sym ok.split)
          (turn_then p before after Split search after_repriced (subst (λ (s : State). Goes p (state_of before) s Split) (sym is) goes))
      split_turn less (Err memory) ok err = after_failed (Err memory) refl err
