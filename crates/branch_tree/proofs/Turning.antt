-- What becomes of a search in one step, over its plain data.
use Rattle.std.proofs.Common.{◌≡◌, ℕ, ◌+◌, ◌<◌, ◌≤◌, List, [], ◌∷◌, ◌++◌, take, drop, length, refl, sym, subst, arith, length-append, ◌⊎◌, inr, pos, ◌-ℤ◌, ◌*ℤ◌, ◌<ℤ◌}
use Rattle.std.specs.List.{All}
use Rattle.std.proofs.lemmas.List.{append-nil}
use Rattle.std.proofs.lemmas.List.Elements.{All-nil, All-cons}
use Rattle.carp_base.specs.Problem.{Problem}
use Rattle.cut_pool.specs.Pools.{IsGrown}
use Rattle.plan_model.specs.declared.step.Step.{Step}
use Rattle.plan_model.specs.Plans.{IsLawful, plan_cost}
use Rattle.decision_chains.specs.declared.decision.Decision.{Decision}
use Rattle.branch_rules.specs.Decisions.{IsFixed, IsVoid, rules_of}
use Rattle.branch_rules.specs.Prices.{Prices, value_of}
use Rattle.branch_rules.specs.Trees.{PriceShows, Tree, fixed, price, void}
use Rattle.branch_rules.specs.declared.node.Node.{Node}
use Rattle.branch_rules.specs.declared.node.Node.TheVariants as nodes
use Rattle.decision_chains.specs.FixedValue.{HasFixedValue}
use Rattle.tight_prices.specs.Tight.{IsTight}
use Rattle.dual_master.specs.Raising.{IsNoLower}
use Rattle.grown_trees.specs.Growth.{AreSound, turns_in}
use Rattle.grown_trees.specs.Places.{IsLeaf}
use Rattle.grown_trees.specs.Stands.{stands, with_sets}
use Rattle.grown_trees.specs.declared.growing.GrowingNode.{GrowingNode}
use Rattle.branch_tree.specs.Known.{Known}
use Rattle.branch_tree.specs.Leaves.{IsAtLeaf, IsSplitBy, MayStand, NamesSet, split_nodes, with_news, with_pool, with_set}
use Rattle.branch_tree.specs.Searches.{IsHeld, IsHeldSet, State, set_in, support_in}
use Rattle.task_tours.specs.Shorts.{IsAllowedPlan, IsShortPlan}
use Rattle.branch_tree.specs.Splits.{split_tree}
use Rattle.branch_tree.specs.Steps.{HasNewSet, IsClosedBy, IsStep}
use Rattle.grown_trees.specs.Values.{IsMostShown}
use Rattle.branch_tree.specs.declared.children.Children.{Children}
use Rattle.branch_tree.specs.declared.search.Turn.TheVariants.{Closed, Split}
use Rattle.branch_tree.specs.declared.search.Turn.{Turn}
use Rattle.branch_tree.proofs.Counting.{turns_first}
use Rattle.branch_tree.proofs.Standing.{fixed_sound, new_at, new_leaf_sound, new_split_sound, old_split_sound, void_sound}
use Rattle.branch_tree.proofs.Taking.{MayFollow, follows, more_done, no_entry, old, small_cost, taken}

abbrev inner_of : Node → GrowingNode
inner_of node = record { node = node; shows = 18446744073709551615 }

abbrev leaves_of : ℕ → Children → List GrowingNode
leaves_of number c = record { node = nodes.Price number; shows = c.first } ∷ record { node = nodes.Price number; shows = c.second } ∷ []

pub same_pool : (pool : List (List ℕ)) → IsGrown pool pool
same_pool pool = record { more = []; added = sym (append-nil pool) }

-- a search held so far goes on, and this is a step from what it was
pub record Goes (p : Problem) (before after : State) (answer : Turn) : Type 0 where
  pub held : IsHeld p after
  pub step : IsStep p before after answer

-- a leaf is closed by one that rests on the sets that are held
module _ (known : Known) (p : Problem) (s : State) (held : IsHeld p s) (place : ℕ) (branch : List Decision) (at : IsAtLeaf s place branch) where
  -- the same with no more sets
  plain_sets : (sub : Tree) (news : List GrowingNode) → AreSound (support_in p s) s.base (stands branch sub) news → AreSound (with_sets (support_in p s) []) s.base (stands branch sub) news
  plain_sets sub news is =
      subst (λ (sets : List Prices). AreSound (record { problem = p; pool = s.pool; sets = sets }) s.base (stands branch sub) news) (sym (append-nil s.sets)) is

  module _ (sub : Tree) (leaf : GrowingNode) (plan : List (List Step)) (cost : ℕ) (sound : AreSound (support_in p s) s.base (stands branch sub) (leaf ∷ [])) (is_leaf : IsLeaf leaf.node)
      (no_dearer : cost ≤ s.cost) (allowed : IsAllowedPlan p plan) (cost_is : cost ≡ plan_cost p plan) (closed : cost ≤ leaf.shows)
      (by : IsClosedBy p s (with_news (record s { plan = plan; cost = cost }) place (leaf ∷ [])) branch (old known p s held place branch at) leaf leaf.node) where
    abbrev closed_state : List Prices → State
    closed_state sets =
        let entries = take place s.nodes ++ ((leaf ∷ []) ++ drop (place + 1) s.nodes) in
        record { pool = s.pool; sets = sets; nodes = entries; plan = plan; cost = cost; done = turns_in cost entries; least = s.least; base = s.base }

    may_close : MayFollow known p s held place branch at sub (leaf ∷ []) [] plan cost
    may_close = record {
      no_dearer = no_dearer;
      allowed = allowed;
      cost_is = cost_is;
      sets = All-nil (IsHeldSet p s.pool);
      one_set = omega arith;
      few_sets = omega (arith, length-append s.sets [], held.few_sets);
      few_news = omega arith;
      turn = turns_first cost leaf [] closed;
      sound = plain_sets sub (leaf ∷ []) sound;
    }

    pub closes : Goes p s (closed_state s.sets) Closed
    closes = record {
      held = subst (λ (sets : List Prices). IsHeld p (closed_state sets)) (append-nil s.sets) (follows known p s held place branch at sub (leaf ∷ []) [] plan cost may_close);
      step = record {
        does = record {
          branch = branch;
          old = old known p s held place branch at;
          leaf = leaf;
          taken = taken known p s held place branch at (closed_state s.sets) (leaf ∷ []) refl;
          is_leaf = is_leaf;
          closed = closed;
          by = by;
          no_dearer = no_dearer;
        };
        grown = same_pool s.pool;
        base = refl;
        more_done = inr (more_done known p s held place branch at sub (leaf ∷ []) [] plan cost may_close);
      };
    }

  pub closes_void : IsVoid p s.pool branch → Goes p s (with_news s place (record { node = nodes.Void; shows = 18446744073709551615 } ∷ [])) Closed
  closes_void is =
      closes void (record { node = nodes.Void; shows = 18446744073709551615 }) s.plan s.cost (void_sound known p s held place branch at is) tt (omega arith) held.allowed held.cost_is
      (omega (arith, small_cost known p s held)) (is, refl, refl)

  pub closes_fixed : (plan best : List (List Step)) (value cost : ℕ) → IsFixed p s.pool branch → IsLawful p plan → value ≡ plan_cost p plan → HasFixedValue p branch (plan_cost p plan) →
      cost ≤ s.cost → cost ≤ value → IsAllowedPlan p best → cost ≡ plan_cost p best → (best ≡ s.plan) ⊎ (IsShortPlan p best × (cost ≡ value) × (cost < s.cost)) →
      Goes p s (with_news (record s { plan = best; cost = cost }) place (record { node = nodes.Fixed; shows = value } ∷ [])) Closed
  closes_fixed plan best value cost is lawful value_is has no_dearer closed allowed cost_is kept =
      closes fixed (record { node = nodes.Fixed; shows = value }) best cost (fixed_sound known p s held place branch at plan value is lawful value_is has) tt no_dearer allowed cost_is closed
      (is, refl, kept)

-- a leaf that names a set, in a search whose pool gained shores
module _ (known : Known) (p : Problem) (s : State) (held : IsHeld p s) (place : ℕ) (branch : List Decision) (number : ℕ) (pool : List (List ℕ)) (grown : IsGrown s.pool pool)
    (names : NamesSet p s place branch number) (then_held : IsHeld p (with_pool s pool)) (then_names : NamesSet p (with_pool s pool) place branch number) (few : length s.sets < 256) where
  -- with one more set
  module _ (set : Prices) (may : MayStand p (with_pool s pool) branch number set) (tight : IsTight p pool (length s.pool) branch set) where
    held_set : All (IsHeldSet p pool) (set ∷ [])
    held_set = All-cons (IsHeldSet p pool) set [] (record { one_each = may.fits.one_each; not_negative = may.fits.fits.not_negative; shores = may.shores; groups = may.groups }) (All-nil (IsHeldSet p pool))

    few_then : length (s.sets ++ set ∷ []) ≤ 256
    few_then = omega (arith, length-append s.sets (set ∷ []), few)

    new_set : (after : State) → after.sets ≡ s.sets ++ set ∷ [] → after.pool ≡ pool → HasNewSet p s after branch (old known p s held place branch names.at)
    new_set after added pool_is = record {
      set = set;
      added = added;
      tight = subst (λ (xs : List (List ℕ)). IsTight p xs (length s.pool) branch set) (sym pool_is) tight;
      number = number;
      named = names.named no_entry;
      short_groups = may.short_groups;
      no_lower = subst (λ (xs : List (List ℕ)). IsNoLower p branch xs (set_in s.sets number) xs set) (sym pool_is) may.no_lower;
    }

    module _ (most : ℕ) (shown : IsMostShown set.unit (value_of (rules_of p pool branch) set) most) where
      abbrev leaf : GrowingNode
      leaf = record { node = nodes.Price (length s.sets + 1); shows = most }

      may_close_new : s.cost ≤ most → MayFollow known p (with_pool s pool) then_held place branch then_names.at (price (length s.sets + 1)) (leaf ∷ []) (set ∷ []) s.plan s.cost
      may_close_new closed = record {
        no_dearer = omega arith;
        allowed = held.allowed;
        cost_is = held.cost_is;
        sets = held_set;
        one_set = omega arith;
        few_sets = few_then;
        few_news = omega arith;
        turn = turns_first s.cost leaf [] closed;
        sound = new_leaf_sound known p (with_pool s pool) then_held place branch then_names.at number then_names set may most shown;
      }

      -- which closes it
      pub closes_new : s.cost ≤ most → Goes p s (with_news (with_set (with_pool s pool) set) place (leaf ∷ [])) Closed
      closes_new closed = record {
        held = follows known p (with_pool s pool) then_held place branch then_names.at (price (length s.sets + 1)) (leaf ∷ []) (set ∷ []) s.plan s.cost (may_close_new closed);
        step = record {
          does = record {
            branch = branch;
            old = old known p s held place branch names.at;
            leaf = leaf;
            taken = taken known p s held place branch names.at (with_news (with_set (with_pool s pool) set) place (leaf ∷ [])) (leaf ∷ []) refl;
            is_leaf = tt;
            closed = closed;
            by = (
              then_names.not_void,
              then_names.not_fixed,
              omega (arith, length-append s.sets (set ∷ [])),
              new_set (with_news (with_set (with_pool s pool) set) place (leaf ∷ [])) refl refl,
              refl,
            );
            no_dearer = omega arith;
          };
          grown = grown;
          base = refl;
          more_done = inr (more_done known p (with_pool s pool) then_held place branch then_names.at (price (length s.sets + 1)) (leaf ∷ []) (set ∷ []) s.plan s.cost (may_close_new closed));
        };
      }

      -- where it does not show the cost, the leaf stays as it was by it
      not_shown : most < s.cost → ¬ (PriceShows (with_sets (support_in p (with_pool s pool)) (set ∷ [])) branch s.cost (length s.sets + 1))
      not_shown less shows =
          let above : (pos set.unit *ℤ (pos s.cost -ℤ pos 1)) <ℤ value_of (rules_of p pool branch) set =
          subst (λ (x : Prices). (pos x.unit *ℤ (pos s.cost -ℤ pos 1)) <ℤ value_of (rules_of p pool branch) x)
          (new_at known p (with_pool s pool) then_held place branch then_names.at number then_names set may) shows.2.above in
          omega (arith, (shown.shown s.cost (omega (arith, small_cost known p s held))).0 above, less)

      module _ (node : Node) (c : Children) (by : IsSplitBy p pool branch set node c) where
        may_split_new : MayFollow known p (with_pool s pool) then_held place branch then_names.at (split_tree node (length s.sets + 1)) (split_nodes node (length s.sets + 1) c) (set ∷ []) s.plan s.cost
        may_split_new = record {
          no_dearer = omega arith;
          allowed = held.allowed;
          cost_is = held.cost_is;
          sets = held_set;
          one_set = omega arith;
          few_sets = few_then;
          few_news = omega arith;
          turn = turns_first s.cost (inner_of node) (leaves_of (length s.sets + 1) c) (omega (arith, small_cost known p s held));
          sound = new_split_sound known p (with_pool s pool) then_held place branch then_names.at number then_names set may node c by;
        }

        -- and both children have it
        pub splits_new : most < s.cost → Goes p s (with_news (with_set (with_pool s pool) set) place (split_nodes node (length s.sets + 1) c)) Split
        splits_new less =
            let after : State = with_news (with_set (with_pool s pool) set) place (split_nodes node (length s.sets + 1) c) in
            record {
              held = follows known p (with_pool s pool) then_held place branch then_names.at (split_tree node (length s.sets + 1)) (split_nodes node (length s.sets + 1) c) (set ∷ []) s.plan s.cost may_split_new;
              step = record {
                does = record {
                  branch = branch;
                  old = old known p s held place branch names.at;
                  inner = record { node = node; shows = 18446744073709551615 };
                  first = record { node = nodes.Price (length s.sets + 1); shows = c.first };
                  second = record { node = nodes.Price (length s.sets + 1); shows = c.second };
                  taken = taken known p s held place branch names.at after (split_nodes node (length s.sets + 1) c) refl;
                  short = by.node_in.short;
                  not_void = then_names.not_void;
                  not_fixed = then_names.not_fixed;
                  set = length s.sets + 1;
                  first_set = refl;
                  second_set = refl;
                  new_set = λ _. (omega (arith, length-append s.sets (set ∷ [])), new_set after refl refl, not_shown less);
                  old_set = λ full. absurd (omega (arith, few, full));
                  plan = refl;
                  cost = refl;
                };
                grown = grown;
                base = refl;
                more_done =
                    inr
                    (more_done known p (with_pool s pool) then_held place branch then_names.at (split_tree node (length s.sets + 1)) (split_nodes node (length s.sets + 1) c) (set ∷ []) s.plan s.cost
                    may_split_new);
              };
            }

-- a leaf is split, and both children have its set
module _ (known : Known) (p : Problem) (s : State) (held : IsHeld p s) (place : ℕ) (branch : List Decision) (number : ℕ) (names : NamesSet p s place branch number)
    (some : 1 ≤ (set_in s.sets number).unit) (node : Node) (c : Children) (by : IsSplitBy p s.pool branch (set_in s.sets number) node c) where
  abbrev split_state : List Prices → State
  split_state sets =
      let entries = take place s.nodes ++ (split_nodes node number c ++ drop (place + 1) s.nodes) in
      record { pool = s.pool; sets = sets; nodes = entries; plan = s.plan; cost = s.cost; done = turns_in s.cost entries; least = s.least; base = s.base }

  may_split_old : MayFollow known p s held place branch names.at (split_tree node number) (split_nodes node number c) [] s.plan s.cost
  may_split_old = record {
    no_dearer = omega arith;
    allowed = held.allowed;
    cost_is = held.cost_is;
    sets = All-nil (IsHeldSet p s.pool);
    one_set = omega arith;
    few_sets = omega (arith, length-append s.sets [], held.few_sets);
    few_news = omega arith;
    turn = turns_first s.cost (inner_of node) (leaves_of number c) (omega (arith, small_cost known p s held));
    sound = old_split_sound known p s held place branch names.at number names some node c by;
  }

  pub splits_old : 256 ≤ length s.sets → Goes p s (with_news s place (split_nodes node number c)) Split
  splits_old full = record {
    held =
        subst (λ (sets : List Prices). IsHeld p (split_state sets)) (append-nil s.sets)
        (follows known p s held place branch names.at (split_tree node number) (split_nodes node number c) [] s.plan s.cost may_split_old);
    step = record {
      does = record {
        branch = branch;
        old = old known p s held place branch names.at;
        inner = record { node = node; shows = 18446744073709551615 };
        first = record { node = nodes.Price number; shows = c.first };
        second = record { node = nodes.Price number; shows = c.second };
        taken = taken known p s held place branch names.at (split_state s.sets) (split_nodes node number c) refl;
        short = by.node_in.short;
        not_void = names.not_void;
        not_fixed = names.not_fixed;
        set = number;
        first_set = refl;
        second_set = refl;
        new_set = λ few. absurd (omega (arith, few, full));
        old_set = λ _. (refl, names.named no_entry);
        plan = refl;
        cost = refl;
      };
      grown = same_pool s.pool;
      base = refl;
      more_done = inr (more_done known p s held place branch names.at (split_tree node number) (split_nodes node number c) [] s.plan s.cost may_split_old);
    };
  }
