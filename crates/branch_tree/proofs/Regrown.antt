-- A search that goes on from a tree holds it.
use Rattle.std.proofs.Common.{◌≡◌, ℕ, zero, suc, ◌+◌, ◌-◌, ◌*◌, ◌^◌, ◌≤◌, ◌<◌, cond, List, [], ◌∷◌, ◌++◌, length, refl, subst, ap, arith, length-append}
use Rattle.std.specs.Prelude.{nat_le}
use Rattle.std.specs.List.{All, AllByRecursion}
use Rattle.std.proofs.lemmas.List.Elements.{All-get_or, recursion_from_All}
use Rattle.std.proofs.lemmas.List.Sums.{sum_by-append}
use Rattle.carp_base.specs.Problem.{Problem, IsValid}
use Rattle.plan_model.specs.declared.step.Step.{Step}
use Rattle.plan_model.specs.Plans.{plan_cost}
use Rattle.decision_chains.specs.declared.decision.Decision.{Decision}
use Rattle.decision_chains.specs.declared.decision.Decision.TheVariants.{Yes, No, Low, High}
use Rattle.branch_rules.specs.Decisions.{is_cut, cuts_of, rules_of}
use Rattle.branch_rules.specs.Limits.{IsNodeIn, IsPriceSet}
use Rattle.branch_rules.specs.Prices.{Prices, value_of}
use Rattle.branch_rules.specs.Trees.{Tree, pair, cut, price, void, fixed, preorder, HasTurns, IsLean, IsLeanNode, Shows, Support, no_prices, set_at}
use Rattle.branch_rules.specs.declared.node.Node.{Node}
use Rattle.branch_rules.specs.declared.node.Node.TheVariants as nodes
use Rattle.grown_trees.specs.Growth.{AreNoted, AreSound, Fraction, IsNotedNode, IsSoundNode, IsSpelledNode, NodeReaches, turns_in}
use Rattle.grown_trees.specs.Laws.{SoundIsTree}
use Rattle.grown_trees.specs.Places.{IsFineNode}
use Rattle.grown_trees.specs.Stands.{IsLeanStand, IsShownStand, NodeFits, NodeShows, Stand, stands}
use Rattle.grown_trees.specs.declared.growing.GrowingNode.{GrowingNode}
use Rattle.task_tours.specs.ShortLaws.{ShortPlansCostLittle}
use Rattle.task_tours.specs.Shorts.{IsAllowedPlan}
use Rattle.branch_tree.specs.Resumes.{MayResume, support_on}
use Rattle.branch_tree.specs.Searches.{IsHeld, IsHeldSet}
use Rattle.branch_tree.specs.Values.{just_above, millionths}
use Rattle.branch_tree.specs.declared.search.Base.{Base}
use Rattle.branch_tree.proofs.Counting.{is_shown}
use Rattle.branch_tree.proofs.Numbers.{bound_covers, millionths_show, shown_reaches}

join_all : {X : Type 0} (P : X → Type 0) (xs ys : List X) → AllByRecursion P xs → AllByRecursion P ys → AllByRecursion P (xs ++ ys)
join_all P [] ys first second = second
join_all P (x ∷ xs) ys first second = (first.0, join_all P xs ys first.1 second)

part_all : {X : Type 0} (P : X → Type 0) (xs ys : List X) → AllByRecursion P (xs ++ ys) → AllByRecursion P xs × AllByRecursion P ys
part_all P [] ys all = (tt, all)
part_all P (x ∷ xs) ys all = let parts = part_all P xs ys all.1 in ((all.0, parts.0), parts.1)

cuts_more : (branch : List Decision) (d : Decision) → cuts_of (branch ++ d ∷ []) ≡ cuts_of branch + cond (is_cut d) 1 0
cuts_more branch d = omega (arith, sum_by-append (λ e. cond (is_cut e) 1 0) branch (d ∷ []))

-- what the tree says of each of its nodes where it stands
record IsReady (c : Support) (least : ℕ) (s : Stand) : Type 0 where
  pub inside : IsNodeIn c.problem c.pool s.node
  pub spelled : IsSpelledNode (length c.sets) s.node
  pub lean : IsLeanStand c 4 s
  pub shows : IsShownStand c least s

module _ (c : Support) (least : ℕ) where
  ready : (branch : List Decision) (left : ℕ) (tree : Tree) → left ≡ 4 - cuts_of branch → IsLean c branch left tree → Shows c branch least tree →
      AllByRecursion (IsNodeIn c.problem c.pool) (preorder tree) → AllByRecursion (IsSpelledNode (length c.sets)) (preorder tree) → AllByRecursion (IsReady c least) (stands branch tree)
  ready branch left (pair a b t u) is lean shows inside spelled =
      let insides = part_all (IsNodeIn c.problem c.pool) (preorder t) (preorder u) inside.1 in
      let spells = part_all (IsSpelledNode (length c.sets)) (preorder t) (preorder u) spelled.1 in (
        record { inside = inside.0; spelled = spelled.0; lean = subst (λ (n : ℕ). IsLeanNode c.problem c.pool branch n (nodes.Pair a b)) is lean.0; shows = tt },
        join_all (IsReady c least) (stands (branch ++ Yes a b ∷ []) t) (stands (branch ++ No a b ∷ []) u)
            (ready (branch ++ Yes a b ∷ []) left t (omega (arith, is, cuts_more branch (Yes a b))) lean.1 shows.0 insides.0 spells.0)
            (ready (branch ++ No a b ∷ []) left u (omega (arith, is, cuts_more branch (No a b))) lean.2 shows.1 insides.1 spells.1),
      )
  ready branch left (cut shore k t u) is lean shows inside spelled =
      let insides = part_all (IsNodeIn c.problem c.pool) (preorder t) (preorder u) inside.1 in
      let spells = part_all (IsSpelledNode (length c.sets)) (preorder t) (preorder u) spelled.1 in (
        record { inside = inside.0; spelled = spelled.0; lean = subst (λ (n : ℕ). IsLeanNode c.problem c.pool branch n (nodes.Cut shore k)) is lean.0; shows = tt },
        join_all (IsReady c least) (stands (branch ++ Low shore k ∷ []) t) (stands (branch ++ High shore k ∷ []) u)
            (ready (branch ++ Low shore k ∷ []) (left - 1) t (omega (arith, is, cuts_more branch (Low shore k))) lean.1 shows.0 insides.0 spells.0)
            (ready (branch ++ High shore k ∷ []) (left - 1) u (omega (arith, is, cuts_more branch (High shore k))) lean.2 shows.1 insides.1 spells.1),
      )
  ready branch left (price set) is lean shows inside spelled = (record { inside = inside.0; spelled = spelled.0; lean = tt; shows = shows }, tt)
  ready branch left void is lean shows inside spelled = (record { inside = inside.0; spelled = spelled.0; lean = tt; shows = shows }, tt)
  ready branch left fixed is lean shows inside spelled = (record { inside = inside.0; spelled = spelled.0; lean = tt; shows = shows }, tt)

fine_node : (sets : ℕ) (node : Node) → IsSpelledNode sets node → IsFineNode node
fine_node sets (nodes.Pair a b) spelled = tt
fine_node sets (nodes.Cut shore k) spelled = spelled
fine_node sets (nodes.Price set) spelled = tt
fine_node sets nodes.Void spelled = tt
fine_node sets nodes.Fixed spelled = tt

module _ (p : Problem) (pool : List (List ℕ)) (sets : List Prices) (fine : All IsPriceSet sets) (held : All (IsHeldSet p pool) sets) (least : ℕ) where
  abbrev c : Support
  c = support_on p pool sets

  fine_at : (number : ℕ) → 1 ≤ number → number ≤ length sets → IsPriceSet (set_at c number)
  fine_at zero from_one to_last = absurd (omega (arith, from_one))
  fine_at (suc k) from_one to_last = All-get_or IsPriceSet sets k no_prices (omega (arith, to_last)) fine

  held_at : (number : ℕ) → 1 ≤ number → number ≤ length sets → IsHeldSet p pool (set_at c number)
  held_at zero from_one to_last = absurd (omega (arith, from_one))
  held_at (suc k) from_one to_last = All-get_or (IsHeldSet p pool) sets k no_prices (omega (arith, to_last)) held

  fits : (branch : List Decision) (node : Node) → NodeShows c least branch node → NodeFits c branch node
  fits branch (nodes.Pair a b) shows = tt
  fits branch (nodes.Cut shore k) shows = tt
  fits branch (nodes.Price set) shows = (shows.0, shows.1, record { one_each = (held_at set shows.0 shows.1).one_each; fits = shows.2.fits })
  fits branch nodes.Void shows = tt
  fits branch nodes.Fixed shows = tt

  reaches : (branch : List Decision) (node : Node) → NodeShows c least branch node → NodeReaches c (just_above least) branch node
  reaches branch (nodes.Pair a b) shows = tt
  reaches branch (nodes.Cut shore k) shows = tt
  reaches branch (nodes.Price set) shows = shown_reaches (set_at c set).unit least (value_of (rules_of p pool branch) (set_at c set)) (fine_at set shows.0 shows.1).unit_in shows.2.above
  reaches branch nodes.Void shows = tt
  reaches branch nodes.Fixed shows = tt

  module _ (small : least < 10 ^ 18) where
    one_sound : (s : Stand) (e : GrowingNode) → IsReady c least s → IsNotedNode c s e → IsSoundNode c (just_above least) s e
    one_sound s e is noted = record {
      same = noted.same;
      pairs = noted.pairs;
      shores = noted.shores;
      inside = is.inside;
      fine = fine_node (length sets) s.node is.spelled;
      spelled = is.spelled;
      lean = is.lean;
      fits = fits s.branch s.node is.shows;
      reaches = reaches s.branch s.node is.shows;
      shows = noted.shows;
      enough = bound_covers least e.shows ((noted.shows least small).0 is.shows);
    }

    all_sound : (ss : List Stand) (es : List GrowingNode) → AllByRecursion (IsReady c least) ss → AreNoted c ss es → AreSound c (just_above least) ss es
    all_sound [] [] is noted = tt
    all_sound [] (e ∷ es) is noted = absurd noted
    all_sound (s ∷ ss) [] is noted = absurd noted
    all_sound (s ∷ ss) (e ∷ es) is noted = (one_sound s e is.0 noted.0, all_sound ss es is.1 noted.1)

-- There are at most twice as many nodes as inner nodes, and one more; each inner node is a turn.

abbrev inner : Node → ℕ
inner (nodes.Pair a b) = 1
inner (nodes.Cut shore k) = 1
inner (nodes.Price set) = 0
inner nodes.Void = 0
inner nodes.Fixed = 0

abbrev inners : List Stand → ℕ
inners [] = 0
inners (s ∷ ss) = inner s.node + inners ss

inners_both : (ss rs : List Stand) → inners (ss ++ rs) ≡ inners ss + inners rs
inners_both [] rs = omega arith
inners_both (s ∷ ss) rs = omega (arith, inners_both ss rs)

few_stands : (branch : List Decision) (tree : Tree) → length (stands branch tree) ≡ 2 * inners (stands branch tree) + 1
few_stands branch (pair a b t u) =
    omega (
      arith,
      few_stands (branch ++ Yes a b ∷ []) t,
      few_stands (branch ++ No a b ∷ []) u,
      length-append (stands (branch ++ Yes a b ∷ []) t) (stands (branch ++ No a b ∷ []) u),
      inners_both (stands (branch ++ Yes a b ∷ []) t) (stands (branch ++ No a b ∷ []) u),
    )
few_stands branch (cut shore k t u) =
    omega (
      arith,
      few_stands (branch ++ Low shore k ∷ []) t,
      few_stands (branch ++ High shore k ∷ []) u,
      length-append (stands (branch ++ Low shore k ∷ []) t) (stands (branch ++ High shore k ∷ []) u),
      inners_both (stands (branch ++ Low shore k ∷ []) t) (stands (branch ++ High shore k ∷ []) u),
    )
few_stands branch (price set) = refl
few_stands branch void = refl
few_stands branch fixed = refl

stands_long : (branch : List Decision) (tree : Tree) → length (stands branch tree) ≡ length (preorder tree)
stands_long branch (pair a b t u) =
    omega (
      arith,
      stands_long (branch ++ Yes a b ∷ []) t,
      stands_long (branch ++ No a b ∷ []) u,
      length-append (stands (branch ++ Yes a b ∷ []) t) (stands (branch ++ No a b ∷ []) u),
      length-append (preorder t) (preorder u),
    )
stands_long branch (cut shore k t u) =
    omega (
      arith,
      stands_long (branch ++ Low shore k ∷ []) t,
      stands_long (branch ++ High shore k ∷ []) u,
      length-append (stands (branch ++ Low shore k ∷ []) t) (stands (branch ++ High shore k ∷ []) u),
      length-append (preorder t) (preorder u),
    )
stands_long branch (price set) = refl
stands_long branch void = refl
stands_long branch fixed = refl

as_many : (c : Support) (ss : List Stand) (es : List GrowingNode) → AreNoted c ss es → length ss ≡ length es
as_many c [] [] noted = refl
as_many c [] (e ∷ es) noted = absurd noted
as_many c (s ∷ ss) [] noted = absurd noted
as_many c (s ∷ ss) (e ∷ es) noted = omega (arith, as_many c ss es noted.1)

module _ (c : Support) (cost : ℕ) (small : cost < 10 ^ 18) where
  abbrev counts : ℕ → ℕ
  counts shows = cond (nat_le cost shows) 1 0

  one_counts : (shows : ℕ) → cost ≤ shows → counts shows ≡ 1
  one_counts shows within = ap {B = ℕ} (λ b. cond b 1 0) (is_shown cost shows within)

  inner_counts : (branch : List Decision) (node : Node) (e : GrowingNode) → IsNotedNode c (record { branch = branch; node = node }) e → inner node ≤ counts e.shows
  inner_counts branch (nodes.Pair a b) e noted = omega (arith, one_counts e.shows ((noted.shows cost small).0 tt))
  inner_counts branch (nodes.Cut shore k) e noted = omega (arith, one_counts e.shows ((noted.shows cost small).0 tt))
  inner_counts branch (nodes.Price set) e noted = omega arith
  inner_counts branch nodes.Void e noted = omega arith
  inner_counts branch nodes.Fixed e noted = omega arith

  turns_more : (e : GrowingNode) (es : List GrowingNode) → turns_in cost (e ∷ es) ≡ counts e.shows + turns_in cost es
  turns_more e es = omega (arith, sum_by-append (λ (x : GrowingNode). cond (nat_le cost x.shows) 1 0) (e ∷ []) es)

  inners_count : (ss : List Stand) (es : List GrowingNode) → AreNoted c ss es → inners ss ≤ turns_in cost es
  inners_count [] es noted = omega arith
  inners_count (s ∷ ss) [] noted = absurd noted
  inners_count (s ∷ ss) (e ∷ es) noted = omega (arith, inner_counts s.branch s.node e noted.0, inners_count ss es noted.1, turns_more e es)

  pub few_noted : (tree : Tree) (es : List GrowingNode) → AreNoted c (stands [] tree) es → length es ≤ 2 * turns_in cost es + 1
  few_noted tree es noted = omega (arith, as_many c (stands [] tree) es noted, few_stands [] tree, inners_count (stands [] tree) es noted)

-- The base of a search that goes on shows just the bound.

pub base_is : (least : ℕ) (base : Base) → base.unit ≡ 1000000 → base.value ≡ millionths least → ◌≡◌ {A = Fraction} (record { unit = base.unit; value = base.value }) (just_above least)
base_is least base unit value = λ i. record { unit = unit i; value = value i }

-- The nodes of a tree from which a search may go on are sound.

module _ (p : Problem) (pool : List (List ℕ)) (sets : List Prices) (least : ℕ) (entries : List GrowingNode) (may : MayResume p pool sets least entries) (small : least < 10 ^ 18) where
  resumed_sound : AreSound (support_on p pool sets) (just_above least) (stands [] may.tree) entries
  resumed_sound =
      all_sound p pool sets may.fine may.held least small (stands [] may.tree) entries
      (ready (support_on p pool sets) least [] 4 may.tree refl may.lean may.shows (recursion_from_All (IsNodeIn p pool) (preorder may.tree) may.inside)
      (recursion_from_All (IsSpelledNode (length sets)) (preorder may.tree) may.spelled))
      may.noted

  pub resumed_turns : SoundIsTree → (cost : ℕ) → cost < 10 ^ 18 → HasTurns (support_on p pool sets) [] cost may.tree (turns_in cost entries)
  resumed_turns law = (law (support_on p pool sets) (just_above least) may.tree entries resumed_sound).turns

module _ (costs : ShortPlansCostLittle) (p : Problem) (valid : IsValid p) (plan : List (List Step)) (allowed : IsAllowedPlan p plan) (pool : List (List ℕ)) (sets : List Prices) (least : ℕ)
    (entries : List GrowingNode) (may : MayResume p pool sets least entries) where
  small : plan_cost p plan < 10 ^ 18
  small = omega (arith, costs p plan valid allowed.lawful allowed.few_steps)

  pub few_nodes : (cost : ℕ) → cost ≡ plan_cost p plan → length entries ≤ 2 * turns_in cost entries + 1
  few_nodes cost cost_is = few_noted (support_on p pool sets) cost (omega (arith, cost_is, small)) may.tree entries may.noted

  pub in_range : length entries ≤ 2097153
  in_range = omega (arith, as_many (support_on p pool sets) (stands [] may.tree) entries may.noted, stands_long [] may.tree, may.few_nodes)

  pub resumed_held : (cost done : ℕ) → cost ≡ plan_cost p plan → done ≡ turns_in cost entries →
      IsHeld p (record { pool = pool; sets = sets; nodes = entries; plan = plan; cost = cost; done = done; least = least; base = just_above least })
  resumed_held cost done cost_is done_is = record {
    valid = valid;
    below = may.below;
    some_unit = omega arith;
    shown = millionths_show least;
    beneath = λ other lawful. bound_covers least (plan_cost p other) (may.below other lawful);
    tree = may.tree;
    sound = resumed_sound p pool sets least entries may (omega (arith, small, may.below plan allowed.lawful));
    sets = may.held;
    few_sets = may.few_sets;
    belong = may.belong;
    allowed = allowed;
    cost_is = cost_is;
    done_is = done_is;
    few_nodes = omega (arith, done_is, few_nodes cost cost_is);
  }
