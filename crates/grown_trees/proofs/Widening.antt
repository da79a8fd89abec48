-- A support that gains shores leaves each node sound.
use Rattle.std.proofs.Common.{◌≡◌, ℕ, zero, suc, ◌-◌, ◌*◌, ◌≤◌, ◌<◌, max, List, [], ◌∷◌, ◌++◌, length, map, refl, sym, ap, ◌∙◌, subst, arith, inl, inr, ℤ, pos, ◌+ℤ◌, ◌-ℤ◌, ◌*ℤ◌, ◌≤ℤ◌, ◌<ℤ◌, ◌↔◌, nat_abs, Some, length-append}
use Rattle.std.specs.Prelude.{if◌then◌else◌, unwrap_or}
use Rattle.std.specs.List.{All, AllByRecursion}
use Rattle.std.proofs.Math.Path.{fun_ext}
use Rattle.std.proofs.lemmas.Bool.{cases_eq, ne_eqb}
use Rattle.std.proofs.lemmas.List.{get_or_append_left}
use Rattle.std.proofs.lemmas.List.Elements.{All-head, All-tail, All-weaker, recursion_from_All}
use Rattle.carp_base.specs.declared.edge.Edge.{Edge}
use Rattle.carp_base.specs.Problem.{Problem, edge_at}
use Rattle.plan_model.specs.Plans.{crosses}
use Rattle.deadhead_paths.specs.Prices.{price_of}
use Rattle.cut_pool.specs.Pools.{IsShoreNumber, shore_at}
use Rattle.cut_pool.specs.Shores.{Belongs, is_in, need, required_crossings}
use Rattle.decision_chains.specs.Exclusions.{Excluded}
use Rattle.decision_chains.specs.declared.decision.Decision.{Decision}
use Rattle.decision_chains.specs.declared.decision.Decision.TheVariants.{Yes, No, Low, High}
use Rattle.branch_rules.specs.declared.weight.Weight.{Weight}
use Rattle.branch_rules.specs.declared.node.Node.{Node}
use Rattle.branch_rules.specs.declared.node.Node.TheVariants as nodes
use Rattle.branch_rules.specs.Decisions.{highest, lowest, lower_of, rules_of, to_parity, cuts_of, IsVoid, three, cycle, heavy_chain, crossed, IsFixed}
use Rattle.branch_rules.specs.Limits.{AreShoresIn, HasShoreOf, IsNodeIn, IsShoreOf}
use Rattle.branch_rules.specs.Prices.{room_weight, Fits, PaysAtLeast, Prices, crossing_prices, crossing_weight, deadhead_price, signed_sum, task_adds, value_of, weigh, weight_value}
use Rattle.branch_rules.specs.Trees.{Tree, Support, set_at, no_prices, PriceShows, FixedShows, IsLeanNode}
use Rattle.grown_trees.specs.Growth.{Fraction, NodeReaches, IsSoundNode, AreSound}
use Rattle.grown_trees.specs.Stands.{Stand, stands, NodeFits, NodeShows, HoldsShores, with_shores}
use Rattle.grown_trees.specs.declared.growing.GrowingNode.{GrowingNode}
use Rattle.grown_trees.proofs.Sound.{all_sound}

sum_same : {X : Type 0} (f g : X → ℤ) (xs : List X) → All (λ x. f x ≡ g x) xs → signed_sum f xs ≡ signed_sum g xs
sum_same f g [] all = refl
sum_same f g (x ∷ xs) all =
    ap (λ z. z +ℤ signed_sum f xs) (All-head (λ y. f y ≡ g y) x xs all) ∙ ap (λ s. g x +ℤ s) (sum_same f g xs (All-tail (λ y. f y ≡ g y) x xs all))

-- Shores and branches.

module _ (p : Problem) (pool more : List (List ℕ)) where
  shore_same : (i : ℕ) → IsShoreNumber pool i → shore_at (pool ++ more) i ≡ shore_at pool i
  shore_same zero is = absurd (omega (arith, is.from_one))
  shore_same (suc k) is = get_or_append_left pool more [] k (omega (arith, is.in_range))

  shore_more : (i : ℕ) → IsShoreOf p pool i → IsShoreOf p (pool ++ more) i
  shore_more i is = record {
    number = record { from_one = is.number.from_one; in_range = omega (arith, is.number.in_range, length-append pool more) };
    belongs = subst (Belongs p) (sym (shore_same i is.number)) is.belongs;
  }

  node_more : (node : Node) → IsNodeIn p pool node → IsNodeIn p (pool ++ more) node
  node_more (nodes.Pair a b) is = is
  node_more (nodes.Cut shore k) is = shore_more shore is
  node_more (nodes.Price set) is = tt
  node_more nodes.Void is = tt
  node_more nodes.Fixed is = tt

  lower_same : (branch : List Decision) (i : ℕ) → IsShoreNumber pool i → lower_of p (pool ++ more) branch i ≡ lower_of p pool branch i
  lower_same branch i is = ap (λ (shore : List ℕ). to_parity (required_crossings p (is_in shore)) (max (need p (is_in shore)) (highest i branch))) (shore_same i is)

  -- a shore with an upper number is one of the pool
  low_in : (branch : List Decision) → AllByRecursion (HasShoreOf p pool) branch → (i k : ℕ) → lowest i branch ≡ Some k → IsShoreNumber pool i
  low_in [] held i k low = cc
  low_in (Yes a b ∷ rest) held i k low = low_in rest held.1 i k low
  low_in (No a b ∷ rest) held i k low = low_in rest held.1 i k low
  low_in (High s m ∷ rest) held i k low = low_in rest held.1 i k low
  low_in (Low s m ∷ rest) held i k low = elim (cases_eq s i) [
    | inl is ↦ subst (IsShoreNumber pool) is held.0.number
    | inr other ↦
        let rest_low : lowest i rest ≡ Some k = rw (ne_eqb s i other) at low in
        low_in rest held.1 i k rest_low
  ]

  module _ (branch : List Decision) (held : AreShoresIn p pool branch) where
    low_number : (i k : ℕ) → lowest i branch ≡ Some k → IsShoreNumber pool i
    low_number = low_in branch (recursion_from_All (HasShoreOf p pool) branch held)

    void_to : IsVoid p pool branch → IsVoid p (pool ++ more) branch
    void_to (three a b said others) = three a b said others
    void_to (cycle a b path apart said detour) = cycle a b path apart said detour
    void_to (heavy_chain a heavy) = heavy_chain a heavy
    void_to (crossed i k low less) = crossed i k low (subst (λ m. k < m) (sym (lower_same branch i (low_number i k low))) less)

    void_from : IsVoid p (pool ++ more) branch → IsVoid p pool branch
    void_from (three a b said others) = three a b said others
    void_from (cycle a b path apart said detour) = cycle a b path apart said detour
    void_from (heavy_chain a heavy) = heavy_chain a heavy
    void_from (crossed i k low less) = crossed i k low (subst (λ m. k < m) (lower_same branch i (low_number i k low)) less)

    fixed_to : IsFixed p pool branch → IsFixed p (pool ++ more) branch
    fixed_to is = record { open_yet = λ void. is.open_yet (void_from void); settled = is.settled }

    fixed_from : IsFixed p (pool ++ more) branch → IsFixed p pool branch
    fixed_from is = record { open_yet = λ void. is.open_yet (void_to void); settled = is.settled }

  -- Price sets.

  module _ (branch : List Decision) (set : Prices) (all : All (λ (w : Weight). IsShoreNumber pool w.shore) set.weights) where
    across_same : (x : Edge) (w : Weight) → IsShoreNumber pool w.shore → crossing_weight (pool ++ more) x w ≡ crossing_weight pool x w
    across_same x w is = ap (λ (shore : List ℕ). if crosses (is_in shore) x then w.weight else pos 0) (shore_same w.shore is)

    deadhead_same : (x : Edge) → deadhead_price (pool ++ more) set x ≡ deadhead_price pool set x
    deadhead_same x =
        ap (λ s. pos (set.unit * x.cost) -ℤ s)
        (sum_same (crossing_weight (pool ++ more) x) (crossing_weight pool x) set.weights
        (All-weaker (λ (w : Weight). IsShoreNumber pool w.shore) (λ (w : Weight). crossing_weight (pool ++ more) x w ≡ crossing_weight pool x w) (across_same x) set.weights all))

    crossing_same : crossing_prices p (pool ++ more) set ≡ crossing_prices p pool set
    crossing_same = ap (λ (f : Edge → ℤ). map (λ x. nat_abs (f x)) p.edges) (fun_ext deadhead_same)

    counts_same : (w : Weight) → IsShoreNumber pool w.shore → weight_value (rules_of p (pool ++ more) branch) w ≡ weight_value (rules_of p pool branch) w
    counts_same w is = ap (λ low. weigh w.weight low (unwrap_or (lowest w.shore branch) 0)) (lower_same branch w.shore is)

    value_same : value_of (rules_of p (pool ++ more) branch) set ≡ value_of (rules_of p pool branch) set
    value_same =
        ap (λ s. (signed_sum (λ z. z) set.services +ℤ s) -ℤ room_weight (rules_of p pool branch) set.groups)
        (sum_same (weight_value (rules_of p (pool ++ more) branch)) (weight_value (rules_of p pool branch)) set.weights
        (All-weaker (λ (w : Weight). IsShoreNumber pool w.shore) (λ (w : Weight). weight_value (rules_of p (pool ++ more) branch) w ≡ weight_value (rules_of p pool branch) w) counts_same set.weights all))

    fit_to : Fits p pool (rules_of p pool branch) (λ a b. ¬ (Excluded p branch a b)) set → Fits p (pool ++ more) (rules_of p (pool ++ more) branch) (λ a b. ¬ (Excluded p branch a b)) set
    fit_to fits = record {
      not_negative = λ e is. subst (λ z. pos 0 ≤ℤ z) (sym (deadhead_same (edge_at p e))) (fits.not_negative e is);
      has_upper = fits.has_upper;
      has_yes = fits.has_yes;
      tours = subst (λ prices. PaysAtLeast p (λ a b. ¬ (Excluded p branch a b)) (task_adds p set) (price_of prices) set.groups) (sym crossing_same) fits.tours;
    }

    fit_from : Fits p (pool ++ more) (rules_of p (pool ++ more) branch) (λ a b. ¬ (Excluded p branch a b)) set → Fits p pool (rules_of p pool branch) (λ a b. ¬ (Excluded p branch a b)) set
    fit_from fits = record {
      not_negative = λ e is. subst (λ z. pos 0 ≤ℤ z) (deadhead_same (edge_at p e)) (fits.not_negative e is);
      has_upper = fits.has_upper;
      has_yes = fits.has_yes;
      tours = subst (λ prices. PaysAtLeast p (λ a b. ¬ (Excluded p branch a b)) (task_adds p set) (price_of prices) set.groups) crossing_same fits.tours;
    }

-- Nodes where they stand.

module _ (c : Support) (more : List (List ℕ)) (shores : HoldsShores c) where
  weights_in : (k : ℕ) → 1 ≤ k → k ≤ length c.sets → All (λ (w : Weight). IsShoreNumber c.pool w.shore) (set_at c k).weights
  weights_in zero one most = absurd (omega (arith, one))
  weights_in (suc j) one most = shores j no_prices (omega (arith, most))

  price_to : (branch : List Decision) (bound k : ℕ) → PriceShows c branch bound k → PriceShows (with_shores c more) branch bound k
  price_to branch bound k shown =
      let all = weights_in k shown.0 shown.1 in
      let set = set_at c k in (
        shown.0,
        shown.1,
        record {
          fits = fit_to c.problem c.pool more branch set all shown.2.fits;
          above = subst (λ v. (pos set.unit *ℤ (pos bound -ℤ pos 1)) <ℤ v) (sym (value_same c.problem c.pool more branch set all)) shown.2.above;
        },
      )

  price_from : (branch : List Decision) (bound k : ℕ) → PriceShows (with_shores c more) branch bound k → PriceShows c branch bound k
  price_from branch bound k shown =
      let all = weights_in k shown.0 shown.1 in
      let set = set_at c k in (
        shown.0,
        shown.1,
        record {
          fits = fit_from c.problem c.pool more branch set all shown.2.fits;
          above = subst (λ v. (pos set.unit *ℤ (pos bound -ℤ pos 1)) <ℤ v) (value_same c.problem c.pool more branch set all) shown.2.above;
        },
      )

  leaf_to : (branch : List Decision) (bound : ℕ) → AreShoresIn c.problem c.pool branch → FixedShows c branch bound → FixedShows (with_shores c more) branch bound
  leaf_to branch bound held shown = record { settled = fixed_to c.problem c.pool more branch held shown.settled; value = shown.value; fixed = shown.fixed; enough = shown.enough }

  leaf_from : (branch : List Decision) (bound : ℕ) → AreShoresIn c.problem c.pool branch → FixedShows (with_shores c more) branch bound → FixedShows c branch bound
  leaf_from branch bound held shown = record { settled = fixed_from c.problem c.pool more branch held shown.settled; value = shown.value; fixed = shown.fixed; enough = shown.enough }

  node_fits : (branch : List Decision) (node : Node) → NodeFits c branch node → NodeFits (with_shores c more) branch node
  node_fits branch (nodes.Pair a b) fits = tt
  node_fits branch (nodes.Cut shore k) fits = tt
  node_fits branch (nodes.Price k) fits =
      (fits.0, fits.1, record { one_each = fits.2.one_each; fits = fit_to c.problem c.pool more branch (set_at c k) (weights_in k fits.0 fits.1) fits.2.fits })
  node_fits branch nodes.Void fits = tt
  node_fits branch nodes.Fixed fits = tt

  reaches_wide : (base : Fraction) (branch : List Decision) (node : Node) → NodeFits c branch node → NodeReaches c base branch node → NodeReaches (with_shores c more) base branch node
  reaches_wide base branch (nodes.Pair a b) fits reaches = tt
  reaches_wide base branch (nodes.Cut shore k) fits reaches = tt
  reaches_wide base branch (nodes.Price k) fits reaches =
      let set = set_at c k in
      subst (λ v. (pos set.unit *ℤ base.value) ≤ℤ (pos base.unit *ℤ v)) (sym (value_same c.problem c.pool more branch set (weights_in k fits.0 fits.1))) reaches
  reaches_wide base branch nodes.Void fits reaches = tt
  reaches_wide base branch nodes.Fixed fits reaches = tt

  lean_wide : (branch : List Decision) (left : ℕ) (node : Node) → IsNodeIn c.problem c.pool node → IsLeanNode c.problem c.pool branch left node → IsLeanNode c.problem (c.pool ++ more) branch left node
  lean_wide branch left (nodes.Pair a b) held lean = lean
  lean_wide branch left (nodes.Cut shore k) held lean =
      (lean.0, subst (λ m. m ≤ k) (sym (lower_same c.problem c.pool more branch shore held.number)) lean.1, lean.2)
  lean_wide branch left (nodes.Price set) held lean = tt
  lean_wide branch left nodes.Void held lean = tt
  lean_wide branch left nodes.Fixed held lean = tt

  shows_wide : (bound : ℕ) (branch : List Decision) (node : Node) → AreShoresIn c.problem c.pool branch → NodeShows (with_shores c more) bound branch node ↔ NodeShows c bound branch node
  shows_wide bound branch (nodes.Pair a b) held = ((λ shown. tt), (λ shown. tt))
  shows_wide bound branch (nodes.Cut shore k) held = ((λ shown. tt), (λ shown. tt))
  shows_wide bound branch (nodes.Price k) held = (price_from branch bound k, price_to branch bound k)
  shows_wide bound branch nodes.Void held = (void_from c.problem c.pool more branch held, void_to c.problem c.pool more branch held)
  shows_wide bound branch nodes.Fixed held = (leaf_from branch bound held, leaf_to branch bound held)

  decision_more : (d : Decision) → HasShoreOf c.problem c.pool d → HasShoreOf c.problem (c.pool ++ more) d
  decision_more (Yes a b) is = tt
  decision_more (No a b) is = tt
  decision_more (Low shore k) is = shore_more c.problem c.pool more shore is
  decision_more (High shore k) is = shore_more c.problem c.pool more shore is

  node_sound : (base : Fraction) (s : Stand) (e : GrowingNode) → IsSoundNode c base s e → IsSoundNode (with_shores c more) base s e
  node_sound base s e sound = record {
    same = sound.same;
    pairs = sound.pairs;
    shores = All-weaker (HasShoreOf c.problem c.pool) (HasShoreOf c.problem (c.pool ++ more)) decision_more s.branch sound.shores;
    inside = node_more c.problem c.pool more s.node sound.inside;
    fine = sound.fine;
    spelled = sound.spelled;
    lean = lean_wide s.branch (4 - cuts_of s.branch) s.node sound.inside sound.lean;
    fits = node_fits s.branch s.node sound.fits;
    reaches = reaches_wide base s.branch s.node sound.fits sound.reaches;
    shows = λ bound few. (
      (λ shown. (sound.shows bound few).0 ((shows_wide bound s.branch s.node sound.shores).0 shown)),
      (λ less. (shows_wide bound s.branch s.node sound.shores).1 ((sound.shows bound few).1 less)),
    );
    enough = sound.enough;
  }

pub sound_wide : (c : Support) (base : Fraction) (more : List (List ℕ)) (branch : List Decision) (tree : Tree) (entries : List GrowingNode) →
    HoldsShores c → AreSound c base (stands branch tree) entries → AreSound (with_shores c more) base (stands branch tree) entries
sound_wide c base more branch tree entries shores sound = all_sound c (with_shores c more) base (node_sound c more shores base) (stands branch tree) entries sound
