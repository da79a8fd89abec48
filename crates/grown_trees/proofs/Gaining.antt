-- A support that gains price sets leaves each node sound.
use Rattle.std.proofs.Common.{◌≡◌, ℕ, zero, suc, ◌≤◌, ◌↔◌, List, ◌++◌, length, refl, sym, subst, arith, pos, ◌*ℤ◌, ◌≤ℤ◌, length-append}
use Rattle.std.proofs.lemmas.List.{get_or_append_left}
use Rattle.decision_chains.specs.declared.decision.Decision.{Decision}
use Rattle.branch_rules.specs.declared.node.Node.{Node}
use Rattle.branch_rules.specs.declared.node.Node.TheVariants as nodes
use Rattle.branch_rules.specs.Decisions.{rules_of}
use Rattle.branch_rules.specs.Laws.{FitsBranch}
use Rattle.branch_rules.specs.Prices.{Prices, value_of}
use Rattle.branch_rules.specs.Trees.{Tree, Support, no_prices, set_at, PricesShow, PriceShows, FixedShows}
use Rattle.grown_trees.specs.Growth.{Fraction, IsSpelledNode, NodeReaches, IsSoundNode, AreSound}
use Rattle.grown_trees.specs.Stands.{Stand, stands, NodeFits, NodeShows, with_sets}
use Rattle.grown_trees.specs.declared.growing.GrowingNode.{GrowingNode}
use Rattle.grown_trees.proofs.Sound.{all_sound}

module _ (c : Support) (more : List Prices) where
  set_more : (k : ℕ) → k ≤ length c.sets → set_at (with_sets c more) k ≡ set_at c k
  set_more zero most = refl
  set_more (suc j) most = get_or_append_left c.sets more no_prices j (omega (arith, most))

  most_more : (k : ℕ) → k ≤ length c.sets → k ≤ length (c.sets ++ more)
  most_more k most = omega (arith, most, length-append c.sets more)

  price_to : (branch : List Decision) (bound k : ℕ) → PriceShows c branch bound k → PriceShows (with_sets c more) branch bound k
  price_to branch bound k shown =
      let again : PricesShow (with_sets c more) branch (set_at c k) bound = record { fits = shown.2.fits; above = shown.2.above } in
      (shown.0, most_more k shown.1, subst (λ (set : Prices). PricesShow (with_sets c more) branch set bound) (sym (set_more k shown.1)) again)

  price_from : (branch : List Decision) (bound k : ℕ) → k ≤ length c.sets → PriceShows (with_sets c more) branch bound k → PriceShows c branch bound k
  price_from branch bound k most shown =
      let again : PricesShow c branch (set_at (with_sets c more) k) bound = record { fits = shown.2.fits; above = shown.2.above } in
      (shown.0, most, subst (λ (set : Prices). PricesShow c branch set bound) (set_more k most) again)

  fixed_to : (branch : List Decision) (bound : ℕ) → FixedShows c branch bound → FixedShows (with_sets c more) branch bound
  fixed_to branch bound shown = record { settled = shown.settled; value = shown.value; fixed = shown.fixed; enough = shown.enough }

  fixed_from : (branch : List Decision) (bound : ℕ) → FixedShows (with_sets c more) branch bound → FixedShows c branch bound
  fixed_from branch bound shown = record { settled = shown.settled; value = shown.value; fixed = shown.fixed; enough = shown.enough }

  fits_more : (branch : List Decision) (node : Node) → NodeFits c branch node → NodeFits (with_sets c more) branch node
  fits_more branch (nodes.Pair a b) fits = tt
  fits_more branch (nodes.Cut shore k) fits = tt
  fits_more branch (nodes.Price k) fits =
      (fits.0, most_more k fits.1, subst (λ (set : Prices). FitsBranch c.problem c.pool branch set) (sym (set_more k fits.1)) fits.2)
  fits_more branch nodes.Void fits = tt
  fits_more branch nodes.Fixed fits = tt

  spelled_more : (node : Node) → IsSpelledNode (length c.sets) node → IsSpelledNode (length (c.sets ++ more)) node
  spelled_more (nodes.Pair a b) spelled = spelled
  spelled_more (nodes.Cut shore k) spelled = spelled
  spelled_more (nodes.Price k) spelled = (spelled.0, most_more k spelled.1)
  spelled_more nodes.Void spelled = tt
  spelled_more nodes.Fixed spelled = tt

  reaches_more : (base : Fraction) (branch : List Decision) (node : Node) → NodeFits c branch node → NodeReaches c base branch node → NodeReaches (with_sets c more) base branch node
  reaches_more base branch (nodes.Pair a b) fits reaches = tt
  reaches_more base branch (nodes.Cut shore k) fits reaches = tt
  reaches_more base branch (nodes.Price k) fits reaches =
      subst (λ (set : Prices). (pos set.unit *ℤ base.value) ≤ℤ (pos base.unit *ℤ value_of (rules_of c.problem c.pool branch) set)) (sym (set_more k fits.1)) reaches
  reaches_more base branch nodes.Void fits reaches = tt
  reaches_more base branch nodes.Fixed fits reaches = tt

  shows_more : (bound : ℕ) (branch : List Decision) (node : Node) → NodeFits c branch node → NodeShows (with_sets c more) bound branch node ↔ NodeShows c bound branch node
  shows_more bound branch (nodes.Pair a b) fits = ((λ shown. tt), (λ shown. tt))
  shows_more bound branch (nodes.Cut shore k) fits = ((λ shown. tt), (λ shown. tt))
  shows_more bound branch (nodes.Price k) fits = (price_from branch bound k fits.1, price_to branch bound k)
  shows_more bound branch nodes.Void fits = ((λ shown. shown), (λ shown. shown))
  shows_more bound branch nodes.Fixed fits = (fixed_from branch bound, fixed_to branch bound)

  node_sound : (base : Fraction) (s : Stand) (e : GrowingNode) → IsSoundNode c base s e → IsSoundNode (with_sets c more) base s e
  node_sound base s e sound = record {
    same = sound.same;
    pairs = sound.pairs;
    shores = sound.shores;
    inside = sound.inside;
    fine = sound.fine;
    spelled = spelled_more s.node sound.spelled;
    lean = sound.lean;
    fits = fits_more s.branch s.node sound.fits;
    reaches = reaches_more base s.branch s.node sound.fits sound.reaches;
    shows = λ bound few. (
      (λ shown. (sound.shows bound few).0 ((shows_more bound s.branch s.node sound.fits).0 shown)),
      (λ less. (shows_more bound s.branch s.node sound.fits).1 ((sound.shows bound few).1 less)),
    );
    enough = sound.enough;
  }

pub sound_more : (c : Support) (base : Fraction) (more : List Prices) (branch : List Decision) (tree : Tree) (entries : List GrowingNode) →
    AreSound c base (stands branch tree) entries → AreSound (with_sets c more) base (stands branch tree) entries
sound_more c base more branch tree entries sound = all_sound c (with_sets c more) base (node_sound c more base) (stands branch tree) entries sound
