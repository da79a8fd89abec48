-- What nodes show, one after another.
use Rattle.std.proofs.Common.{◌≡◌, ℕ, ◌+◌, ◌^◌, ◌≤◌, ◌<◌, List, [], ◌∷◌, ◌++◌, length, drop, min, sym, ◌∙◌, subst, arith, append_assoc, append-nil, length-drop}
use Rattle.std.proofs.lemmas.List.{drop_more}
use Rattle.carp_base.specs.Problem.{Problem}
use Rattle.decision_chains.specs.declared.decision.Decision.{Decision}
use Rattle.decision_chains.specs.declared.decision.Decision.TheVariants.{Yes, No, Low, High}
use Rattle.branch_rules.specs.Laws.{NodesShowTree}
use Rattle.branch_rules.specs.Trees.{Tree, pair, cut, price, void, fixed, Support, NodesShow, node_at, preorder}
use Rattle.branch_rules.specs.declared.node.Node.{Node}
use Rattle.branch_rules.specs.declared.node.Node.TheVariants as nodes
use Rattle.tree_transfer.specs.Carried.{WouldShow}
use Rattle.grown_trees.specs.Growth.{ShowsUpTo}
use Rattle.grown_trees.specs.Stands.{NodeShows}
use Rattle.branch_rules.specs.Paths.{IsOpen, IsPath, IsPathIn, branch_of, seconds_of, waits}
use Rattle.branch_rules.specs.Waiting.{waiting_after}
use Rattle.branch_rules.specs.declared.path.Path.{Path}
use Rattle.tree_transfer.specs.Bounding.{BoundsAt, IsBounding, IsLeastShown, NodeHasValue, NodeWouldShow, NodeWouldShowSome, NodesHaveValues, NodesWouldShow}
use Rattle.tree_transfer.specs.Shown.{IsGreatestShown, WouldShowSome}
use Rattle.tree_transfer.proofs.Moving.{is_open, waits_open}

module _ (c : Support) (bound : ℕ) where
  show_first : (node : Node) (rest : List Node) (branch : List Decision) (waiting : List (List Decision)) →
      NodesShow c bound (node ∷ rest) (branch ∷ waiting) → NodeShows c bound branch node × NodesShow c bound rest (waiting_after branch node waiting)
  show_first (nodes.Pair a b) rest branch waiting shows = (tt, shows)
  show_first (nodes.Cut shore k) rest branch waiting shows = (tt, shows)
  show_first (nodes.Price set) rest branch waiting shows = shows
  show_first nodes.Void rest branch waiting shows = shows
  show_first nodes.Fixed rest branch waiting shows = shows

  show_both : (node : Node) (rest : List Node) (branch : List Decision) (waiting : List (List Decision)) →
      NodeShows c bound branch node → NodesShow c bound rest (waiting_after branch node waiting) → NodesShow c bound (node ∷ rest) (branch ∷ waiting)
  show_both (nodes.Pair a b) rest branch waiting here later = later
  show_both (nodes.Cut shore k) rest branch waiting here later = later
  show_both (nodes.Price set) rest branch waiting here later = (here, later)
  show_both nodes.Void rest branch waiting here later = (here, later)
  show_both nodes.Fixed rest branch waiting here later = (here, later)

  -- where fixed leaves have values, what would be shown is shown
  show_here : (node : Node) (branch : List Decision) → NodeWouldShow c bound branch node → NodeHasValue c.problem branch node → NodeShows c bound branch node
  show_here (nodes.Pair a b) branch would value = tt
  show_here (nodes.Cut shore k) branch would value = tt
  show_here (nodes.Price set) branch would value = would
  show_here nodes.Void branch would value = would
  show_here nodes.Fixed branch would value = record { settled = would.settled; value = value.0; fixed = value.1; enough = would.enough value.0 value.1 }

  show_all : (all : List Node) (waiting : List (List Decision)) → NodesWouldShow c bound all waiting → NodesHaveValues c.problem all waiting → NodesShow c bound all waiting
  show_all [] [] would values = tt
  show_all [] (branch ∷ waiting) would values = absurd would
  show_all (node ∷ rest) [] would values = absurd would
  show_all (node ∷ rest) (branch ∷ waiting) would values =
      show_both node rest branch waiting (show_here node branch would.0 values.0) (show_all rest (waiting_after branch node waiting) would.1 values.1)

  -- the nodes of a tree would show what the tree would
  would_nodes : (tree : Tree) (branch : List Decision) (rest : List Node) (waiting : List (List Decision)) → WouldShow c branch bound tree → NodesWouldShow c bound rest waiting →
      NodesWouldShow c bound (preorder tree ++ rest) (branch ∷ waiting)
  would_nodes (pair a b t u) branch rest waiting would later =
      let second = would_nodes u (branch ++ No a b ∷ []) rest waiting would.1 later in
      let first = would_nodes t (branch ++ Yes a b ∷ []) (preorder u ++ rest) ((branch ++ No a b ∷ []) ∷ waiting) would.0 second in
      (tt, subst (λ (xs : List Node). NodesWouldShow c bound xs ((branch ++ Yes a b ∷ []) ∷ ((branch ++ No a b ∷ []) ∷ waiting))) (sym (append_assoc (preorder t) (preorder u) rest)) first)
  would_nodes (cut shore k t u) branch rest waiting would later =
      let second = would_nodes u (branch ++ High shore k ∷ []) rest waiting would.1 later in
      let first = would_nodes t (branch ++ Low shore k ∷ []) (preorder u ++ rest) ((branch ++ High shore k ∷ []) ∷ waiting) would.0 second in
      (tt, subst (λ (xs : List Node). NodesWouldShow c bound xs ((branch ++ Low shore k ∷ []) ∷ ((branch ++ High shore k ∷ []) ∷ waiting))) (sym (append_assoc (preorder t) (preorder u) rest)) first)
  would_nodes (price set) branch rest waiting would later = (would, later)
  would_nodes void branch rest waiting would later = (would, later)
  would_nodes fixed branch rest waiting would later = (would, later)

  pub would_tree : (tree : Tree) (all : List Node) → preorder tree ≡ all → WouldShow c [] bound tree → NodesWouldShow c bound all ([] ∷ [])
  would_tree tree all is would =
      subst (λ (xs : List Node). NodesWouldShow c bound xs ([] ∷ [])) (append-nil (preorder tree) ∙ is) (would_nodes tree [] [] [] would tt)

  pub would_some : (node : Node) (rest : List Node) (waiting : List (List Decision)) → NodesWouldShow c bound (node ∷ rest) waiting → 1 ≤ length waiting
  would_some node rest [] would = absurd would
  would_some node rest (branch ∷ waiting) would = omega arith

  -- where no node is left, no branch waits
  show_none : (all : List Node) (waiting : List (List Decision)) → length all ≡ 0 → NodesWouldShow c bound all waiting → (other : ℕ) → NodesShow c other all waiting
  show_none [] [] none would other = tt
  show_none [] (branch ∷ waiting) none would other = absurd would
  show_none (node ∷ rest) waiting none would other = absurd (omega (arith, none))

values_none : (p : Problem) (all : List Node) (waiting : List (List Decision)) → length all ≡ 0 → NodesHaveValues p all waiting
values_none p [] waiting none = tt
values_none p (node ∷ rest) waiting none = absurd (omega (arith, none))

module _ (c : Support) (all : List Node) where
  -- before the first node
  pub bounds_none : (path : Path) → WouldShowSome c all → IsPath path → IsPathIn c path → waits path ≡ [] ∷ [] → BoundsAt c all 0 path 18446744073709551615
  bounds_none path would is_path path_in waits_are = record {
    is_path = is_path;
    path_in = path_in;
    bounding = subst (λ (w : List (List Decision)). IsBounding c all 0 w 18446744073709551615) (sym waits_are) (record {
      shown = λ bound small. (λ shows. (omega (arith, small), shows), λ shows. shows.1);
      some = (would.bound, would_tree c would.bound would.tree all would.in_preorder would.shows);
      values = λ values. values;
    });
  }

  -- past the last node
  pub bounds_all : (place : ℕ) (path : Path) (least : ℕ) → length all ≤ place → BoundsAt c all place path least → IsLeastShown c all least
  bounds_all place path least end x =
      let b = x.bounding in
      let none : length (drop place all) ≡ 0 = omega (arith, end, length-drop place all) in
      record {
        shown = λ bound small. (
          λ shows. ((b.shown bound small).0 shows).0,
          λ within. (b.shown bound small).1 (within, show_none c b.some.0 (drop place all) (waits path) none b.some.1 bound),
        );
        values = b.values (values_none c.problem (drop place all) (waits path) none);
      }

  module _ (place : ℕ) (path : Path) (least : ℕ) (x : BoundsAt c all place path least) (less : place < length all) where
    here : drop place all ≡ node_at all place ∷ drop (place + 1) all
    here = drop_more all place nodes.Void less

    pub bound_goes : IsOpen path
    bound_goes =
        let some = x.bounding.some in
        is_open path (would_some c some.0 (node_at all place) (drop (place + 1) all) (waits path) (subst (λ (xs : List Node). NodesWouldShow c some.0 xs (waits path)) here some.1))

    waiting : IsBounding c all place (branch_of path ∷ seconds_of path) least
    waiting = subst (λ (w : List (List Decision)). IsBounding c all place w least) (waits_open path bound_goes) x.bounding

    would_here : NodesWouldShow c waiting.some.0 (node_at all place ∷ drop (place + 1) all) (branch_of path ∷ seconds_of path)
    would_here = subst (λ (xs : List Node). NodesWouldShow c waiting.some.0 xs (branch_of path ∷ seconds_of path)) here waiting.some.1

    pub shows_some : (branch : List Decision) (node : Node) → branch ≡ branch_of path → node ≡ node_at all place → NodeWouldShowSome c branch node
    shows_some branch node branch_is node_is =
        let there : NodeWouldShow c waiting.some.0 branch (node_at all place) = subst (λ (b : List Decision). NodeWouldShow c waiting.some.0 b (node_at all place)) (sym branch_is) would_here.0 in
        (waiting.some.0, subst (NodeWouldShow c waiting.some.0 branch) (sym node_is) there)

    bounds_here : (after : Path) (most next : ℕ) → ShowsUpTo c (record { branch = branch_of path; node = node_at all place }) most → NodeHasValue c.problem (branch_of path) (node_at all place) →
        IsPath after → IsPathIn c after → waits after ≡ waiting_after (branch_of path) (node_at all place) (seconds_of path) → next ≡ min least most → BoundsAt c all (place + 1) after next
    bounds_here after most next up_to value is_path path_in waits_after next_is =
        let node = node_at all place in
        let branch = branch_of path in
        let later = seconds_of path in
        let rest = drop (place + 1) all in
        record {
          is_path = is_path;
          path_in = path_in;
          bounding = subst (λ (w : List (List Decision)). IsBounding c all (place + 1) w next) (sym waits_after) (record {
            shown = λ bound small. (
              λ shows.
                  let so_far = (waiting.shown bound small).0 shows in
                  let both = show_first c bound node rest branch later (subst (λ (xs : List Node). NodesShow c bound xs (branch ∷ later)) here so_far.1) in
                  (omega (arith, next_is, so_far.0, (up_to bound small).0 both.0), both.1),
              λ within.
                  let shows : NodeShows c bound branch node = (up_to bound small).1 (omega (arith, next_is, within.0)) in
                  let both : NodesShow c bound (drop place all) (branch ∷ later) =
                  subst (λ (xs : List Node). NodesShow c bound xs (branch ∷ later)) (sym here) (show_both c bound node rest branch later shows within.1) in
                  (waiting.shown bound small).1 (omega (arith, next_is, within.0), both),
            );
            some = (waiting.some.0, would_here.1);
            values = λ values. waiting.values (subst (λ (xs : List Node). NodesHaveValues c.problem xs (branch ∷ later)) (sym here) (value, values));
          });
        }

    pub bounds_on : (after : Path) (branch : List Decision) (node : Node) (most next : ℕ) → branch ≡ branch_of path → node ≡ node_at all place →
        ShowsUpTo c (record { branch = branch; node = node }) most → NodeHasValue c.problem branch node →
        IsPath after → IsPathIn c after → waits after ≡ waiting_after (branch_of path) node (seconds_of path) → next ≡ min least most → BoundsAt c all (place + 1) after next
    bounds_on after branch node most next branch_is node_is up_to value is_path path_in waits_after next_is =
        let there : ShowsUpTo c (record { branch = branch; node = node_at all place }) most = subst (λ (n : Node). ShowsUpTo c (record { branch = branch; node = n }) most) node_is up_to in
        bounds_here after most next
        (subst (λ (b : List Decision). ShowsUpTo c (record { branch = b; node = node_at all place }) most) branch_is there)
        (subst (λ (b : List Decision). NodeHasValue c.problem b (node_at all place)) branch_is (subst (NodeHasValue c.problem branch) node_is value))
        is_path path_in
        (subst (λ (n : Node). waits after ≡ waiting_after (branch_of path) n (seconds_of path)) node_is waits_after)
        next_is

-- the greatest bound of the tree
pub greatest : NodesShowTree → (c : Support) (all : List Node) (cost least bound : ℕ) → cost < 10 ^ 18 → IsLeastShown c all least → bound ≡ min cost least → IsGreatestShown c cost all bound
greatest law c all cost least bound small is bound_is = record {
  at_most = omega (arith, bound_is);
  shows = λ tree b nodes_are within. (
    λ shows.
        let nodes_show : NodesShow c b all ([] ∷ []) = subst (λ (xs : List Node). NodesShow c b xs ([] ∷ [])) nodes_are ((law c b tree).1 shows) in
        let no_more : b ≤ least = (is.shown b (omega (arith, within, small))).0 nodes_show in
        omega (arith, bound_is, within, no_more),
    λ no_more.
        let nodes_show : NodesShow c b all ([] ∷ []) = (is.shown b (omega (arith, within, small))).1 (omega (arith, bound_is, no_more)) in
        (law c b tree).0 (subst (λ (xs : List Node). NodesShow c b xs ([] ∷ [])) (sym nodes_are) nodes_show),
  );
  values = λ tree b nodes_are would.
      let nodes_show : NodesShow c b all ([] ∷ []) = show_all c b all ([] ∷ []) (would_tree c b tree all nodes_are would) is.values in
      (law c b tree).0 (subst (λ (xs : List Node). NodesShow c b xs ([] ∷ [])) (sym nodes_are) nodes_show);
}
