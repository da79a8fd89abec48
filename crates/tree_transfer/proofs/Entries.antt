-- The nodes of a tree, noted one after another.
use Rattle.std.proofs.Common.{◌≡◌, ℕ, ◌+◌, ◌≤◌, ◌<◌, List, [], ◌∷◌, ◌++◌, length, drop, refl, sym, ap, ◌∙◌, subst, arith, append_assoc, append-nil, length-drop}
use Rattle.std.proofs.lemmas.List.{drop_more}
use Rattle.decision_chains.specs.declared.decision.Decision.{Decision}
use Rattle.decision_chains.specs.declared.decision.Decision.TheVariants.{Yes, No, Low, High}
use Rattle.branch_rules.specs.Trees.{Tree, pair, cut, price, void, fixed, Support, node_at, preorder}
use Rattle.branch_rules.specs.declared.node.Node.{Node}
use Rattle.branch_rules.specs.declared.node.Node.TheVariants as nodes
use Rattle.grown_trees.specs.Growth.{AreNoted, IsNotedNode, ShowsUpTo}
use Rattle.grown_trees.specs.Stands.{Stand, stands}
use Rattle.grown_trees.specs.declared.growing.GrowingNode.{GrowingNode}
use Rattle.branch_rules.specs.Paths.{IsOpen, IsPath, IsPathIn, branch_of, seconds_of, waits}
use Rattle.branch_rules.specs.Waiting.{waiting_after}
use Rattle.branch_rules.specs.declared.path.Path.{Path}
use Rattle.tree_transfer.specs.Bounding.{NodeWouldShow, NodeWouldShowSome, NodesWouldShow}
use Rattle.tree_transfer.specs.Noting.{AreAllNoted, IsNoting, NotesAt, stands_of}
use Rattle.tree_transfer.specs.Shown.{AreNotedNodes, WouldShowSome}
use Rattle.tree_transfer.proofs.Moving.{is_open, waits_open}
use Rattle.tree_transfer.proofs.Nodes.{would_some, would_tree}

abbrev At : List Decision → Node → Stand
At branch node = record { branch = branch; node = node }

stands_on : (tree : Tree) (branch : List Decision) (rest : List Node) (waiting : List (List Decision)) → stands_of (preorder tree ++ rest) (branch ∷ waiting) ≡ stands branch tree ++ stands_of rest waiting
stands_on (pair a b t u) branch rest waiting =
    let one = branch ++ Yes a b ∷ [] in
    let other = branch ++ No a b ∷ [] in
    ap (λ (ss : List Stand). At branch (nodes.Pair a b) ∷ ss)
    (ap (λ (xs : List Node). stands_of xs (one ∷ (other ∷ waiting))) (append_assoc (preorder t) (preorder u) rest)
    ∙ stands_on t one (preorder u ++ rest) (other ∷ waiting)
    ∙ ap (λ (ss : List Stand). stands one t ++ ss) (stands_on u other rest waiting)
    ∙ sym (append_assoc (stands one t) (stands other u) (stands_of rest waiting)))
stands_on (cut shore k t u) branch rest waiting =
    let one = branch ++ Low shore k ∷ [] in
    let other = branch ++ High shore k ∷ [] in
    ap (λ (ss : List Stand). At branch (nodes.Cut shore k) ∷ ss)
    (ap (λ (xs : List Node). stands_of xs (one ∷ (other ∷ waiting))) (append_assoc (preorder t) (preorder u) rest)
    ∙ stands_on t one (preorder u ++ rest) (other ∷ waiting)
    ∙ ap (λ (ss : List Stand). stands one t ++ ss) (stands_on u other rest waiting)
    ∙ sym (append_assoc (stands one t) (stands other u) (stands_of rest waiting)))
stands_on (price set) branch rest waiting = refl
stands_on void branch rest waiting = refl
stands_on fixed branch rest waiting = refl

stands_all : (tree : Tree) (all : List Node) → preorder tree ≡ all → stands_of all ([] ∷ []) ≡ stands [] tree
stands_all tree all is =
    ap (λ (xs : List Node). stands_of xs ([] ∷ [])) (sym is ∙ sym (append-nil (preorder tree))) ∙ stands_on tree [] [] [] ∙ append-nil (stands [] tree)

-- all nodes of a tree are noted
pub tree_noted : (c : Support) (all : List Node) (entries : List GrowingNode) → AreAllNoted c all entries → AreNotedNodes c all entries
tree_noted c all entries noted = λ tree is. subst (λ (ss : List Stand). AreNoted c ss entries) (stands_all tree all is) noted

noted_push : (c : Support) (ss : List Stand) (es : List GrowingNode) (s : Stand) (e : GrowingNode) → AreNoted c ss es → IsNotedNode c s e → AreNoted c (ss ++ s ∷ []) (es ++ e ∷ [])
noted_push c [] [] s e all one = (one, tt)
noted_push c [] (x ∷ es) s e all one = absurd all
noted_push c (x ∷ ss) [] s e all one = absurd all
noted_push c (x ∷ ss) (y ∷ es) s e all one = (all.0, noted_push c ss es s e all.1 one)

none_left : (rest : List Node) (waiting : List (List Decision)) → length rest ≡ 0 → stands_of rest waiting ≡ []
none_left [] waiting none = refl
none_left (node ∷ rest) waiting none = absurd (omega (arith, none))

module _ (c : Support) (all : List Node) where
  -- before the first node
  pub notes_none : (path : Path) (entries : List GrowingNode) → entries ≡ [] → WouldShowSome c all → IsPath path → IsPathIn c path → waits path ≡ [] ∷ [] → NotesAt c all 0 path entries
  notes_none path entries none would is_path path_in waits_are = record {
    is_path = is_path;
    path_in = path_in;
    noting = subst (λ (w : List (List Decision)). IsNoting c all 0 w entries) (sym waits_are) (subst (IsNoting c all 0 ([] ∷ [])) (sym none) (record {
      some = (would.bound, would_tree c would.bound would.tree all would.in_preorder would.shows);
      before = [];
      noted = tt;
      stands_are = refl;
    }));
  }

  -- past the last node
  pub notes_all : (place : ℕ) (path : Path) (entries : List GrowingNode) → length all ≤ place → NotesAt c all place path entries → AreAllNoted c all entries
  notes_all place path entries end x =
      let n = x.noting in
      let none : length (drop place all) ≡ 0 = omega (arith, end, length-drop place all) in
      let same : stands_of all ([] ∷ []) ≡ n.before =
      n.stands_are ∙ ap (λ (ss : List Stand). n.before ++ ss) (none_left (drop place all) (waits path) none) ∙ append-nil n.before in
      subst (λ (ss : List Stand). AreNoted c ss entries) (sym same) n.noted

  module _ (place : ℕ) (path : Path) (entries : List GrowingNode) (x : NotesAt c all place path entries) (less : place < length all) where
    here : drop place all ≡ node_at all place ∷ drop (place + 1) all
    here = drop_more all place nodes.Void less

    pub note_goes : IsOpen path
    note_goes =
        let some = x.noting.some in
        is_open path (would_some c some.0 (node_at all place) (drop (place + 1) all) (waits path) (subst (λ (xs : List Node). NodesWouldShow c some.0 xs (waits path)) here some.1))

    waiting : IsNoting c all place (branch_of path ∷ seconds_of path) entries
    waiting = subst (λ (w : List (List Decision)). IsNoting c all place w entries) (waits_open path note_goes) x.noting

    would_here : NodesWouldShow c waiting.some.0 (node_at all place ∷ drop (place + 1) all) (branch_of path ∷ seconds_of path)
    would_here = subst (λ (xs : List Node). NodesWouldShow c waiting.some.0 xs (branch_of path ∷ seconds_of path)) here waiting.some.1

    pub note_some : (branch : List Decision) (node : Node) → branch ≡ branch_of path → node ≡ node_at all place → NodeWouldShowSome c branch node
    note_some branch node branch_is node_is =
        let there : NodeWouldShow c waiting.some.0 branch (node_at all place) = subst (λ (b : List Decision). NodeWouldShow c waiting.some.0 b (node_at all place)) (sym branch_is) would_here.0 in
        (waiting.some.0, subst (NodeWouldShow c waiting.some.0 branch) (sym node_is) there)

    notes_here : (after : Path) (most : ℕ) → ShowsUpTo c (At (branch_of path) (node_at all place)) most →
        IsPath after → IsPathIn c after → waits after ≡ waiting_after (branch_of path) (node_at all place) (seconds_of path) →
        NotesAt c all (place + 1) after (entries ++ record { node = node_at all place; shows = most } ∷ [])
    notes_here after most up_to is_path path_in waits_after =
        let node = node_at all place in
        let branch = branch_of path in
        let rest = drop (place + 1) all in
        let next = entries ++ record { node = node; shows = most } ∷ [] in
        record {
          is_path = is_path;
          path_in = path_in;
          noting = subst (λ (w : List (List Decision)). IsNoting c all (place + 1) w next) (sym waits_after) (record {
            some = (waiting.some.0, would_here.1);
            before = waiting.before ++ At branch node ∷ [];
            noted = noted_push c waiting.before entries (At branch node) (record { node = node; shows = most }) waiting.noted
                (record { same = refl; pairs = x.path_in.pairs; shores = x.path_in.shores; shows = up_to });
            stands_are =
                waiting.stands_are
                ∙ ap (λ (xs : List Node). waiting.before ++ stands_of xs (branch ∷ seconds_of path)) here
                ∙ sym (append_assoc waiting.before (At branch node ∷ []) (stands_of rest (waiting_after branch node (seconds_of path))));
          });
        }

    pub notes_on : (after : Path) (branch : List Decision) (node : Node) (most : ℕ) → branch ≡ branch_of path → node ≡ node_at all place →
        ShowsUpTo c (record { branch = branch; node = node }) most →
        IsPath after → IsPathIn c after → waits after ≡ waiting_after (branch_of path) node (seconds_of path) →
        NotesAt c all (place + 1) after (entries ++ record { node = node; shows = most } ∷ [])
    notes_on after branch node most branch_is node_is up_to is_path path_in waits_after =
        let there : ShowsUpTo c (record { branch = branch; node = node_at all place }) most = subst (λ (n : Node). ShowsUpTo c (record { branch = branch; node = n }) most) node_is up_to in
        subst (λ (n : Node). NotesAt c all (place + 1) after (entries ++ record { node = n; shows = most } ∷ [])) (sym node_is)
        (notes_here after most
        (subst (λ (b : List Decision). ShowsUpTo c (record { branch = b; node = node_at all place }) most) branch_is there)
        is_path path_in
        (subst (λ (n : Node). waits after ≡ waiting_after (branch_of path) n (seconds_of path)) node_is waits_after))
