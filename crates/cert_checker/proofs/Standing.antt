-- The nodes of a good certificate are as they should be.
use Rattle.std.proofs.Common.{◌≡◌, ℕ, ◌-◌, List, [], ◌∷◌, ◌++◌, refl, sym, ◌∙◌, subst, arith, append_assoc, append-nil, inr}
use Rattle.carp_base.specs.Problem.{Problem}
use Rattle.decision_chains.specs.declared.decision.Decision.{Decision}
use Rattle.decision_chains.specs.declared.decision.Decision.TheVariants.{Yes, No, Low, High}
use Rattle.decision_chains.specs.Exclusions.{same}
use Rattle.branch_rules.specs.Decisions.{cuts_of}
use Rattle.branch_rules.specs.Trees.{Support, Tree, pair, cut, price, void, fixed, preorder, IsLean, IsLeanNode, Shows, PairsIn}
use Rattle.branch_rules.specs.declared.node.Node.{Node}
use Rattle.branch_rules.specs.declared.node.Node.TheVariants as nodes
use Rattle.cert_lines.specs.Certificates.{Certificate}
use Rattle.cert_format.specs.Good.{IsGood, support_of}
use Rattle.cert_checker.specs.Nodes.{NodesStand}
use Rattle.cert_checker.proofs.Accepting.{cuts_more}

tree_nodes : (s : Support) (bound : ℕ) (branch : List Decision) (cuts : ℕ) (tree : Tree) (rest : List Node) (waiting : List (List Decision)) → cuts ≡ 4 - cuts_of branch →
    PairsIn s.problem tree → IsLean s branch cuts tree → Shows s branch bound tree → NodesStand s bound rest waiting → NodesStand s bound (preorder tree ++ rest) (branch ∷ waiting)
tree_nodes s bound branch cuts (pair a b together apart) rest waiting is pairs lean shows more =
    let after : List (List Decision) = (branch ++ Yes a b ∷ []) ∷ (branch ++ No a b ∷ []) ∷ waiting in
    let second = tree_nodes s bound (branch ++ No a b ∷ []) cuts apart rest waiting (omega (arith, is, cuts_more branch (No a b) 0 refl)) pairs.3 lean.2 shows.1 more in
    let first = tree_nodes s bound (branch ++ Yes a b ∷ []) cuts together (preorder apart ++ rest) ((branch ++ No a b ∷ []) ∷ waiting) (omega (arith, is, cuts_more branch (Yes a b) 0 refl)) pairs.2 lean.1 shows.0 second in (
      (
        record {
          a_from_one = pairs.0.from_one;
          a_in_range = pairs.0.in_range;
          b_from_one = pairs.1.from_one;
          b_in_range = pairs.1.in_range;
          different = λ equal. lean.0 (inr (same equal));
        },
        lean.0,
      ),
      subst (λ (xs : List Node). NodesStand s bound xs after) (sym (append_assoc (preorder together) (preorder apart) rest)) first,
    )
tree_nodes s bound branch cuts (cut border k below above) rest waiting is pairs lean shows more =
    let after : List (List Decision) = (branch ++ Low border k ∷ []) ∷ (branch ++ High border k ∷ []) ∷ waiting in
    let second = tree_nodes s bound (branch ++ High border k ∷ []) (cuts - 1) above rest waiting (omega (arith, is, cuts_more branch (High border k) 1 refl)) pairs.1 lean.2 shows.1 more in
    let first = tree_nodes s bound (branch ++ Low border k ∷ []) (cuts - 1) below (preorder above ++ rest) ((branch ++ High border k ∷ []) ∷ waiting) (omega (arith, is, cuts_more branch (Low border k) 1 refl)) pairs.0 lean.1 shows.0 second in
    (subst (λ n. IsLeanNode s.problem s.pool branch n (nodes.Cut border k)) is lean.0, subst (λ (xs : List Node). NodesStand s bound xs after) (sym (append_assoc (preorder below) (preorder above) rest)) first)
tree_nodes s bound branch cuts (price set) rest waiting is pairs lean shows more = (shows, more)
tree_nodes s bound branch cuts void rest waiting is pairs lean shows more = (shows, more)
tree_nodes s bound branch cuts fixed rest waiting is pairs lean shows more = (shows, more)

pub good_stands : (p : Problem) (c : Certificate) → IsGood p c → NodesStand (support_of p c) c.bound c.nodes ([] ∷ [])
good_stands p c good =
    subst (λ (xs : List Node). NodesStand (support_of p c) c.bound xs ([] ∷ [])) (append-nil (preorder good.tree) ∙ good.nodes)
    (tree_nodes (support_of p c) c.bound [] 4 good.tree [] [] refl good.pairs good.lean good.shows tt)
