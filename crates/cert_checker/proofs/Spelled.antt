-- What a certificate that can be spelled has: its weights are on its shores, its nodes name its shores and its sets, and they fill one tree.
use Rattle.std.proofs.Common.{◌≡◌, ℕ, ◌+◌, List, [], ◌++◌, length, refl, sym, ap, subst, arith, append_assoc, append-nil}
use Rattle.std.specs.List.{All}
use Rattle.std.proofs.lemmas.List.Elements.{All-weaker}
use Rattle.cut_pool.specs.Pools.{IsShoreNumber}
use Rattle.branch_rules.specs.Prices.{Prices}
use Rattle.branch_rules.specs.Trees.{Support, Tree, pair, cut, price, void, fixed, preorder}
use Rattle.branch_rules.specs.declared.node.Node.{Node}
use Rattle.branch_rules.specs.declared.node.Node.TheVariants as tree
use Rattle.branch_rules.specs.declared.weight.Weight.{Weight}
use Rattle.cert_lines.specs.Certificates.{Certificate}
use Rattle.cert_lines.specs.Laws.{SpellableIsFine}
use Rattle.cert_lines.specs.Order.{open_after}
use Rattle.cert_lines.specs.Ranges.{IsNodeInRange}
use Rattle.cert_lines.specs.Spelling.{IsFineNode, IsFineSet, IsSpellable}
use Rattle.cert_checker.specs.Claims.{IsSetRead, IsNodeRead}
use Rattle.cert_checker.specs.Walks.{Fills}

-- the nodes of a tree fill one subtree, and leave the others to the nodes behind them
fills_first : (shape : Tree) (rest : List Node) (n m : ℕ) → m ≡ n + 1 → Fills rest n → Fills (preorder shape ++ rest) m
fills_first (pair a b t u) rest n m is fills = (
  omega (arith, is),
  subst (λ (xs : List Node). Fills xs (open_after m (tree.Pair a b))) (sym (append_assoc (preorder t) (preorder u) rest))
      (fills_first t (preorder u ++ rest) (n + 1) (open_after m (tree.Pair a b)) (omega (arith, is)) (fills_first u rest n (n + 1) refl fills)),
)
fills_first (cut border k t u) rest n m is fills = (
  omega (arith, is),
  subst (λ (xs : List Node). Fills xs (open_after m (tree.Cut border k))) (sym (append_assoc (preorder t) (preorder u) rest))
      (fills_first t (preorder u ++ rest) (n + 1) (open_after m (tree.Cut border k)) (omega (arith, is)) (fills_first u rest n (n + 1) refl fills)),
)
fills_first (price set) rest n m is fills = (omega (arith, is), subst (Fills rest) (omega (arith, is)) fills)
fills_first void rest n m is fills = (omega (arith, is), subst (Fills rest) (omega (arith, is)) fills)
fills_first fixed rest n m is fills = (omega (arith, is), subst (Fills rest) (omega (arith, is)) fills)

tree_fills : (shape : Tree) → Fills (preorder shape) 1
tree_fills shape = subst (λ (xs : List Node). Fills xs 1) (append-nil (preorder shape)) (fills_first shape [] 0 1 refl refl)

pub node_read : (s : Support) (borders units : ℕ) (x : Node) → borders ≡ length s.pool → units ≡ length s.sets → IsNodeInRange borders units x → IsNodeRead s x
node_read s borders units (tree.Pair a b) pool_long sets_long fine = tt
node_read s borders units (tree.Cut border k) pool_long sets_long fine = (record { from_one = fine.0.from_first; in_range = omega (arith, fine.0.to_last, pool_long) }, fine.1)
node_read s borders units (tree.Price set) pool_long sets_long fine = record { from_one = fine.from_first; in_range = omega (arith, fine.to_last, sets_long) }
node_read s borders units tree.Void pool_long sets_long fine = tt
node_read s borders units tree.Fixed pool_long sets_long fine = tt

node_in_range : (borders units : ℕ) (x : Node) → IsFineNode borders units x → IsNodeInRange borders units x
node_in_range borders units (tree.Pair a b) fine =
    (record { from_first = fine.0; to_last = omega (arith, fine.1, fine.2) }, record { from_first = omega (arith, fine.0, fine.1); to_last = fine.2 })
node_in_range borders units (tree.Cut border k) fine = fine
node_in_range borders units (tree.Price set) fine = fine
node_in_range borders units tree.Void fine = tt
node_in_range borders units tree.Fixed fine = tt

set_read : (s : Support) (pool : List (List ℕ)) (set : Prices) → s.pool ≡ pool → IsFineSet pool set → IsSetRead s set
set_read s pool set is fine = subst (λ (shores : List (List ℕ)). All (λ (w : Weight). IsShoreNumber shores w.shore) set.weights) (sym is) fine.shores

pub record IsSpelled (s : Support) (all : List Node) : Type 0 where
  pub sets_read : All (IsSetRead s) s.sets
  pub read : All (IsNodeRead s) all
  pub whole : Fills all 1

pub spelled_is : SpellableIsFine → (s : Support) (c : Certificate) → s.pool ≡ c.shores → s.sets ≡ c.sets → IsSpellable c → IsSpelled s c.nodes
spelled_is law s c pool_is sets_is spelled =
    let fine = law c spelled in
    record {
      sets_read = subst (All (IsSetRead s)) (sym sets_is)
          (All-weaker (IsFineSet c.shores) (IsSetRead s) (λ set one. set_read s c.shores set pool_is one) c.sets fine.sets_fine);
      read = All-weaker (IsFineNode (length c.shores) (length c.sets)) (IsNodeRead s)
          (λ x one. node_read s (length c.shores) (length c.sets) x (ap length (sym pool_is)) (ap length (sym sets_is)) (node_in_range (length c.shores) (length c.sets) x one))
          c.nodes fine.nodes_fine;
      whole = subst (λ (xs : List Node). Fills xs 1) (sym fine.in_preorder) (tree_fills fine.tree);
    }
