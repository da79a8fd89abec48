-- A tree is determined by its nodes in preorder.
use Rattle.std.proofs.Common.{◌≡◌, List, [], ◌++◌, append_assoc, refl, sym, ap, ◌∙◌}
use Rattle.branch_rules.specs.Trees.{Tree, pair, cut, price, void, fixed, preorder}
use Rattle.branch_rules.specs.declared.node.Node.{Node}

-- so are the nodes that follow those of a tree
same_front : (t u : Tree) (xs ys : List Node) → preorder t ++ xs ≡ preorder u ++ ys → (t ≡ u) × (xs ≡ ys)
same_front (pair a b t u) (pair c d v w) xs ys e =
    let one : a ≡ c = cc in
    let two : b ≡ d = cc in
    let rest : (preorder t ++ preorder u) ++ xs ≡ (preorder v ++ preorder w) ++ ys = cc in
    let first = same_front t v (preorder u ++ xs) (preorder w ++ ys) (sym (append_assoc (preorder t) (preorder u) xs) ∙ rest ∙ append_assoc (preorder v) (preorder w) ys) in
    let second = same_front u w xs ys first.1 in
    ((λ i. pair (one i) (two i) (first.0 i) (second.0 i)), second.1)
same_front (pair a b t u) (cut other m v w) xs ys e = cc
same_front (pair a b t u) (price number) xs ys e = cc
same_front (pair a b t u) void xs ys e = cc
same_front (pair a b t u) fixed xs ys e = cc
same_front (cut shore k t u) (pair c d v w) xs ys e = cc
same_front (cut shore k t u) (cut other m v w) xs ys e =
    let one : shore ≡ other = cc in
    let two : k ≡ m = cc in
    let rest : (preorder t ++ preorder u) ++ xs ≡ (preorder v ++ preorder w) ++ ys = cc in
    let first = same_front t v (preorder u ++ xs) (preorder w ++ ys) (sym (append_assoc (preorder t) (preorder u) xs) ∙ rest ∙ append_assoc (preorder v) (preorder w) ys) in
    let second = same_front u w xs ys first.1 in
    ((λ i. cut (one i) (two i) (first.0 i) (second.0 i)), second.1)
same_front (cut shore k t u) (price number) xs ys e = cc
same_front (cut shore k t u) void xs ys e = cc
same_front (cut shore k t u) fixed xs ys e = cc
same_front (price set) (pair c d v w) xs ys e = cc
same_front (price set) (cut other m v w) xs ys e = cc
same_front (price set) (price number) xs ys e =
    let one : set ≡ number = cc in
    let rest : xs ≡ ys = cc in
    ((λ i. price (one i)), rest)
same_front (price set) void xs ys e = cc
same_front (price set) fixed xs ys e = cc
same_front void (pair c d v w) xs ys e = cc
same_front void (cut other m v w) xs ys e = cc
same_front void (price number) xs ys e = cc
same_front void void xs ys e =
    let rest : xs ≡ ys = cc in
    (refl, rest)
same_front void fixed xs ys e = cc
same_front fixed (pair c d v w) xs ys e = cc
same_front fixed (cut other m v w) xs ys e = cc
same_front fixed (price number) xs ys e = cc
same_front fixed void xs ys e = cc
same_front fixed fixed xs ys e =
    let rest : xs ≡ ys = cc in
    (refl, rest)

pub same_tree : (t u : Tree) → preorder t ≡ preorder u → t ≡ u
same_tree t u e = (same_front t u [] [] (ap (λ (ns : List Node). ns ++ []) e)).0
