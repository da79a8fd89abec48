-- Nodes that are given, and the nodes of the lines.
use Rattle.std.proofs.Common.{◌≡◌, ℕ, ◌≤◌, List, [], ◌∷◌, ◌++◌, length, refl, sym, ap, ◌∙◌, arith}
use Rattle.std.proofs.lemmas.List.{append-nil}
use Rattle.branch_rules.specs.declared.node.Node.{Node as NodeValue}
use Rattle.cert_lines.specs.declared.item.Item.{Item}
use Rattle.cert_lines.specs.declared.item.Item.TheVariants.{Quiet, Head, Node, Whole}
use Rattle.cert_lines.specs.declared.next.Next.{Next}
use Rattle.cert_lines.specs.declared.next.Next.TheVariants as stands
use Rattle.cert_lines.specs.Lines as lines
use Rattle.cert_lines.specs.Order.{LatestFirst}
use Rattle.cert_lines.specs.Certificates.{nodes_of}
use Rattle.cert_lines.specs.Texts.{items_of}
use Rattle.cert_format.specs.Drafts.{CountsNodes}
use Rattle.cert_format.specs.Judging.{item_list}

pub none_at : {T : Type 0} (xs : List T) → length xs ≡ 0 → xs ≡ []
none_at {T} [] none = refl
none_at {T} (x ∷ xs) none = absurd (omega (arith, none))

abbrev nodes_in : List Item → List NodeValue
nodes_in [] = []
nodes_in (Node x ∷ items) = x ∷ nodes_in items
nodes_in (_ ∷ items) = nodes_in items

nodes_in-append : (xs ys : List Item) → nodes_in (xs ++ ys) ≡ nodes_in xs ++ nodes_in ys
nodes_in-append [] ys = refl
nodes_in-append (Quiet ∷ xs) ys = nodes_in-append xs ys
nodes_in-append (Head ∷ xs) ys = nodes_in-append xs ys
nodes_in-append (Node x ∷ xs) ys = ap (λ (r : List NodeValue). x ∷ r) (nodes_in-append xs ys)
nodes_in-append (Whole ∷ xs) ys = nodes_in-append xs ys

nodes_are : (said : LatestFirst) → nodes_in (items_of said) ≡ nodes_of said
nodes_are [] = refl
nodes_are (lines.version n ∷ said) = nodes_are said
nodes_are (lines.counts c ∷ said) = nodes_are said
nodes_are (lines.cost n ∷ said) = nodes_are said
nodes_are (lines.bound n ∷ said) = nodes_are said
nodes_are (lines.tours n ∷ said) = nodes_are said
nodes_are (lines.tour n steps ∷ said) = nodes_are said
nodes_are (lines.shores n ∷ said) = nodes_are said
nodes_are (lines.shore n vertices ∷ said) = nodes_are said
nodes_are (lines.sets n ∷ said) = nodes_are said
nodes_are (lines.prices unit n services ∷ said) = nodes_are said
nodes_are (lines.weights n items ∷ said) = nodes_are said
nodes_are (lines.bonds n groups rest ∷ said) = nodes_are said
nodes_are (lines.nodes n ∷ said) = nodes_in-append (items_of said) (Head ∷ []) ∙ append-nil (nodes_in (items_of said)) ∙ nodes_are said
nodes_are (lines.node x ∷ said) = nodes_in-append (items_of said) (Node x ∷ []) ∙ ap (λ (r : List NodeValue). r ++ x ∷ []) (nodes_are said)
nodes_are (lines.end ∷ said) = nodes_in-append (items_of said) (Whole ∷ []) ∙ append-nil (nodes_in (items_of said)) ∙ nodes_are said

-- the nodes after an item
pub nodes_given : (said before : LatestFirst) (item : Item) → items_of said ≡ items_of before ++ item_list item → nodes_of said ≡ nodes_of before ++ nodes_in (item_list item)
nodes_given said before item gives =
    sym (nodes_are said) ∙ ap nodes_in gives ∙ nodes_in-append (items_of before) (item_list item) ∙ ap (λ (r : List NodeValue). r ++ nodes_in (item_list item)) (nodes_are before)

pub node_given : (said before : LatestFirst) (x : NodeValue) → items_of said ≡ items_of before ++ Node x ∷ [] → nodes_of said ≡ nodes_of before ++ x ∷ []
node_given said before x gives = nodes_given said before (Node x) gives

pub none_given : (said before : LatestFirst) (item : Item) → nodes_in (item_list item) ≡ [] → items_of said ≡ items_of before ++ item_list item → nodes_of said ≡ nodes_of before
none_given said before item none gives = nodes_given said before item gives ∙ ap (λ (r : List NodeValue). nodes_of before ++ r) none ∙ append-nil (nodes_of before)

-- there are no more nodes than are stated
pub nodes_within : (next : Next) (nodes stated : ℕ) → CountsNodes next nodes stated → 1 ≤ nodes → nodes ≤ stated
nodes_within stands.Version nodes stated counts some = absurd (omega (arith, counts, some))
nodes_within stands.Counts nodes stated counts some = absurd (omega (arith, counts, some))
nodes_within stands.Cost nodes stated counts some = absurd (omega (arith, counts, some))
nodes_within stands.Bound nodes stated counts some = absurd (omega (arith, counts, some))
nodes_within stands.Tours nodes stated counts some = absurd (omega (arith, counts, some))
nodes_within (stands.Tour left) nodes stated counts some = absurd (omega (arith, counts, some))
nodes_within stands.Shores nodes stated counts some = absurd (omega (arith, counts, some))
nodes_within (stands.Shore left) nodes stated counts some = absurd (omega (arith, counts, some))
nodes_within stands.Sets nodes stated counts some = absurd (omega (arith, counts, some))
nodes_within (stands.Prices left) nodes stated counts some = absurd (omega (arith, counts, some))
nodes_within (stands.Weights left) nodes stated counts some = absurd (omega (arith, counts, some))
nodes_within (stands.Bonds left) nodes stated counts some = absurd (omega (arith, counts, some))
nodes_within stands.Nodes nodes stated counts some = absurd (omega (arith, counts, some))
nodes_within (stands.Node left subtrees) nodes stated counts some = omega (arith, counts)
nodes_within stands.End nodes stated counts some = omega (arith, counts)
nodes_within stands.Nothing nodes stated counts some = omega (arith, counts)
