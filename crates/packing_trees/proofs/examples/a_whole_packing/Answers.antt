use Rattle.std.proofs.Common.{◌≡◌, ◌≤◌, ℕ, zero, suc, [], ◌∷◌, arith, inl, inr, refl}
use Rattle.std.proofs.lemmas.List.Elements.{All-cons, All-nil}
use Rattle.carp_base.specs.Problem.{IsRequired}
use Rattle.carp_base.specs.Packings.{IsGroup, IsPacking, group_load, group_of}
use Rattle.packing_trees.specs.Examples.{carrying}
use Rattle.packing_trees.specs.Reasons.{NodeFits}
use Rattle.packing_trees.specs.Trees.{IsPackProof, PackTree, pair, share, settled, preorder}
use Rattle.packing_trees.specs.declared.node.PackNode.TheVariants.{Share}
use Rattle.packing_trees.proofs.examples.a_whole_packing.Goals as goal

placed : (e : ℕ) → IsRequired (carrying 3) e → IsGroup 3 (group_of (1 ∷ (2 ∷ (3 ∷ []))) e)
placed zero required = absurd (omega (arith, required.from_one))
placed (suc zero) required = record { from_one = omega arith; in_range = omega arith }
placed (suc (suc zero)) required = record { from_one = omega arith; in_range = omega arith }
placed (suc (suc (suc zero))) required = record { from_one = omega arith; in_range = omega arith }
placed (suc (suc (suc (suc e)))) required = absurd (omega (arith, required.in_range))

filled : (g : ℕ) → IsGroup 3 g → (e : ℕ) × IsRequired (carrying 3) e × (group_of (1 ∷ (2 ∷ (3 ∷ []))) e ≡ g)
filled zero group = absurd (omega (arith, group.from_one))
filled (suc zero) group = (1, record { from_one = omega arith; in_range = omega arith }, refl)
filled (suc (suc zero)) group = (2, record { from_one = omega arith; in_range = omega arith }, refl)
filled (suc (suc (suc zero))) group = (3, record { from_one = omega arith; in_range = omega arith }, refl)
filled (suc (suc (suc (suc g)))) group = absurd (omega (arith, group.in_range))

light : (g : ℕ) → IsGroup 3 g → group_load (carrying 3) (1 ∷ (2 ∷ (3 ∷ []))) g ≤ 3
light zero group = absurd (omega (arith, group.from_one))
light (suc zero) group = omega arith
light (suc (suc zero)) group = omega arith
light (suc (suc (suc zero))) group = omega arith
light (suc (suc (suc (suc g)))) group = absurd (omega (arith, group.in_range))

packed : IsPacking (carrying 3) (1 ∷ (2 ∷ (3 ∷ []))) 3
packed = record { one_each = refl; placed = placed; none_empty = filled; loads = light }

shown : IsPackProof (carrying 3) (Share 0 ∷ []) 3
shown = record { tree = share 0; nodes_are = refl; pairs = tt; lean = tt; shows = (omega arith, omega arith) }

some_nodes : (tree : PackTree) → preorder tree ≡ [] → ⊥
some_nodes (pair a b t u) none = cc
some_nodes (share s) none = cc
some_nodes settled none = cc

pub returns-clause-proof : goal.returns-clause-proof
returns-clause-proof c = shown

pub returns-clause-no_proof : goal.returns-clause-no_proof
returns-clause-no_proof c = λ proof. some_nodes proof.tree proof.nodes_are

pub returns-clause-accepted : goal.returns-clause-accepted
returns-clause-accepted c = record { packing = packed; proof = shown }

pub returns-clause-low : goal.returns-clause-low
returns-clause-low c = (
  record { tree = record { packing = packed; whole = (share 0, refl) }; fits = All-cons (NodeFits (carrying 3)) (Share 0) [] tt (All-nil (NodeFits (carrying 3))) },
  inl (inr (omega arith, omega arith, refl)),
)
