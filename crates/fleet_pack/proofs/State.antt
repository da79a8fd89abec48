-- One step of a search, on its state as plain data.
use Rattle.std.proofs.Common.{◌≡◌, ℕ, ◌≤◌, List, [], ◌∷◌, ◌++◌, refl, sym, ap, ◌∙◌, subst, arith, append_assoc, append-nil}
use Rattle.carp_base.specs.Problem.{Problem}
use Rattle.packing_trees.specs.declared.node.PackChoice.{PackChoice}
use Rattle.packing_trees.specs.declared.node.PackChoice.TheVariants as choices
use Rattle.packing_trees.specs.declared.node.PackNode.{PackNode}
use Rattle.packing_trees.specs.declared.node.PackNode.TheVariants as nodes
use Rattle.packing_trees.specs.Reasons.{branches_below}
use Rattle.fleet_pack.specs.declared.share.Share.{Share}
use Rattle.fleet_pack.specs.States.{waiting_for, NodesAre, IsLeaf, AreLeaves, apart_waits, aparts_of, leaves_of, IsDone, IsOuter, IsState, IsBack}

abbrev Branches : Type 0
Branches = List (List PackChoice)

-- One more node.

pub wait_more : (taken : List PackNode) (waiting : Branches) (branch : List PackChoice) (rest : Branches) (node : PackNode) → waiting_for taken waiting ≡ branch ∷ rest →
    waiting_for (taken ++ node ∷ []) waiting ≡ branches_below branch node ++ rest
wait_more [] waiting branch rest node is = ap (waiting_for (node ∷ [])) is
wait_more (x ∷ taken) [] branch rest node is = cc
wait_more (x ∷ taken) (b ∷ waiting) branch rest node is = wait_more taken (branches_below b x ++ waiting) branch rest node is

pub are_more : (P : List PackChoice → PackNode → Type 0) (taken : List PackNode) (waiting : Branches) (branch : List PackChoice) (rest : Branches) (node : PackNode) →
    waiting_for taken waiting ≡ branch ∷ rest → NodesAre P taken waiting → P branch node → NodesAre P (taken ++ node ∷ []) waiting
are_more P [] waiting branch rest node is before here = subst (NodesAre P (node ∷ [])) (sym is) (here, tt)
are_more P (x ∷ taken) [] branch rest node is before here = before
are_more P (x ∷ taken) (b ∷ waiting) branch rest node is before here = (before.0, are_more P taken (branches_below b x ++ waiting) branch rest node is before.1 here)

pub are_weaker : (P Q : List PackChoice → PackNode → Type 0) → ((branch : List PackChoice) (node : PackNode) → P branch node → Q branch node) →
    (taken : List PackNode) (waiting : Branches) → NodesAre P taken waiting → NodesAre Q taken waiting
are_weaker P Q then_so [] waiting are = tt
are_weaker P Q then_so (x ∷ taken) [] are = are
are_weaker P Q then_so (x ∷ taken) (b ∷ waiting) are = (then_so b x are.0, are_weaker P Q then_so taken (branches_below b x ++ waiting) are.1)

-- The branches that wait along a branch.

waits_together : (before branch : List PackChoice) (later : Branches) (a b : ℕ) →
    apart_waits before (branch ++ choices.Together a b ∷ []) later ≡ (before ++ branch ++ choices.Apart a b ∷ []) ∷ apart_waits before branch later
waits_together before [] later a b = ap (λ (xs : List PackChoice). (xs ++ choices.Apart a b ∷ []) ∷ later) (sym (append-nil before))
waits_together before (choices.Together c d ∷ branch) later a b =
    waits_together (before ++ choices.Together c d ∷ []) branch ((before ++ choices.Apart c d ∷ []) ∷ later) a b
    ∙ ap (λ (xs : List PackChoice). (xs ++ choices.Apart a b ∷ []) ∷ apart_waits before (choices.Together c d ∷ branch) later) (append_assoc before (choices.Together c d ∷ []) branch)
waits_together before (choices.Apart c d ∷ branch) later a b =
    waits_together (before ++ choices.Apart c d ∷ []) branch later a b
    ∙ ap (λ (xs : List PackChoice). (xs ++ choices.Apart a b ∷ []) ∷ apart_waits before (choices.Apart c d ∷ branch) later) (append_assoc before (choices.Apart c d ∷ []) branch)

pub aparts_together : (branch : List PackChoice) (a b : ℕ) → aparts_of (branch ++ choices.Together a b ∷ []) ≡ (branch ++ choices.Apart a b ∷ []) ∷ aparts_of branch
aparts_together branch a b = waits_together [] branch [] a b

waits_apart : (before branch : List PackChoice) (later : Branches) (a b : ℕ) → apart_waits before (branch ++ choices.Apart a b ∷ []) later ≡ apart_waits before branch later
waits_apart before [] later a b = refl
waits_apart before (choices.Together c d ∷ branch) later a b = waits_apart (before ++ choices.Together c d ∷ []) branch ((before ++ choices.Apart c d ∷ []) ∷ later) a b
waits_apart before (choices.Apart c d ∷ branch) later a b = waits_apart (before ++ choices.Apart c d ∷ []) branch later a b

pub aparts_apart : (branch : List PackChoice) (a b : ℕ) → aparts_of (branch ++ choices.Apart a b ∷ []) ≡ aparts_of branch
aparts_apart branch a b = waits_apart [] branch [] a b

-- Steps.

outer_below : (branch : List PackChoice) (node : PackNode) → IsOuter node → branches_below branch node ≡ []
outer_below branch (nodes.Pair a b) outer = absurd outer
outer_below branch (nodes.Share s) outer = refl
outer_below branch nodes.Apart outer = refl

back_to : (p : Problem) (before after : List PackChoice) (waiting : Branches) (shares : List Share) → aparts_of before ≡ waiting → AreLeaves p waiting shares → IsBack before after → waiting ≡ leaves_of after shares
back_to p before after [] [] is leaves back = refl
back_to p before after [] (share ∷ shares) is leaves back = absurd leaves
back_to p before after (first ∷ rest) [] is leaves back = absurd leaves
back_to p before after (first ∷ rest) (share ∷ shares) is leaves back =
    let led = back.leads first rest is in
    ap (λ x. x ∷ rest) (sym led.0) ∙ ap (λ xs. after ∷ xs) (sym led.1)

-- the leaf at hand is done
pub closes : (p : Problem) (count : ℕ) (taken : List PackNode) (path after : List PackChoice) (share : Share) (shares : List Share) (node : PackNode) →
    IsState p count taken path (share ∷ shares) → IsOuter node → IsDone p count path node → IsBack path after → IsState p count (taken ++ node ∷ []) after shares
closes p count taken path after share shares node state outer done back =
    let led : aparts_of path ≡ leaves_of after shares = back_to p path after (aparts_of path) shares refl state.leaves.1 back in record {
      leaves = subst (λ w. AreLeaves p w shares) led state.leaves.1;
      reads = wait_more taken ([] ∷ []) path (aparts_of path) node state.reads ∙ ap (λ (xs : Branches). xs ++ aparts_of path) (outer_below path node outer) ∙ led;
      done = are_more (IsDone p count) taken ([] ∷ []) path (aparts_of path) node state.reads state.done done;
    }

-- the leaf at hand is split
pub splits : (p : Problem) (count : ℕ) (taken : List PackNode) (path : List PackChoice) (share together : Share) (shares : List Share) (a b : ℕ) →
    IsState p count taken path (share ∷ shares) → IsDone p count path (nodes.Pair a b) →
    IsLeaf p (path ++ choices.Together a b ∷ []) together → IsLeaf p (path ++ choices.Apart a b ∷ []) share →
    IsState p count (taken ++ nodes.Pair a b ∷ []) (path ++ choices.Together a b ∷ []) (together ∷ (share ∷ shares))
splits p count taken path share together shares a b state done one two = record {
  leaves = (one, subst (λ w. AreLeaves p w (share ∷ shares)) (sym (aparts_together path a b)) (two, state.leaves.1));
  reads = wait_more taken ([] ∷ []) path (aparts_of path) (nodes.Pair a b) state.reads ∙ ap (λ xs. (path ++ choices.Together a b ∷ []) ∷ xs) (sym (aparts_together path a b));
  done = are_more (IsDone p count) taken ([] ∷ []) path (aparts_of path) (nodes.Pair a b) state.reads state.done done;
}

pub done_fewer : (p : Problem) (count fewer : ℕ) → fewer ≤ count → (branch : List PackChoice) (node : PackNode) → IsDone p count branch node → IsDone p fewer branch node
done_fewer p count fewer le branch (nodes.Pair a b) done = done
done_fewer p count fewer le branch (nodes.Share s) done = (done.0, omega (arith, le, done.1))
done_fewer p count fewer le branch nodes.Apart done = (done.0, omega (arith, le, done.1))

-- the count falls
pub falls : (p : Problem) (count fewer : ℕ) (taken : List PackNode) (path : List PackChoice) (shares : List Share) → fewer ≤ count → IsState p count taken path shares → IsState p fewer taken path shares
falls p count fewer taken path shares le state = record {
  leaves = state.leaves;
  reads = state.reads;
  done = are_weaker (IsDone p count) (IsDone p fewer) (done_fewer p count fewer le) taken ([] ∷ []) state.done;
}

-- the root alone
pub begins : (p : Problem) (count : ℕ) (share : Share) → IsLeaf p [] share → IsState p count [] [] (share ∷ [])
begins p count share leaf = record { leaves = (leaf, tt); reads = refl; done = tt }
