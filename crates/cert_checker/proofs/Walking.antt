-- One more node.
use Rattle.std.proofs.Common.{◌≡◌, ℕ, ◌+◌, true, List, [], ◌∷◌, ◌++◌, length, refl, sym, ap, ◌∙◌, subst, arith, Option, Some, None, length-append, inl, inr, Result, Ok, Err, OnOk}
use Rattle.std.specs.Option.{is_some}
use Rattle.decision_chains.specs.declared.decision.Decision.{Decision}
use Rattle.branch_rules.specs.Limits.{IsNodeIn}
use Rattle.branch_rules.specs.Trees.{Support}
use Rattle.branch_rules.specs.declared.node.Node.{Node}
use Rattle.branch_rules.specs.declared.node.Node.TheVariants as nodes
use Rattle.branch_rules.specs.declared.path.Path.{Path}
use Rattle.cert_checker.specs.declared.checker.Checker.{Checker}
use Rattle.cert_checker.specs.declared.reason.Reason.{Reason}
use Rattle.cert_checker.specs.Claims.{IsBacked, IsNodeRead}
use Rattle.cert_checker.specs.Nodes.{NodeFails, NodeStands, NodesStand, FirstNodeFails}
use Rattle.branch_rules.specs.Waiting.{waiting_after}
use Rattle.branch_rules.specs.Paths.{IsFineSplit, IsOpen, branch_of, seconds_of, waits}
use Rattle.cert_checker.specs.Walks.{HasWalked, TreeSays, Walked, waiting_for}
use Rattle.cert_checker.proofs.Backing.{shore_of}

pub both : {T E P Q R : Type 0} (r : Result T E) → (P → Q → R) → OnOk r P → OnOk r Q → OnOk r R
both (Ok x) f p q = f p q
both (Err e) f p q = tt

pub fine_split : (s : Support) (node : Node) → IsNodeRead s node → IsFineSplit node
fine_split s (nodes.Pair a b) read = tt
fine_split s (nodes.Cut border k) read = read.1
fine_split s (nodes.Price set) read = tt
fine_split s nodes.Void read = tt
fine_split s nodes.Fixed read = tt

-- a node that is as it should be
pub node_in : (s : Support) (bound : ℕ) (branch : List Decision) (node : Node) → IsBacked s → IsNodeRead s node → NodeStands s bound branch node → IsNodeIn s.problem s.pool node
node_in s bound branch (nodes.Pair a b) backed read stands = stands.0
node_in s bound branch (nodes.Cut border k) backed read stands = shore_of s.problem s.pool border backed.belong read.0
node_in s bound branch (nodes.Price set) backed read stands = tt
node_in s bound branch nodes.Void backed read stands = tt
node_in s bound branch nodes.Fixed backed read stands = tt

wait_more : (taken : List Node) (waiting : List (List Decision)) (branch : List Decision) (rest : List (List Decision)) (node : Node) → waiting_for taken waiting ≡ branch ∷ rest →
    waiting_for (taken ++ node ∷ []) waiting ≡ waiting_after branch node rest
wait_more [] waiting branch rest node is = ap (waiting_for (node ∷ [])) is
wait_more (x ∷ taken) [] branch rest node is = cc
wait_more (x ∷ taken) (b ∷ waiting) branch rest node is = wait_more taken (waiting_after b x waiting) branch rest node is

stand_more : (s : Support) (bound : ℕ) (taken : List Node) (waiting : List (List Decision)) (branch : List Decision) (rest : List (List Decision)) (node : Node) → waiting_for taken waiting ≡ branch ∷ rest →
    NodesStand s bound taken waiting → NodeStands s bound branch node → NodesStand s bound (taken ++ node ∷ []) waiting
stand_more s bound [] waiting branch rest node is before here = subst (NodesStand s bound (node ∷ [])) (sym is) (here, tt)
stand_more s bound (x ∷ taken) [] branch rest node is before here = before
stand_more s bound (x ∷ taken) (b ∷ waiting) branch rest node is before here = (before.0, stand_more s bound taken (waiting_after b x waiting) branch rest node is before.1 here)

fail_here : (s : Support) (bound at : ℕ) (taken : List Node) (waiting : List (List Decision)) (branch : List Decision) (rest : List (List Decision)) (node : Node) (reason : Reason) (n : ℕ) →
    n ≡ at + length taken → waiting_for taken waiting ≡ branch ∷ rest →
    NodesStand s bound taken waiting → NodeFails s bound n branch node reason → FirstNodeFails s bound at (taken ++ node ∷ []) waiting reason
fail_here s bound at [] waiting branch rest node reason n number is before here =
    let same : n ≡ at = omega (arith, number) in
    subst (λ w. FirstNodeFails s bound at (node ∷ []) w reason) (sym is) (inl (subst (λ k. NodeFails s bound k branch node reason) same here))
fail_here s bound at (x ∷ taken) [] branch rest node reason n number is before here = absurd before
fail_here s bound at (x ∷ taken) (b ∷ waiting) branch rest node reason n number is before here =
    inr (before.0, fail_here s bound (at + 1) taken (waiting_after b x waiting) branch rest node reason n (omega (arith, number)) is before.1 here)

fail_more : (s : Support) (bound at : ℕ) (taken more : List Node) (waiting : List (List Decision)) (reason : Reason) → FirstNodeFails s bound at taken waiting reason → FirstNodeFails s bound at (taken ++ more) waiting reason
fail_more s bound at [] more waiting reason fails = absurd fails
fail_more s bound at (x ∷ taken) more [] reason fails = fails
fail_more s bound at (x ∷ taken) more (b ∷ waiting) reason (inl here) = inl here
fail_more s bound at (x ∷ taken) more (b ∷ waiting) reason (inr later) = inr (later.0, fail_more s bound (at + 1) taken more (waiting_after b x waiting) reason later.1)

pub is_there : {X : Type 0} (o : Option X) → true ≡ is_some o → o ≡ None → ⊥
is_there (Some x) some none = cc
is_there None some none = cc

-- a reason stays
pub walked_on : (s : Support) (bound : ℕ) (taken : List Node) (node : Node) (reason : Option Reason) (number : ℕ) (waiting : List (List Decision)) → (reason ≡ None → ⊥) →
    Walked s bound taken reason number waiting → Walked s bound (taken ++ node ∷ []) reason number waiting
walked_on s bound taken node None number waiting some walked = absurd (some refl)
walked_on s bound taken node (Some reason) number waiting some walked = fail_more s bound 1 taken (node ∷ []) ([] ∷ []) reason walked

waits_going : (path : Path) → IsOpen path → waits path ≡ branch_of path ∷ seconds_of path
waits_going path goes = rw goes refl

at_none : (s : Support) (bound : ℕ) (taken : List Node) (reason : Option Reason) (number : ℕ) (waiting : List (List Decision)) → reason ≡ None →
    Walked s bound taken reason number waiting → Walked s bound taken None number waiting
at_none s bound taken reason number waiting none walked = subst (λ r. Walked s bound taken r number waiting) none walked

-- the next node fails
pub walked_fails : (s : Support) (bound : ℕ) (taken : List Node) (old : Checker) (node : Node) (reason : Reason) → old.reason ≡ None → IsOpen old.path →
    NodeFails s bound (old.taken + 1) (branch_of old.path) node reason → HasWalked s bound old taken → FirstNodeFails s bound 1 (taken ++ node ∷ []) ([] ∷ []) reason
walked_fails s bound taken old node reason none goes fails walked =
    let was = at_none s bound taken old.reason old.taken (waits old.path) none walked in
    fail_here s bound 1 taken ([] ∷ []) (branch_of old.path) (seconds_of old.path) node reason (old.taken + 1) (omega (arith, was.1)) (sym was.2 ∙ waits_going old.path goes) was.0 fails

-- the next node is as it should be
pub walked_stands : (s : Support) (bound : ℕ) (taken : List Node) (old : Checker) (node : Node) (waiting : List (List Decision)) → old.reason ≡ None → IsOpen old.path →
    NodeStands s bound (branch_of old.path) node → waiting ≡ waiting_after (branch_of old.path) node (seconds_of old.path) → HasWalked s bound old taken →
    Walked s bound (taken ++ node ∷ []) old.reason (old.taken + 1) waiting
walked_stands s bound taken old node waiting none goes stands after walked =
    let was = at_none s bound taken old.reason old.taken (waits old.path) none walked in
    let at : waiting_for taken ([] ∷ []) ≡ (branch_of old.path) ∷ seconds_of old.path = sym was.2 ∙ waits_going old.path goes in
    let more : Walked s bound (taken ++ node ∷ []) None (old.taken + 1) waiting = (
      stand_more s bound taken ([] ∷ []) (branch_of old.path) (seconds_of old.path) node at was.0 stands,
      omega (arith, was.1, length-append taken (node ∷ [])),
      after ∙ sym (wait_more taken ([] ∷ []) (branch_of old.path) (seconds_of old.path) node at),
    ) in
    subst (λ r. Walked s bound (taken ++ node ∷ []) r (old.taken + 1) waiting) (sym none) more

-- after all nodes
pub tree_says : (s : Support) (bound : ℕ) (taken : List Node) (reason : Option Reason) (number : ℕ) (waiting : List (List Decision)) → Walked s bound taken reason number waiting → TreeSays s bound taken reason
tree_says s bound taken None number waiting walked = walked.0
tree_says s bound taken (Some reason) number waiting walked = walked
