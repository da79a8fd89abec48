-- From the nodes to the whole certificate.
use Rattle.std.proofs.Common.{◌≡◌, ℕ, ◌+◌, ◌-◌, List, [], ◌∷◌, ◌++◌, refl, sym, ap, ◌∙◌, subst, arith, append_assoc, append-nil, inl, inr, ℤ, cond}
use Rattle.std.specs.List.{All}
use Rattle.std.proofs.lemmas.List.Sums.{sum_by-append}
use Rattle.carp_base.specs.Problem.{Problem}
use Rattle.plan_model.specs.declared.verdict.Verdict.{Verdict}
use Rattle.decision_chains.specs.declared.decision.Decision.{Decision}
use Rattle.decision_chains.specs.declared.decision.Decision.TheVariants.{Yes, No, Low, High}
use Rattle.branch_rules.specs.Decisions.{cuts_of, is_cut}
use Rattle.branch_rules.specs.Trees.{Support, Tree, pair, cut, price, void, fixed, preorder, IsLean, IsLeanNode, Shows, PairsIn}
use Rattle.branch_rules.specs.declared.node.Node.{Node}
use Rattle.branch_rules.specs.declared.node.Node.TheVariants as nodes
use Rattle.cert_lines.specs.Certificates.{Certificate}
use Rattle.cert_format.specs.Good.{IsGood, support_of}
use Rattle.cert_checker.specs.declared.reason.Part.TheVariants as parts
use Rattle.cert_checker.specs.declared.reason.Reason.{Reason}
use Rattle.cert_checker.specs.declared.reason.Reason.TheVariants.{PlanUnlawful, CostDiffers, Misfit, WeightTooLarge, CountsDiffer, NotLean, NotVoid, NotFixed, MissingUpper, MissingYes, TourTooCheap, LeafLow}
use Rattle.cert_checker.specs.Claims.{IsSetRead, IsBacked}
use Rattle.cert_checker.specs.Nodes.{NodeFails, NodesStand, FirstNodeFails}
use Rattle.branch_rules.specs.Waiting.{waiting_after}
use Rattle.cert_checker.specs.Reasons.{HeadIsRight, IsFirstReason}
use Rattle.cert_checker.specs.Walks.{Fills}
use Rattle.cert_checker.proofs.Filling.{tree_of}

pub cuts_more : (branch : List Decision) (d : Decision) (cuts : ℕ) → cuts_of (d ∷ []) ≡ cuts → cuts_of (branch ++ d ∷ []) ≡ cuts_of branch + cuts
cuts_more branch d cuts is = sum_by-append (λ x. cond (is_cut x) 1 0) branch (d ∷ []) ∙ ap (λ n. cuts_of branch + n) is

record Stands (s : Support) (bound : ℕ) (branch : List Decision) (cuts : ℕ) (tree : Tree) (more : Type 0) : Type 0 where
  pub pairs : PairsIn s.problem tree
  pub lean : IsLean s branch cuts tree
  pub shows : Shows s branch bound tree
  pub rest : more

-- nodes that are as they should be are those of a lean tree that shows the bound
tree_stands : (s : Support) (bound : ℕ) (branch : List Decision) (cuts : ℕ) (tree : Tree) (rest : List Node) (waiting : List (List Decision)) → cuts ≡ 4 - cuts_of branch →
    NodesStand s bound (preorder tree ++ rest) (branch ∷ waiting) → Stands s bound branch cuts tree (NodesStand s bound rest waiting)
tree_stands s bound branch cuts (pair a b together apart) rest waiting is stand =
    let after : List (List Decision) = (branch ++ Yes a b ∷ []) ∷ (branch ++ No a b ∷ []) ∷ waiting in
    let stand' : NodesStand s bound (preorder together ++ (preorder apart ++ rest)) after = subst (λ (xs : List Node). NodesStand s bound xs after) (append_assoc (preorder together) (preorder apart) rest) stand.1 in
    let first = tree_stands s bound (branch ++ Yes a b ∷ []) cuts together (preorder apart ++ rest) ((branch ++ No a b ∷ []) ∷ waiting) (omega (arith, is, cuts_more branch (Yes a b) 0 refl)) stand' in
    let second = tree_stands s bound (branch ++ No a b ∷ []) cuts apart rest waiting (omega (arith, is, cuts_more branch (No a b) 0 refl)) first.rest in
    let p = stand.0.0 in
    record {
      pairs = (record { from_one = p.a_from_one; in_range = p.a_in_range }, record { from_one = p.b_from_one; in_range = p.b_in_range }, first.pairs, second.pairs);
      lean = (stand.0.1, first.lean, second.lean);
      shows = (first.shows, second.shows);
      rest = second.rest;
    }
tree_stands s bound branch cuts (cut border k below above) rest waiting is stand =
    let after : List (List Decision) = (branch ++ Low border k ∷ []) ∷ (branch ++ High border k ∷ []) ∷ waiting in
    let stand' : NodesStand s bound (preorder below ++ (preorder above ++ rest)) after = subst (λ (xs : List Node). NodesStand s bound xs after) (append_assoc (preorder below) (preorder above) rest) stand.1 in
    let first = tree_stands s bound (branch ++ Low border k ∷ []) (cuts - 1) below (preorder above ++ rest) ((branch ++ High border k ∷ []) ∷ waiting) (omega (arith, is, cuts_more branch (Low border k) 1 refl)) stand' in
    let second = tree_stands s bound (branch ++ High border k ∷ []) (cuts - 1) above rest waiting (omega (arith, is, cuts_more branch (High border k) 1 refl)) first.rest in
    record {
      pairs = (first.pairs, second.pairs);
      lean = (subst (λ n. IsLeanNode s.problem s.pool branch n (nodes.Cut border k)) (sym is) stand.0, first.lean, second.lean);
      shows = (first.shows, second.shows);
      rest = second.rest;
    }
tree_stands s bound branch cuts (price set) rest waiting is stand = record { pairs = tt; lean = tt; shows = stand.0; rest = stand.1 }
tree_stands s bound branch cuts void rest waiting is stand = record { pairs = tt; lean = tt; shows = stand.0; rest = stand.1 }
tree_stands s bound branch cuts fixed rest waiting is stand = record { pairs = tt; lean = tt; shows = stand.0; rest = stand.1 }

pub backed_by : (p : Problem) (c : Certificate) → HeadIsRight p c → All (IsSetRead (support_of p c)) c.sets → IsBacked (support_of p c)
backed_by p c head sets_read = record { belong = head.prices.shores.shores; prices = head.prices.prices; deadheads = head.deadheads; sets_read = sets_read }

-- a certificate whose head is right, and whose nodes are as they should be, is good
pub good_from : (p : Problem) (c : Certificate) → HeadIsRight p c → Fills c.nodes 1 → NodesStand (support_of p c) c.bound c.nodes ([] ∷ []) → IsGood p c
good_from p c head fills stand =
    let found = tree_of c.nodes fills in
    let stand' : NodesStand (support_of p c) c.bound (preorder found.0 ++ []) ([] ∷ []) = subst (λ (xs : List Node). NodesStand (support_of p c) c.bound xs ([] ∷ [])) (sym found.1 ∙ sym (append-nil (preorder found.0))) stand in
    let tree = tree_stands (support_of p c) c.bound [] 4 found.0 [] [] refl stand' in
    record {
      counts = head.prices.shores.plan.plan.counts;
      lawful = head.prices.shores.plan.plan.lawful;
      cost = head.prices.shores.plan.cost;
      shores = head.prices.shores.shores;
      prices = head.prices.prices;
      deadheads = head.deadheads;
      tree = found.0;
      nodes = found.1;
      pairs = tree.pairs;
      lean = tree.lean;
      shows = tree.shows;
    }

-- a reason that no node has is not that of the first node that fails
never : (s : Support) (bound at : ℕ) (all : List Node) (waiting : List (List Decision)) (reason : Reason) → ((n : ℕ) (branch : List Decision) (node : Node) → NodeFails s bound n branch node reason → ⊥) →
    FirstNodeFails s bound at all waiting reason → ⊥
never s bound at [] waiting reason none fails = fails
never s bound at (node ∷ all) [] reason none fails = fails
never s bound at (node ∷ all) (branch ∷ waiting) reason none (inl here) = none at branch node here
never s bound at (node ∷ all) (branch ∷ waiting) reason none (inr later) = never s bound (at + 1) all (waiting_after branch node waiting) reason none later.1

not_shore : (s : Support) (bound at : ℕ) (branch : List Decision) (node : Node) (shore : ℕ) → NodeFails s bound at branch node (Misfit (parts.Shore shore)) → ⊥
not_shore s bound at branch (nodes.Pair a b) shore fails = fails
not_shore s bound at branch (nodes.Cut border k) shore fails = fails
not_shore s bound at branch (nodes.Price set) shore fails = fails
not_shore s bound at branch nodes.Void shore fails = fails
not_shore s bound at branch nodes.Fixed shore fails = fails

not_prices : (s : Support) (bound at : ℕ) (branch : List Decision) (node : Node) (set : ℕ) → NodeFails s bound at branch node (Misfit (parts.Prices set)) → ⊥
not_prices s bound at branch (nodes.Pair a b) set fails = fails
not_prices s bound at branch (nodes.Cut border k) set fails = fails
not_prices s bound at branch (nodes.Price i) set fails = fails
not_prices s bound at branch nodes.Void set fails = fails
not_prices s bound at branch nodes.Fixed set fails = fails

not_plan : (s : Support) (bound at : ℕ) (branch : List Decision) (node : Node) (v : Verdict) → NodeFails s bound at branch node (PlanUnlawful v) → ⊥
not_plan s bound at branch (nodes.Pair a b) v fails = fails
not_plan s bound at branch (nodes.Cut border k) v fails = fails
not_plan s bound at branch (nodes.Price i) v fails = fails
not_plan s bound at branch nodes.Void v fails = fails
not_plan s bound at branch nodes.Fixed v fails = fails

not_cost : (s : Support) (bound at : ℕ) (branch : List Decision) (node : Node) (stated found : ℕ) → NodeFails s bound at branch node (CostDiffers stated found) → ⊥
not_cost s bound at branch (nodes.Pair a b) stated found fails = fails
not_cost s bound at branch (nodes.Cut border k) stated found fails = fails
not_cost s bound at branch (nodes.Price i) stated found fails = fails
not_cost s bound at branch nodes.Void stated found fails = fails
not_cost s bound at branch nodes.Fixed stated found fails = fails

not_weight : (s : Support) (bound at : ℕ) (branch : List Decision) (node : Node) (set edge : ℕ) (z : ℤ) → NodeFails s bound at branch node (WeightTooLarge set edge z) → ⊥
not_weight s bound at branch (nodes.Pair a b) set edge z fails = fails
not_weight s bound at branch (nodes.Cut border k) set edge z fails = fails
not_weight s bound at branch (nodes.Price i) set edge z fails = fails
not_weight s bound at branch nodes.Void set edge z fails = fails
not_weight s bound at branch nodes.Fixed set edge z fails = fails

not_counts : (s : Support) (bound at : ℕ) (branch : List Decision) (node : Node) (place x y : ℕ) → NodeFails s bound at branch node (CountsDiffer place x y) → ⊥
not_counts s bound at branch (nodes.Pair a b) place x y fails = fails
not_counts s bound at branch (nodes.Cut border k) place x y fails = fails
not_counts s bound at branch (nodes.Price i) place x y fails = fails
not_counts s bound at branch nodes.Void place x y fails = fails
not_counts s bound at branch nodes.Fixed place x y fails = fails

-- the reason of the first node that fails is the first reason of all
pub first_from : (p : Problem) (c : Certificate) (reason : Reason) → HeadIsRight p c → FirstNodeFails (support_of p c) c.bound 1 c.nodes ([] ∷ []) reason → IsFirstReason p c reason
first_from p c (PlanUnlawful v) head fails = absurd (never (support_of p c) c.bound 1 c.nodes ([] ∷ []) _ (λ n branch node. not_plan (support_of p c) c.bound n branch node v) fails)
first_from p c (CostDiffers stated found) head fails = absurd (never (support_of p c) c.bound 1 c.nodes ([] ∷ []) _ (λ n branch node. not_cost (support_of p c) c.bound n branch node stated found) fails)
first_from p c (Misfit (parts.Shore shore)) head fails = absurd (never (support_of p c) c.bound 1 c.nodes ([] ∷ []) _ (λ n branch node. not_shore (support_of p c) c.bound n branch node shore) fails)
first_from p c (Misfit (parts.Prices set)) head fails = absurd (never (support_of p c) c.bound 1 c.nodes ([] ∷ []) _ (λ n branch node. not_prices (support_of p c) c.bound n branch node set) fails)
first_from p c (WeightTooLarge set edge z) head fails = absurd (never (support_of p c) c.bound 1 c.nodes ([] ∷ []) _ (λ n branch node. not_weight (support_of p c) c.bound n branch node set edge z) fails)
first_from p c (CountsDiffer place x y) head fails = absurd (never (support_of p c) c.bound 1 c.nodes ([] ∷ []) _ (λ n branch node. not_counts (support_of p c) c.bound n branch node place x y) fails)
first_from p c (Misfit (parts.Node n)) head fails = (head, fails)
first_from p c (NotLean n) head fails = (head, fails)
first_from p c (NotVoid n) head fails = (head, fails)
first_from p c (NotFixed n) head fails = (head, fails)
first_from p c (MissingUpper set n border) head fails = (head, fails)
first_from p c (MissingYes set n a b) head fails = (head, fails)
first_from p c (TourTooCheap set n value) head fails = (head, fails)
first_from p c (LeafLow n value limit) head fails = (head, fails)
