-- The nodes before a place, read backward, tell the way to it.
use Rattle.std.proofs.Common.{◌≡◌, ℕ, zero, suc, ◌+◌, ◌-◌, ◌≤◌, ◌<◌, List, [], ◌∷◌, ◌++◌, length, map, take, reverse, refl, sym, ap, ◌∙◌, subst, arith, inl, inr, append_assoc, append-nil}
use Rattle.std.specs.List.{All, AllByRecursion}
use Rattle.std.proofs.lemmas.Bool.{cases_lt, lt-ltb, le-ltb}
use Rattle.std.proofs.lemmas.List.{reverse-append, length-reverse, get_or-reverse, length-map, take-map}
use Rattle.std.proofs.lemmas.List.Elements.{All-nil, All-push, All-take, All-same, All-map, recursion_from_All}
use Rattle.decision_chains.specs.declared.decision.Decision.{Decision}
use Rattle.decision_chains.specs.declared.decision.Decision.TheVariants.{Yes, No, Low, High}
use Rattle.branch_rules.specs.Limits.{IsFineDecision}
use Rattle.branch_rules.specs.declared.node.Node.{Node}
use Rattle.branch_rules.specs.declared.node.Node.TheVariants as nodes
use Rattle.branch_rules.specs.Trees.{Tree, pair, cut, price, void, fixed, preorder}
use Rattle.grown_trees.specs.Places.{size_of, branch_to, IsFineNode}
use Rattle.grown_trees.specs.declared.growing.GrowingNode.{GrowingNode}
use Rattle.grown_trees.specs.Backward.{Found, split_read, node_read, all_read, read_from}
use Rattle.grown_trees.proofs.Halves.{take_first, take_second}
use Rattle.grown_trees.proofs.Standing.{inside_second}

-- with one more whole subtree
abbrev more : Found → Found
more f = record { decisions = f.decisions; whole = suc f.whole }

whole_two : (t u : Tree) (rest : List Node) → ((xs : List Node) → all_read (preorder t ++ xs) ≡ more (all_read xs)) → all_read (preorder u ++ rest) ≡ more (all_read rest) →
    all_read ((preorder t ++ preorder u) ++ rest) ≡ more (more (all_read rest))
whole_two t u rest first second =
    ap all_read (append_assoc (preorder t) (preorder u) rest) ∙ first (preorder u ++ rest) ∙ ap more second

-- a whole tree adds one whole subtree
whole_read : (tree : Tree) (rest : List Node) → all_read (preorder tree ++ rest) ≡ more (all_read rest)
whole_read (pair a b t u) rest = ap (λ (f : Found). node_read f (nodes.Pair a b)) (whole_two t u rest (λ xs. whole_read t xs) (whole_read u rest))
whole_read (cut shore k t u) rest = ap (λ (f : Found). node_read f (nodes.Cut shore k)) (whole_two t u rest (λ xs. whole_read t xs) (whole_read u rest))
whole_read (price set) rest = refl
whole_read void rest = refl
whole_read fixed rest = refl

-- the decisions that were found lead from a branch to another one
record Leads (branch : List Decision) (f : Found) (to : List Decision) : Type 0 where
  none : f.whole ≡ 0
  way : to ≡ branch ++ reverse f.decisions

leads_here : (branch : List Decision) → Leads branch (all_read []) branch
leads_here branch = record { none = refl; way = sym (append-nil branch) }

-- one more decision in front
leads_on : (branch : List Decision) (d : Decision) (f : Found) (to : List Decision) → Leads (branch ++ d ∷ []) f to → Leads branch (record { decisions = f.decisions ++ d ∷ []; whole = 0 }) to
leads_on branch d f to leads = record {
  none = refl;
  way = leads.way ∙ append_assoc branch (d ∷ []) (reverse f.decisions) ∙ ap (λ (ds : List Decision). branch ++ ds) (sym (reverse-append f.decisions (d ∷ [])));
}

read_first : (ds : List Decision) (w : ℕ) (first second : Decision) → w ≡ 0 → split_read ds w first second ≡ record { decisions = ds ++ first ∷ []; whole = 0 }
read_first ds w first second none = rw none refl

read_second : (ds : List Decision) (w : ℕ) (first second : Decision) → w ≡ 0 → split_read ds (suc w) first second ≡ record { decisions = ds ++ second ∷ []; whole = 0 }
read_second ds w first second none = rw none refl

-- the way through the first of two subtrees, and through the second one
module _ (x : Node) (first second : Decision) (splits : (f : Found) → node_read f x ≡ split_read f.decisions f.whole first second) (t u : Tree) (branch to : List Decision) (k : ℕ) where
  through_first : k < size_of t → Leads (branch ++ first ∷ []) (all_read (take k (preorder t))) to → Leads branch (all_read (take (suc k) (x ∷ (preorder t ++ preorder u)))) to
  through_first less leads =
      let f = all_read (take k (preorder t)) in
      let read : all_read (take (suc k) (x ∷ (preorder t ++ preorder u))) ≡ record { decisions = f.decisions ++ first ∷ []; whole = 0 } =
      ap all_read (take_first x (preorder t) (preorder u) (size_of t) refl k less) ∙ splits f ∙ read_first f.decisions f.whole first second leads.none in
      subst (λ (g : Found). Leads branch g to) (sym read) (leads_on branch first f to leads)

  through_second : size_of t ≤ k → Leads (branch ++ second ∷ []) (all_read (take (k - size_of t) (preorder u))) to → Leads branch (all_read (take (suc k) (x ∷ (preorder t ++ preorder u)))) to
  through_second past leads =
      let f = all_read (take (k - size_of t) (preorder u)) in
      let read : all_read (take (suc k) (x ∷ (preorder t ++ preorder u))) ≡ record { decisions = f.decisions ++ second ∷ []; whole = 0 } =
      ap all_read (take_second x (preorder t) (preorder u) (size_of t) refl k past) ∙ ap (λ (g : Found). node_read g x) (whole_read t (take (k - size_of t) (preorder u)))
      ∙ splits (more f) ∙ read_second f.decisions f.whole first second leads.none in
      subst (λ (g : Found). Leads branch g to) (sym read) (leads_on branch second f to leads)

leads_to : (branch : List Decision) (tree : Tree) (i : ℕ) → i < size_of tree → Leads branch (all_read (take i (preorder tree))) (branch_to branch tree i)
leads_to branch (pair a b t u) zero inside = leads_here branch
leads_to branch (pair a b t u) (suc k) inside = elim (cases_lt k (size_of t)) [
  | inl less ↦ rw (lt-ltb k (size_of t) less)
      (through_first (nodes.Pair a b) (Yes a b) (No a b) (λ f. refl) t u branch (branch_to (branch ++ Yes a b ∷ []) t k) k less (leads_to (branch ++ Yes a b ∷ []) t k less))
  | inr past ↦ rw (le-ltb k (size_of t) past)
      (through_second (nodes.Pair a b) (Yes a b) (No a b) (λ f. refl) t u branch (branch_to (branch ++ No a b ∷ []) u (k - size_of t)) k past
      (leads_to (branch ++ No a b ∷ []) u (k - size_of t) (inside_second (pair a b t u) t u (nodes.Pair a b) refl k past inside)))
]
leads_to branch (cut shore m t u) zero inside = leads_here branch
leads_to branch (cut shore m t u) (suc k) inside = elim (cases_lt k (size_of t)) [
  | inl less ↦ rw (lt-ltb k (size_of t) less)
      (through_first (nodes.Cut shore m) (Low shore m) (High shore m) (λ f. refl) t u branch (branch_to (branch ++ Low shore m ∷ []) t k) k less (leads_to (branch ++ Low shore m ∷ []) t k less))
  | inr past ↦ rw (le-ltb k (size_of t) past)
      (through_second (nodes.Cut shore m) (Low shore m) (High shore m) (λ f. refl) t u branch (branch_to (branch ++ High shore m ∷ []) u (k - size_of t)) k past
      (leads_to (branch ++ High shore m ∷ []) u (k - size_of t) (inside_second (cut shore m t u) t u (nodes.Cut shore m) refl k past inside)))
]
leads_to branch (price set) zero inside = leads_here branch
leads_to branch (price set) (suc k) inside = absurd (omega (arith, inside))
leads_to branch void zero inside = leads_here branch
leads_to branch void (suc k) inside = absurd (omega (arith, inside))
leads_to branch fixed zero inside = leads_here branch
leads_to branch fixed (suc k) inside = absurd (omega (arith, inside))

-- what was found before a place, turned, is the branch to it
found_way : (nodes : List Node) (place : ℕ) → place < length nodes → (tree : Tree) → preorder tree ≡ nodes → reverse (all_read (take place nodes)).decisions ≡ branch_to [] tree place
found_way nodes place less tree is =
    ap (λ (xs : List Node). reverse (all_read (take place xs)).decisions) (sym is) ∙ sym (leads_to [] tree place (omega (arith, less, ap length is))).way

-- Limits of what is found.

split_few : (ds : List Decision) (w : ℕ) (first second : Decision) → (split_read ds w first second).whole ≤ w
split_few ds zero first second = omega arith
split_few ds (suc zero) first second = omega arith
split_few ds (suc (suc n)) first second = omega arith

pub read_few : (f : Found) (xs : List Node) → (read_from f xs).whole ≤ f.whole + length xs
read_few f [] = omega arith
read_few f (nodes.Pair a b ∷ xs) = omega (arith, read_few f xs, split_few (read_from f xs).decisions (read_from f xs).whole (Yes a b) (No a b))
read_few f (nodes.Cut shore k ∷ xs) = omega (arith, read_few f xs, split_few (read_from f xs).decisions (read_from f xs).whole (Low shore k) (High shore k))
read_few f (nodes.Price set ∷ xs) = omega (arith, read_few f xs)
read_few f (nodes.Void ∷ xs) = omega (arith, read_few f xs)
read_few f (nodes.Fixed ∷ xs) = omega (arith, read_few f xs)

split_fine : (ds : List Decision) (w : ℕ) (first second : Decision) → All IsFineDecision ds → IsFineDecision first → IsFineDecision second → All IsFineDecision (split_read ds w first second).decisions
split_fine ds zero first second fine here other = All-push IsFineDecision ds first fine here
split_fine ds (suc zero) first second fine here other = All-push IsFineDecision ds second fine other
split_fine ds (suc (suc n)) first second fine here other = fine

read_fine : (xs : List Node) → AllByRecursion IsFineNode xs → All IsFineDecision (all_read xs).decisions
read_fine [] fine = All-nil IsFineDecision
read_fine (nodes.Pair a b ∷ xs) fine = split_fine (all_read xs).decisions (all_read xs).whole (Yes a b) (No a b) (read_fine xs fine.1) tt tt
read_fine (nodes.Cut shore k ∷ xs) fine = split_fine (all_read xs).decisions (all_read xs).whole (Low shore k) (High shore k) (read_fine xs fine.1) fine.0 fine.0
read_fine (nodes.Price set ∷ xs) fine = read_fine xs fine.1
read_fine (nodes.Void ∷ xs) fine = read_fine xs fine.1
read_fine (nodes.Fixed ∷ xs) fine = read_fine xs fine.1

fine_turned : (ds : List Decision) → All IsFineDecision ds → All IsFineDecision (reverse ds)
fine_turned ds fine = λ k d less.
    let inside : k < length ds = omega (arith, less, length-reverse ds) in
    subst IsFineDecision (sym (get_or-reverse ds k d inside)) (fine (length ds - 1 - k) d (omega (arith, inside)))

-- the branch that was found has fine decisions
found_fine : (nodes : List Node) (place : ℕ) (ds : List Decision) → ds ≡ reverse (all_read (take place nodes)).decisions → All IsFineNode nodes → All IsFineDecision ds
found_fine nodes place ds is fine =
    All-same IsFineDecision ds (reverse (all_read (take place nodes)).decisions) is
    (fine_turned (all_read (take place nodes)).decisions (read_fine (take place nodes) (recursion_from_All IsFineNode (take place nodes) (All-take IsFineNode place nodes fine))))

-- The same of entries, each with its node.

entries_before : (entries : List GrowingNode) (place : ℕ) → map (λ (entry : GrowingNode). entry.node) (take place entries) ≡ take place (map (λ (entry : GrowingNode). entry.node) entries)
entries_before entries place = sym (take-map (λ (entry : GrowingNode). entry.node) place entries)

pub entries_way : (entries : List GrowingNode) (place : ℕ) → place < length entries → (tree : Tree) → preorder tree ≡ map (λ (entry : GrowingNode). entry.node) entries →
    reverse (all_read (map (λ (entry : GrowingNode). entry.node) (take place entries))).decisions ≡ branch_to [] tree place
entries_way entries place less tree is =
    let node_of = λ (entry : GrowingNode). entry.node in
    ap (λ (xs : List Node). reverse (all_read xs).decisions) (entries_before entries place)
    ∙ found_way (map node_of entries) place (omega (arith, less, length-map entries node_of)) tree is

pub entries_fine : (entries : List GrowingNode) (place : ℕ) (ds : List Decision) → ds ≡ reverse (all_read (map (λ (entry : GrowingNode). entry.node) (take place entries))).decisions →
    All (λ (entry : GrowingNode). IsFineNode entry.node) entries → All IsFineDecision ds
entries_fine entries place ds is fine =
    let node_of = λ (entry : GrowingNode). entry.node in
    found_fine (map node_of entries) place ds (is ∙ ap (λ (xs : List Node). reverse (all_read xs).decisions) (entries_before entries place)) (All-map IsFineNode node_of entries fine)
