-- What the leaves that are left say at the end.
use Rattle.std.proofs.Common.{ap, refl, ◌≡◌, ℕ, ◌+◌, ◌*◌, ◌≤◌, ◌<◌, List, [], ◌∷◌, ◌++◌, length, reverse, take, get_or, min, if◌then◌else◌, nat_le, sym, ◌∙◌, subst, arith, inl, inr, ◌⊎◌, Result, Ok, Err, IfOk}
use Rattle.std.specs.List.{All}
use Rattle.std.proofs.lemmas.List.{take_more}
use Rattle.std.proofs.lemmas.List.Elements.{All-append, All-cons, All-nil, All-weaker, All-tail, All-head}
use Rattle.std.proofs.lemmas.List.Sorted.{All-permutation, IsPermutation-reverse, sum_by-IsPermutation, IsPermutation-sym}
use Rattle.std.proofs.lemmas.Bool.{cases_lt}
use Rattle.carp_base.specs.Problem.{Problem, IsValid}
use Rattle.packing_trees.specs.declared.node.PackChoice.{PackChoice}
use Rattle.packing_trees.specs.declared.node.PackNode.{PackNode}
use Rattle.carp_base.specs.declared.fail.Memory.{Memory}
use Rattle.packing_trees.specs.declared.packing.Packing.{Packing}
use Rattle.packing_trees.specs.Laws.{ProofsBoundPackings}
use Rattle.fleet_pack.specs.declared.search.Search.{Search}
use Rattle.fleet_pack.specs.declared.share.Share.{Share}
use Rattle.fleet_pack.specs.Packed.{HasTree, IsPacked}
use Rattle.fleet_pack.specs.Laws.{LeanTreesAreSmall}
use Rattle.fleet_pack.specs.FirstFit.{first_fit_count}
use Rattle.fleet_pack.specs.States.{HasEnded, IsFinished, AreLeaves, IsLeastValue, IsState, closed_count, leaves_of, share_nodes, waiting_for}
use Rattle.packing_trees.specs.Reasons.{branches_below}
use Rattle.packing_trees.specs.declared.node.PackNode.TheVariants as nodes
use Rattle.std.proofs.lemmas.List.{length-append, length-map}
use Rattle.fleet_pack.proofs.Growing.{ends}

All-last : {X : Type 0} (P : X → Type 0) (xs : List X) (x : X) → All P (xs ++ x ∷ []) → All P xs × P x
All-last P [] x all = (All-nil P, All-head P x [] all)
All-last P (y ∷ xs) x all = let rest = All-last P xs x (All-tail P y (xs ++ x ∷ []) all) in (All-cons P y xs (All-head P y (xs ++ x ∷ []) all) rest.0, rest.1)

least_with : (count least : ℕ) (shares : List Share) (x : Share) → IsLeastValue count shares least → IsLeastValue count (shares ++ x ∷ []) (min least x.value)
least_with count least shares x was = record {
  most = omega (arith, was.most);
  each = All-append (λ (y : Share). min least x.value ≤ y.value) shares (x ∷ [])
      (All-weaker (λ (y : Share). least ≤ y.value) (λ (y : Share). min least x.value ≤ y.value) (λ y le. omega (arith, le)) shares was.each)
      (All-cons (λ (y : Share). min least x.value ≤ y.value) x [] (omega arith) (All-nil (λ (y : Share). min least x.value ≤ y.value)));
  greatest = λ b le all.
      let parts = All-last (λ (y : Share). b ≤ y.value) shares x all in
      omega (arith, was.greatest b le parts.0, parts.1);
}

pub least_more : (count least now : ℕ) (shares : List Share) (i : ℕ) (d : Share) → i < length shares → now ≡ min least (get_or shares i d).value → IsLeastValue count (take i shares) least →
    IsLeastValue count (take (i + 1) shares) now
least_more count least now shares i d less is was =
    subst (IsLeastValue count (take (i + 1) shares)) (sym is)
    (subst (λ xs. IsLeastValue count xs (min least (get_or shares i d).value)) (sym (take_more shares i d less)) (least_with count least (take i shares) (get_or shares i d) was))

least_turned : (count bound : ℕ) (shares : List Share) → IsLeastValue count shares bound → IsLeastValue count (reverse shares) bound
least_turned count bound shares was = record {
  most = was.most;
  each = All-permutation (λ (y : Share). bound ≤ y.value) shares (reverse shares) (IsPermutation-reverse shares) was.each;
  greatest = λ b le all. was.greatest b le (All-permutation (λ (y : Share). b ≤ y.value) (reverse shares) shares (IsPermutation-sym shares (reverse shares) (IsPermutation-reverse shares)) all);
}

count_turned : (count : ℕ) (shares : List Share) → closed_count count (reverse shares) ≡ closed_count count shares
count_turned count shares = sum_by-IsPermutation (λ (x : Share). if nat_le count x.value then 1 else 0) shares (reverse shares) (IsPermutation-reverse shares)

pub has_tree : (p : Problem) (taken : List PackNode) (path : List PackChoice) (shares : List Share) (found : Packing) →
    IsState p found.count taken path (reverse shares) → IsLeastValue found.count shares found.bound → found.turns ≡ length taken + closed_count found.count shares →
    found.tree.items ≡ taken ++ share_nodes (reverse shares) → HasTree p found
has_tree p taken path shares found state least turns are =
    let end = ends p found.count found.bound found.turns taken path (reverse shares) state (least_turned found.count found.bound shares least) (omega (arith, turns, count_turned found.count shares)) in record {
      tree = end.tree;
      nodes_are = end.are ∙ sym are;
      pairs = end.pairs;
      lean = end.lean;
      shows = end.shows;
      most = least.most;
      greatest = end.greatest;
      turns_are = end.turns_are;
    }

pub has_ended : (count bound limit turns now : ℕ) (shares : List Share) → IsLeastValue count shares bound → All (λ x. count ≤ x.value) shares ⊎ (limit ≤ turns) → now ≡ turns → bound < count → limit ≤ now
has_ended count bound limit turns now shares least (inl all) same low = absurd (omega (arith, least.greatest count (omega arith) all, low))
has_ended count bound limit turns now shares least (inr up) same low = omega (arith, up, same)

-- Few nodes.

wait_fewer : (branch : List PackChoice) (node : PackNode) (waiting : List (List PackChoice)) → length (branches_below branch node ++ waiting) ≤ length waiting + 2
wait_fewer branch (nodes.Pair a b) waiting = omega arith
wait_fewer branch (nodes.Share s) waiting = omega arith
wait_fewer branch nodes.Apart waiting = omega arith

few_wait : (taken : List PackNode) (waiting : List (List PackChoice)) → length (waiting_for taken waiting) ≤ length waiting + length taken
few_wait [] waiting = omega arith
few_wait (x ∷ taken) [] = omega arith
few_wait (x ∷ taken) (b ∷ waiting) = omega (arith, few_wait taken (branches_below b x ++ waiting), wait_fewer b x waiting)

one_each : (p : Problem) (branches : List (List PackChoice)) (shares : List Share) → AreLeaves p branches shares → length shares ≡ length branches
one_each p [] [] leaves = refl
one_each p [] (x ∷ shares) leaves = absurd leaves
one_each p (b ∷ branches) [] leaves = absurd leaves
one_each p (b ∷ branches) (x ∷ shares) leaves = omega (arith, one_each p branches shares leaves.1)

pub few_nodes : (p : Problem) (count : ℕ) (taken all : List PackNode) (path : List PackChoice) (shares : List Share) → IsState p count taken path (reverse shares) →
    all ≡ taken ++ share_nodes (reverse shares) → length all ≤ 2 * length taken + 1
few_nodes p count taken all path shares state is =
    let long : length all ≡ length taken + length (share_nodes (reverse shares)) = ap length is ∙ length-append taken (share_nodes (reverse shares)) in
    let same : length (share_nodes (reverse shares)) ≡ length (reverse shares) = length-map (reverse shares) (λ (x : Share). nodes.Share x.s) in
    let wait : length (waiting_for taken ([] ∷ [])) ≡ length (leaves_of path (reverse shares)) = ap length state.reads in
    omega (arith, long, same, wait, one_each p (leaves_of path (reverse shares)) (reverse shares) state.leaves, few_wait taken ([] ∷ []))

-- the whole answer
pub is_packed : (p : Problem) (turns : ℕ) (search : Search) (found : Packing) → IsValid p → ProofsBoundPackings → LeanTreesAreSmall → search.best.count ≤ first_fit_count p →
    HasEnded turns search → length search.nodes.items ≤ turns → IsFinished p search found → IsPacked p turns found
is_packed p turns search found valid bounds small fewer ended few done = record {
  packing = done.packing;
  first_fit = omega (arith, done.count_is, fewer);
  tree = done.tree;
  few = omega (arith, done.few, few);
  ended = done.ended turns ended;
  whole = λ many. elim (cases_lt found.bound found.count) [
    | inl low ↦ absurd (omega (arith, many, done.ended turns ended low, done.tree.turns_are, small p found.count done.tree.tree done.tree.pairs done.tree.lean))
    | inr high ↦ omega (arith, high, done.tree.most)
  ];
  exact = λ groups count packs. bounds p found.tree.items found.bound groups count valid
      (record { tree = done.tree.tree; nodes_are = done.tree.nodes_are; pairs = done.tree.pairs; lean = done.tree.lean; shows = done.tree.shows }) packs;
}

pub if_ok_then : {P Q : Packing → Type 0} (r : Result Packing Memory) → ((found : Packing) → P found → Q found) → IfOk r P → IfOk r Q
if_ok_then (Ok found) then_so holds = then_so found holds
if_ok_then (Err e) then_so holds = tt
