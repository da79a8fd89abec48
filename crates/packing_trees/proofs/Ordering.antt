-- The reasons in their order: each stands where all before it is right, and what it names is not.
use Rattle.std.proofs.Common.{◌≡◌, ◌≢◌, ℕ, ◌-◌, ◌≤◌, ◌<◌, List, [], ◌∷◌, length, refl, sym, ap, ◌∙◌, arith, true, false, inl, inr, ◌⊎◌, Option, Some, None}
use Rattle.std.specs.Option.{is_some}
use Rattle.std.specs.List.{All}
use Rattle.std.proofs.lemmas.Bool.{cases_lt}
use Rattle.carp_base.specs.Problem.{Problem, IsRequired}
use Rattle.carp_base.specs.Packings.{IsGroup, IsPacking, group_load, group_of}
use Rattle.packing_trees.specs.declared.node.PackNode.{PackNode}
use Rattle.packing_trees.specs.declared.node.PackNode.TheVariants.{Apart}
use Rattle.packing_trees.specs.declared.reason.PackReason.{PackReason}
use Rattle.packing_trees.specs.declared.reason.PackReason.TheVariants.{GroupsDiffer, GroupWrong, GroupEmpty, Overload, NotWhole, Misfit, NotLean, ShareWrong, NotApart, LeafLow}
use Rattle.packing_trees.specs.Reasons.{AreWhole, Claim, FirstNodeFails, HasGroupEach, IsFilled, IsFirstEmpty, IsFirstMisfit, IsFirstOverload, IsFirstPackReason, IsFirstWrong, IsGoodPacking, NodeFits, NodesFail, NotWholeAt}
use Rattle.packing_trees.specs.Layers.{GroupsSay, IsFirstUnfit, NodesSay, PackSays, ShapeSays, claimed}
use Rattle.packing_trees.proofs.Filling.{not_whole_once, whole_or_not}
use Rattle.packing_trees.proofs.Standing.{proof_from, right_where, fits_where, nodes_right_or_not, nodes_fail_once, IsOfNode, of_nodes}

-- The first pair that does not fit.
pub misfit_from : (p : Problem) (nodes : List PackNode) (groups : List ℕ) (count bound : ℕ) → IsPacking p groups count → AreWhole nodes → (n : ℕ) → IsFirstUnfit p nodes n →
    IsFirstPackReason p (claimed groups count bound nodes) (Misfit n)
misfit_from p nodes groups count bound packing whole n first = (
  record { packing = packing; whole = whole },
  record {
    from_one = first.from_one;
    in_range = first.in_range;
    misfit = first.unfit;
    before = λ k from_one less. first.before (k - 1) (omega (arith, from_one, less));
  },
)

first_of_node : (p : Problem) (c : Claim) (r : PackReason) → IsOfNode r → NodesFail p c r → IsFirstPackReason p c r
first_of_node p c (NotLean n) is fails = fails
first_of_node p c (ShareWrong n) is fails = fails
first_of_node p c (NotApart n) is fails = fails
first_of_node p c (LeafLow n value) is fails = fails
first_of_node p c _ is fails = absurd is

-- What the parts find, joined.
pub by_groups : (p : Problem) (groups : List ℕ) (count bound : ℕ) (nodes : List PackNode) (reason : Option PackReason) → true ≡ is_some reason → GroupsSay p groups count reason → PackSays p (claimed groups count bound nodes) reason
by_groups p groups count bound nodes None some says = cc
by_groups p groups count bound nodes (Some r) some says = says bound nodes

pub by_shape : (p : Problem) (groups : List ℕ) (count bound : ℕ) (nodes : List PackNode) (reason : Option PackReason) → true ≡ is_some reason → IsPacking p groups count → ShapeSays p nodes reason → PackSays p (claimed groups count bound nodes) reason
by_shape p groups count bound nodes None some packing says = cc
by_shape p groups count bound nodes (Some r) some packing says = says groups count bound packing

pub is_packing : (p : Problem) (groups : List ℕ) (count : ℕ) (reason : Option PackReason) → false ≡ is_some reason → GroupsSay p groups count reason → IsPacking p groups count
is_packing p groups count None none says = says
is_packing p groups count (Some r) none says = cc

pub is_tree : (p : Problem) (nodes : List PackNode) (reason : Option PackReason) → false ≡ is_some reason → ShapeSays p nodes reason → AreWhole nodes × All (NodeFits p) nodes
is_tree p nodes None none says = says
is_tree p nodes (Some r) none says = cc

pub by_nodes : (p : Problem) (groups : List ℕ) (count bound : ℕ) (nodes : List PackNode) (reason : Option PackReason) → IsPacking p groups count → AreWhole nodes × All (NodeFits p) nodes → NodesSay p bound nodes reason →
    PackSays p (claimed groups count bound nodes) reason
by_nodes p groups count bound nodes None packing tree says = record { packing = packing; proof = proof_from p bound nodes tree.0 tree.1 says }
by_nodes p groups count bound nodes (Some r) packing tree says =
    first_of_node p (claimed groups count bound nodes) r (of_nodes p bound nodes 1 ([] ∷ []) r says) (record { tree = record { packing = packing; whole = tree.0 }; fits = tree.1 }, says)

-- At most one reason.
abbrev Then : (F : PackReason → Type 0) (Right : Type 0) (More : PackReason → Type 0) → PackReason → Type 0
Then F Right More r = F r ⊎ (Right × More r)

one_of : (F : PackReason → Type 0) (Right : Type 0) (More : PackReason → Type 0) → ((r : PackReason) → F r → Right → ⊥) → ((r q : PackReason) → F r → F q → r ≡ q) →
    ((r q : PackReason) → More r → More q → r ≡ q) → (r q : PackReason) → Then F Right More r → Then F Right More q → r ≡ q
one_of F Right More apart once more r q (inl here) (inl there) = once r q here there
one_of F Right More apart once more r q (inl here) (inr later) = absurd (apart r here later.0)
one_of F Right More apart once more r q (inr later) (inl here) = absurd (apart q here later.0)
one_of F Right More apart once more r q (inr later) (inr also) = more r q later.1 also.1

none_of : (F : PackReason → Type 0) (Right : Type 0) (More : PackReason → Type 0) → ((r : PackReason) → F r → Right → ⊥) → Right → ((r : PackReason) → More r → ⊥) → (r : PackReason) → Then F Right More r → ⊥
none_of F Right More apart right none r (inl here) = apart r here right
none_of F Right More apart right none r (inr later) = none r later.1

only_one : (n m : ℕ) → (n < m → ⊥) → (m < n → ⊥) → n ≡ m
only_one n m not_less not_more = elim (cases_lt n m) [
  | inl less ↦ absurd (not_less less)
  | inr more ↦ elim (cases_lt m n) [ inl less ↦ absurd (not_more less) | inr same ↦ omega (arith, more, same) ]
]

module _ (p : Problem) (c : Claim) where
  record Differs (r : PackReason) : Type 0 where
    pub is : r ≡ GroupsDiffer (length c.groups) p.required
    pub differs : length c.groups ≢ p.required

  record Wrong (r : PackReason) : Type 0 where
    pub edge : ℕ
    pub is : r ≡ GroupWrong edge
    pub first : IsFirstWrong p c edge

  record Empty (r : PackReason) : Type 0 where
    pub group : ℕ
    pub is : r ≡ GroupEmpty group
    pub first : IsFirstEmpty p c group

  record Over (r : PackReason) : Type 0 where
    pub group : ℕ
    pub load : ℕ
    pub is : r ≡ Overload group load
    pub first : IsFirstOverload p c group load

  record Short (r : PackReason) : Type 0 where
    pub place : ℕ
    pub is : r ≡ NotWhole place
    pub fails : NotWholeAt 1 0 c.nodes place

  record Unfit (r : PackReason) : Type 0 where
    pub node : ℕ
    pub is : r ≡ Misfit node
    pub first : IsFirstMisfit p c node

  abbrev Placed : Type 0
  Placed = (e : ℕ) → IsRequired p e → IsGroup c.count (group_of c.groups e)

  abbrev Filled : Type 0
  Filled = (g : ℕ) → IsGroup c.count g → IsFilled p c g

  abbrev Light : Type 0
  Light = (g : ℕ) → IsGroup c.count g → group_load p c.groups g ≤ p.capacity

  abbrev InNodes : PackReason → Type 0
  InNodes r = FirstNodeFails p c.bound 1 c.nodes ([] ∷ []) r

  abbrev Order6 : PackReason → Type 0
  Order6 = Then Unfit (All (NodeFits p) c.nodes) InNodes

  abbrev Order5 : PackReason → Type 0
  Order5 = Then Short (AreWhole c.nodes) Order6

  abbrev Order4 : PackReason → Type 0
  Order4 = Then Over Light Order5

  abbrev Order3 : PackReason → Type 0
  Order3 = Then Empty Filled Order4

  abbrev Order2 : PackReason → Type 0
  Order2 = Then Wrong Placed Order3

  abbrev Order1 : PackReason → Type 0
  Order1 = Then Differs (HasGroupEach p c) Order2

  at_tree : (r : PackReason) → IsPacking p c.groups c.count → Order5 r → Order1 r
  at_tree r packing more = inr (packing.one_each, inr (packing.placed, inr (packing.none_empty, inr (packing.loads, more))))

  at_nodes : (r : PackReason) → NodesFail p c r → Order1 r
  at_nodes r fails = at_tree r fails.0.tree.packing (inr (fails.0.tree.whole, inr (fails.0.fits, fails.1)))

  in_order : (r : PackReason) → IsFirstPackReason p c r → Order1 r
  in_order (GroupsDiffer stated found) h =
      inl (record { is = ap (λ n. GroupsDiffer n found) h.0 ∙ ap (GroupsDiffer (length c.groups)) h.1; differs = λ same. h.2 (h.0 ∙ same ∙ sym h.1) })
  in_order (GroupWrong e) h = inr (h.0, inl (record { edge = e; is = refl; first = h.1 }))
  in_order (GroupEmpty g) h = inr (h.0.one_each, inr (h.0.placed, inl (record { group = g; is = refl; first = h.1 })))
  in_order (Overload g load) h = inr (h.0.groups.one_each, inr (h.0.groups.placed, inr (h.0.filled, inl (record { group = g; load = load; is = refl; first = h.1 }))))
  in_order (NotWhole n) h = at_tree (NotWhole n) h.0 (inl (record { place = n; is = refl; fails = h.1 }))
  in_order (Misfit n) h = at_tree (Misfit n) h.0.packing (inr (h.0.whole, inl (record { node = n; is = refl; first = h.1 })))
  in_order (NotLean n) h = at_nodes (NotLean n) h
  in_order (ShareWrong n) h = at_nodes (ShareWrong n) h
  in_order (NotApart n) h = at_nodes (NotApart n) h
  in_order (LeafLow n value) h = at_nodes (LeafLow n value) h

  differs_apart : (r : PackReason) → Differs r → HasGroupEach p c → ⊥
  differs_apart r one each = one.differs each

  differs_once : (r q : PackReason) → Differs r → Differs q → r ≡ q
  differs_once r q one other = one.is ∙ sym other.is

  wrong_apart : (r : PackReason) → Wrong r → Placed → ⊥
  wrong_apart r one all = one.first.wrong (all one.edge one.first.required)

  wrong_once : (r q : PackReason) → Wrong r → Wrong q → r ≡ q
  wrong_once r q one other =
      one.is ∙ ap GroupWrong (only_one one.edge other.edge (λ less. one.first.wrong (other.first.before one.edge one.first.required less)) (λ less. other.first.wrong (one.first.before other.edge other.first.required less)))
      ∙ sym other.is

  empty_apart : (r : PackReason) → Empty r → Filled → ⊥
  empty_apart r one all = one.first.empty (all one.group one.first.group)

  empty_once : (r q : PackReason) → Empty r → Empty q → r ≡ q
  empty_once r q one other =
      one.is ∙ ap GroupEmpty (only_one one.group other.group (λ less. one.first.empty (other.first.before one.group one.first.group less)) (λ less. other.first.empty (one.first.before other.group other.first.group less)))
      ∙ sym other.is

  over_apart : (r : PackReason) → Over r → Light → ⊥
  over_apart r one all = omega (arith, all one.group one.first.group, one.first.above, one.first.load_is)

  over_once : (r q : PackReason) → Over r → Over q → r ≡ q
  over_once r q one other =
      let groups : one.group ≡ other.group = only_one one.group other.group
      (λ less. omega (arith, other.first.before one.group one.first.group less, one.first.above, one.first.load_is))
      (λ less. omega (arith, one.first.before other.group other.first.group less, other.first.above, other.first.load_is)) in
      let loads : one.load ≡ other.load = one.first.load_is ∙ ap (group_load p c.groups) groups ∙ sym other.first.load_is in
      one.is ∙ ap (λ g. Overload g one.load) groups ∙ ap (Overload other.group) loads ∙ sym other.is

  short_apart : (r : PackReason) → Short r → AreWhole c.nodes → ⊥
  short_apart r one whole = whole_or_not c.nodes one.place whole one.fails

  short_once : (r q : PackReason) → Short r → Short q → r ≡ q
  short_once r q one other = one.is ∙ ap NotWhole (not_whole_once c.nodes 1 0 one.place other.place one.fails other.fails) ∙ sym other.is

  unfit_apart : (r : PackReason) → Unfit r → All (NodeFits p) c.nodes → ⊥
  unfit_apart r one all = one.first.misfit (all (one.node - 1) Apart (omega (arith, one.first.from_one, one.first.in_range)))

  unfit_once : (r q : PackReason) → Unfit r → Unfit q → r ≡ q
  unfit_once r q one other =
      one.is ∙ ap Misfit (only_one one.node other.node (λ less. one.first.misfit (other.first.before one.node one.first.from_one less)) (λ less. other.first.misfit (one.first.before other.node other.first.from_one less)))
      ∙ sym other.is

  pub once : (r q : PackReason) → IsFirstPackReason p c r → IsFirstPackReason p c q → r ≡ q
  once r q one other =
      one_of Differs (HasGroupEach p c) Order2 differs_apart differs_once
      (one_of Wrong Placed Order3 wrong_apart wrong_once
      (one_of Empty Filled Order4 empty_apart empty_once
      (one_of Over Light Order5 over_apart over_once
      (one_of Short (AreWhole c.nodes) Order6 short_apart short_once
      (one_of Unfit (All (NodeFits p) c.nodes) InNodes unfit_apart unfit_once (nodes_fail_once p c.bound c.nodes 1 ([] ∷ [])))))))
      r q (in_order r one) (in_order q other)

  pub none : IsGoodPacking p c → (r : PackReason) → IsFirstPackReason p c r → ⊥
  none good r first =
      none_of Differs (HasGroupEach p c) Order2 differs_apart good.packing.one_each
      (none_of Wrong Placed Order3 wrong_apart good.packing.placed
      (none_of Empty Filled Order4 empty_apart good.packing.none_empty
      (none_of Over Light Order5 over_apart good.packing.loads
      (none_of Short (AreWhole c.nodes) Order6 short_apart (good.proof.tree, good.proof.nodes_are)
      (none_of Unfit (All (NodeFits p) c.nodes) InNodes unfit_apart (fits_where p c.bound c.nodes good.proof)
      (λ q fails. nodes_right_or_not p c.bound c.nodes 1 ([] ∷ []) q (right_where p c.bound c.nodes good.proof) fails))))))
      r (in_order r first)
