-- When a line is whole, and what is made of it.
use Rattle.std.specs.Prelude.{◌≡◌, ℕ, ◌≤◌, ◌==◌, ◌&&◌, ◌||◌, Bool, true, false, not, List, [], ◌∷◌, ◌++◌, length, slice_index, is_none, ◌⊎◌}
use Rattle.cert_lines.specs.declared.item.Item.{Item}
use Rattle.cert_lines.specs.declared.item.Item.TheVariants.{Quiet, Head, Node, Whole}
use Rattle.branch_rules.specs.declared.node.Node.{Node as NodeValue}
use Rattle.cert_lines.specs.Lines.{Line, node, shore, sets, weights, bonds, nothing, words_of}
use Rattle.cert_lines.specs.Certificates.{nodes_of, shores_of, unit_of, services_of, sets_of}
use Rattle.branch_rules.specs.declared.node.Node.TheVariants as nodes_are
use Rattle.branch_rules.specs.declared.weight.Weight.{Weight}
use Rattle.branch_rules.specs.Limits.{IsPriceSet}
use Rattle.branch_rules.specs.Bonds.{GroupWeight}
use Rattle.cut_pool.specs.Shores.{IsShore}
use Rattle.cut_pool.specs.Pools.{Holds}
use Rattle.cert_lines.specs.Order.{LatestFirst, version_of, next_of, follows}
use Rattle.cert_lines.specs.Ranges.{IsInRange}
use Rattle.cert_lines.specs.Agreement.{Agrees, IsPairInOrder, BecomesWhole, SomeSetHasGroups}
use Rattle.cert_lines.specs.Texts.{items_of}
use Rattle.cert_format.specs.declared.draft.Draft.{Draft}
use Rattle.cert_format.specs.declared.judging.Verdict.{Verdict}
use Rattle.cert_format.specs.declared.judging.Verdict.TheVariants.{Syntax, Limit, Good}
use Rattle.cert_format.specs.declared.line.Context.{Context}
use Rattle.cert_format.specs.declared.line.LineState.{LineState}
use Rattle.cert_format.specs.declared.kind.Kind.{Kind}
use Rattle.cert_format.specs.declared.kind.Kind.TheVariants.{Version, Tour, Shore, Prices, Weights, Bonds, Pair, Cut, Price, Void}
use Rattle.cert_format.specs.declared.items.Items.{Items}
use Rattle.cert_format.specs.declared.groups.Awaited.{Awaited}
use Rattle.cert_format.specs.declared.groups.Awaited.TheVariants as awaited
use Rattle.cert_format.specs.Groups.{AreSetGroups}
use Rattle.cert_format.specs.Certs.{stated_nodes}
use Rattle.cert_format.specs.Drafts.{HoldsDraft}

-- the version is one that there is, and no weight is to come
abbrev pub ends_well : Kind → LineState → Bool
ends_well Version line = (slice_index line.fields.items 0 == 1) || (slice_index line.fields.items 0 == 2) || (slice_index line.fields.items 0 == 4)
ends_well Weights line = is_none line.waiting
ends_well _ line = true

-- the items that came are in range
abbrev pub list_in_range : Kind → LineState → Bool
list_in_range Tour line = line.steps.in_range
list_in_range Shore line = line.vertices.in_range
list_in_range Prices line = line.services.in_range
list_in_range Weights line = line.weights.in_range
list_in_range Bonds line = line.groups.in_range
list_in_range _ line = true

-- as many items came as are stated
abbrev pub are_stated : {T : Type 0} → Items T → Bool
are_stated items = not items.more && (items.found == items.stated)

-- the last group is complete
abbrev pub awaits_weight : Awaited → Bool
awaits_weight awaited.Weight = true
awaits_weight _ = false

abbrev pub has_stated : Kind → LineState → Bool
has_stated Tour line = not line.steps.more && (length line.steps.kept.items == slice_index line.fields.items 0)
has_stated Shore line = are_stated line.vertices
has_stated Prices line = are_stated line.services
has_stated Weights line = are_stated line.weights
has_stated Bonds line = line.groups.in_order && awaits_weight line.groups.awaited && (length line.groups.kept.items == slice_index line.fields.items 0)
has_stated _ line = true

abbrev pub context_of : Draft → Context
context_of draft = record { next = draft.next; steps = draft.steps; shores = length draft.head.shores; sets = length draft.head.sets.items }

-- the items that a call gives
abbrev pub item_list : Item → List Item
item_list Quiet = []
item_list Head = Head ∷ []
item_list (Node x) = Node x ∷ []
item_list Whole = Whole ∷ []

-- the number of nodes that is stated stays, until it is given with the head; then there are no nodes yet
abbrev pub Steady : Item → (after before : LatestFirst) → Type 0
Steady Quiet after before = stated_nodes after ≡ stated_nodes before
Steady Head after before = nodes_of after ≡ []
Steady (Node x) after before = stated_nodes after ≡ stated_nodes before
Steady Whole after before = stated_nodes after ≡ stated_nodes before

-- the words are those of a line that may stand there
pub record IsLine (said : LatestFirst) (words : List (List ℕ)) (line : Line) : Type 0 where
  pub follows : follows (next_of said) line ≡ true
  pub spells : words_of line ≡ words

-- the line agrees, and the draft holds it too
pub record IsGood (said : LatestFirst) (words : List (List ℕ)) (new : Draft) (item : Item) (line : Line) : Type 0 where
  pub is : IsLine said words line
  pub in_range : IsInRange said line
  pub agrees : Agrees said line
  pub held : HoldsDraft new (line ∷ said)
  pub gives : items_of (line ∷ said) ≡ items_of said ++ item_list item
  pub steady : Steady item (line ∷ said) said

pub record IsOdd (said : LatestFirst) (words : List (List ℕ)) (line : Line) : Type 0 where
  pub is : IsLine said words line
  pub in_range : IsInRange said line
  pub disagrees : Agrees said line → ⊥

pub record IsPast (said : LatestFirst) (words : List (List ℕ)) (line : Line) : Type 0 where
  pub is : IsLine said words line
  pub past : IsInRange said line → ⊥

-- what is made of the words
abbrev pub Judged : Verdict → LatestFirst → List (List ℕ) → Draft → Type 0
Judged Syntax said words new = HoldsDraft new said × (((line : Line) → IsLine said words line → ⊥) ⊎ ((line : Line) × IsOdd said words line))
Judged Limit said words new = HoldsDraft new said × ((line : Line) × IsPast said words line)
Judged (Good item) said words new = (line : Line) × IsGood said words new item line

-- what is made of a node
abbrev pub NodeJudged : Verdict → NodeValue → (left subtrees : ℕ) → LatestFirst → Draft → Type 0
NodeJudged Syntax x left subtrees said new = HoldsDraft new said × (IsPairInOrder x → BecomesWhole left subtrees x → ⊥)
NodeJudged Limit x left subtrees said new = ⊥
NodeJudged (Good item) x left subtrees said new = HoldsDraft new (node x ∷ said) × IsPairInOrder x × BecomesWhole left subtrees x × (item ≡ Node x)

-- the numbers of a node fit its fields
abbrev pub AreNodeNumbers : Kind → List ℕ → Type 0
AreNodeNumbers Pair f = (slice_index f 0 ≤ 600) × (slice_index f 1 ≤ 600)
AreNodeNumbers Cut f = slice_index f 0 ≤ 2000
AreNodeNumbers Price f = slice_index f 0 ≤ 256
AreNodeNumbers _ f = Unit {0}

-- the node of a line of the tree
abbrev pub node_with : Kind → List ℕ → NodeValue
node_with Pair f = nodes_are.Pair (slice_index f 0) (slice_index f 1)
node_with Cut f = nodes_are.Cut (slice_index f 0) (slice_index f 1)
node_with Price f = nodes_are.Price (slice_index f 0)
node_with Void f = nodes_are.Void
node_with _ f = nodes_are.Fixed

-- what is made of a shore
abbrev pub ShoreJudged : Verdict → List ℕ → LatestFirst → Draft → Type 0
ShoreJudged Syntax vertices said new = HoldsDraft new said × (IsShore vertices → Holds (shores_of said) vertices)
ShoreJudged Limit vertices said new = ⊥
ShoreJudged (Good item) vertices said new = HoldsDraft new (shore (length vertices) vertices ∷ said) × IsShore vertices × (¬ (Holds (shores_of said) vertices)) × (item ≡ Quiet)

-- what is made of weights
abbrev pub WeightsJudged : Verdict → List Weight → LatestFirst → Draft → Type 0
WeightsJudged Syntax ws said new = HoldsDraft new said × (IsPriceSet (record { unit = unit_of said; services = services_of said; weights = ws; groups = [] }) → ⊥)
WeightsJudged Limit ws said new = ⊥
WeightsJudged (Good item) ws said new = HoldsDraft new (weights (length ws) ws ∷ said) × IsPriceSet (record { unit = unit_of said; services = services_of said; weights = ws; groups = [] }) × (item ≡ Quiet)

-- what is made of the number of sets
abbrev pub SetsJudged : Verdict → ℕ → LatestFirst → Draft → Type 0
SetsJudged Syntax n said new = HoldsDraft new said × (version_of said ≡ 4) × (n ≡ 0)
SetsJudged Limit n said new = ⊥
SetsJudged (Good item) n said new = HoldsDraft new (sets n ∷ said) × (version_of said ≡ 4 → 1 ≤ n) × (item ≡ Quiet)

-- what is made of groups; so many sets are to come, this one too
abbrev pub GroupsJudged : Verdict → List GroupWeight → (left : ℕ) → LatestFirst → Draft → Type 0
GroupsJudged Syntax groups left said new = HoldsDraft new said × (AreSetGroups groups → SomeSetHasGroups left (sets_of (bonds (length groups) groups nothing ∷ said)) → ⊥)
GroupsJudged Limit groups left said new = ⊥
GroupsJudged (Good item) groups left said new =
    HoldsDraft new (bonds (length groups) groups nothing ∷ said) × AreSetGroups groups
    × SomeSetHasGroups left (sets_of (bonds (length groups) groups nothing ∷ said)) × (item ≡ Quiet)
