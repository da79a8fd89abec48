-- The kinds of lines, and what follows their first words.
use Rattle.std.specs.Prelude.{◌≡◌, ◌⊎◌, ℕ, List, [], ◌∷◌, codes}
use Rattle.cert_lines.specs.declared.next.Next.{Next}
use Rattle.cert_lines.specs.declared.next.Next.TheVariants as stands
use Rattle.cert_lines.specs.Order.{left_of, open_of}
use Rattle.cert_format.specs.declared.kind.Kind.{Kind}
use Rattle.cert_format.specs.declared.kind.Kind.TheVariants.{Version, Counts, Cost, Bound, Tours, Tour, Shores, Shore, Sets, Prices, Weights, Bonds, Nodes, Pair, Cut, Price, Void, Fixed, End}

-- the first word of a line of this kind
abbrev pub keyword : Kind → List ℕ
keyword Version = codes "carp-certificate"
keyword Counts = codes "instance"
keyword Cost = codes "cost"
keyword Bound = codes "bound"
keyword Tours = codes "tours"
keyword Tour = codes "tour"
keyword Shores = codes "shores"
keyword Shore = codes "shore"
keyword Sets = codes "sets"
keyword Prices = codes "prices"
keyword Weights = codes "weights"
keyword Bonds = codes "bonds"
keyword Nodes = codes "nodes"
keyword Pair = codes "pair"
keyword Cut = codes "cut"
keyword Price = codes "price"
keyword Void = codes "void"
keyword Fixed = codes "fixed"
keyword End = codes "end"

-- how many numbers follow it, before the items
abbrev pub field_count : Kind → ℕ
field_count Version = 1
field_count Counts = 5
field_count Cost = 1
field_count Bound = 1
field_count Tours = 1
field_count Tour = 1
field_count Shores = 1
field_count Shore = 1
field_count Sets = 1
field_count Prices = 2
field_count Weights = 1
field_count Bonds = 1
field_count Nodes = 1
field_count Pair = 2
field_count Cut = 2
field_count Price = 1
field_count Void = 0
field_count Fixed = 0
field_count End = 0

-- the kinds of lines that may stand next
abbrev pub expected : Next → List Kind
expected stands.Version = Version ∷ []
expected stands.Counts = Counts ∷ []
expected stands.Cost = Cost ∷ []
expected stands.Bound = Bound ∷ []
expected stands.Tours = Tours ∷ []
expected (stands.Tour left) = Tour ∷ []
expected stands.Shores = Shores ∷ []
expected (stands.Shore left) = Shore ∷ []
expected stands.Sets = Sets ∷ []
expected (stands.Prices left) = Prices ∷ []
expected (stands.Weights left) = Weights ∷ []
expected (stands.Bonds left) = Bonds ∷ []
expected stands.Nodes = Nodes ∷ []
expected (stands.Node left subtrees) = Pair ∷ Cut ∷ Price ∷ Void ∷ Fixed ∷ []
expected stands.End = End ∷ []
expected stands.Nothing = []

-- the kind is one of these
abbrev pub IsOneOf : List Kind → Kind → Type 0
IsOneOf [] kind = ⊥
IsOneOf (k ∷ kinds) kind = (kind ≡ k) ⊎ IsOneOf kinds kind

-- the word begins a line of this kind, which may stand next
pub record IsKindOf (next : Next) (text : List ℕ) (kind : Kind) : Type 0 where
  pub expected : IsOneOf (expected next) kind
  pub word : text ≡ keyword kind

-- the word begins no line that may stand next
abbrev pub IsNoneOf : List Kind → List ℕ → Type 0
IsNoneOf [] text = Unit {0}
IsNoneOf (k ∷ kinds) text = (text ≡ keyword k → ⊥) × IsNoneOf kinds text

abbrev pub IsOfNoKind : Next → List ℕ → Type 0
IsOfNoKind next text = IsNoneOf (expected next) text

-- what stands next if a line of this kind may stand there
abbrev pub next_for : Kind → Next → Next
next_for Version next = stands.Version
next_for Counts next = stands.Counts
next_for Cost next = stands.Cost
next_for Bound next = stands.Bound
next_for Tours next = stands.Tours
next_for Tour next = stands.Tour (left_of next)
next_for Shores next = stands.Shores
next_for Shore next = stands.Shore (left_of next)
next_for Sets next = stands.Sets
next_for Prices next = stands.Prices (left_of next)
next_for Weights next = stands.Weights (left_of next)
next_for Bonds next = stands.Bonds (left_of next)
next_for Nodes next = stands.Nodes
next_for Pair next = stands.Node (left_of next) (open_of next)
next_for Cut next = stands.Node (left_of next) (open_of next)
next_for Price next = stands.Node (left_of next) (open_of next)
next_for Void next = stands.Node (left_of next) (open_of next)
next_for Fixed next = stands.Node (left_of next) (open_of next)
next_for End next = stands.End
