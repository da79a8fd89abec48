-- Each line has a kind, numbers and items, by which it is spelled.
use Rattle.std.proofs.Common.{◌≡◌, ℕ, ◌+◌, ◌*◌, eqb, true, false, List, [], ◌∷◌, length, None, refl, sym, ap, ◌∙◌, inl, inr, if◌then◌else◌}
use Rattle.std.specs.List.{flat_map}
use Rattle.std.proofs.lemmas.List.{append-nil}
use Rattle.branch_rules.specs.declared.node.Node.TheVariants as nodes_are
use Rattle.cert_lines.specs.declared.next.Next.{Next}
use Rattle.cert_lines.specs.declared.next.Next.TheVariants as stands
use Rattle.cert_lines.specs.Numerals.{numeral}
use Rattle.cert_lines.specs.Lines.{Line, weight_words, words_of}
use Rattle.cert_lines.specs.Lines as lines
use Rattle.cert_lines.specs.Order.{follows}
use Rattle.cert_format.specs.declared.kind.Kind.{Kind}
use Rattle.cert_format.specs.declared.kind.Kind.TheVariants.{Version, Counts, Cost, Bound, Tours, Tour, Shores, Shore, Sets, Prices, Weights, Bonds, Nodes, Pair, Cut, Price, Void, Fixed, End}
use Rattle.cert_format.specs.Kinds.{expected, field_count, keyword, IsOneOf, IsNoneOf}
use Rattle.cert_format.specs.Parts.{LineItems, no_items, part_words}

abbrev pub kind_in : Line → Kind
kind_in (lines.version n) = Version
kind_in (lines.counts c) = Counts
kind_in (lines.cost n) = Cost
kind_in (lines.bound n) = Bound
kind_in (lines.tours n) = Tours
kind_in (lines.tour n steps) = Tour
kind_in (lines.shores n) = Shores
kind_in (lines.shore n vertices) = Shore
kind_in (lines.sets n) = Sets
kind_in (lines.prices unit n services) = Prices
kind_in (lines.weights n items) = Weights
kind_in (lines.bonds n groups rest) = Bonds
kind_in (lines.nodes n) = Nodes
kind_in (lines.node (nodes_are.Pair a b)) = Pair
kind_in (lines.node (nodes_are.Cut border k)) = Cut
kind_in (lines.node (nodes_are.Price set)) = Price
kind_in (lines.node nodes_are.Void) = Void
kind_in (lines.node nodes_are.Fixed) = Fixed
kind_in lines.end = End

abbrev pub numbers_in : Line → List ℕ
numbers_in (lines.version n) = n ∷ []
numbers_in (lines.counts c) = c.vertices ∷ c.edges ∷ c.required ∷ c.capacity ∷ c.demand ∷ []
numbers_in (lines.cost n) = n ∷ []
numbers_in (lines.bound n) = n ∷ []
numbers_in (lines.tours n) = n ∷ []
numbers_in (lines.tour n steps) = n ∷ []
numbers_in (lines.shores n) = n ∷ []
numbers_in (lines.shore n vertices) = n ∷ []
numbers_in (lines.sets n) = n ∷ []
numbers_in (lines.prices unit n services) = unit ∷ n ∷ []
numbers_in (lines.weights n items) = n ∷ []
numbers_in (lines.bonds n groups rest) = n ∷ []
numbers_in (lines.nodes n) = n ∷ []
numbers_in (lines.node (nodes_are.Pair a b)) = a ∷ b ∷ []
numbers_in (lines.node (nodes_are.Cut border k)) = border ∷ k ∷ []
numbers_in (lines.node (nodes_are.Price set)) = set ∷ []
numbers_in (lines.node nodes_are.Void) = []
numbers_in (lines.node nodes_are.Fixed) = []
numbers_in lines.end = []

abbrev pub items_in : Line → LineItems
items_in (lines.tour n steps) = record no_items { steps = steps }
items_in (lines.shore n vertices) = record no_items { vertices = vertices }
items_in (lines.prices unit n services) = record no_items { services = services }
items_in (lines.weights n items) = record no_items { weights = items }
items_in (lines.bonds n groups rest) = record no_items { groups = groups; rest = rest }
items_in _ = no_items

pub none_waits : (line : Line) → (items_in line).waiting ≡ None
none_waits (lines.version n) = refl
none_waits (lines.counts c) = refl
none_waits (lines.cost n) = refl
none_waits (lines.bound n) = refl
none_waits (lines.tours n) = refl
none_waits (lines.tour n steps) = refl
none_waits (lines.shores n) = refl
none_waits (lines.shore n vertices) = refl
none_waits (lines.sets n) = refl
none_waits (lines.prices unit n services) = refl
none_waits (lines.weights n items) = refl
none_waits (lines.bonds n groups rest) = refl
none_waits (lines.nodes n) = refl
none_waits (lines.node (nodes_are.Pair a b)) = refl
none_waits (lines.node (nodes_are.Cut border k)) = refl
none_waits (lines.node (nodes_are.Price set)) = refl
none_waits (lines.node nodes_are.Void) = refl
none_waits (lines.node nodes_are.Fixed) = refl
none_waits lines.end = refl

pub words_are : (line : Line) → words_of line ≡ part_words (kind_in line) (numbers_in line) (items_in line)
words_are (lines.version n) = refl
words_are (lines.counts c) = refl
words_are (lines.cost n) = refl
words_are (lines.bound n) = refl
words_are (lines.tours n) = refl
words_are (lines.tour n steps) = refl
words_are (lines.shores n) = refl
words_are (lines.shore n vertices) = refl
words_are (lines.sets n) = refl
words_are (lines.prices unit n services) = refl
words_are (lines.weights n items) = ap (λ (x : List (List ℕ)). keyword Weights ∷ numeral n ∷ x) (sym (append-nil (flat_map weight_words items)))
words_are (lines.bonds n groups rest) = refl
words_are (lines.nodes n) = refl
words_are (lines.node (nodes_are.Pair a b)) = refl
words_are (lines.node (nodes_are.Cut border k)) = refl
words_are (lines.node (nodes_are.Price set)) = refl
words_are (lines.node nodes_are.Void) = refl
words_are (lines.node nodes_are.Fixed) = refl
words_are lines.end = refl

pub count_is : (line : Line) → length (numbers_in line) ≡ field_count (kind_in line)
count_is (lines.version n) = refl
count_is (lines.counts c) = refl
count_is (lines.cost n) = refl
count_is (lines.bound n) = refl
count_is (lines.tours n) = refl
count_is (lines.tour n steps) = refl
count_is (lines.shores n) = refl
count_is (lines.shore n vertices) = refl
count_is (lines.sets n) = refl
count_is (lines.prices unit n services) = refl
count_is (lines.weights n items) = refl
count_is (lines.bonds n groups rest) = refl
count_is (lines.nodes n) = refl
count_is (lines.node (nodes_are.Pair a b)) = refl
count_is (lines.node (nodes_are.Cut border k)) = refl
count_is (lines.node (nodes_are.Price set)) = refl
count_is (lines.node nodes_are.Void) = refl
count_is (lines.node nodes_are.Fixed) = refl
count_is lines.end = refl

-- what follows is of a kind that is expected
pub follows_kind : (next : Next) (line : Line) → follows next line ≡ true → IsOneOf (expected next) (kind_in line)
follows_kind stands.Version (lines.version n) is = inl refl
follows_kind stands.Counts (lines.counts c) is = inl refl
follows_kind stands.Cost (lines.cost n) is = inl refl
follows_kind stands.Bound (lines.bound n) is = inl refl
follows_kind stands.Tours (lines.tours n) is = inl refl
follows_kind (stands.Tour left) (lines.tour n steps) is = inl refl
follows_kind stands.Shores (lines.shores n) is = inl refl
follows_kind (stands.Shore left) (lines.shore n vertices) is = inl refl
follows_kind stands.Sets (lines.sets n) is = inl refl
follows_kind (stands.Prices left) (lines.prices unit n services) is = inl refl
follows_kind (stands.Weights left) (lines.weights n items) is = inl refl
follows_kind (stands.Bonds left) (lines.bonds n groups rest) is = inl refl
follows_kind stands.Nodes (lines.nodes n) is = inl refl
follows_kind (stands.Node left subtrees) (lines.node (nodes_are.Pair a b)) is = inl refl
follows_kind (stands.Node left subtrees) (lines.node (nodes_are.Cut border k)) is = inr (inl refl)
follows_kind (stands.Node left subtrees) (lines.node (nodes_are.Price set)) is = inr (inr (inl refl))
follows_kind (stands.Node left subtrees) (lines.node nodes_are.Void) is = inr (inr (inr (inl refl)))
follows_kind (stands.Node left subtrees) (lines.node nodes_are.Fixed) is = inr (inr (inr (inr (inl refl))))
follows_kind stands.End lines.end is = inl refl
follows_kind _ _ is = absurd (let both : false ≡ true = is in cc)

-- Different kinds have different first words.

-- a number that tells the first words apart
abbrev code_of : List ℕ → ℕ
code_of [] = 0
code_of (a ∷ []) = 0
code_of (a ∷ b ∷ []) = 0
code_of (a ∷ b ∷ c ∷ more) = length more * 1000000000 + a * 1000000 + b * 1000 + c

abbrev kind_at : ℕ → Kind
kind_at n = if eqb n 13099097114 then Version else (if eqb n 5105110115 then Counts else (if eqb n 1099111115 then Cost else (if eqb n 2098111117 then Bound else (if eqb n 2116111117 then Tours else (if eqb n 1116111117 then Tour else (if eqb n 3115104111 then Shores else (if eqb n 2115104111 then Shore else (if eqb n 1115101116 then Sets else (if eqb n 3112114105 then Prices else (if eqb n 4119101105 then Weights else (if eqb n 2098111110 then Bonds else (if eqb n 2110111100 then Nodes else (if eqb n 1112097105 then Pair else (if eqb n 99117116 then Cut else (if eqb n 2112114105 then Price else (if eqb n 1118111105 then Void else (if eqb n 2102105120 then Fixed else (End))))))))))))))))))

kind_again : (k : Kind) → kind_at (code_of (keyword k)) ≡ k
kind_again Version = refl
kind_again Counts = refl
kind_again Cost = refl
kind_again Bound = refl
kind_again Tours = refl
kind_again Tour = refl
kind_again Shores = refl
kind_again Shore = refl
kind_again Sets = refl
kind_again Prices = refl
kind_again Weights = refl
kind_again Bonds = refl
kind_again Nodes = refl
kind_again Pair = refl
kind_again Cut = refl
kind_again Price = refl
kind_again Void = refl
kind_again Fixed = refl
kind_again End = refl

pub same_kind : (a b : Kind) → keyword a ≡ keyword b → a ≡ b
same_kind a b same = sym (kind_again a) ∙ ap (λ (x : List ℕ). kind_at (code_of x)) same ∙ kind_again b

pub none_of : (kinds : List Kind) (k : Kind) (text : List ℕ) → IsNoneOf kinds text → IsOneOf kinds k → text ≡ keyword k → ⊥
none_of [] k text none one same = absurd one
none_of (x ∷ kinds) k text none one same = elim one [
  | inl is ↦ none.0 (same ∙ ap keyword is)
  | inr later ↦ none_of kinds k text none.1 later same
]
