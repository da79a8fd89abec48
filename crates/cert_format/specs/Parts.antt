-- A line in parts: its kind, the numbers behind its first word, and its items.
use Rattle.std.specs.Prelude.{◌≡◌, ℕ, true, ℤ, List, [], ◌∷◌, ◌++◌, map, slice_index, Option, Some, None}
use Rattle.std.specs.List.{flat_map}
use Rattle.plan_model.specs.declared.step.Step.{Step}
use Rattle.branch_rules.specs.Bonds.{GroupWeight}
use Rattle.branch_rules.specs.declared.weight.Weight.{Weight}
use Rattle.branch_rules.specs.declared.node.Node.TheVariants as nodes_are
use Rattle.cert_lines.specs.Numerals.{numeral, signed_numeral}
use Rattle.cert_lines.specs.Lines as lines
use Rattle.cert_lines.specs.Lines.{Line, Remainder, nothing, step_word, weight_words, group_words, remainder_words, words_of}
use Rattle.cert_lines.specs.Order.{follows}
use Rattle.cert_lines.specs.declared.next.Next.{Next}
use Rattle.cert_format.specs.declared.kind.Kind.{Kind}
use Rattle.cert_format.specs.declared.kind.Kind.TheVariants.{Version, Counts, Cost, Bound, Tours, Tour, Shores, Shore, Sets, Prices, Weights, Bonds, Nodes, Pair, Cut, Price, Void, Fixed, End}
use Rattle.cert_format.specs.Kinds.{keyword}

-- the items of a line: those of its kind. Of a weight of which only the number of the shore has come, this number waits.
pub record LineItems : Type 0 where
  pub steps : List Step
  pub vertices : List ℕ
  pub services : List ℤ
  pub weights : List Weight
  pub waiting : Option ℕ
  pub groups : List GroupWeight
  pub rest : Remainder

abbrev pub no_items : LineItems
no_items = record { steps = []; vertices = []; services = []; weights = []; waiting = None; groups = []; rest = nothing }

abbrev pub waiting_words : Option ℕ → List (List ℕ)
waiting_words None = []
waiting_words (Some n) = numeral n ∷ []

abbrev pub item_words : Kind → LineItems → List (List ℕ)
item_words Tour x = map step_word x.steps
item_words Shore x = map numeral x.vertices
item_words Prices x = map signed_numeral x.services
item_words Weights x = flat_map weight_words x.weights ++ waiting_words x.waiting
item_words Bonds x = flat_map group_words x.groups ++ remainder_words x.rest
item_words _ x = []

-- the words of a line, by its parts
abbrev pub part_words : Kind → List ℕ → LineItems → List (List ℕ)
part_words kind fields x = keyword kind ∷ (map numeral fields ++ item_words kind x)

-- the line of these parts
abbrev pub line_with : Kind → List ℕ → LineItems → Line
line_with Version n x = lines.version (slice_index n 0)
line_with Counts n x = lines.counts (record { vertices = slice_index n 0; edges = slice_index n 1; required = slice_index n 2; capacity = slice_index n 3; demand = slice_index n 4 })
line_with Cost n x = lines.cost (slice_index n 0)
line_with Bound n x = lines.bound (slice_index n 0)
line_with Tours n x = lines.tours (slice_index n 0)
line_with Tour n x = lines.tour (slice_index n 0) x.steps
line_with Shores n x = lines.shores (slice_index n 0)
line_with Shore n x = lines.shore (slice_index n 0) x.vertices
line_with Sets n x = lines.sets (slice_index n 0)
line_with Prices n x = lines.prices (slice_index n 0) (slice_index n 1) x.services
line_with Weights n x = lines.weights (slice_index n 0) x.weights
line_with Bonds n x = lines.bonds (slice_index n 0) x.groups x.rest
line_with Nodes n x = lines.nodes (slice_index n 0)
line_with Pair n x = lines.node (nodes_are.Pair (slice_index n 0) (slice_index n 1))
line_with Cut n x = lines.node (nodes_are.Cut (slice_index n 0) (slice_index n 1))
line_with Price n x = lines.node (nodes_are.Price (slice_index n 0))
line_with Void n x = lines.node nodes_are.Void
line_with Fixed n x = lines.node nodes_are.Fixed
line_with End n x = lines.end

-- no line that may stand there begins with these words
pub record IsHopeless (next : Next) (words : List (List ℕ)) : Type 0 where
  pub none : (line : Line) (more : List (List ℕ)) → follows next line ≡ true → words_of line ≡ words ++ more → ⊥
