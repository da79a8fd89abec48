-- The text of a certificate, in the pieces in which it is written.
use Rattle.std.specs.Prelude.{ℕ, ℤ, Bool, true, false, List, [], ◌∷◌, ◌++◌, length, codes, Option, Some, None}
use Rattle.std.specs.List.{flat_map}
use Rattle.plan_model.specs.declared.step.Step.{Step}
use Rattle.branch_rules.specs.Bonds.{GroupWeight}
use Rattle.branch_rules.specs.Prices.{Prices}
use Rattle.branch_rules.specs.declared.weight.Weight.{Weight}
use Rattle.branch_rules.specs.declared.node.Node.{Node}
use Rattle.branch_rules.specs.declared.node.Node.TheVariants.{Pair, Cut, Price, Void, Fixed}
use Rattle.cert_lines.specs.declared.counts.Counts.{Counts}
use Rattle.cert_lines.specs.Numerals.{numeral, signed_numeral}
use Rattle.cert_lines.specs.Lines.{after_blank, step_word}

-- items, each with a blank before it
abbrev pub number_piece : ℕ → List ℕ
number_piece n = after_blank (numeral n)

abbrev pub step_piece : Step → List ℕ
step_piece s = after_blank (step_word s)

abbrev pub price_piece : ℤ → List ℕ
price_piece z = after_blank (signed_numeral z)

unfoldable pub weight_piece : Weight → List ℕ
weight_piece w = number_piece w.shore ++ price_piece w.weight

unfoldable pub group_piece : GroupWeight → List ℕ
group_piece w = price_piece w.weight ++ (number_piece (length w.edges) ++ flat_map number_piece w.edges)

-- a line of a word and one number, and one of two numbers
unfoldable pub keyword_line : List ℕ → ℕ → List ℕ
keyword_line word n = word ++ (number_piece n ++ 10 ∷ [])

unfoldable pub pair_line : List ℕ → ℕ → ℕ → List ℕ
pair_line word a b = word ++ (number_piece a ++ (number_piece b ++ 10 ∷ []))

-- the line of an instance
unfoldable pub sizes_piece : Counts → List ℕ
sizes_piece c = number_piece c.vertices ++ (number_piece c.edges ++ number_piece c.required)

unfoldable pub loads_piece : Counts → List ℕ
loads_piece c = number_piece c.capacity ++ (number_piece c.demand ++ 10 ∷ [])

unfoldable pub counts_line : Counts → List ℕ
counts_line c = codes "instance" ++ (sizes_piece c ++ loads_piece c)

-- lines of items
unfoldable pub tour_text : List Step → List ℕ
tour_text steps = codes "tour" ++ (number_piece (length steps) ++ (flat_map step_piece steps ++ 10 ∷ []))

unfoldable pub shore_text : List ℕ → List ℕ
shore_text vertices = codes "shore" ++ (number_piece (length vertices) ++ (flat_map number_piece vertices ++ 10 ∷ []))

-- the beginning of the line of prices
unfoldable pub prices_head : Prices → List ℕ
prices_head set = codes "prices" ++ (number_piece set.unit ++ number_piece (length set.services))

unfoldable pub prices_text : Prices → List ℕ
prices_text set = prices_head set ++ (flat_map price_piece set.services ++ 10 ∷ [])

unfoldable pub weights_text : Prices → List ℕ
weights_text set = codes "weights" ++ (number_piece (length set.weights) ++ (flat_map weight_piece set.weights ++ 10 ∷ []))

unfoldable pub bonds_text : Prices → List ℕ
bonds_text set = codes "bonds" ++ (number_piece (length set.groups) ++ (flat_map group_piece set.groups ++ 10 ∷ []))

-- the line of groups, if some set has one
abbrev pub groups_text : (grouped : Bool) → Prices → List ℕ
groups_text false set = []
groups_text true set = bonds_text set

unfoldable pub set_text : (grouped : Bool) → Prices → List ℕ
set_text grouped set = prices_text set ++ (weights_text set ++ groups_text grouped set)

unfoldable pub node_text : Node → List ℕ
node_text (Pair a b) = pair_line (codes "pair") a b
node_text (Cut border k) = pair_line (codes "cut") border k
node_text (Price set) = keyword_line (codes "price") set
node_text Void = codes "void\n"
node_text Fixed = codes "fixed\n"

-- the version, with the numbers of the instance if they are known
unfoldable pub second_text : (version : ℕ) → Counts → List ℕ
second_text version c = keyword_line (codes "carp-certificate") version ++ counts_line c

-- the version of a certificate with the numbers of the instance
abbrev pub version_with : (grouped : Bool) → ℕ
version_with false = 2
version_with true = 4

unfoldable pub version_text : Option Counts → (grouped : Bool) → List ℕ
version_text None grouped = keyword_line (codes "carp-certificate") 1
version_text (Some c) grouped = second_text (version_with grouped) c

-- the groups of lines
unfoldable pub plan_text : List (List Step) → List ℕ
plan_text plan = keyword_line (codes "tours") (length plan) ++ flat_map tour_text plan

unfoldable pub pool_text : List (List ℕ) → List ℕ
pool_text pool = keyword_line (codes "shores") (length pool) ++ flat_map shore_text pool

unfoldable pub sets_text : (grouped : Bool) → List Prices → List ℕ
sets_text grouped sets = keyword_line (codes "sets") (length sets) ++ flat_map (set_text grouped) sets

unfoldable pub nodes_text : List Node → List ℕ
nodes_text nodes = keyword_line (codes "nodes") (length nodes) ++ (flat_map node_text nodes ++ codes "end\n")

unfoldable pub values_text : (cost bound : ℕ) → List ℕ
values_text cost bound = keyword_line (codes "cost") cost ++ keyword_line (codes "bound") bound
