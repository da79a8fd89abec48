-- What a line of a certificate says, and how it is spelled. A line is a list of bytes without LF.
use Rattle.std.specs.Prelude.{ℕ, suc, ◌+◌, ℤ, List, [], ◌∷◌, ◌++◌, length, map, codes, if◌then◌else◌}
use Rattle.std.specs.List.{flat_map}
use Rattle.plan_model.specs.declared.step.Step.{Step}
use Rattle.branch_rules.specs.Bonds.{GroupWeight}
use Rattle.branch_rules.specs.declared.weight.Weight.{Weight}
use Rattle.branch_rules.specs.declared.node.Node.{Node}
use Rattle.branch_rules.specs.declared.node.Node.TheVariants.{Pair, Cut, Price, Void, Fixed}
use Rattle.cert_lines.specs.declared.counts.Counts.{Counts}
use Rattle.cert_lines.specs.Numerals.{numeral, signed_numeral}

-- what stands behind the complete groups of a line: nothing, only the weight of one more group, or its weight, its size and its edges, of
-- which so many and one more are missing
pub data Remainder : Type 0 where
  nothing : Remainder
  weight_alone : ℤ → Remainder
  short_of : (missing : ℕ) → ℤ → List ℕ → Remainder

-- a line, with any numbers and any number of items: a line with a number of items states it and then has its items
pub data Line : Type 0 where
  version : ℕ → Line
  counts : Counts → Line
  cost : ℕ → Line
  bound : ℕ → Line
  tours : ℕ → Line
  tour : ℕ → List Step → Line
  shores : ℕ → Line
  shore : ℕ → List ℕ → Line
  sets : ℕ → Line
  prices : (unit : ℕ) → ℕ → List ℤ → Line
  weights : ℕ → List Weight → Line
  bonds : ℕ → List GroupWeight → Remainder → Line
  nodes : ℕ → Line
  node : Node → Line
  end : Line

-- how a step is marked: `+` served forward, `-` served backward, `>` not served forward, `<` not served backward
abbrev pub mark_of : Step → ℕ
mark_of s = if s.served then (if s.forward then 43 else 45) else (if s.forward then 62 else 60)

-- a step: its mark and the number of its edge
abbrev pub step_word : Step → List ℕ
step_word s = mark_of s ∷ numeral s.edge

-- a weight: the number of its shore, and the weight
abbrev pub weight_words : Weight → List (List ℕ)
weight_words w = numeral w.shore ∷ signed_numeral w.weight ∷ []

-- a weight on a group: the weight, how many edges the group has, and the edges
abbrev pub group_words : GroupWeight → List (List ℕ)
group_words w = signed_numeral w.weight ∷ numeral (length w.edges) ∷ map numeral w.edges

-- the size that a group states of which these edges stand there, and so many and one more are missing
abbrev pub stated_size : ℕ → List ℕ → ℕ
stated_size missing edges = length edges + suc missing

abbrev pub remainder_words : Remainder → List (List ℕ)
remainder_words nothing = []
remainder_words (weight_alone w) = signed_numeral w ∷ []
remainder_words (short_of missing w edges) = signed_numeral w ∷ numeral (stated_size missing edges) ∷ map numeral edges

-- the numbers of an instance
abbrev pub count_words : Counts → List (List ℕ)
count_words c = numeral c.vertices ∷ numeral c.edges ∷ numeral c.required ∷ numeral c.capacity ∷ numeral c.demand ∷ []

-- a word and a number
abbrev pub with_number : List ℕ → ℕ → List (List ℕ)
with_number word n = word ∷ numeral n ∷ []

abbrev pub node_words : Node → List (List ℕ)
node_words (Pair a b) = codes "pair" ∷ numeral a ∷ numeral b ∷ []
node_words (Cut border k) = codes "cut" ∷ numeral border ∷ numeral k ∷ []
node_words (Price set) = with_number (codes "price") set
node_words Void = codes "void" ∷ []
node_words Fixed = codes "fixed" ∷ []

-- the words of a line
abbrev pub words_of : Line → List (List ℕ)
words_of (version n) = with_number (codes "carp-certificate") n
words_of (counts c) = codes "instance" ∷ count_words c
words_of (cost n) = with_number (codes "cost") n
words_of (bound n) = with_number (codes "bound") n
words_of (tours n) = with_number (codes "tours") n
words_of (tour n steps) = codes "tour" ∷ numeral n ∷ map step_word steps
words_of (shores n) = with_number (codes "shores") n
words_of (shore n vertices) = codes "shore" ∷ numeral n ∷ map numeral vertices
words_of (sets n) = with_number (codes "sets") n
words_of (prices unit n services) = codes "prices" ∷ numeral unit ∷ numeral n ∷ map signed_numeral services
words_of (weights n items) = codes "weights" ∷ numeral n ∷ flat_map weight_words items
words_of (bonds n groups rest) = codes "bonds" ∷ numeral n ∷ (flat_map group_words groups ++ remainder_words rest)
words_of (nodes n) = with_number (codes "nodes") n
words_of (node x) = node_words x
words_of end = codes "end" ∷ []

-- a word with a blank before it
abbrev pub after_blank : List ℕ → List ℕ
after_blank word = 32 ∷ word

-- words with one blank between each two
abbrev pub spaced : List (List ℕ) → List ℕ
spaced [] = []
spaced (word ∷ words) = word ++ flat_map after_blank words

-- the bytes of a line, without its LF
abbrev pub line_text : Line → List ℕ
line_text line = spaced (words_of line)
