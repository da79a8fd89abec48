-- Certificates whose text is not long.
use Rattle.std.specs.Prelude.{◌+◌, ◌≤◌, length, sum_by}
use Rattle.std.specs.List.{All}
use Rattle.branch_rules.specs.Bonds.{GroupWeight}
use Rattle.branch_rules.specs.declared.node.Node.{Node}
use Rattle.branch_rules.specs.declared.node.Node.TheVariants.{Pair, Cut, Price, Void, Fixed}
use Rattle.cert_lines.specs.Certificates.{Certificate}
use Rattle.cert_lines.specs.Spelling.{text_of, IsFine}

-- the number of a cut is at most 999
abbrev pub IsShortCut : Node → Type 0
IsShortCut (Pair a b) = Unit {0}
IsShortCut (Cut border k) = k ≤ 999
IsShortCut (Price set) = Unit {0}
IsShortCut Void = Unit {0}
IsShortCut Fixed = Unit {0}

-- the numbers of the certificate are in their ranges, its plan has at most 600 tours, the edges of the groups of each price set, and six for
-- each group, are at most 5,000 together, and the number of each cut is at most 999
pub record IsLight (c : Certificate) : Type 0 where
  pub fine : IsFine c
  pub few_tours : length c.plan ≤ 600
  pub short_groups : All (λ set. sum_by (λ (w : GroupWeight). length w.edges + 6) set.groups ≤ 5000) c.sets
  pub short_cuts : All IsShortCut c.nodes

-- the text of a light certificate has at most 64,000,000 bytes
abbrev pub LightTextsAreShort : Type 0
LightTextsAreShort = (c : Certificate) → IsLight c → length (text_of c) ≤ 64000000
