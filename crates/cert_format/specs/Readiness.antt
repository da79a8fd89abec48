-- A line of which all words have come.
use Rattle.std.specs.Prelude.{◌≡◌, ℕ, true, false, List, length, slice_index}
use Rattle.cert_lines.specs.Order.{LatestFirst}
use Rattle.cert_lines.specs.Ranges.{IsInRange}
use Rattle.cert_lines.specs.Agreement.{Agrees, AreGroups}
use Rattle.cert_format.specs.declared.line.LineState.{LineState}
use Rattle.cert_format.specs.declared.kind.Kind.{Kind}
use Rattle.cert_format.specs.declared.kind.Kind.TheVariants.{Tour, Shore, Prices, Weights, Bonds}
use Rattle.cert_format.specs.Kinds.{field_count}
use Rattle.cert_format.specs.Parts.{LineItems, line_with}
use Rattle.cert_format.specs.Judging.{has_stated, IsLine}

-- the items that are kept are those of the line, as many as it states
abbrev pub AreKept : Kind → LineState → List ℕ → LineItems → Type 0
AreKept Tour line numbers x = (line.steps.kept.items ≡ x.steps) × (length x.steps ≡ slice_index numbers 0)
AreKept Shore line numbers x = (line.vertices.kept.items ≡ x.vertices) × (length x.vertices ≡ slice_index numbers 0)
AreKept Prices line numbers x = (line.services.kept.items ≡ x.services) × (length x.services ≡ slice_index numbers 1)
AreKept Weights line numbers x = (line.weights.kept.items ≡ x.weights) × (length x.weights ≡ slice_index numbers 0)
AreKept Bonds line numbers x = (line.groups.kept.items ≡ x.groups) × AreGroups (slice_index numbers 0) x.groups x.rest
AreKept _ line numbers x = Unit {0}

-- A line of which all words have come, and which ends well.
pub record IsReady (kind : Kind) (said : LatestFirst) (line : LineState) (words : List (List ℕ)) : Type 0 where
  pub numbers : List ℕ
  pub items : LineItems
  pub fields : line.fields.items ≡ numbers
  pub count : length numbers ≡ field_count kind
  pub is : IsLine said words (line_with kind numbers items)
  pub in_range : IsInRange said (line_with kind numbers items)
  pub kept : has_stated kind line ≡ true → AreKept kind line numbers items
  pub unstated : has_stated kind line ≡ false → Agrees said (line_with kind numbers items) → ⊥
