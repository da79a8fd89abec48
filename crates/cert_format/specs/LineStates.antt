-- What is held of a line, of which some words have come.
use Rattle.std.specs.Prelude.{◌≡◌, ◌≢◌, ℕ, ◌<◌, ◌≤◌, min, List, [], length, map, slice_index}
use Rattle.std.specs.Option.{option_map}
use Rattle.cert_lines.specs.Numbers.{limit}
use Rattle.cert_format.specs.declared.line.Context.{Context}
use Rattle.cert_format.specs.declared.line.Form.{Form}
use Rattle.cert_format.specs.declared.line.Form.TheVariants.{Start, Shapeless, Shaped}
use Rattle.cert_format.specs.declared.line.LineState.{LineState}
use Rattle.cert_format.specs.declared.kind.Kind.{Kind}
use Rattle.cert_format.specs.declared.kind.Kind.TheVariants.{Tour, Shore, Prices, Weights, Bonds}
use Rattle.cert_format.specs.Kinds.{expected, field_count, IsOneOf}
use Rattle.cert_format.specs.Lists.{HoldsList, fields_ok, step_ok, vertex_ok, price_ok, weight_ok}
use Rattle.cert_format.specs.Groups.{HoldsGroups}
use Rattle.cert_format.specs.Parts.{LineItems, no_items, part_words, IsHopeless}

-- a number, or the limit if the number is past it
abbrev pub lesser : ℕ → ℕ
lesser n = min n limit

-- the items of a line of this kind are held
abbrev pub HoldsItems : Kind → Context → LineState → LineItems → Type 0
HoldsItems Tour context line x = HoldsList line.steps (slice_index line.fields.items 0) line.in_range step_ok x.steps
HoldsItems Shore context line x = HoldsList line.vertices (slice_index line.fields.items 0) line.in_range vertex_ok x.vertices
HoldsItems Prices context line x = HoldsList line.services (slice_index line.fields.items 1) line.in_range price_ok x.services
HoldsItems Weights context line x = HoldsList line.weights (slice_index line.fields.items 0) line.in_range (weight_ok context.shores) x.weights × (line.waiting ≡ option_map lesser x.waiting)
HoldsItems Bonds context line x = HoldsGroups line.groups line.in_range x.groups x.rest
HoldsItems _ context line x = Unit {0}

-- the words are those of a line of this kind, of which not all may have come
pub record IsShaped (context : Context) (line : LineState) (words : List (List ℕ)) (kind : Kind) : Type 0 where
  pub expected : IsOneOf (expected context.next) kind
  pub numbers : List ℕ
  pub items : LineItems
  pub spelled : words ≡ part_words kind numbers items
  pub few : length numbers ≤ field_count kind
  pub fields : line.fields.items ≡ map lesser numbers
  pub early : length numbers < field_count kind → items ≡ no_items
  pub in_range : length numbers ≡ field_count kind → line.in_range ≡ fields_ok kind context line.fields.items
  pub held : length numbers ≡ field_count kind → HoldsItems kind context line items

-- what is held, by the form of the line so far
abbrev pub FormHolds : Form → Context → LineState → List (List ℕ) → Type 0
FormHolds Start context line words = (words ≡ []) × (line.fields.items ≡ [])
FormHolds Shapeless context line words = (words ≢ []) × IsHopeless context.next words
FormHolds (Shaped kind) context line words = IsShaped context line words kind

abbrev pub HoldsLine : Context → LineState → List (List ℕ) → Type 0
HoldsLine context line words = FormHolds line.form context line words
