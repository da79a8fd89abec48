-- What the private functions answer of a line, by its definition. No public contract cites this.
use Rattle.std.specs.Prelude.{◌≡◌, ◌<◌, ℕ, List, length, Option, Some, IfSome}
use Rattle.std.specs.Option.{option_map}
use Rattle.std.specs.Str.Parse.{digits_value}
use Rattle.carp_base.specs.declared.edge.RawEdge.{RawEdge}
use Rattle.dat_text.specs.declared.fault.LineFault.{LineFault}
use Rattle.dat_text.specs.declared.fault.LineFault.TheVariants as faults
use Rattle.dat_text.specs.declared.edge_line.EdgeLine.{EdgeLine}
use Rattle.dat_text.specs.declared.key.Key.{Key}
use Rattle.dat_text.specs.declared.kind.Kind.{Kind}
use Rattle.dat_text.specs.declared.kind.Kind.TheVariants as kinds
use Rattle.dat_text.specs.Lines.{SameLetters, key_name, HasKey, HasKeyShape, IsOpened, IsSkipped, EdgeNumbers, IsEdgeLine, IsShort, AreShort, numbers_of, edge_of}

-- the line is of this kind
abbrev pub IsKind : List ℕ → Kind → Type 0
IsKind line kinds.Skipped = IsSkipped line
IsKind line kinds.Edge = IsOpened line
IsKind line (kinds.Key key rest) = HasKey key line rest.now

-- the letters name no key
abbrev pub NamesNone : List ℕ → Type 0
NamesNone name = (key : Key) → ¬ (SameLetters name (key_name key))

-- the digits, apart from where they lie in memory
abbrev pub edge_numbers : EdgeLine → EdgeNumbers
edge_numbers x = record { u = x.u.now; v = x.v.now; cost = x.cost.now; demand = option_map (λ d. d.now) x.demand; service = option_map (λ d. d.now) x.service }

-- what follows the key has its shape and no long number, and this number is stated
pub record ReadsKey (key : Key) (text : List ℕ) (n : Option ℕ) : Type 0 where
  pub digits : Option (List ℕ)
  pub has_shape : HasKeyShape key digits text
  pub short : IfSome digits IsShort
  pub value : n ≡ option_map (digits_value 10) digits

-- the fault of what follows the key
abbrev pub FailsKey : Key → List ℕ → LineFault → Type 0
FailsKey key text faults.Syntax = (digits : Option (List ℕ)) → ¬ (HasKeyShape key digits text)
FailsKey key text faults.TooLong = (digits : List ℕ) × HasKeyShape key (Some digits) text × (18 < length digits)

-- the line has the shape of an edge line of the list and no long number, and this is the edge
pub record ReadsEdge (list : Key) (line : List ℕ) (x : RawEdge) : Type 0 where
  pub numbers : EdgeNumbers
  pub is_line : IsEdgeLine list numbers line
  pub short : AreShort (numbers_of numbers)
  pub value : x ≡ edge_of list numbers

-- the fault of a line as an edge line of the list
abbrev pub FailsEdge : Key → List ℕ → LineFault → Type 0
FailsEdge list line faults.Syntax = (x : EdgeNumbers) → ¬ (IsEdgeLine list x line)
FailsEdge list line faults.TooLong = (x : EdgeNumbers) × IsEdgeLine list x line × ¬ (AreShort (numbers_of x))
