-- The kinds of lines of an instance text, and the shape of each. A line is a list of bytes without LF.
use Rattle.std.specs.Prelude.{◌≡◌, ℕ, ◌<◌, ◌≤◌, Bool, true, false, ◌||◌, ◌==◌, IsTrue, ◌⊎◌, List, [], ◌∷◌, ◌++◌, map, length, codes, Option, Some, None, IsSome, IfSome, unwrap_or}
use Rattle.std.specs.List.{AllByRecursion}
use Rattle.std.specs.Option.{option_to_list}
use Rattle.std.specs.Char.{is_ascii_digit, is_ascii_alphanumeric, to_ascii_lowercase}
use Rattle.std.specs.Str.Parse.{digits_value}
use Rattle.carp_base.specs.declared.edge.RawEdge.{RawEdge}
use Rattle.dat_text.specs.declared.key.Key.{Key}
use Rattle.dat_text.specs.declared.key.Key.TheVariants.{Vertices, RequiredCount, OtherCount, Capacity, Depot, RequiredList, OtherList}

-- a blank: tab, carriage return, the byte 26 or a space
abbrev pub is_blank : ℕ → Bool
is_blank b = (b == 9) || (b == 13) || (b == 26) || (b == 32)

-- a byte of a key: an ASCII letter, a digit or `_`
abbrev pub is_key_byte : ℕ → Bool
is_key_byte b = is_ascii_alphanumeric b || (b == 95)

-- each byte passes the test
abbrev pub Each : (ℕ → Bool) → List ℕ → Type 0
Each test text = AllByRecursion (λ b. IsTrue (test b)) text

-- there is a first byte, and it passes the test
abbrev pub StartsWith : (ℕ → Bool) → List ℕ → Type 0
StartsWith test [] = ⊥
StartsWith test (b ∷ text) = IsTrue (test b)

-- the same letters, in any case
abbrev pub SameLetters : List ℕ → List ℕ → Type 0
SameLetters text letters = map to_ascii_lowercase text ≡ map to_ascii_lowercase letters

-- a number: one digit or more
pub record IsNumber (digits : List ℕ) : Type 0 where
  pub some : 0 < length digits
  pub each : Each is_ascii_digit digits

-- a part of a line: one byte, a word in any case, or a number
pub data Part : Type 0 where
  byte : ℕ → Part
  word : List ℕ → Part
  number : List ℕ → Part

abbrev pub IsPart : Part → List ℕ → Type 0
IsPart (byte b) text = text ≡ b ∷ []
IsPart (word letters) text = SameLetters text letters
IsPart (number digits) text = (text ≡ digits) × IsNumber digits

-- the text is blanks or none, then the part, then the rest
pub record Begins (part : Part) (text rest : List ℕ) : Type 0 where
  pub blanks : List ℕ
  pub own : List ℕ
  pub are_blank : Each is_blank blanks
  pub is_part : IsPart part own
  pub whole : text ≡ blanks ++ (own ++ rest)

-- the text is the parts, with any blanks before each, and then an end of this kind
abbrev pub Consists : List Part → (List ℕ → Type 0) → List ℕ → Type 0
Consists [] End text = End text
Consists (part ∷ parts) End text = (rest : List ℕ) × Begins part text rest × Consists parts End rest

-- the end of an edge line: only blanks
abbrev pub IsBlank : List ℕ → Type 0
IsBlank text = Each is_blank text

-- the end of a key line: nothing, or a blank and whatever follows it
abbrev pub IsSkippedEnd : List ℕ → Type 0
IsSkippedEnd [] = Unit {0}
IsSkippedEnd (b ∷ text) = IsTrue (is_blank b)

-- Key lines.

abbrev pub key_name : Key → List ℕ
key_name Vertices = codes "VERTICES"
key_name RequiredCount = codes "ARISTAS_REQ"
key_name OtherCount = codes "ARISTAS_NOREQ"
key_name Capacity = codes "CAPACIDAD"
key_name Depot = codes "DEPOSITO"
key_name RequiredList = codes "LISTA_ARISTAS_REQ"
key_name OtherList = codes "LISTA_ARISTAS_NOREQ"

-- the longest run of letters, digits and `_` after the blanks is the key, in any case
pub record HasKey (key : Key) (line rest : List ℕ) : Type 0 where
  pub blanks : List ℕ
  pub run : List ℕ
  pub are_blank : Each is_blank blanks
  pub is_run : Each is_key_byte run
  pub whole : line ≡ blanks ++ (run ++ rest)
  pub is_longest : ¬ (StartsWith is_key_byte rest)
  pub is_key : SameLetters run (key_name key)

-- at a list key no number stands
abbrev pub has_number : Key → Bool
has_number Vertices = true
has_number RequiredCount = true
has_number OtherCount = true
has_number Capacity = true
has_number Depot = true
has_number RequiredList = false
has_number OtherList = false

-- at most one colon, and the number
abbrev pub IsStated : List ℕ → List ℕ → Type 0
IsStated digits text = Consists (number digits ∷ []) IsSkippedEnd text ⊎ Consists (byte 58 ∷ number digits ∷ []) IsSkippedEnd text

-- what follows the key has the shape that the key asks for: a number of these digits, or anything
abbrev pub HasKeyShape : Key → Option (List ℕ) → List ℕ → Type 0
HasKeyShape key (Some digits) text = IsTrue (has_number key) × IsStated digits text
HasKeyShape key None text = has_number key ≡ false

-- a key line with its shape
pub record IsKeyLine (key : Key) (digits : Option (List ℕ)) (line : List ℕ) : Type 0 where
  pub rest : List ℕ
  pub has_key : HasKey key line rest
  pub has_shape : HasKeyShape key digits rest

-- Edge lines.

-- the first byte that is no blank is `(`
pub record IsOpened (line : List ℕ) : Type 0 where
  pub rest : List ℕ
  pub begins : Begins (byte 40) line rest

-- the numbers of an edge line, by their digits
pub record EdgeNumbers : Type 0 where
  pub u : List ℕ
  pub v : List ℕ
  pub cost : List ℕ
  pub demand : Option (List ℕ)
  pub service : Option (List ℕ)

-- a word and a number, where there is one
abbrev pub labelled : List ℕ → Option (List ℕ) → List Part
labelled label None = []
labelled label (Some digits) = word label ∷ number digits ∷ []

-- `(` u `,` v `)` coste cost, demanda demand, servicio service
abbrev pub edge_parts : EdgeNumbers → List Part
edge_parts x =
    byte 40 ∷ number x.u ∷ byte 44 ∷ number x.v ∷ byte 41 ∷ word (codes "coste") ∷ number x.cost ∷ (labelled (codes "demanda") x.demand ++ labelled (codes "servicio") x.service)

-- In the required list the demand stands. In the other list it may be missing, all its digits are 0, and no service stands.
abbrev pub FitsList : Key → EdgeNumbers → Type 0
FitsList RequiredList x = IsSome x.demand
FitsList OtherList x = IfSome x.demand (λ digits. Each (λ b. b == 48) digits) × (x.service ≡ None)
FitsList _ x = ⊥

-- an edge line with the shape that its list asks for
pub record IsEdgeLine (list : Key) (x : EdgeNumbers) (line : List ℕ) : Type 0 where
  pub fits : FitsList list x
  pub consists : Consists (edge_parts x) IsBlank line

-- Other lines.

-- neither a key line nor an edge line; a blank line is neither
pub record IsSkipped (line : List ℕ) : Type 0 where
  pub no_edge : ¬ (IsOpened line)
  pub no_key : (key : Key) (rest : List ℕ) → ¬ (HasKey key line rest)

-- Numbers.

-- a number that is not too long
abbrev pub IsShort : List ℕ → Type 0
IsShort digits = length digits ≤ 18

abbrev pub numbers_of : EdgeNumbers → List (List ℕ)
numbers_of x = x.u ∷ x.v ∷ x.cost ∷ (option_to_list x.demand ++ option_to_list x.service)

abbrev pub AreShort : List (List ℕ) → Type 0
AreShort numbers = AllByRecursion IsShort numbers

-- the edge of the numbers: a required one whose line names no service costs as much with service as without, and another has
-- nothing to serve
abbrev pub edge_of : Key → EdgeNumbers → RawEdge
edge_of RequiredList x = record {
  u = digits_value 10 x.u;
  v = digits_value 10 x.v;
  cost = digits_value 10 x.cost;
  demand = digits_value 10 (unwrap_or x.demand []);
  service = digits_value 10 (unwrap_or x.service x.cost);
}
edge_of _ x = record { u = digits_value 10 x.u; v = digits_value 10 x.v; cost = digits_value 10 x.cost; demand = 0; service = 0 }
