-- What an instance text says, line by line, and its first fault.
use Rattle.std.specs.Prelude.{◌≡◌, ◌≢◌, ℕ, ◌+◌, ◌<◌, Bool, true, false, ◌==◌, ◌||◌, ◌⊎◌, List, [], ◌∷◌, ◌++◌, length, Option, Some, None, IfSome, if◌then◌else◌}
use Rattle.std.specs.List.{slice_split}
use Rattle.std.specs.Option.{option_map}
use Rattle.std.specs.Str.Parse.{digits_value}
use Rattle.carp_base.specs.declared.edge.RawEdge.{RawEdge}
use Rattle.carp_base.specs.Problem.{Problem, IsValid, described}
use Rattle.carp_base.specs.Faults.{IsFirstFault}
use Rattle.dat_text.specs.declared.key.Key.{Key}
use Rattle.dat_text.specs.declared.key.Key.TheVariants.{Vertices, RequiredCount, OtherCount, Capacity, Depot, RequiredList, OtherList}
use Rattle.dat_text.specs.declared.fault.DatFault.{DatFault}
use Rattle.dat_text.specs.declared.fault.DatFault.TheVariants.{Syntax, MissingKey, DoubleKey, CountDiffers, NumberTooLong, Refused}
use Rattle.dat_text.specs.Lines.{HasKey, HasKeyShape, IsKeyLine, IsOpened, EdgeNumbers, IsEdgeLine, IsSkipped, IsShort, AreShort, numbers_of, edge_of, has_number}

-- the bytes are cut at each LF; what follows the last LF is a line too
abbrev pub lines_of : List ℕ → List (List ℕ)
lines_of bytes = slice_split (λ b. b == 10) bytes

-- what a line says: nothing, what stands at a key (a number, or none at a list key), or an edge of a list
pub data Statement : Type 0 where
  nothing : Statement
  states : Key → Option ℕ → Statement
  lists : Key → RawEdge → Statement

-- what the lines so far say, with the latest line at the head: what stood before a line is then the rest of the list
abbrev pub LatestFirst : Type 0
LatestFirst = List Statement

-- the place of a key in the order in which a missing key is told
abbrev pub key_place : Key → ℕ
key_place Vertices = 0
key_place RequiredCount = 1
key_place OtherCount = 2
key_place Capacity = 3
key_place Depot = 4
key_place RequiredList = 5
key_place OtherList = 6

abbrev pub same_key : Key → Key → Bool
same_key a b = key_place a == key_place b

-- the key stands
abbrev pub stands : Key → LatestFirst → Bool
stands k [] = false
stands k (nothing ∷ said) = stands k said
stands k (states other n ∷ said) = same_key other k || stands k said
stands k (lists list x ∷ said) = stands k said

-- the number that stands at a key
abbrev pub number_of : Key → LatestFirst → Option ℕ
number_of k [] = None
number_of k (nothing ∷ said) = number_of k said
number_of k (states other n ∷ said) = if same_key other k then n else number_of k said
number_of k (lists list x ∷ said) = number_of k said

-- the last list key
abbrev pub list_of : LatestFirst → Option Key
list_of [] = None
list_of (nothing ∷ said) = list_of said
list_of (states k n ∷ said) = if has_number k then list_of said else Some k
list_of (lists list x ∷ said) = list_of said

-- the edges of a list, in their order
abbrev pub edges_of : Key → LatestFirst → List RawEdge
edges_of k [] = []
edges_of k (nothing ∷ said) = edges_of k said
edges_of k (states other n ∷ said) = edges_of k said
edges_of k (lists list x ∷ said) = if same_key list k then edges_of k said ++ x ∷ [] else edges_of k said

-- a key line with its shape, no long number, and a key that stands on no earlier line
pub record SaysKey (before : LatestFirst) (line : List ℕ) (k : Key) (n : Option ℕ) : Type 0 where
  pub digits : Option (List ℕ)
  pub is_line : IsKeyLine k digits line
  pub short : IfSome digits IsShort
  pub value : n ≡ option_map (digits_value 10) digits
  pub once : stands k before ≡ false

-- an edge line with its shape and no long number, under the last list key
pub record SaysEdge (before : LatestFirst) (line : List ℕ) (list : Key) (x : RawEdge) : Type 0 where
  pub numbers : EdgeNumbers
  pub under : list_of before ≡ Some list
  pub is_line : IsEdgeLine list numbers line
  pub short : AreShort (numbers_of numbers)
  pub value : x ≡ edge_of list numbers

-- a line after what was said is good, and says this
abbrev pub Says : LatestFirst → List ℕ → Statement → Type 0
Says before line nothing = IsSkipped line
Says before line (states k n) = SaysKey before line k n
Says before line (lists list x) = SaysEdge before line list x

-- an edge line, where no list is open or its shape is not that of the list
pub record IsBadEdge (before : LatestFirst) (line : List ℕ) : Type 0 where
  pub opened : IsOpened line
  pub no_shape : (list : Key) (x : EdgeNumbers) → list_of before ≡ Some list → ¬ (IsEdgeLine list x line)

-- a key line without its shape
pub record IsBadKey (line : List ℕ) : Type 0 where
  pub k : Key
  pub rest : List ℕ
  pub has_key : HasKey k line rest
  pub no_shape : (digits : Option (List ℕ)) → ¬ (HasKeyShape k digits rest)

-- an edge line with its shape and a number that is too long
pub record IsLongEdge (before : LatestFirst) (line : List ℕ) : Type 0 where
  pub list : Key
  pub numbers : EdgeNumbers
  pub under : list_of before ≡ Some list
  pub is_line : IsEdgeLine list numbers line
  pub long : ¬ (AreShort (numbers_of numbers))

-- a key line with its shape and a number that is too long
pub record IsLongKey (line : List ℕ) : Type 0 where
  pub k : Key
  pub digits : List ℕ
  pub is_line : IsKeyLine k (Some digits) line
  pub long : 18 < length digits

-- a key line with its shape and no long number, whose key stands on an earlier line
pub record IsDouble (before : LatestFirst) (line : List ℕ) (k : Key) : Type 0 where
  pub digits : Option (List ℕ)
  pub is_line : IsKeyLine k digits line
  pub short : IfSome digits IsShort
  pub again : stands k before ≡ true

-- a line of this number, after what was said, is bad with this fault
abbrev pub IsBad : LatestFirst → ℕ → List ℕ → DatFault → Type 0
IsBad before at line (Syntax n) = (n ≡ at) × (IsBadEdge before line ⊎ IsBadKey line)
IsBad before at line (NumberTooLong n) = (n ≡ at) × (IsLongEdge before line ⊎ IsLongKey line)
IsBad before at line (DoubleKey k) = IsDouble before line k
IsBad before at line _ = ⊥

-- the lines after what was said are good, and in the end this is said
abbrev pub AreGood : LatestFirst → List (List ℕ) → LatestFirst → Type 0
AreGood before [] said = said ≡ before
AreGood before (line ∷ lines) said = (statement : Statement) × Says before line statement × AreGood (statement ∷ before) lines said

-- the first bad line of the lines after what was said, the first of which has this number, has this fault
abbrev pub HasFirstBad : LatestFirst → ℕ → List (List ℕ) → DatFault → Type 0
HasFirstBad before at [] fault = ⊥
HasFirstBad before at (line ∷ lines) fault = IsBad before at line fault ⊎ ((statement : Statement) × Says before line statement × HasFirstBad (statement ∷ before) (at + 1) lines fault)

-- the first of these keys that never stands
abbrev pub first_missing : List Key → LatestFirst → Option Key
first_missing [] said = None
first_missing (k ∷ keys) said = if stands k said then first_missing keys said else Some k

-- the keys that have to stand, in the order in which they are missed
abbrev pub needed : List Key
needed = Vertices ∷ RequiredCount ∷ Capacity ∷ Depot ∷ []

-- the number at the key is not the length of the list
pub record Differs (k list : Key) (said : LatestFirst) (stated found : ℕ) : Type 0 where
  pub there : number_of k said ≡ Some stated
  pub counted : found ≡ length (edges_of list said)
  pub differ : stated ≢ found

-- the number at the key, where it stands, is the length of the list
abbrev pub Agrees : Key → Key → LatestFirst → Type 0
Agrees k list said = IfSome (number_of k said) (λ n. n ≡ length (edges_of list said))

-- the first count that differs
abbrev pub IsFirstCount : LatestFirst → Key → ℕ → ℕ → Type 0
IsFirstCount said RequiredCount stated found = Differs RequiredCount RequiredList said stated found
IsFirstCount said OtherCount stated found = Agrees RequiredCount RequiredList said × Differs OtherCount OtherList said stated found
IsFirstCount said _ stated found = ⊥

-- what a text describes
pub record Description : Type 0 where
  pub vertices : ℕ
  pub depot : ℕ
  pub capacity : ℕ
  pub required : List RawEdge
  pub others : List RawEdge

abbrev pub problem_of : Description → Problem
problem_of d = described d.vertices d.depot d.capacity d.required d.others

-- the keys that have to stand do, and the counts are those of the lists
pub record IsComplete (said : LatestFirst) (d : Description) : Type 0 where
  pub vertices : number_of Vertices said ≡ Some d.vertices
  pub depot : number_of Depot said ≡ Some d.depot
  pub capacity : number_of Capacity said ≡ Some d.capacity
  pub required_count : number_of RequiredCount said ≡ Some (length d.required)
  pub other_count : IfSome (number_of OtherCount said) (λ n. n ≡ length d.others)
  pub required : d.required ≡ edges_of RequiredList said
  pub others : d.others ≡ edges_of OtherList said

-- the first fault of what good lines say: a key is missing, or else a count differs
abbrev pub IsIncomplete : LatestFirst → DatFault → Type 0
IsIncomplete said (MissingKey k) = first_missing needed said ≡ Some k
IsIncomplete said (CountDiffers k stated found) = (first_missing needed said ≡ None) × IsFirstCount said k stated found
IsIncomplete said _ = ⊥

-- all lines are good, and they describe this
pub record Describes (bytes : List ℕ) (d : Description) : Type 0 where
  pub said : LatestFirst
  pub lines : AreGood [] (lines_of bytes) said
  pub complete : IsComplete said d

-- the bytes are a text of the instance
pub record IsTextOf (bytes : List ℕ) (p : Problem) : Type 0 where
  pub description : Description
  pub describes : Describes bytes description
  pub is : p ≡ problem_of description
  pub valid : IsValid p

-- the first fault of bytes that are no text of a valid instance
abbrev pub IsFaultOf : List ℕ → DatFault → Type 0
IsFaultOf bytes (Refused fault) = (d : Description) × Describes bytes d × IsFirstFault (problem_of d) fault
IsFaultOf bytes fault = HasFirstBad [] 1 (lines_of bytes) fault ⊎ ((said : LatestFirst) × AreGood [] (lines_of bytes) said × IsIncomplete said fault)
