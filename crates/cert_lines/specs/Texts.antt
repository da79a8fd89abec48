-- The text of a certificate, line by line, with its first bad line or the line at which it stops.
use Rattle.std.specs.Prelude.{◌≡◌, ◌≢◌, ℕ, ◌+◌, ◌==◌, IsTrue, ◌⊎◌, List, [], ◌∷◌, ◌++◌, length}
use Rattle.std.specs.List.{slice_split}
use Rattle.cert_lines.specs.declared.fault.CertFault.{CertFault}
use Rattle.cert_lines.specs.declared.fault.CertFault.TheVariants.{Syntax, Limit, Truncated}
use Rattle.cert_lines.specs.declared.item.Item.{Item}
use Rattle.cert_lines.specs.declared.item.Item.TheVariants as items
use Rattle.cert_lines.specs.declared.next.Next.TheVariants.{Nothing}
use Rattle.cert_lines.specs.Lines.{Line, nodes, node, end, line_text}
use Rattle.cert_lines.specs.Order.{LatestFirst, next_of, follows}
use Rattle.cert_lines.specs.Certificates.{Certificate, certificate_of}
use Rattle.cert_lines.specs.Ranges.{IsInRange}
use Rattle.cert_lines.specs.Agreement.{Agrees}

-- the bytes are spelled as this line, which is of the kind that stands next
pub record HasShape (said : LatestFirst) (bytes : List ℕ) (line : Line) : Type 0 where
  pub follows : IsTrue (follows (next_of said) line)
  pub spelled : bytes ≡ line_text line

-- the bytes are a good line: they have its shape, its numbers are in range, and what it says agrees
pub record Says (said : LatestFirst) (bytes : List ℕ) (line : Line) : Type 0 where
  pub shape : HasShape said bytes line
  pub in_range : IsInRange said line
  pub agrees : Agrees said line

-- the shape of no line that may stand there
abbrev pub IsShapeless : LatestFirst → List ℕ → Type 0
IsShapeless said bytes = (line : Line) → ¬ (HasShape said bytes line)

-- the shape is right, and a number is out of its range
pub record IsPastLimit (said : LatestFirst) (bytes : List ℕ) : Type 0 where
  pub line : Line
  pub shape : HasShape said bytes line
  pub past : ¬ (IsInRange said line)

-- the shape is right, all numbers are in range, and what the line says does not agree
pub record Disagrees (said : LatestFirst) (bytes : List ℕ) : Type 0 where
  pub line : Line
  pub shape : HasShape said bytes line
  pub in_range : IsInRange said line
  pub disagrees : ¬ (Agrees said line)

-- a line of this number is bad with this fault
abbrev pub IsBad : LatestFirst → ℕ → List ℕ → CertFault → Type 0
IsBad said at bytes (Syntax n) = (n ≡ at) × (IsShapeless said bytes ⊎ Disagrees said bytes)
IsBad said at bytes (Limit n) = (n ≡ at) × IsPastLimit said bytes
IsBad said at bytes (Truncated n) = ⊥

-- the bytes are cut at each LF; what follows the last LF is the last part, and no line
abbrev pub parts_of : List ℕ → List (List ℕ)
parts_of bytes = slice_split (λ b. b == 10) bytes

-- each part but the last is a good line, and then this is said; the last part is this
abbrev pub AreRead : LatestFirst → List (List ℕ) → LatestFirst → List ℕ → Type 0
AreRead before [] said rest = ⊥
AreRead before (last ∷ []) said rest = (said ≡ before) × (rest ≡ last)
AreRead before (bytes ∷ parts) said rest = (line : Line) × Says before bytes line × AreRead (line ∷ before) parts said rest

-- one of the parts but the last is the first bad line, with this fault; before it this is said. The first part has this number.
abbrev pub HasBadLine : LatestFirst → ℕ → List (List ℕ) → LatestFirst → CertFault → Type 0
HasBadLine before at [] said fault = ⊥
HasBadLine before at (last ∷ []) said fault = ⊥
HasBadLine before at (bytes ∷ parts) said fault =
    ((said ≡ before) × IsBad before at bytes fault)
    ⊎ ((line : Line) × Says before bytes line × HasBadLine (line ∷ before) (at + 1) parts said fault)

-- the lines of the bytes are good and say this, and the rest follows the last LF
abbrev pub ReadsAs : List ℕ → LatestFirst → List ℕ → Type 0
ReadsAs bytes said rest = AreRead [] (parts_of bytes) said rest

-- the bytes have a bad line; the first one has this fault, and those before it say this
abbrev pub BreaksAt : List ℕ → LatestFirst → CertFault → Type 0
BreaksAt bytes said fault = HasBadLine [] 1 (parts_of bytes) said fault

-- bytes whose lines are good, and no certificate: they stop before `end`, at the line after those that are complete, or more
-- bytes follow `end`
abbrev pub IsUnfinished : LatestFirst → List ℕ → ℕ → CertFault → Type 0
IsUnfinished said rest at (Truncated n) = (n ≡ at) × (next_of said ≢ Nothing)
IsUnfinished said rest at (Syntax n) = (n ≡ at) × (next_of said ≡ Nothing) × (rest ≢ [])
IsUnfinished said rest at (Limit n) = ⊥

-- the bytes are the text of the certificate
pub record IsTextOf (bytes : List ℕ) (c : Certificate) : Type 0 where
  pub said : LatestFirst
  pub reads : ReadsAs bytes said []
  pub whole : next_of said ≡ Nothing
  pub is : c ≡ certificate_of said

-- the first fault of bytes that are the text of no certificate
abbrev pub IsFaultOf : List ℕ → CertFault → Type 0
IsFaultOf bytes fault =
    ((said : LatestFirst) × BreaksAt bytes said fault)
    ⊎ ((said : LatestFirst) × (rest : List ℕ) × ReadsAs bytes said rest × IsUnfinished said rest (length said + 1) fault)

-- what a reader in pieces gives of the lines: the head with the number of nodes, each node, and the end
abbrev pub items_of : LatestFirst → List Item
items_of [] = []
items_of (nodes n ∷ said) = items_of said ++ items.Head ∷ []
items_of (node x ∷ said) = items_of said ++ items.Node x ∷ []
items_of (end ∷ said) = items_of said ++ items.Whole ∷ []
items_of (_ ∷ said) = items_of said
