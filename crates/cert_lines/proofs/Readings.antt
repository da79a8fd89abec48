-- Bytes are read in one way.
use Rattle.std.proofs.Common.{◌≡◌, ℕ, ◌+◌, ◌⊎◌, inl, inr, List, [], ◌∷◌, length, sym, ap, subst, ◌∙◌}
use Rattle.cert_lines.specs.declared.fault.CertFault.{CertFault}
use Rattle.cert_lines.specs.declared.fault.CertFault.TheVariants.{Syntax, Limit, Truncated}
use Rattle.cert_lines.specs.declared.next.Next.TheVariants.{Nothing}
use Rattle.cert_lines.specs.Lines.{Line}
use Rattle.cert_lines.specs.Order.{LatestFirst, next_of}
use Rattle.cert_lines.specs.Certificates.{Certificate, certificate_of}
use Rattle.cert_lines.specs.Ranges.{IsInRange}
use Rattle.cert_lines.specs.Agreement.{Agrees}
use Rattle.cert_lines.specs.Texts.{HasShape, Says, IsShapeless, IsPastLimit, Disagrees, IsBad, AreRead, HasBadLine, ReadsAs, BreaksAt, IsUnfinished, IsTextOf, IsFaultOf}
use Rattle.cert_lines.proofs.LineWords.{line_unique}

-- One line.

shape_unique : (said : LatestFirst) (bytes : List ℕ) (line other : Line) → HasShape said bytes line → HasShape said bytes other → line ≡ other
shape_unique said bytes line other is has = line_unique line other (sym is.spelled ∙ has.spelled)

says_unique : (said : LatestFirst) (bytes : List ℕ) (line other : Line) → Says said bytes line → Says said bytes other → line ≡ other
says_unique said bytes line other is has = shape_unique said bytes line other is.shape has.shape

-- a good line is not bad
says_not_bad : (said : LatestFirst) (at : ℕ) (bytes : List ℕ) (line : Line) (fault : CertFault) → Says said bytes line → ¬ (IsBad said at bytes fault)
says_not_bad said at bytes line (Syntax n) says (number, inl shapeless) = shapeless line says.shape
says_not_bad said at bytes line (Syntax n) says (number, inr bad) =
    let same = shape_unique said bytes line bad.line says.shape bad.shape in
    bad.disagrees (subst (λ (l : Line). Agrees said l) same says.agrees)
says_not_bad said at bytes line (Limit n) says (number, bad) =
    let same = shape_unique said bytes line bad.line says.shape bad.shape in
    bad.past (subst (λ (l : Line). IsInRange said l) same says.in_range)
says_not_bad said at bytes line (Truncated n) says bad = bad

-- a line past a limit has its shape, and is not in range
past_not_syntax : (said : LatestFirst) (bytes : List ℕ) → IsPastLimit said bytes → IsShapeless said bytes ⊎ Disagrees said bytes → ⊥
past_not_syntax said bytes past (inl shapeless) = shapeless past.line past.shape
past_not_syntax said bytes past (inr bad) =
    let same = shape_unique said bytes bad.line past.line bad.shape past.shape in
    past.past (subst (λ (l : Line). IsInRange said l) same bad.in_range)

bad_unique : (said : LatestFirst) (at : ℕ) (bytes : List ℕ) (fault another : CertFault) → IsBad said at bytes fault → IsBad said at bytes another → fault ≡ another
bad_unique said at bytes (Syntax m) (Syntax n) one two = ap Syntax (one.0 ∙ sym two.0)
bad_unique said at bytes (Syntax m) (Limit n) one two = absurd (past_not_syntax said bytes two.1 one.1)
bad_unique said at bytes (Syntax m) (Truncated n) one two = absurd two
bad_unique said at bytes (Limit m) (Syntax n) one two = absurd (past_not_syntax said bytes one.1 two.1)
bad_unique said at bytes (Limit m) (Limit n) one two = ap Limit (one.0 ∙ sym two.0)
bad_unique said at bytes (Limit m) (Truncated n) one two = absurd two
bad_unique said at bytes (Truncated m) another one two = absurd one

-- All parts.

pub read_unique : (before : LatestFirst) (parts : List (List ℕ)) (said other : LatestFirst) (rest more : List ℕ) →
    AreRead before parts said rest → AreRead before parts other more → (said ≡ other) × (rest ≡ more)
read_unique before [] said other rest more one two = absurd one
read_unique before (last ∷ []) said other rest more one two = (one.0 ∙ sym two.0, one.1 ∙ sym two.1)
read_unique before (bytes ∷ next ∷ parts) said other rest more (line, says, one) (line', says', two) =
    let same = says_unique before bytes line' line says' says in
    read_unique (line ∷ before) (next ∷ parts) said other rest more one
    (subst (λ (l : Line). AreRead (l ∷ before) (next ∷ parts) other more) same two)

pub read_not_bad : (before : LatestFirst) (at : ℕ) (parts : List (List ℕ)) (said other : LatestFirst) (rest : List ℕ) (fault : CertFault) →
    AreRead before parts said rest → HasBadLine before at parts other fault → ⊥
read_not_bad before at [] said other rest fault one two = one
read_not_bad before at (last ∷ []) said other rest fault one two = two
read_not_bad before at (bytes ∷ next ∷ parts) said other rest fault (line, says, one) (inl two) = says_not_bad before at bytes line fault says two.1
read_not_bad before at (bytes ∷ next ∷ parts) said other rest fault (line, says, one) (inr (line', says', two)) =
    let same = says_unique before bytes line' line says' says in
    read_not_bad (line ∷ before) (at + 1) (next ∷ parts) said other rest fault one
    (subst (λ (l : Line). HasBadLine (l ∷ before) (at + 1) (next ∷ parts) other fault) same two)

pub bad_line_unique : (before : LatestFirst) (at : ℕ) (parts : List (List ℕ)) (said other : LatestFirst) (fault another : CertFault) →
    HasBadLine before at parts said fault → HasBadLine before at parts other another → (said ≡ other) × (fault ≡ another)
bad_line_unique before at [] said other fault another one two = absurd one
bad_line_unique before at (last ∷ []) said other fault another one two = absurd one
bad_line_unique before at (bytes ∷ next ∷ parts) said other fault another (inl one) (inl two) =
    (one.0 ∙ sym two.0, bad_unique before at bytes fault another one.1 two.1)
bad_line_unique before at (bytes ∷ next ∷ parts) said other fault another (inl one) (inr (line, says, two)) =
    absurd (says_not_bad before at bytes line fault says one.1)
bad_line_unique before at (bytes ∷ next ∷ parts) said other fault another (inr (line, says, one)) (inl two) =
    absurd (says_not_bad before at bytes line another says two.1)
bad_line_unique before at (bytes ∷ next ∷ parts) said other fault another (inr (line, says, one)) (inr (line', says', two)) =
    let same = says_unique before bytes line' line says' says in
    bad_line_unique (line ∷ before) (at + 1) (next ∷ parts) said other fault another one
    (subst (λ (l : Line). HasBadLine (l ∷ before) (at + 1) (next ∷ parts) other another) same two)

-- Whole texts.

pub reading_unique : (bytes : List ℕ) (said other : LatestFirst) (rest more : List ℕ) → ReadsAs bytes said rest → ReadsAs bytes other more → (said ≡ other) × (rest ≡ more)
reading_unique bytes said other rest more = read_unique [] _ said other rest more

pub reading_not_bad : (bytes : List ℕ) (said other : LatestFirst) (rest : List ℕ) (fault : CertFault) → ReadsAs bytes said rest → ¬ (BreaksAt bytes other fault)
reading_not_bad bytes said other rest fault = read_not_bad [] 1 _ said other rest fault

pub breaking_unique : (bytes : List ℕ) (said other : LatestFirst) (fault another : CertFault) → BreaksAt bytes said fault → BreaksAt bytes other another → (said ≡ other) × (fault ≡ another)
breaking_unique bytes said other fault another = bad_line_unique [] 1 _ said other fault another

pub text_unique : (bytes : List ℕ) (c d : Certificate) → IsTextOf bytes c → IsTextOf bytes d → c ≡ d
text_unique bytes c d one two = one.is ∙ ap certificate_of (reading_unique bytes one.said two.said [] [] one.reads two.reads).0 ∙ sym two.is

whole_not_unfinished : (said : LatestFirst) (rest : List ℕ) (at : ℕ) (fault : CertFault) → next_of said ≡ Nothing → rest ≡ [] → ¬ (IsUnfinished said rest at fault)
whole_not_unfinished said rest at (Truncated n) whole none stops = stops.1 whole
whole_not_unfinished said rest at (Syntax n) whole none stops = stops.2 none
whole_not_unfinished said rest at (Limit n) whole none stops = stops

pub text_no_fault : (bytes : List ℕ) (c : Certificate) (fault : CertFault) → IsTextOf bytes c → ¬ (IsFaultOf bytes fault)
text_no_fault bytes c fault is (inl (said, breaks)) = reading_not_bad bytes is.said said [] fault is.reads breaks
text_no_fault bytes c fault is (inr (said, rest, reads, stops)) =
    let same = reading_unique bytes is.said said [] rest is.reads reads in
    whole_not_unfinished said rest (length said + 1) fault (ap next_of (sym same.0) ∙ is.whole) (sym same.1) stops

unfinished_unique : (said : LatestFirst) (rest : List ℕ) (at : ℕ) (fault another : CertFault) → IsUnfinished said rest at fault → IsUnfinished said rest at another → fault ≡ another
unfinished_unique said rest at (Truncated m) (Truncated n) one two = ap Truncated (one.0 ∙ sym two.0)
unfinished_unique said rest at (Truncated m) (Syntax n) one two = absurd (one.1 two.1)
unfinished_unique said rest at (Truncated m) (Limit n) one two = absurd two
unfinished_unique said rest at (Syntax m) (Truncated n) one two = absurd (two.1 one.1)
unfinished_unique said rest at (Syntax m) (Syntax n) one two = ap Syntax (one.0 ∙ sym two.0)
unfinished_unique said rest at (Syntax m) (Limit n) one two = absurd two
unfinished_unique said rest at (Limit m) another one two = absurd one

pub fault_unique : (bytes : List ℕ) (fault another : CertFault) → IsFaultOf bytes fault → IsFaultOf bytes another → fault ≡ another
fault_unique bytes fault another (inl (said, one)) (inl (other, two)) = (breaking_unique bytes said other fault another one two).1
fault_unique bytes fault another (inl (said, one)) (inr (other, rest, two, stops)) = absurd (reading_not_bad bytes other said rest fault two one)
fault_unique bytes fault another (inr (said, rest, one, stops)) (inl (other, two)) = absurd (reading_not_bad bytes said other rest another one two)
fault_unique bytes fault another (inr (said, rest, one, stops)) (inr (other, more, two, stops')) =
    let same = reading_unique bytes other said more rest two one in
    let here : IsUnfinished said more (length said + 1) another = subst (λ (s : LatestFirst). IsUnfinished s more (length s + 1) another) same.0 stops' in
    unfinished_unique said rest (length said + 1) fault another stops
    (subst (λ (bytes' : List ℕ). IsUnfinished said bytes' (length said + 1) another) same.1 here)
