-- Laws over all texts of certificates.
use Rattle.std.specs.Prelude.{◌≡◌, ℕ, ◌==◌, ◌+◌, ◌*◌, ◌^◌, ◌≤◌, ◌<◌, ℤ, nat_abs, List, [], ◌∷◌, ◌++◌, length}
use Rattle.std.specs.Fmt.{decimal, signed_decimal}
use Rattle.std.specs.List.{AllByRecursion, slice_split}
use Rattle.carp_base.specs.Problem.{Problem, IsValid}
use Rattle.cut_pool.specs.Shores.{IsShore, Belongs}
use Rattle.cert_lines.specs.declared.fault.CertFault.{CertFault}
use Rattle.cert_lines.specs.Numerals.{numeral, signed_numeral}
use Rattle.cert_lines.specs.Lines.{Line, words_of, line_text}
use Rattle.cert_lines.specs.Order.{LatestFirst}
use Rattle.cert_lines.specs.Certificates.{Certificate}
use Rattle.cert_lines.specs.Texts.{ReadsAs, BreaksAt, IsTextOf, IsFaultOf}
use Rattle.cert_lines.specs.Spelling.{text_of, IsSpellable, IsFine, IsFineShore}

-- a number of 64 bits is spelled as std writes it
abbrev pub NumeralIsDecimal : Type 0
NumeralIsDecimal = (n : ℕ) → n < 2 ^ 64 → numeral n ≡ decimal n

abbrev pub SignedNumeralIsDecimal : Type 0
SignedNumeralIsDecimal = (z : ℤ) → nat_abs z < 2 ^ 64 → signed_numeral z ≡ signed_decimal z

-- a number below 10 is one digit, and one more digit makes ten times as much and the digit
abbrev pub DigitIsNumeral : Type 0
DigitIsNumeral = (d : ℕ) → d < 10 → numeral d ≡ (48 + d) ∷ []

abbrev pub NumeralGrows : Type 0
NumeralGrows = (n d : ℕ) → 1 ≤ n → d < 10 → numeral (10 * n + d) ≡ numeral n ++ (48 + d) ∷ []

abbrev pub NumeralIsOfDigits : Type 0
NumeralIsOfDigits = (n : ℕ) → AllByRecursion (λ b. (48 ≤ b) × (b ≤ 57)) (numeral n)

abbrev pub NumeralIsUnique : Type 0
NumeralIsUnique = (m n : ℕ) → numeral m ≡ numeral n → m ≡ n

abbrev pub SignedNumeralIsUnique : Type 0
SignedNumeralIsUnique = (y z : ℤ) → signed_numeral y ≡ signed_numeral z → y ≡ z

-- no two lines have the same bytes
abbrev pub LineIsUnique : Type 0
LineIsUnique = (line other : Line) → line_text line ≡ line_text other → line ≡ other

-- a line is cut at its blanks into its words
abbrev pub LineIsCut : Type 0
LineIsCut = (line : Line) → slice_split (λ b. b == 32) (line_text line) ≡ words_of line

-- all bytes of a line are from 32 to 122, so that none is an LF
abbrev pub LineHasNoEnd : Type 0
LineHasNoEnd = (line : Line) → AllByRecursion (λ b. (32 ≤ b) × (b ≤ 122)) (line_text line)

-- what the lines of bytes say, and what follows them, is one
abbrev pub ReadingIsUnique : Type 0
ReadingIsUnique =
    (bytes : List ℕ) (said other : LatestFirst) (rest more : List ℕ) → ReadsAs bytes said rest → ReadsAs bytes other more → (said ≡ other) × (rest ≡ more)

-- bytes whose lines are good have no bad line
abbrev pub ReadIsNotBad : Type 0
ReadIsNotBad = (bytes : List ℕ) (said other : LatestFirst) (rest : List ℕ) (fault : CertFault) → ReadsAs bytes said rest → ¬ (BreaksAt bytes other fault)

-- bytes have at most one first bad line, with one fault
abbrev pub BadLineIsUnique : Type 0
BadLineIsUnique =
    (bytes : List ℕ) (said other : LatestFirst) (fault another : CertFault) →
    BreaksAt bytes said fault → BreaksAt bytes other another → (said ≡ other) × (fault ≡ another)

-- bytes are the text of at most one certificate
abbrev pub TextIsUnique : Type 0
TextIsUnique = (bytes : List ℕ) (c d : Certificate) → IsTextOf bytes c → IsTextOf bytes d → c ≡ d

-- the text of a certificate has no fault
abbrev pub TextHasNoFault : Type 0
TextHasNoFault = (bytes : List ℕ) (c : Certificate) (fault : CertFault) → IsTextOf bytes c → ¬ (IsFaultOf bytes fault)

-- bytes have at most one first fault
abbrev pub FaultIsUnique : Type 0
FaultIsUnique = (bytes : List ℕ) (fault another : CertFault) → IsFaultOf bytes fault → IsFaultOf bytes another → fault ≡ another

-- the spelling of a certificate that can be spelled is its text
abbrev pub SpelledIsRead : Type 0
SpelledIsRead = (c : Certificate) → IsSpellable c → IsTextOf (text_of c) c

-- a text is the spelling of its certificate, which can be spelled
abbrev pub ReadIsSpellable : Type 0
ReadIsSpellable = (bytes : List ℕ) (c : Certificate) → IsTextOf bytes c → IsSpellable c

abbrev pub ReadIsSpelled : Type 0
ReadIsSpelled = (bytes : List ℕ) (c : Certificate) → IsTextOf bytes c → bytes ≡ text_of c

-- a certificate with its numbers in range, its shores, weights and pairs in order, different shores and a tree in preorder can be spelled
abbrev pub FineIsSpellable : Type 0
FineIsSpellable = (c : Certificate) → IsFine c → IsSpellable c

-- and the other way: so its nodes are one tree, and its shores are different
abbrev pub SpellableIsFine : Type 0
SpellableIsFine = (c : Certificate) → IsSpellable c → IsFine c

-- a shore of a valid instance can be spelled
abbrev pub ShoreIsFine : Type 0
ShoreIsFine = (p : Problem) (shore : List ℕ) → IsValid p → IsShore shore → Belongs p shore → IsFineShore shore

-- the text of a certificate has at most 268,435,456 bytes
abbrev pub TextIsShort : Type 0
TextIsShort = (bytes : List ℕ) (c : Certificate) → IsTextOf bytes c → length bytes ≤ 268435456

abbrev pub SpellingIsShort : Type 0
SpellingIsShort = (c : Certificate) → IsSpellable c → length (text_of c) ≤ 268435456
