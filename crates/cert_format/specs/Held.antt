-- What a reader holds after the bytes that it has taken.
use Rattle.std.specs.Prelude.{◌≡◌, ℕ, ◌==◌, ◌&&◌, Bool, not, List, [], ◌∷◌, ◌++◌}
use Rattle.std.specs.List.{slice_split}
use Rattle.cert_lines.specs.Words.{HoldsWord}
use Rattle.cert_lines.specs.declared.fault.CertFault.{CertFault}
use Rattle.cert_lines.specs.declared.item.Item.{Item}
use Rattle.cert_lines.specs.declared.item.Item.TheVariants.{Quiet, Head, Node, Whole}
use Rattle.cert_lines.specs.Order.{LatestFirst}
use Rattle.cert_lines.specs.Texts.{ReadsAs, BreaksAt, items_of}
use Rattle.cert_format.specs.declared.cert_reader.CertReader.{CertReader}
use Rattle.cert_format.specs.declared.reader.Standing.{Standing}
use Rattle.cert_format.specs.declared.reader.Standing.TheVariants.{Going, Bad, OutOfMemory}
use Rattle.cert_format.specs.Certs.{IsHeadOf}
use Rattle.cert_format.specs.Drafts.{HoldsDraft}
use Rattle.cert_format.specs.Judging.{context_of, item_list, Steady}
use Rattle.cert_format.specs.LineStates.{HoldsLine}

-- a line is cut at each blank
abbrev pub words_in : List ℕ → List (List ℕ)
words_in bytes = slice_split (λ b. b == 32) bytes

-- the lines of the bytes are good, and the draft holds what they say; of the rest the whole words are held, and the last one
pub record IsGoing (reader : CertReader) (bytes : List ℕ) (said : LatestFirst) (rest : List ℕ) : Type 0 where
  pub reads : ReadsAs bytes said rest
  pub draft : HoldsDraft reader.draft said
  pub words : List (List ℕ)
  pub text : List ℕ
  pub cut : words_in rest ≡ words ++ text ∷ []
  pub line : HoldsLine (context_of reader.draft) reader.line words
  pub word : HoldsWord reader.word text

-- the bytes have a bad line, and the head is what those before it say
pub record IsBroken (reader : CertReader) (bytes : List ℕ) (fault : CertFault) : Type 0 where
  pub said : LatestFirst
  pub breaks : BreaksAt bytes said fault
  pub head : IsHeadOf said reader.draft.head

abbrev pub StandingHolds : Standing → CertReader → List ℕ → Type 0
StandingHolds Going reader bytes = (said : LatestFirst) × (rest : List ℕ) × IsGoing reader bytes said rest
StandingHolds (Bad fault) reader bytes = IsBroken reader bytes fault
StandingHolds OutOfMemory reader bytes = ⊥

-- the reader has taken exactly these bytes
abbrev pub HasTaken : CertReader → List ℕ → Type 0
HasTaken reader bytes = StandingHolds reader.standing reader bytes

-- an item is given only with the end of a line
abbrev pub EndsFor : Item → List ℕ → Type 0
EndsFor Quiet rest = Unit {0}
EndsFor Head rest = rest ≡ []
EndsFor (Node x) rest = rest ≡ []
EndsFor Whole rest = rest ≡ []

-- after these bytes no line is bad, and beside the items of the lines before this item is given
pub record Advances (new : CertReader) (bytes : List ℕ) (before : LatestFirst) (item : Item) : Type 0 where
  pub said : LatestFirst
  pub rest : List ℕ
  pub going : IsGoing new bytes said rest
  pub gives : items_of said ≡ items_of before ++ item_list item
  pub ends : EndsFor item rest
  pub steady : Steady item said before

-- a byte that is no blank and no LF
abbrev pub is_plain : ℕ → Bool
is_plain b = not (b == 32) && not (b == 10)

-- no item is given only if the whole piece was taken
abbrev pub FillsUp : Item → (taken size : ℕ) → Type 0
FillsUp Quiet taken size = taken ≡ size
FillsUp Head taken size = Unit {0}
FillsUp (Node x) taken size = Unit {0}
FillsUp Whole taken size = Unit {0}
