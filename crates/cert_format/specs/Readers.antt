-- What a reader in pieces answers, by the bytes that it has taken.
use Rattle.std.specs.Prelude.{◌≡◌, ℕ, ◌≤◌, List, [], ◌∷◌, ◌++◌, length, take, ◌⊎◌}
use Rattle.cert_lines.specs.declared.fault.CertFault.{CertFault}
use Rattle.cert_lines.specs.declared.item.Item.{Item}
use Rattle.cert_lines.specs.declared.item.Item.TheVariants.{Quiet, Head, Node, Whole}
use Rattle.cert_lines.specs.Order.{LatestFirst}
use Rattle.cert_lines.specs.Texts.{ReadsAs, BreaksAt, items_of}

-- the good lines of the bytes, up to the first bad one, say this
abbrev pub SaysSoFar : List ℕ → LatestFirst → Type 0
SaysSoFar bytes said = ((rest : List ℕ) × ReadsAs bytes said rest) ⊎ ((fault : CertFault) × BreaksAt bytes said fault)

-- a line or no line was completed by the last byte: nothing follows its LF
abbrev pub EndsWithLine : List ℕ → LatestFirst → Type 0
EndsWithLine bytes said = ReadsAs bytes said []

-- beside what was given before, the bytes give this item: one more, complete with the last byte of those taken, or none, if the whole piece
-- was taken
abbrev pub GivesItem : (before said : LatestFirst) (bytes : List ℕ) (taken size : ℕ) → Item → Type 0
GivesItem before said bytes taken size Quiet = (items_of said ≡ items_of before) × (taken ≡ size)
GivesItem before said bytes taken size Head = (items_of said ≡ items_of before ++ Head ∷ []) × EndsWithLine bytes said
GivesItem before said bytes taken size (Node x) = (items_of said ≡ items_of before ++ Node x ∷ []) × EndsWithLine bytes said
GivesItem before said bytes taken size Whole = (items_of said ≡ items_of before ++ Whole ∷ []) × EndsWithLine bytes said

-- so many bytes of the piece were taken, no line is bad, and this item is given
pub record Gives (bytes piece : List ℕ) (taken : ℕ) (item : Item) : Type 0 where
  pub within : taken ≤ length piece
  pub before : LatestFirst
  pub said : LatestFirst
  pub rest_before : List ℕ
  pub rest : List ℕ
  pub read_before : ReadsAs bytes before rest_before
  pub read : ReadsAs (bytes ++ take taken piece) said rest
  pub gives : GivesItem before said (bytes ++ take taken piece) taken (length piece) item
