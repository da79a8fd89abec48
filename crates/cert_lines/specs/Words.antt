-- What is held of a word.
use Rattle.std.specs.Prelude.{◌≡◌, ◌≢◌, ℕ, ◌≤◌, Bool, true, false, List, [], ◌++◌, length}
use Rattle.std.specs.List.{list_all}
use Rattle.std.specs.Char.{is_ascii_digit}
use Rattle.cert_lines.specs.declared.word.Word.{Word}

-- the front of a text is kept, at least so many bytes of it if there are more, and of the rest whether all are digits
pub record IsCut (least : ℕ) (front : List ℕ) (goes_on all_digits : Bool) (text : List ℕ) : Type 0 where
  pub rest : List ℕ
  pub parts : text ≡ front ++ rest
  pub whole : goes_on ≡ false → rest ≡ []
  pub longer : goes_on ≡ true → rest ≢ []
  pub long : goes_on ≡ true → least ≤ length front
  pub digits : all_digits ≡ list_all is_ascii_digit rest

-- the word is this text
abbrev pub HoldsWord : Word → List ℕ → Type 0
HoldsWord word text = IsCut 20 word.kept.items word.more word.digits text
