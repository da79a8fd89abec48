-- How the private functions read a line from left to right. No public contract cites this.
use Rattle.std.specs.Prelude.{ℕ, Bool, List, [], ◌∷◌, length, take, drop, Option, Some, None, unwrap_or, nat_lt, ◌==◌, codes, true, if◌then◌else◌}
use Rattle.std.specs.List.{prefix_len}
use Rattle.std.specs.Option.{option_and_then}
use Rattle.std.specs.Str.{str_eq_ignore_ascii_case}
use Rattle.std.specs.Char.{is_ascii_digit}
use Rattle.dat_text.specs.Lines.{is_blank, EdgeNumbers}

infixl 10 ◌>>=◌
abbrev pub ◌>>=◌ : {A B : Type 0} → Option A → (A → Option B) → Option B
o >>= f = option_and_then f o

-- the bytes at the front that pass the test, and what follows them
abbrev pub run_at : (ℕ → Bool) → List ℕ → List ℕ
run_at test text = take (prefix_len test text) text

abbrev pub after_run : (ℕ → Bool) → List ℕ → List ℕ
after_run test text = drop (prefix_len test text) text

-- what follows the byte at the front
abbrev pub after_first : ℕ → List ℕ → Option (List ℕ)
after_first b [] = None
after_first b (c ∷ text) = if c == b then Some text else None

-- what follows blanks and the byte
unfoldable pub after_byte : ℕ → List ℕ → Option (List ℕ)
after_byte b text = after_first b (after_run is_blank text)

-- what follows the letters at the front, in any case
abbrev pub after_letters : List ℕ → List ℕ → Option (List ℕ)
after_letters letters text =
    if nat_lt (length text) (length letters) then None
    else (if str_eq_ignore_ascii_case (take (length letters) text) letters then Some (drop (length letters) text) else None)

-- what follows blanks and the word
unfoldable pub after_word : List ℕ → List ℕ → Option (List ℕ)
after_word letters text = after_letters letters (after_run is_blank text)

-- a number at the front, and what follows it
abbrev pub digits_at : List ℕ → Option (List ℕ × List ℕ)
digits_at text = if prefix_len is_ascii_digit text == 0 then None else Some (run_at is_ascii_digit text, after_run is_ascii_digit text)

-- a number behind blanks, and what follows it
unfoldable pub number_at : List ℕ → Option (List ℕ × List ℕ)
number_at text = digits_at (after_run is_blank text)

-- nothing follows, or a blank
abbrev pub is_end : List ℕ → Bool
is_end [] = true
is_end (b ∷ text) = is_blank b

-- what follows a colon, where one stands
abbrev pub after_colon : List ℕ → List ℕ
after_colon text = unwrap_or (after_byte 58 text) text

-- the digits that a key states
unfoldable pub stated_at : List ℕ → Option (List ℕ)
stated_at text = do
  n ← number_at (after_colon text)
  if is_end n.1 then Some n.0 else None

-- the number behind a word
unfoldable pub labelled_at : List ℕ → List ℕ → Option (List ℕ × List ℕ)
labelled_at label text = do
  rest ← after_word label text
  number_at rest

abbrev pub is_blank_line : List ℕ → Bool
is_blank_line text = length (after_run is_blank text) == 0

-- the number behind a word, or none where the line ends
unfoldable pub optional_at : List ℕ → List ℕ → Option (Option (List ℕ) × List ℕ)
optional_at label text =
    if is_blank_line text then Some (None, text)
    else (do
      n ← labelled_at label text
      Some (Some n.0, n.1))

-- both ends of an edge
unfoldable pub ends_at : List ℕ → Option (List ℕ × List ℕ × List ℕ)
ends_at text = do
  opened ← after_byte 40 text
  u ← number_at opened
  between ← after_byte 44 u.1
  v ← number_at between
  rest ← after_byte 41 v.1
  Some (u.0, v.0, rest)

unfoldable pub edge_line_at : List ℕ → Option EdgeNumbers
edge_line_at text = do
  ends ← ends_at text
  cost ← labelled_at (codes "coste") ends.2
  demand ← optional_at (codes "demanda") cost.1
  service ← optional_at (codes "servicio") demand.1
  if is_blank_line service.1 then Some (record { u = ends.0; v = ends.1; cost = cost.0; demand = demand.0; service = service.0 }) else None
