-- How the private functions read a line from left to right. No public contract speaks of this.
use Rattle.std.specs.Prelude.{◌≡◌, ℕ, ◌<◌, Bool, ◌&&◌, ◌||◌, not, nat_eq, nat_le, List, [], ◌∷◌, ◌++◌, length, take, drop, slice_index_or, Option, Some, None, codes, if◌then◌else◌, false}
use Rattle.std.specs.List.{prefix_len, list_any}
use Rattle.std.specs.Cmp.Lexicographic.{pointwise}
use Rattle.std.specs.Option.{option_and_then}
use Rattle.std.specs.Char.{is_ascii_digit}
use Rattle.std.specs.Str.Parse.{digits_value}
use Rattle.carp_base.specs.Problem.{Problem}
use Rattle.instance_edits.specs.declared.edit.Edit.{Edit}
use Rattle.instance_edits.specs.declared.edit.Edit.TheVariants as edits
use Rattle.instance_edits.specs.declared.edit.EditFault.{EditFault}
use Rattle.instance_edits.specs.declared.edit.EditFault.TheVariants.{Syntax, Unknown, Refused}
use Rattle.instance_edits.specs.declared.line.Keyword.{Keyword}
use Rattle.instance_edits.specs.declared.line.Keyword.TheVariants.{Cost, Service, Demand, Close}
use Rattle.instance_edits.specs.declared.line.Line.{Line}
use Rattle.instance_edits.specs.Edits.{IsKnown, closes}
use Rattle.instance_edits.specs.Texts.{edit_text, HasShortNumbers, NoEditBegins}

-- the edit of a line
abbrev pub edit_with : Keyword → ℕ → ℕ → Edit
edit_with Cost e n = edits.Cost e n
edit_with Service e n = edits.Service e n
edit_with Demand e n = edits.Demand e n
edit_with Close e n = edits.Close e

abbrev pub edit_of : Line → Edit
edit_of l = edit_with l.keyword l.edge l.add

-- the digits at the front, and what follows them
abbrev pub digits_at : List ℕ → List ℕ
digits_at text = take (prefix_len is_ascii_digit text) text

abbrev pub after_digits : List ℕ → List ℕ
after_digits text = drop (prefix_len is_ascii_digit text) text

-- digits that spell a number: 1 to 12, and `0` is the first of no others
abbrev pub is_numeral : List ℕ → Bool
is_numeral [] = false
is_numeral (c ∷ cs) = nat_le (length (c ∷ cs)) 12 && (not (nat_eq c 48) || nat_eq (length (c ∷ cs)) 1)

-- what follows the byte at the front
abbrev pub after_byte : ℕ → List ℕ → Option (List ℕ)
after_byte b [] = None
after_byte b (c ∷ text) = if nat_eq c b then Some text else None

-- the number at the front, before this byte, and what follows the byte
unfoldable pub number_before : ℕ → List ℕ → Option (ℕ × List ℕ)
number_before b text =
    if is_numeral (digits_at text) then option_and_then (λ rest. Some (digits_value 10 (digits_at text), rest)) (after_byte b (after_digits text)) else None

-- the word at the front, and what follows it
abbrev pub begins : List ℕ → List ℕ → Bool
begins word text = pointwise nat_eq (take (length word) text) word

unfoldable pub keyword_at : List ℕ → Option (Keyword × List ℕ)
keyword_at text =
    if begins (codes "cost ") text then Some (Cost, drop 5 text)
    else (if begins (codes "service ") text then Some (Service, drop 8 text)
    else (if begins (codes "demand ") text then Some (Demand, drop 7 text)
    else (if begins (codes "close ") text then Some (Close, drop 6 text)
    else None)))

-- the numbers of a line behind its word, and what follows the line
abbrev pub closing_at : List ℕ → Option (Edit × List ℕ)
closing_at text = option_and_then (λ e. Some (edits.Close e.0, e.1)) (number_before 10 text)

abbrev pub adding_at : Keyword → List ℕ → Option (Edit × List ℕ)
adding_at keyword text = option_and_then (λ e. option_and_then (λ n. Some (edit_with keyword e.0 n.0, n.1)) (number_before 10 e.1)) (number_before 32 text)

abbrev pub numbers_at : Keyword → List ℕ → Option (Edit × List ℕ)
numbers_at Close text = closing_at text
numbers_at Cost text = adding_at Cost text
numbers_at Service text = adding_at Service text
numbers_at Demand text = adding_at Demand text

-- the line at the front, and what follows it
unfoldable pub line_at : List ℕ → Option (Edit × List ℕ)
line_at text = option_and_then (λ w. numbers_at w.0 w.1) (keyword_at text)

-- each edge has a mark that says whether it is closed
abbrev pub MarksClosedEdges : List Bool → List Edit → Type 0
MarksClosedEdges marks before = (e : ℕ) → e < length marks → slice_index_or marks e false ≡ list_any (closes e) before

-- an edit that closes an edge closes one with a number below the limit
abbrev pub IsWithin : ℕ → Edit → Type 0
IsWithin limit (edits.Cost e n) = Unit {0}
IsWithin limit (edits.Service e n) = Unit {0}
IsWithin limit (edits.Demand e n) = Unit {0}
IsWithin limit (edits.Close e) = e < limit

-- whether an edit names an edge that it may name
abbrev pub is_open : Problem → List Bool → ℕ → Bool
is_open p marks e = nat_le 1 e && nat_le e (length p.edges) && not (slice_index_or marks e false)

abbrev pub is_required : Problem → ℕ → Bool
is_required p e = nat_le 1 e && nat_le e p.required

unfoldable pub is_known : Problem → List Bool → Edit → Bool
is_known p marks (edits.Cost e n) = is_open p marks e
is_known p marks (edits.Service e n) = is_required p e
is_known p marks (edits.Demand e n) = is_required p e
is_known p marks (edits.Close e) = is_open p marks e && not (nat_le e p.required)

-- the next line is this edit, which names an edge that it may name, and this follows
pub record IsNext (p : Problem) (before : List Edit) (text : List ℕ) (edit : Edit) (rest : List ℕ) : Type 0 where
  pub cut : text ≡ edit_text edit ++ rest
  pub short : HasShortNumbers edit
  pub known : IsKnown p before edit

-- the next line is an edit that names an edge that it may not name
pub record IsUnknown (p : Problem) (before : List Edit) (text : List ℕ) : Type 0 where
  pub edit : Edit
  pub rest : List ℕ
  pub cut : text ≡ edit_text edit ++ rest
  pub short : HasShortNumbers edit
  pub unknown : ¬ (IsKnown p before edit)

-- the next line, which has this number, is bad for this fault
abbrev pub IsBad : Problem → List Edit → List ℕ → ℕ → EditFault → Type 0
IsBad p before text line (Syntax at) = (at ≡ line) × NoEditBegins text
IsBad p before text line (Unknown at) = (at ≡ line) × IsUnknown p before text
IsBad p before text line (Refused fault) = ⊥
