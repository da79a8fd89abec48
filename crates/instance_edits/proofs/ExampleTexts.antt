-- The texts of the examples.
use Rattle.std.proofs.Common.{◌≡◌, ℕ, List, [], ◌∷◌, ◌++◌, length, refl, sym, ap, ◌∙◌, lit<, arith}
use Rattle.std.specs.Prelude.{codes, None}
use Rattle.std.specs.Fmt.{decimal}
use Rattle.std.proofs.lemmas.Fmt.{decimal_digit}
use Rattle.std.proofs.lemmas.List.Elements.{All-from_recursion}
use Rattle.instance_edits.specs.declared.edit.Edit.TheVariants.{Cost, Close}
use Rattle.instance_edits.specs.declared.edit.EditFault.TheVariants.{Syntax, Unknown}
use Rattle.instance_edits.specs.Edits.{IsKnown}
use Rattle.instance_edits.specs.Texts.{BeginsWith, IsEditsText, HasShortNumbers, IsUnknownAt, IsUnreadAt, NoEditBegins, edit_text, two_numbers}
use Rattle.instance_edits.specs.Reading.{line_at, keyword_at}
use Rattle.instance_edits.specs.Examples.{one_line, second_unknown, second_unread, three_streets, wrong_edge}
use Rattle.instance_edits.proofs.Lines.{none_told}
use Rattle.instance_edits.proofs.Unique.{no_fault, bad_same}

pub one_text : two_numbers (codes "cost ") 1 4 ≡ one_line
one_text =
    ap (λ (x : List ℕ). codes "cost " ++ x ++ codes " " ++ decimal 4 ++ codes "\n") (decimal_digit 1 (lit< tt))
    ∙ ap (λ (x : List ℕ). codes "cost " ++ (49 ∷ []) ++ codes " " ++ x ++ codes "\n") (decimal_digit 4 (lit< tt))

pub close_text : edit_text (Close 1) ≡ wrong_edge
close_text = ap (λ (x : List ℕ). codes "close " ++ x ++ codes "\n") (decimal_digit 1 (lit< tt))

short : HasShortNumbers (Cost 1 4)
short = (lit< tt, lit< tt)

known : IsKnown three_streets [] (Cost 1 4)
known = (record { from_one = omega arith; in_range = omega arith }, λ closed. omega (arith, closed.1))

front : (bytes rest : List ℕ) → bytes ≡ (one_line ++ []) ++ rest → BeginsWith three_streets bytes (Cost 1 4 ∷ []) rest
front bytes rest is = record {
  cut = is ∙ ap (λ (x : List ℕ). (x ++ []) ++ rest) (sym one_text);
  short = All-from_recursion HasShortNumbers (Cost 1 4 ∷ []) (short, tt);
  known = (known, tt);
}

pub one_read : IsEditsText three_streets one_line (Cost 1 4 ∷ [])
one_read = front one_line [] refl

pub front_read : BeginsWith three_streets second_unread (Cost 1 4 ∷ []) (codes "x")
front_read = front second_unread (codes "x") refl

pub not_whole : ¬ (BeginsWith three_streets second_unread (Cost 1 4 ∷ []) [])
not_whole begins =
    let same : second_unread ≡ one_line = begins.cut ∙ ap (λ (x : List ℕ). (x ++ []) ++ []) one_text in
    let long : ◌≡◌ {A = ℕ} 10 9 = ap length same in
    omega (arith, long)

pub line_begins : ¬ (NoEditBegins one_line)
line_begins none = none (Cost 1 4) [] short (ap (λ (x : List ℕ). x ++ []) (sym one_text))

no_line : line_at (codes "x") ≡ None
unfolding line_at keyword_at
no_line = refl

pub unread : IsUnreadAt three_streets second_unread 2
unread = record {
  edits = Cost 1 4 ∷ [];
  rest = codes "x";
  begins = front_read;
  some = λ e. (cc);
  bad = none_told (codes "x") no_line;
  line_is = refl;
}

pub unknown : IsUnknownAt three_streets second_unknown 2
unknown = record {
  edits = Cost 1 4 ∷ [];
  edit = Close 1;
  rest = [];
  begins = front second_unknown (edit_text (Close 1) ++ []) (ap (λ (x : List ℕ). one_line ++ (x ++ [])) (sym close_text));
  short = lit< tt;
  unknown = λ may. may.1 (record { from_one = omega arith; in_range = omega arith });
  line_is = refl;
}

pub not_first : ¬ (IsUnreadAt three_streets second_unread 1)
not_first first = let same = bad_same three_streets second_unread (Syntax 1) (Syntax 2) first unread in cc

pub not_bad : (line : ℕ) → ¬ (IsUnreadAt three_streets one_line line)
not_bad line bad = no_fault three_streets one_line (Cost 1 4 ∷ []) (Syntax line) one_read bad

pub not_unknown : ¬ (IsUnknownAt three_streets second_unknown 1)
not_unknown first = let same = bad_same three_streets second_unknown (Unknown 1) (Unknown 2) first unknown in cc

pub not_unread : ¬ (IsUnreadAt three_streets second_unknown 2)
not_unread other = let same = bad_same three_streets second_unknown (Syntax 2) (Unknown 2) other unknown in cc
