-- The words of the code, one option at a time.
use Rattle.std.proofs.Common.{◌≡◌, ℕ, ◌≤◌, ◌-◌, ◌&&◌, Bool, false, List, [], ◌∷◌, length, drop, take, refl, arith, String, string_bytes, slice_index_or, ap, sym, ◌∙◌}
use Rattle.std.specs.declared.alloc.Global.{Global}
use Rattle.std.proofs.lemmas.Bool.{le-leb}
use Rattle.std.proofs.lemmas.List.{length-map, take-map, take_rest, drop-map}
use Rattle.std.specs.Prelude.{Option, None, Some, IsSomeAnd, MatchOption, is_some, option_map}
use Rattle.std.specs.Option.{option_map_or}
use Rattle.command_line.specs.Forms.{Row, row_in, row_of}
use Rattle.command_line.specs.Words.{texts_of, are_names, are_names_and_options, are_options, form_of, Form, is_followed, is_plain}
use Rattle.command_line.specs.declared.table.Form.{Form as Held}

-- the names are cut from the options
pub cut : (n : ℕ) (turns seed : Bool) (words names options : List (String Global)) → n ≤ length words → names ≡ take n words → options ≡ drop n words
    → are_names_and_options n turns seed (texts_of words) ≡ (are_names (texts_of names) && are_options turns seed (texts_of options))
cut n turns seed words names options fits is rest =
    rw (length-map words string_bytes, le-leb n (length words) fits, take-map string_bytes n words, drop-map string_bytes n words, is, rest) refl

pub followed : (n : ℕ) (turns seed : Bool) (words names options : List (String Global)) (a b : Bool) → n ≤ length words → names ≡ take n words → options ≡ drop n words
    → a ≡ are_names (texts_of names) → b ≡ are_options turns seed (texts_of options) → (a && b) ≡ are_names_and_options n turns seed (texts_of words)
followed n turns seed words names options a b fits is rest x y = rw (x, y) (sym (cut n turns seed words names options fits is rest))

pub unnamed : (n : ℕ) (turns seed : Bool) (words names : List (String Global)) (a : Bool) → n ≤ length words → names ≡ take n words
    → a ≡ are_names (texts_of names) → a ≡ false → a ≡ are_names_and_options n turns seed (texts_of words)
unnamed n turns seed words names a fits is x none =
    none ∙ followed n turns seed words names _ false _ fits is refl (sym none ∙ x) refl

-- the words after a verb, by the row of the table that the code found
pub verb_follows : (words : List (String Global)) (verb : String Global) (row : Row) (result : Bool) → 1 ≤ length words → verb ≡ slice_index_or words 0 verb
    → IsSomeAnd (form_of (string_bytes verb)) (λ form. row ≡ row_of form)
    → result ≡ are_names_and_options row.names (is_some row.turns) (is_some row.seed) (texts_of (take (length words - 1) (drop 1 words)))
    → result ≡ is_plain (texts_of words)
verb_follows [] verb row result some is found follows = absurd (omega (arith, some))
verb_follows (x ∷ words) verb row result some is found follows = by (form_of (string_bytes verb)) found ∙ ap (λ o. option_map_or (λ f. is_followed f (texts_of words)) o false) (ap (λ (w : String Global). form_of (string_bytes w)) is) where
  rest : take (length (x ∷ words) - 1) words ≡ words
  rest = take_rest (x ∷ words) 1

  by : (o : Option Form) → IsSomeAnd o (λ form. row ≡ row_of form) → result ≡ option_map_or (λ f. is_followed f (texts_of words)) o false
  by None none = absurd none
  by (Some form) is = follows ∙ rw (rest, is) refl

-- what the code found is the row of the table
pub same_row : (held : Option Held) (form : Option Form) → option_map row_in held ≡ option_map row_of form → MatchOption held (form ≡ None) (λ h. IsSomeAnd form (λ f. row_in h ≡ row_of f))
same_row None None e = refl
same_row None (Some f) e = cc
same_row (Some h) None e = cc
same_row (Some h) (Some f) e = cc
