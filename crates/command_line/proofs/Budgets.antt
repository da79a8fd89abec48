-- The turns that plain words ask for.
use Rattle.std.proofs.Common.{◌≡◌, ℕ, ◌≤◌, ◌&&◌, ◌||◌, Bool, true, false, not, List, [], ◌∷◌, length, drop, take, refl, sym, arith, true≢false, nat_le, Option, Some, None, subst}
use Rattle.std.specs.List.{AllByRecursion}
use Rattle.std.specs.Prelude.{IfSome, find, if◌then◌else◌, is_some, option_and_then, unwrap_or}
use Rattle.std.specs.Str.{bytes_eq}
use Rattle.std.proofs.lemmas.Bool.{leb-true}
use Rattle.std.proofs.lemmas.Slice.Eq.{bytes_eq-Decides}
use Rattle.command_line.specs.Commands.{Command}
use Rattle.command_line.specs.Laws.{HasBudget}
use Rattle.command_line.specs.Words.{Form, are_names, are_options, are_turns, command_of, command_with, forms, given, is_followed, is_given, is_number, is_option, number_of, seed_word, turns_word}
use Rattle.command_line.proofs.Numbers.{both}
use Rattle.command_line.proofs.Rows.{IsBudget, IsRow, each_row}

-- a number that stands behind the word of the turns
turns_in : (number : List ℕ) → are_turns number ≡ true → IsBudget (number_of number)
turns_in number are =
    let k = both (is_number number && nat_le 1 (number_of number)) (nat_le (number_of number) 1048576) are in
    let m = both (is_number number) (nat_le 1 (number_of number)) k.0 in (leb-true 1 (number_of number) m.1, leb-true (number_of number) 1048576 k.1)

-- an option with the word of the turns has such a number
option_turns : (seed : Bool) (word number : List ℕ) → bytes_eq word turns_word ≡ true → is_option true seed word number ≡ true → are_turns number ≡ true
unfolding is_option
option_turns seed word number same is =
    let equal : word ≡ turns_word = (bytes_eq-Decides word turns_word).0 same in
    by (are_turns number) refl (subst (λ (w : List ℕ). ((bytes_eq w turns_word && (true && are_turns number)) || (bytes_eq w seed_word && (seed && is_number number))) ≡ true) equal is) where
      by : (b : Bool) → are_turns number ≡ b → ((true && (true && b)) || (false && (seed && is_number number))) ≡ true → b ≡ true
      by true are shown = refl
      by false are shown = shown

given_in : (seed : Bool) (default : ℕ) → IsBudget default → (words : List (List ℕ)) → are_options true seed words ≡ true → IsBudget (given turns_word default words)
given_in seed default fits [] are = fits
given_in seed default fits (word ∷ []) are = absurd (true≢false (sym are))
given_in seed default fits (word ∷ number ∷ words) are =
    let k = both (is_option true seed word number && not (is_given word words)) (are_options true seed words) are in
    let m = both (is_option true seed word number) (not (is_given word words)) k.0 in
    by (bytes_eq word turns_word) refl m.0 (given_in seed default fits words k.1) where
      by : (b : Bool) → bytes_eq word turns_word ≡ b → is_option true seed word number ≡ true → IsBudget (given turns_word default words) → IsBudget (if b then number_of number else given turns_word default words)
      by true same is rest = turns_in number (option_turns seed word number same is)
      by false same is rest = rest

abbrev made : List (List ℕ) → Form → Option Command
made words form = if is_followed form words then Some (command_with form words) else None

in_row : (words : List (List ℕ)) (form : Form) → IsRow form → IfSome (made words form) HasBudget
in_row words form row = by (is_followed form words) refl where
  turns_fit : (turns : Option ℕ) → IfSome turns IsBudget → are_options (is_some turns) (is_some form.seed) (drop form.names words) ≡ true → is_some turns ≡ true
      → IsBudget (given turns_word (unwrap_or turns 0) (drop form.names words))
  turns_fit None fits are some = absurd (true≢false (sym some))
  turns_fit (Some n) fits are some = given_in (is_some form.seed) n fits (drop form.names words) are

  by : (b : Bool) → is_followed form words ≡ b → IfSome (if b then Some (command_with form words) else None) HasBudget
  by false is = tt
  by true is =
      let k = both (nat_le form.names (length words) && are_names (take form.names words)) (are_options (is_some form.turns) (is_some form.seed) (drop form.names words)) is in
      row.keeps (take form.names words) _ _ (turns_fit form.turns row.default k.1)

-- each row of a table
by_rows : (rows : List Form) (verb : List ℕ) (words : List (List ℕ)) → AllByRecursion IsRow rows
    → IfSome (option_and_then (made words) (find (λ form. bytes_eq form.verb verb) rows)) HasBudget
by_rows [] verb words each = tt
by_rows (form ∷ rows) verb words each = by (bytes_eq form.verb verb) (by_rows rows verb words each.1) where
  by : (b : Bool) → IfSome (option_and_then (made words) (find (λ form. bytes_eq form.verb verb) rows)) HasBudget
      → IfSome (option_and_then (made words) (if b then Some form else find (λ form. bytes_eq form.verb verb) rows)) HasBudget
  by true others = in_row words form each.0
  by false others = others

pub budget_in : (words : List (List ℕ)) → IfSome (command_of words) HasBudget
budget_in [] = tt
budget_in (verb ∷ words) = by_rows forms verb words each_row
