-- What `clap` reads of plain words is the command that they are.
use Rattle.std.proofs.Common.{arith, ◌≡◌, ◌∙◌, sym, ap, subst, inl, inr, ℕ, ◌&&◌, ◌||◌, not, Bool, true, false, true≢false, List, [], ◌∷◌, ◌++◌, refl, Some, take, drop, unwrap_or}
use Rattle.std.specs.Prelude.{◌⊎◌, nat_le, length, find, if◌then◌else◌, is_some, Option, None, IfSome, option_and_then}
use Rattle.std.specs.List.{AllByRecursion, list_all, list_any}
use Rattle.std.specs.Option.{option_map_or}
use Rattle.std.specs.Str.{bytes_eq}
use Rattle.std.proofs.lemmas.Slice.Eq.{bytes_eq-Decides}
use Rattle.std.proofs.lemmas.Bool.{leb-true, ne_eqb}
use Rattle.std.proofs.lemmas.List.{length-take-le, take-append-drop}
use Rattle.clap.specs.Takes.{takes}
use Rattle.clap.specs.Walk.{Row, Text}
use Rattle.clap.specs.Words.{subcommand_of}
use Rattle.command_line.specs.Grammar.{AreDigits, AreRead, command_by, digits_given, grammar_app, number_given}
use Rattle.command_line.specs.Words.{Form, are_names, are_options, are_turns, command_of, command_with, form_of, forms, given, is_digit, is_followed, is_given, is_name, is_number, is_option, is_plain, number_of, seed_word, turns_word}
use Rattle.command_line.proofs.Numbers.{both}
use Rattle.command_line.proofs.Levels.{IsReadAs, no_option, seed_alone, seed_first, turns_alone, turns_first}
use Rattle.command_line.proofs.Rows.{IsRow, each_row}
use Rattle.command_line.proofs.Walking.{IsPlainText, plain_text}

-- plain words are taken, and read as the names and the options of a row of the table
pub record Means (words : List Text) : Type 0 where
  pub verb : Text
  pub form : Form
  pub names : List Text
  pub options : List Text
  pub is : command_of words ≡ Some (command_by form names options)
  pub of_verb : form_of verb ≡ Some form
  pub taken : takes grammar_app words ≡ true
  pub rows : List Row
  pub entered : subcommand_of grammar_app words ≡ Some (verb, rows)
  pub read : AreRead names options rows
  pub digits : AreDigits options

flip : (b : Bool) → not b ≡ true → b ≡ false
flip true e = cc
flip false e = refl

either : (a b : Bool) → (a || b) ≡ true → (a ≡ true) ⊎ (b ≡ true)
either true b e = inl refl
either false b e = inr e

same : (a b : Text) → bytes_eq a b ≡ true → a ≡ b
same a b = (bytes_eq-Decides a b).0

same_bytes : (a b : Text) → a ≡ b → bytes_eq a b ≡ true
same_bytes a b = (bytes_eq-Decides a b).1

-- a number is no flag
number_text : (text : Text) → is_number text ≡ true → IsPlainText text
number_text [] e = cc
number_text (c ∷ cs) e = plain_text (c ∷ cs) (first c (both (is_digit c) (list_all is_digit cs) (both _ _ e).1).0) where
  first : (c : ℕ) → is_digit c ≡ true → is_name (c ∷ cs) ≡ true
  first c e = let k = both (nat_le 48 c) (nat_le c 57) e in let least = leb-true 48 c k.0 in rw (ne_eqb c 45 (λ is. omega (arith, is, least))) refl

-- an option is one of the two
Named : Text → Text → Type 0
Named word number = ((word ≡ turns_word) ⊎ (word ≡ seed_word)) × (is_number number ≡ true)

option_is : (word number : Text) → is_option true true word number ≡ true → Named word number
unfolding is_option Named
option_is word number e = elim (either (bytes_eq word turns_word && are_turns number) (bytes_eq word seed_word && is_number number) e) [
  | inl t ↦ let k = both (bytes_eq word turns_word) (are_turns number) t in (inl (same word turns_word k.0), (both (is_number number) _ (both _ _ k.1).0).0)
  | inr s ↦ let k = both (bytes_eq word seed_word) (is_number number) s in (inr (same word seed_word k.0), k.1)
]

-- an option that is not given again is another one
differ : (a b n : Text) (rest : List Text) → is_given a (b ∷ n ∷ rest) ≡ false → a ≡ b → ⊥
unfolding is_given
differ a b n rest none e = true≢false (sym (ap (λ x. x || is_given a rest) (same_bytes b a (sym e))) ∙ none)

later : (a b n : Text) (rest : List Text) → is_given a (b ∷ n ∷ rest) ≡ false → is_given a rest ≡ false
unfolding is_given
later a b n rest none = by (bytes_eq b a) none where
  by : (x : Bool) → (x || is_given a rest) ≡ false → is_given a rest ≡ false
  by true e = cc
  by false e = e

-- an option, and the options after it
pair : (word number : Text) (rest : List Text) → are_options true true (word ∷ number ∷ rest) ≡ true
    → Named word number × (is_given word rest ≡ false) × (are_options true true rest ≡ true)
pair word number rest e =
    let k = both (is_option true true word number && not (is_given word rest)) (are_options true true rest) e in
    let m = both (is_option true true word number) (not (is_given word rest)) k.0 in (option_is word number m.0, flip (is_given word rest) m.1, k.1)

-- What is so of no option, of each option alone, and of both in either order, is so of all options that take turns and a seed.
module _ (Is : List Text → Type 0) (none : Is [])
    (one_turns : (n : Text) → IsPlainText n → Is (turns_word ∷ n ∷ []))
    (one_seed : (n : Text) → IsPlainText n → Is (seed_word ∷ n ∷ []))
    (turns_before : (n k : Text) → IsPlainText n → IsPlainText k → Is (turns_word ∷ n ∷ seed_word ∷ k ∷ []))
    (seed_before : (n k : Text) → IsPlainText n → IsPlainText k → Is (seed_word ∷ k ∷ turns_word ∷ n ∷ [])) where
  one_option : (word n : Text) → Named word n → Is (word ∷ n ∷ [])
  unfolding Named
  one_option word n (inl e, d) = subst (λ w. Is (w ∷ n ∷ [])) (sym e) (one_turns n (number_text n d))
  one_option word n (inr e, d) = subst (λ w. Is (w ∷ n ∷ [])) (sym e) (one_seed n (number_text n d))

  two_options : (word n other k : Text) → Named word n → Named other k → (word ≡ other → ⊥) → Is (word ∷ n ∷ other ∷ k ∷ [])
  unfolding Named
  two_options word n other k (inl e, d) (inl a, b) apart = absurd (apart (e ∙ sym a))
  two_options word n other k (inr e, d) (inr a, b) apart = absurd (apart (e ∙ sym a))
  two_options word n other k (inl e, d) (inr a, b) apart =
      subst (λ w. Is (w ∷ n ∷ other ∷ k ∷ [])) (sym e) (subst (λ w. Is (turns_word ∷ n ∷ w ∷ k ∷ [])) (sym a) (turns_before n k (number_text n d) (number_text k b)))
  two_options word n other k (inr e, d) (inl a, b) apart =
      subst (λ w. Is (w ∷ n ∷ other ∷ k ∷ [])) (sym e) (subst (λ w. Is (seed_word ∷ n ∷ w ∷ k ∷ [])) (sym a) (seed_before k n (number_text k b) (number_text n d)))

  three_options : (one n two k three m : Text) → Named one n → Named two k → Named three m → (one ≡ two → ⊥) → (one ≡ three → ⊥) → (two ≡ three → ⊥) → ⊥
  unfolding Named
  three_options one n two k three m (inl a, _) (inl b, _) (c, _) x y z = x (a ∙ sym b)
  three_options one n two k three m (inr a, _) (inr b, _) (c, _) x y z = x (a ∙ sym b)
  three_options one n two k three m (inl a, _) (inr b, _) (inl c, _) x y z = y (a ∙ sym c)
  three_options one n two k three m (inl a, _) (inr b, _) (inr c, _) x y z = z (b ∙ sym c)
  three_options one n two k three m (inr a, _) (inl b, _) (inl c, _) x y z = z (b ∙ sym c)
  three_options one n two k three m (inr a, _) (inl b, _) (inr c, _) x y z = y (a ∙ sym c)

  pub options_read : (options : List Text) → are_options true true options ≡ true → Is options
  options_read [] e = none
  options_read (word ∷ []) e = cc
  options_read (word ∷ n ∷ []) e = one_option word n (pair word n [] e).0
  options_read (word ∷ n ∷ other ∷ []) e = let p = pair word n (other ∷ []) e in cc
  options_read (word ∷ n ∷ other ∷ k ∷ []) e =
      let p = pair word n (other ∷ k ∷ []) e in
      two_options word n other k p.0 (pair other k [] p.2).0 (differ word other k [] p.1)
  options_read (word ∷ n ∷ other ∷ k ∷ third ∷ []) e =
      let p = pair word n (other ∷ k ∷ third ∷ []) e in
      let q = pair other k (third ∷ []) p.2 in cc
  options_read (word ∷ n ∷ other ∷ k ∷ third ∷ m ∷ more) e =
      let p = pair word n (other ∷ k ∷ third ∷ m ∷ more) e in
      let q = pair other k (third ∷ m ∷ more) p.2 in
      let r = pair third m more q.2 in
      absurd (three_options word n other k third m p.0 q.0 r.0 (differ word other k (third ∷ m ∷ more) p.1)
      (differ word third m more (later word other k (third ∷ m ∷ more) p.1)) (differ other third m more q.1))

-- options of which some are taken are options of which both are
taken_too : (turns seed : Bool) (word number : Text) → is_option turns seed word number ≡ true → is_option true true word number ≡ true
unfolding is_option
taken_too turns seed word number e = elim (either (bytes_eq word turns_word && (turns && are_turns number)) (bytes_eq word seed_word && (seed && is_number number)) e) [
  | inl t ↦ let k = both (bytes_eq word turns_word) (turns && are_turns number) t in rw (k.0, (both turns (are_turns number) k.1).1) refl
  | inr s ↦ let k = both (bytes_eq word seed_word) (seed && is_number number) s in rw (k.0, (both seed (is_number number) k.1).1) (or_true _)
] where
  or_true : (b : Bool) → (b || true) ≡ true
  or_true true = refl
  or_true false = refl

all_taken : (turns seed : Bool) (options : List Text) → are_options turns seed options ≡ true → are_options true true options ≡ true
all_taken turns seed [] e = refl
all_taken turns seed (word ∷ []) e = e
all_taken turns seed (word ∷ number ∷ rest) e =
    let k = both (is_option turns seed word number && not (is_given word rest)) (are_options turns seed rest) e in
    let m = both (is_option turns seed word number) (not (is_given word rest)) k.0 in
    rw (taken_too turns seed word number m.0, m.1, all_taken turns seed rest k.1) refl

-- the digits of options are those of numbers
digits_are : (option : Text) (options : List Text) → are_options true true options ≡ true → IfSome (digits_given option options) (λ digits. is_number digits ≡ true)
unfolding Named
digits_are option [] e = tt
digits_are option (word ∷ []) e = tt
digits_are option (word ∷ number ∷ rest) e = by (bytes_eq word option) (digits_are option rest (pair word number rest e).2) where
  by : (b : Bool) → IfSome (digits_given option rest) (λ digits. is_number digits ≡ true) → IfSome (if b then Some number else digits_given option rest) (λ digits. is_number digits ≡ true)
  by true others = (pair word number rest e).0.1
  by false others = others

number_is : (option : Text) (default : ℕ) (options : List Text) → given option default options ≡ option_map_or number_of (digits_given option options) default
number_is option default [] = refl
number_is option default (word ∷ []) = refl
number_is option default (word ∷ number ∷ rest) = by (bytes_eq word option) (number_is option default rest) where
  by : (b : Bool) → given option default rest ≡ option_map_or number_of (digits_given option rest) default
      → (if b then number_of number else given option default rest) ≡ option_map_or number_of (if b then Some number else digits_given option rest) default
  by true others = refl
  by false others = others

-- names are no flags
plain_names : (names : List Text) → are_names names ≡ true → AllByRecursion IsPlainText names
plain_names [] e = tt
plain_names (word ∷ words) e =
    let k = both (is_name word && not (list_any (λ other. bytes_eq other word) words)) (are_names words) e in
    let m = both (is_name word) (not (list_any (λ other. bytes_eq other word) words)) k.0 in (plain_text word m.0, plain_names words k.1)

-- names and options are read as what they are
read_as : (verb : Text) (names options : List Text) → nat_le (length names) 5 ≡ true → are_names names ≡ true → are_options true true options ≡ true → IsReadAs verb names options
read_as verb names options few are e =
    let plain = plain_names names are in
    options_read (IsReadAs verb names) (no_option verb names few plain) (turns_alone verb names few plain) (seed_alone verb names few plain) (turns_first verb names few plain)
    (seed_first verb names few plain) options e

-- the words after a verb of the table
abbrev Follows : List Text → Form → Type 0
Follows words form = form_of form.verb ≡ Some form → is_followed form words ≡ true → Means (form.verb ∷ words)

-- the command of plain words is that of their names and options
commands_agree : (form : Form) (words : List Text) → command_with form words ≡ command_by form (take form.names words) (drop form.names words)
commands_agree form words =
    let names = take form.names words in
    let options = drop form.names words in
    ap (λ (turns : ℕ). form.command names turns (given seed_word (unwrap_or form.seed 0) options)) (number_is turns_word (unwrap_or form.turns 0) options)
    ∙ ap (λ (seed : ℕ). form.command names (number_given turns_word form.turns options) seed) (number_is seed_word (unwrap_or form.seed 0) options)

has_command : (form : Form) (words : List Text) → form_of form.verb ≡ Some form → is_followed form words ≡ true → command_of (form.verb ∷ words) ≡ Some (command_with form words)
has_command form words row e =
    ap (option_and_then (λ (f : Form). if is_followed f words then Some (command_with f words) else None)) row
    ∙ ap (λ b. if b then Some (command_with form words) else None) e

follows : (words : List Text) (form : Form) → IsRow form → Follows words form
follows words form is row e =
    let k = both (nat_le form.names (length words) && are_names (take form.names words)) (are_options (is_some form.turns) (is_some form.seed) (drop form.names words)) e in
    let m = both (nat_le form.names (length words)) (are_names (take form.names words)) k.0 in
    let options = all_taken (is_some form.turns) (is_some form.seed) (drop form.names words) k.1 in
    let level = read_as form.verb (take form.names words) (drop form.names words) (rw (length-take-le form.names words (leb-true form.names (length words) m.0)) is.few) m.1 options in
    let whole : take form.names words ++ drop form.names words ≡ words = take-append-drop form.names words in
    record {
      verb = form.verb;
      form = form;
      names = take form.names words;
      options = drop form.names words;
      is = has_command form words row e ∙ ap Some (commands_agree form words);
      of_verb = row;
      taken = is.enters.takes_is words (rw whole at level.level.passes);
      rows = level.rows;
      entered = is.enters.rows_are words ∙ ap (λ rows. Some (form.verb, rows)) (rw whole at level.level.rows_are);
      read = level.read;
      digits = record { turns_are = digits_are turns_word (drop form.names words) options; seed_is = digits_are seed_word (drop form.names words) options };
    }

-- a row of the table that was found
found_in : (P : Form → Type 0) (verb : Text) (rows : List Form) (form : Form) → find (λ row. bytes_eq row.verb verb) rows ≡ Some form → AllByRecursion P rows
    → P form × (bytes_eq form.verb verb ≡ true)
found_in P verb [] form e all = cc
found_in P verb (row ∷ rows) form e all = by (bytes_eq row.verb verb) refl e (λ rest. found_in P verb rows form rest all.1) where
  inside : ◌≡◌ {A = Option Form} (Some row) (Some form) → row ≡ form
  inside e = cc

  by : (b : Bool) → bytes_eq row.verb verb ≡ b → (if b then Some row else find (λ row. bytes_eq row.verb verb) rows) ≡ Some form
      → (find (λ row. bytes_eq row.verb verb) rows ≡ Some form → P form × (bytes_eq form.verb verb ≡ true)) → P form × (bytes_eq form.verb verb ≡ true)
  by true is e rest = subst (λ (f : Form). P f × (bytes_eq f.verb verb ≡ true)) (inside e) (all.0, is)
  by false is e rest = rest e

-- the verb of plain words is one of the table
pub plain_means : (words : List Text) → is_plain words ≡ true → Means words
plain_means [] e = cc
plain_means (verb ∷ words) e = by (form_of verb) refl e where
  by : (o : Option Form) → form_of verb ≡ o → option_map_or (λ form. is_followed form words) o false ≡ true → Means (verb ∷ words)
  by None is e = cc
  by (Some form) is e =
      let row = found_in IsRow verb forms form is each_row in
      let verb_is = same form.verb verb row.1 in
      subst (λ v. Means (v ∷ words)) verb_is (follows words form row.0 (ap form_of verb_is ∙ is) e)
