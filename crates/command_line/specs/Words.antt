-- The plain form of a command line: a verb, its names, then its options.
use Rattle.std.specs.Prelude.{ℕ, Bool, true, false, ◌&&◌, ◌||◌, not, ◌==◌, nat_le, List, [], ◌∷◌, take, drop, length, map, find, slice_index_or, Option, None, Some, option_and_then, is_some, unwrap_or, String, codes, string_bytes, if◌then◌else◌}
use Rattle.std.specs.List.{list_all, list_any}
use Rattle.std.specs.Option.{option_map_or}
use Rattle.std.specs.Str.{bytes_eq}
use Rattle.std.specs.Str.Parse.{digits_value}
use Rattle.std.specs.declared.alloc.Global.{Global}
use Rattle.command_line.specs.Commands.{Command, Solve, Check, Sheet, Make, Drill, Upgrade, Postman, Fleet, Edit, Improve}

-- a name is not empty, and does not begin with `-`
abbrev pub is_name : List ℕ → Bool
is_name [] = false
is_name (c ∷ cs) = not (c == 45)

-- each word is a name, and no two are equal
abbrev pub are_names : List (List ℕ) → Bool
are_names [] = true
are_names (word ∷ words) = is_name word && not (list_any (λ other. bytes_eq other word) words) && are_names words

-- a number has 1 to 18 decimal digits
abbrev pub is_digit : ℕ → Bool
is_digit c = nat_le 48 c && nat_le c 57

abbrev pub is_number : List ℕ → Bool
is_number digits = nat_le 1 (length digits) && nat_le (length digits) 18 && list_all is_digit digits

abbrev pub number_of : List ℕ → ℕ
number_of digits = digits_value 10 digits

-- What may follow a verb: so many names, and then the options that stand here with the number that holds if they are not given. The command
-- is that of these names, of the turns and of the seed.
pub record Form : Type 0 where
  pub verb : List ℕ
  pub names : ℕ
  pub turns : Option ℕ
  pub seed : Option ℕ
  pub command : List (List ℕ) → (turns seed : ℕ) → Command

-- the name at a place
abbrev pub name_at : List (List ℕ) → ℕ → List ℕ
name_at names place = slice_index_or names place []

-- The table of verbs.
abbrev pub forms : List Form
forms = record { verb = codes "solve"; names = 2; turns = Some 64; seed = Some 1; command = λ names turns seed. Solve (name_at names 0) (name_at names 1) turns seed }
    ∷ record { verb = codes "check"; names = 2; turns = None; seed = None; command = λ names turns seed. Check (name_at names 0) (name_at names 1) }
    ∷ record { verb = codes "sheet"; names = 2; turns = None; seed = None; command = λ names turns seed. Sheet (name_at names 0) (name_at names 1) }
    ∷ record { verb = codes "make"; names = 1; turns = None; seed = Some 1; command = λ names turns seed. Make (name_at names 0) seed }
    ∷ record { verb = codes "drill"; names = 0; turns = Some 4; seed = Some 1; command = λ names turns seed. Drill turns seed }
    ∷ record { verb = codes "upgrade"; names = 3; turns = None; seed = None; command = λ names turns seed. Upgrade (name_at names 0) (name_at names 1) (name_at names 2) }
    ∷ record { verb = codes "postman"; names = 1; turns = None; seed = None; command = λ names turns seed. Postman (name_at names 0) }
    ∷ record { verb = codes "fleet"; names = 1; turns = Some 64; seed = None; command = λ names turns seed. Fleet (name_at names 0) turns }
    ∷ record {
      verb = codes "edit";
      names = 5;
      turns = None;
      seed = None;
      command = λ names turns seed. Edit (name_at names 0) (name_at names 1) (name_at names 2) (name_at names 3) (name_at names 4);
    }
    ∷ record {
      verb = codes "improve";
      names = 3;
      turns = Some 64;
      seed = Some 1;
      command = λ names turns seed. Improve (name_at names 0) (name_at names 1) (name_at names 2) turns seed;
    }
    ∷ []

-- the words of the options, and the numbers that they may have
abbrev pub turns_word : List ℕ
turns_word = codes "--turns"

abbrev pub seed_word : List ℕ
seed_word = codes "--seed"

abbrev pub are_turns : List ℕ → Bool
are_turns digits = is_number digits && nat_le 1 (number_of digits) && nat_le (number_of digits) 1048576

-- the two words are an option, if these are taken
unfoldable pub is_option : (turns seed : Bool) → (word number : List ℕ) → Bool
is_option turns seed word number = (bytes_eq word turns_word && (turns && are_turns number)) || (bytes_eq word seed_word && (seed && is_number number))

-- an option is among these
unfoldable pub is_given : List ℕ → List (List ℕ) → Bool
is_given option [] = false
is_given option (word ∷ []) = false
is_given option (word ∷ number ∷ words) = bytes_eq word option || is_given option words

-- the words are options, each given once
abbrev pub are_options : (turns seed : Bool) → List (List ℕ) → Bool
are_options turns seed [] = true
are_options turns seed (word ∷ []) = false
are_options turns seed (word ∷ number ∷ words) = (is_option turns seed word number && not (is_given word words)) && are_options turns seed words

-- the number of an option, or this one if it is not given
abbrev pub given : List ℕ → ℕ → List (List ℕ) → ℕ
given option default [] = default
given option default (word ∷ []) = default
given option default (word ∷ number ∷ words) = if bytes_eq word option then number_of number else given option default words

-- the words are so many names, and then options
abbrev pub are_names_and_options : ℕ → (turns seed : Bool) → List (List ℕ) → Bool
are_names_and_options names turns seed words = nat_le names (length words) && are_names (take names words) && are_options turns seed (drop names words)

-- the words follow a verb of this form
abbrev pub is_followed : Form → List (List ℕ) → Bool
is_followed form words = are_names_and_options form.names (is_some form.turns) (is_some form.seed) words

abbrev pub command_with : Form → List (List ℕ) → Command
command_with form words =
    form.command (take form.names words) (given turns_word (unwrap_or form.turns 0) (drop form.names words)) (given seed_word (unwrap_or form.seed 0) (drop form.names words))

abbrev pub form_of : List ℕ → Option Form
form_of verb = find (λ form. bytes_eq form.verb verb) forms

abbrev pub is_plain : List (List ℕ) → Bool
is_plain [] = false
is_plain (verb ∷ words) = option_map_or (λ form. is_followed form words) (form_of verb) false

-- the command of a plain command line, or none if it is not plain
abbrev pub command_of : List (List ℕ) → Option Command
command_of [] = None
command_of (verb ∷ words) = option_and_then (λ form. if is_followed form words then Some (command_with form words) else None) (form_of verb)

-- the bytes of the words
abbrev pub texts_of : List (String Global) → List (List ℕ)
texts_of = map string_bytes
