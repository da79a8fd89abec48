-- The grammar by which `clap` reads plain words: a subcommand for each verb, which takes names and both options, whatever the verb takes. No public contract
-- speaks of this.
use Rattle.std.specs.Prelude.{◌≡◌, ℕ, true, List, [], ◌∷◌, Option, Some, None, IfSome, codes, fold, map, unwrap_or, if◌then◌else◌}
use Rattle.std.specs.Option.{option_map_or}
use Rattle.std.specs.Str.{bytes_eq}
use Rattle.clap.specs.Simple.{on_top}
use Rattle.clap.specs.Words.{App, Row, Rule, Text, all_of, new_app, new_rule, one_of, with_rule, with_subcommand}
use Rattle.command_line.specs.Commands.{Command}
use Rattle.command_line.specs.Words.{Form, forms, is_number, number_of, seed_word, turns_word}

abbrev pub names_rule : Rule
names_rule = record (new_rule (codes "names")) { range = Some (record { start_inclusive = 0; end_inclusive = 5 }) }

abbrev pub option_rule : Text → Rule
option_rule id = record (new_rule id) { long = Some id }

abbrev pub verb_app : Text → App
verb_app verb = with_rule (with_rule (with_rule (new_app verb) names_rule) (option_rule (codes "turns"))) (option_rule (codes "seed"))

abbrev pub with_verbs : App → List Text → App
with_verbs app verbs = fold (λ above verb. with_subcommand above (verb_app verb).top) app verbs

abbrev pub grammar_app : App
grammar_app = with_verbs (on_top (λ s. record s { no_binary_name = true }) (new_app (codes "carp"))) (map (λ form. form.verb) forms)

-- the digits of an option, if it is given
abbrev pub digits_given : Text → List Text → Option Text
digits_given option [] = None
digits_given option (word ∷ []) = None
digits_given option (word ∷ number ∷ words) = if bytes_eq word option then Some number else digits_given option words

-- the digits of both options, if they are given, are those of a number
pub record AreDigits (options : List Text) : Type 0 where
  pub turns_are : IfSome (digits_given turns_word options) (λ digits. is_number digits ≡ true)
  pub seed_is : IfSome (digits_given seed_word options) (λ digits. is_number digits ≡ true)

-- the matches hold these names, and the digits of these options
pub record AreRead (names options : List Text) (rows : List Row) : Type 0 where
  pub names_are : unwrap_or (all_of (codes "names") rows) [] ≡ names
  pub turns_are : one_of (codes "turns") rows ≡ digits_given turns_word options
  pub seed_is : one_of (codes "seed") rows ≡ digits_given seed_word options

abbrev pub number_given : Text → Option ℕ → List Text → ℕ
number_given option default options = option_map_or number_of (digits_given option options) (unwrap_or default 0)

-- the command of a row of the table with these names and options
abbrev pub command_by : Form → (names options : List Text) → Command
command_by form names options = form.command names (number_given turns_word form.turns options) (number_given seed_word form.seed options)
