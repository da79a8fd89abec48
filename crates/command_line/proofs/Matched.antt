-- What the getters of matches give.
use Rattle.std.proofs.Common.{◌≡◌, ◌∙◌, ap, subst, true, ℕ, refl, List, [], Option, None, Some, unwrap_or}
use Rattle.std.specs.Prelude.{IfSome, IsSomeAnd, Result, Ok, Err, option_map}
use Rattle.std.specs.Option.{option_map_or}
use Rattle.std.specs.Str.Parse.{ParsesUnsigned}
use Rattle.clap.proofs.OnLiterals.{clap_on_literals}
use Rattle.clap.proofs.WalkLemmas.{one_text-rows, raw_values-rows}
use Rattle.clap.specs.Matches.{ReadsOne, found_of, matched_of, one_text, raw_values, subcommand_name_of}
use Rattle.clap.specs.Simple.{App, HasMatchesOf, subcommand_of, subcommand_rows, subcommand_rows_of}
use Rattle.clap.specs.Walk.{Row, Text, all_of, one_of, rows_of}
use Rattle.clap.specs.declared.parser.matches.ArgMatches.{ArgMatches}
use Rattle.clap.specs.declared.parser.matches.ArgMatches.TheViews.{out-ArgMatches, out-SubCommand}
use Rattle.std.specs.Box.{box_value}
use Rattle.clap.specs.declared.parser.matches.Found.{Found}
use Rattle.command_line.specs.Forms.{command_in}
use Rattle.command_line.specs.Grammar.{grammar_app}
use Rattle.command_line.specs.Words.{Form, is_number, number_of}
use Rattle.command_line.specs.declared.command.Command.{Command as Held}
use Rattle.command_line.proofs.Numbers.{parsed}

-- the number of a text that was given
number_of_text : {E : Type 0} {G : Text → Result ℕ E → Type 0} (text : Text) (o : Option ℕ) → ((u : Text) (x : Result ℕ E) → G u x → ParsesUnsigned 64 10 u x)
    → is_number text ≡ true → ReadsOne G text o → o ≡ Some (number_of text)
number_of_text {E} text None plain digits read = let is = parsed text (Err read.0) digits (plain text (Err read.0) read.1) in cc
number_of_text {E} text (Some v) plain digits read = inside (parsed text (Ok v) digits (plain text (Ok v) read)) where
  inside : ◌≡◌ {A = Result ℕ E} (Ok v) (Ok (number_of text)) → Some v ≡ Some (number_of text)
  inside e = cc

pub number_read : {E : Type 0} {G : Text → Result ℕ E → Type 0} (found : Found) (id : Text) (given : Option Text) (default : ℕ) (o : Option ℕ) (n : ℕ)
    → (one_text found id ≡ None → o ≡ None) → ((t : Text) → one_text found id ≡ Some t → ReadsOne G t o) → ((u : Text) (x : Result ℕ E) → G u x → ParsesUnsigned 64 10 u x)
    → one_of id (rows_of found) ≡ given → IfSome given (λ t. is_number t ≡ true) → n ≡ unwrap_or o default → n ≡ option_map_or number_of given default
number_read found id None default o n none reads plain is digits gives = gives ∙ rw (none (one_text-rows found id ∙ is)) refl
number_read found id (Some t) default o n none reads plain is digits gives = gives ∙ rw (number_of_text t o plain digits (reads t (one_text-rows found id ∙ is))) refl

pub none_is_not_some : {X : Type 0} (x : X) → ◌≡◌ {A = Option X} None (Some x) → ⊥
none_is_not_some x e = cc

-- the verb and the rows of the subcommand that was met
met_by : {B : Type 0} (met : B → Text × List Row) (o : Option B) (verb name : Text) (rows read : List Row) → Some name ≡ option_map (λ b. (met b).0) o
    → Some read ≡ option_map (λ (p : Text × List Row). p.1) (option_map met o) → option_map met o ≡ Some (verb, rows) → (name ≡ verb) × (read ≡ rows)
met_by met None verb name rows read names reads is = cc
met_by met (Some b) verb name rows read names reads is = (cc, cc)

pub met_is : (m : ArgMatches) (verb name : Text) (rows read : List Row) → Some name ≡ subcommand_name_of m → Some read ≡ option_map (λ (p : Text × List Row). p.1) (subcommand_rows (out-ArgMatches m).subcommand)
    → subcommand_rows_of m ≡ Some (verb, rows) → (name ≡ verb) × (read ≡ rows)
met_is m verb name rows read names reads is =
    met_by (λ b. ((out-SubCommand (box_value b)).name.now, rows_of (found_of (out-SubCommand (box_value b)).matches))) (out-ArgMatches m).subcommand verb name rows read names reads is

-- the names that were read
pub names_read : {B : Type 0} (texts : B → List Text) (found : Found) (id : Text) (o : Option B) (none names : B) → texts none ≡ [] → option_map texts o ≡ option_map raw_values (matched_of found id)
    → names ≡ unwrap_or o none → texts names ≡ unwrap_or (all_of id (rows_of found)) []
names_read {B} texts found id o none names empty is gives = ap texts gives ∙ by o ∙ ap (λ x. unwrap_or x []) (is ∙ raw_values-rows found id) where
  by : (o : Option B) → texts (unwrap_or o none) ≡ unwrap_or (option_map texts o) []
  by None = empty
  by (Some b) = refl

-- the grammar is one of which `clap` says the matches
pub matched : (words : List Text) (a : App) (m : ArgMatches) {verb : Text} {rows : List Row} → subcommand_of grammar_app words ≡ Some (verb, rows) → a ≡ grammar_app → HasMatchesOf a words m
    → subcommand_rows_of m ≡ Some (verb, rows)
unfolding clap_on_literals
matched words a m entered is has = (subst (λ b. HasMatchesOf b words m) is has refl).1 ∙ entered

-- the command of names and numbers that are equal
pub said : (o : Option Held) (form : Form) (names read : List Text) (turns t seed s : ℕ) → IsSomeAnd o (λ r. command_in r ≡ form.command read t s)
    → read ≡ names → t ≡ turns → s ≡ seed → IsSomeAnd o (λ r. command_in r ≡ form.command names turns seed)
said o form names read turns t seed s holds is of_turns of_seed = rw (is, of_turns, of_seed) at holds
