-- How `clap` walks over plain words.
use Rattle.std.proofs.Common.{◌≡◌, ℕ, ◌&&◌, not, ◌==◌, Bool, true, false, List, [], ◌∷◌, refl, ap, ◌∙◌, None}
use Rattle.std.specs.Prelude.{fold}
use Rattle.std.specs.List.{list_all}
use Rattle.std.specs.Str.{bytes_eq}
use Rattle.clap.specs.Lexer.{long_of, short_of}
use Rattle.clap.specs.Simple.{Shape}
use Rattle.clap.specs.Takes.{default_passes, is_valid, level_passes, settle_passes, step_passes, turn_passes, walk_passes}
use Rattle.clap.specs.Walk.{Held, Row, Text, Waiting, Walk, arg_by_id, arg_by_index, finished, idle, nothing_held, option, option_word, rows_after, to_positional, value, walk_from, walked}
use Rattle.command_line.specs.Words.{is_name}

-- a word that is no flag
pub record IsPlainText (word : Text) : Type 0 where
  pub marks : bytes_eq word (45 ∷ 45 ∷ []) ≡ false
  pub long : long_of word ≡ None
  pub short : short_of word ≡ None

pub plain_text : (word : Text) → is_name word ≡ true → IsPlainText word
plain_text [] e = cc
plain_text (c ∷ cs) e =
    let other : (c == 45) ≡ false = flip (c == 45) e in record { marks = rw other refl; long = rw other refl; short = rw other refl } where
      flip : (b : Bool) → not b ≡ true → b ≡ false
      flip true e = cc
      flip false e = refl

-- the walk of a subcommand passes over the words, and ends so
pub record Goes (s : Shape) (w : Walk) (words : List Text) (v : Walk) : Type 0 where
  pub passes : walk_passes s [] w words ≡ true
  pub ends : fold (walked s.rules []) w words ≡ v

pub goes_end : {s : Shape} {w : Walk} → Goes s w [] w
unfolding walk_passes
goes_end = record { passes = refl; ends = refl }

pub goes_on : {s : Shape} {w u v : Walk} {word : Text} {rest : List Text} → turn_passes s [] w word ≡ true → walked s.rules [] w word ≡ u → Goes s u rest v → Goes s w (word ∷ rest) v
unfolding walk_passes
goes_on {s} {w} {u} {v} {word} {rest} turn step goes = record {
  passes = ap (λ b. b && walk_passes s [] (walked s.rules [] w word) rest) turn ∙ ap (λ x. walk_passes s [] x rest) step ∙ goes.passes;
  ends = ap (λ x. fold (walked s.rules []) x rest) step ∙ goes.ends;
}

-- between two words, with nothing met
abbrev pub standing : Held → Waiting → ℕ → Walk
standing h waiting position = record { held = h; waiting = waiting; position = position; is_trailing = false; stopped = None }

-- a name goes to the next positional
pub goes_name : {s : Shape} {h : Held} {position : ℕ} {word : Text} {rest : List Text} {v : Walk} → IsPlainText word → step_passes s position h value ≡ true
    → Goes s (to_positional s.rules (arg_by_index s.rules position) word (standing h idle position) h) rest v → Goes s (standing h idle position) (word ∷ rest) v
unfolding walked
goes_name plain passes goes = goes_on (rw (plain.marks, plain.long, plain.short) passes) (rw (plain.marks, plain.long, plain.short) refl) goes

-- a number goes to the option before it
pub goes_value : {s : Shape} {h : Held} {position : ℕ} {id word : Text} {rest : List Text} {v : Walk} → IsPlainText word
    → Goes s (standing (option_word (arg_by_id s.rules id) id word h).0 (option_word (arg_by_id s.rules id) id word h).1 position) rest v → Goes s (standing h (option id) position) (word ∷ rest) v
unfolding walked
goes_value plain goes = goes_on (rw (plain.marks, plain.long, plain.short) refl) (rw (plain.marks, plain.long, plain.short) refl) goes

-- a level of the parse passes, with these matches
pub record Reads (s : Shape) (words : List Text) (rows : List Row) : Type 0 where
  pub passes : level_passes s [] nothing_held words false ≡ true
  pub rows_are : rows_after s.rules [] words ≡ rows

pub reads : {s : Shape} {words : List Text} {v : Walk} → Goes s (walk_from nothing_held) words v
    → (settle_passes s.rules s.args_override_self v.held && (list_all default_passes s.rules && is_valid s (finished s.rules v.held) false)) ≡ true
    → Reads s words (finished s.rules v.held)
reads {s} {words} {v} goes end = record {
  passes = rw (goes.passes, goes.ends) end;
  rows_are = ap (λ (w : Walk). finished s.rules w.held) goes.ends;
}
