-- How `clap` comes to the words after a verb.
use Rattle.std.proofs.Common.{◌≡◌, ◌∙◌, ◌&&◌, ap, sym, true, false, List, [], ◌∷◌, ◌++◌, refl, Some}
use Rattle.std.specs.Prelude.{find, fold, is_some}
use Rattle.std.specs.List.{list_all}
use Rattle.clap.proofs.OnLiterals.{clap_on_literals}
use Rattle.clap.proofs.WalkLemmas.{walk_stopped}
use Rattle.clap.specs.Simple.{Shape, built, entered, label_of, names_of}
use Rattle.clap.specs.Takes.{default_passes, entered_passes, is_valid, level_passes, settle_passes, takes, turn_passes, walk_passes}
use Rattle.clap.specs.Walk.{Names, Text, Walk, answers_to, finished, nothing_held, rows_after, walk, walk_from, walked}
use Rattle.clap.specs.Words.{subcommand_of}
use Rattle.command_line.specs.Grammar.{grammar_app}
use Rattle.command_line.proofs.Levels.{leaf}

unfoldable pub top : Shape
top = (built grammar_app).top

unfoldable pub names : Names
names = names_of (built grammar_app)

unfoldable pub start : Walk
start = walk_from nothing_held

-- where the walk stands after a verb
abbrev pub at_verb : Text → List Text → Walk
at_verb verb words = record (walk_from nothing_held) { stopped = Some (verb, words) }

-- words after a verb are left to it
left_over : (verb : Text) (seen words : List Text) → walk_passes top names (at_verb verb seen) words ≡ true
unfolding walk_passes walked
left_over verb seen [] = refl
left_over verb seen (x ∷ words) = left_over verb (seen ++ x ∷ []) words

pub record Enters (verb : Text) : Type 0 where
  pub takes_is : (words : List Text) → level_passes (leaf verb) [] nothing_held words false ≡ true → takes grammar_app (verb ∷ words) ≡ true
  pub rows_are : (words : List Text) → subcommand_of grammar_app (verb ∷ words) ≡ Some (verb, rows_after (leaf verb).rules [] words)

-- what is so of the walk that came to a verb
module _ (verb : Text) (passes : turn_passes top names start verb ≡ true) (stops : walked top.rules names start verb ≡ at_verb verb [])
    (found : find (λ s. answers_to verb (label_of s)) (built grammar_app).subs ≡ Some (leaf verb)) where
  comes : (words : List Text) → walk top.rules names nothing_held (verb ∷ words) ≡ at_verb verb words
  unfolding start
  comes words = ap (λ w. fold (walked top.rules names) w words) stops ∙ sym (walk_stopped top.rules names (walk_from nothing_held) verb [] words)

  goes : (words : List Text) → walk_passes top names start (verb ∷ words) ≡ true
  unfolding walk_passes
  goes words = rw (passes, stops, left_over verb [] words) refl

  abbrev ends : (words : List Text) → Walk → Type 0
  ends words w = (entered_passes (built grammar_app) w.stopped && (walk_passes top names start (verb ∷ words) && (settle_passes top.rules top.args_override_self w.held
      && (list_all default_passes top.rules && is_valid top (finished top.rules w.held) (is_some (entered (built grammar_app) w.stopped)))))) ≡ true

  taken : (words : List Text) → level_passes (leaf verb) [] nothing_held words false ≡ true → ends words (at_verb verb words)
  unfolding clap_on_literals top names
  taken words level = rw (found, level, goes words) refl

  pub enters : Enters verb
  unfolding top names start
  enters = record {
    takes_is = λ words level. rw (comes words) (taken words level);
    rows_are = λ words. rw (comes words, found) refl;
  }
