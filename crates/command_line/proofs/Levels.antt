-- What `clap` reads of the names and the options after a verb.
use Rattle.std.proofs.Common.{◌≡◌, true, List, [], ◌∷◌, ◌++◌, length, refl, sym, subst, append-nil, append_assoc, Some, codes, arith}
use Rattle.std.specs.Prelude.{nat_le}
use Rattle.std.specs.List.{AllByRecursion, list_all}
use Rattle.std.proofs.lemmas.Bool.{le-leb}
use Rattle.clap.proofs.OnLiterals.{clap_on_literals}
use Rattle.clap.specs.Simple.{Shape, built_leaf, inherited, marked_built, with_leaf_noted}
use Rattle.clap.specs.Takes.{settle_passes, turn_passes, value_passes}
use Rattle.clap.specs.Walk.{Held, Row, Text, Waiting, Walk, idle, nothing_held, positional, walked}
use Rattle.command_line.specs.Grammar.{AreRead, grammar_app, names_rule, verb_app}
use Rattle.command_line.specs.Words.{seed_word, turns_word}
use Rattle.command_line.proofs.Walking.{Goes, IsPlainText, Reads, goes_end, goes_on, goes_value, reads, standing}

-- the subcommand of a verb, as it is built
abbrev pub leaf : Text → Shape
leaf verb = built_leaf (inherited (with_leaf_noted (marked_built grammar_app.top)) (verb_app verb).top)

-- where the walk stands after some names
abbrev names_held : List Text → Held
names_held [] = nothing_held
names_held (name ∷ names) = record { rows = []; pending = Some (codes "names", name ∷ names); skip = 0 }

abbrev names_waiting : List Text → Waiting
names_waiting [] = idle
names_waiting (name ∷ names) = positional

abbrev at_names : List Text → Walk
at_names names = standing (names_held names) (names_waiting names) 1

-- one name more
one_name : (verb : Text) (seen : List Text) (word : Text) → IsPlainText word
    → (turn_passes (leaf verb) [] (at_names seen) word ≡ true) × (walked (leaf verb).rules [] (at_names seen) word ≡ at_names (seen ++ word ∷ []))
unfolding clap_on_literals
one_name verb [] word plain = (rw (plain.marks, plain.long, plain.short) refl, rw (plain.marks, plain.long, plain.short) refl)
one_name verb (name ∷ names) word plain = (rw (plain.marks, plain.long, plain.short) refl, rw (plain.marks, plain.long, plain.short) refl)

goes_names : (verb : Text) (seen more rest : List Text) (v : Walk) → AllByRecursion IsPlainText more → Goes (leaf verb) (at_names (seen ++ more)) rest v
    → Goes (leaf verb) (at_names seen) (more ++ rest) v
goes_names verb seen [] rest v plain goes = subst (λ names. Goes (leaf verb) (at_names names) rest v) (append-nil seen) goes
goes_names verb seen (word ∷ more) rest v plain goes =
    let one = one_name verb seen word plain.0 in
    goes_on one.0 one.1
    (goes_names verb (seen ++ word ∷ []) more rest v plain.1 (subst (λ names. Goes (leaf verb) (at_names names) rest v) (sym (append_assoc seen (word ∷ []) more)) goes))

-- all texts are values of a name
all_pass : (verb : Text) (names : List Text) → list_all (value_passes names_rule) names ≡ true
all_pass verb [] = refl
all_pass verb (name ∷ names) = all_pass verb names

-- up to five names pass
settles : (verb : Text) (names : List Text) → nat_le (length names) 5 ≡ true → settle_passes (leaf verb).rules (leaf verb).args_override_self (names_held names) ≡ true
unfolding clap_on_literals
settles verb [] few = refl
settles verb (name ∷ names) few = rw (le-leb 0 (length (name ∷ names)) (omega arith), few, all_pass verb (name ∷ names)) refl

-- names and options are read as what they are
pub record IsReadAs (verb : Text) (names options : List Text) : Type 0 where
  pub rows : List Row
  pub level : Reads (leaf verb) (names ++ options) rows
  pub read : AreRead names options rows

module _ (verb : Text) where
  pub no_option : (names : List Text) → nat_le (length names) 5 ≡ true → AllByRecursion IsPlainText names → IsReadAs verb names []
  unfolding clap_on_literals
  no_option [] few plain = record {
    rows = _;
    level = reads goes_end refl;
    read = record { names_are = refl; turns_are = refl; seed_is = refl };
  }
  no_option (name ∷ names) few plain = record {
    rows = _;
    level = reads (goes_names verb [] (name ∷ names) [] _ plain goes_end) (rw (settles verb (name ∷ names) few) refl);
    read = record { names_are = refl; turns_are = refl; seed_is = refl };
  }

  pub turns_alone : (names : List Text) → nat_le (length names) 5 ≡ true → AllByRecursion IsPlainText names → (n : Text) → IsPlainText n → IsReadAs verb names (turns_word ∷ n ∷ [])
  unfolding clap_on_literals
  turns_alone [] few plain n p = record {
    rows = _;
    level = reads (goes_on refl refl (goes_value p goes_end)) refl;
    read = record { names_are = refl; turns_are = refl; seed_is = refl };
  }
  turns_alone (name ∷ names) few plain n p = record {
    rows = _;
    level = reads (goes_names verb [] (name ∷ names) (turns_word ∷ n ∷ []) _ plain (goes_on (rw (settles verb (name ∷ names) few) refl) refl (goes_value p goes_end))) refl;
    read = record { names_are = refl; turns_are = refl; seed_is = refl };
  }

  pub seed_alone : (names : List Text) → nat_le (length names) 5 ≡ true → AllByRecursion IsPlainText names → (n : Text) → IsPlainText n → IsReadAs verb names (seed_word ∷ n ∷ [])
  unfolding clap_on_literals
  seed_alone [] few plain n p = record {
    rows = _;
    level = reads (goes_on refl refl (goes_value p goes_end)) refl;
    read = record { names_are = refl; turns_are = refl; seed_is = refl };
  }
  seed_alone (name ∷ names) few plain n p = record {
    rows = _;
    level = reads (goes_names verb [] (name ∷ names) (seed_word ∷ n ∷ []) _ plain (goes_on (rw (settles verb (name ∷ names) few) refl) refl (goes_value p goes_end))) refl;
    read = record { names_are = refl; turns_are = refl; seed_is = refl };
  }

  pub turns_first : (names : List Text) → nat_le (length names) 5 ≡ true → AllByRecursion IsPlainText names → (n k : Text) → IsPlainText n → IsPlainText k
      → IsReadAs verb names (turns_word ∷ n ∷ seed_word ∷ k ∷ [])
  unfolding clap_on_literals
  turns_first [] few plain n k p q = record {
    rows = _;
    level = reads (goes_on refl refl (goes_value p (goes_on refl refl (goes_value q goes_end)))) refl;
    read = record { names_are = refl; turns_are = refl; seed_is = refl };
  }
  turns_first (name ∷ names) few plain n k p q = record {
    rows = _;
    level = reads (goes_names verb [] (name ∷ names) (turns_word ∷ n ∷ seed_word ∷ k ∷ []) _ plain
        (goes_on (rw (settles verb (name ∷ names) few) refl) refl (goes_value p (goes_on refl refl (goes_value q goes_end))))) refl;
    read = record { names_are = refl; turns_are = refl; seed_is = refl };
  }

  pub seed_first : (names : List Text) → nat_le (length names) 5 ≡ true → AllByRecursion IsPlainText names → (n k : Text) → IsPlainText n → IsPlainText k
      → IsReadAs verb names (seed_word ∷ k ∷ turns_word ∷ n ∷ [])
  unfolding clap_on_literals
  seed_first [] few plain n k p q = record {
    rows = _;
    level = reads (goes_on refl refl (goes_value q (goes_on refl refl (goes_value p goes_end)))) refl;
    read = record { names_are = refl; turns_are = refl; seed_is = refl };
  }
  seed_first (name ∷ names) few plain n k p q = record {
    rows = _;
    level = reads (goes_names verb [] (name ∷ names) (seed_word ∷ k ∷ turns_word ∷ n ∷ []) _ plain
        (goes_on (rw (settles verb (name ∷ names) few) refl) refl (goes_value q (goes_on refl refl (goes_value p goes_end))))) refl;
    read = record { names_are = refl; turns_are = refl; seed_is = refl };
  }
