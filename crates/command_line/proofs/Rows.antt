-- What is so of each row of the table of verbs.
use Rattle.std.proofs.Common.{arith, ◌≡◌, ℕ, ◌≤◌, Bool, true, List, [], ◌∷◌, refl, Option, Some, None}
use Rattle.std.specs.Prelude.{IfSome, is_some, nat_le}
use Rattle.std.specs.List.{AllByRecursion}
use Rattle.clap.proofs.OnLiterals.{clap_on_literals}
use Rattle.command_line.specs.Laws.{HasBudget}
use Rattle.command_line.specs.Words.{Form, forms}
use Rattle.command_line.proofs.Entering.{Enters, enters, names, start, top}

abbrev pub IsBudget : ℕ → Type 0
IsBudget turns = (1 ≤ turns) × (turns ≤ 1048576)

-- `clap` comes to the words after its verb, which are up to five names and then options. Its command asks for no turns, or for those that it is
-- given, if they are in range, as those of the row are.
pub record IsRow (form : Form) : Type 0 where
  pub enters : Enters form.verb
  pub few : nat_le form.names 5 ≡ true
  pub keeps : (names : List (List ℕ)) (turns seed : ℕ) → (is_some form.turns ≡ true → IsBudget turns) → HasBudget (form.command names turns seed)
  pub default : IfSome form.turns IsBudget

row : {form : Form} → Enters form.verb → nat_le form.names 5 ≡ true
    → ((names : List (List ℕ)) (turns seed : ℕ) → (is_some form.turns ≡ true → IsBudget turns) → HasBudget (form.command names turns seed))
    → IfSome form.turns IsBudget → IsRow form
row comes few keeps default = record { enters = comes; few = few; keeps = keeps; default = default }

pub each_row : AllByRecursion IsRow forms
unfolding clap_on_literals top names start
each_row = (
  row (enters _ refl refl refl) refl (λ names turns seed fits. fits refl) (omega arith, omega arith),
  (
    row (enters _ refl refl refl) refl (λ names turns seed fits. tt) tt,
    (
      row (enters _ refl refl refl) refl (λ names turns seed fits. tt) tt,
      (
        row (enters _ refl refl refl) refl (λ names turns seed fits. tt) tt,
        (
          row (enters _ refl refl refl) refl (λ names turns seed fits. fits refl) (omega arith, omega arith),
          (
            row (enters _ refl refl refl) refl (λ names turns seed fits. tt) tt,
            (
              row (enters _ refl refl refl) refl (λ names turns seed fits. tt) tt,
              (
                row (enters _ refl refl refl) refl (λ names turns seed fits. fits refl) (omega arith, omega arith),
                (
                  row (enters _ refl refl refl) refl (λ names turns seed fits. tt) tt,
                  (
                    row (enters _ refl refl refl) refl (λ names turns seed fits. fits refl) (omega arith, omega arith),
                    tt,
                  ),
                ),
              ),
            ),
          ),
        ),
      ),
    ),
  ),
)
