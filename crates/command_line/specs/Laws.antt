-- A law over all words.
use Rattle.std.specs.Prelude.{ℕ, ◌≤◌, List, IfSome}
use Rattle.command_line.specs.Commands.{Command, Solve, Drill, Fleet, Improve}
use Rattle.command_line.specs.Words.{command_of}

-- the turns that a command asks for, if it asks for any, are 1 to 1,048,576
abbrev pub HasBudget : Command → Type 0
HasBudget (Solve file cert turns seed) = (1 ≤ turns) × (turns ≤ 1048576)
HasBudget (Drill turns seed) = (1 ≤ turns) × (turns ≤ 1048576)
HasBudget (Fleet file turns) = (1 ≤ turns) × (turns ≤ 1048576)
HasBudget (Improve file cert improved turns seed) = (1 ≤ turns) × (turns ≤ 1048576)
HasBudget _ = Unit {0}

-- as it is of each command that plain words name
abbrev pub BudgetsAreInRange : Type 0
BudgetsAreInRange = (words : List (List ℕ)) → IfSome (command_of words) HasBudget
