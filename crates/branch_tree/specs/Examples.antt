-- Small searches of the examples.
use Rattle.std.specs.Prelude.{ℕ, List, [], ◌∷◌, pos}
use Rattle.branch_rules.specs.Prices.{Prices}
use Rattle.branch_rules.specs.declared.node.Node.TheVariants as nodes
use Rattle.branch_tree.specs.Searches.{State}

-- price sets, and a pair with a void leaf and a price leaf that shows so much, at a cost of 9 and after three turns
abbrev pub state_with : List Prices → ℕ → State
state_with sets shown = record {
  pool = [];
  sets = sets;
  nodes =
      record { node = nodes.Pair 1 2; shows = 18446744073709551615 } ∷ record { node = nodes.Void; shows = 18446744073709551615 } ∷ record { node = nodes.Price 1; shows = shown } ∷ [];
  plan = [];
  cost = 9;
  done = 3;
  least = 0;
  base = record { unit = 1; value = pos 0 };
}

abbrev pub closed_state : State
closed_state = state_with [] 9

abbrev pub half_open_state : State
half_open_state = state_with [] 8
