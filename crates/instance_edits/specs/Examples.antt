-- Small data for the examples beside the tests. No public contract speaks of this.
use Rattle.std.specs.Prelude.{ℕ, List, [], ◌∷◌, codes}
use Rattle.carp_base.specs.Problem.{Problem}
use Rattle.instance_edits.specs.declared.edit.Edit.{Edit}
use Rattle.instance_edits.specs.declared.edit.Edit.TheVariants.{Cost, Service, Demand, Close}

-- three streets, of which the first is to be served
abbrev pub three_streets : Problem
three_streets = record {
  vertices = 3;
  depot = 1;
  capacity = 4;
  required = 1;
  edges = record { u = 1; v = 2; cost = 5; demand = 1; service = 6 } ∷ record { u = 2; v = 3; cost = 7; demand = 0; service = 0 } ∷ record { u = 1; v = 3; cost = 9; demand = 0; service = 0 } ∷ [];
}

-- edits of each kind; the second street is closed
abbrev pub some_edits : List Edit
some_edits = Cost 3 4 ∷ Demand 1 2 ∷ Close 2 ∷ Service 1 8 ∷ Cost 1 1 ∷ Cost 3 1 ∷ []

-- the streets after these edits
abbrev pub two_streets : Problem
two_streets = record {
  vertices = 3;
  depot = 1;
  capacity = 4;
  required = 1;
  edges = record { u = 1; v = 2; cost = 6; demand = 3; service = 14 } ∷ record { u = 1; v = 3; cost = 14; demand = 0; service = 0 } ∷ [];
}

-- the second street is closed, and then made dearer
abbrev pub late_edits : List Edit
late_edits = Close 2 ∷ Cost 2 4 ∷ []

-- texts of one line, and of two lines of which the second is bad
abbrev pub one_line : List ℕ
one_line = codes "cost 1 4\n"

abbrev pub unended : List ℕ
unended = codes "cost 1 4"

abbrev pub wrong_edge : List ℕ
wrong_edge = codes "close 1\n"

abbrev pub second_unread : List ℕ
second_unread = codes "cost 1 4\nx"

abbrev pub second_unknown : List ℕ
second_unknown = codes "cost 1 4\nclose 1\n"
