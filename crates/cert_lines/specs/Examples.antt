-- Small data for the examples beside the tests. No public contract speaks of this.
use Rattle.std.specs.Prelude.{ℕ, ℤ, pos, negsuc, List, [], ◌∷◌, Some, None, true, false, codes}
use Rattle.plan_model.specs.declared.step.Step.{Step}
use Rattle.branch_rules.specs.Bonds.{GroupWeight}
use Rattle.branch_rules.specs.declared.weight.Weight.{Weight}
use Rattle.branch_rules.specs.declared.node.Node.TheVariants.{Cut, Price}
use Rattle.cert_lines.specs.declared.counts.Counts.{Counts}
use Rattle.cert_lines.specs.Certificates.{Certificate}

-- an edge served forward and backward, and driven forward and backward
abbrev pub serves : ℕ → Step
serves e = record { edge = e; forward = true; served = true }

abbrev pub serves_back : ℕ → Step
serves_back e = record { edge = e; forward = false; served = true }

abbrev pub drives : ℕ → Step
drives e = record { edge = e; forward = true; served = false }

abbrev pub drives_back : ℕ → Step
drives_back e = record { edge = e; forward = false; served = false }

abbrev pub on_shore : ℕ → ℤ → Weight
on_shore i w = record { shore = i; weight = w }

abbrev pub on_group : List ℕ → ℤ → GroupWeight
on_group es w = record { edges = es; weight = w }

-- the numbers of two streets in a row, each of demand 2, for vehicles of room 2
abbrev pub row_counts : Counts
row_counts = record { vertices = 3; edges = 2; required = 2; capacity = 2; demand = 4 }

-- a certificate of a triangle of three streets, which one tour serves; its bound comes from the prices 5, 7 and 4
abbrev pub triangle : Certificate
triangle = record {
  counts = None;
  cost = 16;
  bound = 16;
  plan = (serves 1 ∷ serves 2 ∷ serves_back 3 ∷ []) ∷ [];
  shores = [];
  sets = record { unit = 1; services = pos 5 ∷ pos 7 ∷ pos 4 ∷ []; weights = []; groups = [] } ∷ [];
  nodes = Price 1 ∷ [];
}

-- the text of the triangle
abbrev pub triangle_text : List ℕ
triangle_text =
    codes "carp-certificate 1\ncost 16\nbound 16\ntours 1\ntour 3 +1 +2 -3\nshores 0\nsets 1\nprices 1 3 5 7 4\nweights 0\nnodes 1\nprice 1\nend\n"

-- a certificate of two streets in a row, with their numbers; one tour serves the first street, and drives over it in the other
abbrev pub row : Certificate
row = record {
  counts = Some row_counts;
  cost = 20;
  bound = 20;
  plan = (serves 1 ∷ drives_back 1 ∷ []) ∷ (drives 1 ∷ serves 2 ∷ drives_back 2 ∷ drives_back 1 ∷ []) ∷ [];
  shores = (2 ∷ 3 ∷ []) ∷ (3 ∷ []) ∷ [];
  sets = record { unit = 1; services = pos 3 ∷ pos 4 ∷ []; weights = on_shore 1 (pos 3) ∷ on_shore 2 (pos 4) ∷ []; groups = [] } ∷ [];
  nodes = Price 1 ∷ [];
}

abbrev pub row_text : List ℕ
row_text =
    codes "carp-certificate 2\ninstance 3 2 2 2 4\ncost 20\nbound 20\ntours 2\ntour 2 +1 <1\ntour 4 >1 +2 <2 <1\nshores 2\nshore 2 2 3\nshore 1 3\nsets 1\nprices 1 2 3 4\nweights 2 1 3 2 4\nnodes 1\nprice 1\nend\n"

-- the same with weights on groups
abbrev pub with_groups : List GroupWeight → Certificate
with_groups groups = record row {
  sets = record { unit = 1; services = pos 3 ∷ pos 4 ∷ []; weights = on_shore 1 (pos 3) ∷ on_shore 2 (pos 4) ∷ []; groups = groups } ∷ [];
}

-- with a weight on the group of both streets, and a gain if both are served together
abbrev pub bonded : Certificate
bonded = with_groups (on_group (1 ∷ 2 ∷ []) (pos 3) ∷ on_group (1 ∷ 2 ∷ []) (negsuc 1) ∷ [])

abbrev pub bonded_text : List ℕ
bonded_text =
    codes "carp-certificate 4\ninstance 3 2 2 2 4\ncost 20\nbound 20\ntours 2\ntour 2 +1 <1\ntour 4 >1 +2 <2 <1\nshores 2\nshore 2 2 3\nshore 1 3\nsets 1\nprices 1 2 3 4\nweights 2 1 3 2 4\nbonds 2 3 2 1 2 -2 2 1 2\nnodes 1\nprice 1\nend\n"

-- weights of 1 on the shores of single vertices
abbrev pub star_weights : List Weight
star_weights = on_shore 2 (pos 1) ∷ on_shore 3 (pos 1) ∷ on_shore 4 (pos 1) ∷ on_shore 5 (pos 1) ∷ on_shore 6 (pos 1) ∷ []

-- a certificate of five streets far from the depot, whose tree has a cut with a price set on either side
abbrev pub star : Certificate
star = record {
  counts = None;
  cost = 610;
  bound = 610;
  plan =
      (drives 6 ∷ serves 1 ∷ drives_back 1 ∷ serves 2 ∷ drives_back 2 ∷ drives_back 6 ∷ [])
      ∷ (drives 6 ∷ serves 3 ∷ drives_back 3 ∷ serves 4 ∷ drives_back 4 ∷ drives_back 6 ∷ [])
      ∷ (drives 6 ∷ serves 5 ∷ drives_back 5 ∷ drives_back 6 ∷ [])
      ∷ [];
  shores = (2 ∷ 3 ∷ 4 ∷ 5 ∷ 6 ∷ 7 ∷ []) ∷ (3 ∷ []) ∷ (4 ∷ []) ∷ (5 ∷ []) ∷ (6 ∷ []) ∷ (7 ∷ []) ∷ [];
  sets =
      record { unit = 1; services = pos 201 ∷ pos 201 ∷ pos 201 ∷ pos 201 ∷ pos 201 ∷ []; weights = on_shore 1 (negsuc 99) ∷ star_weights; groups = [] }
      ∷ record { unit = 1; services = pos 1 ∷ pos 1 ∷ pos 1 ∷ pos 1 ∷ pos 1 ∷ []; weights = on_shore 1 (pos 100) ∷ star_weights; groups = [] }
      ∷ [];
  nodes = Cut 1 4 ∷ Price 1 ∷ Price 2 ∷ [];
}

abbrev pub star_text : List ℕ
star_text =
    codes "carp-certificate 1\ncost 610\nbound 610\ntours 3\ntour 6 >6 +1 <1 +2 <2 <6\ntour 6 >6 +3 <3 +4 <4 <6\ntour 4 >6 +5 <5 <6\nshores 6\nshore 6 2 3 4 5 6 7\nshore 1 3\nshore 1 4\nshore 1 5\nshore 1 6\nshore 1 7\nsets 2\nprices 1 5 201 201 201 201 201\nweights 6 1 -100 2 1 3 1 4 1 5 1 6 1\nprices 1 5 1 1 1 1 1\nweights 6 1 100 2 1 3 1 4 1 5 1 6 1\nnodes 3\ncut 1 4\nprice 1\nprice 2\nend\n"
