use Rattle.carp_base.specs.Problem.{described}
use Rattle.carp_base.proofs.Validity.{no_fault, valid_where_no_fault}
use Rattle.carp_base.proofs.laws.valid_where_no_fault.Goals as goal

pub returns : goal.returns
returns c = λ vertices depot capacity required others.
    (no_fault (described vertices depot capacity required others), valid_where_no_fault vertices depot capacity required others)
