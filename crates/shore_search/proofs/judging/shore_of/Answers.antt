use Rattle.std.proofs.Common.{arith, false, sym, ◌∙◌}
use Rattle.std.specs.Prelude.{slice_index_or, vec_len}
use Rattle.shore_search.proofs.Listing.{is_shore, is_some}
use Rattle.shore_search.proofs.judging.shore_of.Goals as goal

pub from_list-requires : goal.from_list-requires
from_list-requires c =
    is_shore c.vertices_are_listed.ensures c.args.inst.now (λ v. slice_index_or c.args.marks.now v false) c.in_ok-vertices.vertices.items c.deref.result.now
    c.in_ok-vertices.ensures c.deref.ensures.value (omega (arith, c.deref.ensures.len, is_some (vec_len c.in_ok-vertices.vertices) (sym c.is_empty.ensures ∙ c.if-is_empty.false)))
