use Rattle.std.proofs.Common.{◌-◌, ℕ, List, w64, subst, sym, ◌∙◌, arith}
use Rattle.std.proofs.lemmas.Int.{to_z_pos}
use Rattle.cut_pool.specs.Shores.{IsShore}
use Rattle.capacity_cuts.proofs.Layering.{past_shore, is_shell}
use Rattle.capacity_cuts.proofs.shelling.shell_between.Goals as goal

pub from_list-requires : goal.from_list-requires
from_list-requires c =
    subst (λ (l : List ℕ). IsShore l) (sym (c.deref.ensures.value ∙ c.in_ok-vertices.ensures))
    (past_shore c.vertices_are_listed.ensures c.args.inst.now c.args.lengths.now c.args.level c.args.end c.requires.valid c.requires.lengths c.requires.gap)

pub returns : goal.returns
returns c =
    is_shell c.vertices_are_listed.ensures c.args.inst.now c.args.lengths.now c.args.level c.args.end c.requires.valid c.requires.lengths c.requires.gap _
    (c.in_ok-from_list.ensures ∙ c.deref.ensures.value ∙ c.in_ok-vertices.ensures) (to_z_pos w64 (c.args.end - c.args.level) (omega (arith, c.requires.small)))
