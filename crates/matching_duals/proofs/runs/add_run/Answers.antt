use Rattle.std.proofs.Common.{List, ℕ, ◌-◌, sym, ◌∙◌, subst}
use Rattle.std.proofs.lemmas.Result.{on_ok_weaker}
use Rattle.cut_pool.specs.Shores.{IsShore}
use Rattle.matching_duals.specs.Levels.{Adds, IsAdded}
use Rattle.matching_duals.proofs.Running.{side_shore, run_adds}
use Rattle.matching_duals.proofs.runs.add_run.Goals as goal

pub from_list-requires : goal.from_list-requires
from_list-requires c =
    subst (λ (l : List ℕ). IsShore l) (sym (c.deref.ensures.value ∙ c.in_ok-side.ensures))
    (side_shore c.args.inst.now c.args.depths.now c.validity.ensures c.vertices_are_listed.ensures c.args.level c.requires.some)

pub returns : goal.returns
returns c =
    let p = c.args.inst.now in
    let old = c.args.shores.now.items in
    let new = c.add_shore.new.shores.items in
    on_ok_weaker {P = IsAdded old c.in_ok-shore.shore (c.args.end - c.args.level) new} {Q = Adds p c.args.depths.now c.args.level c.args.end old new} c.add_shore.result
    (λ added. run_adds p c.args.depths.now c.validity.ensures c.vertices_are_listed.ensures c.args.level c.args.end old new c.requires.less c.requires.gap
    (subst (λ (l : List ℕ). IsAdded old l (c.args.end - c.args.level) new) (c.in_ok-shore.ensures ∙ c.deref.ensures.value ∙ c.in_ok-side.ensures) added))
    c.add_shore.ensures
