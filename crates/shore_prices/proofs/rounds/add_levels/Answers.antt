use Rattle.std.proofs.Common.{◌≡◌, ◌<◌, length, get_or, subst, sym}
use Rattle.std.proofs.lemmas.Iterator.Adapters.{YieldsList-from_vec}
use Rattle.std.proofs.lemmas.Iterator.Consumers.{YieldsList-turn}
use Rattle.carp_base.specs.Problem.{Problem}
use Rattle.cut_pool.specs.Shores.{Belongs}
use Rattle.cut_pool.specs.declared.shore.Weighted.{Weighted}
use Rattle.shore_prices.proofs.Levels.{shell_belongs}
use Rattle.shore_prices.proofs.rounds.add_levels.Goals as goal

pub need-least-requires : goal.need-least-requires
need-least-requires c =
    let shells = c.in_ok-levels.levels.items in
    let k = length c.loop-shell.yielded in
    let t : (k < length shells) × (c.in-Some.shell ≡ get_or shells k c.in-Some.shell) =
    YieldsList-turn (YieldsList-from_vec {s = c.into_iter-shell-iterator.result} shells (cc) (cc)) c.loop-shell.yielded c.loop-shell.shell-iterator c.loop-shell.yielded_by _ c.next.new.self
    c.in-Some.shell c.in-Some.is c.next.ensures.steps in
    subst (λ (w : Weighted). Belongs c.args.inst.now w.shore) (sym t.1) (shell_belongs c.args.inst.now 0 shells c.in_ok-levels.ensures k c.in-Some.shell t.0)

pub add-requires : goal.add-requires
add-requires c =
    let shells = c.in_ok-levels.levels.items in
    let k = length c.loop-shell.yielded in
    let t : (k < length shells) × (c.in-Some.shell ≡ get_or shells k c.in-Some.shell) =
    YieldsList-turn (YieldsList-from_vec {s = c.into_iter-shell-iterator.result} shells (cc) (cc)) c.loop-shell.yielded c.loop-shell.shell-iterator c.loop-shell.yielded_by _ c.next.new.self
    c.in-Some.shell c.in-Some.is c.next.ensures.steps in
    subst (λ (p : Problem). Belongs p c.in-Some.shell.shore) (sym c.loop-shell.invariant)
    (subst (λ (w : Weighted). Belongs c.args.inst.now w.shore) (sym t.1) (shell_belongs c.args.inst.now 0 shells c.in_ok-levels.ensures k c.in-Some.shell t.0))
