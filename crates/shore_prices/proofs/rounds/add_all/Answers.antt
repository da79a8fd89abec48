use Rattle.std.proofs.Common.{◌≡◌, ◌<◌, length, get_or, subst, sym}
use Rattle.std.proofs.lemmas.Iterator.Adapters.{YieldsList-from_vec}
use Rattle.std.proofs.lemmas.Iterator.Consumers.{YieldsList-turn}
use Rattle.carp_base.specs.Problem.{Problem}
use Rattle.cut_pool.specs.Shores.{Belongs}
use Rattle.shore_prices.proofs.rounds.add_all.Goals as goal

pub add-requires : goal.add-requires
add-requires c =
    let shores = c.args.shores.items in
    let k = length c.loop-shore.yielded in
    let t : (k < length shores) × (c.in-Some.shore ≡ get_or shores k c.in-Some.shore) =
    YieldsList-turn (YieldsList-from_vec {s = c.into_iter-shore-iterator.result} shores (cc) (cc)) c.loop-shore.yielded c.loop-shore.shore-iterator c.loop-shore.yielded_by _ c.next.new.self
    c.in-Some.shore c.in-Some.is c.next.ensures.steps in
    let belongs : Belongs c.args.inst.now c.in-Some.shore = subst (Belongs c.args.inst.now) (sym t.1) (c.requires.belong k c.in-Some.shore t.0) in
    subst (λ (p : Problem). Belongs p c.in-Some.shore) (sym c.loop-shore.invariant) belongs
