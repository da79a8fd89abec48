use Rattle.std.proofs.Common.{◌≡◌, ◌+◌, ◌<◌, ◌++◌, ◌∷◌, [], length, get_or}
use Rattle.std.proofs.lemmas.List.{length_push}
use Rattle.std.proofs.lemmas.Iterator.Adapters.{YieldsList-from_vec}
use Rattle.std.proofs.lemmas.Iterator.Consumers.{YieldsList-turn}
use Rattle.dual_master.proofs.Placed.{step_is_new, step_has_room, step_held, step_weights, first_some}
use Rattle.dual_master.proofs.placing.place_shores.Goals as goal

pub place_shore-requires-clause-new : goal.place_shore-requires-clause-new
place_shore-requires-clause-new c =
    let shores = c.args.shores.items in
    let k = length c.loop-weighted.yielded in
    let t : (k < length shores) × (c.in-Some.weighted ≡ get_or shores k c.in-Some.weighted) =
    YieldsList-turn (YieldsList-from_vec {s = c.into_iter-weighted-iterator.result} shores (cc) (cc)) c.loop-weighted.yielded c.loop-weighted.weighted-iterator c.loop-weighted.yielded_by _ c.next.new.self
    c.in-Some.weighted c.in-Some.is c.next.ensures.steps in
    step_is_new shores k c.in-Some.weighted c.loop-weighted.pool t c.loop-weighted.invariant.held c.requires.apart

pub place_shore-requires-clause-room : goal.place_shore-requires-clause-room
place_shore-requires-clause-room c =
    let shores = c.args.shores.items in
    let k = length c.loop-weighted.yielded in
    let t : (k < length shores) × (c.in-Some.weighted ≡ get_or shores k c.in-Some.weighted) =
    YieldsList-turn (YieldsList-from_vec {s = c.into_iter-weighted-iterator.result} shores (cc) (cc)) c.loop-weighted.yielded c.loop-weighted.weighted-iterator c.loop-weighted.yielded_by _ c.next.new.self
    c.in-Some.weighted c.in-Some.is c.next.ensures.steps in
    step_has_room shores k c.in-Some.weighted c.loop-weighted.pool t c.loop-weighted.invariant.held c.requires.few

pub loop-weighted-preserved : goal.loop-weighted-preserved
loop-weighted-preserved c =
    let shores = c.args.shores.items in
    let k = length c.loop-weighted.yielded in
    let x = c.in-Some.weighted in
    let t : (k < length shores) × (x ≡ get_or shores k x) =
    YieldsList-turn (YieldsList-from_vec {s = c.into_iter-weighted-iterator.result} shores (cc) (cc)) c.loop-weighted.yielded c.loop-weighted.weighted-iterator c.loop-weighted.yielded_by _ c.next.new.self
    c.in-Some.weighted c.in-Some.is c.next.ensures.steps in
    let is = c.loop-weighted.invariant in
    let more : length (c.loop-weighted.yielded ++ x ∷ []) ≡ k + 1 = length_push c.loop-weighted.yielded x in
    rw more (record {
      weights = step_weights shores k x c.loop-weighted.pool t is.held c.loop-weighted.weights.items c.push.new.self.items _ is.weights c.in_ok-place_shore.ensures.value c.in_ok-push.ensures.items;
      held = step_held shores k x c.loop-weighted.pool t is.held c.place_shore.new.pool c.in_ok-place_shore.ensures.ok;
    })

pub returns-in_err-push-clause-first : goal.returns-in_err-push-clause-first
returns-in_err-push-clause-first c =
    let shores = c.args.shores.items in
    let k = length c.loop-weighted.yielded in
    let x = c.in-Some.weighted in
    let t : (k < length shores) × (x ≡ get_or shores k x) =
    YieldsList-turn (YieldsList-from_vec {s = c.into_iter-weighted-iterator.result} shores (cc) (cc)) c.loop-weighted.yielded c.loop-weighted.weighted-iterator c.loop-weighted.yielded_by _ c.next.new.self
    c.in-Some.weighted c.in-Some.is c.next.ensures.steps in
    first_some shores c.place_shore.new.pool (k + 1) (step_held shores k x c.loop-weighted.pool t c.loop-weighted.invariant.held c.place_shore.new.pool c.in_ok-place_shore.ensures.ok)
