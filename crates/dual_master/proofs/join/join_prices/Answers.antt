use Rattle.std.proofs.Common.{◌≡◌, sym, subst}
use Rattle.std.specs.List.{All}
use Rattle.std.proofs.lemmas.Result.{on_ok_weaker}
use Rattle.branch_rules.specs.Limits.{IsShoreOf}
use Rattle.branch_rules.specs.Prices.{Prices}
use Rattle.branch_rules.specs.declared.weight.Weight.{Weight}
use Rattle.dual_master.specs.Floors.{FitsAlways, ReachesJoin, ShowsJoinShores, WeighsEach, shores_of}
use Rattle.dual_master.specs.Pieces.{prices_of}
use Rattle.dual_master.specs.Sets.{IsJoinSet}
use Rattle.dual_master.proofs.Joined.{join_placeable, join_fits, join_reaches, join_shows}
use Rattle.dual_master.proofs.Made.{weighs_shores}
use Rattle.dual_master.proofs.Packed.{pool_belongs}
use Rattle.dual_master.proofs.Shelled.{both_on_ok, first_belong}
use Rattle.dual_master.proofs.Weighed.{weighs_each}
use Rattle.dual_master.proofs.join.join_prices.Goals as goal

pub set_of_shores-requires-clause-placeable : goal.set_of_shores-requires-clause-placeable
set_of_shores-requires-clause-placeable c =
    let bound = c.in_ok-bound.bound in
    join_placeable c.args.inst.now bound.deadheads.items bound.shores.items bound.value c.validity.ensures c.in_ok-bound.ensures

pub returns-clause-fits : goal.returns-clause-fits
returns-clause-fits c =
    let p = c.args.inst.now in
    let pool = c.set_of_shores.new.pool in
    let bound = c.in_ok-bound.bound in
    let shores = bound.shores.items in
    both_on_ok c.set_of_shores.result (λ set. set ≡ prices_of p 2 shores) (pool ≡ shores_of shores) (FitsAlways p pool)
    (λ set is held.
    subst (FitsAlways p pool) (sym is) (join_fits p bound.deadheads.items shores bound.value c.validity.ensures c.in_ok-bound.ensures pool held))
    c.set_of_shores.ensures.value c.set_of_shores.ensures.ok

pub returns-clause-reaches : goal.returns-clause-reaches
returns-clause-reaches c =
    let p = c.args.inst.now in
    let pool = c.set_of_shores.new.pool in
    let bound = c.in_ok-bound.bound in
    let shores = bound.shores.items in
    both_on_ok c.set_of_shores.result (λ set. set ≡ prices_of p 2 shores) (pool ≡ shores_of shores) (ReachesJoin p pool)
    (λ set is held.
    subst (ReachesJoin p pool) (sym is) (join_reaches p bound.deadheads.items shores bound.value c.validity.ensures c.in_ok-bound.ensures pool held))
    c.set_of_shores.ensures.value c.set_of_shores.ensures.ok

pub returns-clause-value : goal.returns-clause-value
returns-clause-value c =
    let p = c.args.inst.now in
    let pool = c.set_of_shores.new.pool in
    let bound = c.in_ok-bound.bound in
    let shores = bound.shores.items in
    both_on_ok c.set_of_shores.result (λ set. set ≡ prices_of p 2 shores) (pool ≡ shores_of shores) (ShowsJoinShores p pool)
    (λ set is held.
    subst (ShowsJoinShores p pool) (sym is) (join_shows p bound.deadheads.items shores bound.value c.validity.ensures c.in_ok-bound.ensures pool held))
    c.set_of_shores.ensures.value c.set_of_shores.ensures.ok

pub returns-clause-shores : goal.returns-clause-shores
returns-clause-shores c =
    let p = c.args.inst.now in
    let pool = c.set_of_shores.new.pool in
    let shores = c.in_ok-bound.bound.shores.items in
    both_on_ok c.set_of_shores.result (λ set. set ≡ prices_of p 2 shores) (pool ≡ shores_of shores) (λ set. All (λ (w : Weight). IsShoreOf p pool w.shore) set.weights)
    (λ set is held.
    subst (λ (s : Prices). All (λ (w : Weight). IsShoreOf p pool w.shore) s.weights) (sym is)
    (pool_belongs p pool 2 shores c.validity.ensures held
    (join_placeable p c.in_ok-bound.bound.deadheads.items shores c.in_ok-bound.bound.value c.validity.ensures c.in_ok-bound.ensures)))
    c.set_of_shores.ensures.value c.set_of_shores.ensures.ok

pub returns-clause-held : goal.returns-clause-held
returns-clause-held c =
    let bound = c.in_ok-bound.bound in
    on_ok_weaker {P = c.set_of_shores.new.pool ≡ shores_of bound.shores.items} c.set_of_shores.result
    (λ held. record { counts = bound.deadheads.items; shores = bound.shores.items; value = bound.value; show = c.in_ok-bound.ensures; held = held })
    c.set_of_shores.ensures.ok

pub returns-clause-belong : goal.returns-clause-belong
returns-clause-belong c =
    let p = c.args.inst.now in
    let shores = c.in_ok-bound.bound.shores.items in
    first_belong p shores c.set_of_shores.new.pool
    (join_placeable p c.in_ok-bound.bound.deadheads.items shores c.in_ok-bound.bound.value c.validity.ensures c.in_ok-bound.ensures) c.set_of_shores.ensures.first

pub returns-clause-weighed : goal.returns-clause-weighed
returns-clause-weighed c =
    let p = c.args.inst.now in
    let pool = c.set_of_shores.new.pool in
    let shores = c.in_ok-bound.bound.shores.items in
    both_on_ok c.set_of_shores.result (λ set. set ≡ prices_of p 2 shores) (pool ≡ shores_of shores) (WeighsEach pool)
    (λ set is held. subst (WeighsEach pool) (sym is) (weighs_each p 2 shores pool held)) c.set_of_shores.ensures.value c.set_of_shores.ensures.ok

pub returns-clause-made : goal.returns-clause-made
returns-clause-made c =
    let p = c.args.inst.now in
    let pool = c.set_of_shores.new.pool in
    let bound = c.in_ok-bound.bound in
    let shores = bound.shores.items in
    both_on_ok c.set_of_shores.result (λ set. set ≡ prices_of p 2 shores) (pool ≡ shores_of shores) (IsJoinSet p pool)
    (λ set is held.
    subst (IsJoinSet p pool) (sym is)
    (record {
      counts = bound.deadheads.items;
      shores = shores;
      value = bound.value;
      show = c.in_ok-bound.ensures;
      weighs = weighs_shores p 2 shores pool c.validity.ensures held;
    }))
    c.set_of_shores.ensures.value c.set_of_shores.ensures.ok
