use Rattle.std.proofs.Common.{◌≡◌, sym, subst}
use Rattle.std.specs.List.{All}
use Rattle.branch_rules.specs.Limits.{IsShoreOf}
use Rattle.branch_rules.specs.Prices.{Prices}
use Rattle.branch_rules.specs.declared.weight.Weight.{Weight}
use Rattle.dual_master.specs.Floors.{FitsAlways, ReachesShell, ShowsShell, WeighsEach, shores_of}
use Rattle.dual_master.specs.Pieces.{prices_of}
use Rattle.dual_master.specs.Sets.{IsShellSet}
use Rattle.dual_master.proofs.Nested.{shells_placeable}
use Rattle.dual_master.proofs.Made.{weighs_shores}
use Rattle.dual_master.proofs.Packed.{pool_belongs}
use Rattle.dual_master.proofs.Shelled.{both_on_ok, first_belong, shell_fits, shell_reaches, shell_shows}
use Rattle.dual_master.proofs.Weighed.{weighs_each}
use Rattle.dual_master.proofs.shell.shell_prices.Goals as goal

pub set_of_shores-requires-clause-placeable : goal.set_of_shores-requires-clause-placeable
set_of_shores-requires-clause-placeable c =
    shells_placeable c.least_prices_are_there.ensures.few_steps c.args.inst.now c.validity.ensures c.in_ok-found.found.items c.in_ok-found.ensures

pub returns-clause-fits : goal.returns-clause-fits
returns-clause-fits c =
    let p = c.args.inst.now in
    let pool = c.set_of_shores.new.pool in
    let shells = c.in_ok-found.found.items in
    both_on_ok c.set_of_shores.result (λ set. set ≡ prices_of p 1 shells) (pool ≡ shores_of shells) (FitsAlways p pool)
    (λ set is held.
    subst (FitsAlways p pool) (sym is)
    (shell_fits c.least_prices_are_there.ensures.few_steps p pool shells c.validity.ensures c.in_ok-found.ensures held c.shells_are_duals.ensures.pack))
    c.set_of_shores.ensures.value c.set_of_shores.ensures.ok

pub returns-clause-reaches : goal.returns-clause-reaches
returns-clause-reaches c =
    let p = c.args.inst.now in
    let pool = c.set_of_shores.new.pool in
    let shells = c.in_ok-found.found.items in
    both_on_ok c.set_of_shores.result (λ set. set ≡ prices_of p 1 shells) (pool ≡ shores_of shells) (ReachesShell p pool)
    (λ set is held.
    subst (ReachesShell p pool) (sym is)
    (shell_reaches c.least_prices_are_there.ensures.few_steps p pool shells c.validity.ensures c.in_ok-found.ensures held c.shells_are_duals.ensures.weigh))
    c.set_of_shores.ensures.value c.set_of_shores.ensures.ok

pub returns-clause-value : goal.returns-clause-value
returns-clause-value c =
    let p = c.args.inst.now in
    let pool = c.set_of_shores.new.pool in
    let shells = c.in_ok-found.found.items in
    both_on_ok c.set_of_shores.result (λ set. set ≡ prices_of p 1 shells) (pool ≡ shores_of shells) (ShowsShell p pool)
    (λ set is held.
    subst (ShowsShell p pool) (sym is)
    (shell_shows c.least_prices_are_there.ensures.few_steps p pool shells c.validity.ensures c.in_ok-found.ensures held c.shells_are_duals.ensures.weigh))
    c.set_of_shores.ensures.value c.set_of_shores.ensures.ok

pub returns-clause-shores : goal.returns-clause-shores
returns-clause-shores c =
    let p = c.args.inst.now in
    let pool = c.set_of_shores.new.pool in
    let shells = c.in_ok-found.found.items in
    both_on_ok c.set_of_shores.result (λ set. set ≡ prices_of p 1 shells) (pool ≡ shores_of shells) (λ set. All (λ (w : Weight). IsShoreOf p pool w.shore) set.weights)
    (λ set is held.
    subst (λ (s : Prices). All (λ (w : Weight). IsShoreOf p pool w.shore) s.weights) (sym is)
    (pool_belongs p pool 1 shells c.validity.ensures held
    (shells_placeable c.least_prices_are_there.ensures.few_steps p c.validity.ensures shells c.in_ok-found.ensures)))
    c.set_of_shores.ensures.value c.set_of_shores.ensures.ok

pub returns-clause-belong : goal.returns-clause-belong
returns-clause-belong c =
    let p = c.args.inst.now in
    first_belong p c.in_ok-found.found.items c.set_of_shores.new.pool
    (shells_placeable c.least_prices_are_there.ensures.few_steps p c.validity.ensures c.in_ok-found.found.items c.in_ok-found.ensures) c.set_of_shores.ensures.first

pub returns-clause-weighed : goal.returns-clause-weighed
returns-clause-weighed c =
    let p = c.args.inst.now in
    let pool = c.set_of_shores.new.pool in
    let shores = c.in_ok-found.found.items in
    both_on_ok c.set_of_shores.result (λ set. set ≡ prices_of p 1 shores) (pool ≡ shores_of shores) (WeighsEach pool)
    (λ set is held. subst (WeighsEach pool) (sym is) (weighs_each p 1 shores pool held)) c.set_of_shores.ensures.value c.set_of_shores.ensures.ok

pub returns-clause-made : goal.returns-clause-made
returns-clause-made c =
    let p = c.args.inst.now in
    let pool = c.set_of_shores.new.pool in
    let shells = c.in_ok-found.found.items in
    both_on_ok c.set_of_shores.result (λ set. set ≡ prices_of p 1 shells) (pool ≡ shores_of shells) (IsShellSet p pool)
    (λ set is held. subst (IsShellSet p pool) (sym is) (record { shells = shells; are = c.in_ok-found.ensures; weighs = weighs_shores p 1 shells pool c.validity.ensures held }))
    c.set_of_shores.ensures.value c.set_of_shores.ensures.ok
