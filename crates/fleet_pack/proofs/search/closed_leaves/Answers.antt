use Rattle.std.proofs.Common.{ap, sym, ◌∙◌}
use Rattle.std.proofs.lemmas.List.{take_all}
use Rattle.fleet_pack.specs.States.{closed_count}
use Rattle.fleet_pack.proofs.Stepping.{all_closed}
use Rattle.fleet_pack.proofs.search.closed_leaves.Goals as goal

pub returns-clause-all : goal.returns-clause-all
returns-clause-all c = λ is.
    all_closed c.args.count c.args.shares.now (ap (closed_count c.args.count) (sym (take_all c.loop-share.share-index c.args.shares.now c.loop-share-test.false)) ∙ sym c.loop-share.invariant.closed ∙ is)
