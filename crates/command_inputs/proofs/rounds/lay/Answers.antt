use Rattle.std.proofs.Common.{rules}
use Rattle.postman.specs.Rounds.{AreJoined, IsShownRound}
use Rattle.postman.specs.Refusals.{RefusesApart}
use Rattle.carp_base.specs.declared.fail.Fail.TheVariants.{Refused}
use Rattle.command_inputs.proofs.LaidRounds.{laid, refused_apart}
use Rattle.command_inputs.proofs.rounds.lay.Goals as goal

pub returns-in-Ok : goal.returns-in-Ok
returns-in-Ok c =
    let joined : AreJoined c.args.inst = search rules in
    let shown : IsShownRound c.args.inst c.in-Ok.round.walk c.in-Ok.round.shores.items c.in-Ok.round.cost = search rules in
    laid c.readings_are_unique.ensures.instance c.readings_are_unique.ensures.apart c.args._bytes.now (record { inst = c.args.inst; round = c.in-Ok.round }) c.requires joined shown

pub returns : goal.returns
returns c =
    let first : RefusesApart c.args.inst (Refused c.in-Err-Refused.fault) = search rules in
    refused_apart c.readings_are_unique.ensures.instance c.readings_are_unique.ensures.apart c.args._bytes.now c.args.inst c.in-Err-Refused.fault c.status_of.result c.requires first c.status_of.ensures
