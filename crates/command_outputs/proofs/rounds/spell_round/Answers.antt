use Rattle.command_outputs.proofs.Walks.{on_edges}
use Rattle.command_outputs.proofs.rounds.spell_round.Goals as goal

pub round_lines-requires : goal.round_lines-requires
round_lines-requires c = on_edges c.args.laid.now.inst _ _ c.args.laid.now.round.walk c.requires.is_round.leads
