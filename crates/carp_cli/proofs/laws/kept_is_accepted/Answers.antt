use Rattle.carp_cli.proofs.Accepting.{solved_accepted, upgraded_accepted, edited_accepted, improved_accepted, made_held, made_solved}
use Rattle.carp_cli.proofs.laws.kept_is_accepted.Goals as goal

pub returns-clause-solved : goal.returns-clause-solved
returns-clause-solved c = solved_accepted c.texts_are_unique.ensures.text c.texts_are_short.ensures.text

pub returns-clause-upgraded : goal.returns-clause-upgraded
returns-clause-upgraded c = upgraded_accepted c.texts_are_unique.ensures.text c.texts_are_short.ensures.text

pub returns-clause-edited : goal.returns-clause-edited
returns-clause-edited c = edited_accepted c.texts_are_unique.ensures.text c.texts_are_short.ensures.text c.written_is_read.ensures c.written_is_short.ensures

pub returns-clause-improved : goal.returns-clause-improved
returns-clause-improved c = improved_accepted c.texts_are_unique.ensures.text c.texts_are_short.ensures.text

pub returns-clause-made : goal.returns-clause-made
returns-clause-made c = made_held c.written_is_read.ensures c.written_is_short.ensures c.towns_are_valid.ensures

pub returns-clause-made_solved : goal.returns-clause-made_solved
returns-clause-made_solved c = made_solved c.written_is_read.ensures c.written_is_short.ensures c.towns_are_valid.ensures
