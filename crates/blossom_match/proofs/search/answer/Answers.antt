use Rattle.blossom_match.proofs.Turning.{root_kept}
use Rattle.blossom_match.proofs.search.answer.Goals as goal

pub returns-in-Some-clause-keeps : goal.returns-in-Some-clause-keeps
returns-in-Some-clause-keeps c = root_kept _ _ c.grow.ensures.keeps c.grow.ensures.top c.grow.ensures.root

pub returns-in-None-clause-keeps : goal.returns-in-None-clause-keeps
returns-in-None-clause-keeps c = root_kept _ _ c.augment.ensures.keeps c.augment.ensures.top c.augment.ensures.root
