use Rattle.std.proofs.Common.{ap, ◌∙◌, List, reverse}
use Rattle.decision_chains.specs.declared.decision.Decision.{Decision}
use Rattle.grown_trees.specs.Blocks.{joined}
use Rattle.grown_trees.proofs.Reading.{entries_fine, entries_way}
use Rattle.grown_trees.proofs.way.decisions_to.Goals as goal

pub returns : goal.returns
returns c = record {
  way = λ tree is. c.reverse.ensures.items ∙ ap (λ (ds : List Decision). reverse ds) c.in_ok-decisions.ensures ∙ entries_way (joined c.args.blocks.now) c.args.place c.requires.place tree is;
  fine = entries_fine (joined c.args.blocks.now) c.args.place _ (c.reverse.ensures.items ∙ ap (λ (ds : List Decision). reverse ds) c.in_ok-decisions.ensures) c.requires.fine;
}
