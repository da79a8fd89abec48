use Rattle.std.proofs.Common.{sym, ◌∙◌}
use Rattle.std.proofs.lemmas.Bool.{false≢true}
use Rattle.branch_tree.proofs.kinds.kind_of.Goals as goal

pub returns-then-void : goal.returns-then-void
returns-then-void c = c.in_ok-void.ensures.0 c.if-void.true

pub returns-then-fixed : goal.returns-then-fixed
returns-then-fixed c = c.in_ok-fixed.ensures.0 c.if-fixed.true

pub returns : goal.returns
returns c = (
  λ void. false≢true (sym c.if-void.false ∙ c.in_ok-void.ensures.1 void),
  λ fixed. false≢true (sym c.if-fixed.false ∙ c.in_ok-fixed.ensures.1 fixed),
)
