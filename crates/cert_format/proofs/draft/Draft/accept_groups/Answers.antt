use Rattle.std.proofs.Common.{rules}
use Rattle.cert_format.proofs.SetsHeld.{one_set_less}
use Rattle.cert_format.proofs.draft.Draft.accept_groups.Goals as goal

pub returns-clause-bounded : goal.returns-clause-bounded
returns-clause-bounded c =
    one_set_less {old = c.args.self.now} c.args.left c.requires.bounded c.requires.next (search rules) (search rules) (search rules) (search rules) (search rules)

pub returns-in_err-push-clause-bounded : goal.returns-in_err-push-clause-bounded
returns-in_err-push-clause-bounded c =
    one_set_less {old = c.args.self.now} c.args.left c.requires.bounded c.requires.next (search rules) (search rules) (search rules) (search rules) (search rules)
