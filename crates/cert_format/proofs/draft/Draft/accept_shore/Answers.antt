use Rattle.std.proofs.Common.{◌≡◌, true, rules}
use Rattle.cert_format.proofs.SetsHeld.{one_shore_less, one_longer}
use Rattle.cert_format.proofs.draft.Draft.accept_shore.Goals as goal

pub returns-clause-bounded : goal.returns-clause-bounded
returns-clause-bounded c =
    let new : c.in_ok-add_new.field-0 ≡ true = search rules in
    let whole = (c.in_ok-add_new.ensures.new new).1 in
    one_shore_less {old = c.args.self.now} c.args.left c.requires.bounded c.requires.next (search rules) (search rules) (search rules) (one_longer _ _ _ whole) (search rules)
