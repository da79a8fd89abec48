use Rattle.std.proofs.Common.{sym, subst}
use Rattle.tree_transfer.specs.Raised.{IsRaised}
use Rattle.cert_transfer.proofs.carrying.carry.Goals as goal

pub carry_over-requires-clause-raised : goal.carry_over-requires-clause-raised
carry_over-requires-clause-raised c =
    subst (λ x. IsRaised c.args.before.now x) (sym c.requires.after) (c.known_laws.ensures.raise c.args.before.now c.args.edits.now c.validity.ensures c.requires.known)
