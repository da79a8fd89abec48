use Rattle.std.proofs.Common.{◌≡◌, ap, subst, ◌∙◌, sym}
use Rattle.std.specs.List.{remove}
use Rattle.local_moves.specs.Sequences.{IsSequence}
use Rattle.local_moves.proofs.Kept.{remove_sequence}
use Rattle.local_moves.proofs.moves.try_move.Goals as goal

pub find_place-requires-2-clause-rest_sequence : goal.find_place-requires-2-clause-rest_sequence
find_place-requires-2-clause-rest_sequence c =
    let rest : c.deref-3.result.now ≡ remove c.args.sequence.now c.args.from = c.deref-3.ensures.value ∙ c.remove.ensures.items ∙ ap (λ ys. remove ys c.args.from) c.in_ok-rest.ensures.items in
    subst (λ ys. IsSequence c.args.board.now ys) (sym rest) (remove_sequence c.args.board.now c.args.sequence.now c.args.from c.requires.sequence c.requires.after_first c.requires.before_last)
