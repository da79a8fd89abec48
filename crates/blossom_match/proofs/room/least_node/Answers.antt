use Rattle.std.proofs.Common.{sym, subst, arith, inl, inr}
use Rattle.std.proofs.lemmas.Bool.{cases_eq}
use Rattle.blossom_match.proofs.Limits.{node_less, either_way}
use Rattle.blossom_match.specs.Rooms.{IsNodeTurn, KeepsNode}
use Rattle.blossom_match.proofs.room.least_node.Goals as goal

pub loop-s-preserved : goal.loop-s-preserved
loop-s-preserved c = record {
  keeps = λ s below. elim (cases_eq s c.loop-s.s) [
    | inl same ↦ subst (λ x. KeepsNode c.args.state.now c.lesser-least.result x) (sym same)
        (node_less c.args.state.now _ _ _ c.lesser-least.ensures.second c.node_turn.ensures.keeps)
    | inr other ↦ node_less c.args.state.now _ _ _ c.lesser-least.ensures.first (c.loop-s.invariant.keeps s (omega (arith, other, below)))
  ];
  node = either_way _ _ _ (IsNodeTurn c.args.state.now) c.lesser-least.ensures.one c.loop-s.invariant.node c.node_turn.ensures.node;
}
