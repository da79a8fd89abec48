use Rattle.std.proofs.Common.{sym, subst, arith, inl, inr}
use Rattle.std.proofs.lemmas.Bool.{cases_eq}
use Rattle.blossom_match.proofs.Limits.{pair_less, either_way}
use Rattle.blossom_match.specs.Rooms.{KeepsPair}
use Rattle.blossom_match.specs.Turns.{Happens}
use Rattle.blossom_match.proofs.room.least_pair_to.Goals as goal

pub loop-u-preserved : goal.loop-u-preserved
loop-u-preserved c = record {
  keeps = λ w below. elim (cases_eq w c.loop-u.u) [
    | inl same ↦ subst (λ x. KeepsPair c.args.costs.now c.args.state.now c.lesser-least.result x c.args.v) (sym same)
        (pair_less c.args.costs.now c.args.state.now _ _ _ _ c.lesser-least.ensures.second c.pair_turn.ensures.keeps)
    | inr other ↦ pair_less c.args.costs.now c.args.state.now _ _ _ _ c.lesser-least.ensures.first (c.loop-u.invariant.keeps w (omega (arith, other, below)))
  ];
  happens = either_way _ _ _ (λ t. Happens c.args.costs.now c.args.state.now t.amount t.event) c.lesser-least.ensures.one c.loop-u.invariant.happens c.pair_turn.ensures.happens;
}
