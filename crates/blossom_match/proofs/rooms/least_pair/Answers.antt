use Rattle.std.proofs.Common.{sym, subst, arith, inl, inr}
use Rattle.std.proofs.lemmas.Bool.{cases_eq}
use Rattle.blossom_match.specs.Rooms.{KeepsPair}
use Rattle.blossom_match.proofs.Limits.{pair_less}
use Rattle.blossom_match.proofs.rooms.least_pair.Goals as goal

pub loop-v-preserved : goal.loop-v-preserved
loop-v-preserved c = record {
  keeps = λ u w u_in below. elim (cases_eq w c.loop-v.v) [
    | inl same ↦ subst (λ x. KeepsPair c.args.costs.now c.args.state.now c.try_member-found-in-loop-v.result u x) (sym same) (c.try_member-found-in-loop-v.ensures.keeps u u_in)
    | inr other ↦ pair_less c.args.costs.now c.args.state.now _ _ _ _ c.try_member-found-in-loop-v.ensures.less (c.loop-v.invariant.keeps u w u_in (omega (arith, other, below)))
  ];
  happens = c.try_member-found-in-loop-v.ensures.happens;
  rooms = c.try_member-found-in-loop-v.ensures.rooms;
}

pub returns-clause-keeps : goal.returns-clause-keeps
returns-clause-keeps c = λ u v u_in v_in. c.loop-v.invariant.keeps u v u_in (omega (arith, v_in))
