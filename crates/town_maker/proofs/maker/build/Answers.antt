use Rattle.std.proofs.Common.{arith}
use Rattle.town_maker.proofs.Soundness.{few_edges, never_refused}
use Rattle.town_maker.proofs.maker.build.Goals as goal

pub build-requires-clause-few_required : goal.build-requires-clause-few_required
build-requires-clause-few_required c = let few = few_edges c.args.depot c.args.required.now c.args.others.now c.requires in omega (arith, few)

pub build-requires-clause-few_others : goal.build-requires-clause-few_others
build-requires-clause-few_others c = let few = few_edges c.args.depot c.args.required.now c.args.others.now c.requires in omega (arith, few)

pub unreachable-requires : goal.unreachable-requires
unreachable-requires c =
    never_refused c.valid_where_no_fault.ensures _ _ _ _ _ c.requires c.in-Err-Refused.field-0-is c.in-Err-Refused.ensures.refused
