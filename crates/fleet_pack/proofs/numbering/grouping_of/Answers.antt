use Rattle.std.proofs.Common.{◌+◌, arith, ap, ◌∙◌}
use Rattle.std.specs.Prelude.{slice_index}
use Rattle.std.proofs.lemmas.List.{get_or_read}
use Rattle.fleet_pack.specs.Ranks.{rank}
use Rattle.fleet_pack.proofs.Ranking.{by_groups, name_within}
use Rattle.fleet_pack.proofs.numbering.grouping_of.Goals as goal

pub groups_of-requires-clause-within : goal.groups_of-requires-clause-within
groups_of-requires-clause-within c = name_within c.args.inst.now c.args.branch.now c.args.labels.now c.args.weights.now c.requires.bundles

pub returns : goal.returns
returns c =
    let last = get_or_read c.in_ok-ranks.ranks.items c.required-required.result c.index.result.now (omega (arith, c.in_ok-ranks.ensures.long, c.requires.bundles.label_each)) c.index.ensures 0 in
    let all = by_groups c.args.inst.now c.args.branch.now c.args.labels.now c.args.weights.now c.in_ok-groups.groups.items c.index.result.now
    c.required-required.ensures.valid c.requires.bundles c.requires.choices c.requires.light
    (omega (arith, c.in_ok-groups.ensures.long, c.requires.bundles.label_each))
    (last ∙ c.in_ok-ranks.ensures.ranks c.required-required.result (omega (arith, c.in_ok-ranks.ensures.long, c.requires.bundles.label_each)) ∙ ap (rank c.args.labels.now) c.required-required.ensures.value)
    (λ k less. c.in_ok-groups.ensures.groups k less ∙ ap (λ xs. slice_index xs (slice_index c.args.labels.now (k + 1))) c.deref.ensures.value
    ∙ c.in_ok-ranks.ensures.ranks (slice_index c.args.labels.now (k + 1)) (omega (
      arith,
      c.in_ok-ranks.ensures.long,
      name_within c.args.inst.now c.args.branch.now c.args.labels.now c.args.weights.now c.requires.bundles (k + 1) (omega arith) (omega (arith, less, c.in_ok-groups.ensures.long)),
    ))) in
    record { grouping = all.0; count = all.1 }
