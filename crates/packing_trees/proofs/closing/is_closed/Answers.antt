use Rattle.std.proofs.Common.{arith, sym, ◌∙◌}
use Rattle.packing_trees.proofs.Weighing.{small_table}
use Rattle.packing_trees.proofs.Parting.{first_label, second_label, first_in, second_in, closed_from, refused_from}
use Rattle.packing_trees.proofs.closing.is_closed.Goals as goal

pub are_refused-requires-clause-table : goal.are_refused-requires-clause-table
are_refused-requires-clause-table c =
    rw (c.deref.ensures.value, c.deref-else-one-other.ensures.value) (small_table c.args.inst.now c.args.branch.now _ _ c.capacity-capacity.ensures.valid c.requires.bundles)

pub are_refused-requires-clause-from_one : goal.are_refused-requires-clause-from_one
are_refused-requires-clause-from_one c =
    let is = first_label c.args.inst.now c.args.branch.now _ _ c.requires.bundles c.requires.choices _ _ _ c.requires.pair c.index.ensures in
    omega (arith, is, (first_in c.args.inst.now c.args.branch.now _ _ c.requires.bundles c.requires.choices _ _ c.requires.pair).from_one)

pub are_refused-requires-clause-one_in : goal.are_refused-requires-clause-one_in
are_refused-requires-clause-one_in c =
    let is = first_label c.args.inst.now c.args.branch.now _ _ c.requires.bundles c.requires.choices _ _ _ c.requires.pair c.index.ensures in
    rw c.deref.ensures.value (omega (arith, is, c.requires.bundles.label_each, (first_in c.args.inst.now c.args.branch.now _ _ c.requires.bundles c.requires.choices _ _ c.requires.pair).in_range))

pub are_refused-requires-clause-from_two : goal.are_refused-requires-clause-from_two
are_refused-requires-clause-from_two c =
    let is = second_label c.args.inst.now c.args.branch.now _ _ c.requires.bundles c.requires.choices _ _ _ c.requires.pair c.index-2.ensures in
    omega (arith, is, (second_in c.args.inst.now c.args.branch.now _ _ c.requires.bundles c.requires.choices _ _ c.requires.pair).from_one)

pub are_refused-requires-clause-other_in : goal.are_refused-requires-clause-other_in
are_refused-requires-clause-other_in c =
    let is = second_label c.args.inst.now c.args.branch.now _ _ c.requires.bundles c.requires.choices _ _ _ c.requires.pair c.index-2.ensures in
    rw c.deref.ensures.value (omega (arith, is, c.requires.bundles.label_each, (second_in c.args.inst.now c.args.branch.now _ _ c.requires.bundles c.requires.choices _ _ c.requires.pair).in_range))

pub returns-else-one-other : goal.returns-else-one-other
returns-else-one-other c =
    let p = c.args.inst.now in
    let branch = c.args.branch.now in
    let labels = c.args.bundles.now.labels.items in
    let weights = c.args.bundles.now.weights.items in
    let one_is = first_label p branch labels weights c.requires.bundles c.requires.choices c.args.a c.args.b _ c.requires.pair c.index.ensures in
    let other_is = second_label p branch labels weights c.requires.bundles c.requires.choices c.args.a c.args.b _ c.requires.pair c.index-2.ensures in
    let refused = rw (c.deref.ensures.value, c.deref-else-one-other.ensures.value, c.capacity-capacity.ensures.value, one_is, other_is) at c.are_refused.ensures in (
      (λ is. closed_from p branch labels weights c.requires.bundles c.requires.choices c.args.a c.args.b c.requires.pair (refused.0 is)),
      (λ closed. refused.1 (refused_from p branch labels weights c.requires.bundles c.requires.choices c.args.a c.args.b c.requires.pair
          (λ same. c.if-one-other.false (one_is ∙ same ∙ sym other_is)) closed)),
    )
