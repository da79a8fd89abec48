use Rattle.std.proofs.Common.{◌+◌, ◌*◌, ◌≤◌, arith}
use Rattle.std.proofs.lemmas.Nat.{mul-le}
use Rattle.carp_base.specs.Drafts.{drafted}
use Rattle.carp_base.proofs.Bounds.{few_required, capacity_in}
use Rattle.carp_base.proofs.draft.Draft.check_states.Goals as goal

pub overflow_add-states : goal.overflow_add-states
overflow_add-states c = omega (arith, capacity_in (drafted c.args.self.now) 10 c.requires (omega arith))

pub overflow_mul-states-2 : goal.overflow_mul-states-2
overflow_mul-states-2 c =
    let d = c.args.self.now in
    let few : d.required ≤ 600 = few_required (drafted d) 10 c.requires (omega arith) in
    let small : d.capacity ≤ 30000 = capacity_in (drafted d) 10 c.requires (omega arith) in
    omega (arith, mul-le (2 * d.required) (d.capacity + 1) 1200 30001 (omega arith) (omega arith))
