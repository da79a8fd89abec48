use Rattle.std.proofs.Common.{◌-◌, ◌*◌, ◌≤◌, get_or, arith}
use Rattle.std.proofs.Math.Nat.{mul-le-mul}
use Rattle.capacity_cuts.proofs.Limits.{parts_most}
use Rattle.capacity_cuts.proofs.network.room.Goals as goal

pub overflow_mul-parts : goal.overflow_mul-parts
overflow_mul-parts c =
    let capacity : c.capacity.result ≤ 30000 = omega (arith, c.capacity.ensures.value, c.capacity.ensures.valid.capacity_in) in
    let most : c.capacity.result * get_or c.args.x.now (c.args.e - 1) 0 ≤ 30000 * 1000000000000 =
    mul-le-mul capacity (parts_most c.args.inst.now c.args.x.now c.args.e c.requires.parts c.requires.number) in
    omega (arith, most)

pub overflow_add-result : goal.overflow_add-result
overflow_add-result c =
    let capacity : c.capacity.result ≤ 30000 = omega (arith, c.capacity.ensures.value, c.capacity.ensures.valid.capacity_in) in
    let most : c.capacity.result * get_or c.args.x.now (c.args.e - 1) 0 ≤ 30000 * 1000000000000 =
    mul-le-mul capacity (parts_most c.args.inst.now c.args.x.now c.args.e c.requires.parts c.requires.number) in
    let rest : c.capacity-then-e-required.result - c.edge.result.demand ≤ 30000 = omega (arith, c.capacity-then-e-required.ensures.value, c.capacity.ensures.valid.capacity_in) in
    let first : c.args.unit * (c.capacity-then-e-required.result - c.edge.result.demand) ≤ 1000000 * 30000 = mul-le-mul c.requires.unit rest in
    omega (arith, most, first)
