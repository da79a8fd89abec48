use Rattle.std.proofs.Common.{◌≡◌, ◌<◌, ◌∙◌, ap, arith, length}
use Rattle.std.proofs.lemmas.Bool.{lt-ltb, ltb-true}
use Rattle.cut_pool.specs.Pools.{shore_at}
use Rattle.cut_pool.specs.Shores.{is_in, need}
use Rattle.tight_prices.proofs.Keeping.{vertex_of}
use Rattle.tight_prices.proofs.passes.is_needed_single.Goals as goal

pub returns-clause-yes : goal.returns-clause-yes
returns-clause-yes c needed =
    lt-ltb 0 c.need.result
    (omega (arith, needed.needed, c.need.ensures.value, ap (λ vs. need c.args.inst.now (is_in vs)) (c.shore-shore.ensures ∙ needed.single)))

pub returns-clause-only : goal.returns-clause-only
returns-clause-only c so =
    let shore = shore_at c.args.pool.now c.args.number in
    let long : length shore ≡ 1 = omega (arith, c.len.ensures.value, c.if-len-ne1.false, ap length c.shore-shore.ensures) in
    let one = vertex_of shore long in
    let some : 0 < c.need.result = ltb-true 0 c.need.result so in
    record {
      number = c.requires.number;
      v = one.0;
      single = one.1;
      needed = omega (arith, some, c.need.ensures.value, ap (λ vs. need c.args.inst.now (is_in vs)) (c.shore-shore.ensures ∙ one.1));
    }
