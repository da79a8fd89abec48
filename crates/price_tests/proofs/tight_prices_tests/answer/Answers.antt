use Rattle.std.proofs.Common.{rules, ◌≡◌}
use Rattle.price_tests.proofs.tight_prices_tests.answer.Goals as goal

pub tight-requires-clause-pairs : goal.tight-requires-clause-pairs
tight-requires-clause-pairs c =
    let two : c.in_ok-inst.inst.required ≡ 2 = search rules in
    c.in_ok-branch.ensures c.in_ok-inst.inst two
