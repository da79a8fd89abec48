use Rattle.std.proofs.Common.{◌≡◌, ◌<◌, sym, ◌∙◌, take, drop, [], arith, append_assoc, to_z, of_z, w64}
use Rattle.std.proofs.lemmas.Int.{ints}
use Rattle.std.proofs.lemmas.List.{take_rest}
use Rattle.std.specs.List.{All}
use Rattle.std.proofs.lemmas.List.Elements.{All-weaker}
use Rattle.branch_rules.specs.declared.weight.Weight.{Weight}
use Rattle.branch_rules.specs.Limits.{IsFineWeight}
use Rattle.tight_prices.specs.Tight.{put_weight}
use Rattle.tight_prices.proofs.Weighed.{put_together}
use Rattle.tight_prices.proofs.heavier.heavier.Goals as goal

pub returns : goal.returns
returns c more sum =
    let all = c.args.all.now in
    let from_one : All (λ (w : Weight). 0 < w.shore) all = All-weaker IsFineWeight (λ (w : Weight). 0 < w.shore) (λ w is. omega (arith, is.from_one)) all c.requires.fine in
    let place = c.place_of-place.result in
    let rest = c.rest_of-rest.result in
    let is = put_together c.args.shore more all place rest c.args.weight from_one c.requires.rising c.place_of-place.ensures c.rest_of-rest.ensures.rest sum in
    let z : to_z w64 (of_z w64 c.args.weight) ≡ c.args.weight = omega (arith, ints, c.ranges.weight.sfits) in
    rw (c.in_ok-extend_from_slice.ensures.items, c.in_ok-put.ensures, c.in_ok-weights.ensures.items, z, take_rest all rest)
    (append_assoc (take place all) (put_weight c.args.shore c.args.weight []) (drop rest all) ∙ sym is)
