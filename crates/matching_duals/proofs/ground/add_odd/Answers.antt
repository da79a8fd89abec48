use Rattle.std.proofs.Common.{◌≡◌, ◌%◌, true, false, sym, arith, eq-eqb}
use Rattle.std.proofs.lemmas.Bool.{ne_eqb}
use Rattle.std.proofs.lemmas.List.{append-nil}
use Rattle.matching_duals.specs.OddSets.{degree, is_odd}
use Rattle.matching_duals.proofs.Degrees.{degree_is}
use Rattle.matching_duals.proofs.ground.add_odd.Goals as goal

pub returns-in_ok-push : goal.returns-in_ok-push
returns-in_ok-push c =
    let p = c.args.net.now in
    let v = c.args.v in
    let odd : is_odd p v ≡ true = eq-eqb (degree p v % 2) 1 (omega (arith, degree_is p v c.requires.valid, c.required_degree.ensures, c.if-required_degree-eq1.true)) in
    rw odd c.in_ok-push.ensures.items

pub returns-else-required_degree-eq1 : goal.returns-else-required_degree-eq1
returns-else-required_degree-eq1 c =
    let p = c.args.net.now in
    let v = c.args.v in
    let odd : is_odd p v ≡ false = ne_eqb (degree p v % 2) 1 (λ same. omega (arith, same, degree_is p v c.requires.valid, c.required_degree.ensures, c.if-required_degree-eq1.false)) in
    rw odd (sym (append-nil c.args.odd.now.items))
