-- How many edges a group has.
use Rattle.std.proofs.Common.{ℕ, zero, suc, ◌+◌, ◌-◌, ◌<◌, ◌≤◌, List, length, get_or, add-one, arith}
use Rattle.carp_base.specs.Problem.{Problem}
use Rattle.branch_rules.specs.Bonds.{IsGroup}

above : (p : Problem) (group : List ℕ) → IsGroup p group → (k : ℕ) → k < length group → k + 1 ≤ get_or group k 0
above p group is zero within = (is.required 0 0 within).from_one
above p group is (suc k) within =
    let step : get_or group k 0 < get_or group (suc k) 0 = rw add-one at (is.rising k (omega (arith, within))) in
    omega (arith, step, above p group is k (omega (arith, within)))

-- no more than are required
pub few : (p : Problem) (group : List ℕ) → IsGroup p group → length group ≤ p.required
few p group is =
    let last = above p group is (length group - 1) (omega (arith, is.two)) in
    omega (arith, is.two, last, (is.required (length group - 1) 0 (omega (arith, is.two))).in_range)
