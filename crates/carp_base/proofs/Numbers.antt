-- Where the edge of a number, and the entry of a pair, stand.
use Rattle.std.proofs.Common.{◌≡◌, ℕ, zero, suc, ◌+◌, ◌-◌, ◌<◌, ◌≤◌, nat_lt, false, true, get_or, refl, arith, add-one}
use Rattle.std.proofs.lemmas.Bool.Decides.{nat_tests}
use Rattle.carp_base.specs.Problem.{Problem, edge_at, no_edge}
use Rattle.carp_base.specs.Allowed.{Relation, IsOf, allows}
use Rattle.carp_base.specs.Drafts.{entry_place}

pub edge_after : (p : Problem) (k : ℕ) → edge_at p (k + 1) ≡ get_or p.edges k no_edge
edge_after p k = rw add-one refl

pub edge_before : (p : Problem) (e : ℕ) → 1 ≤ e → edge_at p e ≡ get_or p.edges (e - 1) no_edge
edge_before p zero from_one = absurd (omega (arith, from_one))
edge_before p (suc k) from_one = let back : suc k - 1 ≡ k = omega arith in rw back refl

pub entry_is : (r : Relation) (a b : ℕ) → IsOf r a → IsOf r b → allows r a b ≡ get_or r.table (entry_place r.size a b) false
entry_is r zero b a_is b_is = absurd (omega (arith, a_is.from_one))
entry_is r (suc i) zero a_is b_is = absurd (omega (arith, b_is.from_one))
entry_is r (suc i) (suc j) a_is b_is =
    let i_is : suc i - 1 ≡ i = omega arith in
    let j_is : suc j - 1 ≡ j = omega arith in
    let within : nat_lt j r.size ≡ true = (let h : j < r.size = omega (arith, b_is.in_range) in grind (arith, nat_tests)) in
    rw (i_is, j_is, within) refl
