-- The order of tasks at a moment: it goes on over a task between, and it is one for tasks of one edge.
use Rattle.std.proofs.Common.{◌≡◌, ℕ, ◌*◌, ◌<◌, ◌≤◌, ◌⊎◌, inl, inr, ap, ◌∙◌, arith}
use Rattle.std.proofs.lemmas.Bool.{cases_lt}
use Rattle.std.proofs.Math.Nat.{mul-le-mul_right, mul-lt-mul_of_pos_right, mul_right_comm, lt_of_mul-lt-mul_right}
use Rattle.path_scanning.specs.declared.candidate.Candidate.{Candidate}
use Rattle.path_scanning.specs.declared.rule.Tie.{Tie}
use Rattle.path_scanning.specs.declared.rule.Tie.TheVariants.{Farther, Nearer, Cheaper, Dearer}
use Rattle.path_scanning.specs.Ties.{tie_weight, TaskNoLater}

-- the first numbers that differ tell, over a key between
through : {A B C : Type 0} (x y z : ℕ) → (A → B → C) → (x < y) ⊎ ((x ≡ y) × A) → (y < z) ⊎ ((y ≡ z) × B) → (x < z) ⊎ ((x ≡ z) × C)
through x y z onward (inl less) (inl less') = inl (omega arith)
through x y z onward (inl less) (inr same) = inl (let e = same.0 in omega arith)
through x y z onward (inr same) (inl less) = inl (let e = same.0 in omega arith)
through x y z onward (inr same) (inr same') = inr (same.0 ∙ same'.0, onward same.1 same'.1)

-- the same where each two keys are compared by numbers of their own
pub record GoesOver (xy yx yz zy xz zx : ℕ) : Type 0 where
  pub below : xy < yx → yz ≤ zy → xz < zx
  pub above : xy ≤ yx → yz < zy → xz < zx
  pub same : xy ≡ yx → yz ≡ zy → xz ≡ zx

over : {A B C : Type 0} (xy yx yz zy xz zx : ℕ) → GoesOver xy yx yz zy xz zx → (A → B → C) →
    (xy < yx) ⊎ ((xy ≡ yx) × A) → (yz < zy) ⊎ ((yz ≡ zy) × B) → (xz < zx) ⊎ ((xz ≡ zx) × C)
over xy yx yz zy xz zx goes onward (inl less) (inl less') = inl (goes.below less (omega arith))
over xy yx yz zy xz zx goes onward (inl less) (inr same) = inl (goes.below less (let e = same.0 in omega arith))
over xy yx yz zy xz zx goes onward (inr same) (inl less) = inl (goes.above (let e = same.0 in omega arith) less)
over xy yx yz zy xz zx goes onward (inr same) (inr same') = inr (goes.same same.0 same'.0, onward same.1 same'.1)

-- quotients a / p, b / q and x / r, multiplied crosswise
quotients_below : (a p b q x r : ℕ) → 1 ≤ q → 1 ≤ r → a * q < b * p → b * r ≤ x * q → a * r < x * p
quotients_below a p b q x r some_q some_r less least =
    lt_of_mul-lt-mul_right q {m = a * r} {n = x * p}
    (
    let first : a * q * r < b * p * r = mul-lt-mul_of_pos_right {m = a * q} {n = b * p} {k = r} less some_r in
    let second : b * r * p ≤ x * q * p = mul-le-mul_right {m = b * r} {n = x * q} p least in
    omega (arith, first, second, mul_right_comm a q r, mul_right_comm b p r, mul_right_comm x q p)
    )

quotients_above : (a p b q x r : ℕ) → 1 ≤ q → 1 ≤ p → a * q ≤ b * p → b * r < x * q → a * r < x * p
quotients_above a p b q x r some_q some_p least less =
    lt_of_mul-lt-mul_right q {m = a * r} {n = x * p}
    (
    let first : a * q * r ≤ b * p * r = mul-le-mul_right {m = a * q} {n = b * p} r least in
    let second : b * r * p < x * q * p = mul-lt-mul_of_pos_right {m = b * r} {n = x * q} {k = p} less some_p in
    omega (arith, first, second, mul_right_comm a q r, mul_right_comm b p r, mul_right_comm x q p)
    )

quotients_same : (a p b q x r : ℕ) → 1 ≤ q → a * q ≡ b * p → b * r ≡ x * q → a * r ≡ x * p
quotients_same a p b q x r some_q left right =
    elim (cases_lt (a * r) (x * p)) [
      | inl less ↦
          absurd (
          let first : a * r * q < x * p * q = mul-lt-mul_of_pos_right {m = a * r} {n = x * p} {k = q} less some_q in
          omega (arith, first, ap (λ n. n * r) left, ap (λ n. n * p) right, mul_right_comm a q r, mul_right_comm b p r, mul_right_comm x q p)
          )
      | inr least ↦
          elim (cases_lt (x * p) (a * r)) [
            | inl less ↦
                absurd (
                let first : x * p * q < a * r * q = mul-lt-mul_of_pos_right {m = x * p} {n = a * r} {k = q} less some_q in
                omega (arith, first, ap (λ n. n * r) left, ap (λ n. n * p) right, mul_right_comm a q r, mul_right_comm b p r, mul_right_comm x q p)
                )
            | inr least' ↦ omega arith
          ]
    ]

weights_over : (tie : Tie) (c d e : Candidate) → 1 ≤ c.demand → 1 ≤ d.demand → 1 ≤ e.demand →
    GoesOver (tie_weight tie c d) (tie_weight tie d c) (tie_weight tie d e) (tie_weight tie e d) (tie_weight tie c e) (tie_weight tie e c)
weights_over Farther c d e some_c some_d some_e = record { below = λ x y. omega arith; above = λ x y. omega arith; same = λ x y. y ∙ x }
weights_over Nearer c d e some_c some_d some_e = record { below = λ x y. omega arith; above = λ x y. omega arith; same = λ x y. x ∙ y }
weights_over Cheaper c d e some_c some_d some_e = record {
  below = quotients_below c.service c.demand d.service d.demand e.service e.demand some_d some_e;
  above = quotients_above c.service c.demand d.service d.demand e.service e.demand some_d some_c;
  same = quotients_same c.service c.demand d.service d.demand e.service e.demand some_d;
}
weights_over Dearer c d e some_c some_d some_e = record {
  below = λ less least. quotients_above e.service e.demand d.service d.demand c.service c.demand some_d some_e least less;
  above = λ least less. quotients_below e.service e.demand d.service d.demand c.service c.demand some_d some_c less least;
  same = λ left right. quotients_same e.service e.demand d.service d.demand c.service c.demand some_d right left;
}

pub no_later_over : (tie : Tie) (c d e : Candidate) → 1 ≤ c.demand → 1 ≤ d.demand → 1 ≤ e.demand → TaskNoLater tie c d → TaskNoLater tie d e → TaskNoLater tie c e
no_later_over tie c d e some_c some_d some_e =
    through c.near d.near e.near
    (over (tie_weight tie c d) (tie_weight tie d c) (tie_weight tie d e) (tie_weight tie e d) (tie_weight tie c e) (tie_weight tie e c) (weights_over tie c d e some_c some_d some_e)
    (through c.task.edge d.task.edge e.task.edge (through _ _ _ (λ x y. tt))))
