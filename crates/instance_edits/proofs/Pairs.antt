-- Pairs that an answer gives.
use Rattle.std.proofs.Common.{◌≡◌, Option, Some, None, ap}

abbrev first_or : {A B : Type 0} → A → Option (A × B) → A
first_or a None = a
first_or a (Some p) = p.0

abbrev second_or : {A B : Type 0} → B → Option (A × B) → B
second_or b None = b
second_or b (Some p) = p.1

pub firsts : {A B : Type 0} (x y : A × B) → ◌≡◌ {A = Option (A × B)} (Some x) (Some y) → x.0 ≡ y.0
firsts x y e = ap (first_or x.0) e

pub seconds : {A B : Type 0} (x y : A × B) → ◌≡◌ {A = Option (A × B)} (Some x) (Some y) → x.1 ≡ y.1
seconds x y e = ap (second_or x.1) e
