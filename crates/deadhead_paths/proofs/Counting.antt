-- A list of things with numbers, each number at most once.
use Rattle.std.proofs.Common.{ℕ, zero, suc, ◌≤◌, Bool, cond, not, ◌==◌, List, [], ◌∷◌, length, get_or, refl, sym, ap, ◌∙◌, arith, inl, inr}
use Rattle.std.specs.List.{filter, count_by, All}
use Rattle.std.proofs.lemmas.Bool.{cases_eq, eq-eqb, false≢true}
use Rattle.std.proofs.lemmas.List.Elements.{filter_passes, All-filter, All-head}
use Rattle.std.proofs.lemmas.List.Filters.{length-filter_both, sum_by-filter_both}
use Rattle.std.proofs.lemmas.List.Sums.{length-filter}

-- things of which the numbers are at most m, each at most once, are at most m
pub at_most_once : {X : Type 0} (f : X → ℕ) (m : ℕ) (xs : List X) → All (λ x. (1 ≤ f x) × (f x ≤ m)) xs → ((e : ℕ) → 1 ≤ e → e ≤ m → count_by (λ x. f x == e) xs ≤ 1) → length xs ≤ m
at_most_once f zero [] within once = omega arith
at_most_once f zero (x ∷ xs) within once = let own = All-head (λ y. (1 ≤ f y) × (f y ≤ 0)) x xs within in absurd (omega (arith, own.0, own.1))
at_most_once {X = X} f (suc m) xs within once =
    let test : X → Bool = λ x. f x == suc m in
    let rest = filter (λ x. not (test x)) xs in
    let few = at_most_once f m rest rest_within (λ e from_one in_range.
    omega (arith, once e from_one (omega (arith, in_range)), sum_by-filter_both test (λ x. not (test x)) (λ x. refl) (λ x. cond (f x == e) 1 0) xs)) in
    omega (arith, few, once (suc m) (omega arith) (omega arith), length-filter test xs, length-filter_both test (λ x. not (test x)) (λ x. refl) xs)
  where
    rest_within : All (λ x. (1 ≤ f x) × (f x ≤ m)) (filter (λ x. not (f x == suc m)) xs)
    rest_within k d in_range =
        let own = All-filter (λ x. not (f x == suc m)) (λ x. (1 ≤ f x) × (f x ≤ suc m)) xs within k d in_range in
        let other = filter_passes (λ x. not (f x == suc m)) xs k d in_range in (
          own.0,
          elim (cases_eq (f (get_or (filter (λ x. not (f x == suc m)) xs) k d)) (suc m)) [
            | inl same ↦ absurd (false≢true (sym (ap not (eq-eqb _ (suc m) same)) ∙ other))
            | inr apart ↦ omega (arith, own.1, apart)
          ],
        )
