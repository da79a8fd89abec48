-- Components that pass the test are the needy ones, and marks, one more.
use Rattle.std.proofs.Common.{◌≡◌, ℕ, ◌+◌, ◌*◌, ◌<◌, Bool, false, List, [], ◌∷◌, ◌++◌, length, get_or, refl, sym, subst, ◌∙◌, arith, inl, inr}
use Rattle.std.proofs.lemmas.Bool.{cases_lt, ltb-true, lt-ltb}
use Rattle.std.proofs.lemmas.List.{get_or_append_left, get_or_push}
use Rattle.carp_base.specs.Problem.{Problem, IsVertex}
use Rattle.cut_pool.specs.Shores.{is_in, need}
use Rattle.edge_components.specs.Parts.{parts_over}
use Rattle.edge_components.specs.Components.{AreAll, PassesTest}
use Rattle.capacity_cuts.specs.Components.{IsNeedyComponent, is_needy_border}

pub needy_ones : (p : Problem) (unit : ℕ) (x : List ℕ) (shores : List (List ℕ)) → AreAll (PassesTest p x unit (is_needy_border p unit)) shores →
    AreAll (IsNeedyComponent p unit x) shores
needy_ones p unit x shores all = record {
  sound = λ k d below.
      let is = all.sound k d below in
      record { component = is.component; belongs = is.belongs; needs = ltb-true _ _ is.passes };
  complete = λ shore is.
      all.complete shore (record { component = is.component; belongs = is.belongs; passes = lt-ltb (parts_over p x (is_in shore)) (need p (is_in shore) * unit) is.needs });
  ordered = all.ordered;
}

pub marks_more : (p : Problem) (test : ℕ → Bool) (marks : List Bool) (r : ℕ) (b : Bool) → length marks ≡ r →
    ((k : ℕ) → IsVertex p k → k < r → get_or marks k false ≡ test k) → b ≡ test r → (k : ℕ) → IsVertex p k → k < r + 1 → get_or (marks ++ b ∷ []) k false ≡ test k
marks_more p test marks r b long marked is k vertex below = elim (cases_lt k r) [
  | inl before ↦ get_or_append_left marks (b ∷ []) false k (omega (arith, before, long)) ∙ marked k vertex before
  | inr last ↦
      let same : k ≡ r = omega (arith, last, below) in
      let at : length marks ≡ k = omega (arith, long, same) in
      get_or_push marks b false k at ∙ is ∙ subst (λ j. test r ≡ test j) (sym same) refl
]
