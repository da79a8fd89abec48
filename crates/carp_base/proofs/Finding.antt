-- One more vertex that is found.
use Rattle.std.proofs.Common.{◌≡◌, ℕ, ◌+◌, ◌<◌, ◌≤◌, Bool, true, false, not, cond, List, [], ◌∷◌, ◌++◌, length, count_by, replicate, zero, suc, get_or, set, inl, inr, refl, arith, sym, subst, ◌∙◌, ap, get_or-set_same, get_or-set_other}
use Rattle.std.proofs.lemmas.Bool.{cases_lt, cases_eq, false≢true}
use Rattle.std.proofs.lemmas.List.{length-set, length_push, get_or_push, get_or_append_left, get_or_past, length-replicate, get_or-replicate}
use Rattle.std.proofs.lemmas.List.Sums.{sum_by-set, sum_by-cons}
use Rattle.carp_base.specs.declared.edge.Edge.{Edge}
use Rattle.carp_base.specs.Problem.{Problem, IsReached}
use Rattle.carp_base.specs.Search.{arc_head, IsMarked, IsSearch, Extends, LeadsToMarks}

-- a marked vertex is within the marks
pub marked_within : (marks : List Bool) (v : ℕ) → IsMarked marks v → v < length marks
marked_within marks v is =
    elim (cases_lt v (length marks)) [
      | inl below ↦ below
      | inr past ↦ absurd (false≢true (sym (get_or_past marks v false past) ∙ is))
    ]

pub marked_here : (marks : List Bool) (v : ℕ) → v < length marks → IsMarked (set marks v true) v
marked_here marks v below = get_or-set_same marks v true false below

pub marked_still : (marks : List Bool) (v w : ℕ) → v < length marks → IsMarked marks w → IsMarked (set marks v true) w
marked_still marks v w below is =
    elim (cases_eq w v) [
      | inl same ↦ rw same (marked_here marks v below)
      | inr other ↦ get_or-set_other marks v w true false other ∙ is
    ]

module _ (p : Problem) (marks : List Bool) (order : List ℕ) (v : ℕ) (search : IsSearch p marks order) (within : v ≤ p.vertices) where
  below : v < length marks
  below = let long = search.long in omega arith

  stays : (k : ℕ) → k < length order → get_or (order ++ v ∷ []) k 0 ≡ get_or order k 0
  stays k earlier = get_or_append_left order (v ∷ []) 0 k earlier

  more_found : (w : ℕ) → IsMarked (set marks v true) w → (k : ℕ) × (k < length (order ++ v ∷ [])) × (get_or (order ++ v ∷ []) k 0 ≡ w)
  more_found w is =
      let long = length_push order v in
      elim (cases_eq w v) [
        | inl same ↦ (length order, omega arith, get_or_push order v 0 (length order) refl ∙ sym same)
        | inr other ↦
            let there = search.found w (sym (get_or-set_other marks v w true false other) ∙ is) in
            (there.0, omega (arith, there.1, long), stays there.0 there.1 ∙ there.2)
      ]

  -- what holds of each vertex that is listed, and of one more
  more_listed : (P : ℕ → Type 0) → ((k : ℕ) → k < length order → P (get_or order k 0)) → P v →
      (k : ℕ) → k < length (order ++ v ∷ []) → P (get_or (order ++ v ∷ []) k 0)
  more_listed P each here k listed =
      elim (cases_lt k (length order)) [
        | inl earlier ↦ subst P (sym (stays k earlier)) (each k earlier)
        | inr most ↦
            let last : length order ≡ k = let long = length_push order v in omega (arith, listed, most) in subst P (sym (get_or_push order v 0 k last)) here
      ]

  more_counted : get_or marks v false ≡ false → count_by not (set marks v true) + length (order ++ v ∷ []) ≡ p.vertices + 1
  more_counted unmarked =
      let counted = search.counted in
      let long = length_push order v in
      let change = sum_by-set (λ b. cond (not b) 1 0) marks v true false below in
      let count : Bool → ℕ = λ b. cond (not b) 1 0 in
      let one : count (get_or marks v false) ≡ count false = ap count unmarked in
      omega (arith, change, one)

  pub search_more : IsReached p v → get_or marks v false ≡ false → IsSearch p (set marks v true) (order ++ v ∷ [])
  search_more reached unmarked = record {
    long = length-set marks v true ∙ search.long;
    counted = more_counted unmarked;
    found = more_found;
    marked = more_listed (IsMarked (set marks v true)) (λ k earlier. marked_still marks v (get_or order k 0) below (search.marked k earlier)) (marked_here marks v below);
    reached = more_listed (IsReached p) search.reached reached;
  }

count_by-replicate : (n : ℕ) → count_by not (replicate n false) ≡ n
count_by-replicate zero = refl
count_by-replicate (suc n) = sum_by-cons (λ b. cond (not b) 1 0) false (replicate n false) ∙ (let rest = count_by-replicate n in omega arith)

-- nothing is found at first
pub search_none : (p : Problem) → IsSearch p (replicate (p.vertices + 1) false) []
search_none p = record {
  long = length-replicate (p.vertices + 1) false;
  counted = let all = count_by-replicate (p.vertices + 1) in omega arith;
  found = λ v is.
      absurd (false≢true (sym (get_or-replicate (p.vertices + 1) v false false
      (let below = marked_within (replicate (p.vertices + 1) false) v is in let long = length-replicate (p.vertices + 1) false in omega arith)) ∙ is));
  marked = λ k below. absurd (omega (arith, below));
  reached = λ k below. absurd (omega (arith, below));
}

-- what leads to marks still does so
pub leads_still : (edges : List Edge) (v : ℕ) (marks more : List Bool) → ((w : ℕ) → IsMarked marks w → IsMarked more w) → LeadsToMarks edges v marks → LeadsToMarks edges v more
leads_still edges v marks more stays leads = λ arc below tail. stays (arc_head edges arc) (leads arc below tail)

pub extends_all : (a : List Bool) (b : List ℕ) (c : List Bool) (d : List ℕ) (e : List Bool) (f : List ℕ) → Extends a b c d → Extends c d e f → Extends a b e f
extends_all a b c d e f first second = record {
  stays_marked = λ v is. second.stays_marked v (first.stays_marked v is);
  grows = omega (arith, first.grows, second.grows);
  stays = λ k below. second.stays k (omega (arith, below, first.grows)) ∙ first.stays k below;
}

-- what is listed is a vertex
pub listed_within : (p : Problem) (marks : List Bool) (order : List ℕ) (k : ℕ) → IsSearch p marks order → k < length order → get_or order k 0 ≤ p.vertices
listed_within p marks order k search below =
    let long = search.long in omega (arith, marked_within marks (get_or order k 0) (search.marked k below))
