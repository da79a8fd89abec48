-- The vertices that are reached can be marked.
use Rattle.std.proofs.Common.{◌≡◌, ℕ, zero, suc, ◌+◌, ◌*◌, ◌<◌, ◌≤◌, Bool, true, false, List, [], ◌∷◌, ◌++◌, length, replicate, get_or, set, ◌⊎◌, inl, inr, refl, arith, sym, subst, ◌∙◌}
use Rattle.std.proofs.lemmas.Bool.{cases_lt, false≢true}
use Rattle.std.proofs.lemmas.List.{length_push, length-replicate, get_or-replicate}
use Rattle.carp_base.specs.declared.edge.Edge.{Edge}
use Rattle.carp_base.specs.Problem.{Problem, IsReached}
use Rattle.carp_base.specs.Search.{arc_tail, arc_head, EndsWithin, IsMarked, IsSearch, MarksReached}
use Rattle.carp_base.proofs.Finding.{search_none, search_more, marked_here, marked_still}
use Rattle.carp_base.proofs.Paths.{reached_more, search_ends}

pub true_or_false : (b : Bool) → (b ≡ true) ⊎ (b ≡ false)
true_or_false true = inl refl
true_or_false false = inr refl

-- an arc that leads from a marked vertex to one that is not
record IsOpen (edges : List Edge) (marks : List Bool) (arc : ℕ) : Type 0 where
  from : IsMarked marks (arc_tail edges arc)
  to : get_or marks (arc_head edges arc) false ≡ false

-- no arc below m is open
abbrev AreClosed : List Edge → List Bool → ℕ → Type 0
AreClosed edges marks m = (arc : ℕ) → arc < m → IsMarked marks (arc_tail edges arc) → IsMarked marks (arc_head edges arc)

closed_more : (edges : List Edge) (marks : List Bool) (m : ℕ) → AreClosed edges marks m →
    (IsMarked marks (arc_tail edges m) → IsMarked marks (arc_head edges m)) → AreClosed edges marks (suc m)
closed_more edges marks m closed here arc below tail =
    elim (cases_lt arc m) [
      | inl earlier ↦ closed arc earlier tail
      | inr most ↦
          let same : arc ≡ m = omega (arith, below, most) in
          let Leads : ℕ → Type 0 = λ n. IsMarked marks (arc_tail edges n) → IsMarked marks (arc_head edges n) in
          subst Leads (sym same) here tail
    ]

open_arc : (edges : List Edge) (marks : List Bool) (m : ℕ) → ((arc : ℕ) × (arc < m) × IsOpen edges marks arc) ⊎ AreClosed edges marks m
open_arc edges marks zero = inr (λ arc below marked. absurd (omega (arith, below)))
open_arc edges marks (suc m) =
    elim (open_arc edges marks m) [
      | inl found ↦ inl (found.0, omega (arith, found.1), found.2)
      | inr closed ↦ elim (true_or_false (get_or marks (arc_head edges m) false)) [
        | inl marked ↦ inr (closed_more edges marks m closed (λ _. marked))
        | inr unmarked ↦ elim (true_or_false (get_or marks (arc_tail edges m) false)) [
          | inl tail ↦ inl (m, omega arith, record { from = tail; to = unmarked })
          | inr no_tail ↦ inr (closed_more edges marks m closed (λ tail. absurd (false≢true (sym no_tail ∙ tail))))
        ]
      ]
    ]

module _ (p : Problem) (ends : EndsWithin p.edges p.vertices) where
  finished : (marks : List Bool) (order : List ℕ) → IsSearch p marks order → IsMarked marks p.depot → AreClosed p.edges marks (2 * length p.edges) → MarksReached p marks
  finished marks order search depot closed =
      search_ends p marks order search depot (λ k listed arc below tail.
      let P : ℕ → Type 0 = IsMarked marks in
      closed arc below (subst P (sym tail) (search.marked k listed)))

  one_more : (marks : List Bool) (order : List ℕ) (arc : ℕ) → IsSearch p marks order → arc < 2 * length p.edges → IsOpen p.edges marks arc →
      IsSearch p (set marks (arc_head p.edges arc) true) (order ++ arc_head p.edges arc ∷ [])
  one_more marks order arc search below is_open =
      let at = search.found (arc_tail p.edges arc) is_open.from in
      let P : ℕ → Type 0 = IsReached p in
      let tail : IsReached p (arc_tail p.edges arc) = subst P at.2 (search.reached at.0 at.1) in
      search_more p marks order (arc_head p.edges arc) search (ends arc below).1 (reached_more p (arc_tail p.edges arc) arc tail below refl) is_open.to

  all_marks : (fuel : ℕ) (marks : List Bool) (order : List ℕ) → IsSearch p marks order → IsMarked marks p.depot → p.vertices + 1 ≤ length order + fuel →
      (ms : List Bool) × MarksReached p ms
  all_marks zero marks order search depot enough =
      elim (open_arc p.edges marks (2 * length p.edges)) [
        | inl found ↦
            absurd (let more = (one_more marks order found.0 search found.1 found.2).counted in let long = length_push order (arc_head p.edges found.0) in omega arith)
        | inr closed ↦ (marks, finished marks order search depot closed)
      ]
  all_marks (suc fuel) marks order search depot enough =
      elim (open_arc p.edges marks (2 * length p.edges)) [
        | inl found ↦
            let head = arc_head p.edges found.0 in
            let long = search.long in
            let small = (ends found.0 found.1).1 in
            all_marks fuel (set marks head true) (order ++ head ∷ []) (one_more marks order found.0 search found.1 found.2)
            (marked_still marks head p.depot (omega arith) depot) (let more = length_push order head in omega arith)
        | inr closed ↦ (marks, finished marks order search depot closed)
      ]

  -- some marks are just the vertices that are reached
  pub marks_of : p.depot ≤ p.vertices → (ms : List Bool) × MarksReached p ms
  marks_of small =
      let none = replicate (p.vertices + 1) false in
      let many = length-replicate (p.vertices + 1) false in
      let unmarked : get_or none p.depot false ≡ false = get_or-replicate (p.vertices + 1) p.depot false false (omega arith) in
      all_marks (p.vertices + 1) (set none p.depot true) ([] ++ p.depot ∷ [])
      (search_more p none [] p.depot (search_none p) small (record { path = []; leads = refl }) unmarked)
      (marked_here none p.depot (omega arith)) (omega arith)
