-- The deadheads of a round make every vertex even, so it costs at least its services and the least join.
use Rattle.std.proofs.Common.{◌≡◌, ℕ, zero, suc, ◌+◌, ◌*◌, ◌%◌, ◌≤◌, ◌==◌, Bool, true, false, not, ◌&&◌, cond, List, [], ◌∷◌, ◌++◌, length, refl, sym, ap, ◌∙◌, arith, inl, inr}
use Rattle.std.specs.Prelude.{if◌then◌else◌, IsTrue}
use Rattle.std.specs.List.{count_by, sum_by}
use Rattle.std.proofs.lemmas.Bool.{cases_lt}
use Rattle.std.proofs.lemmas.List.{get_or_append_left, get_or_push, length_push}
use Rattle.carp_base.specs.Problem.{Problem, IsValid, IsEdgeNumber, IsRequired, edge_at, required_cost}
use Rattle.plan_model.specs.declared.step.Step.{Step}
use Rattle.plan_model.specs.Plans.{crosses, walk_cost}
use Rattle.plan_model.specs.Sums.{sum_to}
use Rattle.cut_pool.specs.Shores.{required_crossings}
use Rattle.edge_components.specs.Parts.{parts_of, parts_over}
use Rattle.matching_duals.specs.Joins.{IsLeastJoin, MakesEven}
use Rattle.postman.specs.Rounds.{IsRound}
use Rattle.postman.specs.Trails.{one_if}
use Rattle.postman.proofs.Sums.{sum_to-same, sum_to-edge_at}
use Rattle.postman.proofs.Walks.{all_map, by_edges, on_edges, over, split, walk_parity}

-- how often a walk crosses an edge without service
abbrev idle : List Step → ℕ → ℕ
idle walk e = count_by (λ s. not s.served && (s.edge == e)) walk

-- for each of the first n edges
abbrev counts_of : List Step → ℕ → List ℕ
counts_of walk zero = []
counts_of walk (suc n) = counts_of walk n ++ (idle walk (suc n) ∷ [])

length-counts : (walk : List Step) (n : ℕ) → length (counts_of walk n) ≡ n
length-counts walk zero = refl
length-counts walk (suc n) = omega (arith, length-counts walk n, length_push (counts_of walk n) (idle walk (suc n)))

counts_at : (walk : List Step) (n e : ℕ) → 1 ≤ e → e ≤ n → parts_of (counts_of walk n) e ≡ idle walk e
counts_at walk n zero one below = absurd (omega (arith, one))
counts_at walk zero (suc k) one below = absurd (omega (arith, below))
counts_at walk (suc n) (suc k) one below = elim (cases_lt k n) [
  | inl before ↦
      get_or_append_left (counts_of walk n) (idle walk (suc n) ∷ []) 0 k (omega (arith, before, length-counts walk n))
      ∙ counts_at walk n (suc k) one (omega (arith, before))
  | inr last ↦
      let same : n ≡ k = omega (arith, last, below) in
      get_or_push (counts_of walk n) (idle walk (suc n)) 0 k (length-counts walk n ∙ same) ∙ ap (λ i. idle walk (suc i)) same
]

times_one_if : (b : Bool) (n : ℕ) → n * cond b 1 0 ≡ (if b then n else 0)
times_one_if true n = omega arith
times_one_if false n = omega arith

module _ (p : Problem) (walk : List Step) (valid : IsValid p) (round : IsRound p walk) where
  abbrev counts : List ℕ
  counts = counts_of walk (length p.edges)

  -- what the served steps sum to
  served_sum : (g : ℕ → ℕ) → sum_by (λ s. if s.served then g s.edge else 0) walk ≡ sum_to p.required g
  served_sum g =
      by_edges (λ b. b) p.required g walk
      (all_map (λ s. IsTrue s.served → IsRequired p s.edge) (λ s. IsTrue s.served → (1 ≤ s.edge) × (s.edge ≤ p.required)) walk
      (λ s serves is. let r = serves is in (r.from_one, r.in_range)) round.serves_required)
      ∙ sum_to-same p.required (λ e. count_by (λ s. s.served && (s.edge == e)) walk * g e) g
      (λ e one below. rw (round.once e (record { from_one = one; in_range = below })) (omega arith))

  idle_sum : (g : ℕ → ℕ) → sum_by (λ s. if not s.served then g s.edge else 0) walk ≡ sum_to (length p.edges) (λ e. parts_of counts e * g e)
  idle_sum g =
      by_edges not (length p.edges) g walk
      (all_map (λ s. IsEdgeNumber p s.edge) (λ s. IsTrue (not s.served) → (1 ≤ s.edge) × (s.edge ≤ length p.edges)) walk
      (λ s number _. (number.from_one, number.in_range)) (on_edges p p.depot p.depot walk round.leads))
      ∙ sum_to-same (length p.edges) (λ e. idle walk e * g e) (λ e. parts_of counts e * g e)
      (λ e one below. ap (λ n. n * g e) (sym (counts_at walk (length p.edges) e one below)))

  crossings : (inside : ℕ → Bool) → (required_crossings p inside + parts_over p counts inside) % 2 ≡ 0
  crossings inside =
      omega (
        arith,
        walk_parity p inside p.depot walk p.depot round.leads,
        split (over p inside) (over p inside) walk,
        served_sum (over p inside),
        idle_sum (over p inside),
        sum_to-edge_at p (λ x. one_if (crosses inside x)) p.required valid.required_in,
        sum_to-same (length p.edges) (λ e. parts_of counts e * over p inside e) (λ e. if crosses inside (edge_at p e) then parts_of counts e else 0)
            (λ e _ _. times_one_if (crosses inside (edge_at p e)) (parts_of counts e)),
      )

  makes_even : MakesEven p counts
  makes_even = record { one_each = length-counts walk (length p.edges); even = λ v vertex. crossings (λ w. w == v) }

  pub round_pays : (value : ℕ) → IsLeastJoin p value → required_cost p + value ≤ walk_cost p walk
  round_pays value join =
      omega (
        arith,
        split (λ e. (edge_at p e).service) (λ e. (edge_at p e).cost) walk,
        served_sum (λ e. (edge_at p e).service),
        idle_sum (λ e. (edge_at p e).cost),
        sum_to-edge_at p (λ x. x.service) p.required valid.required_in,
        join.least counts makes_even,
      )
