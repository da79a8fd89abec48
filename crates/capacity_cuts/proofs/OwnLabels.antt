-- The demand met at a vertex is the demand that touches it.
use Rattle.std.proofs.Common.{◌≡◌, ℕ, ◌≤◌, ◌==◌, ◌||◌, not, Bool, true, false, List, [], ◌∷◌, get_or, refl, sym, ap, ◌∙◌, arith}
use Rattle.std.specs.Prelude.{if◌then◌else◌}
use Rattle.std.specs.List.{sum_by, AllByRecursion}
use Rattle.std.proofs.lemmas.Bool.{eqb-true}
use Rattle.std.proofs.lemmas.List.Sums.{sum_by-cons}
use Rattle.carp_base.specs.declared.edge.Edge.{Edge}
use Rattle.carp_base.specs.Problem.{Problem, IsValid, required_edges}
use Rattle.plan_model.specs.Plans.{crosses}
use Rattle.cut_pool.specs.Shores.{demand_inside, touched}
use Rattle.edge_components.specs.Labels.{has_label}
use Rattle.capacity_cuts.specs.Network.{demand_at}
use Rattle.capacity_cuts.proofs.Meeting.{HasEnds, all_ends, all_take}

one_end : (b c : Bool) (d : ℕ) → (b ≡ true → c ≡ true → ⊥) → (if b || c then d else 0) ≡ (if (if b then not c else c) then d else 0)
one_end true true d apart = absurd (apart refl refl)
one_end true false d apart = refl
one_end false true d apart = refl
one_end false false d apart = refl

module _ (p : Problem) (labels : List ℕ) (own : (v : ℕ) → v ≤ p.vertices → get_or labels v 0 ≡ v) where
  met_by : (v : ℕ) (x : Edge) → HasEnds p.vertices x → demand_inside (has_label labels v) x ≡ (if crosses (λ w. w == v) x then x.demand else 0)
  met_by v x ends =
      ap (λ n. if (n == v) || (get_or labels x.v 0 == v) then x.demand else 0) (own x.u ends.u_in)
      ∙ ap (λ n. if (x.u == v) || (n == v) then x.demand else 0) (own x.v ends.v_in)
      ∙ one_end (x.u == v) (x.v == v) x.demand (λ at_u at_v. ends.no_loop (eqb-true x.u v at_u ∙ sym (eqb-true x.v v at_v)))

  met_in : (v : ℕ) (edges : List Edge) → AllByRecursion (HasEnds p.vertices) edges →
      sum_by (demand_inside (has_label labels v)) edges ≡ sum_by (λ y. if crosses (λ w. w == v) y then y.demand else 0) edges
  met_in v [] ends = refl
  met_in v (x ∷ edges) ends =
      omega (
        arith,
        sum_by-cons (demand_inside (has_label labels v)) x edges,
        sum_by-cons (λ y. if crosses (λ w. w == v) y then y.demand else 0) x edges,
        met_by v x ends.0,
        met_in v edges ends.1,
      )

  pub met_is : (v : ℕ) → IsValid p → touched p (has_label labels v) ≡ demand_at p v
  met_is v valid = met_in v (required_edges p) (all_take (HasEnds p.vertices) p.required p.edges (all_ends p valid))
