-- The vertices of a violated set are a shore.
use Rattle.std.proofs.Common.{◌≡◌, ◌≢◌, ℕ, ◌*◌, Bool, List, [], ◌∷◌, refl, sym, ap, ◌∙◌, arith}
use Rattle.std.specs.List.{sum_by}
use Rattle.std.proofs.lemmas.List.Sums.{sum_by-cons}
use Rattle.carp_base.specs.declared.edge.Edge.{Edge}
use Rattle.carp_base.specs.Problem.{Problem, IsValid, IsVertex, required_edges}
use Rattle.cut_pool.specs.Shores.{is_in, demand_inside, IsShore}
use Rattle.edge_components.specs.Listing.{vertices_where}
use Rattle.edge_components.specs.Laws.{EqualSetsHaveOneBorder, VerticesAreListed}
use Rattle.capacity_cuts.specs.Violation.{gain, IsViolated, IsMostViolated, IsGreatestViolation}
use Rattle.capacity_cuts.proofs.Least.{gain-same, loss-same}

none_touched : (edges : List Edge) → sum_by (demand_inside (is_in [])) edges ≡ 0
none_touched [] = refl
none_touched (x ∷ edges) = omega (arith, none_touched edges, sum_by-cons (demand_inside (is_in [])) x edges)

module _ (listed : VerticesAreListed) (one_border : EqualSetsHaveOneBorder) (p : Problem) (unit : ℕ) (x : List ℕ) (inside : ℕ → Bool) (valid : IsValid p)
    (violated : IsViolated p unit x inside) where
  same : (v : ℕ) → IsVertex p v → is_in (vertices_where inside p.vertices) v ≡ inside v
  same v vertex = (listed p inside).same v vertex

  some : vertices_where inside p.vertices ≢ []
  some none =
      let gains : gain p unit inside ≡ gain p unit (is_in []) =
      sym (gain-same p unit x (is_in (vertices_where inside p.vertices)) inside (one_border p x (is_in (vertices_where inside p.vertices)) inside valid same))
      ∙ ap (λ l. gain p unit (is_in l)) none in
      let nothing : gain p unit (is_in []) ≡ 2 * (unit * 0) = ap (λ n. 2 * (unit * n)) (none_touched (required_edges p)) in
      omega (arith, gains, nothing, violated)

  pub shore : IsShore (vertices_where inside p.vertices)
  shore = record { some = some; rising = (listed p inside).rising }

  pub greatest : IsMostViolated p unit x inside → IsGreatestViolation p unit x (vertices_where inside p.vertices)
  greatest most =
      let border = one_border p x (is_in (vertices_where inside p.vertices)) inside valid same in
      let gains = gain-same p unit x (is_in (vertices_where inside p.vertices)) inside border in
      let losses = loss-same p unit x (is_in (vertices_where inside p.vertices)) inside border in
      let out = same p.depot valid.depot_in ∙ most.no_depot in
      record {
        is_shore = shore;
        belongs = record { vertices = (listed p inside).within; no_depot = out };
        violated = omega (arith, gains, losses, violated);
        most = record { no_depot = out; most = λ other away. omega (arith, gains, losses, most.most other away) };
      }
