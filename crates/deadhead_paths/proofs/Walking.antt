-- A path read from a table, one step further.
use Rattle.std.proofs.Common.{◌≡◌, ◌≢◌, ℕ, ◌+◌, ◌-◌, ◌*◌, ◌<◌, ◌^◌, eqb, false, List, [], ◌∷◌, ◌++◌, length, get_or, sym, ap, arith, subst}
use Rattle.std.proofs.lemmas.List.{length-append}
use Rattle.carp_base.specs.declared.edge.Edge.{Edge}
use Rattle.carp_base.specs.Problem.{IsVertex, IsEdgeNumber, edge_at}
use Rattle.road_network.specs.Incidence.{far_end}
use Rattle.plan_model.specs.declared.step.Step.{Step}
use Rattle.deadhead_paths.specs.Prices.{Priced, AddsPath, NoneLead}
use Rattle.deadhead_paths.specs.Table.{IsTable, row_of}
use Rattle.deadhead_paths.proofs.Following.{Followed, follow_none, next_number, follow_short, follow_as, follow_done}
use Rattle.deadhead_paths.proofs.Reading.{next_read}

-- the path so far, by the labels of the table
abbrev pub Walked : Priced → List ℕ → ℕ → ℕ → ℕ → List Step → List Step → Type 0
Walked x labels from to at before now = Followed x.problem x.prices (row_of (x.problem.vertices + 1) labels to) from at before now

-- the label at a vertex
abbrev pub label_to : Priced → List ℕ → ℕ → ℕ → ℕ
label_to x labels to at = get_or (row_of (x.problem.vertices + 1) labels to) at 0

module _ (x : Priced) (labels nexts : List ℕ) (table : IsTable x labels nexts) (from to : ℕ) (to_in : IsVertex x.problem to) where
  pub walk_none : (before : List Step) → IsVertex x.problem from → (NoneLead x.problem from to → ⊥) → Walked x labels from to from before before
  walk_none before from_in linked =
      let width = x.problem.vertices + 1 in
      follow_none x.problem table.valid x.prices table.prices to (row_of width labels to) (row_of width nexts to) (table.rows to to_in) from before from_in linked

  pub walk_done : (at : ℕ) (before now : List Step) → IsVertex x.problem from → Walked x labels from to at before now → at ≡ to → AddsPath x from to before now
  walk_done at before now from_in so_far arrived =
      let width = x.problem.vertices + 1 in
      let done = follow_done x.problem table.valid x.prices table.prices to (row_of width labels to) (row_of width nexts to) (table.rows to to_in) from at before now from_in so_far arrived in
      record { path = done.0; least = done.1; added = done.2 }

  module _ (at : ℕ) (before now : List Step) (so_far : Walked x labels from to at before now) (onward : at ≢ to)
      (place e : ℕ) (place_is : place ≡ (to - 1) * (x.problem.vertices + 1) + at) (read : e ≡ get_or nexts place e) where
    e_is : e ≡ get_or (row_of (x.problem.vertices + 1) nexts to) at 0
    e_is = next_read x labels nexts table to at place to_in so_far.at_in place_is e read

    pub step_number : IsEdgeNumber x.problem e
    step_number =
        let width = x.problem.vertices + 1 in
        subst (IsEdgeNumber x.problem) (sym e_is)
        (next_number x.problem table.valid x.prices table.prices to (row_of width labels to) (row_of width nexts to) (table.rows to to_in) from at before now so_far onward)

    pub step_room : length before + 1000 < 2 ^ 32 → length now < 2 ^ 32 - 1
    step_room room =
        let width = x.problem.vertices + 1 in
        omega (
          arith,
          follow_short x.problem table.valid x.prices table.prices to (row_of width labels to) (row_of width nexts to) (table.rows to to_in) from at before now so_far onward,
          ap length so_far.now_is,
          length-append before so_far.done,
          room,
          table.valid.few_vertices,
        )

    pub step_more : (y : Edge) (at' : ℕ) (now' : List Step) → y ≡ edge_at x.problem e → at' ≡ far_end at y →
        now' ≡ now ++ record { edge = e; forward = eqb y.u at; served = false } ∷ [] → Walked x labels from to at' before now' × (label_to x labels to at' < label_to x labels to at)
    step_more y at' now' y_is at_is now_is =
        let width = x.problem.vertices + 1 in
        follow_as x.problem table.valid x.prices table.prices to (row_of width labels to) (row_of width nexts to) (table.rows to to_in) from at before now so_far onward
        e y at' now' e_is y_is at_is now_is
