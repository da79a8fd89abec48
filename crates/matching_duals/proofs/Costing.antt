-- A table of the distances between the odd vertices.
use Rattle.std.proofs.Common.{◌≡◌, ℕ, ◌+◌, ◌*◌, ◌<◌, ◌≤◌, List, length, get_or, ap, ◌∙◌, subst, arith, inl, inr}
use Rattle.std.proofs.lemmas.Bool.{cases_lt, cases_order}
use Rattle.std.proofs.lemmas.List.{get_or_default}
use Rattle.carp_base.specs.Problem.{Problem}
use Rattle.blossom_match.specs.declared.costs.Costs.{Costs}
use Rattle.blossom_match.specs.Table.{cost, IsAsked, IsTable, IsWritten}
use Rattle.matching_duals.specs.OddSets.{AreDistances}
use Rattle.matching_duals.specs.Paths.{AreReaches, far, reach}
use Rattle.matching_duals.specs.Sets.{AreCosts, HasCells, HasRows}
use Rattle.matching_duals.proofs.Places.{OddPlaces}
use Rattle.matching_duals.proofs.Rows.{in_table}

module _ (p : Problem) (odd table : List ℕ) where
  abbrev between : ℕ → ℕ → ℕ
  between u v = reach p table (get_or odd u 0) (get_or odd v 0)

  pub cells_more : (a b value : ℕ) (before now : Costs) → HasCells p odd table a b before → b < a → a < length odd → IsTable now → IsWritten before now a b value →
      value ≡ between a b → HasCells p odd table a (b + 1) now
  cells_more a b value before now has less below is written value_is = record {
    rows = record {
      size = written.size ∙ has.rows.size;
      is_table = is;
      own = λ u u_in.
          let u_there : u < before.size = omega (arith, u_in, has.rows.size) in
          written.others u u u_there u_there (λ at_a at_b. omega (arith, at_a, at_b, less)) (λ at_b at_a. omega (arith, at_a, at_b, less))
          ∙ has.rows.own u u_in;
      set = λ u v u_less v_less.
          written.others u v (omega (arith, u_less, below, has.rows.size)) (omega (arith, u_less, v_less, below, has.rows.size))
          (λ at_a at_b. omega (arith, at_a, u_less)) (λ at_b at_a. omega (arith, at_a, u_less, v_less))
          ∙ has.rows.set u v u_less v_less;
    };
    cells = λ v v_less. elim (cases_lt v b) [
      | inl old ↦
          written.others a v (omega (arith, below, has.rows.size)) (omega (arith, old, less, below, has.rows.size))
          (λ at_a at_b. omega (arith, at_b, old)) (λ at_b at_a. omega (arith, at_b, less))
          ∙ has.cells v old
      | inr last ↦
          let same : b ≡ v = omega (arith, last, v_less) in
          subst (λ w. cost now a w ≡ between a w) same (written.there ∙ value_is)
    ];
  }

  module _ (distances : AreDistances p (reach p table)) (places : OddPlaces p odd) where
    turned : (u v : ℕ) → u < length odd → v < length odd → between u v ≤ between v u
    turned u v u_in v_in =
        omega (
          arith,
          distances.meet (get_or odd u 0) (get_or odd v 0) (get_or odd u 0) (places.odd_at u u_in) (places.odd_at v v_in) (places.vertex u u_in),
          distances.same (get_or odd u 0) (places.odd_at u u_in),
        )

    pub are_costs : (costs : Costs) → HasRows p odd table (length odd) costs → AreCosts p odd table costs
    are_costs costs rows = record {
      size = rows.size;
      is_table = rows.is_table;
      between = λ u v u_in v_in. elim (cases_order u v) [
        | inl same ↦
            subst (λ w. cost costs u w ≡ between u w) same
            (omega (arith, rows.own u u_in, distances.same (get_or odd u 0) (places.odd_at u u_in)))
        | inr other ↦ elim other [
          | inl less ↦
              omega (
                arith,
                rows.is_table.same u v (omega (arith, u_in, rows.size)) (omega (arith, v_in, rows.size)),
                rows.set v u v_in less,
                turned u v u_in v_in,
                turned v u v_in u_in,
              )
          | inr more ↦ rows.set u v u_in more
        ]
      ];
    }

    pub asked : (costs : Costs) → AreCosts p odd table costs → IsAsked costs
    asked costs are = record {
      table = are.is_table;
      metric = λ u v w u_in v_in w_in.
          let u_at : u < length odd = omega (arith, u_in, are.size) in
          let v_at : v < length odd = omega (arith, v_in, are.size) in
          let w_at : w < length odd = omega (arith, w_in, are.size) in
          omega (
            arith,
            are.between u w u_at w_at,
            are.between u v u_at v_at,
            are.between v w v_at w_at,
            turned w v w_at v_at,
            distances.meet (get_or odd u 0) (get_or odd w 0) (get_or odd v 0) (places.odd_at u u_at) (places.odd_at w w_at) (places.vertex v v_at),
          );
      even = omega (arith, are.size, places.even);
    }

-- a cell of the table that is read by the vertices of two places
module _ (p : Problem) (odd table : List ℕ) (reaches : AreReaches p table) (places : OddPlaces p odd) (a b x v w : ℕ) (a_in : a < length odd) (b_in : b < length odd)
    (x_is : x ≡ get_or odd b x) (v_is : v ≡ get_or odd a v) (w_is : w ≡ p.vertices) where
  x_at : x ≡ get_or odd b 0
  x_at = x_is ∙ get_or_default odd b x 0 b_in

  v_at : v ≡ get_or odd a 0
  v_at = v_is ∙ get_or_default odd a v 0 a_in

  pub cell_in : x * (w + 1) + v < length table
  cell_in =
      let room = in_table p.vertices (get_or odd b 0) (get_or odd a 0) (places.vertex b b_in).in_range (places.vertex a a_in).in_range in
      rw (x_at, v_at, w_is) (omega (arith, room, reaches.long))

  pub cell_is : (n : ℕ) → n ≡ get_or table (x * (w + 1) + v) n → n ≡ reach p table (get_or odd a 0) (get_or odd b 0)
  cell_is n is =
      is ∙ get_or_default table (x * (w + 1) + v) n 0 cell_in
      ∙ ap (λ y. get_or table (y * (w + 1) + v) 0) x_at ∙ ap (λ y. get_or table (get_or odd b 0 * (w + 1) + y) 0) v_at
      ∙ ap (λ y. get_or table (get_or odd b 0 * (y + 1) + get_or odd a 0) 0) w_is

  pub cell_small : (n : ℕ) → n ≡ get_or table (x * (w + 1) + v) n → n ≤ far
  cell_small n is = omega (arith, cell_is n is, reaches.small (get_or odd b 0 * (p.vertices + 1) + get_or odd a 0))
