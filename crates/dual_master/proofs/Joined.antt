-- Shores that show the least join: they can be placed, they pack, and their value is the Join floor.
use Rattle.std.proofs.Common.{◌≡◌, ℕ, suc, ◌*◌, ◌%◌, ◌<◌, ◌≤◌, Bool, true, false, cond, List, [], ◌∷◌, length, get_or, ap, subst, arith, inl, inr, nat_abs}
use Rattle.std.specs.Prelude.{if◌then◌else◌}
use Rattle.std.specs.List.{All, sum_by, count_by}
use Rattle.std.proofs.Math.Nat.{mul-le-mul_left}
use Rattle.std.proofs.lemmas.Bool.{cases_Bool, false≢true}
use Rattle.std.proofs.lemmas.Int.{ints}
use Rattle.std.proofs.lemmas.List.{get_or-take, length-take-le}
use Rattle.std.proofs.lemmas.List.Elements.{All-head, All-tail}
use Rattle.std.proofs.lemmas.List.Sums.{sum_by-cons, get_or-le-sum_by}
use Rattle.carp_base.specs.declared.edge.Edge.{Edge}
use Rattle.carp_base.specs.Problem.{Problem, IsValid, IsEdgeNumber, edge_at, no_edge, required_edges}
use Rattle.plan_model.specs.Plans.{crosses}
use Rattle.cut_pool.specs.declared.shore.Weighted.{Weighted}
use Rattle.cut_pool.specs.Shores.{is_in, need, required_crossings}
use Rattle.matching_duals.specs.Joins.{IsJoinBound, IsOddShore, all_halves, halves}
use Rattle.dual_master.specs.Floors.{FitsAlways, ReachesJoin, ShowsJoinShores, shores_of}
use Rattle.dual_master.specs.Pieces.{ArePlaceable, prices_of}
use Rattle.dual_master.proofs.Packed.{shores_fit, value_is}

-- where some edges pass a test, one of them has a place
some_passes : (test : Edge → Bool) (edges : List Edge) → 1 ≤ count_by test edges → (k : ℕ) × (k < length edges) × (test (get_or edges k no_edge) ≡ true)
some_passes test [] some = absurd (omega (arith, some))
some_passes test (x ∷ edges) some = elim (cases_Bool (test x)) [
  | inl is ↦ (0, omega arith, is)
  | inr not ↦
      let rest = some_passes test edges (omega (arith, some, sum_by-cons (λ y. cond (test y) 1 0) x edges, ap {B = ℕ} (λ b. cond b 1 0) not)) in
      (suc rest.0, omega (arith, rest.1), rest.2)
]

crossed_one : (b : Bool) (n : ℕ) → b ≡ true → n ≤ (if b then n else 0)
crossed_one true n is = omega arith
crossed_one false n is = absurd (false≢true is)

module _ (p : Problem) (counts : List ℕ) (shores : List Weighted) (value : ℕ) (valid : IsValid p) (bound : IsJoinBound p counts shores value) where
  -- an edge crosses the shore, and so bounds its halves
  halves_small : (k : ℕ) (d : Weighted) → k < length shores → halves (get_or shores k d) ≤ 2000000
  halves_small k d below =
      let s = get_or shores k d in
      let odd = bound.odd k d below in
      let one = some_passes (crosses (is_in s.shore)) (required_edges p) (omega (arith, odd.odd)) in
      let inside : one.0 < p.required = omega (arith, one.1, length-take-le p.required p.edges valid.required_in) in
      let number : IsEdgeNumber p (suc one.0) = record { from_one = omega arith; in_range = omega (arith, inside, valid.required_in) } in
      let crossed : crosses (is_in s.shore) (edge_at p (suc one.0)) ≡ true = subst (λ (x : Edge). crosses (is_in s.shore) x ≡ true) (get_or-take p.required p.edges one.0 no_edge inside) one.2 in
      omega (
        arith,
        crossed_one (crosses (is_in s.shore) (edge_at p (suc one.0))) (halves s) crossed,
        get_or-le-sum_by (λ (r : Weighted). if crosses (is_in r.shore) (edge_at p (suc one.0)) then halves r else 0) shores k d below,
        bound.packs (suc one.0) number,
        (valid.edges (suc one.0) number).cost_in,
      )

  pub join_placeable : ArePlaceable p shores
  join_placeable = record {
    few = omega (arith, bound.few);
    apart = bound.different;
    positive = λ k d below.
        let odd = bound.odd k d below in
        record { natural = odd.positive; some = odd.some; small = omega (arith, halves_small k d below) };
    belong = λ k d below. (bound.odd k d below).belongs;
  }

  -- a shore with an odd number of required edges over it needs one deadhead at least
  odd_need : (inside : ℕ → Bool) → required_crossings p inside % 2 ≡ 1 → 1 ≤ need p inside
  odd_need inside odd = omega (arith, odd)

  needs_least : (rest : List Weighted) → All (IsOddShore p) rest → all_halves rest ≤ sum_by (λ s. nat_abs s.weight * need p (is_in s.shore)) rest
  needs_least [] odd = omega arith
  needs_least (s ∷ rest) odd =
      let first = All-head (IsOddShore p) s rest odd in
      let one : halves s * 1 ≤ halves s * need p (is_in s.shore) = mul-le-mul_left (halves s) (odd_need (is_in s.shore) first.odd) in
      omega (
        arith,
        one,
        needs_least rest (All-tail (IsOddShore p) s rest odd),
        sum_by-cons halves s rest,
        sum_by-cons (λ r. nat_abs r.weight * need p (is_in r.shore)) s rest,
      )

  module _ (pool : List (List ℕ)) (held : pool ≡ shores_of shores) where
    pub join_fits : FitsAlways p pool (prices_of p 2 shores)
    join_fits = shores_fit p pool 2 shores valid held join_placeable (λ e number. bound.packs e number)

    pub join_reaches : ReachesJoin p pool (prices_of p 2 shores)
    join_reaches j least =
        omega (
          arith,
          ints,
          value_is p pool 2 shores valid held join_placeable,
          needs_least shores bound.odd,
          bound.twice,
          least.least counts bound.makes_even,
          bound.costs,
        )

    pub join_shows : ShowsJoinShores p pool (prices_of p 2 shores)
    join_shows = record {
      shores = record { counts = counts; shores = shores; value = value; show = bound; held = held };
      needs = omega (arith, ints, value_is p pool 2 shores valid held join_placeable);
    }
