-- The sides of the levels between two depths, and of all levels below a weight.
use Rattle.std.proofs.Common.{◌≡◌, ◌≢◌, ℕ, zero, suc, ◌+◌, ◌-◌, ◌<◌, ◌≤◌, Bool, true, false, not, leb, List, [], ◌∷◌, ◌++◌, length, get_or, refl, sym, ap, ◌∙◌, subst, arith, inl, inr, ◌⊎◌}
use Rattle.std.specs.Prelude.{if◌then◌else◌}
use Rattle.std.specs.List.Sorted.{IsPermutation, IsSorted}
use Rattle.std.specs.Ordering.{nat_cmp}
use Rattle.std.proofs.lemmas.Bool.{cases_lt, le-leb, lt-leb}
use Rattle.std.proofs.lemmas.List.{get_or_default}
use Rattle.std.proofs.lemmas.List.Elements.{All-push, Contains-get_or, Contains-append_left, Contains-push}
use Rattle.std.proofs.lemmas.List.Sorted.{Contains-permutation, IsPermutation-sym, IsNonDecreasingBy-from_sort}
use Rattle.carp_base.specs.declared.edge.Edge.{Edge}
use Rattle.carp_base.specs.Problem.{Problem, IsValid, IsVertex, IsEdgeNumber, edge_at}
use Rattle.plan_model.specs.Plans.{crosses}
use Rattle.cut_pool.specs.declared.shore.Weighted.{Weighted}
use Rattle.cut_pool.specs.Shores.{is_in, IsShore}
use Rattle.edge_components.specs.Laws.{VerticesAreListed}
use Rattle.matching_duals.specs.OddSets.{count_below}
use Rattle.matching_duals.specs.Levels.{Adds, AreEnds, AreJoined, IsAdded, IsGap, IsSide, Stands, on_side, side_list}
use Rattle.matching_duals.proofs.Parity.{part}

-- a test that answers alike from t to below t + k
stretch : (test : ℕ → Bool) (t k : ℕ) → ((u : ℕ) → t ≤ u → u < t + k → test u ≡ test t) → count_below (t + k) test ≡ count_below t test + part (test t) k
stretch test t zero stays = let e : t + 0 ≡ t = omega arith in rw e (omega (arith, part_zero (test t)))
  where
    part_zero : (b : Bool) → part b 0 ≡ 0
    part_zero true = refl
    part_zero false = refl
stretch test t (suc k) stays =
    let e : t + suc k ≡ suc (t + k) = omega arith in
    rw e (omega (
      arith,
      stretch test t k (λ u above below. stays u above (omega (arith, below))),
      ap (λ b. part b 1) (stays (t + k) (omega arith) (omega arith)),
      part_suc (test t) k,
    ))
  where
    part_suc : (b : Bool) (n : ℕ) → part b (suc n) ≡ part b n + part b 1
    part_suc true n = omega arith
    part_suc false n = refl

-- whether an edge crosses a set depends on its ends alone
pub crosses_same : (f g : ℕ → Bool) (x : Edge) → f x.u ≡ g x.u → f x.v ≡ g x.v → crosses f x ≡ crosses g x
crosses_same f g x u v = ap (λ b. if b then not (f x.v) else f x.v) u ∙ ap (λ b. if g x.u then not b else b) v

module _ (p : Problem) (depths : List ℕ) (valid : IsValid p) where
  abbrev over : ℕ → ℕ → Bool
  over e t = crosses (on_side depths t p.depot) (edge_at p e)

  low_same : (from to t v : ℕ) → IsGap p depths from to → IsVertex p v → from ≤ t → t < to → leb (get_or depths v 0) t ≡ leb (get_or depths v 0) from
  low_same from to t v gap vertex above below = elim (gap v vertex) [
    | inl low ↦ le-leb (get_or depths v 0) t (omega (arith, low, above)) ∙ sym (le-leb (get_or depths v 0) from low)
    | inr high ↦ lt-leb (get_or depths v 0) t (omega (arith, high, below)) ∙ sym (lt-leb (get_or depths v 0) from (omega (arith, high, below, above)))
  ]

  side_same : (from to t v : ℕ) → IsGap p depths from to → IsVertex p v → from ≤ t → t < to → on_side depths t p.depot v ≡ on_side depths from p.depot v
  side_same from to t v gap vertex above below =
      ap (λ b. if b then not (leb (get_or depths v 0) t) else leb (get_or depths v 0) t) (low_same from to t p.depot gap valid.depot_in above below)
      ∙ ap (λ b. if leb (get_or depths p.depot 0) from then not b else b) (low_same from to t v gap vertex above below)

  over_same : (from to t e : ℕ) → IsGap p depths from to → IsEdgeNumber p e → from ≤ t → t < to → over e t ≡ over e from
  over_same from to t e gap number above below =
      let fine = valid.edges e number in
      crosses_same (on_side depths t p.depot) (on_side depths from p.depot) (edge_at p e)
      (side_same from to t (edge_at p e).u gap fine.u_in above below) (side_same from to t (edge_at p e).v gap fine.v_in above below)

  run_over : (from to e : ℕ) → from < to → IsGap p depths from to → IsEdgeNumber p e →
      count_below to (over e) ≡ count_below from (over e) + part (over e from) (to - from)
  run_over from to e less gap number =
      let whole : from + (to - from) ≡ to = omega (arith, less) in
      ap (λ n. count_below n (over e)) (sym whole)
      ∙ stretch (over e) from (to - from) (λ t above below. over_same from to t e gap number above (omega (arith, below, less)))

  module _ (listed : VerticesAreListed) where
    list_over : (t e : ℕ) → IsEdgeNumber p e → crosses (is_in (side_list p depths t)) (edge_at p e) ≡ over e t
    list_over t e number =
        let fine = valid.edges e number in
        let same = (listed p (on_side depths t p.depot)).same in
        crosses_same (is_in (side_list p depths t)) (on_side depths t p.depot) (edge_at p e) (same (edge_at p e).u fine.u_in) (same (edge_at p e).v fine.v_in)

    pub side_shore : (t : ℕ) → side_list p depths t ≢ [] → IsShore (side_list p depths t)
    side_shore t some = record { some = some; rising = (listed p (on_side depths t p.depot)).rising }

    pub run_adds : (from to : ℕ) (before after : List Weighted) → from < to → IsGap p depths from to →
        IsAdded before (side_list p depths from) (to - from) after → Adds p depths from to before after
    run_adds from to before after less gap added = record {
      joined = added.joined;
      over = λ e number.
          omega (
            arith,
            added.over (edge_at p e),
            ap (λ b. part b (to - from)) (list_over from e number),
            run_over from to e less gap number,
          );
      all = omega (arith, added.all, less);
      each = λ k d below. elim (added.each k d below) [
        | inl here ↦ inl (record { number = from; below = less; same = here })
        | inr old ↦ inr old
      ];
    }

module _ (p : Problem) (depths : List ℕ) where
  stands_in : (shores : List Weighted) (k : ℕ) (d : Weighted) → k < length shores → Stands shores (get_or shores k d).shore
  stands_in shores k d below = record { place = k; below = below; same = λ e. ap (λ (s : Weighted). s.shore) (get_or_default shores k e d below) }

  pub adds_none : (level : ℕ) (shores : List Weighted) → AreJoined shores → Adds p depths level level shores shores
  adds_none level shores joined = record {
    joined = joined;
    over = λ e number. refl;
    all = refl;
    each = λ k d below. inr (stands_in shores k d below);
  }

  later : (a b : ℕ) (shore : List ℕ) → a ≤ b → IsSide p depths a shore → IsSide p depths b shore
  later a b shore most side = record { number = side.number; below = omega (arith, side.below, most); same = side.same }

  -- one after another
  pub adds_more : (a b c : ℕ) (before middle after : List Weighted) → b ≤ c → Adds p depths a b before middle → Adds p depths b c middle after →
      Adds p depths a c before after
  adds_more a b c before middle after most first second = record {
    joined = second.joined;
    over = λ e number. omega (arith, first.over e number, second.over e number);
    all = omega (arith, first.all, second.all);
    each = λ k d below. elim (second.each k d below) [
      | inl side ↦ inl side
      | inr old ↦ back k d old
    ];
  }
    where
      back : (k : ℕ) (d : Weighted) → Stands middle (get_or after k d).shore → IsSide p depths c (get_or after k d).shore ⊎ Stands before (get_or after k d).shore
      back k d old = elim (first.each old.place d old.below) [
        | inl side ↦ inl (later b c (get_or after k d).shore most (subst (IsSide p depths b) (old.same d) side))
        | inr stands ↦ inr (subst (Stands before) (old.same d) stands)
      ]

-- the depths and the weight in order
pub sorted_ends : (depths ends : List ℕ) (weight : ℕ) → ((k : ℕ) → get_or depths k 0 ≤ weight) → IsPermutation (depths ++ weight ∷ []) ends → IsSorted nat_cmp ends →
    AreEnds depths weight ends
sorted_ends depths ends weight most moved sorted = record {
  ordered = IsNonDecreasingBy-from_sort (λ n. n) ends sorted;
  held = λ v below. Contains-permutation (depths ++ weight ∷ []) ends (get_or depths v 0) moved
      (Contains-append_left depths (weight ∷ []) (get_or depths v 0) (Contains-get_or depths v 0 below));
  last = Contains-permutation (depths ++ weight ∷ []) ends weight moved (Contains-push depths weight);
  most = λ k below.
      let at = Contains-permutation ends (depths ++ weight ∷ []) (get_or ends k 0) (IsPermutation-sym (depths ++ weight ∷ []) ends moved) (Contains-get_or ends k 0 below) in
      let value : get_or (depths ++ weight ∷ []) at.0 0 ≡ get_or ends k 0 = get_or_default (depths ++ weight ∷ []) at.0 0 (get_or ends k 0) at.1 ∙ at.2 in
      omega (arith, value, All-push (λ n. n ≤ weight) depths weight (λ j d less. omega (arith, get_or_default depths j d 0 less, most j)) (omega arith) at.0 0 at.1);
}

-- before the next end in order, each depth is at most the level or at least this end
pub next_gap : (p : Problem) (depths ends : List ℕ) (weight level i : ℕ) → length depths ≡ p.vertices + 1 → AreEnds depths weight ends → i < length ends →
    ((k : ℕ) → k < i → get_or ends k 0 ≤ level) → IsGap p depths level (get_or ends i 0)
next_gap p depths ends weight level i long ordered in_range below v vertex =
    let there = ordered.held v (omega (arith, vertex.in_range, long)) in
    let found : get_or ends there.0 0 ≡ get_or depths v 0 = get_or_default ends there.0 0 (get_or depths v 0) there.1 ∙ there.2 in
    elim (cases_lt there.0 i) [
      | inl before ↦ inl (omega (arith, found, below there.0 before))
      | inr after ↦ inr (omega (arith, found, ordered.ordered i there.0 0 after there.1))
    ]

-- after the last end the level is at least the weight
pub all_passed : (depths ends : List ℕ) (weight level : ℕ) → AreEnds depths weight ends → ((k : ℕ) → k < length ends → get_or ends k 0 ≤ level) → weight ≤ level
all_passed depths ends weight level ordered below =
    let there = ordered.last in
    let found : get_or ends there.0 0 ≡ weight = get_or_default ends there.0 0 weight there.1 ∙ there.2 in
    omega (arith, found, below there.0 there.1)
