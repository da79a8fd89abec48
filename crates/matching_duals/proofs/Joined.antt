-- Paths between the pairs of a matching, one pair after another.
use Rattle.std.proofs.Common.{◌≡◌, ◌≢◌, ℕ, zero, suc, ◌+◌, ◌-◌, ◌%◌, ◌<◌, ◌≤◌, ◌==◌, Bool, true, false, cond, List, [], ◌∷◌, ◌++◌, length, take, get_or, set, replicate, refl, sym, ap, ◌∙◌, subst, arith, add-one, eq-eqb, inl, inr, ◌⊎◌}
use Rattle.std.specs.Prelude.{if◌then◌else◌, nat_lt}
use Rattle.std.specs.List.{All, AllByRecursion, count_by, sum_by}
use Rattle.std.proofs.lemmas.Bool.{cases_eq, cases_lt, eqb-true, ne_eqb, lt-ltb, le-ltb}
use Rattle.std.proofs.lemmas.List.{get_or-set_same, get_or-set_other, get_or-replicate, get_or_past, length-replicate, length-set}
use Rattle.std.proofs.lemmas.List.Elements.{All-from_recursion}
use Rattle.std.proofs.lemmas.List.Sums.{sum_by-append, sum_by-cons, sum_by_more}
use Rattle.carp_base.specs.Problem.{Problem, IsVertex, IsEdgeNumber, edge_at, head_of}
use Rattle.plan_model.specs.declared.step.Step.{Step}
use Rattle.plan_model.specs.Plans.{Leads, step_at, no_step}
use Rattle.deadhead_paths.specs.Prices.{AddsPath, IsLeastPath, Priced, price_of, costs_of}
use Rattle.edge_components.specs.Parts.{parts_of}
use Rattle.blossom_match.specs.Matching.{total, IsPerfect, matching_cost}
use Rattle.matching_duals.specs.OddSets.{degree, is_odd}
use Rattle.matching_duals.specs.Paths.{AreReaches, IsReach, all_steps, reach, steps_cost}
use Rattle.matching_duals.specs.Pairs.{ArePaired, ends_at, pair_cost}
use Rattle.matching_duals.proofs.Parity.{part}
use Rattle.matching_duals.proofs.Places.{OddPlaces, same_place}
use Rattle.matching_duals.proofs.Distances.{cost_price}
use Rattle.matching_duals.proofs.Totals.{total-same, total-add, total-single, total-zero}

-- steps that were added to none are a least path
pub path_of : (p : Problem) (x : Priced) (a b u v : ℕ) (before after : List Step) → x.problem ≡ p → x.prices ≡ costs_of p → a ≡ u → b ≡ v → before ≡ [] → AddsPath x a b before after →
    IsLeastPath p (price_of (costs_of p)) u v after
path_of p x a b u v before after problem_is prices_are a_is b_is none adds =
    subst (λ (l : List Step). IsLeastPath p (price_of (costs_of p)) u v l) (sym (adds.added ∙ ap (λ (l : List Step). l ++ adds.path) none))
    (subst (λ k. IsLeastPath p (price_of (costs_of p)) u k adds.path) b_is
    (subst (λ k. IsLeastPath p (price_of (costs_of p)) k b adds.path) a_is
    (subst (λ prices. IsLeastPath p (price_of prices) a b adds.path) prices_are
    (subst (λ q. IsLeastPath q (price_of x.prices) a b adds.path) problem_is adds.least))))

-- one step more on an edge
pub toggled : (now : List ℕ) (edge e : ℕ) (old count : ℕ) → 1 ≤ edge → edge - 1 < length now → parts_of now e ≡ (old + count) % 2 → get_or now (edge - 1) 0 ≤ 1 → 1 ≤ e →
    parts_of (set now (edge - 1) (1 - get_or now (edge - 1) 0)) e ≡ (old + (count + part (edge == e) 1)) % 2
toggled now zero e old count one below is bit from_one = absurd (omega (arith, one))
toggled now (suc k) zero old count one below is bit from_one = absurd (omega (arith, from_one))
toggled now (suc k) (suc j) old count one below is bit from_one =
    let place : suc k - 1 ≡ k = omega arith in
    let k_in : k < length now = omega (arith, below) in
    rw place (elim (cases_eq j k) [
      | inl same ↦
          let written : get_or (set now k (1 - get_or now k 0)) j 0 ≡ 1 - get_or now k 0 =
          ap (λ i. get_or (set now k (1 - get_or now k 0)) i 0) same ∙ get_or-set_same now k (1 - get_or now k 0) 0 k_in in
          let here : part (suc k == suc j) 1 ≡ 1 = ap (λ b. part b 1) (eq-eqb (suc k) (suc j) (ap (λ i. suc i) (sym same))) in
          let was : get_or now k 0 ≡ (old + count) % 2 = ap (λ i. get_or now i 0) (sym same) ∙ is in
          omega (arith, written, here, was)
      | inr other ↦
          let kept : get_or (set now k (1 - get_or now k 0)) j 0 ≡ get_or now j 0 = get_or-set_other now k j (1 - get_or now k 0) 0 other in
          let none : part (suc k == suc j) 1 ≡ 0 = ap (λ b. part b 1) (ne_eqb (suc k) (suc j) (λ same. other (omega (arith, same)))) in
          omega (arith, kept, none, is)
    ])

pub bits_set : (now : List ℕ) (i : ℕ) → ((k : ℕ) → get_or now k 0 ≤ 1) → (k : ℕ) → get_or (set now i (1 - get_or now i 0)) k 0 ≤ 1
bits_set now i bits k = elim (cases_lt i (length now)) [
  | inl inside ↦ elim (cases_eq k i) [
    | inl same ↦ omega (arith, ap (λ j. get_or (set now i (1 - get_or now i 0)) j 0) same, get_or-set_same now i (1 - get_or now i 0) 0 inside)
    | inr other ↦ omega (arith, get_or-set_other now i k (1 - get_or now i 0) 0 other, bits k)
  ]
  | inr past ↦ elim (cases_lt k (length now)) [
    | inl below ↦ omega (arith, get_or-set_other now i k (1 - get_or now i 0) 0 (λ same. omega (arith, same, below, past)), bits k)
    | inr beyond ↦ omega (arith, get_or_past (set now i (1 - get_or now i 0)) k 0 (omega (arith, beyond, length-set now i (1 - get_or now i 0))))
  ]
]

-- one step more of a walk
pub count_more : (walk : List Step) (i e : ℕ) → i < length walk → (s : Step) → s ≡ step_at walk i →
    count_by (λ s. s.edge == e) (take (i + 1) walk) ≡ count_by (λ s. s.edge == e) (take i walk) + part (s.edge == e) 1
count_more walk i e below s is =
    sum_by_more (λ s. cond (s.edge == e) 1 0) walk i no_step below
    ∙ ap (λ (t : Step). count_by (λ s. s.edge == e) (take i walk) + part (t.edge == e) 1) (sym is)

pub on_edges : (p : Problem) (a b : ℕ) (steps : List Step) → Leads p a steps b → All (λ s. IsEdgeNumber p s.edge) steps
on_edges p a b steps leads = All-from_recursion (λ s. IsEdgeNumber p s.edge) steps (each a steps leads)
  where
    each : (a : ℕ) (steps : List Step) → Leads p a steps b → AllByRecursion (λ s. IsEdgeNumber p s.edge) steps
    each a [] leads = tt
    each a (s ∷ steps) leads = (leads.0, each (head_of (edge_at p s.edge) s.forward) steps leads.2)

price_cost : (p : Problem) (steps : List Step) → sum_by (λ s. price_of (costs_of p) s.edge) steps ≡ steps_cost p steps
price_cost p [] = refl
price_cost p (s ∷ steps) =
    omega (
      arith,
      price_cost p steps,
      cost_price p s.edge,
      sum_by-cons (λ t. price_of (costs_of p) t.edge) s steps,
      sum_by-cons (λ t. (edge_at p t.edge).cost) s steps,
    )

module _ (p : Problem) (odd table : List ℕ) (mate : ℕ → ℕ) where
  -- nothing is joined
  pub paired_none : (counts : List ℕ) → counts ≡ replicate (length p.edges) 0 → ArePaired p odd table mate 0 counts
  paired_none counts zeros = record {
    pairs = [];
    lead = tt;
    parities = record {
      one_each = ap length zeros ∙ length-replicate {A = ℕ} (length p.edges) 0;
      each = λ e number. ap (λ (l : List ℕ). parts_of l e) zeros ∙ zero_at e number;
    };
    bits = λ k. bit k (cases_lt k (length p.edges));
    ends = λ v. refl;
    cost = refl;
  }
    where
      zero_at : (e : ℕ) → IsEdgeNumber p e → parts_of (replicate (length p.edges) 0) e ≡ 0
      zero_at zero number = absurd (omega (arith, number.from_one))
      zero_at (suc k) number = get_or-replicate {A = ℕ} (length p.edges) k 0 0 (omega (arith, number.in_range))

      bit : (k : ℕ) → (k < length p.edges) ⊎ (length p.edges ≤ k) → get_or counts k 0 ≤ 1
      bit k (inl below) = omega (arith, ap (λ (l : List ℕ). get_or l k 0) zeros, get_or-replicate {A = ℕ} (length p.edges) k 0 0 below)
      bit k (inr past) = omega (arith, get_or_past counts k 0 (omega (arith, past, ap length zeros, length-replicate {A = ℕ} (length p.edges) 0)))

  -- a member whose mate comes before it adds nothing
  pub paired_skip : (i : ℕ) (counts : List ℕ) → mate i ≤ i → ArePaired p odd table mate i counts → ArePaired p odd table mate (i + 1) counts
  paired_skip i counts less paired =
      let none : nat_lt i (mate i) ≡ false = le-ltb i (mate i) less in
      rw add-one (record {
        pairs = paired.pairs;
        lead = paired.lead;
        parities = paired.parities;
        bits = paired.bits;
        ends = λ v. omega (arith, paired.ends v, ap (λ b. if b then (if get_or odd i 0 == v then 1 else 0) + (if get_or odd (mate i) 0 == v then 1 else 0) else 0) none);
        cost = omega (arith, paired.cost, ap (λ b. if b then reach p table (get_or odd i 0) (get_or odd (mate i) 0) else 0) none);
      })

  -- the path of one pair more
  pub paired_more : AreReaches p table → (i : ℕ) (before now : List ℕ) (path : List Step) → i < mate i → IsVertex p (get_or odd i 0) → IsVertex p (get_or odd (mate i) 0) →
      IsLeastPath p (price_of (costs_of p)) (get_or odd i 0) (get_or odd (mate i) 0) path → length now ≡ length before →
      ((e : ℕ) → IsEdgeNumber p e → parts_of now e ≡ (parts_of before e + count_by (λ s. s.edge == e) path) % 2) → ((k : ℕ) → get_or now k 0 ≤ 1) →
      ArePaired p odd table mate i before → ArePaired p odd table mate (i + 1) now
  paired_more reaches i before now path less a_in b_in is long toggled bits paired =
      let some : nat_lt i (mate i) ≡ true = lt-ltb i (mate i) less in
      rw add-one (record {
        pairs = record { from = get_or odd i 0; to = get_or odd (mate i) 0; steps = path } ∷ paired.pairs;
        lead = (is.deadheads.leads, paired.lead);
        parities = record {
          one_each = long ∙ paired.parities.one_each;
          each = λ e number.
              omega (
                arith,
                toggled e number,
                paired.parities.each e number,
                sum_by-append (λ s. cond (s.edge == e) 1 0) path (all_steps paired.pairs),
              );
        };
        bits = bits;
        ends = λ v. omega (arith, paired.ends v, ap (λ b. if b then (if get_or odd i 0 == v then 1 else 0) + (if get_or odd (mate i) 0 == v then 1 else 0) else 0) some);
        cost = omega (
          arith,
          paired.cost,
          sum_by-append (λ s. (edge_at p s.edge).cost) path (all_steps paired.pairs),
          ap (λ b. if b then reach p table (get_or odd i 0) (get_or odd (mate i) 0) else 0) some,
          distance (reaches.each (get_or odd i 0) (get_or odd (mate i) 0) a_in b_in),
        );
      })
    where
      distance : IsReach p (get_or odd i 0) (get_or odd (mate i) 0) (reach p table (get_or odd i 0) (get_or odd (mate i) 0)) →
          steps_cost p path ≡ reach p table (get_or odd i 0) (get_or odd (mate i) 0)
      distance (inl least) =
          omega (
            arith,
            price_cost p path,
            is.deadheads.costs,
            is.least.least (reach p table (get_or odd i 0) (get_or odd (mate i) 0)) least.steps least.reached,
            least.least is.price path is.deadheads,
          )
      distance (inr none) = absurd (none.1 path is.deadheads.leads)

  -- the pairs of all members end an odd number of times at just the odd vertices
  module _ (n : ℕ) (places : OddPlaces p odd) (size : n ≡ length odd) (perfect : IsPerfect n mate) where
    same_bit : (a b : ℕ) → a < n → b < n → (get_or odd a 0 == get_or odd b 0) ≡ (a == b)
    same_bit a b a_in b_in = elim (cases_eq a b) [
      | inl is ↦ eq-eqb (get_or odd a 0) (get_or odd b 0) (ap (λ k. get_or odd k 0) is) ∙ sym (eq-eqb a b is)
      | inr other ↦
          ne_eqb (get_or odd a 0) (get_or odd b 0) (λ same. other (same_place p odd a b places (omega (arith, a_in, size)) (omega (arith, b_in, size)) same))
          ∙ sym (ne_eqb a b other)
    ]

    -- the mate of j is u where j is the mate of u
    mate_bit : (j u : ℕ) → j < n → u < n → (mate j == u) ≡ (j == mate u)
    mate_bit j u j_in u_in = elim (cases_eq (mate j) u) [
      | inl is ↦ eq-eqb (mate j) u is ∙ sym (eq-eqb j (mate u) (sym (perfect.back j j_in) ∙ ap mate is))
      | inr other ↦ ne_eqb (mate j) u other ∙ sym (ne_eqb j (mate u) (λ is. other (ap mate is ∙ perfect.back u u_in)))
    ]

    split : (c a b : Bool) → (if c then (if a then 1 else 0) + (if b then 1 else 0) else 0) ≡ part a (part c 1) + part b (part c 1)
    split true a b = refl
    split false true true = refl
    split false true false = refl
    split false false true = refl
    split false false false = refl

    abbrev later : ℕ → ℕ
    later j = part (nat_lt j (mate j)) 1

    one_of : (u : ℕ) → u < n → later u + later (mate u) ≡ 1
    one_of u u_in = elim (cases_lt u (mate u)) [
      | inl less ↦
          omega (
            arith,
            ap (λ b. part b 1) (lt-ltb u (mate u) less),
            ap (λ b. part b 1) (le-ltb (mate u) (mate (mate u)) (omega (arith, less, perfect.back u u_in))),
          )
      | inr more ↦
          let other = perfect.other u u_in in
          omega (
            arith,
            ap (λ b. part b 1) (le-ltb u (mate u) more),
            ap (λ b. part b 1) (lt-ltb (mate u) (mate (mate u)) (omega (arith, more, perfect.back u u_in, other))),
          )
    ]

    at_odd : (u : ℕ) → u < n → total n (ends_at odd mate (get_or odd u 0)) ≡ 1
    at_odd u u_in =
        omega (
          arith,
          total-same n (ends_at odd mate (get_or odd u 0)) (λ j. part (j == u) (later j) + part (j == mate u) (later j))
              (λ j below. split (nat_lt j (mate j)) (get_or odd j 0 == get_or odd u 0) (get_or odd (mate j) 0 == get_or odd u 0)
              ∙ ap (λ b. part b (later j) + part (get_or odd (mate j) 0 == get_or odd u 0) (later j)) (same_bit j u below u_in)
              ∙ ap (λ b. part (j == u) (later j) + part b (later j)) (same_bit (mate j) u (perfect.in_range j below) u_in ∙ mate_bit j u below u_in)),
          total-add n (λ j. part (j == u) (later j)) (λ j. part (j == mate u) (later j)),
          total-single n u later u_in,
          total-single n (mate u) later (perfect.in_range u u_in),
          one_of u u_in,
        )

    at_even : (v : ℕ) → ((k : ℕ) → k < n → get_or odd k 0 ≢ v) → total n (ends_at odd mate v) ≡ 0
    at_even v none =
        total-same n (ends_at odd mate v) (λ j. 0)
        (λ j below. split (nat_lt j (mate j)) (get_or odd j 0 == v) (get_or odd (mate j) 0 == v)
        ∙ ap (λ b. part b (later j) + part (get_or odd (mate j) 0 == v) (later j)) (ne_eqb (get_or odd j 0) v (none j below))
        ∙ ap (λ b. part false (later j) + part b (later j)) (ne_eqb (get_or odd (mate j) 0) v (none (mate j) (perfect.in_range j below))))
        ∙ total-zero n

    pub ends_odd : (v : ℕ) → IsVertex p v → total n (ends_at odd mate v) % 2 ≡ degree p v % 2
    ends_odd v vertex = elim (cases_eq (degree p v % 2) 1) [
      | inl is ↦
          let found = places.found v vertex (eq-eqb (degree p v % 2) 1 is) in
          omega (arith, ap (λ w. total n (ends_at odd mate w)) (sym found.2), at_odd found.0 (omega (arith, found.1, size)), is)
      | inr other ↦
          omega (
            arith,
            at_even v (λ k below same. other (eqb-true (degree p v % 2) 1 (ap (is_odd p) (sym same) ∙ places.odd_at k (omega (arith, below, size))))),
            other,
          )
    ]

  -- the pairs cost what the matching costs
  pub pairs_cost : (n : ℕ) (cost : ℕ → ℕ → ℕ) → n ≡ length odd → IsPerfect n mate →
      ((u v : ℕ) → u < length odd → v < length odd → cost u v ≡ reach p table (get_or odd u 0) (get_or odd v 0)) →
      total n (pair_cost p odd table mate) ≡ matching_cost n cost mate
  pairs_cost n cost size perfect is =
      total-same n (pair_cost p odd table mate) (λ v. if nat_lt v (mate v) then cost v (mate v) else 0)
      (λ v below. ap (λ k. if nat_lt v (mate v) then k else 0) (sym (is v (mate v) (omega (arith, below, size)) (omega (arith, perfect.in_range v below, size)))))
