-- Distances from the depot by cost: one for each vertex, bounded, and over an edge they differ by its cost at most.
use Rattle.std.proofs.Common.{◌≡◌, ℕ, zero, suc, ◌+◌, ◌*◌, ◌<◌, ◌≤◌, Bool, true, false, not, List, [], ◌∷◌, ◌++◌, map, length, get_or, refl, sym, ◌∙◌, subst, arith, inl, inr}
use Rattle.std.specs.List.{sum_by}
use Rattle.std.proofs.lemmas.Bool.{cases_lt}
use Rattle.std.proofs.lemmas.List.{get_or_append_left, get_or_push, length_push, get_or_past}
use Rattle.std.proofs.lemmas.List.Sums.{sum_by-cons, sum_by_push}
use Rattle.carp_base.specs.declared.edge.Edge.{Edge}
use Rattle.carp_base.specs.Problem.{Problem, IsValid, IsVertex, IsEdgeNumber, edge_at, no_edge, tail_of, head_of}
use Rattle.plan_model.specs.Plans.{Leads}
use Rattle.plan_model.specs.declared.step.Step.{Step}
use Rattle.deadhead_paths.specs.Prices.{Priced, IsLeastPrice, NoneServed, price_of, costs_of}
use Rattle.deadhead_paths.specs.Laws.{LeastPriceOrNone, FewStepsAreLeast}
use Rattle.capacity_cuts.specs.Levels.{IsDistance, IsBeyond}
use Rattle.capacity_cuts.specs.Lengths.{IsLength}

cost_at : (edges : List Edge) (k : ℕ) → get_or (map (λ x. x.cost) edges) k 0 ≡ (get_or edges k no_edge).cost
cost_at [] k = refl
cost_at (x ∷ edges) zero = refl
cost_at (x ∷ edges) (suc k) = cost_at edges k

pub cost_of_edge : (p : Problem) (e : ℕ) → price_of (costs_of p) e ≡ (edge_at p e).cost
cost_of_edge p zero = refl
cost_of_edge p (suc k) = cost_at p.edges k

-- a distance is one number
pub one_distance : (p : Problem) (v m n : ℕ) → IsDistance p v m → IsDistance p v n → m ≡ n
one_distance p v m n one other = omega (arith, one.least n other.steps other.reached, other.least m one.steps one.reached)

-- few steps cost little
steps_cost : (p : Problem) (a b : ℕ) (steps : List Step) → IsValid p → Leads p a steps b → sum_by (λ s. price_of (costs_of p) s.edge) steps ≤ length steps * 1000000
steps_cost p a b [] valid leads = omega arith
steps_cost p a b (s ∷ steps) valid leads =
    omega (
      arith,
      sum_by-cons (λ t. price_of (costs_of p) t.edge) s steps,
      steps_cost p (head_of (edge_at p s.edge) s.forward) b steps valid leads.2,
      cost_of_edge p s.edge,
      (valid.edges s.edge leads.0).cost_in,
    )

pub distance_small : FewStepsAreLeast → (p : Problem) (v n : ℕ) → IsValid p → IsDistance p v n → n ≤ 1000000000
distance_small few p v n valid is =
    let short = few p valid (price_of (costs_of p)) p.depot v n is in
    let reached = short.1 in
    omega (arith, reached.costs, steps_cost p p.depot v short.0 valid reached.leads, short.2, valid.few_vertices)

pub length_small : FewStepsAreLeast → (p : Problem) (v n : ℕ) → IsValid p → IsLength p v n → n ≤ 1000000000
length_small few p v n valid (inl is) = distance_small few p v n valid is
length_small few p v n valid (inr none) = omega (arith, none.0)

-- a vertex is beyond t where its length is above t
pub beyond_from : (p : Problem) (t v n : ℕ) → IsLength p v n → t < n → IsBeyond p t v
beyond_from p t v n (inl is) above = record { distance = n; is = is; above = above }
beyond_from p t v n (inr none) above = absurd (omega (arith, none.0, above))

pub beyond_to : (p : Problem) (t v n : ℕ) → IsLength p v n → IsBeyond p t v → t < n
beyond_to p t v n (inl is) beyond = omega (arith, beyond.above, one_distance p v beyond.distance n beyond.is is)
beyond_to p t v n (inr none) beyond = absurd (none.1 beyond.is.steps beyond.is.reached.leads)

-- the depot's own length is 0
pub depot_length : (p : Problem) (n : ℕ) → IsLength p p.depot n → n ≡ 0
depot_length p n (inl is) = let zero_is : n ≤ 0 = is.least 0 [] (record { unserved = tt; leads = refl; costs = refl }) in omega (arith, zero_is)
depot_length p n (inr none) = none.0

leads_on : (p : Problem) (a b c : ℕ) (steps : List Step) (s : Step) → Leads p a steps b → IsEdgeNumber p s.edge → tail_of (edge_at p s.edge) s.forward ≡ b →
    head_of (edge_at p s.edge) s.forward ≡ c → Leads p a (steps ++ s ∷ []) c
leads_on p a b c [] s leads number tail head = (number, tail ∙ sym leads, head)
leads_on p a b c (t ∷ steps) s leads number tail head = (leads.0, leads.1, leads_on p (head_of (edge_at p t.edge) t.forward) b c steps s leads.2 number tail head)

unserved_on : (steps : List Step) (s : Step) → NoneServed steps → s.served ≡ false → NoneServed (steps ++ s ∷ [])
unserved_on [] s none idle = (idle, tt)
unserved_on (t ∷ steps) s none idle = (none.0, unserved_on steps s none.1 idle)

-- over an edge the length rises by its cost at most
pub over_edge : (p : Problem) (a b e m n : ℕ) (forward : Bool) → IsEdgeNumber p e → tail_of (edge_at p e) forward ≡ a → head_of (edge_at p e) forward ≡ b →
    IsLength p a m → IsLength p b n → n ≤ m + (edge_at p e).cost
over_edge p a b e m n forward number tail head (inl is) (inl other) =
    let s : Step = record { edge = e; forward = forward; served = false } in
    let reached = is.reached in
    let more : n ≤ m + (edge_at p e).cost =
    other.least (m + (edge_at p e).cost) (is.steps ++ s ∷ []) (record {
      unserved = unserved_on is.steps s reached.unserved refl;
      leads = leads_on p p.depot a b is.steps s reached.leads number tail head;
      costs = omega (arith, reached.costs, sum_by_push (λ t. price_of (costs_of p) t.edge) is.steps s, cost_of_edge p e);
    }) in
    more
over_edge p a b e m n forward number tail head (inl is) (inr none) = omega (arith, none.0)
over_edge p a b e m n forward number tail head (inr none) (inl other) =
    absurd (none.1 (other.steps ++ record { edge = e; forward = not forward; served = false } ∷ [])
    (leads_on p p.depot b a other.steps (record { edge = e; forward = not forward; served = false }) other.reached.leads number
    (turned_tail (edge_at p e) forward ∙ head) (turned_head (edge_at p e) forward ∙ tail)))
  where
    turned_tail : (x : Edge) (f : Bool) → tail_of x (not f) ≡ head_of x f
    turned_tail x true = refl
    turned_tail x false = refl

    turned_head : (x : Edge) (f : Bool) → head_of x (not f) ≡ tail_of x f
    turned_head x true = refl
    turned_head x false = refl
over_edge p a b e m n forward number tail head (inr none) (inr other) = omega (arith, other.0)

-- each vertex has a length
pub some_length : LeastPriceOrNone → (p : Problem) (v : ℕ) → IsValid p → (n : ℕ) × IsLength p v n
some_length found p v valid = elim (found p valid (price_of (costs_of p)) p.depot v) [
  | inl none ↦ (0, inr (refl, none))
  | inr is ↦ (is.0, inl is.1)
]

-- what distances by cost say of the instance
pub distance_of : (p : Problem) (x : Priced) (a v n : ℕ) → x.problem ≡ p → x.prices ≡ costs_of p → a ≡ p.depot → IsLeastPrice x.problem (price_of x.prices) a v n → IsDistance p v n
distance_of p x a v n problem_is prices_are depot_is least =
    subst (λ k. IsLeastPrice p (price_of (costs_of p)) k v n) depot_is
    (subst (λ prices. IsLeastPrice p (price_of prices) a v n) prices_are
    (subst (λ q. IsLeastPrice q (price_of x.prices) a v n) problem_is least))

-- one length more
module _ (p : Problem) (lengths : List ℕ) (v n : ℕ) (long : length lengths ≡ v) where
  pub each_more : ((w : ℕ) → IsVertex p w → w < v → IsLength p w (get_or lengths w 0)) → IsLength p v n → (w : ℕ) → IsVertex p w → w < v + 1 →
      IsLength p w (get_or (lengths ++ n ∷ []) w 0)
  each_more each is w vertex less = elim (cases_lt w v) [
    | inl before ↦ subst (IsLength p w) (sym (get_or_append_left lengths (n ∷ []) 0 w (omega (arith, before, long)))) (each w vertex before)
    | inr last ↦
        let same : w ≡ v = omega (arith, last, less) in
        let at : length lengths ≡ w = omega (arith, long, same) in
        subst (IsLength p w) (sym (get_or_push lengths n 0 w at)) (subst (λ k. IsLength p k n) (sym same) is)
  ]

  pub small_more : ((w : ℕ) → get_or lengths w 0 ≤ 1000000000) → n ≤ 1000000000 → (w : ℕ) → get_or (lengths ++ n ∷ []) w 0 ≤ 1000000000
  small_more small least w = elim (cases_lt w (length lengths)) [
    | inl before ↦ omega (arith, get_or_append_left lengths (n ∷ []) 0 w before, small w)
    | inr after ↦ elim (cases_lt (length lengths) w) [
      | inl past ↦ omega (arith, get_or_past (lengths ++ n ∷ []) w 0 (omega (arith, past, length_push lengths n)))
      | inr at ↦ omega (arith, get_or_push lengths n 0 w (omega (arith, after, at)), least)
    ]
  ]
