-- What labels towards a vertex say of the lists of steps that lead there.
use Rattle.std.proofs.Common.{◌≡◌, ◌≢◌, ℕ, zero, suc, ◌+◌, ◌*◌, ◌/◌, ◌<◌, ◌≤◌, Bool, true, false, cond, List, [], ◌∷◌, length, get_or, refl, ap, ◌∙◌, arith, inl, inr, nat_lt}
use Rattle.std.specs.List.{sum_by, count_by}
use Rattle.std.proofs.lemmas.Bool.{cases_eq, cases_lt, lt-ltb, le-ltb}
use Rattle.std.proofs.lemmas.List.Sums.{sum_by-cons, sum_by-le-sum_by, count_by-le-length}
use Rattle.carp_base.specs.Problem.{Problem, IsValid, IsVertex, IsEdgeNumber, edge_at, tail_of, head_of}
use Rattle.plan_model.specs.Plans.{Leads}
use Rattle.plan_model.specs.declared.step.Step.{Step}
use Rattle.deadhead_paths.specs.Prices.{price_of, ArePrices, NoneServed, IsLeastPrice, NoneLead}
use Rattle.deadhead_paths.specs.Table.{unreached, rise_of, IsTowards}

-- how many labels are less than a number
abbrev pub labels_below : List ℕ → ℕ → ℕ
labels_below labels n = count_by (λ l. nat_lt l n) labels

below_le : (a b : ℕ) → a ≤ b → (l : ℕ) → cond (nat_lt l a) 1 0 ≤ cond (nat_lt l b) 1 0
below_le a b le l = elim (cases_lt l a) [
  | inl under ↦ omega (arith, ap {B = ℕ} (λ t. cond t 1 0) (lt-ltb l a under), ap {B = ℕ} (λ t. cond t 1 0) (lt-ltb l b (omega (arith, le, under))))
  | inr over ↦ omega (arith, ap {B = ℕ} (λ t. cond t 1 0) (le-ltb l a over))
]

-- a label that is less than b and not than a counts below b alone
pub more_below : (labels : List ℕ) (i a b : ℕ) → i < length labels → a ≤ get_or labels i 0 → get_or labels i 0 < b → labels_below labels a + 1 ≤ labels_below labels b
more_below [] i a b in_range over under = absurd (omega (arith, in_range))
more_below (l ∷ labels) zero a b in_range over under =
    omega (
      arith,
      sum_by-cons (λ x. cond (nat_lt x a) 1 0) l labels,
      sum_by-cons (λ x. cond (nat_lt x b) 1 0) l labels,
      ap {B = ℕ} (λ t. cond t 1 0) (le-ltb l a over),
      ap {B = ℕ} (λ t. cond t 1 0) (lt-ltb l b under),
      sum_by-le-sum_by (λ x. cond (nat_lt x a) 1 0) (λ x. cond (nat_lt x b) 1 0) labels (below_le a b (omega (arith, over, under))),
    )
more_below (l ∷ labels) (suc i) a b in_range over under =
    omega (
      arith,
      sum_by-cons (λ x. cond (nat_lt x a) 1 0) l labels,
      sum_by-cons (λ x. cond (nat_lt x b) 1 0) l labels,
      below_le a b (omega (arith, over, under)) l,
      more_below labels i a b (omega (arith, in_range)) over under,
    )

-- steps from v to the target of which the label is just what their prices and their number make, and no more than the labels allow
pub record HasPath (p : Problem) (prices : List ℕ) (target v : ℕ) (labels : List ℕ) : Type 0 where
  pub steps : List Step
  pub unserved : NoneServed steps
  pub leads : Leads p v steps target
  pub label : get_or labels v 0 ≡ 1024 * sum_by (λ s. price_of prices s.edge) steps + length steps
  pub few : length steps ≤ labels_below labels (get_or labels v 0)

module _ (p : Problem) (valid : IsValid p) (prices : List ℕ) (fit : ArePrices p prices) (target : ℕ) (labels nexts : List ℕ)
    (towards : IsTowards p prices target labels nexts) where
  head_vertex : (e : ℕ) (forward : Bool) → IsEdgeNumber p e → IsVertex p (head_of (edge_at p e) forward)
  head_vertex e true number = (valid.edges e number).v_in
  head_vertex e false number = (valid.edges e number).u_in

  -- the edge on which to go lowers the label by just what it adds
  pub descends_by : (v : ℕ) → IsVertex p v → v ≢ target → get_or labels v 0 < unreached →
      let way = towards.descends v in (number : IsEdgeNumber p (get_or nexts v 0)) × (forward : Bool) × (tail_of (edge_at p (get_or nexts v 0)) forward ≡ v)
      × IsVertex p (head_of (edge_at p (get_or nexts v 0)) forward)
      × (get_or labels v 0 ≡ get_or labels (head_of (edge_at p (get_or nexts v 0)) forward) 0 + rise_of prices (get_or nexts v 0))
  descends_by v vertex other reached =
      let way = towards.descends v vertex other reached in
      let least = towards.potentials (get_or nexts v 0) way.forward way.number in (
        way.number,
        way.forward,
        way.tail,
        head_vertex (get_or nexts v 0) way.forward way.number,
        omega (arith, least, way.falls, ap (λ w. get_or labels w 0) way.tail),
      )

  -- a path from the other end of that edge goes on from v
  path_on : (v : ℕ) → IsVertex p v → get_or labels v 0 < unreached → (e : ℕ) → IsEdgeNumber p e → (forward : Bool) → tail_of (edge_at p e) forward ≡ v →
      IsVertex p (head_of (edge_at p e) forward) → get_or labels v 0 ≡ get_or labels (head_of (edge_at p e) forward) 0 + rise_of prices e →
      HasPath p prices target (head_of (edge_at p e) forward) labels → HasPath p prices target v labels
  path_on v vertex reached e number forward tail head_in label rest = record {
    steps = record { edge = e; forward = forward; served = false } ∷ rest.steps;
    unserved = (refl, rest.unserved);
    leads = (number, tail, rest.leads);
    label = omega (arith, label, rest.label, sum_by-cons (λ s. price_of prices s.edge) (record { edge = e; forward = forward; served = false }) rest.steps);
    few = omega (
      arith,
      rest.few,
      more_below labels (head_of (edge_at p e) forward) (get_or labels (head_of (edge_at p e) forward) 0) (get_or labels v 0)
          (omega (arith, towards.labels_long, head_in.in_range)) (omega arith) (omega (arith, label)),
    );
  }

  path_here : (v : ℕ) → v ≡ target → HasPath p prices target v labels
  path_here v same = record { steps = []; unserved = tt; leads = same; label = ap (λ w. get_or labels w 0) same ∙ towards.at_target; few = omega arith }

  path_within : (bound v : ℕ) → IsVertex p v → get_or labels v 0 < unreached → get_or labels v 0 ≤ bound → HasPath p prices target v labels
  path_within zero v vertex reached within = elim (cases_eq v target) [
    | inl same ↦ path_here v same
    | inr other ↦ let way = descends_by v vertex other reached in absurd (omega (arith, within, way.4))
  ]
  path_within (suc n) v vertex reached within = elim (cases_eq v target) [
    | inl same ↦ path_here v same
    | inr other ↦
        let way = descends_by v vertex other reached in
        let e = get_or nexts v 0 in
        path_on v vertex reached e way.0 way.1 way.2 way.3 way.4
        (path_within n (head_of (edge_at p e) way.1) way.3 (omega (arith, way.4, reached)) (omega (arith, way.4, within)))
  ]

  -- from each vertex with a label steps lead to the target, of which the label is made
  pub has_path : (v : ℕ) → IsVertex p v → get_or labels v 0 < unreached → HasPath p prices target v labels
  has_path v vertex reached = path_within (get_or labels v 0) v vertex reached (omega arith)

  -- fewer steps than there are vertices
  pub few_below : (v : ℕ) → IsVertex p v → get_or labels v 0 < unreached → labels_below labels (get_or labels v 0) < p.vertices
  few_below v vertex reached =
      omega (
        arith,
        more_below labels v (get_or labels v 0) unreached (omega (arith, towards.labels_long, vertex.in_range)) (omega arith) reached,
        more_below labels 0 unreached (unreached + 1) (omega (arith, towards.labels_long)) (omega (arith, towards.unused)) (omega (arith, towards.unused)),
        count_by-le-length (λ l. nat_lt l (unreached + 1)) labels,
        towards.labels_long,
      )

  prices_small : (from : ℕ) (steps : List Step) → Leads p from steps target → sum_by (λ s. price_of prices s.edge) steps ≤ 4000000000000000000 * length steps
  prices_small from [] leads = omega arith
  prices_small from (s ∷ steps) leads =
      omega (arith, fit.small s.edge leads.0, prices_small (head_of (edge_at p s.edge) s.forward) steps leads.2, sum_by-cons (λ x. price_of prices x.edge) s steps)

  -- a label that is not that of want of steps is far below it
  pub label_small : (v : ℕ) → IsVertex p v → get_or labels v 0 < unreached → get_or labels v 0 ≤ 4096000000000000000001000
  label_small v vertex reached =
      let path = has_path v vertex reached in
      omega (arith, path.label, path.few, few_below v vertex reached, prices_small v path.steps path.leads, valid.few_vertices)

  -- the price of a label
  pub price_at : (v : ℕ) → IsVertex p v → get_or labels v 0 < unreached → (path : HasPath p prices target v labels) → get_or labels v 0 / 1024 ≡ sum_by (λ s. price_of prices s.edge) path.steps
  price_at v vertex reached path = omega (arith, path.label, path.few, few_below v vertex reached, valid.few_vertices)

  price_step : (e : ℕ) (forward : Bool) → IsEdgeNumber p e → get_or labels (head_of (edge_at p e) forward) 0 < unreached →
      (get_or labels (tail_of (edge_at p e) forward) 0 < unreached) × (get_or labels (tail_of (edge_at p e) forward) 0 / 1024 ≤ get_or labels (head_of (edge_at p e) forward) 0 / 1024 + price_of prices e)
  price_step e forward number reached =
      let vertex = head_vertex e forward number in
      let least = towards.potentials e forward number in
      let path = has_path (head_of (edge_at p e) forward) vertex reached in
      let few = few_below (head_of (edge_at p e) forward) vertex reached in (
        omega (arith, least, label_small (head_of (edge_at p e) forward) vertex reached, fit.small e number),
        omega (arith, least, path.label, path.few, few, valid.few_vertices),
      )

  -- no list of steps costs less, and where one leads there is a label
  price_least : (v : ℕ) (steps : List Step) → Leads p v steps target → (get_or labels v 0 < unreached) × (get_or labels v 0 / 1024 ≤ sum_by (λ s. price_of prices s.edge) steps)
  price_least v [] leads = let none : get_or labels v 0 ≡ 0 = ap (λ w. get_or labels w 0) leads ∙ towards.at_target in (omega (arith, none), omega (arith, none))
  price_least v (s ∷ steps) leads =
      let rest = price_least (head_of (edge_at p s.edge) s.forward) steps leads.2 in
      let step = price_step s.edge s.forward leads.0 rest.0 in
      let here : get_or labels (tail_of (edge_at p s.edge) s.forward) 0 ≡ get_or labels v 0 = ap (λ w. get_or labels w 0) leads.1 in
      (omega (arith, here, step.0), omega (arith, ap (λ n. n / 1024) here, step.1, rest.1, sum_by-cons (λ x. price_of prices x.edge) s steps))

  pub least_price : (v : ℕ) → IsVertex p v → get_or labels v 0 < unreached → IsLeastPrice p (price_of prices) v target (get_or labels v 0 / 1024)
  least_price v vertex reached =
      let path = has_path v vertex reached in
      record {
        steps = path.steps;
        reached = record { unserved = path.unserved; leads = path.leads; costs = price_at v vertex reached path };
        least = λ n other deadheads. omega (arith, deadheads.costs, (price_least v other deadheads.leads).1);
      }

  -- each list of steps makes at least the label
  pub label_least : (v : ℕ) (steps : List Step) → Leads p v steps target → get_or labels v 0 ≤ 1024 * sum_by (λ s. price_of prices s.edge) steps + length steps
  label_least v [] leads = omega (arith, ap (λ w. get_or labels w 0) leads, towards.at_target)
  label_least v (s ∷ steps) leads =
      omega (
        arith,
        ap (λ w. get_or labels w 0) leads.1,
        towards.potentials s.edge s.forward leads.0,
        label_least (head_of (edge_at p s.edge) s.forward) steps leads.2,
        sum_by-cons (λ x. price_of prices x.edge) s steps,
      )

  pub none_lead : (v : ℕ) → unreached ≤ get_or labels v 0 → NoneLead p v target
  none_lead v none steps leads = absurd (omega (arith, none, (price_least v steps leads).0))

  pub reached_by : (v : ℕ) (steps : List Step) → Leads p v steps target → get_or labels v 0 < unreached
  reached_by v steps leads = (price_least v steps leads).0
