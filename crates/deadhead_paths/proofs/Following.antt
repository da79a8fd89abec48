-- A path of least labels, one step further.
use Rattle.std.proofs.Common.{◌≡◌, ◌≢◌, ℕ, ◌+◌, ◌*◌, ◌/◌, ◌<◌, ◌≤◌, Bool, true, false, cond, eqb, List, [], ◌∷◌, ◌++◌, length, get_or, refl, sym, ap, ◌∙◌, arith, inl, inr, subst}
use Rattle.std.specs.List.{sum_by}
use Rattle.std.proofs.lemmas.Bool.{cases_lt, eq-eqb, ne_eqb}
use Rattle.std.proofs.lemmas.List.{append-nil, append_assoc, length_push}
use Rattle.std.proofs.lemmas.List.Sums.{sum_by_push}
use Rattle.carp_base.specs.declared.edge.Edge.{Edge}
use Rattle.carp_base.specs.Problem.{Problem, IsValid, IsVertex, IsEdgeNumber, edge_at, tail_of, head_of}
use Rattle.road_network.specs.Incidence.{far_end}
use Rattle.plan_model.specs.Plans.{Leads}
use Rattle.plan_model.specs.declared.step.Step.{Step}
use Rattle.deadhead_paths.specs.Prices.{price_of, ArePrices, NoneServed, IsLeastPath, NoneLead}
use Rattle.deadhead_paths.specs.Table.{unreached, rise_of, IsTowards}
use Rattle.deadhead_paths.proofs.Labels.{labels_below, more_below, descends_by, least_price, label_least, none_lead, few_below}

-- lists of steps, one step longer
pub Leads-more : (p : Problem) (a : ℕ) (steps : List Step) (s : Step) (b : ℕ) → Leads p a steps b → IsEdgeNumber p s.edge → tail_of (edge_at p s.edge) s.forward ≡ b →
    Leads p a (steps ++ s ∷ []) (head_of (edge_at p s.edge) s.forward)
Leads-more p a [] s b leads number tail = (number, tail ∙ sym leads, refl)
Leads-more p a (t ∷ steps) s b leads number tail = (leads.0, leads.1, Leads-more p (head_of (edge_at p t.edge) t.forward) steps s b leads.2 number tail)

pub NoneServed-more : (steps : List Step) (s : Step) → NoneServed steps → s.served ≡ false → NoneServed (steps ++ s ∷ [])
NoneServed-more [] s all unserved = (unserved, tt)
NoneServed-more (t ∷ steps) s all unserved = (all.0, NoneServed-more steps s all.1 unserved)

-- the code's direction of an edge from a vertex, and its other end
own_way : (x : Edge) (v : ℕ) (forward : Bool) → x.u ≢ x.v → tail_of x forward ≡ v →
    (tail_of x (eqb x.u v) ≡ v) × (head_of x (eqb x.u v) ≡ far_end v x) × (head_of x forward ≡ far_end v x)
own_way x v true no_loop tail =
    let is = eq-eqb x.u v tail in
    (ap (λ b. tail_of x b) is ∙ tail, ap (λ b. head_of x b) is ∙ sym (ap (λ b. cond b x.v x.u) is), sym (ap (λ b. cond b x.v x.u) is))
own_way x v false no_loop tail =
    let is = ne_eqb x.u v (λ same. no_loop (same ∙ sym tail)) in
    (ap (λ b. tail_of x b) is ∙ tail, ap (λ b. head_of x b) is ∙ sym (ap (λ b. cond b x.v x.u) is), sym (ap (λ b. cond b x.v x.u) is))

-- the steps so far lead to `at`, and with its label they make the label of the start
pub record Followed (p : Problem) (prices labels : List ℕ) (from at : ℕ) (before now : List Step) : Type 0 where
  pub from_reached : get_or labels from 0 < unreached
  pub at_in : IsVertex p at
  pub reached : get_or labels at 0 < unreached
  pub done : List Step
  pub now_is : now ≡ before ++ done
  pub unserved : NoneServed done
  pub leads : Leads p from done at
  pub label : get_or labels from 0 ≡ 1024 * sum_by (λ s. price_of prices s.edge) done + length done + get_or labels at 0
  pub few : length done + labels_below labels (get_or labels at 0) ≤ labels_below labels (get_or labels from 0)
  pub fewest : labels_below labels (get_or labels from 0) < p.vertices

module _ (p : Problem) (valid : IsValid p) (prices : List ℕ) (fit : ArePrices p prices) (to : ℕ) (labels nexts : List ℕ)
    (towards : IsTowards p prices to labels nexts) where
  -- where some steps lead there is a label
  pub linked_reached : (from : ℕ) → (NoneLead p from to → ⊥) → get_or labels from 0 < unreached
  linked_reached from linked = elim (cases_lt (get_or labels from 0) unreached) [
    | inl reached ↦ reached
    | inr none ↦ absurd (linked (none_lead p valid prices fit to labels nexts towards from none))
  ]

  pub follow_none : (from : ℕ) (before : List Step) → IsVertex p from → (NoneLead p from to → ⊥) → Followed p prices labels from from before before
  follow_none from before from_in linked = record {
    from_reached = linked_reached from linked;
    at_in = from_in;
    reached = linked_reached from linked;
    done = [];
    now_is = sym (append-nil before);
    unserved = tt;
    leads = refl;
    label = omega arith;
    few = omega arith;
    fewest = few_below p valid prices fit to labels nexts towards from from_in (linked_reached from linked);
  }

  module _ (from at : ℕ) (before now : List Step) (so_far : Followed p prices labels from at before now) (onward : at ≢ to) where
    pub next_number : IsEdgeNumber p (get_or nexts at 0)
    next_number = (descends_by p valid prices fit to labels nexts towards at so_far.at_in onward so_far.reached).0

    -- the next vertex has a lower label, by just what the edge adds
    pub next_label : IsVertex p (far_end at (edge_at p (get_or nexts at 0)))
        × (get_or labels at 0 ≡ get_or labels (far_end at (edge_at p (get_or nexts at 0))) 0 + rise_of prices (get_or nexts at 0))
    next_label =
        let way = descends_by p valid prices fit to labels nexts towards at so_far.at_in onward so_far.reached in
        let x = edge_at p (get_or nexts at 0) in
        let far = (own_way x at way.1 (valid.edges (get_or nexts at 0) way.0).no_loop way.2).2 in
        (subst (IsVertex p) far way.3, subst (λ w. get_or labels at 0 ≡ get_or labels w 0 + rise_of prices (get_or nexts at 0)) far way.4)

    next_way : let x = edge_at p (get_or nexts at 0) in (tail_of x (eqb x.u at) ≡ at) × (head_of x (eqb x.u at) ≡ far_end at x)
    next_way =
        let way = descends_by p valid prices fit to labels nexts towards at so_far.at_in onward so_far.reached in
        let x = edge_at p (get_or nexts at 0) in
        let own = own_way x at way.1 (valid.edges (get_or nexts at 0) way.0).no_loop way.2 in
        (own.0, own.1)

    abbrev pub next_step : Step
    next_step = record { edge = get_or nexts at 0; forward = eqb (edge_at p (get_or nexts at 0)).u at; served = false }

    -- fewer labels are below the next one
    pub follow_more : Followed p prices labels from (far_end at (edge_at p (get_or nexts at 0))) before (now ++ next_step ∷ [])
    follow_more =
        let x = edge_at p (get_or nexts at 0) in
        let w = far_end at x in
        let label = next_label in
        record {
          from_reached = so_far.from_reached;
          at_in = label.0;
          reached = omega (arith, label.1, so_far.reached);
          done = so_far.done ++ next_step ∷ [];
          now_is = ap (λ steps. steps ++ next_step ∷ []) so_far.now_is ∙ append_assoc before so_far.done (next_step ∷ []);
          unserved = NoneServed-more so_far.done next_step so_far.unserved refl;
          leads = subst (λ v. Leads p from (so_far.done ++ next_step ∷ []) v) next_way.1 (Leads-more p from so_far.done next_step at so_far.leads next_number next_way.0);
          label = omega (arith, so_far.label, label.1, sum_by_push (λ s. price_of prices s.edge) so_far.done next_step, length_push so_far.done next_step);
          few = omega (
            arith,
            so_far.few,
            length_push so_far.done next_step,
            more_below labels w (get_or labels w 0) (get_or labels at 0) (omega (arith, towards.labels_long, label.0.in_range)) (omega arith) (omega (arith, label.1)),
          );
          fewest = so_far.fewest;
        }

    -- there is room for the step, and some to spare
    pub follow_short : length so_far.done + 1 < p.vertices
    follow_short =
        let label = next_label in
        let w = far_end at (edge_at p (get_or nexts at 0)) in
        omega (
          arith,
          so_far.few,
          so_far.fewest,
          more_below labels w (get_or labels w 0) (get_or labels at 0) (omega (arith, towards.labels_long, label.0.in_range)) (omega arith) (omega (arith, label.1)),
        )

    -- the same of equal values
    pub follow_as : (e : ℕ) (x : Edge) (at' : ℕ) (now' : List Step) → e ≡ get_or nexts at 0 → x ≡ edge_at p e → at' ≡ far_end at x →
        now' ≡ now ++ record { edge = e; forward = eqb x.u at; served = false } ∷ [] →
        Followed p prices labels from at' before now' × (get_or labels at' 0 < get_or labels at 0)
    follow_as e x at' now' e_is x_is at_is now_is =
        let x_is' : x ≡ edge_at p (get_or nexts at 0) = x_is ∙ ap (edge_at p) e_is in
        let at_is' : at' ≡ far_end at (edge_at p (get_or nexts at 0)) = at_is ∙ ap (far_end at) x_is' in
        let step : Step = record { edge = e; forward = eqb x.u at; served = false } in
        let step_is : step ≡ next_step = cc in
        let now_is' : now' ≡ now ++ next_step ∷ [] = now_is ∙ ap (λ s. now ++ s ∷ []) step_is in (
          subst (λ steps. Followed p prices labels from at' before steps) (sym now_is') (subst (λ v. Followed p prices labels from v before (now ++ next_step ∷ [])) (sym at_is') follow_more),
          omega (arith, next_label.1, ap (λ v. get_or labels v 0) at_is'),
        )

  -- at the target the steps have the least price, and are few
  pub follow_done : (from at : ℕ) (before now : List Step) → IsVertex p from → Followed p prices labels from at before now → at ≡ to →
      (path : List Step) × IsLeastPath p (price_of prices) from to path × (now ≡ before ++ path)
  follow_done from at before now from_in so_far arrived =
      let none : get_or labels at 0 ≡ 0 = ap (λ v. get_or labels v 0) arrived ∙ towards.at_target in (
        so_far.done,
        record {
          price = get_or labels from 0 / 1024;
          least = least_price p valid prices fit to labels nexts towards from from_in so_far.from_reached;
          deadheads = record {
            unserved = so_far.unserved;
            leads = subst (Leads p from so_far.done) arrived so_far.leads;
            costs = omega (arith, so_far.label, none, so_far.few, so_far.fewest, valid.few_vertices);
          };
          fewest = λ other there. omega (
            arith,
            so_far.label,
            none,
            so_far.few,
            so_far.fewest,
            valid.few_vertices,
            label_least p valid prices fit to labels nexts towards from other there.leads,
            there.costs,
          );
          short = omega (arith, so_far.few, so_far.fewest);
        },
        so_far.now_is,
      )
