-- Services of a walk that are joined by least paths, one step of the walk further.
use Rattle.std.proofs.Common.{◌≡◌, ℕ, zero, suc, ◌+◌, ◌*◌, ◌<◌, ◌≤◌, Bool, true, false, cond, List, [], ◌∷◌, ◌++◌, length, get_or, take, drop, refl, sym, ap, ◌∙◌, arith, subst}
use Rattle.std.specs.Prelude.{if◌then◌else◌}
use Rattle.std.specs.List.{sum_by}
use Rattle.std.proofs.lemmas.List.{append-nil, length-append, length-map, length_push, get_or-map, append_assoc, drop_more, take_more}
use Rattle.std.proofs.lemmas.List.Elements.{filter-append}
use Rattle.std.proofs.lemmas.List.Sums.{sum_by-cons, sum_by-append, sum_by_push, length-filter, sum_by-take-le}
use Rattle.carp_base.specs.declared.edge.Edge.{Edge}
use Rattle.carp_base.specs.Problem.{Problem, IsValid, IsVertex, IsEdgeNumber, no_edge, edge_at, tail_of, head_of}
use Rattle.plan_model.specs.Plans.{Leads, IsWalk, no_step, step_cost, walk_cost}
use Rattle.plan_model.specs.declared.step.Step.{Step}
use Rattle.deadhead_paths.specs.Prices.{Priced, AddsPath, price_of, costs_of, ArePrices, NoneServed, IsLeastPrice, IsLeastPath, NoneLead}
use Rattle.deadhead_paths.specs.Tidy.{served_steps, GoByLeastPaths}
use Rattle.deadhead_paths.specs.Join.{IsJoined, AddsService}
use Rattle.deadhead_paths.proofs.Following.{Leads-more}

-- lists of steps that are joined, or split
pub Leads-append : (p : Problem) (a : ℕ) (xs ys : List Step) (m b : ℕ) → Leads p a xs m → Leads p m ys b → Leads p a (xs ++ ys) b
Leads-append p a [] ys m b first second = subst (λ v. Leads p v ys b) (sym first) second
Leads-append p a (s ∷ xs) ys m b first second = (first.0, first.1, Leads-append p (head_of (edge_at p s.edge) s.forward) xs ys m b first.2 second)

pub Leads-split : (p : Problem) (a : ℕ) (xs ys : List Step) (b : ℕ) → Leads p a (xs ++ ys) b → (m : ℕ) × Leads p a xs m × Leads p m ys b
Leads-split p a [] ys b leads = (a, refl, leads)
Leads-split p a (s ∷ xs) ys b leads =
    let rest = Leads-split p (head_of (edge_at p s.edge) s.forward) xs ys b leads.2 in
    (rest.0, (leads.0, leads.1, rest.1), rest.2)

-- what unserved steps cost
pub cost_price : (p : Problem) (e : ℕ) → IsEdgeNumber p e → price_of (costs_of p) e ≡ (edge_at p e).cost
cost_price p zero number = absurd (omega (arith, number.from_one))
cost_price p (suc k) number = get_or-map (λ (x : Edge). x.cost) p.edges k no_edge 0 (omega (arith, number.in_range))

pub costs_fit : (p : Problem) → IsValid p → ArePrices p (costs_of p)
costs_fit p valid = record {
  one_each = length-map p.edges (λ (x : Edge). x.cost);
  small = λ e number. omega (arith, cost_price p e number, (valid.edges e number).cost_in);
}

pub unserved_cost : (p : Problem) (a : ℕ) (steps : List Step) (b : ℕ) → Leads p a steps b → NoneServed steps → walk_cost p steps ≡ sum_by (λ s. price_of (costs_of p) s.edge) steps
unserved_cost p a [] b leads unserved = refl
unserved_cost p a (s ∷ steps) b leads unserved =
    let own : step_cost p s ≡ (edge_at p s.edge).cost = ap (λ t. if t then (edge_at p s.edge).service else (edge_at p s.edge).cost) unserved.0 in
    omega (
      arith,
      own,
      cost_price p s.edge leads.0,
      unserved_cost p (head_of (edge_at p s.edge) s.forward) steps b leads.2 unserved.1,
      sum_by-cons (step_cost p) s steps,
      sum_by-cons (λ x. price_of (costs_of p) x.edge) s steps,
    )

-- the services of a step and of the rest
served_first : (s : Step) (steps : List Step) → s.served ≡ true → served_steps (s ∷ steps) ≡ s ∷ served_steps steps
served_first s steps is = ap (λ b. cond b (s ∷ served_steps steps) (served_steps steps)) is

unserved_first : (s : Step) (steps : List Step) → s.served ≡ false → served_steps (s ∷ steps) ≡ served_steps steps
unserved_first s steps is = ap (λ b. cond b (s ∷ served_steps steps) (served_steps steps)) is

pub unserved_of : (steps : List Step) → served_steps steps ≡ [] → NoneServed steps
unserved_of [] none = tt
unserved_of (s ∷ steps) none = let both = one s.served refl none in (both.0, unserved_of steps both.1)
  where
    one : (b : Bool) → s.served ≡ b → cond b (s ∷ served_steps steps) (served_steps steps) ≡ [] → (s.served ≡ false) × (served_steps steps ≡ [])
    one true is nil = absurd (omega (arith, ap length nil))
    one false is nil = (is, nil)

pub served_of : (steps : List Step) → NoneServed steps → served_steps steps ≡ []
served_of [] unserved = refl
served_of (s ∷ steps) unserved = unserved_first s steps unserved.0 ∙ served_of steps unserved.1

head_same : (u v : Step) (us vs : List Step) → u ∷ us ≡ v ∷ vs → u ≡ v
head_same u v us vs h = cc

tail_same : (u v : Step) (us vs : List Step) → u ∷ us ≡ v ∷ vs → us ≡ vs
tail_same u v us vs h = cc

-- a list of steps at its last service
pub record LastService (steps : List Step) (before : List Step) (s : Step) : Type 0 where
  pub first : List Step
  pub after : List Step
  pub steps_are : steps ≡ first ++ (s ∷ after)
  pub first_served : served_steps first ≡ before
  pub after_unserved : NoneServed after

pub last_service : (steps before : List Step) (s : Step) → served_steps steps ≡ before ++ s ∷ [] → LastService steps before s
last_service [] before s is = absurd (omega (arith, ap length is, length_push before s))
last_service (x ∷ steps) before s is = one x.served refl before is (λ b same. last_service steps b s same)
  where
    longer : (b : List Step) → (rest : LastService steps b s) → (c : List Step) → served_steps (x ∷ rest.first) ≡ c → LastService (x ∷ steps) c s
    longer b rest c served = record {
      first = x ∷ rest.first;
      after = rest.after;
      steps_are = ap (λ xs. x ∷ xs) rest.steps_are;
      first_served = served;
      after_unserved = rest.after_unserved;
    }

    one : (t : Bool) → x.served ≡ t → (b : List Step) → cond t (x ∷ served_steps steps) (served_steps steps) ≡ b ++ s ∷ [] →
        ((c : List Step) → served_steps steps ≡ c ++ s ∷ [] → LastService steps c s) → LastService (x ∷ steps) b s
    one false out b same onward =
        let rest = onward b same in
        longer b rest b (unserved_first x rest.first out ∙ rest.first_served)
    one true out [] same onward = record {
      first = [];
      after = steps;
      steps_are = ap (λ y. y ∷ steps) (head_same x s (served_steps steps) [] same);
      first_served = refl;
      after_unserved = unserved_of steps (tail_same x s (served_steps steps) [] same);
    }
    one true out (y ∷ b) same onward =
        let rest = onward b (tail_same x y (served_steps steps) (b ++ s ∷ []) same) in
        longer b rest (y ∷ b) (served_first x rest.first out ∙ ap (λ xs. x ∷ xs) rest.first_served ∙ ap (λ z. z ∷ b) (head_same x y (served_steps steps) (b ++ s ∷ []) same))

-- the services of the steps done so far, joined, and what is ahead
pub record Joining (p : Problem) (done ahead joined : List Step) (at : ℕ) : Type 0 where
  pub at_in : IsVertex p at
  pub leads : Leads p p.depot joined at
  pub served : served_steps joined ≡ served_steps done
  pub here : ℕ
  pub gap : List Step
  pub gap_leads : Leads p at gap here
  pub ahead_leads : Leads p here ahead p.depot
  pub paths : (more : List Step) (b : ℕ) (rest : List Step) → GoByLeastPaths p more at b rest → GoByLeastPaths p (served_steps done ++ more) p.depot b (joined ++ rest)
  pub cheapest : (other : List Step) (b n : ℕ) → Leads p p.depot other b → served_steps other ≡ served_steps done → IsLeastPrice p (price_of (costs_of p)) at b n →
      walk_cost p joined + n ≤ walk_cost p other
  pub short : length joined ≤ 1000 * length (served_steps done)

-- a list of steps without service costs at least a least price
least_cost : (p : Problem) (a b n : ℕ) (other : List Step) → IsLeastPrice p (price_of (costs_of p)) a b n → Leads p a other b → NoneServed other → n ≤ walk_cost p other
least_cost p a b n other least leads unserved =
    omega (arith, least.least (sum_by (λ s. price_of (costs_of p) s.edge) other) other (record { unserved = unserved; leads = leads; costs = refl }), unserved_cost p a other b leads unserved)

pub joining_none : (p : Problem) → IsValid p → (walk : List Step) → IsWalk p walk → Joining p [] walk [] p.depot
joining_none p valid walk leads = record {
  at_in = valid.depot_in;
  leads = refl;
  served = refl;
  here = p.depot;
  gap = [];
  gap_leads = refl;
  ahead_leads = leads;
  paths = λ more b rest goes. goes;
  cheapest = λ other b n other_leads same least. omega (arith, least_cost p p.depot b n other least other_leads (unserved_of other same));
  short = omega arith;
}

module _ (p : Problem) (done ahead joined : List Step) (at : ℕ) (s : Step) (so_far : Joining p done (s ∷ ahead) joined at) where
  pub ahead_number : IsEdgeNumber p s.edge
  ahead_number = so_far.ahead_leads.0

  pub ahead_linked : NoneLead p at (tail_of (edge_at p s.edge) s.forward) → ⊥
  ahead_linked none = none so_far.gap (subst (Leads p at so_far.gap) (sym so_far.ahead_leads.1) so_far.gap_leads)

  served_push : served_steps (done ++ s ∷ []) ≡ served_steps done ++ cond s.served (s ∷ []) []
  served_push = filter-append (λ x. x.served) done (s ∷ [])

  -- a step without service is left out
  pub joining_deadhead : s.served ≡ false → Joining p (done ++ s ∷ []) ahead joined at
  joining_deadhead unserved =
      let same : served_steps (done ++ s ∷ []) ≡ served_steps done =
      served_push ∙ ap (λ b. served_steps done ++ cond b (s ∷ []) []) unserved ∙ append-nil (served_steps done) in
      record {
        at_in = so_far.at_in;
        leads = so_far.leads;
        served = so_far.served ∙ sym same;
        here = head_of (edge_at p s.edge) s.forward;
        gap = so_far.gap ++ s ∷ [];
        gap_leads = Leads-more p at so_far.gap s so_far.here so_far.gap_leads so_far.ahead_leads.0 so_far.ahead_leads.1;
        ahead_leads = so_far.ahead_leads.2;
        paths = λ more b rest goes. subst (λ xs. GoByLeastPaths p (xs ++ more) p.depot b (joined ++ rest)) (sym same) (so_far.paths more b rest goes);
        cheapest = λ other b n leads is least. so_far.cheapest other b n leads (is ∙ same) least;
        short = omega (arith, so_far.short, ap length same);
      }

  -- a service is added after a path to it
  module _ (valid : IsValid p) (serves : s.served ≡ true) (x : Priced) (problem : x.problem ≡ p) (prices : x.prices ≡ costs_of p) (joined' : List Step)
      (adds : AddsService x at (tail_of (edge_at p s.edge) s.forward) s joined joined') where
    path_is : IsLeastPath p (price_of (costs_of p)) at (tail_of (edge_at p s.edge) s.forward) adds.path.path
    path_is = rw (problem, prices) at adds.path.least

    joined_is : joined' ≡ joined ++ (adds.path.path ++ s ∷ [])
    joined_is = adds.added ∙ ap (λ xs. xs ++ s ∷ []) adds.path.added ∙ append_assoc joined adds.path.path (s ∷ [])

    served_more : served_steps (done ++ s ∷ []) ≡ served_steps done ++ s ∷ []
    served_more = served_push ∙ ap (λ b. served_steps done ++ cond b (s ∷ []) []) serves

    head_in : IsVertex p (head_of (edge_at p s.edge) s.forward)
    head_in = one s.forward
      where
        one : (forward : Bool) → IsVertex p (head_of (edge_at p s.edge) forward)
        one true = (valid.edges s.edge ahead_number).v_in
        one false = (valid.edges s.edge ahead_number).u_in

    joined_cost : walk_cost p joined' ≡ walk_cost p joined + path_is.price + step_cost p s
    joined_cost =
        omega (
          arith,
          ap (walk_cost p) joined_is,
          sum_by-append (step_cost p) joined (adds.path.path ++ s ∷ []),
          sum_by_push (step_cost p) adds.path.path s,
          unserved_cost p at adds.path.path (tail_of (edge_at p s.edge) s.forward) path_is.deadheads.leads path_is.deadheads.unserved,
          path_is.deadheads.costs,
        )

    cheapest_more : (other : List Step) (b n : ℕ) → Leads p p.depot other b → served_steps other ≡ served_steps (done ++ s ∷ []) →
        IsLeastPrice p (price_of (costs_of p)) (head_of (edge_at p s.edge) s.forward) b n → walk_cost p joined' + n ≤ walk_cost p other
    cheapest_more other b n leads is least =
        let last = last_service other (served_steps done) s (is ∙ served_more) in
        let parts = Leads-split p p.depot last.first (s ∷ last.after) b (subst (λ xs. Leads p p.depot xs b) last.steps_are leads) in
        let to_tail : Leads p p.depot last.first (tail_of (edge_at p s.edge) s.forward) = subst (Leads p p.depot last.first) (sym parts.2.1) parts.1 in
        omega (
          arith,
          joined_cost,
          so_far.cheapest last.first (tail_of (edge_at p s.edge) s.forward) path_is.price to_tail last.first_served path_is.least,
          least_cost p (head_of (edge_at p s.edge) s.forward) b n last.after least parts.2.2 last.after_unserved,
          ap (walk_cost p) last.steps_are,
          sum_by-append (step_cost p) last.first (s ∷ last.after),
          sum_by-cons (step_cost p) s last.after,
        )

    paths_more : (more : List Step) (b : ℕ) (rest : List Step) → GoByLeastPaths p more (head_of (edge_at p s.edge) s.forward) b rest →
        GoByLeastPaths p (served_steps (done ++ s ∷ []) ++ more) p.depot b (joined' ++ rest)
    paths_more more b rest goes =
        let path = adds.path.path in
        let next : GoByLeastPaths p (s ∷ more) at b (path ++ s ∷ rest) = (path, rest, path_is, refl, goes) in
        let services_are : served_steps (done ++ s ∷ []) ++ more ≡ served_steps done ++ (s ∷ more) =
        ap (λ xs. xs ++ more) served_more ∙ append_assoc (served_steps done) (s ∷ []) more in
        let steps_are : joined' ++ rest ≡ joined ++ (path ++ s ∷ rest) =
        ap (λ xs. xs ++ rest) joined_is ∙ append_assoc joined (path ++ s ∷ []) rest ∙ ap (λ xs. joined ++ xs) (append_assoc path (s ∷ []) rest) in
        subst (λ xs. GoByLeastPaths p xs p.depot b (joined' ++ rest)) (sym services_are)
        (subst (λ xs. GoByLeastPaths p (served_steps done ++ s ∷ more) p.depot b xs) (sym steps_are) (so_far.paths (s ∷ more) b (path ++ s ∷ rest) next))

    pub joining_service : Joining p (done ++ s ∷ []) ahead joined' (head_of (edge_at p s.edge) s.forward)
    joining_service = record {
      at_in = head_in;
      leads = subst (λ xs. Leads p p.depot xs (head_of (edge_at p s.edge) s.forward)) (sym joined_is)
          (Leads-append p p.depot joined (adds.path.path ++ s ∷ []) at (head_of (edge_at p s.edge) s.forward) so_far.leads
          (Leads-more p at adds.path.path s (tail_of (edge_at p s.edge) s.forward) path_is.deadheads.leads ahead_number refl));
      served =
          ap served_steps joined_is ∙ filter-append (λ y. y.served) joined (adds.path.path ++ s ∷ [])
          ∙ ap (λ xs. served_steps joined ++ xs) (filter-append (λ y. y.served) adds.path.path (s ∷ [])
          ∙ ap (λ xs. xs ++ served_steps (s ∷ [])) (served_of adds.path.path path_is.deadheads.unserved) ∙ served_first s [] serves)
          ∙ ap (λ xs. xs ++ s ∷ []) so_far.served ∙ sym served_more;
      here = head_of (edge_at p s.edge) s.forward;
      gap = [];
      gap_leads = refl;
      ahead_leads = so_far.ahead_leads.2;
      paths = paths_more;
      cheapest = cheapest_more;
      short = omega (
        arith,
        so_far.short,
        path_is.short,
        valid.few_vertices,
        ap length joined_is,
        length-append joined (adds.path.path ++ s ∷ []),
        length_push adds.path.path s,
        ap length served_more,
        length_push (served_steps done) s,
      );
    }

-- at the end a path leads back to the depot
module _ (p : Problem) (valid : IsValid p) (walk joined : List Step) (at : ℕ) (so_far : Joining p walk [] joined at) where
  pub end_linked : NoneLead p at p.depot → ⊥
  end_linked none = none so_far.gap (subst (Leads p at so_far.gap) so_far.ahead_leads so_far.gap_leads)

  pub joining_done : (x : Priced) → x.problem ≡ p → x.prices ≡ costs_of p → (joined' : List Step) → AddsPath x at p.depot joined joined' → IsJoined p walk joined'
  joining_done x problem prices joined' adds =
      let path : IsLeastPath p (price_of (costs_of p)) at p.depot adds.path = rw (problem, prices) at adds.least in
      let same : served_steps joined' ≡ served_steps walk =
      ap served_steps adds.added ∙ filter-append (λ y. y.served) joined adds.path
      ∙ ap (λ xs. served_steps joined ++ xs) (served_of adds.path path.deadheads.unserved) ∙ append-nil (served_steps joined) ∙ so_far.served in
      record {
        leads = subst (λ xs. Leads p p.depot xs p.depot) (sym adds.added) (Leads-append p p.depot joined adds.path at p.depot so_far.leads path.deadheads.leads);
        served = same;
        paths = subst (λ xs. GoByLeastPaths p xs p.depot p.depot joined') (append-nil (served_steps walk) ∙ sym same)
            (subst (λ xs. GoByLeastPaths p (served_steps walk ++ []) p.depot p.depot xs) (sym adds.added) (so_far.paths [] p.depot adds.path path));
        cheapest = λ other leads is.
            omega (
              arith,
              so_far.cheapest other p.depot path.price leads (is ∙ same) path.least,
              ap (walk_cost p) adds.added,
              sum_by-append (step_cost p) joined adds.path,
              unserved_cost p at adds.path p.depot path.deadheads.leads path.deadheads.unserved,
              path.deadheads.costs,
            );
        short = omega (arith, so_far.short, path.short, valid.few_vertices, ap length adds.added, length-append joined adds.path);
      }

-- the same by places of the walk
pub served_within : (walk : List Step) (i : ℕ) → length (served_steps (take i walk)) ≤ length (served_steps walk)
served_within walk i =
    omega (arith, length-filter (λ s. s.served) (take i walk), length-filter (λ s. s.served) walk, sum_by-take-le (λ s. cond s.served 1 0) walk i)

module _ (p : Problem) (walk joined : List Step) (at i : ℕ) (in_range : i < length walk) (so_far : Joining p (take i walk) (drop i walk) joined at) where
  pub at_place : Joining p (take i walk) (get_or walk i no_step ∷ drop (i + 1) walk) joined at
  at_place = subst (λ xs. Joining p (take i walk) xs joined at) (drop_more walk i no_step in_range) so_far

  pub place_deadhead : (get_or walk i no_step).served ≡ false → Joining p (take (i + 1) walk) (drop (i + 1) walk) joined at
  place_deadhead unserved =
      subst (λ xs. Joining p xs (drop (i + 1) walk) joined at) (sym (take_more walk i no_step in_range))
      (joining_deadhead p (take i walk) (drop (i + 1) walk) joined at (get_or walk i no_step) at_place unserved)

  pub place_service : IsValid p → (x : Priced) → x.problem ≡ p → x.prices ≡ costs_of p → (s : Step) → s ≡ get_or walk i no_step → s.served ≡ true → (joined' : List Step) (at' : ℕ) →
      AddsService x at (tail_of (edge_at p s.edge) s.forward) s joined joined' → at' ≡ head_of (edge_at p s.edge) s.forward →
      Joining p (take (i + 1) walk) (drop (i + 1) walk) joined' at'
  place_service valid x problem prices s is serves joined' at' adds at_is =
      let here = subst (λ y. Joining p (take i walk) (y ∷ drop (i + 1) walk) joined at) (sym is) at_place in
      subst (Joining p (take (i + 1) walk) (drop (i + 1) walk) joined') (sym at_is)
      (subst (λ xs. Joining p xs (drop (i + 1) walk) joined' (head_of (edge_at p s.edge) s.forward)) (sym (take_more walk i no_step in_range ∙ ap (λ y. take i walk ++ y ∷ []) (sym is)))
      (joining_service p (take i walk) (drop (i + 1) walk) joined at s here valid serves x problem prices joined' adds))
