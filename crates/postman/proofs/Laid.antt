-- A circuit that was laid is a round of little cost.
use Rattle.std.proofs.Common.{◌≡◌, ◌≢◌, ℕ, zero, suc, ◌+◌, ◌*◌, ◌≤◌, ◌==◌, ◌||◌, ◌&&◌, Bool, true, false, not, cond, eqb, List, [], ◌∷◌, length, get_or, replicate, refl, sym, ap, ◌∙◌, subst, arith, inl, inr, Option, None}
use Rattle.std.specs.Prelude.{if◌then◌else◌, nat_le, IsTrue}
use Rattle.std.specs.List.{AllByRecursion, count_by}
use Rattle.std.proofs.lemmas.Bool.{cases_Bool, cases_eq, ne_eqb, eq-eqb, eqb-true, false≢true, le-leb, leb-true, or_right}
use Rattle.std.proofs.lemmas.List.{length-replicate}
use Rattle.std.proofs.lemmas.List.Sums.{sum_by-cons}
use Rattle.carp_base.specs.declared.edge.Edge.{Edge}
use Rattle.carp_base.specs.declared.edge.Task.{Task}
use Rattle.carp_base.specs.Problem.{Problem, IsValid, IsEdgeNumber, IsRequired, TasksLead, edge_at, head_of, tail_of}
use Rattle.plan_model.specs.declared.step.Step.{Step}
use Rattle.plan_model.specs.Plans.{Leads, crosses, serves}
use Rattle.plan_model.specs.Sums.{sum_to}
use Rattle.road_network.specs.Incidence.{has_end}
use Rattle.cut_pool.specs.Shores.{required_crossings}
use Rattle.edge_components.specs.Parts.{parts_of, parts_over}
use Rattle.matching_duals.specs.Joins.{MakesEven}
use Rattle.postman.specs.Rounds.{AreJoined, idles}
use Rattle.postman.specs.Trails.{IsCheapRound, IsCircuit, IsLaid, IsSpent, IsStart, Spends, Stands, left_at, one_each, one_if, one_service, worth, worth_left, worth_of}
use Rattle.postman.proofs.Sums.{sum_to-add, sum_to-edge_at, sum_to-front, sum_to-most, sum_to-one, sum_to-same, sum_to-single, sum_to-zero}
use Rattle.postman.proofs.Walks.{on_edges}
use Rattle.postman.proofs.Worth.{ones, worth_start}

-- the circuit at the end of the loop
pub laid_from : (p : Problem) (start left next : List ℕ) (stack walk : List Step) (hand : Option ℕ) → hand ≡ None → worth_left p one_each start ≤ p.required + length p.edges →
    Stands p left next stack walk hand → Spends p start [] [] left stack walk → IsLaid p start left walk
laid_from p start left next stack walk hand none few stands spends =
    let circuit : IsCircuit p left stack walk = subst (λ (h : Option ℕ). Stands p left next stack walk h) none stands in
    record {
      closed = circuit.closed;
      passed = circuit.passed;
      at_depot = circuit.at_depot;
      spends = λ f. omega (arith, spends f, ap (worth_of f) circuit.empty);
      few = omega (arith, few, spends one_each, ones walk);
    }

pub zeros : (n k : ℕ) → ◌≡◌ {A = ℕ} (get_or (replicate n 0) k 0) 0
zeros zero k = refl
zeros (suc n) zero = refl
zeros (suc n) (suc k) = zeros n k

split_if : (b : Bool) (m n : ℕ) → (if b then m + n else 0) ≡ (if b then m else 0) + (if b then n else 0)
split_if true m n = refl
split_if false m n = refl

swap_if : (b c : Bool) → ◌≡◌ {A = ℕ} (if b then (if c then 1 else 0) else 0) (if c then cond b 1 0 else 0)
swap_if true true = refl
swap_if true false = refl
swap_if false true = refl
swap_if false false = refl

module _ (p : Problem) (valid : IsValid p) (deadheads start : List ℕ) (makes_even : MakesEven p deadheads) (once : (e : ℕ) → parts_of deadheads e ≤ 1)
    (long : length start ≡ length deadheads) (full : (e : ℕ) → IsEdgeNumber p e → parts_of start e ≡ parts_of deadheads e + one_service p e) where
  -- what is left at a vertex at the start
  left_at_start : (v : ℕ) → left_at p start v ≡ parts_over p deadheads (λ w. w == v) + required_crossings p (λ w. w == v)
  left_at_start v =
      let over : ℕ → Bool = λ e. crosses (λ w. w == v) (edge_at p e) in
      let n = length p.edges in
      omega (
        arith,
        sum_to-same n (λ e. if over e then parts_of start e else 0)
            (λ e. (if over e then parts_of deadheads e else 0) + (if nat_le e p.required then one_if (over e) else 0))
            (λ e one below. ap {B = ℕ} (λ k. if over e then k else 0) (full e (record { from_one = one; in_range = below }))
            ∙ split_if (over e) (parts_of deadheads e) (one_service p e)
            ∙ ap (λ k. (if over e then parts_of deadheads e else 0) + k) (swap_if (over e) (nat_le e p.required))),
        sum_to-add n (λ e. if over e then parts_of deadheads e else 0) (λ e. if nat_le e p.required then one_if (over e) else 0),
        sum_to-front n p.required (λ e. one_if (over e)) valid.required_in,
        sum_to-edge_at p (λ x. one_if (crosses (λ w. w == v) x)) p.required valid.required_in,
      )

  few_start : worth_left p one_each start ≤ p.required + length p.edges
  few_start =
      omega (
        arith,
        worth_start p one_each deadheads start valid.required_in once full,
        sum_to-most (length p.edges) 1 (λ e. parts_of deadheads e * 1) (λ e _ _. omega (arith, once e)),
        sum_to-most p.required 1 (λ _. 1) (λ e _ _. omega arith),
      )

  pub starts : (next : List ℕ) → next ≡ replicate (p.vertices + 1) 0 → IsStart p start next
  starts next is = record {
    long = long ∙ makes_even.one_each;
    wide = ap (λ (xs : List ℕ). length xs) is ∙ length-replicate (p.vertices + 1) 0;
    fresh = λ v. ap (λ (xs : List ℕ). get_or xs v 0) is ∙ zeros (p.vertices + 1) v;
    even = λ v vertex. omega (arith, left_at_start v, makes_even.even v vertex);
    few = few_start;
  }

  module _ (left : List ℕ) (walk : List Step) (laid : IsLaid p start left walk) where
    spent_by : (f : ℕ → Bool → ℕ) → worth_of f walk + worth_left p f left ≡ sum_to (length p.edges) (λ e. parts_of deadheads e * f e false) + sum_to p.required (λ e. f e true)
    spent_by f = laid.spends f ∙ worth_start p f deadheads start valid.required_in once full

    no_deadheads : (g : ℕ → ℕ) → ((e : ℕ) → g e ≡ 0) → sum_to (length p.edges) (λ e. parts_of deadheads e * g e) ≡ 0
    no_deadheads g none =
        sum_to-same (length p.edges) (λ e. parts_of deadheads e * g e) (λ _. 0) (λ e _ _. ap (λ k. parts_of deadheads e * k) (none e) ∙ omega arith)
        ∙ sum_to-zero (length p.edges)

    -- a required edge of which no crossing is left is served once
    module _ (e : ℕ) (required : IsRequired p e) (none : parts_of left e ≡ 0) where
      abbrev serving : ℕ → Bool → ℕ
      serving i b = cond (b && (i == e)) 1 0

      turned_test : (i : ℕ) → serving i true ≡ cond (eqb e i) 1 0
      turned_test i = elim (cases_eq i e) [
        | inl is ↦ ap {B = ℕ} (λ b. cond b 1 0) (eq-eqb i e is) ∙ sym (ap {B = ℕ} (λ b. cond b 1 0) (eq-eqb e i (sym is)))
        | inr other ↦ ap {B = ℕ} (λ b. cond b 1 0) (ne_eqb i e other) ∙ sym (ap {B = ℕ} (λ b. cond b 1 0) (ne_eqb e i (λ is. other (sym is))))
      ]

      other_test : (i : ℕ) → i ≢ e → (b : Bool) → serving i b ≡ 0
      other_test i other true = ap {B = ℕ} (λ b. cond b 1 0) (ne_eqb i e other)
      other_test i other false = refl

      nothing : (i n : ℕ) → i ≢ e → worth p serving i n ≡ 0
      nothing i zero other = refl
      nothing i (suc n) other = omega (arith, other_test i other (nat_le i p.required && (suc n == 1)), nothing i n other)

      none_left : worth_left p serving left ≡ 0
      none_left =
          sum_to-same (length p.edges) (λ i. worth p serving i (parts_of left i)) (λ _. 0)
          (λ i _ _. elim (cases_eq i e) [ inl is ↦ ap (λ k. worth p serving i k) (ap (parts_of left) is ∙ none) | inr other ↦ nothing i (parts_of left i) other ])
          ∙ sum_to-zero (length p.edges)

      served_once : count_by (serves e) walk ≡ 1
      served_once =
          omega (
            arith,
            spent_by serving,
            none_left,
            no_deadheads (λ i. serving i false) (λ i. refl),
            sum_to-same p.required (λ i. serving i true) (λ i. cond (eqb e i) 1 0) (λ i _ _. turned_test i),
            sum_to-single p.required e (λ _. 1) required.from_one required.in_range,
          )

    -- where the walk comes to, no crossing is left
    start_spent : (a : ℕ) (steps : List Step) (b : ℕ) → Leads p a steps b → AllByRecursion (λ s. IsSpent p left (tail_of (edge_at p s.edge) s.forward)) steps → IsSpent p left b → IsSpent p left a
    start_spent a [] b leads passed last = subst (λ v. IsSpent p left v) (sym leads) last
    start_spent a (s ∷ steps) b leads passed last = subst (λ v. IsSpent p left v) leads.1 passed.0

    either_end : (x : Edge) (f g : Bool) → IsSpent p left (tail_of x f) → IsSpent p left (head_of x f) → IsSpent p left (head_of x g)
    either_end x true true tail head = head
    either_end x true false tail head = tail
    either_end x false true tail head = tail
    either_end x false false tail head = head

    both_true : (b c : Bool) → (b && c) ≡ true → c ≡ true
    both_true true c is = is
    both_true false c is = absurd (false≢true is)

    ends_spent : (e : ℕ) (forward : Bool) (a : ℕ) (steps : List Step) (b : ℕ) → Leads p a steps b →
        AllByRecursion (λ s. IsSpent p left (tail_of (edge_at p s.edge) s.forward)) steps → IsSpent p left b → 1 ≤ count_by (serves e) steps →
        IsSpent p left (head_of (edge_at p e) forward)
    ends_spent e forward a [] b leads passed last some = absurd (omega (arith, some))
    ends_spent e forward a (s ∷ steps) b leads passed last some = elim (cases_Bool (serves e s)) [
      | inl here ↦
          let is : s.edge ≡ e = eqb-true s.edge e (both_true s.served (s.edge == e) here) in
          subst (λ i. IsSpent p left (head_of (edge_at p i) forward)) is
          (either_end (edge_at p s.edge) s.forward forward passed.0 (start_spent (head_of (edge_at p s.edge) s.forward) steps b leads.2 passed.1 last))
      | inr past ↦
          ends_spent e forward (head_of (edge_at p s.edge) s.forward) steps b leads.2 passed.1 last
          (omega (arith, some, sum_by-cons (λ t. cond (serves e t) 1 0) s steps, ap {B = ℕ} (λ t. cond t 1 0) past))
    ]

    has_tail : (x : Edge) (v : ℕ) (forward : Bool) → tail_of x forward ≡ v → has_end v x ≡ true
    has_tail x v true is = ap (λ b. b || eqb x.v v) (eq-eqb x.u v is)
    has_tail x v false is = or_right (eqb x.u v) (eqb x.v v) (eq-eqb x.v v is)

    path_spent : (a : ℕ) (path : List Task) (b : ℕ) → TasksLead p a path b → AllByRecursion (λ t. IsRequired p t.edge) path → IsSpent p left a → IsSpent p left b
    path_spent a [] b leads required first = subst (λ v. IsSpent p left v) leads first
    path_spent a (t ∷ path) b leads required first =
        let none = first t.edge leads.0 (has_tail (edge_at p t.edge) a t.forward leads.1) in
        path_spent (head_of (edge_at p t.edge) t.forward) path b leads.2 required.1
        (ends_spent t.edge t.forward p.depot walk p.depot laid.closed laid.passed laid.at_depot (omega (arith, served_once t.edge required.0 none)))

    -- no served step is on an edge that is not required
    abbrev astray : ℕ → Bool → ℕ
    astray i b = cond (b && not (nat_le i p.required)) 1 0

    none_astray : worth_of astray walk ≡ 0
    none_astray =
        omega (
          arith,
          spent_by astray,
          no_deadheads (λ i. astray i false) (λ i. refl),
          sum_to-same p.required (λ i. astray i true) (λ _. 0) (λ i _ below. ap {B = ℕ} (λ b. cond (not b) 1 0) (le-leb i p.required below)),
          sum_to-zero p.required,
        )

    is_required : (e : ℕ) (b : Bool) → IsEdgeNumber p e → astray e b ≡ 0 → IsTrue b → IsRequired p e
    is_required e b number none is =
        let in_range : nat_le e p.required ≡ true = elim (cases_Bool (nat_le e p.required)) [
          | inl yes_is ↦ yes_is
          | inr past ↦ absurd (omega (arith, none, ap (astray e) is, ap {B = ℕ} (λ c. cond (not c) 1 0) past))
        ] in
        record { from_one = number.from_one; in_range = leb-true e p.required in_range }

    all_required : (steps : List Step) → AllByRecursion (λ s. IsEdgeNumber p s.edge) steps → worth_of astray steps ≡ 0 →
        AllByRecursion (λ s. IsTrue s.served → IsRequired p s.edge) steps
    all_required [] numbers none = tt
    all_required (s ∷ steps) numbers none =
        let sum = sum_by-cons (λ t. astray t.edge t.served) s steps in
        (is_required s.edge s.served numbers.0 (omega (arith, none, sum)), all_required steps numbers.1 (omega (arith, none, sum)))

    -- a deadhead of each edge at most, so no more steps over it that do not serve
    abbrev idling : (e i : ℕ) → Bool → ℕ
    idling e i b = cond (not b && (i == e)) 1 0

    one_idle : (d : ℕ) (b : Bool) → d ≤ 1 → d * cond b 1 0 ≤ 1
    one_idle d true few = omega (arith, few)
    one_idle d false few = omega arith

    none_idle : (d : ℕ) (b : Bool) → b ≡ false → d * cond b 1 0 ≡ 0
    none_idle d b is = ap {B = ℕ} (λ c. d * cond c 1 0) is ∙ omega arith

    few_idle : (e : ℕ) → count_by (idles e) walk ≤ 1
    few_idle e =
        omega (
          arith,
          spent_by (idling e),
          sum_to-same p.required (λ i. idling e i true) (λ _. 0) (λ i _ _. refl),
          sum_to-zero p.required,
          sum_to-one (length p.edges) e (λ i. parts_of deadheads i * idling e i false) (λ i. one_idle (parts_of deadheads i) (i == e) (once i))
              (λ i other. none_idle (parts_of deadheads i) (i == e) (ne_eqb i e other)),
        )

    pub cheap_round : AreJoined p → p.required ≢ 0 → IsCheapRound p deadheads walk
    cheap_round joined some = record {
      is_round = record {
        leads = laid.closed;
        serves_required = all_required walk (on_edges p p.depot p.depot walk laid.closed) none_astray;
        once = λ e required.
            let way = joined e required in
            let number : IsEdgeNumber p e = record { from_one = required.from_one; in_range = omega (arith, required.in_range, valid.required_in) } in
            served_once e required
            (path_spent p.depot way.path (edge_at p e).u way.leads way.required laid.at_depot e number (has_tail (edge_at p e) (edge_at p e).u true refl));
      };
      cheap = omega (
        arith,
        spent_by (λ e b. if b then (edge_at p e).service else (edge_at p e).cost),
        sum_to-edge_at p (λ x. x.service) p.required valid.required_in,
      );
      few = laid.few;
      once_idle = few_idle;
      idle = λ none. absurd (some none);
    }
