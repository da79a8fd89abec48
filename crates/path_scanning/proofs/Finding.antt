-- The first of the candidates, edge after edge.
use Rattle.std.proofs.Common.{◌≡◌, ℕ, ◌+◌, ◌≤◌, Bool, true, false, ◌-◌, get_or, inl, inr, refl, sym, ap, ◌∙◌, arith, subst}
use Rattle.std.specs.Prelude.{Option, None, Some}
use Rattle.std.proofs.lemmas.Bool.{cases_lt}
use Rattle.carp_base.specs.declared.edge.Task.{Task}
use Rattle.carp_base.specs.Problem.{Problem, IsValid, edge_at, tail_of, head_of}
use Rattle.deadhead_paths.specs.Prices.{IsLeastPrice, price_of, costs_of}
use Rattle.path_scanning.specs.declared.candidate.Candidate.{Candidate}
use Rattle.path_scanning.specs.declared.rule.Tie.{Tie}
use Rattle.path_scanning.specs.Ties.{TaskNoLater}
use Rattle.path_scanning.specs.Scans.{ScanMoment, FitsNext, IsMeasured, IsCandidate}
use Rattle.path_scanning.specs.Choosing.{IsFirstOf, IsFirstBelow, FindsFirst}
use Rattle.path_scanning.proofs.Taking.{flag_is}
use Rattle.path_scanning.proofs.Precedence.{no_later_over}

-- a least price is one number
least_once : (p : Problem) (q : ℕ → ℕ) (a b k n : ℕ) → IsLeastPrice p q a b k → IsLeastPrice p q a b n → k ≡ n
least_once p q a b k n first second = omega (arith, first.least n second.steps second.reached, second.least k first.steps first.reached)

made : Task → ℕ → ℕ → ℕ → ℕ → Candidate
made task near home service demand = record { task = task; near = near; home = home; service = service; demand = demand }

-- a task is measured in one way
pub measured_once : (p : Problem) (at : ℕ) (c d : Candidate) → IsMeasured p at c → IsMeasured p at d → c.task ≡ d.task → c ≡ d
unfolding made
measured_once p at c d mc md same =
    let q = price_of (costs_of p) in
    let from = λ (t : Task). tail_of (edge_at p t.edge) t.forward in
    let to = λ (t : Task). head_of (edge_at p t.edge) t.forward in
    let near : c.near ≡ d.near = least_once p q at (from c.task) c.near d.near mc.near (subst (λ t. IsLeastPrice p q at (from t) d.near) (sym same) md.near) in
    let home : c.home ≡ d.home = least_once p q (to c.task) p.depot c.home d.home mc.home (subst (λ t. IsLeastPrice p q (to t) p.depot d.home) (sym same) md.home) in
    let service : c.service ≡ d.service = mc.service ∙ ap (λ (t : Task). (edge_at p t.edge).service) same ∙ sym md.service in
    let demand : c.demand ≡ d.demand = mc.demand ∙ ap (λ (t : Task). (edge_at p t.edge).demand) same ∙ sym md.demand in
    ap (λ (t : Task). made t c.near c.home c.service c.demand) same ∙ ap (λ n. made d.task n c.home c.service c.demand) near ∙ ap (λ n. made d.task d.near n c.service c.demand) home
    ∙ ap (λ n. made d.task d.near d.home n c.demand) service ∙ ap (λ n. made d.task d.near d.home d.service n) demand

module _ (p : Problem) (valid : IsValid p) (tie : Tie) (m : ScanMoment) (e : ℕ) where
  some_demand : (c : Candidate) → IsCandidate p m c → 1 ≤ c.demand
  some_demand c can = omega (arith, can.measured.demand, (valid.tasks c.task.edge can.fits.required).some_demand)

  -- the first of both directions of the edge
  module _ (fits : FitsNext p m e) (forward backward next : Candidate) (forward_task : forward.task ≡ record { edge = e; forward = true }) (backward_task : backward.task ≡ record { edge = e; forward = false })
      (forward_measured : IsMeasured p m.at forward) (backward_measured : IsMeasured p m.at backward) (chosen : IsFirstOf tie forward backward next) where
    forward_can : IsCandidate p m forward
    forward_can = record { fits = rw forward_task fits; measured = forward_measured }

    backward_can : IsCandidate p m backward
    backward_can = record { fits = rw backward_task fits; measured = backward_measured }

    next_can : IsCandidate p m next
    next_can = elim chosen.one [ inl is ↦ subst (IsCandidate p m) (sym is) forward_can | inr is ↦ subst (IsCandidate p m) (sym is) backward_can ]

    next_first : (other : Candidate) → IsCandidate p m other → other.task.edge ≡ e → TaskNoLater tie next other
    next_first other can same = one other.task.forward refl
      where
        one : (b : Bool) → other.task.forward ≡ b → TaskNoLater tie next other
        one true is =
            let task : forward.task ≡ other.task = forward_task ∙ rw (← same, ← is) refl in
            subst (TaskNoLater tie next) (measured_once p m.at forward other forward_measured can.measured task) chosen.left
        one false is =
            let task : backward.task ≡ other.task = backward_task ∙ rw (← same, ← is) refl in
            subst (TaskNoLater tie next) (measured_once p m.at backward other backward_measured can.measured task) chosen.right

    pub found_first : FindsFirst p tie m e None → IsFirstBelow p tie m (e + 1) next
    found_first none = record {
      can = next_can;
      first = λ other can below. elim (cases_lt other.task.edge e) [
        | inl earlier ↦ absurd (none other.task.edge earlier can.fits)
        | inr last ↦ next_first other can (omega arith)
      ];
    }

    pub found_better : (best better : Candidate) → IsFirstBelow p tie m e best → IsFirstOf tie best next better → IsFirstBelow p tie m (e + 1) better
    found_better best better so_far of =
        let better_can : IsCandidate p m better = elim of.one [ inl is ↦ subst (IsCandidate p m) (sym is) so_far.can | inr is ↦ subst (IsCandidate p m) (sym is) next_can ] in
        record {
          can = better_can;
          first = λ other can below. elim (cases_lt other.task.edge e) [
            | inl earlier ↦ no_later_over tie better best other (some_demand better better_can) (some_demand best so_far.can) (some_demand other can) of.left (so_far.first other can earlier)
            | inr last ↦ no_later_over tie better next other (some_demand better better_can) (some_demand next next_can) (some_demand other can) of.right (next_first other can (omega arith))
          ];
        }

  -- the edge does not fit
  pub found_same : (FitsNext p m e → ⊥) → (found : Option Candidate) → FindsFirst p tie m e found → FindsFirst p tie m (e + 1) found
  found_same unfit None none = λ d below fits. elim (cases_lt d e) [
    | inl earlier ↦ none d earlier fits
    | inr last ↦ unfit (subst (FitsNext p m) (omega arith) fits)
  ]
  found_same unfit (Some c) so_far = record {
    can = so_far.can;
    first = λ other can below. elim (cases_lt other.task.edge e) [
      | inl earlier ↦ so_far.first other can earlier
      | inr last ↦ absurd (unfit (subst (FitsNext p m) (let is : other.task.edge ≡ e = omega arith in is) can.fits))
    ];
  }

  -- the edge fits
  pub fits_now : 1 ≤ e → e ≤ p.required → get_or m.served (e - 1) false ≡ false → m.load + (edge_at p e).demand ≤ p.capacity → FitsNext p m e
  fits_now from_one in_range flag room = record { required = record { from_one = from_one; in_range = in_range }; unserved = sym (flag_is m.served e from_one) ∙ flag; room = room }

  -- or its flag or its demand tells that it does not
  pub unfit_served : 1 ≤ e → get_or m.served (e - 1) false ≡ true → FitsNext p m e → ⊥
  unfit_served from_one flag fits = let both : true ≡ false = sym flag ∙ flag_is m.served e from_one ∙ fits.unserved in absurd (cc)
