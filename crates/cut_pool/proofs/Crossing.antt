-- A closed walk crosses a set an even number of times, and at least twice where it serves an edge inside.
use Rattle.std.proofs.Common.{◌≡◌, ℕ, ◌+◌, ◌*◌, ◌/◌, ◌%◌, ◌≤◌, Bool, true, false, ◌&&◌, ◌||◌, not, cond, List, [], ◌∷◌, refl, ap, arith, inl, inr, ◌⊎◌}
use Rattle.std.specs.Prelude.{if◌then◌else◌}
use Rattle.std.specs.List.{sum_by, count_by, AllByRecursion}
use Rattle.std.proofs.lemmas.List.Sums.{sum_by-cons, sum_by-append, sum_by-le-sum_by}
use Rattle.std.proofs.lemmas.Grind.{div_ceil_times}
use Rattle.std.specs.Int.{div_ceil}
use Rattle.std.proofs.lemmas.Bool.{cases_Bool, cases_lt}
use Rattle.std.proofs.Math.Nat.{mul-le-mul_left}
use Rattle.carp_base.specs.Problem.{Problem, IsValid, edge_at, tail_of, head_of}
use Rattle.carp_base.specs.declared.edge.Edge.{Edge}
use Rattle.plan_model.specs.Plans.{IsLawful, IsLawfulWalk, Leads, steps_of, step_load, crosses}
use Rattle.plan_model.specs.declared.step.Step.{Step}
use Rattle.plan_model.specs.Laws.{ServedOnceByEdge}
use Rattle.cut_pool.specs.Shores.{touches, demand_inside, touched}
use Rattle.cut_pool.specs.Laws.{MeetsNeed}

abbrev pub bit : Bool → ℕ
bit b = cond b 1 0

-- a step of an edge crosses the set
abbrev pub step_crosses : Problem → (ℕ → Bool) → Step → Bool
step_crosses p inside s = crosses inside (edge_at p s.edge)

abbrev pub crossings : Problem → (ℕ → Bool) → List Step → ℕ
crossings p inside steps = count_by (step_crosses p inside) steps

-- what a step serves inside
abbrev pub load_inside : Problem → (ℕ → Bool) → Step → ℕ
load_inside p inside s = if s.served then demand_inside inside (edge_at p s.edge) else 0

edge_even : (u v : Bool) → (bit (if u then not v else v) + bit u + bit v) % 2 ≡ 0
edge_even true true = refl
edge_even true false = refl
edge_even false true = refl
edge_even false false = refl

bits_even : (b : Bool) → (0 + bit b + bit b) % 2 ≡ 0
bits_even true = refl
bits_even false = refl

step_even : (inside : ℕ → Bool) (x : Edge) (forward : Bool) →
    (bit (crosses inside x) + bit (inside (tail_of x forward)) + bit (inside (head_of x forward))) % 2 ≡ 0
step_even inside x true = edge_even (inside x.u) (inside x.v)
step_even inside x false = omega (arith, edge_even (inside x.u) (inside x.v))

pub walk_even : (p : Problem) (inside : ℕ → Bool) (a b : ℕ) (steps : List Step) → Leads p a steps b →
    (crossings p inside steps + bit (inside a) + bit (inside b)) % 2 ≡ 0
walk_even p inside a b [] leads = rw (← leads) (bits_even (inside a))
walk_even p inside a b (s ∷ steps) leads =
    let own = step_even inside (edge_at p s.edge) s.forward in
    let here = rw leads.1 at own in
    omega (arith, here, walk_even p inside (head_of (edge_at p s.edge) s.forward) b steps leads.2, sum_by-cons (λ x. bit (step_crosses p inside x)) s steps)

-- a walk that begins outside and crosses nothing serves nothing inside
quiet_edge : (u v : Bool) (d : ℕ) → u ≡ false → (if u then not v else v) ≡ false → (if u || v then d else 0) ≡ 0
quiet_edge true v d out quiet = cc
quiet_edge false true d out quiet = cc
quiet_edge false false d out quiet = refl

-- the other end of an edge that does not cross is outside too
quiet_end : (inside : ℕ → Bool) (x : Edge) (forward : Bool) → inside (tail_of x forward) ≡ false → crosses inside x ≡ false →
    (inside (head_of x forward) ≡ false) × (demand_inside inside x ≡ 0)
quiet_end inside x true out quiet = (ends (inside x.u) (inside x.v) out quiet, quiet_edge (inside x.u) (inside x.v) x.demand out quiet)
  where
    ends : (u v : Bool) → u ≡ false → (if u then not v else v) ≡ false → v ≡ false
    ends true v out quiet = cc
    ends false v out quiet = quiet
quiet_end inside x false out quiet = both (inside x.u) (inside x.v) x.demand out quiet
  where
    both : (u v : Bool) (d : ℕ) → v ≡ false → (if u then not v else v) ≡ false → (u ≡ false) × ((if u || v then d else 0) ≡ 0)
    both true true d out quiet = cc
    both true false d out quiet = cc
    both false true d out quiet = cc
    both false false d out quiet = (refl, refl)

serve_nothing : (b : Bool) (d : ℕ) → d ≡ 0 → (if b then d else 0) ≡ 0
serve_nothing true d none = none
serve_nothing false d none = refl

-- a walk that begins outside crosses, or serves nothing inside
pub crosses_or_quiet : (p : Problem) (inside : ℕ → Bool) (a b : ℕ) (steps : List Step) → Leads p a steps b → inside a ≡ false →
    (1 ≤ crossings p inside steps) ⊎ (sum_by (load_inside p inside) steps ≡ 0)
crosses_or_quiet p inside a b [] leads out = inr refl
crosses_or_quiet p inside a b (s ∷ steps) leads out =
    let count = sum_by-cons (λ x. bit (step_crosses p inside x)) s steps in
    let load = sum_by-cons (load_inside p inside) s steps in
    elim (cases_Bool (step_crosses p inside s)) [
      | inl over ↦ inl (omega (arith, count, ap bit over))
      | inr stays ↦
          let out' : inside (tail_of (edge_at p s.edge) s.forward) ≡ false = rw leads.1 out in
          let quiet = quiet_end inside (edge_at p s.edge) s.forward out' stays in
          elim (crosses_or_quiet p inside (head_of (edge_at p s.edge) s.forward) b steps leads.2 quiet.0) [
            | inl more ↦ inl (omega (arith, count))
            | inr none ↦ inr (omega (arith, load, none, serve_nothing s.served (demand_inside inside (edge_at p s.edge)) quiet.1))
          ]
    ]

inside_part : (b c : Bool) (d : ℕ) → (if b then (if c then d else 0) else 0) ≤ (if b then d else 0)
inside_part true true d = omega arith
inside_part true false d = omega arith
inside_part false c d = omega arith

-- one walk: twice what it serves inside is at most the capacity for each crossing
pub walk_pays : (p : Problem) (inside : ℕ → Bool) (walk : List Step) → IsLawfulWalk p walk → inside p.depot ≡ false →
    2 * sum_by (load_inside p inside) walk ≤ p.capacity * crossings p inside walk
walk_pays p inside walk lawful out =
    let even = rw out at (walk_even p inside p.depot p.depot walk lawful.leads) in
    let part = sum_by-le-sum_by (load_inside p inside) (step_load p) walk (λ s. inside_part s.served (touches inside (edge_at p s.edge)) _) in
    elim (crosses_or_quiet p inside p.depot p.depot walk lawful.leads out) [
      | inl once ↦ let two : 2 ≤ crossings p inside walk = omega (arith, even) in
          omega (arith, part, lawful.load, mul-le-mul_left p.capacity two)
      | inr none ↦ omega (arith, none)
    ]

-- the same for all walks
pub plan_pays : (p : Problem) (inside : ℕ → Bool) (plan : List (List Step)) → AllByRecursion (IsLawfulWalk p) plan → inside p.depot ≡ false →
    (2 * sum_by (load_inside p inside) (steps_of plan) ≤ p.capacity * crossings p inside (steps_of plan)) × (crossings p inside (steps_of plan) % 2 ≡ 0)
plan_pays p inside [] lawful out = (omega arith, refl)
plan_pays p inside (walk ∷ plan) lawful out =
    let even = rw out at (walk_even p inside p.depot p.depot walk lawful.0.leads) in
    let rest = plan_pays p inside plan lawful.1 out in
    let count = sum_by-append (λ x. bit (step_crosses p inside x)) walk (steps_of plan) in
    let load = sum_by-append (load_inside p inside) walk (steps_of plan) in
    (omega (arith, walk_pays p inside walk lawful.0 out, rest.0, load, ap (λ n. p.capacity * n) count), omega (arith, even, rest.1, count))

-- a crossing is by a service or by a deadhead
split_bit : (b c : Bool) → bit c ≡ (if b then bit c else 0) + bit (not b && c)
split_bit true true = refl
split_bit true false = refl
split_bit false true = refl
split_bit false false = refl

split_crossings : (p : Problem) (inside : ℕ → Bool) (steps : List Step) →
    crossings p inside steps ≡ sum_by (λ s. if s.served then bit (crosses inside (edge_at p s.edge)) else 0) steps + count_by (λ s. not s.served && crosses inside (edge_at p s.edge)) steps
split_crossings p inside [] = refl
split_crossings p inside (s ∷ steps) =
    omega (
      arith,
      split_crossings p inside steps,
      split_bit s.served (crosses inside (edge_at p s.edge)),
      sum_by-cons (λ x. bit (step_crosses p inside x)) s steps,
      sum_by-cons (λ x. if x.served then bit (crosses inside (edge_at p x.edge)) else 0) s steps,
      sum_by-cons (λ x. bit (not x.served && crosses inside (edge_at p x.edge))) s steps,
    )

-- twice the number of vehicles that a load takes
pub twice_ceil : (t q c : ℕ) → 1 ≤ q → c % 2 ≡ 0 → 2 * t ≤ q * c → 2 * div_ceil t q ≤ c
twice_ceil t q c some even pays =
    let half : c ≡ 2 * (c / 2) = omega (arith, even) in
    let pays' : 2 * t ≤ q * (2 * (c / 2)) = rw (← half) pays in
    elim (cases_lt (c / 2) (div_ceil t q)) [
      | inl above ↦
          let more : q * (c / 2 + 1) ≤ q * div_ceil t q = mul-le-mul_left q (omega (arith, above)) in
          absurd (omega (arith, (div_ceil_times t q some).1, more, pays'))
      | inr enough ↦ omega (arith, half, enough)
    ]

pub need_law : ServedOnceByEdge → (p : Problem) (inside : ℕ → Bool) (plan : List (List Step)) →
    IsValid p → IsLawful p plan → inside p.depot ≡ false → MeetsNeed p inside plan
need_law served_once p inside plan valid lawful out =
    let pays = plan_pays p inside plan lawful.walks out in
    let served = served_once p plan (λ x. bit (crosses inside x)) valid lawful in
    let loads = served_once p plan (demand_inside inside) valid lawful in
    let split = split_crossings p inside (steps_of plan) in
    let vehicles = twice_ceil (touched p inside) p.capacity (crossings p inside (steps_of plan)) valid.some_capacity pays.1 (rw loads at pays.0) in
    record {
      enough = omega (arith, split, served, vehicles, pays.1);
      parity = omega (arith, split, served, pays.1);
    }
