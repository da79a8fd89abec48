-- Walks step by step: their last steps, what they cross, and sums over their steps by edges.
use Rattle.std.proofs.Common.{◌≡◌, ◌≢◌, ℕ, ◌+◌, ◌*◌, ◌%◌, ◌≤◌, ◌==◌, Bool, true, false, not, ◌&&◌, cond, List, [], ◌∷◌, ◌++◌, refl, sym, ap, ◌∙◌, arith, inl, inr}
use Rattle.std.specs.Prelude.{if◌then◌else◌, IsTrue}
use Rattle.std.specs.List.{AllByRecursion, count_by, sum_by}
use Rattle.std.proofs.lemmas.Bool.{cases_eq, ne_eqb, eq-eqb}
use Rattle.std.proofs.lemmas.List.Sums.{sum_by-cons}
use Rattle.carp_base.specs.declared.edge.Edge.{Edge}
use Rattle.carp_base.specs.Problem.{Problem, IsEdgeNumber, edge_at, head_of, tail_of}
use Rattle.plan_model.specs.declared.step.Step.{Step}
use Rattle.plan_model.specs.Plans.{Leads, crosses}
use Rattle.plan_model.specs.Sums.{sum_to}
use Rattle.postman.specs.Trails.{one_if, worth_of}
use Rattle.postman.proofs.Sums.{sum_to-add, sum_to-same, sum_to-single, sum_to-zero}

pub turned_tail : (x : Edge) (forward : Bool) → tail_of x (not forward) ≡ head_of x forward
turned_tail x true = refl
turned_tail x false = refl

pub turned_head : (x : Edge) (forward : Bool) → head_of x (not forward) ≡ tail_of x forward
turned_head x true = refl
turned_head x false = refl

-- one more step at the end
pub leads_more : (p : Problem) (a : ℕ) (steps : List Step) (s : Step) (b : ℕ) → Leads p a steps b → IsEdgeNumber p s.edge → tail_of (edge_at p s.edge) s.forward ≡ b →
    Leads p a (steps ++ s ∷ []) (head_of (edge_at p s.edge) s.forward)
leads_more p a [] s b leads number tail = (number, tail ∙ sym leads, refl)
leads_more p a (t ∷ steps) s b leads number tail = (leads.0, leads.1, leads_more p (head_of (edge_at p t.edge) t.forward) steps s b leads.2 number tail)

-- the last step of a walk
pub record IsLast (p : Problem) (a : ℕ) (steps : List Step) (s : Step) (b : ℕ) : Type 0 where
  pub leads : Leads p a steps (tail_of (edge_at p s.edge) s.forward)
  pub number : IsEdgeNumber p s.edge
  pub head : head_of (edge_at p s.edge) s.forward ≡ b

pub leads_last : (p : Problem) (a : ℕ) (steps : List Step) (s : Step) (b : ℕ) → Leads p a (steps ++ s ∷ []) b → IsLast p a steps s b
leads_last p a [] s b leads = record { leads = sym leads.1; number = leads.0; head = leads.2 }
leads_last p a (t ∷ steps) s b leads =
    let rest = leads_last p (head_of (edge_at p t.edge) t.forward) steps s b leads.2 in
    record { leads = (leads.0, leads.1, rest.leads); number = rest.number; head = rest.head }

pub all_push : (P : Step → Type 0) (steps : List Step) (s : Step) → AllByRecursion P steps → P s → AllByRecursion P (steps ++ s ∷ [])
all_push P [] s all last = (last, tt)
all_push P (t ∷ steps) s all last = (all.0, all_push P steps s all.1 last)

pub all_map : (P Q : Step → Type 0) (steps : List Step) → ((s : Step) → P s → Q s) → AllByRecursion P steps → AllByRecursion Q steps
all_map P Q [] goes all = tt
all_map P Q (s ∷ steps) goes all = (goes s all.0, all_map P Q steps goes all.1)

pub on_edges : (p : Problem) (a b : ℕ) (steps : List Step) → Leads p a steps b → AllByRecursion (λ s. IsEdgeNumber p s.edge) steps
on_edges p a b [] leads = tt
on_edges p a b (s ∷ steps) leads = (leads.0, on_edges p (head_of (edge_at p s.edge) s.forward) b steps leads.2)

-- an edge crosses the border of a set where one end alone lies inside
bits : (b c : Bool) → (cond (if b then not c else c) 1 0 + cond b 1 0 + cond c 1 0) % 2 ≡ 0
bits true true = refl
bits true false = refl
bits false true = refl
bits false false = refl

crossing_parity : (inside : ℕ → Bool) (x : Edge) (forward : Bool) →
    (one_if (crosses inside x) + one_if (inside (tail_of x forward)) + one_if (inside (head_of x forward))) % 2 ≡ 0
crossing_parity inside x true = bits (inside x.u) (inside x.v)
crossing_parity inside x false = omega (arith, bits (inside x.u) (inside x.v))

both : (b : Bool) (n : ℕ) → (if b then n else n) ≡ n
both true n = refl
both false n = refl

-- whether a step crosses the border, whether it serves or not
abbrev pub over : Problem → (ℕ → Bool) → ℕ → ℕ
over p inside e = one_if (crosses inside (edge_at p e))

-- a walk crosses the border an even number of times, but for its two ends
pub walk_parity : (p : Problem) (inside : ℕ → Bool) (a : ℕ) (steps : List Step) (b : ℕ) → Leads p a steps b →
    (worth_of (λ e served. if served then over p inside e else over p inside e) steps + one_if (inside a) + one_if (inside b)) % 2 ≡ 0
walk_parity p inside a [] b leads = omega (arith, ap (λ v. one_if (inside v)) leads)
walk_parity p inside a (s ∷ steps) b leads =
    omega (
      arith,
      walk_parity p inside (head_of (edge_at p s.edge) s.forward) steps b leads.2,
      sum_by-cons (λ t. if t.served then over p inside t.edge else over p inside t.edge) s steps,
      both s.served (over p inside s.edge),
      crossing_parity inside (edge_at p s.edge) s.forward,
      ap (λ v. one_if (inside v)) leads.1,
    )

-- an edge crosses the border of one vertex where it ends there
first_and_second : (x : Edge) (v : ℕ) → x.u ≢ x.v → one_if (crosses (λ w. w == v) x) ≡ one_if (x.u == v) + one_if (x.v == v)
first_and_second x v no_loop = elim (cases_eq x.u v) [
  | inl first ↦ rw (eq-eqb x.u v first, ne_eqb x.v v (λ second. no_loop (first ∙ sym second))) refl
  | inr other ↦ rw (ne_eqb x.u v other) (omega arith)
]

pub ends_count : (x : Edge) (forward : Bool) (v : ℕ) → x.u ≢ x.v →
    one_if (crosses (λ w. w == v) x) ≡ one_if (tail_of x forward == v) + one_if (head_of x forward == v)
ends_count x true v no_loop = first_and_second x v no_loop
ends_count x false v no_loop = omega (arith, first_and_second x v no_loop)

-- sums over a walk, served steps and others apart
pub split : (g h : ℕ → ℕ) (steps : List Step) →
    worth_of (λ e served. if served then g e else h e) steps ≡ sum_by (λ s. if s.served then g s.edge else 0) steps + sum_by (λ s. if not s.served then h s.edge else 0) steps
split g h [] = refl
split g h (s ∷ steps) =
    omega (
      arith,
      split g h steps,
      sum_by-cons (λ t. if t.served then g t.edge else h t.edge) s steps,
      sum_by-cons (λ t. if t.served then g t.edge else 0) s steps,
      sum_by-cons (λ t. if not t.served then h t.edge else 0) s steps,
      one s.served (g s.edge) (h s.edge),
    )
  where
    one : (b : Bool) (m n : ℕ) → (if b then m else n) ≡ (if b then m else 0) + (if not b then n else 0)
    one true m n = omega arith
    one false m n = omega arith

-- one step gives the term of its own edge, where it passes the test
term : (m : ℕ) (g : ℕ → ℕ) (b : Bool) (e : ℕ) → (IsTrue b → (1 ≤ e) × (e ≤ m)) → cond b (g e) 0 ≡ sum_to m (λ i. cond (b && (e == i)) (g i) 0)
term m g true e within = let h : (1 ≤ e) × (e ≤ m) = within refl in sym (sum_to-single m e g h.0 h.1)
term m g false e within = sym (sum_to-zero m)

one_more : (b : Bool) (n g : ℕ) → cond b g 0 + n * g ≡ (cond b 1 0 + n) * g
one_more true n g = omega arith
one_more false n g = omega arith

-- over the steps that pass a test: each edge's term, as often as it is crossed so
pub by_edges : (q : Bool → Bool) (m : ℕ) (g : ℕ → ℕ) (steps : List Step) → AllByRecursion (λ s. IsTrue (q s.served) → (1 ≤ s.edge) × (s.edge ≤ m)) steps →
    sum_by (λ s. if q s.served then g s.edge else 0) steps ≡ sum_to m (λ e. count_by (λ s. q s.served && (s.edge == e)) steps * g e)
by_edges q m g [] all = sym (sum_to-same m (λ e. 0 * g e) (λ _. 0) (λ e _ _. omega arith) ∙ sum_to-zero m)
by_edges q m g (s ∷ steps) all =
    let test : ℕ → Step → Bool = λ e x. q x.served && (x.edge == e) in
    omega (
      arith,
      sum_by-cons (λ x. if q x.served then g x.edge else 0) s steps,
      term m g (q s.served) s.edge all.0,
      by_edges q m g steps all.1,
      sum_to-add m (λ e. cond (test e s) (g e) 0) (λ e. count_by (test e) steps * g e),
      sum_to-same m (λ e. cond (test e s) (g e) 0 + count_by (test e) steps * g e) (λ e. count_by (test e) (s ∷ steps) * g e)
          (λ e _ _. one_more (test e s) (count_by (test e) steps) (g e) ∙ ap (λ n. n * g e) (sym (sum_by-cons (λ x. cond (test e x) 1 0) s steps))),
    )
