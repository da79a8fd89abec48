-- What crossings that are left are worth, and what one crossing less changes.
use Rattle.std.proofs.Common.{◌≡◌, ◌≢◌, ℕ, zero, suc, ◌+◌, ◌-◌, ◌*◌, ◌≤◌, ◌==◌, ◌&&◌, Bool, true, false, cond, List, [], ◌∷◌, length, get_or, set, refl, ap, ◌∙◌, arith, inl, inr}
use Rattle.std.specs.Prelude.{if◌then◌else◌, nat_le}
use Rattle.std.proofs.lemmas.Bool.{cases_eq}
use Rattle.std.proofs.lemmas.List.{get_or-set_same, get_or-set_other}
use Rattle.std.proofs.lemmas.List.Sums.{sum_by-cons}
use Rattle.carp_base.specs.Problem.{Problem, IsEdgeNumber, edge_at}
use Rattle.plan_model.specs.declared.step.Step.{Step}
use Rattle.plan_model.specs.Plans.{crosses}
use Rattle.plan_model.specs.Sums.{sum_to}
use Rattle.edge_components.specs.Parts.{parts_of}
use Rattle.postman.specs.Trails.{IsSpent, is_service, left_at, one_each, one_if, one_service, worth, worth_left, worth_of}
use Rattle.postman.proofs.Sums.{sum_to-add, sum_to-at, sum_to-front, sum_to-same}

-- the parts of an edge, as the code reads them
pub parts_read : (x : List ℕ) (e : ℕ) → 1 ≤ e → parts_of x e ≡ get_or x (e - 1) 0
parts_read x zero one = absurd (omega (arith, one))
parts_read x (suc k) one = let is : suc k - 1 ≡ k = omega arith in rw is refl

parts_set : (x : List ℕ) (e n : ℕ) → 1 ≤ e → e ≤ length x → parts_of (set x (e - 1) n) e ≡ n
parts_set x e n one below = parts_read (set x (e - 1) n) e one ∙ get_or-set_same x (e - 1) n 0 (omega (arith, one, below))

parts_set_other : (x : List ℕ) (e n i : ℕ) → 1 ≤ e → i ≢ e → parts_of (set x (e - 1) n) i ≡ parts_of x i
parts_set_other x e n zero one other = refl
parts_set_other x e n (suc k) one other = get_or-set_other x (e - 1) k n 0 (λ same. other (omega (arith, same, one)))

pub ones : (steps : List Step) → worth_of one_each steps ≡ length steps
ones [] = refl
ones (s ∷ steps) = omega (arith, ones steps, sum_by-cons (λ t. one_each t.edge t.served) s steps)

one_less : (b : Bool) (n : ℕ) → (if b then suc n else 0) ≡ (if b then n else 0) + cond b 1 0
one_less true n = omega arith
one_less false n = refl

-- an edge is crossed, so that n crossings of it are left
module _ (p : Problem) (left : List ℕ) (e n : ℕ) (number : IsEdgeNumber p e) (long : length left ≡ length p.edges) (some : parts_of left e ≡ suc n) where
  abbrev after : List ℕ
  after = set left (e - 1) n

  now : parts_of after e ≡ n
  now = parts_set left e n number.from_one (omega (arith, number.in_range, long))

  same : (i : ℕ) → i ≢ e → parts_of after i ≡ parts_of left i
  same i other = parts_set_other left e n i number.from_one other

  pub worth_less : (f : ℕ → Bool → ℕ) → worth_left p f after + f e (is_service p e (suc n)) ≡ worth_left p f left
  worth_less f =
      omega (
        arith,
        sum_to-at (length p.edges) e (λ i. worth p f i (parts_of after i)) (λ i. worth p f i (parts_of left i)) (λ i other. ap (worth p f i) (same i other))
            number.from_one number.in_range,
        ap (worth p f e) now,
        ap (worth p f e) some,
      )

  pub at_less : (v : ℕ) → left_at p after v + one_if (crosses (λ w. w == v) (edge_at p e)) ≡ left_at p left v
  at_less v =
      let over : ℕ → Bool = λ i. crosses (λ w. w == v) (edge_at p i) in
      omega (
        arith,
        sum_to-at (length p.edges) e (λ i. if over i then parts_of after i else 0) (λ i. if over i then parts_of left i else 0)
            (λ i other. ap (λ k. if over i then k else 0) (same i other)) number.from_one number.in_range,
        ap {B = ℕ} (λ k. if over e then k else 0) now,
        ap {B = ℕ} (λ k. if over e then k else 0) some,
        one_less (over e) n,
      )

  pub none_stays : (i : ℕ) → parts_of left i ≡ 0 → parts_of after i ≡ 0
  none_stays i none = elim (cases_eq i e) [
    | inl is ↦ absurd (omega (arith, none, some, ap (parts_of left) is))
    | inr other ↦ same i other ∙ none
  ]

  pub spent_stays : (v : ℕ) → IsSpent p left v → IsSpent p after v
  spent_stays v spent = λ i within there. none_stays i (spent i within there)

-- before the first crossing: the deadheads, each at most one, and the services
cost_of_one : (req : Bool) (f : Bool → ℕ) (d n : ℕ) → d ≤ 1 → n ≡ d + (if req then 1 else 0) → (g : ℕ → ℕ) → g 0 ≡ 0 → g 1 ≡ f (req && (1 == 1)) + g 0 →
    g 2 ≡ f (req && (2 == 1)) + g 1 → g n ≡ d * f false + (if req then f true else 0)
cost_of_one true f zero n few is g none one two = omega (arith, ap g is, none, one)
cost_of_one true f (suc zero) n few is g none one two = omega (arith, ap g is, none, one, two)
cost_of_one false f zero n few is g none one two = omega (arith, ap g is, none)
cost_of_one false f (suc zero) n few is g none one two = omega (arith, ap g is, none, one)
cost_of_one req f (suc (suc d)) n few is g none one two = absurd (omega (arith, few))

pub worth_start : (p : Problem) (f : ℕ → Bool → ℕ) (deadheads left : List ℕ) → p.required ≤ length p.edges → ((e : ℕ) → parts_of deadheads e ≤ 1) →
    ((e : ℕ) → IsEdgeNumber p e → parts_of left e ≡ parts_of deadheads e + one_service p e) →
    worth_left p f left ≡ sum_to (length p.edges) (λ e. parts_of deadheads e * f e false) + sum_to p.required (λ e. f e true)
worth_start p f deadheads left short once full =
    omega (
      arith,
      sum_to-same (length p.edges) (λ e. worth p f e (parts_of left e)) (λ e. parts_of deadheads e * f e false + (if nat_le e p.required then f e true else 0))
          (λ e one below. cost_of_one (nat_le e p.required) (f e) (parts_of deadheads e) (parts_of left e) (once e)
          (full e (record { from_one = one; in_range = below })) (worth p f e) refl refl refl),
      sum_to-add (length p.edges) (λ e. parts_of deadheads e * f e false) (λ e. if nat_le e p.required then f e true else 0),
      sum_to-front (length p.edges) p.required (λ e. f e true) short,
    )
