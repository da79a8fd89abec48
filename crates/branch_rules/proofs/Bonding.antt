-- No lawful plan has more bonds in a group than the group has room for.
use Rattle.std.proofs.Common.{◌≡◌, ◌≢◌, ℕ, zero, suc, ◌+◌, ◌-◌, ◌*◌, ◌≤◌, ◌==◌, Bool, true, false, ◌&&◌, ◌||◌, cond, List, [], ◌∷◌, length, refl, sym, ap, ◌∙◌, arith, inl, inr, ◌⊎◌}
use Rattle.std.specs.Prelude.{if◌then◌else◌}
use Rattle.std.specs.List.{AllByRecursion, sum_by}
use Rattle.std.proofs.lemmas.Bool.{cases_Bool, cases_eq, cases_lt, ne_eqb, eq-eqb, eqb-true, false≢true}
use Rattle.std.proofs.lemmas.Grind.{div_ceil_times}
use Rattle.std.proofs.lemmas.List.Sums.{sum_by-cons, sum_by-append, sum_by-le-sum_by}
use Rattle.std.proofs.Math.Nat.{mul-le-mul_left}
use Rattle.carp_base.specs.Problem.{Problem, IsValid, IsRequired, edge_at, no_edge}
use Rattle.carp_base.specs.declared.edge.Edge.{Edge}
use Rattle.std.proofs.lemmas.List.{get_or_past}
use Rattle.plan_model.specs.Plans.{IsLawful, IsLawfulWalk, steps_of, step_load}
use Rattle.plan_model.specs.declared.step.Step.{Step}
use Rattle.plan_model.specs.Laws.{ServedOnceByNumber}
use Rattle.plan_model.specs.Sums.{sum_to}
use Rattle.deadhead_paths.specs.Tidy.{served_steps}
use Rattle.decision_chains.specs.Neighbours.{served_edges}
use Rattle.cut_pool.specs.Shores.{vehicles}
use Rattle.branch_rules.specs.Bonds.{is_of, bonds_after, bonds, plan_bonds, group_demand}
use Rattle.branch_rules.proofs.Services.{map-cond}

-- sums that agree, and sums that differ at one number alone
sum_to-same : (m : ℕ) (f g : ℕ → ℕ) → ((e : ℕ) → 1 ≤ e → e ≤ m → f e ≡ g e) → sum_to m f ≡ sum_to m g
sum_to-same zero f g same = refl
sum_to-same (suc m) f g same = omega (arith, sum_to-same m f g (λ e one below. same e one (omega arith)), same (suc m) (omega arith) (omega arith))

sum_to-more : (m x n : ℕ) (f g : ℕ → ℕ) → 1 ≤ x → x ≤ m → ((e : ℕ) → e ≢ x → g e ≡ f e) → g x ≡ f x + n → sum_to m g ≡ sum_to m f + n
sum_to-more zero x n f g one most others own = absurd (omega arith)
sum_to-more (suc m) x n f g one most others own = elim (cases_eq x (suc m)) [
  | inl is ↦
      let here : g (suc m) ≡ f (suc m) + n = rw (← is) own in
      omega (arith, here, sum_to-same m g f (λ e from below. others e (λ same. omega (arith, same, is, below))))
  | inr other ↦ omega (arith, sum_to-more m x n f g one (omega (arith, other)) others own, others (suc m) (λ same. other (sym same)))
]

abbrev pub demand : Problem → ℕ → ℕ
demand p e = (edge_at p e).demand

abbrev pub bit : Bool → ℕ
bit b = cond b 1 0

sum_to-zero : (m : ℕ) → sum_to m (λ _. 0) ≡ 0
sum_to-zero zero = refl
sum_to-zero (suc m) = omega (arith, sum_to-zero m)

module _ (group : List ℕ) where
  abbrev has : ℕ → Bool
  has e = is_of group e

  -- how many of the edges are of the group
  abbrev members : List ℕ → ℕ
  members [] = 0
  members (e ∷ es) = bit (has e) + members es

  after_most : (h k : Bool) → bit (h && k) ≤ bit k
  after_most true true = omega arith
  after_most true false = omega arith
  after_most false true = omega arith
  after_most false false = omega arith

  few_after : (e : ℕ) (es : List ℕ) → bonds_after group e es ≤ members es
  few_after e [] = omega arith
  few_after e (f ∷ es) = omega (arith, after_most (has e) (has f), few_after f es)

  -- there are fewer bonds than edges, if there are edges
  short : (es : List ℕ) → members es ≤ length es
  short [] = omega arith
  short (e ∷ es) = omega (arith, one_more_most (has e), short es)
    where
      one_more_most : (b : Bool) → bit b ≤ 1
      one_more_most true = omega arith
      one_more_most false = omega arith

  pub bonds_short : (e : ℕ) (es : List ℕ) → bonds group (e ∷ es) ≤ length es
  bonds_short e es = omega (arith, few_after e es, short es)

  first_not : (h k : Bool) → h ≡ false → bit (h && k) ≡ 0
  first_not true k not = cc
  first_not false k not = refl

  none_after : (e : ℕ) (es : List ℕ) → has e ≡ false → bonds_after group e es ≡ bonds group es
  none_after e [] not = refl
  none_after e (f ∷ es) not = omega (arith, first_not (has e) (has f) not)

  -- k edges of the group in one order have at most k - 1 bonds, where k is not 0
  pub few_bonds : (es : List ℕ) → ((bonds group es ≡ 0) × (members es ≡ 0)) ⊎ (bonds group es + 1 ≤ members es)
  few_bonds [] = inl (refl, refl)
  few_bonds (e ∷ es) = elim (cases_Bool (has e)) [
    | inl is ↦
        let one : bit (has e) ≡ 1 = ap bit is in
        inr (omega (arith, few_after e es, one))
    | inr not ↦
        let one : bit (has e) ≡ 0 = ap bit not in
        elim (few_bonds es) [
          | inl none ↦ inl (omega (arith, none_after e es not, none.0), omega (arith, one, none.1))
          | inr few ↦ inr (omega (arith, none_after e es not, one, few))
        ]
  ]

  -- a step that serves an edge of the group
  abbrev pub counts : Step → ℕ
  counts s = if s.served then (bit (has s.edge)) else 0

  counted : (b : Bool) (x n : ℕ) (rest : List ℕ) → n ≡ members rest → cond b (bit (has x)) 0 + n ≡ members (cond b (x ∷ rest) rest)
  counted true x n rest same = omega (arith, same)
  counted false x n rest same = omega (arith, same)

  -- the services of a walk on edges of the group are the members among the edges that it serves
  services_in : (walk : List Step) → sum_by counts walk ≡ members (served_edges walk)
  services_in [] = refl
  services_in (s ∷ walk) =
      sum_by-cons counts s walk
      ∙ counted s.served s.edge _ (served_edges walk) (services_in walk)
      ∙ ap members (sym (map-cond (λ x. x.edge) s.served s (served_steps walk)))

  module _ (p : Problem) where
    -- what a step serves of the group
    abbrev pub loads : Step → ℕ
    loads s = if s.served then (cond (has s.edge) (demand p s.edge) 0) else 0

    part : (b h : Bool) (d : ℕ) → cond b (cond h d 0) 0 ≤ cond b d 0
    part true true d = omega arith
    part true false d = omega arith
    part false h d = omega arith

    none : (b h : Bool) (d : ℕ) → cond b (bit h) 0 ≡ 0 → cond b (cond h d 0) 0 ≡ 0
    none true true d is = absurd (omega (arith, is))
    none true false d is = refl
    none false h d is = refl

    -- a walk without services in the group carries nothing of it
    empty : (walk : List Step) → sum_by counts walk ≡ 0 → sum_by loads walk ≡ 0
    empty [] is = refl
    empty (s ∷ walk) is =
        let more = sum_by-cons counts s walk in
        omega (
          arith,
          sum_by-cons loads s walk,
          none s.served (has s.edge) (demand p s.edge) (omega (arith, more, is)),
          empty walk (omega (arith, more, is)),
        )

    -- so many vehicles serve some edge of the group: they carry what is served of it, and each begins it anew
    pub record Begun (plan : List (List Step)) : Type 0 where
      pub begins : ℕ
      pub carried : sum_by loads (steps_of plan) ≤ p.capacity * begins
      pub bonded : plan_bonds group plan + begins ≤ sum_by counts (steps_of plan)

    pub begun : (plan : List (List Step)) → AllByRecursion (IsLawfulWalk p) plan → Begun plan
    begun [] all = record { begins = 0; carried = omega arith; bonded = omega arith }
    begun (walk ∷ plan) all =
        let rest = begun plan all.1 in
        let count = sum_by-append counts walk (steps_of plan) in
        let load = sum_by-append loads walk (steps_of plan) in
        let more = sum_by-cons (λ w. bonds group (served_edges w)) walk plan in
        let in_walk = services_in walk in
        elim (few_bonds (served_edges walk)) [
          | inl idle ↦
              let nothing : sum_by loads walk ≡ 0 = empty walk (in_walk ∙ idle.1) in
              record {
                begins = rest.begins;
                carried = omega (arith, load, nothing, rest.carried);
                bonded = omega (arith, more, count, idle.0, rest.bonded);
              }
          | inr few ↦
              let most = sum_by-le-sum_by loads (step_load p) walk (λ s. part s.served (has s.edge) (demand p s.edge)) in
              record {
                begins = rest.begins + 1;
                carried = omega (arith, load, most, all.0.load, rest.carried);
                bonded = omega (arith, more, count, in_walk, few, rest.bonded);
              }
        ]

-- the sums over the required edges that are of a list, beside the sums over the list
module _ (p : Problem) (valid : IsValid p) where
  abbrev pick : List ℕ → (ℕ → ℕ) → ℕ → ℕ
  pick group f e = cond (is_of group e) (f e) 0

  or_of : (b c : Bool) (n : ℕ) → (b ≡ true → c ≡ true) → cond (b || c) n 0 ≡ cond c n 0
  or_of true true n there = refl
  or_of true false n there = absurd (false≢true (there refl))
  or_of false c n there = refl

  -- an edge that is of the list already changes nothing
  again : (x : ℕ) (group : List ℕ) (f : ℕ → ℕ) → is_of group x ≡ true → (e : ℕ) → pick (x ∷ group) f e ≡ pick group f e
  again x group f there e = or_of (x == e) (is_of group e) (f e) (λ same. ap (is_of group) (sym (eqb-true x e same)) ∙ there)

  -- nor does a new one at the other numbers
  aside : (x : ℕ) (group : List ℕ) (f : ℕ → ℕ) (e : ℕ) → e ≢ x → pick (x ∷ group) f e ≡ pick group f e
  aside x group f e other = ap {B = ℕ} (λ b. cond (b || is_of group e) (f e) 0) (ne_eqb x e (λ same. other (sym same)))

  new_here : (x : ℕ) (group : List ℕ) (f : ℕ → ℕ) → is_of group x ≡ false → pick (x ∷ group) f x ≡ pick group f x + f x
  new_here x group f new =
      ap {B = ℕ} (λ b. cond (b || is_of group x) (f x) 0) (eq-eqb x x refl)
      ∙ sym (ap {B = ℕ} (λ b. cond b (f x) 0 + f x) new ∙ omega arith)

  demand_in : (e : ℕ) → 1 ≤ e → e ≤ p.required → demand p e ≤ p.capacity
  demand_in e one most = (valid.tasks e (record { from_one = one; in_range = most })).demand_fits

  demand_out : (e : ℕ) → ¬ (IsRequired p e) → demand p e ≡ 0
  demand_out zero not = refl
  demand_out (suc k) not = elim (cases_lt k (length p.edges)) [
    | inl within ↦ elim (cases_lt p.required (suc k)) [
      | inl other ↦ (valid.idle (suc k) (record { from_one = omega arith; in_range = omega (arith, within) }) other).no_demand
      | inr required ↦ absurd (not (record { from_one = omega arith; in_range = required }))
    ]
    | inr past ↦ ap (λ (x : Edge). x.demand) (get_or_past p.edges k no_edge (omega (arith, past)))
  ]

  abbrev count : List ℕ → ℕ
  count group = sum_to p.required (pick group (λ _. 1))

  abbrev load : List ℕ → ℕ
  load group = sum_to p.required (pick group (demand p))

  -- the required edges of a list are no more than it is long, and each number besides weighs no more than a vehicle carries
  record Held (group : List ℕ) : Type 0 where
    few : count group ≤ length group
    heavy : group_demand p group + p.capacity * count group ≤ load group + p.capacity * length group

  either : (x : ℕ) → IsRequired p x ⊎ ¬ (IsRequired p x)
  either x = elim (cases_lt p.required x) [
    | inl past ↦ inr (λ is. omega (arith, past, is.in_range))
    | inr within ↦ elim (cases_lt 0 x) [
      | inl some ↦ inl (record { from_one = some; in_range = within })
      | inr none ↦ inr (λ is. omega (arith, none, is.from_one))
    ]
  ]

  demand_most : (x : ℕ) → demand p x ≤ p.capacity
  demand_most x = elim (either x) [
    | inl is ↦ demand_in x is.from_one is.in_range
    | inr not ↦ omega (arith, demand_out x not)
  ]

  -- nothing is picked twice, or besides the required edges
  held_same : (x : ℕ) (group : List ℕ) → ((f : ℕ → ℕ) (e : ℕ) → 1 ≤ e → e ≤ p.required → pick (x ∷ group) f e ≡ pick group f e) → Held group → Held (x ∷ group)
  held_same x group same own =
      let counts = sum_to-same p.required (pick (x ∷ group) (λ _. 1)) (pick group (λ _. 1)) (same (λ _. 1)) in
      let loads_same = sum_to-same p.required (pick (x ∷ group) (demand p)) (pick group (demand p)) (same (demand p)) in
      record {
        few = omega (arith, counts, own.few);
        heavy = omega (arith, own.heavy, loads_same, ap (λ n. p.capacity * n) counts, sum_by-cons (demand p) x group, demand_most x);
      }

  held_more : (x : ℕ) (group : List ℕ) → IsRequired p x → is_of group x ≡ false → Held group → Held (x ∷ group)
  held_more x group is new own =
      let counts = sum_to-more p.required x 1 (pick group (λ _. 1)) (pick (x ∷ group) (λ _. 1)) is.from_one is.in_range (aside x group (λ _. 1)) (new_here x group (λ _. 1) new) in
      let loads_more = sum_to-more p.required x (demand p x) (pick group (demand p)) (pick (x ∷ group) (demand p)) is.from_one is.in_range (aside x group (demand p)) (new_here x group (demand p) new) in
      record {
        few = omega (arith, counts, own.few);
        heavy = omega (arith, own.heavy, loads_more, ap (λ n. p.capacity * n) counts, sum_by-cons (demand p) x group);
      }

  held : (group : List ℕ) → Held group
  held [] = record { few = omega (arith, sum_to-zero p.required); heavy = omega (arith, ap (λ n. p.capacity * n) (sum_to-zero p.required)) }
  held (x ∷ group) = elim (cases_Bool (is_of group x)) [
    | inl there ↦ held_same x group (λ f e _ _. again x group f there e) (held group)
    | inr new ↦ elim (either x) [
      | inl is ↦ held_more x group is new (held group)
      | inr not ↦ held_same x group (λ f e one most. aside x group f e (λ same. not (record { from_one = omega (arith, one, same); in_range = omega (arith, most, same) }))) (held group)
    ]
  ]

  -- as many vehicles as a demand takes, where so many carry it with room for some more loads
  vehicles_most : (d v : ℕ) → d ≤ p.capacity * v → vehicles p d ≤ v
  vehicles_most d v carried = elim (cases_lt v (vehicles p d)) [
    | inl above ↦
        let more : p.capacity * (v + 1) ≤ p.capacity * vehicles p d = mul-le-mul_left p.capacity (omega (arith, above)) in
        absurd (omega (arith, (div_ceil_times d p.capacity valid.some_capacity).1, more, carried))
    | inr enough ↦ enough
  ]

  pub bonds_law : ServedOnceByNumber → (group : List ℕ) (plan : List (List Step)) → IsLawful p plan →
      plan_bonds group plan + vehicles p (group_demand p group) ≤ length group
  bonds_law served_once group plan lawful =
      let own = held group in
      let start = begun group p plan lawful.walks in
      let counted_once = served_once p plan (λ e. bit (is_of group e)) lawful in
      let carried_once = served_once p plan (λ e. cond (is_of group e) (demand p e) 0) lawful in
      let spare = length group - count group in
      let whole : count group + spare ≡ length group = omega (arith, own.few) in
      let enough : group_demand p group ≤ p.capacity * (start.begins + spare) =
      omega (arith, own.heavy, start.carried, carried_once, ap (λ n. p.capacity * n) whole) in
      omega (arith, vehicles_most (group_demand p group) (start.begins + spare) enough, start.bonded, counted_once, whole)
