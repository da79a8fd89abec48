-- What flows on some of the arcs: sums over tests, and one flow that changes.
use Rattle.std.proofs.Common.{◌≡◌, ℕ, zero, suc, ◌+◌, ◌<◌, ◌≤◌, Bool, true, false, ◌&&◌, cond, eqb, ltb, List, [], ◌∷◌, length, get_or, set, refl, ap, arith, inl, inr}
use Rattle.std.proofs.lemmas.Bool.{cases_order, eq-eqb, ne_eqb, lt-ltb, le-ltb}
use Rattle.std.specs.List.{sum_by}
use Rattle.std.proofs.lemmas.List.Sums.{sum_by-cons}
use Rattle.flow_cut.specs.declared.network.Arc.{Arc}
use Rattle.flow_cut.specs.Flows.{flow_on, no_arc}

-- tests that pick the same arcs
pub same_tests : (p q : Arc → Bool) → ((arc : Arc) → p arc ≡ q arc) → (arcs : List Arc) (flows : List ℕ) → flow_on p arcs flows ≡ flow_on q arcs flows
same_tests p q same [] flows = refl
same_tests p q same (arc ∷ arcs) [] = refl
same_tests p q same (arc ∷ arcs) (x ∷ flows) = omega (arith, ap (λ b. cond b x 0) (same arc), same_tests p q same arcs flows)

-- a test that picks no arc
pub no_test : (p : Arc → Bool) → ((arc : Arc) → p arc ≡ false) → (arcs : List Arc) (flows : List ℕ) → flow_on p arcs flows ≡ 0
no_test p none [] flows = refl
no_test p none (arc ∷ arcs) [] = refl
no_test p none (arc ∷ arcs) (x ∷ flows) = omega (arith, ap (λ b. cond b x 0) (none arc), no_test p none arcs flows)

-- two tests that pick together what two others pick together
pub two_and_two : (p q r u : Arc → Bool) → ((arc : Arc) (x : ℕ) → cond (p arc) x 0 + cond (q arc) x 0 ≡ cond (r arc) x 0 + cond (u arc) x 0) → (arcs : List Arc) (flows : List ℕ) →
    flow_on p arcs flows + flow_on q arcs flows ≡ flow_on r arcs flows + flow_on u arcs flows
two_and_two p q r u same [] flows = refl
two_and_two p q r u same (arc ∷ arcs) [] = refl
two_and_two p q r u same (arc ∷ arcs) (x ∷ flows) = omega (arith, same arc x, two_and_two p q r u same arcs flows)

-- the number n joins the numbers below it
below_and_at : (on : Bool) (x : ℕ) → cond (on && true) x 0 ≡ cond (on && false) x 0 + cond on x 0
below_and_at true x = omega arith
below_and_at false x = omega arith

only_below : (on other : Bool) (x : ℕ) → cond (on && true) x 0 ≡ cond (on && true) x 0 + cond other 0 0
only_below on true x = omega arith
only_below on false x = omega arith

not_yet : (on other : Bool) (x : ℕ) → cond (on && false) x 0 ≡ cond (on && false) x 0 + cond other 0 0
not_yet on true x = omega arith
not_yet on false x = omega arith

part_below : (on : ℕ → Bool) (m n x : ℕ) → cond (on m && ltb m (suc n)) x 0 ≡ cond (on m && ltb m n) x 0 + cond (on n) (cond (eqb m n) x 0) 0
part_below on m n x = elim (cases_order m n) [
  | inl same ↦ rw (same, lt-ltb n (suc n) (omega arith), le-ltb n n (omega arith), eq-eqb n n refl) (below_and_at (on n) x)
  | inr (inl less) ↦ rw (lt-ltb m (suc n) (omega arith), lt-ltb m n less, ne_eqb m n (λ same. omega arith)) (only_below (on m) (on n) x)
  | inr (inr more) ↦ rw (le-ltb m (suc n) (omega arith), le-ltb m n (omega arith), ne_eqb m n (λ same. omega arith)) (not_yet (on m) (on n) x)
]

pub part_sum : (b : Bool) (x y : ℕ) → cond b (x + y) 0 ≡ cond b x 0 + cond b y 0
part_sum true x y = omega arith
part_sum false x y = omega arith

part_none : (b : Bool) → ◌≡◌ {A = ℕ} (cond b 0 0) 0
part_none true = refl
part_none false = refl

-- the arcs whose end is picked and below a number, one number more
pub flow_below : (on : ℕ → Bool) (end : Arc → ℕ) (n : ℕ) (arcs : List Arc) (flows : List ℕ) →
    flow_on (λ arc. on (end arc) && ltb (end arc) (suc n)) arcs flows
    ≡ flow_on (λ arc. on (end arc) && ltb (end arc) n) arcs flows + cond (on n) (flow_on (λ arc. eqb (end arc) n) arcs flows) 0
flow_below on end n [] flows = omega (arith, part_none (on n))
flow_below on end n (arc ∷ arcs) [] = omega (arith, part_none (on n))
flow_below on end n (arc ∷ arcs) (x ∷ flows) =
    omega (
      arith,
      part_below on (end arc) n x,
      flow_below on end n arcs flows,
      part_sum (on n) (cond (eqb (end arc) n) x 0) (flow_on (λ arc. eqb (end arc) n) arcs flows),
    )

-- one flow changes
pub flow_on-set : (test : Arc → Bool) (arcs : List Arc) (flows : List ℕ) (i y : ℕ) → i < length arcs → i < length flows →
    flow_on test arcs (set flows i y) + cond (test (get_or arcs i no_arc)) (get_or flows i 0) 0 ≡ flow_on test arcs flows + cond (test (get_or arcs i no_arc)) y 0
flow_on-set test [] flows i y here there = absurd (omega arith)
flow_on-set test (arc ∷ arcs) [] i y here there = absurd (omega arith)
flow_on-set test (arc ∷ arcs) (x ∷ flows) zero y here there = omega arith
flow_on-set test (arc ∷ arcs) (x ∷ flows) (suc i) y here there = omega (arith, flow_on-set test arcs flows i y (omega arith) (omega arith))

part_rises : (b : Bool) (x y : ℕ) → x ≤ y → cond b x 0 ≤ cond b y 0
part_rises true x y less = less
part_rises false x y less = omega arith

-- flows within the rooms bring no more than the rooms
pub flow_on-le : (test : Arc → Bool) (arcs : List Arc) (flows : List ℕ) → ((i : ℕ) → get_or flows i 0 ≤ (get_or arcs i no_arc).room) →
    flow_on test arcs flows ≤ sum_by (λ arc. cond (test arc) arc.room 0) arcs
flow_on-le test [] flows within = omega arith
flow_on-le test (arc ∷ arcs) [] within = omega arith
flow_on-le test (arc ∷ arcs) (x ∷ flows) within =
    omega (
      arith,
      sum_by-cons (λ arc. cond (test arc) arc.room 0) arc arcs,
      part_rises (test arc) x arc.room (within 0),
      flow_on-le test arcs flows (λ i. within (suc i)),
    )

part_full : (b : Bool) (x room : ℕ) → (b ≡ true → x ≡ room) → cond b x 0 ≡ cond b room 0
part_full true x room full = full refl
part_full false x room full = refl

-- full arcs bring just their rooms
pub flow_on-full : (test : Arc → Bool) (arcs : List Arc) (flows : List ℕ) → length flows ≡ length arcs →
    ((i : ℕ) → i < length arcs → test (get_or arcs i no_arc) ≡ true → get_or flows i 0 ≡ (get_or arcs i no_arc).room) →
    flow_on test arcs flows ≡ sum_by (λ arc. cond (test arc) arc.room 0) arcs
flow_on-full test [] flows long full = refl
flow_on-full test (arc ∷ arcs) [] long full = absurd (omega arith)
flow_on-full test (arc ∷ arcs) (x ∷ flows) long full =
    omega (
      arith,
      sum_by-cons (λ arc. cond (test arc) arc.room 0) arc arcs,
      part_full (test arc) x arc.room (full 0 (omega arith)),
      flow_on-full test arcs flows (omega arith) (λ i here. full (suc i) (omega arith)),
    )

part_empty : (b : Bool) (x : ℕ) → (b ≡ true → x ≡ 0) → cond b x 0 ≡ 0
part_empty true x empty = empty refl
part_empty false x empty = refl

-- empty arcs bring nothing
pub flow_on-empty : (test : Arc → Bool) (arcs : List Arc) (flows : List ℕ) →
    ((i : ℕ) → i < length arcs → test (get_or arcs i no_arc) ≡ true → get_or flows i 0 ≡ 0) → flow_on test arcs flows ≡ 0
flow_on-empty test [] flows empty = refl
flow_on-empty test (arc ∷ arcs) [] empty = refl
flow_on-empty test (arc ∷ arcs) (x ∷ flows) empty =
    omega (arith, part_empty (test arc) x (empty 0 (omega arith)), flow_on-empty test arcs flows (λ i here. empty (suc i) (omega arith)))
