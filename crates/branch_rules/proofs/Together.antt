-- A lawful plan that meets a branch has exactly one bond in each pair that the branch says yes to.
use Rattle.std.proofs.Common.{◌≡◌, ℕ, zero, suc, ◌*◌, ◌≤◌, ◌==◌, Bool, true, false, ◌&&◌, ◌||◌, cond, List, [], ◌∷◌, ◌++◌, refl, ap, ◌∙◌, arith, inl, inr}
use Rattle.std.specs.Prelude.{IsTrue}
use Rattle.std.proofs.lemmas.Bool.{eq-eqb}
use Rattle.std.proofs.lemmas.Grind.{div_ceil_times}
use Rattle.std.proofs.lemmas.List.Sums.{sum_by-cons}
use Rattle.carp_base.specs.Problem.{Problem, IsValid, edge_at}
use Rattle.plan_model.specs.Plans.{IsLawful}
use Rattle.plan_model.specs.Laws.{ServedOnceByNumber}
use Rattle.plan_model.specs.declared.step.Step.{Step}
use Rattle.cut_pool.specs.Shores.{vehicles}
use Rattle.deadhead_paths.specs.Tours.{IsFollowed}
use Rattle.decision_chains.specs.Exclusions.{IsYes}
use Rattle.decision_chains.specs.Neighbours.{AreNeighbours, served_edges}
use Rattle.decision_chains.specs.declared.decision.Decision.{Decision}
use Rattle.branch_rules.specs.Bonds.{is_of, bond, bonds_after, bonds, plan_bonds, group_demand}
use Rattle.branch_rules.specs.Decisions.{MeetsAll, is_yes_pair}
use Rattle.branch_rules.proofs.Bonding.{bonds_law}
use Rattle.branch_rules.proofs.ChainLaws.{ChainLaws}
use Rattle.branch_rules.proofs.Line.{neighbours_required}
use Rattle.branch_rules.proofs.Meeting.{yes_neighbours}

module _ (group : List ℕ) (a b : ℕ) where
  follows_after : (e : ℕ) (before after : List ℕ) → bond group a b ≤ bonds_after group e (before ++ (a ∷ (b ∷ after)))
  follows_after e [] after = omega arith
  follows_after e (x ∷ before) after = omega (arith, follows_after x before after)

  follows_in : (before after : List ℕ) → bond group a b ≤ bonds group (before ++ (a ∷ (b ∷ after)))
  follows_in [] after = omega arith
  follows_in (x ∷ before) after = follows_after x before after

  -- a pair that follows each other in a list has its bond there
  pub followed : (es : List ℕ) → IsFollowed es a b → bond group a b ≤ bonds group es
  followed es follows = rw follows.joined (follows_in follows.before follows.after)

both_of : (group : List ℕ) (a b : ℕ) → is_of group a ≡ true → is_of group b ≡ true → bond group a b ≡ 1
both_of group a b a_in b_in = ap {B = ℕ} (λ h. cond (h && is_of group b) 1 0) a_in ∙ ap {B = ℕ} (λ h. cond h 1 0) b_in

or_later : (x : Bool) → (x || (true || false)) ≡ true
or_later true = refl
or_later false = refl

module _ (a b : ℕ) where
  abbrev pair : List ℕ
  pair = a ∷ b ∷ []

  a_of : is_of pair a ≡ true
  a_of = ap (λ h. h || ((b == a) || false)) (eq-eqb a a refl)

  b_of : is_of pair b ≡ true
  b_of = ap (λ h. (a == b) || (h || false)) (eq-eqb b b refl) ∙ or_later (a == b)

  near_bond : (plan : List (List Step)) → AreNeighbours plan a b → 1 ≤ plan_bonds pair plan
  near_bond [] near = absurd near
  near_bond (walk ∷ plan) (inl (inl follows)) =
      omega (arith, sum_by-cons (λ w. bonds pair (served_edges w)) walk plan, followed pair a b (served_edges walk) follows, both_of pair a b a_of b_of)
  near_bond (walk ∷ plan) (inl (inr follows)) =
      omega (arith, sum_by-cons (λ w. bonds pair (served_edges w)) walk plan, followed pair b a (served_edges walk) follows, both_of pair b a b_of a_of)
  near_bond (walk ∷ plan) (inr near) = omega (arith, sum_by-cons (λ w. bonds pair (served_edges w)) walk plan, near_bond plan near)

module _ (laws : ChainLaws) (p : Problem) (pool : List (List ℕ)) (branch : List Decision) (plan : List (List Step)) (met : MeetsAll p pool plan branch) where
  pub some_bond : (group : List ℕ) → IsTrue (is_yes_pair branch group) → 1 ≤ plan_bonds group plan
  some_bond [] is = cc
  some_bond (a ∷ []) is = cc
  some_bond (a ∷ b ∷ []) is = near_bond a b plan (yes_neighbours laws p pool plan branch a b met is)
  some_bond (a ∷ b ∷ c ∷ rest) is = cc

  -- a demand takes a vehicle
  some_vehicle : (d v : ℕ) → 1 ≤ d → d ≤ v * p.capacity → 1 ≤ v
  some_vehicle d zero some carried = absurd (omega (arith, some, carried))
  some_vehicle d (suc v) some carried = omega arith

  module _ (valid : IsValid p) (served_once : ServedOnceByNumber) (lawful : IsLawful p plan) where
    one_of : (a b : ℕ) → IsYes branch a b → plan_bonds (a ∷ b ∷ []) plan ≡ 1
    one_of a b is =
        let near = yes_neighbours laws p pool plan branch a b met is in
        let both = neighbours_required p plan a b lawful.walks near in
        let group = a ∷ (b ∷ []) in
        let demand : 1 ≤ group_demand p group =
        omega (arith, sum_by-cons (λ e. (edge_at p e).demand) a (b ∷ []), (valid.tasks a both.0).some_demand) in
        omega (
          arith,
          near_bond a b plan near,
          bonds_law p valid served_once group plan lawful,
          some_vehicle (group_demand p group) (vehicles p (group_demand p group)) demand (div_ceil_times (group_demand p group) p.capacity valid.some_capacity).0,
        )

    pub one_bond : (group : List ℕ) → IsTrue (is_yes_pair branch group) → plan_bonds group plan ≡ 1
    one_bond [] is = cc
    one_bond (a ∷ []) is = cc
    one_bond (a ∷ b ∷ []) is = one_of a b is
    one_bond (a ∷ b ∷ c ∷ rest) is = cc
