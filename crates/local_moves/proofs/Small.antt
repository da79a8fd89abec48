-- What the examples need.
use Rattle.std.proofs.Common.{◌≡◌, ◌≢◌, ℕ, List, [], ◌∷◌, ◌++◌, refl, sym, ap, ◌∙◌, inl, arith}
use Rattle.std.proofs.lemmas.Bool.{false≢true}
use Rattle.carp_base.specs.declared.edge.Task.{Task}
use Rattle.carp_base.specs.Problem.{IsRequired}
use Rattle.plan_model.specs.Plans.{IsLawful, services_of}
use Rattle.task_tours.specs.Examples.{lane_and_alley, lane_out, lane_walk}
use Rattle.local_moves.specs.Changes.{IsChange, IsSettledPlan, MovesOne, OpensOne, SwapsBetween, SwapsWithin, TakesOutTask, TurnsOne, moves_on, opens_tour, other_direction, swaps_between, swaps_within, turns}
use Rattle.local_moves.specs.Examples.{detour}

-- no place of a list of nothing
no_place : {X : Type 0} (earlier : List X) (x : X) (later : List X) → [] ≡ earlier ++ (x ∷ later) → ⊥
no_place [] x later is = cc
no_place (y ∷ earlier) x later is = cc

pub stays : (t : Task) (before : List (List Task)) → TakesOutTask t before [] → ⊥
stays t before o = no_place o.earlier (o.left ++ o.right) o.later o.is

pub none_moved : (after : List (List Task)) → MovesOne [] after → ⊥
none_moved after w = no_place w.out.earlier (w.out.left ++ (w.t ∷ w.out.right)) w.out.later w.out.was

pub none_opened : (after : List (List Task)) → OpensOne [] after → ⊥
none_opened after w = no_place w.out.earlier (w.out.left ++ (w.t ∷ w.out.right)) w.out.later w.out.was

pub none_within : (after : List (List Task)) → SwapsWithin [] after → ⊥
none_within after w = no_place w.earlier (w.left ++ (w.s ∷ (w.middle ++ (w.t ∷ w.right)))) w.later w.was

pub none_between : (after : List (List Task)) → SwapsBetween [] after → ⊥
none_between after w = no_place w.earlier (w.left ++ (w.s ∷ w.right)) (w.between ++ ((w.next_left ++ (w.t ∷ w.next_right)) ∷ w.later)) w.was

pub none_changed : (after : List (List Task)) → IsChange [] after → ⊥
none_changed after change = elim change [
  | turns w ↦ no_place w.earlier (w.left ++ (w.t ∷ w.right)) w.later w.was
  | moves_on w ↦ none_moved after w
  | opens_tour w ↦ none_opened after w
  | swaps_within w ↦ none_within after w
  | swaps_between w ↦ none_between after w
]

-- the only place of a list of one
alone : {X : Type 0} (a : X) (earlier : List X) (x : X) (later : List X) → (a ∷ []) ≡ earlier ++ (x ∷ later) → (x ≡ a) × (earlier ≡ []) × (later ≡ [])
alone a [] x later is = (cc, refl, cc)
alone a (y ∷ earlier) x later is = absurd (no_place earlier x later cc)

pub not_turned : TurnsOne ((lane_out ∷ []) ∷ []) ((lane_out ∷ []) ∷ []) → ⊥
not_turned w =
    let whole = alone (lane_out ∷ []) w.earlier (w.left ++ (w.t ∷ w.right)) w.later w.was in
    let place = alone lane_out w.left w.t w.right (sym whole.0) in
    let after = alone (lane_out ∷ []) w.earlier (w.left ++ (other_direction w.t ∷ w.right)) w.later w.is in
    let there = alone lane_out w.left (other_direction w.t) w.right (sym after.0) in
    let same : other_direction lane_out ≡ lane_out = ap other_direction (sym place.0) ∙ there.0 in
    false≢true (ap (λ (t : Task). t.forward) same)

pub lane_is_lawful : IsLawful lane_and_alley (lane_walk ∷ [])
lane_is_lawful = record {
  walks = (
    record {
      leads = (record { from_one = omega arith; in_range = omega arith }, refl, (record { from_one = omega arith; in_range = omega arith }, refl, refl));
      serves_required = (λ _. record { from_one = omega arith; in_range = omega arith }, (λ no. absurd (false≢true no), tt));
      load = omega arith;
    },
    tt,
  );
  once = λ e required. ap (λ n. services_of n (lane_walk ∷ [])) (only_one e required);
}
  where
    only_one : (e : ℕ) → IsRequired lane_and_alley e → e ≡ 1
    only_one e required = omega (arith, required.from_one, required.in_range)

-- a service moves to its own place
pub in_its_place : (t : Task) → IsChange ((t ∷ []) ∷ []) ((t ∷ []) ∷ [])
in_its_place t =
    moves_on (record {
      t = t;
      rest = [] ∷ [];
      out = record { earlier = []; later = []; left = []; right = []; was = refl; is = refl };
      u = t;
      same = inl refl;
      back = record { earlier = []; later = []; left = []; right = []; was = refl; is = refl };
    })

pub detour_is_dear : IsSettledPlan lane_and_alley (detour ∷ []) → ⊥
detour_is_dear settled = omega (arith, settled (lane_walk ∷ []) lane_is_lawful (in_its_place lane_out))
