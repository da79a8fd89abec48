-- Rounds and joined edges of small instances.
use Rattle.std.proofs.Common.{◌≡◌, ◌≢◌, ℕ, zero, suc, ◌≤◌, ◌==◌, ◌%◌, Bool, true, false, cond, List, [], ◌∷◌, length, get_or, refl, ap, inl, inr, arith}
use Rattle.std.proofs.lemmas.Bool.{false≢true, cases_Bool}
use Rattle.std.specs.List.{AllByRecursion, count_by}
use Rattle.carp_base.specs.declared.edge.Task.{Task}
use Rattle.carp_base.specs.Problem.{IsEdgeNumber, IsRequired, IsVertex, TasksLead, edge_at, tail_of}
use Rattle.plan_model.specs.Plans.{serves}
use Rattle.postman.specs.Examples.{free_streets, idle_trip, no_street, once_more, one_street, out_and_back, street_apart}
use Rattle.postman.specs.Trails.{IsSpent, IsStart, left_at}
use Rattle.postman.specs.Rounds.{AreJoined, IsFirstApart, IsJoined, IsRound, idles}

pub first_edge : IsEdgeNumber one_street 1
first_edge = record { from_one = omega arith; in_range = omega arith }

pub first_required : IsRequired one_street 1
first_required = record { from_one = omega arith; in_range = omega arith }

pub apart_required : IsRequired street_apart 1
apart_required = record { from_one = omega arith; in_range = omega arith }

-- what is said of edge 1 is said of each required edge
only_first : (P : ℕ → Type 0) → P 1 → (e : ℕ) → 1 ≤ e → e ≤ 1 → P e
only_first P first zero one most = absurd (omega (arith, one))
only_first P first (suc zero) one most = first
only_first P first (suc (suc k)) one most = absurd (omega (arith, most))

pub back_is_round : IsRound one_street out_and_back
back_is_round = record {
  leads = (first_edge, refl, (first_edge, refl, refl));
  serves_required = ((λ _. first_required), ((λ _. first_required), tt));
  once = λ e required. only_first (λ d. count_by (serves d) out_and_back ≡ 1) refl e required.from_one required.in_range;
}

pub back_idles_once : (e : ℕ) → count_by (idles e) out_and_back ≤ 1
back_idles_once e = elim (cases_Bool (1 == e)) [
  | inl is ↦ omega (arith, ap {B = ℕ} (λ b. cond b 1 0) is)
  | inr other ↦ omega (arith, ap {B = ℕ} (λ b. cond b 1 0) other)
]

pub more_idles : ¬ ((e : ℕ) → count_by (idles e) once_more ≤ 1)
more_idles few = absurd (omega (arith, few 1))

pub more_is_round : IsRound one_street once_more
more_is_round = record {
  leads = (first_edge, refl, (first_edge, refl, (first_edge, refl, (first_edge, refl, refl))));
  serves_required = ((λ _. first_required), ((λ _. first_required), ((λ _. first_required), ((λ _. first_required), tt))));
  once = λ e required. only_first (λ d. count_by (serves d) once_more ≡ 1) refl e required.from_one required.in_range;
}

pub stays_is_round : IsRound no_street []
stays_is_round = record {
  leads = refl;
  serves_required = tt;
  once = λ e required. absurd (omega (arith, required.from_one, required.in_range));
}

pub trip_is_round : IsRound free_streets idle_trip
trip_is_round = record {
  leads = (record { from_one = omega arith; in_range = omega arith }, refl, (record { from_one = omega arith; in_range = omega arith }, refl, refl));
  serves_required = ((λ is. absurd (false≢true is)), ((λ is. absurd (false≢true is)), tt));
  once = λ e required. absurd (omega (arith, required.from_one, required.in_range));
}

-- a trip is not empty
pub goes_nowhere : idle_trip ≡ [] → ⊥
goes_nowhere is = absurd (omega (arith, ap length is))

pub street_joined : AreJoined one_street
street_joined e required = only_first (IsJoined one_street) (record { path = []; required = tt; leads = refl }) e required.from_one required.in_range

away : (forward : Bool) → tail_of (edge_at street_apart 1) forward ≢ 1
away true is = absurd (omega (arith, is))
away false is = absurd (omega (arith, is))

no_path : (path : List Task) → AllByRecursion (λ t. IsRequired street_apart t.edge) path → TasksLead street_apart 1 path 2 → ⊥
no_path [] required leads = absurd (omega (arith, leads))
no_path (t ∷ path) required leads =
    only_first (λ e. tail_of (edge_at street_apart e) t.forward ≢ 1) (away t.forward) t.edge required.0.from_one required.0.in_range leads.1

pub apart : ¬ (IsJoined street_apart 1)
apart joined = no_path joined.path joined.required joined.leads

pub first_apart : IsFirstApart street_apart 1
first_apart = record { required = apart_required; apart = apart; before = λ d required less. absurd (omega (arith, required.from_one, less)) }

pub end_spent : IsSpent one_street (0 ∷ []) 1
end_spent zero number there = refl
end_spent (suc zero) number there = refl
end_spent (suc (suc k)) number there = refl

fresh : (v : ℕ) → ◌≡◌ {A = ℕ} (get_or (0 ∷ 0 ∷ 0 ∷ []) v 0) 0
fresh zero = refl
fresh (suc zero) = refl
fresh (suc (suc zero)) = refl
fresh (suc (suc (suc k))) = refl

even : (v : ℕ) → 1 ≤ v → v ≤ 2 → left_at one_street (2 ∷ []) v % 2 ≡ 0
even zero one most = absurd (omega (arith, one))
even (suc zero) one most = refl
even (suc (suc zero)) one most = refl
even (suc (suc (suc k))) one most = absurd (omega (arith, most))

pub street_starts : IsStart one_street (2 ∷ []) (0 ∷ 0 ∷ 0 ∷ [])
street_starts = record { long = refl; wide = refl; fresh = fresh; even = λ v vertex. even v vertex.from_one vertex.in_range; few = omega arith }

pub depot_in : IsVertex one_street 1
depot_in = record { from_one = omega arith; in_range = omega arith }
