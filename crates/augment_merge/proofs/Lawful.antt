-- The tours that augment-merge makes: each edge is served once, each tour within the capacity.
use Rattle.std.proofs.Common.{◌≡◌, ℕ, zero, suc, ◌<◌, ◌≤◌, cond, ◌==◌, List, [], ◌∷◌, ◌++◌, length, set, refl, sym, ap, subst, ◌∙◌, arith}
use Rattle.std.specs.List.{sum_by, filter, AllByRecursion}
use Rattle.std.proofs.lemmas.List.{get_or-set_other, length-set}
use Rattle.std.proofs.lemmas.List.Elements.{All-from_recursion}
use Rattle.std.proofs.lemmas.List.Sums.{sum_by-cons, sum_by-set}
use Rattle.carp_base.specs.declared.edge.Task.{Task}
use Rattle.carp_base.specs.Problem.{Problem, IsValid, IsRequired, edge_at}
use Rattle.plan_model.specs.declared.step.Step.{Step}
use Rattle.deadhead_paths.specs.Singles.{AreLeastTours}
use Rattle.task_tours.specs.Tours.{AreLawfulTours, all_tasks, tour_load}
use Rattle.augment_merge.specs.declared.joins.Join.{Join}
use Rattle.augment_merge.specs.Augmenting.{AreAugmented}
use Rattle.augment_merge.specs.Merging.{AreJoined, IsSavingJoin, JoinsLead, after_join, has_tasks, nth_tour, tour_of_join}
use Rattle.augment_merge.specs.Outlines.{AreDoable, IsDoable}
use Rattle.augment_merge.proofs.Absorbed.{on_edge, on_both}
use Rattle.augment_merge.proofs.Places.{as_long}
use Rattle.augment_merge.proofs.Progress.{doable_after}
use Rattle.augment_merge.proofs.Taken.{augmented_doable, augmented_once}
use Rattle.augment_merge.proofs.Turning.{all_both, sum_joined}

-- a tour fits a walk, by its load
load_above : (p : Problem) → IsValid p → (tour : List Task) → AllByRecursion (λ t. IsRequired p t.edge) tour → length tour ≤ tour_load p tour
load_above p valid [] required = omega arith
load_above p valid (t ∷ ts) required =
    omega (arith, sum_by-cons (λ (u : Task). (edge_at p u.edge).demand) t ts, (valid.tasks t.edge required.0).some_demand, load_above p valid ts required.1)

pub few_tasks : (p : Problem) → IsValid p → (tour : List Task) → IsDoable p tour → length tour ≤ 30000
few_tasks p valid tour doable = omega (arith, load_above p valid tour doable.required, doable.load, valid.capacity_in)

pub doable_each : (p : Problem) (tours : List (List Task)) → AllByRecursion (IsDoable p) tours → AreDoable p tours
doable_each p tours all k below = All-from_recursion (IsDoable p) tours all k [] below

doable_all : (p : Problem) (tours : List (List Task)) → AreDoable p tours → AllByRecursion (IsDoable p) tours
doable_all p [] each = tt
doable_all p (tour ∷ tours) each = (each zero (omega arith), doable_all p tours (λ k below. each (suc k) (omega arith)))

required_all : (p : Problem) (tours : List (List Task)) → AllByRecursion (IsDoable p) tours → AllByRecursion (λ t. IsRequired p t.edge) (all_tasks tours)
required_all p [] all = tt
required_all p (tour ∷ tours) all = all_both (λ t. IsRequired p t.edge) tour (all_tasks tours) all.0.required (required_all p tours all.1)

loads_all : (p : Problem) (tours : List (List Task)) → AllByRecursion (IsDoable p) tours → AllByRecursion (λ tour. tour_load p tour ≤ p.capacity) tours
loads_all p [] all = tt
loads_all p (tour ∷ tours) all = (all.0.load, loads_all p tours all.1)

-- how often tours serve an edge, tour by tour
on_tours : (e : ℕ) (tours : List (List Task)) → on_edge e (all_tasks tours) ≡ sum_by (on_edge e) tours
on_tours e [] = refl
on_tours e (tour ∷ tours) = omega (arith, on_both e tour (all_tasks tours), sum_by-cons (on_edge e) tour tours, on_tours e tours)

-- a join changes none of this
once_after : (p : Problem) (tours : List (List Task)) (j : Join) → IsSavingJoin p tours j → (e : ℕ) → on_edge e (all_tasks (after_join tours j)) ≡ on_edge e (all_tasks tours)
once_after p tours j saves e =
    let first_in : j.first < length tours = omega (arith, saves.order, saves.in_range) in
    let joined = tour_of_join tours j in
    let middle = set tours j.first joined in
    let one = sum_by-set (on_edge e) tours j.first joined [] first_in in
    let two = sum_by-set (on_edge e) middle j.second [] [] (omega (arith, saves.in_range, length-set tours j.first joined)) in
    let there : on_edge e (nth_tour middle j.second) ≡ on_edge e (nth_tour tours j.second) = ap (on_edge e) (get_or-set_other tours j.first j.second joined [] (λ at. absurd (let order = saves.order in omega arith))) in
    let parts = sum_joined (λ f. cond (f == e) 1 0) j.turn_first j.turn_second (nth_tour tours j.first) (nth_tour tours j.second) in
    let none : on_edge e [] ≡ 0 = refl in
    omega (arith, on_tours e (after_join tours j), on_tours e tours)

module _ (p : Problem) where
  joined_once : (tours : List (List Task)) (joins : List Join) (merged : List (List Task)) → JoinsLead p tours joins merged → (e : ℕ) → on_edge e (all_tasks merged) ≡ on_edge e (all_tasks tours)
  joined_once tours [] merged same e = ap (λ ts. on_edge e (all_tasks ts)) (sym same)
  joined_once tours (j ∷ joins) merged leads e = joined_once (after_join tours j) joins merged leads.1 e ∙ once_after p tours j leads.0.can e

  joined_doable : (tours : List (List Task)) (joins : List Join) (merged : List (List Task)) → JoinsLead p tours joins merged → AreDoable p tours → AreDoable p merged
  joined_doable tours [] merged same doable = subst (AreDoable p) same doable
  joined_doable tours (j ∷ joins) merged leads doable = joined_doable (after_join tours j) joins merged leads.1 (doable_after p tours j leads.0.can doable)

  joined_long : (tours : List (List Task)) (joins : List Join) (merged : List (List Task)) → JoinsLead p tours joins merged → length merged ≡ length tours
  joined_long tours [] merged same = ap length (sym same)
  joined_long tours (j ∷ joins) merged leads = joined_long (after_join tours j) joins merged leads.1 ∙ as_long tours j.first j.second (tour_of_join tours j) []

  pub merged_doable : (tours merged : List (List Task)) → AreJoined p tours merged → AreDoable p tours → AreDoable p merged
  merged_doable tours merged joined = joined_doable tours joined.joins merged joined.leads

  pub merged_long : (tours merged : List (List Task)) → AreJoined p tours merged → length merged ≡ length tours
  merged_long tours merged joined = joined_long tours joined.joins merged joined.leads

-- tours without tasks can be left out
used_tasks : (tours : List (List Task)) → all_tasks (filter has_tasks tours) ≡ all_tasks tours
used_tasks [] = refl
used_tasks ([] ∷ tours) = used_tasks tours
used_tasks ((t ∷ ts) ∷ tours) = ap (λ us. (t ∷ ts) ++ us) (used_tasks tours)

used_all : (P : List Task → Type 0) (tours : List (List Task)) → AllByRecursion P tours → AllByRecursion P (filter has_tasks tours)
used_all P [] all = tt
used_all P ([] ∷ tours) all = used_all P tours all.1
used_all P ((t ∷ ts) ∷ tours) all = (all.0, used_all P tours all.1)

pub lawful_tours : (p : Problem) → IsValid p → (singles : List (List Step)) (augmented merged : List (List Task)) → AreLeastTours p singles → AreAugmented p singles [] augmented → AreJoined p augmented merged →
    AreLawfulTours p (filter has_tasks merged)
lawful_tours p valid singles augmented merged single taken joined =
    let all = doable_all p merged (merged_doable p augmented merged joined (doable_each p augmented (augmented_doable p valid singles single [] augmented taken))) in
    record {
      served = record {
        required = subst (AllByRecursion (λ t. IsRequired p t.edge)) (sym (used_tasks merged)) (required_all p merged all);
        once = λ e required. ap (on_edge e) (used_tasks merged) ∙ joined_once p augmented joined.joins merged joined.leads e ∙ augmented_once p valid singles single [] augmented taken (λ f. omega arith) e required;
      };
      loads = used_all (λ tour. tour_load p tour ≤ p.capacity) merged (loads_all p merged all);
    }
