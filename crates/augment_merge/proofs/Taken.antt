-- Tours that are taken one after another.
use Rattle.std.proofs.Common.{◌≡◌, ℕ, ◌-◌, ◌≤◌, inl, inr, Bool, true, false, ◌||◌, ◌==◌, List, [], ◌∷◌, ◌++◌, refl, sym, ap, subst, ◌∙◌, arith, append_assoc, append-nil}
use Rattle.std.specs.List.{AllByRecursion}
use Rattle.std.proofs.lemmas.Bool.{eq-eqb}
use Rattle.std.proofs.lemmas.Bool.Decides.{eqb_tells}
use Rattle.std.proofs.lemmas.Grind.{flat_map-append}
use Rattle.std.proofs.lemmas.List.Folds.{list_any-append}
use Rattle.carp_base.specs.declared.edge.Task.{Task}
use Rattle.carp_base.specs.Problem.{Problem, IsValid, IsRequired, edge_at}
use Rattle.plan_model.specs.declared.step.Step.{Step}
use Rattle.plan_model.specs.Plans.{walk_at}
use Rattle.deadhead_paths.specs.Singles.{AreLeastTours, IsLeastTour, service_of}
use Rattle.deadhead_paths.specs.Tours.{task_of}
use Rattle.task_tours.specs.Tours.{all_tasks}
use Rattle.augment_merge.specs.Augmenting.{AreAugmented, IsTakenTour, augmented_tasks, is_among}
use Rattle.augment_merge.specs.Absorbing.{AreTaken}
use Rattle.augment_merge.specs.Outlines.{IsDoable}
use Rattle.augment_merge.proofs.Absorption.{among_new, among_same}
use Rattle.augment_merge.proofs.Absorbed.{on_edge, on_both, none_among, some_among, among_some, never_twice, at_most_once, absorbed_required, absorbed_load, one_of, served_on}
use Rattle.augment_merge.proofs.Walks.{single_all, single_load, single_on}

module _ (p : Problem) (valid : IsValid p) (e : ℕ) (required : IsRequired p e) (walk : List Step) (single : IsLeastTour p e walk) (taken : List Task) where
  own : Task
  own = task_of (service_of e)

  tour : List Task
  tour = augmented_tasks p (taken ++ task_of (service_of e) ∷ []) (edge_at p e).demand walk

  own_once : on_edge e tour ≡ 1
  unfolding tour
  own_once =
      never_twice p e walk (taken ++ task_of (service_of e) ∷ []) (edge_at p e).demand (among_new e taken (task_of (service_of e)) refl) ∙ single_on p e walk single e ∙ ap one_of (eq-eqb e e refl)

  -- no edge is served twice
  pub tour_once : is_among e taken ≡ false → (f : ℕ) → on_edge f taken ≤ 1 → on_edge f (taken ++ augmented_tasks p (taken ++ task_of (service_of e) ∷ []) (edge_at p e).demand walk) ≤ 1
  unfolding tour
  tour_once untaken f before = elim (eqb_tells e f) [
    | inl same ↦
        let mine : on_edge f taken ≡ 0 = ap (λ n. on_edge n taken) (sym same.1) ∙ none_among e taken untaken in
        let here : on_edge f tour ≡ 1 = ap (λ n. on_edge n tour) (sym same.1) ∙ own_once in
        omega (arith, on_both f taken tour)
    | inr apart ↦
        let none : served_on f walk ≡ 0 = single_on p e walk single f ∙ ap one_of apart.0 in
        let more = among_same f taken (task_of (service_of e)) apart.1 in
        one (is_among f taken) refl none more
  ]
    where
      one : (b : Bool) → is_among f taken ≡ b → served_on f walk ≡ 0 → is_among f (taken ++ task_of (service_of e) ∷ []) ≡ is_among f taken → on_edge f (taken ++ tour) ≤ 1
      one true is none more = omega (arith, on_both f taken tour, never_twice p f walk (taken ++ task_of (service_of e) ∷ []) (edge_at p e).demand (more ∙ is))
      one false is none more = omega (arith, on_both f taken tour, none_among f taken is, at_most_once p f walk (taken ++ task_of (service_of e) ∷ []) (edge_at p e).demand (more ∙ is) none)

  pub tour_doable : IsDoable p (augmented_tasks p (taken ++ task_of (service_of e) ∷ []) (edge_at p e).demand walk)
  tour_doable = record {
    required = absorbed_required p walk (taken ++ task_of (service_of e) ∷ []) (edge_at p e).demand (single_all p e walk single (IsRequired p) required);
    load = omega (arith, absorbed_load p walk (taken ++ task_of (service_of e) ∷ []) (edge_at p e).demand (valid.tasks e required).demand_fits, single_load p e walk single);
  }

  -- its own service is among its tasks, so that nothing is lost that counts it but once
  pub counted_once : (f : ℕ) → is_among f ((taken ++ task_of (service_of e) ∷ []) ++ augmented_tasks p (taken ++ task_of (service_of e) ∷ []) (edge_at p e).demand walk) ≡ is_among f (taken ++ augmented_tasks p (taken ++ task_of (service_of e) ∷ []) (edge_at p e).demand walk)
  unfolding tour
  counted_once f =
      list_any-append (λ t. t.edge == f) (taken ++ task_of (service_of e) ∷ []) tour ∙ (let same : (is_among f (taken ++ task_of (service_of e) ∷ []) || is_among f tour) ≡ (is_among f taken || is_among f tour) = both in same) ∙ sym (list_any-append (λ t. t.edge == f) taken tour)
    where
      or_so : (b c : Bool) → c ≡ true → (b || c) ≡ true
      or_so true c is = refl
      or_so false c is = is

      both : (is_among f (taken ++ task_of (service_of e) ∷ []) || is_among f tour) ≡ (is_among f taken || is_among f tour)
      both = elim (eqb_tells e f) [
        | inl same ↦
            let there : is_among f tour ≡ true = among_some f tour (let count : on_edge f tour ≡ 1 = ap (λ n. on_edge n tour) (sym same.1) ∙ own_once in omega arith) in
            or_so (is_among f (taken ++ task_of (service_of e) ∷ [])) (is_among f tour) there ∙ sym (or_so (is_among f taken) (is_among f tour) there)
        | inr apart ↦ ap (λ b. b || is_among f tour) (among_same f taken (task_of (service_of e)) apart.1)
      ]

-- all tours that are taken together serve each edge once, each within the capacity
module _ (p : Problem) (valid : IsValid p) (singles : List (List Step)) (single : AreLeastTours p singles) where
  pub augmented_once : (taken : List Task) (tours : List (List Task)) → AreAugmented p singles taken tours → ((f : ℕ) → on_edge f taken ≤ 1) → (e : ℕ) → IsRequired p e → on_edge e (taken ++ all_tasks tours) ≡ 1
  augmented_once taken [] all once e required =
      ap (on_edge e) (append-nil taken) ∙ (let some = some_among e taken (all e required) in let few = once e in omega arith)
  augmented_once taken (tour ∷ tours) all once e required =
      let t = all.0 in
      let more : (f : ℕ) → on_edge f (taken ++ tour) ≤ 1 = λ f.
      subst (λ ts. on_edge f (taken ++ ts) ≤ 1) (sym t.tasks) (tour_once p valid t.edge t.next.required (walk_at singles (t.edge - 1)) (single.tours t.edge t.next.required) taken t.next.untaken f (once f)) in
      ap (on_edge e) (sym (append_assoc taken tour (all_tasks tours))) ∙ augmented_once (taken ++ tour) tours all.1 more e required

  pub augmented_doable : (taken : List Task) (tours : List (List Task)) → AreAugmented p singles taken tours → AllByRecursion (IsDoable p) tours
  augmented_doable taken [] all = tt
  augmented_doable taken (tour ∷ tours) all =
      let t = all.0 in
      (subst (IsDoable p) (sym t.tasks) (tour_doable p valid t.edge t.next.required (walk_at singles (t.edge - 1)) (single.tours t.edge t.next.required) taken), augmented_doable (taken ++ tour) tours all.1)

-- one tour more
module _ (p : Problem) (singles : List (List Step)) where
  pub taken_more : (before : List Task) (tours : List (List Task)) (tour : List Task) → AreTaken p singles before tours → IsTakenTour p singles (before ++ all_tasks tours) tour → AreTaken p singles before (tours ++ tour ∷ [])
  taken_more before [] tour are next = (subst (λ ts. IsTakenTour p singles ts tour) (append-nil before) next, tt)
  taken_more before (u ∷ tours) tour are next = (are.0, taken_more (before ++ u) tours tour are.1 (subst (λ ts. IsTakenTour p singles ts tour) (sym (append_assoc before u (all_tasks tours))) next))

  pub taken_all : (before : List Task) (tours : List (List Task)) → AreTaken p singles before tours → ((e : ℕ) → IsRequired p e → is_among e (before ++ all_tasks tours) ≡ true) → AreAugmented p singles before tours
  taken_all before [] are all = λ e required. ap (is_among e) (sym (append-nil before)) ∙ all e required
  taken_all before (u ∷ tours) are all = (are.0, taken_all (before ++ u) tours are.1 (λ e required. ap (is_among e) (append_assoc before u (all_tasks tours)) ∙ all e required))

pub tasks_more : (tours : List (List Task)) (tour : List Task) → all_tasks (tours ++ tour ∷ []) ≡ all_tasks tours ++ tour
tasks_more tours tour = flat_map-append (λ ts. ts) tours (tour ∷ []) ∙ ap (λ ts. all_tasks tours ++ ts) (append-nil tour)
