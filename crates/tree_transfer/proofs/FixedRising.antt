-- With the same yes pairs chains cost no less in a raised instance.
use Rattle.std.proofs.Common.{◌≡◌, ℕ, ◌+◌, ◌≤◌, ◌↔◌, ◌==◌, Bool, true, false, cond, List, [], ◌∷◌, map, refl, ap, subst, ◌∙◌, arith}
use Rattle.std.proofs.lemmas.List.Sums.{sum_by-cons}
use Rattle.std.proofs.lemmas.Bool.{eq-eqb}
use Rattle.carp_base.specs.Problem.{Problem, IsRequired}
use Rattle.plan_model.specs.Plans.{Leads}
use Rattle.plan_model.specs.declared.step.Step.{Step}
use Rattle.deadhead_paths.specs.Tidy.{served_steps}
use Rattle.deadhead_paths.specs.Tours.{IsFollowed}
use Rattle.decision_chains.specs.declared.decision.Decision.{Decision}
use Rattle.decision_chains.specs.Exclusions.{IsYes, YesPath, AreJoined}
use Rattle.decision_chains.specs.Neighbours.{served_edges, times}
use Rattle.decision_chains.specs.PlanLaws.{ChainsCostLess, FixedValuesCompare}
use Rattle.tree_transfer.specs.Raised.{IsRaised}
use Rattle.tree_transfer.specs.Laws.{FixedValuesRise}
use Rattle.tree_transfer.proofs.Rising.{cost_there, leads_there, moved}

times-cons : (e x : ℕ) (xs : List ℕ) → times e (x ∷ xs) ≡ cond (x == e) 1 0 + times e xs
times-cons e x xs = sum_by-cons (λ y. cond (y == e) 1 0) x xs

times-first : (e : ℕ) (xs : List ℕ) → 1 ≤ times e (e ∷ xs)
times-first e xs = omega (arith, times-cons e e xs, ap {B = ℕ} (λ b. cond b 1 0) (eq-eqb e e refl))

-- Steps that serve edges which keep their numbers serve the same edges.

module _ (number : ℕ → ℕ) where
  served_first : (b : Bool) (s : Step) (rest : List Step) → b ≡ true → 1 ≤ times s.edge (map (λ x. x.edge) (cond b (s ∷ rest) rest))
  served_first true s rest is = times-first s.edge (map (λ x. x.edge) rest)
  served_first false s rest is = cc

  served_later : (b : Bool) (s : Step) (rest : List Step) (f : ℕ) → 1 ≤ times f (map (λ x. x.edge) rest) → 1 ≤ times f (map (λ x. x.edge) (cond b (s ∷ rest) rest))
  served_later true s rest f some = omega (arith, some, times-cons f s.edge (map (λ x. x.edge) rest))
  served_later false s rest f some = some

  one_more : (b : Bool) (s : Step) (rest rest' : List Step) → (b ≡ true → number s.edge ≡ s.edge) → map (λ x. x.edge) rest' ≡ map (λ x. x.edge) rest →
      map (λ x. x.edge) (cond b (moved number s ∷ rest') rest') ≡ map (λ x. x.edge) (cond b (s ∷ rest) rest)
  one_more true s rest rest' keeps is = ap (λ e. e ∷ map (λ (x : Step). x.edge) rest') (keeps refl) ∙ ap (λ es. s.edge ∷ es) is
  one_more false s rest rest' keeps is = is

  served_same : (walk : List Step) → ((f : ℕ) → 1 ≤ times f (served_edges walk) → number f ≡ f) → served_edges (map (moved number) walk) ≡ served_edges walk
  served_same [] keeps = refl
  served_same (s ∷ walk) keeps =
      one_more s.served s (served_steps walk) (served_steps (map (moved number) walk)) (λ is. keeps s.edge (served_first s.served s (served_steps walk) is))
      (served_same walk (λ f some. keeps f (served_later s.served s (served_steps walk) f some)))

path_also : (before after : List Decision) → ((a b : ℕ) → IsYes before a b → IsYes after a b) → (a : ℕ) (path : List ℕ) (b : ℕ) → YesPath before a path b → YesPath after a path b
path_also before after also a [] b leads = leads
path_also before after also a (x ∷ xs) b leads = (also a x leads.0, path_also before after also x xs b leads.1)

module _ (old new : Problem) (before after : List Decision) (raised : IsRaised old new) (as_yes : (a b : ℕ) → IsYes after a b ↔ IsYes before a b)
    (required : (a b : ℕ) → IsYes after a b → IsRequired new b) where
  joined_required : (a : ℕ) (path : List ℕ) (b : ℕ) → IsRequired new a → YesPath after a path b → IsRequired new b
  joined_required a [] b is leads = subst (IsRequired new) leads is
  joined_required a (x ∷ xs) b is leads = joined_required x xs b (required a x leads.0) leads.1

  joined_before : (a b : ℕ) → AreJoined after a b → AreJoined before a b
  joined_before a b joined = (joined.0, path_also after before (λ x y. (as_yes x y).0) a joined.0 b joined.1)

  joined_after : (a b : ℕ) → AreJoined before a b → AreJoined after a b
  joined_after a b joined = (joined.0, path_also before after (λ x y. (as_yes x y).1) a joined.0 b joined.1)

  cheaper : ChainsCostLess old new before after
  cheaper e walk is serves =
      let old_walk = map (moved raised.number) walk in
      let served : served_edges old_walk ≡ served_edges walk =
      served_same raised.number walk
      (λ f some. let joined = serves.just f some in raised.same f (joined_required e joined.0 f is joined.1)) in
      record {
        walk = old_walk;
        serves = record {
          leads = subst (λ d. Leads old d old_walk d) raised.depot (leads_there old new raised new.depot new.depot walk serves.leads);
          just = λ f some. joined_before e f (serves.just f (subst (λ es. 1 ≤ times f es) served some));
          each = λ f joined. ap (times f) served ∙ serves.each f (joined_after e f joined);
          order = λ a b follows. (as_yes a b).0 (serves.order a b (subst (λ es. IsFollowed es a b) served follows));
        };
        within = cost_there old new raised new.depot new.depot walk serves.leads;
      }

pub fixed_rises : FixedValuesCompare → FixedValuesRise
fixed_rises compare old new before after value risen raised as_yes required one other =
    compare old new before after value risen raised.required as_yes (cheaper old new before after raised as_yes required) one other
