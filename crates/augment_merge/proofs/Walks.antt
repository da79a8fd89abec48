-- The walks of a lawful plan, and the tours of one service.
use Rattle.std.proofs.Common.{◌≡◌, ℕ, ◌<◌, true, false, cond, List, [], ◌∷◌, ◌++◌, length, refl, sym, ap, subst, ◌∙◌, arith}
use Rattle.std.specs.Prelude.{IsTrue, ◌==◌}
use Rattle.std.specs.List.{AllByRecursion}
use Rattle.std.proofs.lemmas.List.Sums.{sum_by-cons, sum_by-append}
use Rattle.std.proofs.lemmas.List.Elements.{All-from_recursion}
use Rattle.carp_base.specs.Problem.{Problem, IsEdgeNumber, edge_at, head_of}
use Rattle.plan_model.specs.declared.step.Step.{Step}
use Rattle.plan_model.specs.Plans.{IsLawfulWalk, IsOnEdges, Leads, serves, step_load, walk_at, walk_load}
use Rattle.deadhead_paths.specs.Prices.{NoneServed}
use Rattle.deadhead_paths.specs.Singles.{IsLeastTour, service_of}
use Rattle.augment_merge.proofs.Absorbed.{served_on, served_more, serves_is, serves_none, served_both, served_nothing, one_of}

on_edges : (p : Problem) (a b : ℕ) (walk : List Step) → Leads p a walk b → AllByRecursion (λ s. IsEdgeNumber p s.edge) walk
on_edges p a b [] leads = tt
on_edges p a b (s ∷ walk) leads = (leads.0, on_edges p (head_of (edge_at p s.edge) s.forward) b walk leads.2)

pub lawful_on_edges : (p : Problem) (plan : List (List Step)) → AllByRecursion (IsLawfulWalk p) plan → (k : ℕ) → k < length plan → IsOnEdges p (walk_at plan k)
lawful_on_edges p plan walks k below =
    All-from_recursion (λ (s : Step). IsEdgeNumber p s.edge) (walk_at plan k) (on_edges p p.depot p.depot (walk_at plan k) (All-from_recursion (IsLawfulWalk p) plan walks k [] below).leads)

-- steps that do not serve
none_on : (e : ℕ) (steps : List Step) → NoneServed steps → served_on e steps ≡ 0
none_on e [] none = served_nothing e
none_on e (s ∷ steps) none = let here : one_of (serves e s) ≡ 0 = ap one_of (serves_none e s none.0) in omega (arith, served_more e s steps, none_on e steps none.1)

none_load : (p : Problem) (steps : List Step) → NoneServed steps → walk_load p steps ≡ 0
none_load p [] none = refl
none_load p (s ∷ steps) none =
    let here : step_load p s ≡ 0 = ap (λ b. cond b (edge_at p s.edge).demand 0) none.0 in
    omega (arith, sum_by-cons (step_load p) s steps, none_load p steps none.1)

none_all : (P : ℕ → Type 0) (steps : List Step) → NoneServed steps → AllByRecursion (λ s. IsTrue s.served → P s.edge) steps
none_all P [] none = tt
none_all P (s ∷ steps) none = ((λ is. absurd (let no : true ≡ false = sym is ∙ none.0 in cc)), none_all P steps none.1)

all_both : {X : Type 0} (P : X → Type 0) (xs ys : List X) → AllByRecursion P xs → AllByRecursion P ys → AllByRecursion P (xs ++ ys)
all_both P [] ys first second = second
all_both P (x ∷ xs) ys first second = (first.0, all_both P xs ys first.1 second)

-- a tour of one service
module _ (p : Problem) (e : ℕ) (walk : List Step) (tour : IsLeastTour p e walk) where
  pub single_on : (f : ℕ) → served_on f walk ≡ one_of (e == f)
  single_on f =
      ap (served_on f) tour.3 ∙ served_both f tour.0 (service_of e ∷ tour.1)
      ∙ (let here : one_of (serves f (service_of e)) ≡ one_of (e == f) = ap one_of (serves_is f (service_of e) refl) in
      omega (arith, served_more f (service_of e) tour.1, none_on f tour.0 tour.2.deadheads.unserved, none_on f tour.1 tour.4.deadheads.unserved))

  pub single_load : walk_load p walk ≡ (edge_at p e).demand
  single_load =
      ap (walk_load p) tour.3 ∙ sum_by-append (step_load p) tour.0 (service_of e ∷ tour.1)
      ∙ (let here : step_load p (service_of e) ≡ (edge_at p e).demand = refl in
      omega (arith, sum_by-cons (step_load p) (service_of e) tour.1, none_load p tour.0 tour.2.deadheads.unserved, none_load p tour.1 tour.4.deadheads.unserved))

  pub single_all : (P : ℕ → Type 0) → P e → AllByRecursion (λ s. IsTrue s.served → P s.edge) walk
  single_all P here =
      subst (AllByRecursion (λ s. IsTrue s.served → P s.edge)) (sym tour.3)
      (all_both (λ (s : Step). IsTrue s.served → P s.edge) tour.0 (service_of e ∷ tour.1) (none_all P tour.0 tour.2.deadheads.unserved) ((λ is. here), none_all P tour.1 tour.4.deadheads.unserved))
