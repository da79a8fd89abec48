-- Plans by the services of their walks.
use Rattle.std.proofs.Common.{◌≡◌, ℕ, zero, suc, ◌+◌, ◌*◌, ◌<◌, ◌≤◌, Bool, true, false, cond, ◌&&◌, ◌||◌, ◌==◌, List, [], ◌∷◌, ◌++◌, length, get_or, map, take, refl, sym, ap, ◌∙◌, arith, subst}
use Rattle.std.specs.Prelude.{if◌then◌else◌, IsTrue}
use Rattle.std.specs.List.{filter, sum_by, count_by, AllByRecursion, AllZip}
use Rattle.std.proofs.lemmas.Bool.{false≢true}
use Rattle.std.proofs.lemmas.List.{length-append, append-nil}
use Rattle.std.proofs.lemmas.List.Elements.{filter-append, All-from_recursion, AllZip-push, length_all_zip, filter_more}
use Rattle.std.proofs.lemmas.List.Sums.{sum_by-cons, sum_by-append}
use Rattle.carp_base.specs.Problem.{Problem, IsValid, IsRequired, edge_at}
use Rattle.plan_model.specs.Plans.{IsLawfulWalk, IsLawful, step_cost, step_load, walk_load, plan_cost, steps_of, serves}
use Rattle.plan_model.specs.declared.step.Step.{Step}
use Rattle.deadhead_paths.specs.Tidy.{served_steps, serves_some, GoByLeastPaths, IsCheapest, IsTidied}
use Rattle.deadhead_paths.specs.Join.{IsJoined}
use Rattle.deadhead_paths.proofs.Counting.{at_most_once}

-- the services of a plan, walk by walk
pub all_services : (plan : List (List Step)) → served_steps (steps_of plan) ≡ steps_of (map served_steps plan)
all_services [] = refl
all_services (walk ∷ plan) = filter-append (λ s. s.served) walk (steps_of plan) ∙ ap (λ xs. served_steps walk ++ xs) (all_services plan)

none_served : (walk : List Step) → serves_some walk ≡ false → served_steps walk ≡ []
none_served [] none = refl
none_served (s ∷ walk) none = one s.served none (none_served walk)
  where
    one : (b : Bool) → (b || serves_some walk) ≡ false → (serves_some walk ≡ false → served_steps walk ≡ []) → cond b (s ∷ served_steps walk) (served_steps walk) ≡ []
    one true out onward = absurd (false≢true (sym out))
    one false out onward = onward out

pub some_served : (walk : List Step) → serves_some walk ≡ true → 1 ≤ length (served_steps walk)
some_served [] some = absurd (false≢true some)
some_served (s ∷ walk) some = one s.served some (some_served walk)
  where
    one : (b : Bool) → (b || serves_some walk) ≡ true → (serves_some walk ≡ true → 1 ≤ length (served_steps walk)) → 1 ≤ length (cond b (s ∷ served_steps walk) (served_steps walk))
    one true out onward = omega arith
    one false out onward = onward out

-- walks without service add none
pub kept_services : (plan : List (List Step)) → steps_of (map served_steps (filter serves_some plan)) ≡ steps_of (map served_steps plan)
kept_services [] = refl
kept_services (walk ∷ plan) = one (serves_some walk) refl (kept_services plan)
  where
    one : (b : Bool) → serves_some walk ≡ b → steps_of (map served_steps (filter serves_some plan)) ≡ steps_of (map served_steps plan) →
        steps_of (map served_steps (cond b (walk ∷ filter serves_some plan) (filter serves_some plan))) ≡ served_steps walk ++ steps_of (map served_steps plan)
    one true is same = ap (λ xs. served_steps walk ++ xs) same
    one false is same = same ∙ ap (λ xs. xs ++ steps_of (map served_steps plan)) (sym (none_served walk is))

-- each walk that is kept has a service
pub kept_few : (plan : List (List Step)) → length (filter serves_some plan) ≤ length (steps_of (map served_steps plan))
kept_few [] = omega arith
kept_few (walk ∷ plan) = one (serves_some walk) refl (kept_few plan)
  where
    one : (b : Bool) → serves_some walk ≡ b → length (filter serves_some plan) ≤ length (steps_of (map served_steps plan)) →
        length (cond b (walk ∷ filter serves_some plan) (filter serves_some plan)) ≤ length (served_steps walk ++ steps_of (map served_steps plan))
    one true is few = omega (arith, few, some_served walk is, length-append (served_steps walk) (steps_of (map served_steps plan)))
    one false is few = omega (arith, few, length-append (served_steps walk) (steps_of (map served_steps plan)))

-- what is read off the services alone
pub load_served : (p : Problem) (walk : List Step) → walk_load p walk ≡ sum_by (λ s. (edge_at p s.edge).demand) (served_steps walk)
load_served p [] = refl
load_served p (s ∷ walk) = sum_by-cons (step_load p) s walk ∙ one s.served (load_served p walk)
  where
    one : (b : Bool) → walk_load p walk ≡ sum_by (λ x. (edge_at p x.edge).demand) (served_steps walk) →
        (if b then (edge_at p s.edge).demand else 0) + walk_load p walk ≡ sum_by (λ x. (edge_at p x.edge).demand) (cond b (s ∷ served_steps walk) (served_steps walk))
    one true rest = omega (arith, rest, sum_by-cons (λ x. (edge_at p x.edge).demand) s (served_steps walk))
    one false rest = omega (arith, rest)

pub count_served : (e : ℕ) (steps : List Step) → count_by (serves e) steps ≡ count_by (λ s. s.edge == e) (served_steps steps)
count_served e [] = refl
count_served e (s ∷ steps) = sum_by-cons (λ x. cond (serves e x) 1 0) s steps ∙ one s.served (count_served e steps)
  where
    one : (b : Bool) → count_by (serves e) steps ≡ count_by (λ x. x.edge == e) (served_steps steps) →
        cond (b && (s.edge == e)) 1 0 + count_by (serves e) steps ≡ count_by (λ x. x.edge == e) (cond b (s ∷ served_steps steps) (served_steps steps))
    one true rest = omega (arith, rest, sum_by-cons (λ x. cond (x.edge == e) 1 0) s (served_steps steps))
    one false rest = omega (arith, rest)

pub required_served : (p : Problem) (walk : List Step) → AllByRecursion (λ s. IsTrue s.served → IsRequired p s.edge) walk → AllByRecursion (λ s. IsRequired p s.edge) (served_steps walk)
required_served p [] all = tt
required_served p (s ∷ walk) all = one s.served refl (required_served p walk all.1)
  where
    one : (b : Bool) → s.served ≡ b → AllByRecursion (λ x. IsRequired p x.edge) (served_steps walk) → AllByRecursion (λ x. IsRequired p x.edge) (cond b (s ∷ served_steps walk) (served_steps walk))
    one true is rest = (all.0 is, rest)
    one false is rest = rest

pub served_required : (p : Problem) (walk : List Step) → AllByRecursion (λ s. IsRequired p s.edge) (served_steps walk) → AllByRecursion (λ s. IsTrue s.served → IsRequired p s.edge) walk
served_required p [] all = tt
served_required p (s ∷ walk) all = let both = one s.served refl all in (both.0, served_required p walk both.1)
  where
    one : (b : Bool) → s.served ≡ b → AllByRecursion (λ x. IsRequired p x.edge) (cond b (s ∷ served_steps walk) (served_steps walk)) →
        (IsTrue s.served → IsRequired p s.edge) × AllByRecursion (λ x. IsRequired p x.edge) (served_steps walk)
    one true is rest = (λ _. rest.0, rest.1)
    one false is rest = (λ serves_it. absurd (false≢true (sym is ∙ serves_it)), rest)

-- a joined walk is lawful
pub joined_lawful : (p : Problem) (walk joined : List Step) → IsLawfulWalk p walk → IsJoined p walk joined → IsLawfulWalk p joined
joined_lawful p walk joined lawful is = record {
  leads = is.leads;
  serves_required = served_required p joined (subst (λ xs. AllByRecursion (λ s. IsRequired p s.edge) xs) (sym is.served) (required_served p walk lawful.serves_required));
  load = omega (arith, lawful.load, load_served p walk, load_served p joined, ap (sum_by (λ s. (edge_at p s.edge).demand)) is.served);
}

-- walks that are joined one by one
pub zip_services : (p : Problem) (walks joined : List (List Step)) → AllZip (IsJoined p) walks joined → map served_steps joined ≡ map served_steps walks
zip_services p [] [] all = refl
zip_services p [] (j ∷ joined) all = absurd all
zip_services p (w ∷ walks) [] all = absurd all
zip_services p (w ∷ walks) (j ∷ joined) all = ap (λ xs. xs ∷ map served_steps joined) all.0.served ∙ ap (λ ys. served_steps w ∷ ys) (zip_services p walks joined all.1)

pub zip_lawful : (p : Problem) (walks joined : List (List Step)) → AllByRecursion (IsLawfulWalk p) walks → AllZip (IsJoined p) walks joined → AllByRecursion (IsLawfulWalk p) joined
zip_lawful p [] [] lawful all = tt
zip_lawful p [] (j ∷ joined) lawful all = absurd all
zip_lawful p (w ∷ walks) [] lawful all = absurd all
zip_lawful p (w ∷ walks) (j ∷ joined) lawful all = (joined_lawful p w j lawful.0 all.0, zip_lawful p walks joined lawful.1 all.1)

pub zip_paths : (p : Problem) (walks joined : List (List Step)) → AllZip (IsJoined p) walks joined → AllByRecursion (λ walk. GoByLeastPaths p (served_steps walk) p.depot p.depot walk) joined
zip_paths p [] [] all = tt
zip_paths p [] (j ∷ joined) all = absurd all
zip_paths p (w ∷ walks) [] all = absurd all
zip_paths p (w ∷ walks) (j ∷ joined) all = (all.0.paths, zip_paths p walks joined all.1)

pub zip_cheapest : (p : Problem) (walks joined : List (List Step)) → AllZip (IsJoined p) walks joined → AllByRecursion (IsCheapest p) joined
zip_cheapest p [] [] all = tt
zip_cheapest p [] (j ∷ joined) all = absurd all
zip_cheapest p (w ∷ walks) [] all = absurd all
zip_cheapest p (w ∷ walks) (j ∷ joined) all = (all.0.cheapest, zip_cheapest p walks joined all.1)

pub zip_cost : (p : Problem) (walks joined : List (List Step)) → AllByRecursion (IsLawfulWalk p) walks → AllZip (IsJoined p) walks joined → plan_cost p joined ≤ plan_cost p walks
zip_cost p [] [] lawful all = omega arith
zip_cost p [] (j ∷ joined) lawful all = absurd all
zip_cost p (w ∷ walks) [] lawful all = absurd all
zip_cost p (w ∷ walks) (j ∷ joined) lawful all =
    omega (
      arith,
      all.0.cheapest w lawful.0.leads (sym all.0.served),
      zip_cost p walks joined lawful.1 all.1,
      sum_by-append (step_cost p) j (steps_of joined),
      sum_by-append (step_cost p) w (steps_of walks),
    )

pub zip_short : (p : Problem) (walks joined : List (List Step)) → AllZip (IsJoined p) walks joined →
    length (steps_of joined) ≤ 1000 * length (steps_of (map served_steps walks)) + 999 * length walks
zip_short p [] [] all = omega arith
zip_short p [] (j ∷ joined) all = absurd all
zip_short p (w ∷ walks) [] all = absurd all
zip_short p (w ∷ walks) (j ∷ joined) all =
    omega (arith, all.0.short, zip_short p walks joined all.1, length-append j (steps_of joined), length-append (served_steps w) (steps_of (map served_steps walks)))

-- some of the walks of a plan
pub some_walks : (P : List Step → Type 0) (test : List Step → Bool) (plan : List (List Step)) → AllByRecursion P plan → AllByRecursion P (filter test plan)
some_walks P test [] all = tt
some_walks P test (w ∷ plan) all = one (test w) (some_walks P test plan all.1)
  where
    one : (b : Bool) → AllByRecursion P (filter test plan) → AllByRecursion P (cond b (w ∷ filter test plan) (filter test plan))
    one true rest = (all.0, rest)
    one false rest = rest

pub some_cost : (p : Problem) (test : List Step → Bool) (plan : List (List Step)) → plan_cost p (filter test plan) ≤ plan_cost p plan
some_cost p test [] = omega arith
some_cost p test (w ∷ plan) = one (test w) (some_cost p test plan)
  where
    one : (b : Bool) → plan_cost p (filter test plan) ≤ plan_cost p plan → plan_cost p (cond b (w ∷ filter test plan) (filter test plan)) ≤ sum_by (step_cost p) (w ++ steps_of plan)
    one true rest = omega (arith, rest, sum_by-append (step_cost p) w (steps_of plan), sum_by-append (step_cost p) w (steps_of (filter test plan)))
    one false rest = omega (arith, rest, sum_by-append (step_cost p) w (steps_of plan))

pub AllByRecursion-append : {X : Type 0} (P : X → Type 0) (xs ys : List X) → AllByRecursion P xs → AllByRecursion P ys → AllByRecursion P (xs ++ ys)
AllByRecursion-append P [] ys first second = second
AllByRecursion-append P (x ∷ xs) ys first second = (first.0, AllByRecursion-append P xs ys first.1 second)

plan_required : (p : Problem) (plan : List (List Step)) → AllByRecursion (IsLawfulWalk p) plan → AllByRecursion (λ s. IsRequired p s.edge) (steps_of (map served_steps plan))
plan_required p [] lawful = tt
plan_required p (w ∷ plan) lawful =
    AllByRecursion-append (λ s. IsRequired p s.edge) (served_steps w) (steps_of (map served_steps plan)) (required_served p w lawful.0.serves_required) (plan_required p plan lawful.1)

-- a lawful plan has at most as many services as there are required edges
pub few_services : (p : Problem) (plan : List (List Step)) → IsLawful p plan → length (steps_of (map served_steps plan)) ≤ p.required
few_services p plan lawful =
    let steps = steps_of (map served_steps plan) in
    let all = All-from_recursion (λ s. IsRequired p s.edge) steps (plan_required p plan lawful.walks) in
    at_most_once (λ (s : Step). s.edge) p.required steps
    (λ k d in_range. let own = all k d in_range in (own.from_one, own.in_range))
    (λ e from_one in_range. omega (arith, lawful.once e (record { from_one = from_one; in_range = in_range }), count_served e (steps_of plan), ap (count_by (λ s. s.edge == e)) (all_services plan)))

pub walk_services : (plan : List (List Step)) (i : ℕ) → i < length plan → length (served_steps (get_or plan i [])) ≤ length (steps_of (map served_steps plan))
walk_services [] i in_range = absurd (omega (arith, in_range))
walk_services (w ∷ plan) zero in_range = omega (arith, length-append (served_steps w) (steps_of (map served_steps plan)))
walk_services (w ∷ plan) (suc i) in_range =
    omega (arith, walk_services plan i (omega (arith, in_range)), length-append (served_steps w) (steps_of (map served_steps plan)))

-- the plan of the joined walks is tidied
pub all_tidied : (p : Problem) → IsValid p → (plan tidied : List (List Step)) → IsLawful p plan → AllZip (IsJoined p) (filter serves_some plan) tidied → IsTidied p plan tidied
all_tidied p valid plan tidied lawful joined =
    let kept = filter serves_some plan in
    let kept_lawful = some_walks (IsLawfulWalk p) serves_some plan lawful.walks in
    let same = zip_services p kept tidied joined in
    let all_same : served_steps (steps_of tidied) ≡ served_steps (steps_of plan) =
    all_services tidied ∙ ap steps_of same ∙ kept_services plan ∙ sym (all_services plan) in
    let few = few_services p plan lawful in
    let long = length_all_zip (IsJoined p) kept tidied joined in
    record {
      lawful = record {
        walks = zip_lawful p kept tidied kept_lawful joined;
        once = λ e required. count_served e (steps_of tidied) ∙ ap (count_by (λ s. s.edge == e)) all_same ∙ sym (count_served e (steps_of plan)) ∙ lawful.once e required;
      };
      services = same;
      by_least_paths = zip_paths p kept tidied joined;
      cheapest = zip_cheapest p kept tidied joined;
      cost = omega (arith, zip_cost p kept tidied kept_lawful joined, some_cost p serves_some plan);
      few_tours = omega (arith, long, kept_few plan, few);
      few_steps = omega (arith, zip_short p kept tidied joined, ap length (kept_services plan), kept_few plan, few, valid.few_required);
    }

-- one more walk of the plan was joined, or left out
pub zip_more : (p : Problem) (plan tidied : List (List Step)) (i : ℕ) → i < length plan → AllZip (IsJoined p) (filter serves_some (take i plan)) tidied →
    serves_some (get_or plan i []) ≡ true → (j : List Step) → IsJoined p (get_or plan i []) j → AllZip (IsJoined p) (filter serves_some (take (i + 1) plan)) (tidied ++ j ∷ [])
zip_more p plan tidied i in_range so_far some j is =
    let more = filter_more serves_some plan i [] in_range ∙ ap (λ b. filter serves_some (take i plan) ++ cond b (get_or plan i [] ∷ []) []) some in
    rw more (AllZip-push (IsJoined p) (filter serves_some (take i plan)) tidied (get_or plan i []) j so_far is)

pub zip_same : (p : Problem) (plan tidied : List (List Step)) (i : ℕ) → i < length plan → AllZip (IsJoined p) (filter serves_some (take i plan)) tidied →
    serves_some (get_or plan i []) ≡ false → AllZip (IsJoined p) (filter serves_some (take (i + 1) plan)) tidied
zip_same p plan tidied i in_range so_far none =
    let same = filter_more serves_some plan i [] in_range ∙ ap (λ b. filter serves_some (take i plan) ++ cond b (get_or plan i [] ∷ []) []) none ∙ append-nil (filter serves_some (take i plan)) in
    rw same so_far
