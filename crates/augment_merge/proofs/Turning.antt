-- Reversed and joined tours: their tasks, loads, ends and least deadheads.
use Rattle.std.proofs.Common.{◌≡◌, ℕ, ◌+◌, ◌-◌, ◌<◌, Bool, true, false, not, List, [], ◌∷◌, ◌++◌, map, length, get_or, take, refl, sym, ap, subst, ◌∙◌, arith, append_assoc}
use Rattle.std.specs.Prelude.{if◌then◌else◌}
use Rattle.std.specs.List.{sum_by, AllByRecursion}
use Rattle.std.proofs.lemmas.List.{reverse-append, length-reverse, get_or-reverse, get_or-map, length-map, take_more}
use Rattle.std.proofs.lemmas.List.Sums.{sum_by-cons, sum_by-append}
use Rattle.carp_base.specs.declared.edge.Task.{Task}
use Rattle.carp_base.specs.Problem.{Problem, edge_at, tail_of, head_of}
use Rattle.deadhead_paths.specs.Laws.{LeastPriceIsSymmetric}
use Rattle.deadhead_paths.specs.Prices.{IsLeastPrice}
use Rattle.deadhead_paths.specs.Tours.{LeastDeadhead}
use Rattle.augment_merge.specs.Joins.{reversed_task, reversed_tour, oriented_tour, joined_tour}
use Rattle.augment_merge.specs.Merging.{has_tasks}
use Rattle.augment_merge.specs.Outlines.{tour_starts_at, tour_ends_at}

pub reversed_more : (t : Task) (ts : List Task) → reversed_tour (t ∷ ts) ≡ reversed_tour ts ++ reversed_task t ∷ []
reversed_more t ts = reverse-append (reversed_task t ∷ []) (map reversed_task ts)

-- one task more of a reversed tour, by its place in the tour
pub reversed_take : (before after tour : List Task) (i : ℕ) (d : Task) → i < length tour → after ≡ (before ++ take i (reversed_tour tour)) ++ reversed_task (get_or tour (length tour - 1 - i) d) ∷ [] → after ≡ before ++ take (i + 1) (reversed_tour tour)
reversed_take before after tour i d below pushed =
    let turned = map reversed_task tour in
    let long : length turned ≡ length tour = length-map tour reversed_task in
    let in_range : i < length (reversed_tour tour) = omega (arith, long, length-reverse turned) in
    let place : length turned - 1 - i ≡ length tour - 1 - i = omega arith in
    let at : get_or (reversed_tour tour) i (reversed_task d) ≡ reversed_task (get_or tour (length tour - 1 - i) d) =
    get_or-reverse turned i (reversed_task d) (omega arith) ∙ ap (λ k. get_or turned k (reversed_task d)) place ∙ get_or-map reversed_task tour (length tour - 1 - i) d (reversed_task d) (omega arith) in
    let more : take (i + 1) (reversed_tour tour) ≡ take i (reversed_tour tour) ++ reversed_task (get_or tour (length tour - 1 - i) d) ∷ [] =
    take_more (reversed_tour tour) i (reversed_task d) in_range ∙ ap (λ t. take i (reversed_tour tour) ++ t ∷ []) at in
    pushed ∙ append_assoc before (take i (reversed_tour tour)) _ ∙ ap (λ ts. before ++ ts) (sym more)

pub all_both : {X : Type 0} (P : X → Type 0) (xs ys : List X) → AllByRecursion P xs → AllByRecursion P ys → AllByRecursion P (xs ++ ys)
all_both P [] ys first second = second
all_both P (x ∷ xs) ys first second = (first.0, all_both P xs ys first.1 second)

-- what is required of the edges
all_oriented : (P : ℕ → Type 0) (turned : Bool) (tour : List Task) → AllByRecursion (λ t. P t.edge) tour → AllByRecursion (λ t. P t.edge) (oriented_tour turned tour)
all_oriented P false tour all = all
all_oriented P true [] all = all
all_oriented P true (t ∷ ts) all =
    subst (AllByRecursion (λ u. P u.edge)) (sym (reversed_more t ts)) (all_both (λ u. P u.edge) (reversed_tour ts) (reversed_task t ∷ []) (all_oriented P true ts all.1) (all.0, tt))

pub all_joined : (P : ℕ → Type 0) (b c : Bool) (first second : List Task) → AllByRecursion (λ t. P t.edge) first → AllByRecursion (λ t. P t.edge) second → AllByRecursion (λ t. P t.edge) (joined_tour b c first second)
all_joined P b c first second all all' = all_both (λ t. P t.edge) (oriented_tour b first) (oriented_tour c second) (all_oriented P b first all) (all_oriented P c second all')

-- sums over the edges
pub sum_oriented : (g : ℕ → ℕ) (turned : Bool) (tour : List Task) → sum_by (λ t. g t.edge) (oriented_tour turned tour) ≡ sum_by (λ t. g t.edge) tour
sum_oriented g false tour = refl
sum_oriented g true [] = refl
sum_oriented g true (t ∷ ts) =
    ap (sum_by (λ (u : Task). g u.edge)) (reversed_more t ts)
    ∙ (let more = sum_by-append (λ (u : Task). g u.edge) (reversed_tour ts) (reversed_task t ∷ []) in
    let one = sum_by-cons (λ (u : Task). g u.edge) (reversed_task t) [] in
    let here = sum_by-cons (λ (u : Task). g u.edge) t ts in
    omega (arith, more, one, here, sum_oriented g true ts))

pub sum_joined : (g : ℕ → ℕ) (b c : Bool) (first second : List Task) → sum_by (λ t. g t.edge) (joined_tour b c first second) ≡ sum_by (λ t. g t.edge) first + sum_by (λ t. g t.edge) second
sum_joined g b c first second =
    omega (arith, sum_by-append (λ (u : Task). g u.edge) (oriented_tour b first) (oriented_tour c second), sum_oriented g b first, sum_oriented g c second)

module _ (p : Problem) where
  -- a task ends where it starts when it is reversed
  tail_reversed : (t : Task) → tail_of (edge_at p t.edge) (not t.forward) ≡ head_of (edge_at p t.edge) t.forward
  tail_reversed t = one t.forward
    where
      one : (b : Bool) → tail_of (edge_at p t.edge) (not b) ≡ head_of (edge_at p t.edge) b
      one true = refl
      one false = refl

  head_reversed : (t : Task) → head_of (edge_at p t.edge) (not t.forward) ≡ tail_of (edge_at p t.edge) t.forward
  head_reversed t = one t.forward
    where
      one : (b : Bool) → head_of (edge_at p t.edge) (not b) ≡ tail_of (edge_at p t.edge) b
      one true = refl
      one false = refl

  pub ends_more : (a : ℕ) (ts : List Task) (t : Task) → tour_ends_at p a (ts ++ t ∷ []) ≡ head_of (edge_at p t.edge) t.forward
  ends_more a [] t = refl
  ends_more a (u ∷ ts) t = ends_more (head_of (edge_at p u.edge) u.forward) ts t

  starts_more : (a : ℕ) (ts : List Task) (t : Task) → tour_starts_at p a (ts ++ t ∷ []) ≡ tour_starts_at p (tail_of (edge_at p t.edge) t.forward) ts
  starts_more a [] t = refl
  starts_more a (u ∷ ts) t = refl

  starts_reversed : (a : ℕ) (tour : List Task) → tour_starts_at p a (reversed_tour tour) ≡ tour_ends_at p a tour
  starts_reversed a [] = refl
  starts_reversed a (t ∷ ts) =
      ap (tour_starts_at p a) (reversed_more t ts) ∙ starts_more a (reversed_tour ts) (reversed_task t)
      ∙ ap (λ v. tour_starts_at p v (reversed_tour ts)) (tail_reversed t) ∙ starts_reversed (head_of (edge_at p t.edge) t.forward) ts

  ends_reversed : (a : ℕ) (tour : List Task) → tour_ends_at p a (reversed_tour tour) ≡ tour_starts_at p a tour
  ends_reversed a [] = refl
  ends_reversed a (t ∷ ts) = ap (tour_ends_at p a) (reversed_more t ts) ∙ ends_more a (reversed_tour ts) (reversed_task t) ∙ head_reversed t

  pub starts_oriented : (a : ℕ) (turned : Bool) (tour : List Task) → tour_starts_at p a (oriented_tour turned tour) ≡ (if turned then tour_ends_at p a tour else tour_starts_at p a tour)
  starts_oriented a false tour = refl
  starts_oriented a true tour = starts_reversed a tour

  pub ends_oriented : (a : ℕ) (turned : Bool) (tour : List Task) → tour_ends_at p a (oriented_tour turned tour) ≡ (if turned then tour_starts_at p a tour else tour_ends_at p a tour)
  ends_oriented a false tour = refl
  ends_oriented a true tour = ends_reversed a tour

  module _ (q : ℕ → ℕ) where
    -- one task more at the end
    deadhead_more : (a : ℕ) (ts : List Task) (t : Task) (b m n : ℕ) → LeastDeadhead p q a ts (tail_of (edge_at p t.edge) t.forward) m → IsLeastPrice p q (head_of (edge_at p t.edge) t.forward) b n →
        LeastDeadhead p q a (ts ++ t ∷ []) b (m + n)
    deadhead_more a [] t b m n least home = (m, n, least, home, refl)
    deadhead_more a (u ∷ ts) t b m n least home =
        (least.0, least.1 + n, least.2, deadhead_more (head_of (edge_at p u.edge) u.forward) ts t b least.1 n least.3 home, let parts = least.4 in omega arith)

    deadhead_reversed : LeastPriceIsSymmetric → (a : ℕ) (tour : List Task) (b n : ℕ) → LeastDeadhead p q a tour b n → LeastDeadhead p q b (reversed_tour tour) a n
    deadhead_reversed symmetric a [] b n least = symmetric p q a b n least
    deadhead_reversed symmetric a (t ∷ ts) b n least =
        let rest : LeastDeadhead p q b (reversed_tour ts) (tail_of (edge_at p t.edge) (not t.forward)) least.1 =
        subst (λ v. LeastDeadhead p q b (reversed_tour ts) v least.1) (sym (tail_reversed t)) (deadhead_reversed symmetric (head_of (edge_at p t.edge) t.forward) ts b least.1 least.3) in
        let home : IsLeastPrice p q (head_of (edge_at p t.edge) (not t.forward)) a least.0 =
        subst (λ v. IsLeastPrice p q v a least.0) (sym (head_reversed t)) (symmetric p q a (tail_of (edge_at p t.edge) t.forward) least.0 least.2) in
        let all = deadhead_more b (reversed_tour ts) (reversed_task t) a least.1 least.0 rest home in
        let sum : least.1 + least.0 ≡ n = let parts = least.4 in omega arith in
        subst (LeastDeadhead p q b (reversed_tour (t ∷ ts)) a) sum (subst (λ us. LeastDeadhead p q b us a (least.1 + least.0)) (sym (reversed_more t ts)) all)

    pub deadhead_oriented : LeastPriceIsSymmetric → (a : ℕ) (turned : Bool) (tour : List Task) (n : ℕ) → LeastDeadhead p q a tour a n → LeastDeadhead p q a (oriented_tour turned tour) a n
    deadhead_oriented symmetric a false tour n least = least
    deadhead_oriented symmetric a true tour n least = deadhead_reversed symmetric a tour a n least

    pub same_price : (a b m n : ℕ) → IsLeastPrice p q a b m → IsLeastPrice p q a b n → m ≡ n
    same_price a b m n first second = omega (arith, first.least n second.steps second.reached, second.least m first.steps first.reached)

    -- a tour up to where its last task ends, with the way home, and what goes on from there
    record IsCutAtEnd (a : ℕ) (tour : List Task) (total home : ℕ) : Type 0 where
      way : ℕ
      sum : total ≡ way + home
      onward : (ts : List Task) (b n : ℕ) → LeastDeadhead p q (tour_ends_at p a tour) ts b n → LeastDeadhead p q a (tour ++ ts) b (way + n)

    cut_at_end : (a : ℕ) (tour : List Task) (b n home : ℕ) → LeastDeadhead p q a tour b n → IsLeastPrice p q (tour_ends_at p a tour) b home → IsCutAtEnd a tour n home
    cut_at_end a [] b n home least way = record {
      way = 0;
      sum = let same = same_price a b n home least way in omega arith;
      onward = λ ts c m rest. subst (LeastDeadhead p q a ts c) (let none : m ≡ 0 + m = omega arith in none) rest;
    }
    cut_at_end a (t ∷ tour) b n home least way =
        let rest = cut_at_end (head_of (edge_at p t.edge) t.forward) tour b least.1 home least.3 way in
        record {
          way = least.0 + rest.way;
          sum = let parts = least.4 in let sum = rest.sum in omega arith;
          onward = λ ts c m more. (least.0, rest.way + m, least.2, rest.onward ts c m more, omega arith);
        }

    -- a tour that serves, from another vertex
    from_elsewhere : (a c : ℕ) (tour : List Task) (b n out link : ℕ) → has_tasks tour ≡ true → LeastDeadhead p q a tour b n → IsLeastPrice p q a (tour_starts_at p a tour) out →
        IsLeastPrice p q c (tour_starts_at p a tour) link → (m : ℕ) × LeastDeadhead p q c tour b m × (m + out ≡ n + link)
    from_elsewhere a c [] b n out link some least first second = cc
    from_elsewhere a c (t ∷ ts) b n out link some least first second =
        (link + least.1, (link, least.1, second, least.3, refl), let parts = least.4 in let same = same_price a (tail_of (edge_at p t.edge) t.forward) least.0 out least.2 first in omega arith)

    -- a tour after another: by so much its least deadhead differs
    pub deadhead_joined : (d : ℕ) (first second : List Task) (k m home out link : ℕ) → has_tasks second ≡ true →
        LeastDeadhead p q d first d k → LeastDeadhead p q d second d m → IsLeastPrice p q (tour_ends_at p d first) d home → IsLeastPrice p q d (tour_starts_at p d second) out →
        IsLeastPrice p q (tour_ends_at p d first) (tour_starts_at p d second) link → (n : ℕ) × LeastDeadhead p q d (first ++ second) d n × (n + (home + out) ≡ k + m + link)
    deadhead_joined d first second k m home out link some least least' home_least out_least link_least =
        let cut = cut_at_end d first d k home least home_least in
        let moved = from_elsewhere d (tour_ends_at p d first) second d m out link some least' out_least link_least in
        (cut.way + moved.0, cut.onward second d moved.0 moved.1, let sum = cut.sum in let more = moved.2 in omega arith)
