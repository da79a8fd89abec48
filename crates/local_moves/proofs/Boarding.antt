-- Tours of tasks on a board: what their stops link, load and serve.
use Rattle.std.proofs.Common.{◌≡◌, ℕ, ◌+◌, ◌-◌, ◌*◌, ◌/◌, ◌%◌, ◌<◌, ◌≤◌, Bool, true, false, cond, ◌&&◌, eqb, leb, List, [], ◌∷◌, ◌++◌, map, sum_by, not, refl, sym, ap, ◌∙◌, subst, arith, add-zero}
use Rattle.std.specs.Prelude.{IsTrue}
use Rattle.std.specs.List.{AllByRecursion}
use Rattle.std.proofs.lemmas.Bool.{ne_eqb, le-leb, leb-true}
use Rattle.std.proofs.lemmas.Bool.Decides.{nat_tests}
use Rattle.std.proofs.lemmas.List.Sums.{sum_by-append, sum_by-cons}
use Rattle.carp_base.specs.declared.edge.Task.{Task}
use Rattle.carp_base.specs.Problem.{Problem, IsRequired, edge_at, tail_of, head_of}
use Rattle.deadhead_paths.specs.Prices.{IsLeastPrice, price_of, costs_of}
use Rattle.deadhead_paths.specs.Tours.{LeastDeadhead}
use Rattle.task_tours.specs.Tours.{ToursDeadhead, all_tasks, tour_load}
use Rattle.ruin_recreate.specs.declared.board.Board.{Board}
use Rattle.ruin_recreate.specs.Boards.{IsBoardOf, demand_of, edge_of, end_of, is_forward, link, other_way, start_of, turned}
use Rattle.local_moves.specs.Sequences.{fits, fits_from, links_from, links_of}
use Rattle.local_moves.specs.Stops.{sequence_of, stop_of}
use Rattle.local_moves.specs.Changes.{other_direction}
use Rattle.local_moves.proofs.Rooms.{both, over_service}
use Rattle.local_moves.proofs.Sequencing.{all_left, all_right}

pub edge_of_stop : (t : Task) → edge_of (stop_of t) ≡ t.edge
edge_of_stop t = elim t.forward as (λ f. (2 * t.edge + cond f 0 1) / 2 ≡ t.edge) [ true ↦ omega arith | false ↦ omega arith ]

forward_stop : (t : Task) → is_forward (stop_of t) ≡ t.forward
forward_stop t = elim t.forward as (λ f. eqb ((2 * t.edge + cond f 0 1) % 2) 0 ≡ f) [ true ↦ grind (arith, nat_tests) | false ↦ grind (arith, nat_tests) ]

pub stop_some : (p : Problem) (t : Task) → IsRequired p t.edge → 2 ≤ stop_of t
stop_some p t required = omega (arith, required.from_one)

pub stop_within : (p : Problem) (b : Board) (t : Task) → IsBoardOf p b → IsRequired p t.edge → stop_of t < b.width
stop_within p b t of required = elim t.forward as (λ f. 2 * t.edge + cond f 0 1 < b.width) [
  | true ↦ omega (arith, of.width, required.in_range)
  | false ↦ omega (arith, of.width, required.in_range)
]

start_stop : (p : Problem) (t : Task) → IsRequired p t.edge → start_of p (stop_of t) ≡ tail_of (edge_at p t.edge) t.forward
start_stop p t required =
    ap (λ e. cond (eqb e 0) p.depot (tail_of (edge_at p e) (is_forward (stop_of t)))) (edge_of_stop t)
    ∙ ap (λ c. cond c p.depot (tail_of (edge_at p t.edge) (is_forward (stop_of t)))) (ne_eqb t.edge 0 (λ same. omega (arith, same, required.from_one)))
    ∙ ap (tail_of (edge_at p t.edge)) (forward_stop t)

end_stop : (p : Problem) (t : Task) → IsRequired p t.edge → end_of p (stop_of t) ≡ head_of (edge_at p t.edge) t.forward
end_stop p t required =
    ap (λ e. cond (eqb e 0) p.depot (head_of (edge_at p e) (is_forward (stop_of t)))) (edge_of_stop t)
    ∙ ap (λ c. cond c p.depot (head_of (edge_at p t.edge) (is_forward (stop_of t)))) (ne_eqb t.edge 0 (λ same. omega (arith, same, required.from_one)))
    ∙ ap (head_of (edge_at p t.edge)) (forward_stop t)

other_stop : (t : Task) → 1 ≤ t.edge → other_way (stop_of t) ≡ stop_of (other_direction t)
other_stop t some =
    ap (λ e. cond (eqb e 0) (stop_of t) (cond (is_forward (stop_of t)) (stop_of t + 1) (stop_of t - 1))) (edge_of_stop t)
    ∙ ap (λ c. cond c (stop_of t) (cond (is_forward (stop_of t)) (stop_of t + 1) (stop_of t - 1))) (ne_eqb t.edge 0 (λ same. omega (arith, same, some)))
    ∙ ap (λ f. cond f (stop_of t + 1) (stop_of t - 1)) (forward_stop t)
    ∙ turn_by t.forward
  where
    turn_by : (f : Bool) → cond f ((2 * t.edge + cond f 0 1) + 1) ((2 * t.edge + cond f 0 1) - 1) ≡ 2 * t.edge + cond (not f) 0 1
    turn_by true = omega arith
    turn_by false = omega arith

pub turned_stop : (p : Problem) (b : Board) (t : Task) → IsBoardOf p b → IsRequired p t.edge → turned b (stop_of t) ≡ stop_of (other_direction t)
turned_stop p b t of required = of.turns (stop_of t) (stop_within p b t of required) ∙ other_stop t required.from_one

demand_stop : (p : Problem) (b : Board) (t : Task) → IsBoardOf p b → IsRequired p t.edge → demand_of b (stop_of t) ≡ (edge_at p t.edge).demand
demand_stop p b t of required = of.demands (stop_of t) (stop_within p b t of required) ∙ ap (λ e. (edge_at p e).demand) (edge_of_stop t)

-- tasks from a stop on, and home
links_deadhead : (p : Problem) (b : Board) → IsBoardOf p b → (x : ℕ) (tasks : List Task) → x < b.width → AllByRecursion (λ t. IsRequired p t.edge) tasks →
    LeastDeadhead p (price_of (costs_of p)) (end_of p x) tasks p.depot (links_from b x (map stop_of tasks ++ (0 ∷ [])))
links_deadhead p b of x [] within all = subst (λ n. IsLeastPrice p (price_of (costs_of p)) (end_of p x) p.depot n) (sym (add-zero (link b x 0))) (of.links x 0 within (omega (arith, of.width)))
links_deadhead p b of x (t ∷ ts) within all =
    let inside = stop_within p b t of all.0 in (
      link b x (stop_of t),
      links_from b (stop_of t) (map stop_of ts ++ (0 ∷ [])),
      subst (λ v. IsLeastPrice p (price_of (costs_of p)) (end_of p x) v (link b x (stop_of t))) (start_stop p t all.0) (of.links x (stop_of t) within inside),
      subst (λ v. LeastDeadhead p (price_of (costs_of p)) v ts p.depot (links_from b (stop_of t) (map stop_of ts ++ (0 ∷ [])))) (end_stop p t all.0) (links_deadhead p b of (stop_of t) ts inside all.1),
      refl,
    )

-- two lists that meet at a stop
links_meet : (b : Board) (a : ℕ) (xs : List ℕ) (m : ℕ) (ys : List ℕ) → links_from b a (xs ++ (m ∷ ys)) ≡ links_from b a (xs ++ (m ∷ [])) + links_from b m ys
links_meet b a [] m ys = omega arith
links_meet b a (x ∷ xs) m ys = omega (arith, links_meet b x xs m ys)

tour_first : (b : Board) (tour : List Task) (tours : List (List Task)) → links_of b (sequence_of (tour ∷ tours)) ≡ links_from b 0 (map stop_of tour ++ (0 ∷ [])) + links_of b (sequence_of tours)
tour_first b tour [] = links_meet b 0 (map stop_of tour) 0 []
tour_first b tour (next ∷ tours) = links_meet b 0 (map stop_of tour) 0 (map stop_of next ++ sequence_of tours)

pub links_tours : (p : Problem) (b : Board) → IsBoardOf p b → (tours : List (List Task)) → AllByRecursion (λ t. IsRequired p t.edge) (all_tasks tours) →
    ToursDeadhead p (price_of (costs_of p)) tours (links_of b (sequence_of tours))
links_tours p b of [] all = refl
links_tours p b of (tour ∷ tours) all = (
  links_from b 0 (map stop_of tour ++ (0 ∷ [])),
  links_of b (sequence_of tours),
  links_deadhead p b of 0 tour (omega (arith, of.width)) (all_left (λ t. IsRequired p t.edge) tour (all_tasks tours) all),
  links_tours p b of tours (all_right (λ t. IsRequired p t.edge) tour (all_tasks tours) all),
  tour_first b tour tours,
)

-- over the stops of a tour, up to the depot behind it
over_tour : (p : Problem) (b : Board) → IsBoardOf p b → (load : ℕ) (tour : List Task) (rest : List ℕ) → AllByRecursion (λ t. IsRequired p t.edge) tour →
    fits_from b load (map stop_of tour ++ (0 ∷ rest)) ≡ (leb (load + tour_load p tour) p.capacity && fits_from b 0 rest)
over_tour p b of load [] rest all = ap (λ n. leb n b.room && fits_from b 0 rest) (sym (add-zero load)) ∙ ap (λ n. leb (load + 0) n && fits_from b 0 rest) of.room
over_tour p b of load (t ∷ tour) rest all =
    over_service b load (stop_of t) (map stop_of tour ++ (0 ∷ rest)) (omega (arith, stop_some p t all.0))
    ∙ over_tour p b of (load + demand_of b (stop_of t)) tour rest all.1
    ∙ ap (λ n. leb n p.capacity && fits_from b 0 rest) (omega (arith, demand_stop p b t of all.0, sum_by-cons (λ u. (edge_at p u.edge).demand) t tour))

joined : (c d : Bool) → c ≡ true → d ≡ true → (c && d) ≡ true
joined c d first second = ap (λ e. e && d) first ∙ second

nothing_fits : (n : ℕ) → leb 0 n ≡ true
nothing_fits n = le-leb 0 n (omega arith)

-- behind the depot: the first tour, and the others
over_first : (p : Problem) (b : Board) → IsBoardOf p b → (tour : List Task) (tours : List (List Task)) → AllByRecursion (λ t. IsRequired p t.edge) tour →
    fits_from b 0 (map stop_of tour ++ sequence_of tours) ≡ (leb (tour_load p tour) p.capacity && fits b (sequence_of tours))
over_first p b of tour [] all = over_next p b of tour [] all
  where
    over_next : (p : Problem) (b : Board) → IsBoardOf p b → (tour : List Task) (rest : List ℕ) → AllByRecursion (λ t. IsRequired p t.edge) tour →
        fits_from b 0 (map stop_of tour ++ (0 ∷ rest)) ≡ (leb (tour_load p tour) p.capacity && (leb 0 b.room && fits_from b 0 rest))
    over_next p b of tour rest all =
        over_tour p b of 0 tour rest all
        ∙ ap (λ n. leb n p.capacity && fits_from b 0 rest) (omega arith)
        ∙ ap (λ c. leb (tour_load p tour) p.capacity && (c && fits_from b 0 rest)) (sym (nothing_fits b.room))
over_first p b of tour (next ∷ tours) all =
    over_tour p b of 0 tour (map stop_of next ++ sequence_of tours) all
    ∙ ap (λ n. leb n p.capacity && fits_from b 0 (map stop_of next ++ sequence_of tours)) (omega arith)
    ∙ ap (λ c. leb (tour_load p tour) p.capacity && (c && fits_from b 0 (map stop_of next ++ sequence_of tours))) (sym (nothing_fits b.room))

-- a sequence fits where each of its tours does, and only there
pub tours_fit : (p : Problem) (b : Board) → IsBoardOf p b → (tours : List (List Task)) → AllByRecursion (λ t. IsRequired p t.edge) (all_tasks tours) →
    AllByRecursion (λ tour. tour_load p tour ≤ p.capacity) tours → IsTrue (fits b (sequence_of tours))
tours_fit p b of [] all each = joined (leb 0 b.room) (leb 0 b.room) (nothing_fits b.room) (nothing_fits b.room)
tours_fit p b of (tour ∷ tours) all each =
    joined (leb 0 b.room) (fits_from b 0 (map stop_of tour ++ sequence_of tours)) (nothing_fits b.room)
    (over_first p b of tour tours (all_left (λ t. IsRequired p t.edge) tour (all_tasks tours) all)
    ∙ joined (leb (tour_load p tour) p.capacity) (fits b (sequence_of tours)) (le-leb (tour_load p tour) p.capacity each.0) (tours_fit p b of tours (all_right (λ t. IsRequired p t.edge) tour (all_tasks tours) all) each.1))

pub fit_tours : (p : Problem) (b : Board) → IsBoardOf p b → (tours : List (List Task)) → AllByRecursion (λ t. IsRequired p t.edge) (all_tasks tours) →
    fits b (sequence_of tours) ≡ true → AllByRecursion (λ tour. tour_load p tour ≤ p.capacity) tours
fit_tours p b of [] all fit = tt
fit_tours p b of (tour ∷ tours) all fit =
    let inner = both (leb 0 b.room) (fits_from b 0 (map stop_of tour ++ sequence_of tours)) fit in
    let parts = both (leb (tour_load p tour) p.capacity) (fits b (sequence_of tours)) (sym (over_first p b of tour tours (all_left (λ t. IsRequired p t.edge) tour (all_tasks tours) all)) ∙ inner.1) in
    (leb-true (tour_load p tour) p.capacity parts.0, fit_tours p b of tours (all_right (λ t. IsRequired p t.edge) tour (all_tasks tours) all) parts.1)

-- what is summed over the stops is summed over the tasks
tour_sum : (g : ℕ → ℕ) (tour : List Task) → sum_by (λ x. g (edge_of x)) (map stop_of tour) ≡ sum_by (λ t. g t.edge) tour
tour_sum g [] = refl
tour_sum g (t ∷ ts) = omega (arith, ap g (edge_of_stop t), tour_sum g ts, sum_by-cons (λ x. g (edge_of x)) (stop_of t) (map stop_of ts), sum_by-cons (λ u. g u.edge) t ts)

pub sequence_sum : (g : ℕ → ℕ) (tours : List (List Task)) → g 0 ≡ 0 → sum_by (λ x. g (edge_of x)) (sequence_of tours) ≡ sum_by (λ t. g t.edge) (all_tasks tours)
sequence_sum g [] none = omega (arith, none, sum_by-cons (λ x. g (edge_of x)) 0 [])
sequence_sum g (tour ∷ tours) none =
    omega (
      arith,
      none,
      sum_by-cons (λ x. g (edge_of x)) 0 (map stop_of tour ++ sequence_of tours),
      sum_by-append (λ x. g (edge_of x)) (map stop_of tour) (sequence_of tours),
      tour_sum g tour,
      sequence_sum g tours none,
      sum_by-append (λ t. g t.edge) tour (all_tasks tours),
    )
