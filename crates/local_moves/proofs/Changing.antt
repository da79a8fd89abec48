-- A change of tours as a change of their sequence.
use Rattle.std.proofs.Common.{◌≡◌, ℕ, ◌+◌, ◌<◌, ◌≤◌, get_or, List, [], ◌∷◌, ◌++◌, length, set, map, refl, sym, ap, ◌∙◌, subst, inl, inr, arith}
use Rattle.std.specs.List.{insert, remove, AllByRecursion}
use Rattle.std.proofs.lemmas.List.{append_assoc, map-append, set_at, get_or_at, length-append}
use Rattle.std.proofs.lemmas.List.Edits.{length-remove}
use Rattle.carp_base.specs.declared.edge.Task.{Task}
use Rattle.carp_base.specs.Problem.{Problem, IsRequired}
use Rattle.task_tours.specs.Tours.{all_tasks}
use Rattle.ruin_recreate.specs.declared.board.Board.{Board}
use Rattle.ruin_recreate.specs.Boards.{IsBoardOf}
use Rattle.local_moves.specs.Sequences.{IsEitherWay, IsMove, IsNewTour, IsSequenceChange, IsService, IsSwap, moves, opens, swaps}
use Rattle.local_moves.specs.Stops.{sequence_of, stop_of}
use Rattle.local_moves.specs.Changes.{IsChange, IsSameService, MovesOne, OpensOne, SwapsBetween, SwapsWithin, TakesOutTask, TurnsOne, moves_on, opens_tour, other_direction, swaps_between, swaps_within, turns}
use Rattle.local_moves.proofs.Boarding.{stop_some, turned_stop}
use Rattle.local_moves.proofs.Sequencing.{all_left, all_right}

-- the stops before a place of a tour, in the sequence
front : List (List Task) → List Task → List ℕ
front [] left = 0 ∷ map stop_of left
front (tour ∷ tours) left = 0 ∷ (map stop_of tour ++ front tours left)

-- the tours from a place of a tour on, in the sequence
front_some : (earlier : List (List Task)) (left : List Task) → 1 ≤ length (front earlier left)
unfolding front
front_some [] left = omega arith
front_some (tour ∷ tours) left = omega arith

cut_sequence : (earlier later : List (List Task)) (left rest : List Task) → sequence_of (earlier ++ ((left ++ rest) ∷ later)) ≡ front earlier left ++ (map stop_of rest ++ sequence_of later)
unfolding front
cut_sequence [] later left rest = ap (λ ys. 0 ∷ ys) (ap (λ ys. ys ++ sequence_of later) (map-append stop_of left rest) ∙ append_assoc (map stop_of left) (map stop_of rest) (sequence_of later))
cut_sequence (tour ∷ tours) later left rest =
    ap (λ ys. 0 ∷ (map stop_of tour ++ ys)) (cut_sequence tours later left rest)
    ∙ ap (λ ys. 0 ∷ ys) (sym (append_assoc (map stop_of tour) (front tours left) (map stop_of rest ++ sequence_of later)))

sequence_some : (tours : List (List Task)) → 1 ≤ length (sequence_of tours)
sequence_some [] = omega arith
sequence_some (tour ∷ tours) = omega arith

-- a task in a list is required where all are
task_there : (P : Task → Type 0) (earlier later : List (List Task)) (left : List Task) (t : Task) (right : List Task) →
    AllByRecursion P (all_tasks (earlier ++ ((left ++ (t ∷ right)) ∷ later))) → P t
task_there P [] later left t right all = (all_right P left (t ∷ right) (all_left P (left ++ (t ∷ right)) (all_tasks later) all)).0
task_there P (tour ∷ tours) later left t right all = task_there P tours later left t right (all_right P tour (all_tasks (tours ++ ((left ++ (t ∷ right)) ∷ later))) all)

remove_here : (p : List ℕ) (x : ℕ) (ys : List ℕ) → remove (p ++ (x ∷ ys)) (length p) ≡ p ++ ys
remove_here [] x ys = refl
remove_here (a ∷ p) x ys = ap (λ zs. a ∷ zs) (remove_here p x ys)

insert_here : (p : List ℕ) (x : ℕ) (ys : List ℕ) → insert (p ++ ys) (length p) x ≡ p ++ (x ∷ ys)
insert_here [] x ys = refl
insert_here (a ∷ p) x ys = ap (λ zs. a ∷ zs) (insert_here p x ys)

-- what the sequence says of a task of a tour
record IsInSequence (x : ℕ) (before rest : List ℕ) : Type 0 where
  pub at : ℕ
  pub one : 1 ≤ at
  pub within : at + 1 < length before
  pub is : get_or before at 0 ≡ x
  pub removed : rest ≡ remove before at
  pub inserted : before ≡ insert rest at x

place : (p ys : List ℕ) (x : ℕ) (before rest : List ℕ) → 1 ≤ length p → 1 ≤ length ys → before ≡ p ++ (x ∷ ys) → rest ≡ p ++ ys → IsInSequence x before rest
place p ys x before rest start end whole part = record {
  at = length p;
  one = start;
  within = omega (arith, ap (length {A = ℕ}) whole, length-append p (x ∷ ys), end);
  is = ap (λ zs. get_or zs (length p) 0) whole ∙ get_or_at p x ys 0 (length p) refl;
  removed = part ∙ sym (ap (λ zs. remove zs (length p)) whole ∙ remove_here p x ys);
  inserted = whole ∙ sym (ap (λ zs. insert zs (length p) x) part ∙ insert_here p x ys);
}

taken_out : (t : Task) (before rest : List (List Task)) → TakesOutTask t before rest → IsInSequence (stop_of t) (sequence_of before) (sequence_of rest)
taken_out t before rest o =
    place (front o.earlier o.left) (map stop_of o.right ++ sequence_of o.later) (stop_of t) (sequence_of before) (sequence_of rest) (front_some o.earlier o.left)
    (omega (arith, length-append (map stop_of o.right) (sequence_of o.later), sequence_some o.later)) (ap sequence_of o.was ∙ cut_sequence o.earlier o.later o.left (t ∷ o.right))
    (ap sequence_of o.is ∙ cut_sequence o.earlier o.later o.left o.right)

served_there : (x : ℕ) (before rest : List ℕ) (own : IsInSequence x before rest) → 1 ≤ x → IsService before own.at
served_there x before rest own some = record { after_first = own.one; before_last = own.within; no_depot = omega (arith, own.is, some) }

either_way : (p : Problem) (b : Board) → IsBoardOf p b → (t u : Task) (x : ℕ) → IsRequired p t.edge → x ≡ stop_of t → IsSameService t u → IsEitherWay b x (stop_of u)
either_way p b of t u x required is same = subst (λ y. IsEitherWay b y (stop_of u)) (sym is) (elim same [
  | inl e ↦ inl (ap stop_of e)
  | inr e ↦ inr (ap stop_of e ∙ sym (turned_stop p b t of required))
])

as_move : (p : Problem) (b : Board) → IsBoardOf p b → (before after : List (List Task)) → AllByRecursion (λ t. IsRequired p t.edge) (all_tasks before) → MovesOne before after →
    IsMove b (sequence_of before) (sequence_of after)
as_move p b of before after all w =
    let o = w.out in
    let required = task_there (λ t. IsRequired p t.edge) o.earlier o.later o.left w.t o.right (subst (λ ts. AllByRecursion (λ t. IsRequired p t.edge) (all_tasks ts)) o.was all) in
    let own = taken_out w.t before w.rest w.out in
    let back = taken_out w.u after w.rest w.back in
    record {
      from = own.at;
      service = served_there (stop_of w.t) (sequence_of before) (sequence_of w.rest) own (omega (arith, stop_some p w.t required));
      x = stop_of w.u;
      same = either_way p b of w.t w.u (get_or (sequence_of before) own.at 0) required own.is w.same;
      to = back.at;
      after_first = back.one;
      before_last = omega (
        arith,
        back.within,
        length-remove (sequence_of before) own.at (omega (arith, own.within)),
        length-remove (sequence_of after) back.at (omega (arith, back.within)),
        ap (length {A = ℕ}) own.removed,
        ap (length {A = ℕ}) back.removed,
      );
      is = back.inserted ∙ ap (λ zs. insert zs back.at (stop_of w.u)) own.removed;
    }

-- a service that turns moves to its own place
turned_there : (before after : List (List Task)) → TurnsOne before after → MovesOne before after
turned_there before after w =
    let rest = w.earlier ++ ((w.left ++ w.right) ∷ w.later) in
    record {
      t = w.t;
      rest = rest;
      out = record { earlier = w.earlier; later = w.later; left = w.left; right = w.right; was = w.was; is = refl };
      u = other_direction w.t;
      same = inr refl;
      back = record { earlier = w.earlier; later = w.later; left = w.left; right = w.right; was = w.is; is = refl };
    }

sequence_opened : (rest : List (List Task)) (u : Task) → sequence_of (rest ++ ((u ∷ []) ∷ [])) ≡ sequence_of rest ++ (stop_of u ∷ (0 ∷ []))
sequence_opened [] u = refl
sequence_opened (tour ∷ tours) u = ap (λ ys. 0 ∷ (map stop_of tour ++ ys)) (sequence_opened tours u) ∙ ap (λ ys. 0 ∷ ys) (sym (append_assoc (map stop_of tour) (sequence_of tours) (stop_of u ∷ (0 ∷ []))))

as_new_tour : (p : Problem) (b : Board) → IsBoardOf p b → (before after : List (List Task)) → AllByRecursion (λ t. IsRequired p t.edge) (all_tasks before) → OpensOne before after →
    IsNewTour b (sequence_of before) (sequence_of after)
as_new_tour p b of before after all w =
    let o = w.out in
    let required = task_there (λ t. IsRequired p t.edge) o.earlier o.later o.left w.t o.right (subst (λ ts. AllByRecursion (λ t. IsRequired p t.edge) (all_tasks ts)) o.was all) in
    let own = taken_out w.t before w.rest w.out in
    record {
      from = own.at;
      service = served_there (stop_of w.t) (sequence_of before) (sequence_of w.rest) own (omega (arith, stop_some p w.t required));
      x = stop_of w.u;
      same = either_way p b of w.t w.u (get_or (sequence_of before) own.at 0) required own.is w.same;
      is = ap sequence_of w.is ∙ sequence_opened w.rest w.u ∙ ap (λ zs. zs ++ (stop_of w.u ∷ (0 ∷ []))) own.removed;
    }

-- two stops of a sequence change places
swapped : (f middle back : List ℕ) (x y : ℕ) (before after : List ℕ) → 1 ≤ x → 1 ≤ y → 1 ≤ length f → 1 ≤ length back → before ≡ f ++ (x ∷ (middle ++ (y ∷ back))) →
    after ≡ f ++ (y ∷ (middle ++ (x ∷ back))) → IsSwap before after
swapped f middle back x y before after some_x some_y starts ends was is =
    let i = length f in
    let j = length (f ++ (x ∷ middle)) in
    let whole : before ≡ (f ++ (x ∷ middle)) ++ (y ∷ back) = was ∙ sym (append_assoc f (x ∷ middle) (y ∷ back)) in
    let at_i : get_or before i 0 ≡ x = ap (λ zs. get_or zs i 0) was ∙ get_or_at f x (middle ++ (y ∷ back)) 0 i refl in
    let at_j : get_or before j 0 ≡ y = ap (λ zs. get_or zs j 0) whole ∙ get_or_at (f ++ (x ∷ middle)) y back 0 j refl in
    let long : length (f ++ (y ∷ middle)) ≡ j = omega (arith, length-append f (y ∷ middle), length-append f (x ∷ middle)) in
    let once : set before i y ≡ (f ++ (y ∷ middle)) ++ (y ∷ back) =
    ap (λ zs. set zs i y) was ∙ set_at f x (middle ++ (y ∷ back)) y i refl ∙ sym (append_assoc f (y ∷ middle) (y ∷ back)) in
    let twice : set (set before i y) j x ≡ after =
    ap (λ zs. set zs j x) once ∙ set_at (f ++ (y ∷ middle)) y back x j long ∙ append_assoc f (y ∷ middle) (x ∷ back) ∙ sym is in
    record {
      first = i;
      second = j;
      order = omega (arith, length-append f (x ∷ middle));
      first_in = record {
        after_first = starts;
        before_last = omega (arith, ap (length {A = ℕ}) whole, length-append (f ++ (x ∷ middle)) (y ∷ back), length-append f (x ∷ middle), ends);
        no_depot = omega (arith, at_i, some_x);
      };
      second_in = record {
        after_first = omega (arith, length-append f (x ∷ middle), starts);
        before_last = omega (arith, ap (length {A = ℕ}) whole, length-append (f ++ (x ∷ middle)) (y ∷ back), ends);
        no_depot = omega (arith, at_j, some_y);
      };
      is = sym (ap (λ z. set (set before i z) j (get_or before i 0)) at_j ∙ ap (λ z. set (set before i y) j z) at_i ∙ twice);
    }

-- the stops of two tasks of one tour, in the sequence
within_sequence : (earlier later : List (List Task)) (left middle right : List Task) (s t : Task) → sequence_of (earlier ++ ((left ++ (s ∷ (middle ++ (t ∷ right)))) ∷ later))
    ≡ front earlier left ++ (stop_of s ∷ (map stop_of middle ++ (stop_of t ∷ (map stop_of right ++ sequence_of later))))
within_sequence earlier later left middle right s t =
    cut_sequence earlier later left (s ∷ (middle ++ (t ∷ right)))
    ∙ ap (λ ys. front earlier left ++ (stop_of s ∷ ys)) (ap (λ ys. ys ++ sequence_of later) (map-append stop_of middle (t ∷ right)) ∙ append_assoc (map stop_of middle) (stop_of t ∷ map stop_of right) (sequence_of later))

-- and of two tasks of two tours
between_sequence : (earlier between later : List (List Task)) (left right next_left next_right : List Task) (s t : Task) →
    sequence_of (earlier ++ ((left ++ (s ∷ right)) ∷ (between ++ ((next_left ++ (t ∷ next_right)) ∷ later))))
    ≡ front earlier left ++ (stop_of s ∷ ((map stop_of right ++ front between next_left) ++ (stop_of t ∷ (map stop_of next_right ++ sequence_of later))))
between_sequence earlier between later left right next_left next_right s t =
    cut_sequence earlier (between ++ ((next_left ++ (t ∷ next_right)) ∷ later)) left (s ∷ right)
    ∙ ap (λ ys. front earlier left ++ (stop_of s ∷ ys))
    (ap (λ ys. map stop_of right ++ ys) (cut_sequence between later next_left (t ∷ next_right))
    ∙ sym (append_assoc (map stop_of right) (front between next_left) (stop_of t ∷ (map stop_of next_right ++ sequence_of later))))

behind_some : (right : List Task) (later : List (List Task)) → 1 ≤ length (map stop_of right ++ sequence_of later)
behind_some right later = omega (arith, length-append (map stop_of right) (sequence_of later), sequence_some later)

within_swap : (p : Problem) (before after : List (List Task)) → AllByRecursion (λ t. IsRequired p t.edge) (all_tasks before) → SwapsWithin before after → IsSwap (sequence_of before) (sequence_of after)
within_swap p before after all w =
    let Q : Task → Type 0 = λ t. IsRequired p t.edge in
    let here = subst (λ ts. AllByRecursion Q (all_tasks ts)) w.was all in
    let first = task_there Q w.earlier w.later w.left w.s (w.middle ++ (w.t ∷ w.right)) here in
    let second = task_there Q w.earlier w.later (w.left ++ (w.s ∷ w.middle)) w.t w.right
    (subst (λ ts. AllByRecursion Q (all_tasks (w.earlier ++ (ts ∷ w.later)))) (sym (append_assoc w.left (w.s ∷ w.middle) (w.t ∷ w.right))) here) in
    swapped (front w.earlier w.left) (map stop_of w.middle) (map stop_of w.right ++ sequence_of w.later) (stop_of w.s) (stop_of w.t) (sequence_of before) (sequence_of after)
    (omega (arith, stop_some p w.s first)) (omega (arith, stop_some p w.t second)) (front_some w.earlier w.left) (behind_some w.right w.later)
    (ap sequence_of w.was ∙ within_sequence w.earlier w.later w.left w.middle w.right w.s w.t) (ap sequence_of w.is ∙ within_sequence w.earlier w.later w.left w.middle w.right w.t w.s)

between_swap : (p : Problem) (before after : List (List Task)) → AllByRecursion (λ t. IsRequired p t.edge) (all_tasks before) → SwapsBetween before after → IsSwap (sequence_of before) (sequence_of after)
between_swap p before after all w =
    let Q : Task → Type 0 = λ t. IsRequired p t.edge in
    let here = subst (λ ts. AllByRecursion Q (all_tasks ts)) w.was all in
    let first = task_there Q w.earlier (w.between ++ ((w.next_left ++ (w.t ∷ w.next_right)) ∷ w.later)) w.left w.s w.right here in
    let second = task_there Q (w.earlier ++ ((w.left ++ (w.s ∷ w.right)) ∷ w.between)) w.later w.next_left w.t w.next_right
    (subst (λ ts. AllByRecursion Q (all_tasks ts)) (sym (append_assoc w.earlier ((w.left ++ (w.s ∷ w.right)) ∷ w.between) ((w.next_left ++ (w.t ∷ w.next_right)) ∷ w.later))) here) in
    swapped (front w.earlier w.left) (map stop_of w.right ++ front w.between w.next_left) (map stop_of w.next_right ++ sequence_of w.later) (stop_of w.s) (stop_of w.t) (sequence_of before) (sequence_of after)
    (omega (arith, stop_some p w.s first)) (omega (arith, stop_some p w.t second)) (front_some w.earlier w.left) (behind_some w.next_right w.later)
    (ap sequence_of w.was ∙ between_sequence w.earlier w.between w.later w.left w.right w.next_left w.next_right w.s w.t)
    (ap sequence_of w.is ∙ between_sequence w.earlier w.between w.later w.left w.right w.next_left w.next_right w.t w.s)

pub as_sequence_change : (p : Problem) (b : Board) → IsBoardOf p b → (before after : List (List Task)) → AllByRecursion (λ t. IsRequired p t.edge) (all_tasks before) → IsChange before after →
    IsSequenceChange b (sequence_of before) (sequence_of after)
as_sequence_change p b of before after all change = elim change [
  | turns w ↦ moves (as_move p b of before after all (turned_there before after w))
  | moves_on w ↦ moves (as_move p b of before after all w)
  | opens_tour w ↦ opens (as_new_tour p b of before after all w)
  | swaps_within w ↦ swaps (within_swap p before after all w)
  | swaps_between w ↦ swaps (between_swap p before after all w)
]
