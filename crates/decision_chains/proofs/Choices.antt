-- The better direction of an edge, and what is then left.
use Rattle.std.proofs.Common.{◌≡◌, ℕ, ◌+◌, ◌-◌, ◌≤◌, ◌<◌, Bool, true, false, List, [], ◌∷◌, ◌++◌, length, map, take, drop, get_or, refl, sym, ◌∙◌, ap, subst, arith, append_assoc, zero-add, inl, inr}
use Rattle.std.proofs.Math.ListN.{set, length-set}
use Rattle.std.proofs.lemmas.Bool.{cases_eq}
use Rattle.std.proofs.lemmas.List.{get_or-set_same, get_or-set_other, append-nil, drop_all, drop_more, map-append, take_all, take_more}
use Rattle.carp_base.specs.declared.edge.Task.{Task}
use Rattle.carp_base.specs.Problem.{Problem, edge_at, head_of, tail_of}
use Rattle.deadhead_paths.specs.Prices.{IsLeastPrice, price_of, costs_of}
use Rattle.deadhead_paths.specs.Tours.{LeastDeadhead}
use Rattle.task_tours.specs.Tours.{IsStand}
use Rattle.decision_chains.specs.Directions.{Directs, IsCheapestDirected}
use Rattle.decision_chains.specs.Choosing.{IsLeastLeft, IsLeftAfter, IsSmallLeft, IsBestStart, IsFilled, IsUnderway, left_after, no_left}
use Rattle.decision_chains.specs.declared.directing.Left.{Left}

cons_head : (x y : ℕ) (xs ys : List ℕ) → x ∷ xs ≡ y ∷ ys → x ≡ y
cons_head x y xs ys same = cc

cons_tail : (x y : ℕ) (xs ys : List ℕ) → x ∷ xs ≡ y ∷ ys → xs ≡ ys
cons_tail x y xs ys same = cc

none_directed : (edges : List ℕ) (t : Task) (ts : List Task) → Directs [] (t ∷ ts) → ⊥
none_directed edges t ts directs = cc

module _ (p : Problem) (q : ℕ → ℕ) where
  price_unique : (a b n m : ℕ) → IsLeastPrice p q a b n → IsLeastPrice p q a b m → n ≡ m
  price_unique a b n m one two =
      let low : n ≤ m = one.least m two.steps two.reached in
      let high : m ≤ n = two.least n one.steps one.reached in
      omega arith

  pub deadhead_unique : (a b : ℕ) (ts : List Task) (n m : ℕ) → LeastDeadhead p q a ts b n → LeastDeadhead p q a ts b m → n ≡ m
  deadhead_unique a b [] n m one two = price_unique a b n m one two
  deadhead_unique a b (t ∷ ts) n m one two =
      omega (
        arith,
        price_unique a (tail_of (edge_at p t.edge) t.forward) one.0 two.0 one.2 two.2,
        deadhead_unique (head_of (edge_at p t.edge) t.forward) b ts one.1 two.1 one.3 two.3,
        one.4,
        two.4,
      )

module _ (p : Problem) where
  abbrev pub by_cost : ℕ → ℕ
  by_cost = price_of (costs_of p)

  left_unique : (a : ℕ) (edges : List ℕ) (n m : ℕ) → IsLeastLeft p a edges n → IsLeastLeft p a edges m → n ≡ m
  left_unique a edges n m one two =
      let low : n ≤ m = one.least two.tasks m two.directs two.deadhead in
      let high : m ≤ n = two.least one.tasks n one.directs one.deadhead in
      omega arith

  -- nothing is left but the way to the depot
  pub nothing_left : (a n : ℕ) → IsLeastPrice p by_cost a p.depot n → IsLeastLeft p a [] n
  nothing_left a n price = record {
    tasks = [];
    directs = refl;
    deadhead = price;
    least = least;
  }
    where
      least : (other : List Task) (m : ℕ) → Directs [] other → LeastDeadhead p by_cost a other p.depot m → n ≤ m
      least [] m directs dead = price.least m dead.steps dead.reached
      least (t ∷ ts) m directs dead = absurd (none_directed [] t ts directs)

  module _ (a e : ℕ) (edges : List ℕ) (left : Left) (after : IsLeftAfter p e edges left) (out back : ℕ)
      (out_price : IsLeastPrice p by_cost a (tail_of (edge_at p e) true) out) (back_price : IsLeastPrice p by_cost a (tail_of (edge_at p e) false) back) where
    -- each choice costs at least the lesser of the two
    each_choice : (n : ℕ) → n ≤ out + left.forward → n ≤ back + left.backward → (other : List Task) (m : ℕ) → Directs (e ∷ edges) other → LeastDeadhead p by_cost a other p.depot m → n ≤ m
    each_choice n forth back' [] m directs dead = cc
    each_choice n forth back' (t ∷ ts) m directs dead = go t.forward (subst (λ x. LeastFrom x t.forward) (cons_head t.edge e (map (λ u. u.edge) ts) edges directs) (dead.0, dead.1, dead.2, dead.3, dead.4))
      where
        abbrev_tail : map (λ u. u.edge) ts ≡ edges
        abbrev_tail = cons_tail t.edge e (map (λ u. u.edge) ts) edges directs

        LeastFrom : ℕ → Bool → Type 0
        LeastFrom x d = (k l : ℕ) × IsLeastPrice p by_cost a (tail_of (edge_at p x) d) k × LeastDeadhead p by_cost (head_of (edge_at p x) d) ts p.depot l × (m ≡ k + l)

        go : (d : Bool) → LeastFrom e d → n ≤ m
        go true from = omega (arith, forth, price_unique p by_cost a (tail_of (edge_at p e) true) out from.0 out_price from.2, after.forward.least ts from.1 abbrev_tail from.3, from.4)
        go false from = omega (arith, back', price_unique p by_cost a (tail_of (edge_at p e) false) back from.0 back_price from.2, after.backward.least ts from.1 abbrev_tail from.3, from.4)

    pub forward_best : out + left.forward ≤ back + left.backward → IsBestStart p a e edges left true (out + left.forward)
    forward_best less = record {
      out = out;
      price = out_price;
      sum = refl;
      best = record {
        tasks = record { edge = e; forward = true } ∷ after.forward.tasks;
        directs = ap (λ es. e ∷ es) after.forward.directs;
        deadhead = (out, left.forward, out_price, after.forward.deadhead, refl);
        least = each_choice (out + left.forward) (omega arith) less;
      };
    }

    pub backward_best : back + left.backward ≤ out + left.forward → IsBestStart p a e edges left false (back + left.backward)
    backward_best less = record {
      out = back;
      price = back_price;
      sum = refl;
      best = record {
        tasks = record { edge = e; forward = false } ∷ after.backward.tasks;
        directs = ap (λ es. e ∷ es) after.backward.directs;
        deadhead = (back, left.backward, back_price, after.backward.deadhead, refl);
        least = each_choice (back + left.backward) less (omega arith);
      };
    }

  -- at the start nothing is spent
  pub first_underway : (edges : List ℕ) → IsStand p p.depot → IsUnderway p edges 0 p.depot []
  first_underway edges stand = record {
    spent = 0;
    stand = stand;
    directs = refl;
    goes = λ more n dead. rw (zero-add n) dead;
    whole = λ n left. rw (zero-add n) left;
  }

  -- one task more
  pub one_more_task : (edges : List ℕ) (i at : ℕ) (tasks : List Task) (e d : ℕ) (left : Left) (t : Task) (forward : Bool) (n : ℕ) → IsUnderway p edges i at tasks → i < length edges → e ≡ get_or edges i d →
      IsLeftAfter p e (drop (i + 1) edges) left → IsBestStart p at e (drop (i + 1) edges) left forward n → t.edge ≡ e → t.forward ≡ forward →
      IsStand p (head_of (edge_at p t.edge) t.forward) → IsUnderway p edges (i + 1) (head_of (edge_at p t.edge) t.forward) (tasks ++ t ∷ [])
  one_more_task edges i at tasks e d left t forward n way less e_is after start edge_is forward_is stand = record {
    spent = way.spent + start.out;
    stand = stand;
    directs = map-append (λ u. u.edge) tasks (t ∷ []) ∙ ap (λ es. es ++ t.edge ∷ []) way.directs ∙ ap (λ x. take i edges ++ x ∷ []) (edge_is ∙ e_is) ∙ sym (take_more edges i d less);
    goes = λ more m dead.
        let price : IsLeastPrice p by_cost at (tail_of (edge_at p t.edge) t.forward) start.out =
        subst (λ x. IsLeastPrice p by_cost at (tail_of (edge_at p x) t.forward) start.out) (sym edge_is)
        (subst (λ b. IsLeastPrice p by_cost at (tail_of (edge_at p e) b) start.out) (sym forward_is) start.price) in
        let step = way.goes (t ∷ more) (start.out + m) (start.out, m, price, dead, refl) in
        let sums : way.spent + (start.out + m) ≡ way.spent + start.out + m = omega arith in
        rw (← sums, append_assoc) step;
    whole = λ m least.
        let after' : IsLeastLeft p (head_of (edge_at p t.edge) t.forward) (drop (i + 1) edges) (left_after left forward) =
        subst (λ x. IsLeastLeft p (head_of (edge_at p x) t.forward) (drop (i + 1) edges) (left_after left forward)) (sym edge_is)
        (subst (λ b. IsLeastLeft p (head_of (edge_at p e) b) (drop (i + 1) edges) (left_after left forward)) (sym forward_is) (left_is forward)) in
        let m_is = left_unique (head_of (edge_at p t.edge) t.forward) (drop (i + 1) edges) m (left_after left forward) least after' in
        let sums : way.spent + n ≡ way.spent + start.out + m = omega (arith, start.sum, m_is) in
        let drop_is : e ∷ drop (i + 1) edges ≡ drop i edges = ap (λ x. x ∷ drop (i + 1) edges) e_is ∙ sym (drop_more edges i d less) in
        rw (← sums) (way.whole n (subst (λ es. IsLeastLeft p at es n) drop_is start.best));
  }
    where
      left_is : (b : Bool) → IsLeastLeft p (head_of (edge_at p e) b) (drop (i + 1) edges) (left_after left b)
      left_is true = after.forward
      left_is false = after.backward

  -- at the end the tasks are the cheapest
  pub all_done : (edges : List ℕ) (i at : ℕ) (tasks : List Task) → IsUnderway p edges i at tasks → length edges ≤ i → (n : ℕ) → IsLeastPrice p by_cost at p.depot n → IsCheapestDirected p edges tasks
  all_done edges i at tasks way most n price =
      let none : drop i edges ≡ [] = drop_all i edges most in
      let whole = way.whole n (subst (λ es. IsLeastLeft p at es n) (sym none) (nothing_left at n price)) in
      let dead = subst (λ ts. LeastDeadhead p by_cost p.depot ts p.depot (way.spent + n)) (append-nil tasks) (way.goes [] n price) in
      record {
        directs = way.directs ∙ take_all i edges most;
        least = λ other k m directs own dead'. omega (arith, deadhead_unique p by_cost p.depot p.depot tasks k (way.spent + n) own dead, whole.least other m directs dead');
      }

  -- one place more is filled
  pub filled_more : (edges : List ℕ) (lefts : List Left) (k : ℕ) (left : Left) → IsFilled p edges lefts (k + 1) → k < length edges → IsLeftAfter p (get_or edges k 0) (drop (k + 1) edges) left →
      IsSmallLeft (length edges - k) left → IsFilled p edges (set lefts k left) k
  filled_more edges lefts k left filled less after small = record {
    long = length-set lefts k left ∙ filled.long;
    each = λ j low within. elim (cases_eq j k) [
      | inl here ↦
          subst (λ (i : ℕ). IsLeftAfter p (get_or edges i 0) (drop (i + 1) edges) (get_or (set lefts k left) i no_left)) (sym here)
          (subst (IsLeftAfter p (get_or edges k 0) (drop (k + 1) edges)) (sym (get_or-set_same lefts k left no_left (omega (arith, filled.long, less)))) after)
      | inr there ↦ subst (IsLeftAfter p (get_or edges j 0) (drop (j + 1) edges)) (sym (get_or-set_other lefts k j left no_left there)) (filled.each j (omega (arith, low, there)) within)
    ];
    small = λ j low within. elim (cases_eq j k) [
      | inl here ↦
          subst (λ (i : ℕ). IsSmallLeft (length edges - i) (get_or (set lefts k left) i no_left)) (sym here)
          (subst (IsSmallLeft (length edges - k)) (sym (get_or-set_same lefts k left no_left (omega (arith, filled.long, less)))) small)
      | inr there ↦ subst (IsSmallLeft (length edges - j)) (sym (get_or-set_other lefts k j left no_left there)) (filled.small j (omega (arith, low, there)) within)
    ];
  }
