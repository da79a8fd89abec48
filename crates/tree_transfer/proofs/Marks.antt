-- The sets that are marked, and their numbers.
use Rattle.std.proofs.Common.{◌≡◌, ◌⊎◌, ◌↔◌, ℕ, zero, suc, ◌+◌, ◌-◌, ◌≤◌, ◌<◌, Bool, true, false, cond, List, [], ◌∷◌, ◌++◌, length, map, take, refl, sym, ap, ◌∙◌, subst, arith, inl, inr, All, IsTrue, get_or, set}
use Rattle.std.specs.Prelude.{count_by}
use Rattle.std.specs.List.{Contains}
use Rattle.std.proofs.lemmas.Bool.{cases_eq, false≢true}
use Rattle.std.proofs.lemmas.List.{get_or-map, get_or-set_other, get_or-set_same, length-map, length-set, map-append, take_more}
use Rattle.std.proofs.lemmas.List.Elements.{Contains-append_left, Contains-push, Contains-push_cases}
use Rattle.std.proofs.lemmas.List.Sums.{count_by-le-length, sum_by-cons, sum_by-take-le}
use Rattle.branch_rules.specs.Prices.{Prices}
use Rattle.branch_rules.specs.declared.node.Node.{Node}
use Rattle.branch_rules.specs.declared.node.Node.TheVariants as nodes
use Rattle.grown_trees.specs.Growth.{IsSpelledNode}
use Rattle.grown_trees.specs.declared.growing.GrowingNode.{GrowingNode}
use Rattle.tree_transfer.specs.Named.{AreNamedSets, IsNamed, renumbered_entry}
use Rattle.tree_transfer.specs.Naming.{AreMarked, AreNumbers, marked_by, marked_sets, marked_to, number_in}

-- Marks.

abbrev total : List Bool → ℕ
total marks = count_by (λ mark. mark) marks

total_cons : (m : Bool) (ms : List Bool) → total (m ∷ ms) ≡ cond m 1 0 + total ms
total_cons m ms = sum_by-cons (λ b. cond b 1 0) m ms

pub rank_more : (m : Bool) (ms : List Bool) (p : ℕ) → marked_to (m ∷ ms) (suc p) ≡ cond m 1 0 + marked_to ms p
rank_more m ms p = total_cons m (take p ms)

pub rank_step : (ms : List Bool) (p : ℕ) → p < length ms → marked_to ms (p + 1) ≡ marked_to ms p + cond (get_or ms p false) 1 0
rank_step [] p less = absurd (omega (arith, less))
rank_step (m ∷ ms) zero less = omega (arith, total_cons m [])
rank_step (m ∷ ms) (suc p) less =
    let more : suc p + 1 ≡ suc (p + 1) = omega arith in
    rw more (omega (arith, rank_more m ms (p + 1), rank_more m ms p, rank_step ms p (omega (arith, less))))

rank_most : (ms : List Bool) (p : ℕ) → marked_to ms p ≤ total ms
rank_most ms p = sum_by-take-le (λ b. cond b 1 0) ms p

-- the set of a mark that is true stands among the marked sets behind those before it
rank_at : (ms : List Bool) (xs : List Prices) (p : ℕ) (d : Prices) → length ms ≡ length xs → p < length ms → get_or ms p false ≡ true → get_or (marked_sets ms xs) (marked_to ms p) d ≡ get_or xs p d
rank_at [] xs p d long less is = absurd (omega (arith, less))
rank_at (m ∷ ms) [] p d long less is = absurd (omega (arith, long))
rank_at (true ∷ ms) (x ∷ xs) zero d long less is = refl
rank_at (false ∷ ms) (x ∷ xs) zero d long less is = absurd (false≢true is)
rank_at (true ∷ ms) (x ∷ xs) (suc p) d long less is =
    let back : marked_to (true ∷ ms) (suc p) ≡ suc (marked_to ms p) = omega (arith, rank_more true ms p) in
    ap (λ i. get_or (x ∷ marked_sets ms xs) i d) back ∙ rank_at ms xs p d (omega (arith, long)) (omega (arith, less)) is
rank_at (false ∷ ms) (x ∷ xs) (suc p) d long less is =
    let back : marked_to (false ∷ ms) (suc p) ≡ marked_to ms p = omega (arith, rank_more false ms p) in
    ap (λ i. get_or (marked_sets ms xs) i d) back ∙ rank_at ms xs p d (omega (arith, long)) (omega (arith, less)) is

pub marked_long : (ms : List Bool) (xs : List Prices) → length ms ≡ length xs → length (marked_sets ms xs) ≡ total ms
marked_long [] [] long = refl
marked_long [] (x ∷ xs) long = absurd (omega (arith, long))
marked_long (m ∷ ms) [] long = absurd (omega (arith, long))
marked_long (true ∷ ms) (x ∷ xs) long = omega (arith, total_cons true ms, marked_long ms xs (omega (arith, long)))
marked_long (false ∷ ms) (x ∷ xs) long = omega (arith, total_cons false ms, marked_long ms xs (omega (arith, long)))

-- the rank of a later place is no less
rank_later : (ms : List Bool) (p q : ℕ) → p ≤ q → marked_to ms p ≤ marked_to ms q
rank_later [] p q within = omega (arith, rank_most [] p)
rank_later (m ∷ ms) zero q within = omega arith
rank_later (m ∷ ms) (suc p) zero within = absurd (omega (arith, within))
rank_later (m ∷ ms) (suc p) (suc q) within = omega (arith, rank_more m ms p, rank_more m ms q, rank_later ms p q (omega (arith, within)))

same_rank : (ms : List Bool) (p q : ℕ) → p ≡ q → marked_to ms p ≡ marked_to ms q
same_rank ms p q same = ap (λ i. marked_to ms i) same

record HasRank (ms : List Bool) (rank : ℕ) : Type 0 where
  pub place : ℕ
  pub inside : place < length ms
  pub is : get_or ms place false ≡ true
  pub rank_is : marked_to ms place ≡ rank

-- each rank below the total is that of a mark that is true
ranked : (ms : List Bool) (rank : ℕ) → rank < total ms → HasRank ms rank
ranked [] rank less = absurd (omega (arith, less))
ranked (true ∷ ms) zero less = record { place = zero; inside = omega arith; is = refl; rank_is = refl }
ranked (true ∷ ms) (suc rank) less =
    let there = ranked ms rank (omega (arith, less, total_cons true ms)) in
    record { place = suc there.place; inside = omega (arith, there.inside); is = there.is; rank_is = omega (arith, rank_more true ms there.place, there.rank_is) }
ranked (false ∷ ms) rank less =
    let there = ranked ms rank (omega (arith, less, total_cons false ms)) in
    record { place = suc there.place; inside = omega (arith, there.inside); is = there.is; rank_is = omega (arith, rank_more false ms there.place, there.rank_is) }

-- The new sets are the marked ones.

module _ (sets : List Prices) (before : List GrowingNode) (marks : List Bool) (numbers : List ℕ) (spelled : All (λ (e : GrowingNode). IsSpelledNode (length sets) e.node) before)
    (marked : AreMarked before (length sets) marks) (counted : AreNumbers marks numbers) where
  record IsMarked (set : ℕ) : Type 0 where
    pub place : ℕ
    pub set_is : set ≡ suc place
    pub inside : place < length marks
    pub is : get_or marks place false ≡ true
    pub number_is : number_in numbers set ≡ marked_to marks place + 1

  named_spelled : (set : ℕ) → IsNamed before set → IsSpelledNode (length sets) (nodes.Price set)
  named_spelled set (k, less, is) =
      let other : GrowingNode = record { node = nodes.Price set; shows = 0 } in
      let inside : k < length before = omega (arith, less, length-map before (λ (e : GrowingNode). e.node)) in
      let read : get_or (map (λ (e : GrowingNode). e.node) before) k (nodes.Price set) ≡ (get_or before k other).node = get_or-map (λ (e : GrowingNode). e.node) before k other (nodes.Price set) inside in
      subst (IsSpelledNode (length sets)) (sym read ∙ is) (spelled k other inside)

  is_marked : (set : ℕ) → IsNamed before set → IsMarked set
  is_marked zero named = absurd (omega (arith, (named_spelled zero named).0))
  is_marked (suc p) named =
      let inside : p < length sets = omega (arith, (named_spelled (suc p) named).1) in
      let there : p < length marks = omega (arith, inside, marked.one_each) in
      let next : suc p ≡ p + 1 = omega arith in
      let is : get_or marks p false ≡ true = (marked.marked p inside).1 (subst (IsNamed before) next named) in
      record {
        place = p;
        set_is = refl;
        inside = there;
        is = is;
        number_is = omega (arith, counted.counted p (omega (arith, there, counted.one_each)), rank_step marks p there, ap {B = ℕ} (λ b. cond b 1 0) is);
      }

  pub are_named : AreNamedSets sets (marked_sets marks sets) before (map (renumbered_entry (number_in numbers)) before)
  are_named = record {
    number = number_in numbers;
    nodes = refl;
    from_one = λ set named. let m = is_marked set named in omega (arith, m.number_is);
    in_range = λ set named.
        let m = is_marked set named in
        omega (arith, m.number_is, rank_step marks m.place m.inside, ap {B = ℕ} (λ b. cond b 1 0) m.is, rank_most marks (m.place + 1), marked_long marks sets marked.one_each);
    same = λ set other named.
        let m = is_marked set named in
        let here : number_in numbers set - 1 ≡ marked_to marks m.place = omega (arith, m.number_is) in
        let there : m.place ≡ set - 1 = omega (arith, m.set_is) in
        ap (λ i. get_or (marked_sets marks sets) i other) here ∙ rank_at marks sets m.place other marked.one_each m.inside m.is ∙ ap (λ i. get_or sets i other) there;
    in_order = λ set later named other less.
        let m = is_marked set named in
        let n = is_marked later other in
        omega (
          arith,
          m.number_is,
          n.number_is,
          rank_step marks m.place m.inside,
          ap {B = ℕ} (λ b. cond b 1 0) m.is,
          rank_later marks (m.place + 1) n.place (omega (arith, less, m.set_is, n.set_is)),
        );
    no_other = λ k from_one in_range.
        let r = ranked marks (k - 1) (omega (arith, from_one, in_range, marked_long marks sets marked.one_each)) in
        let inside : r.place < length sets = omega (arith, r.inside, marked.one_each) in
        let named : IsNamed before (r.place + 1) = (marked.marked r.place inside).0 r.is in
        let m = is_marked (r.place + 1) named in
        let same : m.place ≡ r.place = omega (arith, m.set_is) in
        (r.place + 1, named, omega (arith, m.number_is, same_rank marks m.place r.place same, r.rank_is, from_one));
  }

  pub no_more : length (marked_sets marks sets) ≤ length sets
  no_more = omega (arith, marked_long marks sets marked.one_each, count_by-le-length (λ mark. mark) marks, marked.one_each)

-- A node that is marked.

named_on : (before : List GrowingNode) (e : GrowingNode) (set : ℕ) → IsNamed before set → IsNamed (before ++ e ∷ []) set
named_on before e set named =
    subst (λ (ns : List Node). Contains ns (nodes.Price set)) (sym (map-append (λ (x : GrowingNode). x.node) before (e ∷ [])))
    (Contains-append_left (map (λ (x : GrowingNode). x.node) before) (e.node ∷ []) (nodes.Price set) named)

named_last : (before : List GrowingNode) (e : GrowingNode) (set : ℕ) → e.node ≡ nodes.Price set → IsNamed (before ++ e ∷ []) set
named_last before e set is =
    subst (λ (ns : List Node). Contains ns (nodes.Price set)) (sym (map-append (λ (x : GrowingNode). x.node) before (e ∷ []) ∙ ap (λ (n : Node). map (λ (x : GrowingNode). x.node) before ++ n ∷ []) is))
    (Contains-push (map (λ (x : GrowingNode). x.node) before) (nodes.Price set))

named_cases : (before : List GrowingNode) (e : GrowingNode) (set : ℕ) → IsNamed (before ++ e ∷ []) set → IsNamed before set ⊎ (e.node ≡ nodes.Price set)
named_cases before e set named =
    Contains-push_cases (map (λ (x : GrowingNode). x.node) before) e.node (nodes.Price set)
    (subst (λ (ns : List Node). Contains ns (nodes.Price set)) (map-append (λ (x : GrowingNode). x.node) before (e ∷ [])) named)

-- the number that a node names
abbrev set_in : Node → ℕ
set_in (nodes.Pair a b) = 0
set_in (nodes.Cut shore k) = 0
set_in (nodes.Price set) = set
set_in nodes.Void = 0
set_in nodes.Fixed = 0

module _ (sets : ℕ) (before : List GrowingNode) (e : GrowingNode) (marks : List Bool) (marked : AreMarked before sets marks) where
  unmarked : ((set : ℕ) → e.node ≡ nodes.Price set → ⊥) → AreMarked (before ++ e ∷ []) sets marks
  unmarked other = record {
    one_each = marked.one_each;
    marked = λ place inside. (
      λ is. named_on before e (place + 1) ((marked.marked place inside).0 is),
      λ named. elim (named_cases before e (place + 1) named) [ inl old ↦ (marked.marked place inside).1 old | inr new ↦ absurd (other (place + 1) new) ],
    );
  }

  marked_here : (p : ℕ) → e.node ≡ nodes.Price (suc p) → (place : ℕ) → place < sets → place ≡ p → get_or (set marks p true) place false ≡ true
  marked_here p is place inside same =
      subst (λ i. get_or (set marks p true) i false ≡ true) (sym same) (get_or-set_same marks p true false (omega (arith, inside, same, marked.one_each)))

  one_marked : (p : ℕ) → e.node ≡ nodes.Price (suc p) → (place : ℕ) → place < sets → (place ≡ p) ⊎ (place ≡ p → ⊥) → IsTrue (get_or (set marks p true) place false) ↔ IsNamed (before ++ e ∷ []) (place + 1)
  one_marked p is place inside (inl same) = (
    λ _. named_last before e (place + 1) (is ∙ ap nodes.Price (let next : suc p ≡ place + 1 = omega (arith, same) in next)),
    λ named. marked_here p is place inside same,
  )
  one_marked p is place inside (inr other) = (
    λ t. named_on before e (place + 1) ((marked.marked place inside).0 (sym (get_or-set_other marks p place true false other) ∙ t)),
    λ named. get_or-set_other marks p place true false other ∙ elim (named_cases before e (place + 1) named) [
      | inl old ↦ (marked.marked place inside).1 old
      | inr new ↦ absurd (other (let same : place + 1 ≡ suc p = ap set_in (sym new ∙ is) in omega (arith, same)))
    ],
  )

  mark_node : (node : Node) → e.node ≡ node → IsSpelledNode sets node → AreMarked (before ++ e ∷ []) sets (marked_by node marks)
  mark_node (nodes.Pair a b) is spelled = unmarked (λ set new. let clash : nodes.Pair a b ≡ nodes.Price set = sym is ∙ new in cc)
  mark_node (nodes.Cut shore k) is spelled = unmarked (λ set new. let clash : nodes.Cut shore k ≡ nodes.Price set = sym is ∙ new in cc)
  mark_node (nodes.Price zero) is spelled = absurd (omega (arith, spelled.0))
  mark_node (nodes.Price (suc p)) is spelled = record {
    one_each = length-set marks p true ∙ marked.one_each;
    marked = λ place inside. one_marked p is place inside (cases_eq place p);
  }
  mark_node nodes.Void is spelled = unmarked (λ set new. let clash : nodes.Void ≡ nodes.Price set = sym is ∙ new in cc)
  mark_node nodes.Fixed is spelled = unmarked (λ set new. let clash : nodes.Fixed ≡ nodes.Price set = sym is ∙ new in cc)

-- one node more
pub mark_more : (sets : ℕ) (entries : List GrowingNode) (i : ℕ) (e : GrowingNode) (marks : List Bool) → AreMarked (take i entries) sets marks → i < length entries → e ≡ get_or entries i e →
    IsSpelledNode sets e.node → AreMarked (take (i + 1) entries) sets (marked_by e.node marks)
mark_more sets entries i e marks marked less read spelled =
    subst (λ (es : List GrowingNode). AreMarked es sets (marked_by e.node marks)) (ap (λ (x : GrowingNode). take i entries ++ x ∷ []) read ∙ sym (take_more entries i e less))
    (mark_node sets (take i entries) e marks marked e.node refl spelled)
