-- Edits raise an instance: each of its edges is one of the old ones, with something added.
use Rattle.std.proofs.Common.{◌≡◌, ◌≢◌, ℕ, zero, suc, ◌+◌, ◌-◌, ◌<◌, ◌≤◌, ◌==◌, ◌||◌, Bool, true, false, List, [], ◌∷◌, ◌++◌, map, length, refl, sym, ap, subst, ◌∙◌, arith, inl, inr, length-append}
use Rattle.std.specs.Prelude.{slice_index_or, if◌then◌else◌}
use Rattle.std.specs.List.{list_any}
use Rattle.std.proofs.lemmas.Bool.{cases_lt}
use Rattle.std.proofs.lemmas.Bool.Decides.{nat_tests}
use Rattle.std.proofs.lemmas.List.{get_or_append_left, get_or_push}
use Rattle.carp_base.specs.declared.edge.Edge.{Edge}
use Rattle.carp_base.specs.declared.edge.RawEdge.{RawEdge}
use Rattle.carp_base.specs.Problem.{Problem, IsValid, IsEdgeNumber, IsRequired, edge_at, no_edge, other_edge, required_edge}
use Rattle.instance_edits.specs.declared.edit.Edit.{Edit}
use Rattle.instance_edits.specs.declared.edit.Edit.TheVariants.{Cost, Service, Demand, Close}
use Rattle.instance_edits.specs.Edits.{AreKnown, IsKnown, changed, changed_from, closes, edited}
use Rattle.tree_transfer.specs.Raised.{IsNoCheaper, IsRaised}
use Rattle.tree_transfer.specs.Laws.{EditsRaise}

-- No known edit closes a required edge.

other_number : (d e : ℕ) → d ≢ e → (d == e) ≡ false
other_number d e other = grind (arith, nat_tests)

neither : (a b : Bool) → a ≡ false → b ≡ false → (a || b) ≡ false
neither true b is rest = is
neither false b is rest = rest

one_open : (p : Problem) (before : List Edit) (x : Edit) (e : ℕ) → IsKnown p before x → IsRequired p e → closes e x ≡ false
one_open p before (Cost d n) e known required = refl
one_open p before (Service d n) e known required = refl
one_open p before (Demand d n) e known required = refl
one_open p before (Close d) e known required = other_number d e (λ same. known.1 (subst (IsRequired p) (sym same) required))

stays_open : (p : Problem) (before edits : List Edit) (e : ℕ) → AreKnown p before edits → IsRequired p e → list_any (closes e) edits ≡ false
stays_open p before [] e known required = refl
stays_open p before (x ∷ edits) e known required =
    neither (closes e x) (list_any (closes e) edits) (one_open p before x e known.0 required) (stays_open p (before ++ x ∷ []) edits e known.1 required)

-- the numbers of the edges that are left
abbrev left_from : List Edit → (first n : ℕ) → List ℕ
left_from edits first zero = []
left_from edits first (suc n) = left_from edits first n ++ (if list_any (closes (first + suc n)) edits then [] else (first + suc n) ∷ [])

-- the edges of a list have these numbers in an instance, and are no cheaper there
abbrev AreOf : Problem → List ℕ → List Edge → Type 0
AreOf p [] [] = Unit {0}
AreOf p [] (x ∷ xs) = ⊥
AreOf p (e ∷ es) [] = ⊥
AreOf p (e ∷ es) (x ∷ xs) = (IsEdgeNumber p e × IsNoCheaper (edge_at p e) x) × AreOf p es xs

of_both : (p : Problem) (es : List ℕ) (xs : List Edge) (fs : List ℕ) (ys : List Edge) → AreOf p es xs → AreOf p fs ys → AreOf p (es ++ fs) (xs ++ ys)
of_both p [] [] fs ys of more = more
of_both p [] (x ∷ xs) fs ys of more = absurd of
of_both p (e ∷ es) [] fs ys of more = absurd of
of_both p (e ∷ es) (x ∷ xs) fs ys of more = (of.0, of_both p es xs fs ys of.1 more)

of_at : (p : Problem) (es : List ℕ) (xs : List Edge) (k : ℕ) → AreOf p es xs → k < length xs →
    IsEdgeNumber p (slice_index_or es k 0) × IsNoCheaper (edge_at p (slice_index_or es k 0)) (slice_index_or xs k no_edge)
of_at p [] [] k of less = absurd (omega (arith, less))
of_at p [] (x ∷ xs) k of less = absurd of
of_at p (e ∷ es) [] k of less = absurd of
of_at p (e ∷ es) (x ∷ xs) zero of less = of.0
of_at p (e ∷ es) (x ∷ xs) (suc k) of less = of_at p es xs k of.1 (omega (arith, less))

map_append : {X Y : Type 0} (f : X → Y) (xs ys : List X) → map f (xs ++ ys) ≡ map f xs ++ map f ys
map_append f [] ys = refl
map_append f (x ∷ xs) ys = ap (λ zs. f x ∷ zs) (map_append f xs ys)

module _ (p : Problem) (edits : List Edit) where
  changed_of : (f : RawEdge → Edge) (first n : ℕ) → ((e : ℕ) → IsEdgeNumber p e → first < e → IsNoCheaper (edge_at p e) (f (changed p edits e))) → first + n ≤ length p.edges →
      AreOf p (left_from edits first n) (map f (changed_from p edits first n))
  changed_of f first zero less within = tt
  changed_of f first (suc n) less within =
      subst (λ xs. AreOf p (left_from edits first (suc n)) xs)
      (sym (map_append f (changed_from p edits first n) (if list_any (closes (first + suc n)) edits then [] else changed p edits (first + suc n) ∷ [])))
      (of_both p (left_from edits first n) (map f (changed_from p edits first n)) (if list_any (closes (first + suc n)) edits then [] else (first + suc n) ∷ [])
      (map f (if list_any (closes (first + suc n)) edits then [] else changed p edits (first + suc n) ∷ [])) (changed_of f first n less (omega (arith, within)))
      (one (list_any (closes (first + suc n)) edits)))
    where
      one : (b : Bool) → AreOf p (if b then [] else (first + suc n) ∷ []) (map f (if b then [] else changed p edits (first + suc n) ∷ []))
      one true = tt
      one false =
          let number : IsEdgeNumber p (first + suc n) = record { from_one = omega arith; in_range = omega (arith, within) } in
          ((number, less (first + suc n) number (omega arith)), tt)

  module _ (valid : IsValid p) (known : AreKnown p [] edits) where
    numbers_long : (n : ℕ) → n ≤ p.required → length (changed_from p edits 0 n) ≡ n
    numbers_long zero within = refl
    numbers_long (suc n) within =
        let open_yet = stays_open p [] edits (0 + suc n) known (record { from_one = omega arith; in_range = omega (arith, within) }) in
        length-append (changed_from p edits 0 n) (if list_any (closes (0 + suc n)) edits then [] else changed p edits (0 + suc n) ∷ [])
        ∙ ap (λ b. length (changed_from p edits 0 n) + length (if b then [] else changed p edits (0 + suc n) ∷ [])) open_yet
        ∙ omega (arith, numbers_long n (omega (arith, within)))

    left_long : (n : ℕ) → n ≤ p.required → length (left_from edits 0 n) ≡ n
    left_long zero within = refl
    left_long (suc n) within =
        let open_yet = stays_open p [] edits (0 + suc n) known (record { from_one = omega arith; in_range = omega (arith, within) }) in
        length-append (left_from edits 0 n) (if list_any (closes (0 + suc n)) edits then [] else (0 + suc n) ∷ [])
        ∙ ap (λ b. length (left_from edits 0 n) + length (if b then [] else (0 + suc n) ∷ [])) open_yet
        ∙ omega (arith, left_long n (omega (arith, within)))

    left_at : (n k : ℕ) → n ≤ p.required → k < n → slice_index_or (left_from edits 0 n) k 0 ≡ suc k
    left_at zero k within less = absurd (omega (arith, less))
    left_at (suc n) k within less =
        let open_yet = stays_open p [] edits (0 + suc n) known (record { from_one = omega arith; in_range = omega (arith, within) }) in
        let long = left_long n (omega (arith, within)) in
        ap (λ b. slice_index_or (left_from edits 0 n ++ (if b then [] else (0 + suc n) ∷ [])) k 0) open_yet
        ∙ elim (cases_lt k n) [
          | inl below ↦ get_or_append_left (left_from edits 0 n) ((0 + suc n) ∷ []) 0 k (omega (arith, below, long)) ∙ left_at n k (omega (arith, within)) below
          | inr last ↦ get_or_push (left_from edits 0 n) (0 + suc n) 0 k (omega (arith, last, less, long)) ∙ omega (arith, last, less)
        ]

    abbrev all_left : List ℕ
    all_left = left_from edits 0 p.required ++ left_from edits p.required (length p.edges - p.required)

    abbrev number_of : ℕ → ℕ
    number_of zero = 0
    number_of (suc k) = slice_index_or all_left k 0

    all_of : AreOf p all_left (edited p edits).edges
    all_of = of_both p (left_from edits 0 p.required) (map required_edge (changed_from p edits 0 p.required)) (left_from edits p.required (length p.edges - p.required))
        (map other_edge (changed_from p edits p.required (length p.edges - p.required)))
        (changed_of required_edge 0 p.required (λ e number more. added e) (omega (arith, valid.required_in)))
        (changed_of other_edge p.required (length p.edges - p.required) (λ e number more. idle e number more) (omega (arith, valid.required_in)))
      where
        added : (e : ℕ) → IsNoCheaper (edge_at p e) (required_edge (changed p edits e))
        added e = record { u_same = refl; v_same = refl; cost = omega arith; demand = omega arith; service = omega arith }

        idle : (e : ℕ) → IsEdgeNumber p e → p.required < e → IsNoCheaper (edge_at p e) (other_edge (changed p edits e))
        idle e number more =
            let is = valid.idle e number more in
            record { u_same = refl; v_same = refl; cost = omega arith; demand = omega (arith, is.no_demand); service = omega (arith, is.no_service) }

    number_same : (e : ℕ) → IsRequired (edited p edits) e → number_of e ≡ e
    number_same zero required = absurd (omega (arith, required.from_one))
    number_same (suc k) required =
        let long = left_long p.required (omega arith) in
        let less : k < p.required = omega (arith, required.in_range, numbers_long p.required (omega arith)) in
        get_or_append_left (left_from edits 0 p.required) (left_from edits p.required (length p.edges - p.required)) 0 k (omega (arith, less, long)) ∙ left_at p.required k (omega arith) less

    number_fits : (e : ℕ) → IsEdgeNumber (edited p edits) e → IsEdgeNumber p (number_of e) × IsNoCheaper (edge_at p (number_of e)) (edge_at (edited p edits) e)
    number_fits zero number = absurd (omega (arith, number.from_one))
    number_fits (suc k) number = of_at p all_left (edited p edits).edges k all_of (omega (arith, number.in_range))

    raises : IsRaised p (edited p edits)
    raises = record {
      vertices = refl;
      depot = refl;
      capacity = refl;
      required = numbers_long p.required (omega arith);
      number = number_of;
      inside = λ e number. (number_fits e number).0;
      same = number_same;
      edges = λ e number. (number_fits e number).1;
    }

pub edits_raise : EditsRaise
edits_raise p edits valid known = raises p edits valid known
