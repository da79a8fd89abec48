-- A text describes one instance, or has one first fault, and not both.
use Rattle.std.proofs.Common.{◌≡◌, ℕ, ◌+◌, ◌<◌, ◌≤◌, Bool, true, false, cond, eqb, List, [], ◌∷◌, length, Option, Some, None, ◌||◌, ◌⊎◌, refl, sym, ap, subst, ◌∙◌, inl, inr, arith}
use Rattle.std.specs.Prelude.{IfSome}
use Rattle.std.proofs.lemmas.Option.{none-some}
use Rattle.carp_base.specs.declared.edge.RawEdge.{RawEdge}
use Rattle.carp_base.specs.declared.fault.InstanceFault.{InstanceFault}
use Rattle.carp_base.specs.declared.fault.InstanceFault.TheVariants as instance
use Rattle.carp_base.specs.Problem.{Problem, IsValid}
use Rattle.carp_base.specs.Faults.{fault_rank, fault_number, IsFirstFault}
use Rattle.carp_base.specs.Laws.{ValidWhereNoFault}
use Rattle.dat_text.specs.declared.key.Key.{Key}
use Rattle.dat_text.specs.declared.key.Key.TheVariants.{Vertices, RequiredCount, OtherCount, Capacity, Depot, RequiredList, OtherList}
use Rattle.dat_text.specs.declared.fault.DatFault.{DatFault}
use Rattle.dat_text.specs.declared.fault.DatFault.TheVariants.{Syntax, MissingKey, DoubleKey, CountDiffers, NumberTooLong, Refused}
use Rattle.dat_text.specs.Text.{Statement, lines_of, same_key, stands, number_of, edges_of, AreGood, HasFirstBad, first_missing, needed, Differs, Agrees, IsFirstCount, Description, problem_of, IsComplete, IsIncomplete, Describes, IsTextOf, IsFaultOf, LatestFirst}
use Rattle.dat_text.specs.Text.Statement.{nothing, states, lists}
use Rattle.dat_text.proofs.EdgeLines.{some_is}
use Rattle.dat_text.proofs.LineVerdicts.{one_entry, no_bad, one_bad}

-- All lines.

one_said : (before : LatestFirst) (lines : List (List ℕ)) (said other : LatestFirst) → AreGood before lines said → AreGood before lines other → said ≡ other
one_said before [] said other a b = a ∙ sym b
one_said before (line ∷ lines) said other a b =
    one_said (b.0 ∷ before) lines said other (subst (λ (e : Statement). AreGood (e ∷ before) lines said) (one_entry before line a.0 b.0 a.1 b.1) a.2) b.2

no_first_bad : (before : LatestFirst) (at : ℕ) (lines : List (List ℕ)) (said : LatestFirst) (fault : DatFault) → AreGood before lines said → HasFirstBad before at lines fault → ⊥
no_first_bad before at [] said fault a bad = bad
no_first_bad before at (line ∷ lines) said fault a (inl bad) = no_bad before at line a.0 fault a.1 bad
no_first_bad before at (line ∷ lines) said fault a (inr more) =
    no_first_bad (more.0 ∷ before) (at + 1) lines said fault (subst (λ (e : Statement). AreGood (e ∷ before) lines said) (one_entry before line a.0 more.0 a.1 more.1) a.2) more.2

one_first_bad : (before : LatestFirst) (at : ℕ) (lines : List (List ℕ)) (f g : DatFault) → HasFirstBad before at lines f → HasFirstBad before at lines g → f ≡ g
one_first_bad before at [] f g a b = absurd a
one_first_bad before at (line ∷ lines) f g (inl a) (inl b) = one_bad before at line f g a b
one_first_bad before at (line ∷ lines) f g (inl a) (inr b) = absurd (no_bad before at line b.0 f b.1 a)
one_first_bad before at (line ∷ lines) f g (inr a) (inl b) = absurd (no_bad before at line a.0 g a.1 b)
one_first_bad before at (line ∷ lines) f g (inr a) (inr b) =
    one_first_bad (b.0 ∷ before) (at + 1) lines f g (subst (λ (e : Statement). HasFirstBad (e ∷ before) (at + 1) lines f) (one_entry before line a.0 b.0 a.1 b.1) a.2) b.2

-- After all lines.

one_description : (said : LatestFirst) (d e : Description) → IsComplete said d → IsComplete said e → d ≡ e
one_description said d e a b =
    let made : ℕ → ℕ → ℕ → List RawEdge → List RawEdge → Description =
    λ vertices depot capacity required others. record { vertices = vertices; depot = depot; capacity = capacity; required = required; others = others } in
    ap (λ (n : ℕ). made n d.depot d.capacity d.required d.others) (some_is d.vertices e.vertices (sym a.vertices ∙ b.vertices))
    ∙ ap (λ (n : ℕ). made e.vertices n d.capacity d.required d.others) (some_is d.depot e.depot (sym a.depot ∙ b.depot))
    ∙ ap (λ (n : ℕ). made e.vertices e.depot n d.required d.others) (some_is d.capacity e.capacity (sym a.capacity ∙ b.capacity))
    ∙ ap (λ (xs : List RawEdge). made e.vertices e.depot e.capacity xs d.others) (a.required ∙ sym b.required)
    ∙ ap (made e.vertices e.depot e.capacity e.required) (a.others ∙ sym b.others)

stands_here : (t : Bool) (k : Key) (m : Option ℕ) (n : ℕ) (said : LatestFirst) → (number_of k said ≡ Some n → stands k said ≡ true) → cond t m (number_of k said) ≡ Some n → (t || stands k said) ≡ true
stands_here true k m n said more e = refl
stands_here false k m n said more e = more e

number_stands : (k : Key) (n : ℕ) (said : LatestFirst) → number_of k said ≡ Some n → stands k said ≡ true
number_stands k n [] e = absurd (none-some n e)
number_stands k n (nothing ∷ said) e = number_stands k n said e
number_stands k n (states other m ∷ said) e = stands_here (same_key other k) k m n said (number_stands k n said) e
number_stands k n (lists list x ∷ said) e = number_stands k n said e

none_missing : (said : LatestFirst) (d : Description) → IsComplete said d → first_missing needed said ≡ None
none_missing said d h =
    rw
    (number_stands Vertices d.vertices said h.vertices, number_stands RequiredCount (length d.required) said h.required_count, number_stands Capacity d.capacity said h.capacity, number_stands Depot d.depot said h.depot)
    refl

agrees_or_differs : (k list : Key) (said : LatestFirst) (stated found : ℕ) → Agrees k list said → Differs k list said stated found → ⊥
agrees_or_differs k list said stated found a b =
    let there : stated ≡ length (edges_of list said) = subst (λ (o : Option ℕ). IfSome o (λ n. n ≡ length (edges_of list said))) b.there a in
    b.differ (there ∙ sym b.counted)

both_agree : (said : LatestFirst) (d : Description) → IsComplete said d → Agrees RequiredCount RequiredList said × Agrees OtherCount OtherList said
both_agree said d h = (
  subst (λ (o : Option ℕ). IfSome o (λ n. n ≡ length (edges_of RequiredList said))) (sym h.required_count) (ap length h.required),
  subst (λ (m : ℕ). IfSome (number_of OtherCount said) (λ n. n ≡ m)) (ap length h.others) h.other_count,
)

counts_agree : (said : LatestFirst) (k : Key) (stated found : ℕ) → Agrees RequiredCount RequiredList said → Agrees OtherCount OtherList said → IsFirstCount said k stated found → ⊥
counts_agree said RequiredCount stated found a b bad = agrees_or_differs RequiredCount RequiredList said stated found a bad
counts_agree said OtherCount stated found a b bad = agrees_or_differs OtherCount OtherList said stated found b bad.1
counts_agree said Vertices stated found a b bad = bad
counts_agree said Capacity stated found a b bad = bad
counts_agree said Depot stated found a b bad = bad
counts_agree said RequiredList stated found a b bad = bad
counts_agree said OtherList stated found a b bad = bad

no_incomplete : (said : LatestFirst) (d : Description) (fault : DatFault) → IsComplete said d → IsIncomplete said fault → ⊥
no_incomplete said d (MissingKey k) a bad = none-some k (sym (none_missing said d a) ∙ bad)
no_incomplete said d (CountDiffers k stated found) a bad = let agree = both_agree said d a in counts_agree said k stated found agree.0 agree.1 bad.1
no_incomplete said d (Syntax n) a bad = bad
no_incomplete said d (DoubleKey k) a bad = bad
no_incomplete said d (NumberTooLong n) a bad = bad
no_incomplete said d (Refused fault) a bad = bad

one_difference : (k list : Key) (said : LatestFirst) (n m found other : ℕ) → Differs k list said n found → Differs k list said m other → CountDiffers k n found ≡ CountDiffers k m other
one_difference k list said n m found other a b =
    ap (λ (x : ℕ). CountDiffers k x found) (some_is n m (sym a.there ∙ b.there)) ∙ ap (CountDiffers k m) (a.counted ∙ sym b.counted)

one_count : (said : LatestFirst) (k l : Key) (n m found other : ℕ) → IsFirstCount said k n found → IsFirstCount said l m other → CountDiffers k n found ≡ CountDiffers l m other
one_count said RequiredCount RequiredCount n m found other a b = one_difference RequiredCount RequiredList said n m found other a b
one_count said RequiredCount OtherCount n m found other a b = absurd (agrees_or_differs RequiredCount RequiredList said n found b.0 a)
one_count said OtherCount RequiredCount n m found other a b = absurd (agrees_or_differs RequiredCount RequiredList said m other a.0 b)
one_count said OtherCount OtherCount n m found other a b = one_difference OtherCount OtherList said n m found other a.1 b.1
one_count said Vertices l n m found other a b = absurd a
one_count said Capacity l n m found other a b = absurd a
one_count said Depot l n m found other a b = absurd a
one_count said RequiredList l n m found other a b = absurd a
one_count said OtherList l n m found other a b = absurd a
one_count said k Vertices n m found other a b = absurd b
one_count said k Capacity n m found other a b = absurd b
one_count said k Depot n m found other a b = absurd b
one_count said k RequiredList n m found other a b = absurd b
one_count said k OtherList n m found other a b = absurd b

one_incomplete : (said : LatestFirst) (f g : DatFault) → IsIncomplete said f → IsIncomplete said g → f ≡ g
one_incomplete said (MissingKey k) (MissingKey l) a b = ap MissingKey (some_is k l (sym a ∙ b))
one_incomplete said (MissingKey k) (CountDiffers l m other) a b = absurd (none-some k (sym b.0 ∙ a))
one_incomplete said (CountDiffers k n found) (MissingKey l) a b = absurd (none-some l (sym a.0 ∙ b))
one_incomplete said (CountDiffers k n found) (CountDiffers l m other) a b = one_count said k l n m found other a.1 b.1
one_incomplete said (Syntax n) g a b = absurd a
one_incomplete said (DoubleKey k) g a b = absurd a
one_incomplete said (NumberTooLong n) g a b = absurd a
one_incomplete said (Refused fault) g a b = absurd a
one_incomplete said f (Syntax n) a b = absurd b
one_incomplete said f (DoubleKey k) a b = absurd b
one_incomplete said f (NumberTooLong n) a b = absurd b
one_incomplete said f (Refused fault) a b = absurd b

-- Whole texts.

one_described : (bytes : List ℕ) (d e : Description) → Describes bytes d → Describes bytes e → d ≡ e
one_described bytes d e a b =
    let same = one_said [] (lines_of bytes) a.said b.said a.lines b.lines in
    one_description b.said d e (subst (λ (said : LatestFirst). IsComplete said d) same a.complete) b.complete

pub one_instance : (bytes : List ℕ) (p q : Problem) → IsTextOf bytes p → IsTextOf bytes q → p ≡ q
one_instance bytes p q a b = a.is ∙ ap problem_of (one_described bytes a.description b.description a.describes b.describes) ∙ sym b.is

-- a fault of the text by itself
abbrev IsTextFault : List ℕ → DatFault → Type 0
IsTextFault bytes fault = HasFirstBad [] 1 (lines_of bytes) fault ⊎ ((said : LatestFirst) × AreGood [] (lines_of bytes) said × IsIncomplete said fault)

-- the text describes an instance that is refused with the fault
record IsRefused (bytes : List ℕ) (fault : DatFault) : Type 0 where
  reason : InstanceFault
  description : Description
  describes : Describes bytes description
  first : IsFirstFault (problem_of description) reason
  is : fault ≡ Refused reason

kinds_of_fault : (bytes : List ℕ) (fault : DatFault) → IsFaultOf bytes fault → IsTextFault bytes fault ⊎ IsRefused bytes fault
kinds_of_fault bytes (Syntax n) h = inl h
kinds_of_fault bytes (MissingKey k) h = inl h
kinds_of_fault bytes (DoubleKey k) h = inl h
kinds_of_fault bytes (CountDiffers k stated found) h = inl h
kinds_of_fault bytes (NumberTooLong n) h = inl h
kinds_of_fault bytes (Refused reason) h = inr (record { reason = reason; description = h.0; describes = h.1; first = h.2; is = refl })

no_text_fault : (bytes : List ℕ) (d : Description) (fault : DatFault) → Describes bytes d → IsTextFault bytes fault → ⊥
no_text_fault bytes d fault a (inl bad) = no_first_bad [] 1 (lines_of bytes) a.said fault a.lines bad
no_text_fault bytes d fault a (inr bad) =
    let same = one_said [] (lines_of bytes) a.said bad.0 a.lines bad.1 in
    no_incomplete bad.0 d fault (subst (λ (said : LatestFirst). IsComplete said d) same a.complete) bad.2

one_text_fault : (bytes : List ℕ) (f g : DatFault) → IsTextFault bytes f → IsTextFault bytes g → f ≡ g
one_text_fault bytes f g (inl a) (inl b) = one_first_bad [] 1 (lines_of bytes) f g a b
one_text_fault bytes f g (inl a) (inr b) = absurd (no_first_bad [] 1 (lines_of bytes) b.0 f b.1 a)
one_text_fault bytes f g (inr a) (inl b) = absurd (no_first_bad [] 1 (lines_of bytes) a.0 g a.1 b)
one_text_fault bytes f g (inr a) (inr b) =
    one_incomplete b.0 f g (subst (λ (said : LatestFirst). IsIncomplete said f) (one_said [] (lines_of bytes) a.0 b.0 a.1 b.1) a.2) b.2

pub text_or_fault : ValidWhereNoFault → (bytes : List ℕ) (p : Problem) (fault : DatFault) → IsTextOf bytes p → IsFaultOf bytes fault → ⊥
text_or_fault law bytes p fault a bad = elim (kinds_of_fault bytes fault bad) [
  | inl other ↦ no_text_fault bytes a.description fault a.describes other
  | inr refused ↦
      let same = one_described bytes a.description refused.description a.describes refused.describes in
      let valid : IsValid (problem_of refused.description) = subst (λ (q : Problem). IsValid q) (a.is ∙ ap problem_of same) a.valid in
      let d = refused.description in
      (law d.vertices d.depot d.capacity d.required d.others).0 valid refused.reason refused.first.applies
]

-- the fault of an instance, by its rank and what it names
abbrev fault_at : ℕ → ℕ → InstanceFault
fault_at rank n =
    cond (eqb rank 1) (instance.TooManyVertices n)
    (cond (eqb rank 2) (instance.TooManyEdges n)
    (cond (eqb rank 3) (instance.TooManyRequired n)
    (cond (eqb rank 4) (instance.EndOutOfRange n)
    (cond (eqb rank 5) (instance.Loop n)
    (cond (eqb rank 6) (instance.CostTooLarge n)
    (cond (eqb rank 7) (instance.CapacityOutOfRange n)
    (cond (eqb rank 8) (instance.ZeroDemand n)
    (cond (eqb rank 9) (instance.Overweight n)
    (cond (eqb rank 10) (instance.DepotOutOfRange n)
    (cond (eqb rank 11) (instance.TooManyStates n)
    (cond (eqb rank 12) (instance.Unreachable n) (instance.ServiceTooLarge n))))))))))))

at_its_rank : (f : InstanceFault) → fault_at (fault_rank f) (fault_number f) ≡ f
at_its_rank (instance.TooManyVertices n) = refl
at_its_rank (instance.TooManyEdges n) = refl
at_its_rank (instance.TooManyRequired n) = refl
at_its_rank (instance.EndOutOfRange e) = refl
at_its_rank (instance.Loop e) = refl
at_its_rank (instance.CostTooLarge e) = refl
at_its_rank (instance.CapacityOutOfRange n) = refl
at_its_rank (instance.ZeroDemand e) = refl
at_its_rank (instance.Overweight e) = refl
at_its_rank (instance.DepotOutOfRange n) = refl
at_its_rank (instance.TooManyStates n) = refl
at_its_rank (instance.Unreachable e) = refl
at_its_rank (instance.ServiceTooLarge e) = refl

both_before : (r s n m : ℕ) → (r < s) ⊎ ((r ≡ s) × (n ≤ m)) → (s < r) ⊎ ((s ≡ r) × (m ≤ n)) → (r ≡ s) × (n ≡ m)
both_before r s n m (inl a) (inl b) = absurd (omega arith)
both_before r s n m (inl a) (inr b) = absurd (omega arith)
both_before r s n m (inr a) (inl b) = absurd (omega arith)
both_before r s n m (inr a) (inr b) = (a.0, omega arith)

one_reason : (p : Problem) (f g : InstanceFault) → IsFirstFault p f → IsFirstFault p g → f ≡ g
one_reason p f g a b =
    let same = both_before (fault_rank f) (fault_rank g) (fault_number f) (fault_number g) (a.first g b.applies) (b.first f a.applies) in
    sym (at_its_rank f) ∙ ap (λ (r : ℕ). fault_at r (fault_number f)) same.0 ∙ ap (fault_at (fault_rank g)) same.1 ∙ at_its_rank g

one_refusal : (bytes : List ℕ) (f g : DatFault) → IsRefused bytes f → IsRefused bytes g → f ≡ g
one_refusal bytes f g a b =
    let same = one_described bytes a.description b.description a.describes b.describes in
    let reason = one_reason (problem_of b.description) a.reason b.reason (subst (λ (d : Description). IsFirstFault (problem_of d) a.reason) same a.first) b.first in
    a.is ∙ ap Refused reason ∙ sym b.is

one_of_kinds : (bytes : List ℕ) (f g : DatFault) → IsTextFault bytes f ⊎ IsRefused bytes f → IsTextFault bytes g ⊎ IsRefused bytes g → f ≡ g
one_of_kinds bytes f g (inl a) (inl b) = one_text_fault bytes f g a b
one_of_kinds bytes f g (inl a) (inr b) = absurd (no_text_fault bytes b.description f b.describes a)
one_of_kinds bytes f g (inr a) (inl b) = absurd (no_text_fault bytes a.description g a.describes b)
one_of_kinds bytes f g (inr a) (inr b) = one_refusal bytes f g a b

pub one_fault : (bytes : List ℕ) (f g : DatFault) → IsFaultOf bytes f → IsFaultOf bytes g → f ≡ g
one_fault bytes f g a b = one_of_kinds bytes f g (kinds_of_fault bytes f a) (kinds_of_fault bytes g b)
