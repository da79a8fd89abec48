-- The least number of entries, and the first place where it stands.
use Rattle.std.proofs.Common.{◌≡◌, ℕ, suc, ◌+◌, ◌-◌, ◌≤◌, ◌<◌, min, Bool, true, false, List, [], ◌∷◌, ◌++◌, length, take, get_or, position, set, drop, Option, Some, None, IfSome, IfNone, refl, ap, ◌≢◌, subst, sym, ◌∙◌, arith, inl, inr, length-append}
use Rattle.std.specs.List.{All, position_or_len}
use Rattle.std.proofs.lemmas.Bool.{cases_lt, eqb-true, eq-eqb, ne_eqb, false≢true, lt-ltb, le-ltb}
use Rattle.std.proofs.lemmas.List.{take_more, length-take-le, get_or-take, get_or_append_left, get_or-append_right, get_or-append-add, set_split}
use Rattle.std.proofs.lemmas.List.Sums.{fails_before_first, position_or_len_is}
use Rattle.std.proofs.lemmas.List.Elements.{All-append, All-from_recursion, All-weaker, recursion_from_All}
use Rattle.std.proofs.lemmas.List.Quantifiers.{position-Some}
use Rattle.branch_rules.specs.declared.node.Node.TheVariants as nodes
use Rattle.grown_trees.specs.Blocks.{IsLeast, joined}
use Rattle.grown_trees.specs.Growth.{IsLeastOpen, shows_just}
use Rattle.grown_trees.specs.declared.growing.GrowingNode.{GrowingNode}
use Rattle.grown_trees.proofs.Eaches.{part_all}
use Rattle.grown_trees.proofs.Joining.{joined_more, joined_whole}

-- one entry more
one_more : (cost least : ℕ) (entries : List GrowingNode) (e : GrowingNode) → IsLeast cost entries least → IsLeast cost (entries ++ e ∷ []) (min least e.shows)
one_more cost least entries e is = record {
  at_most = omega (arith, is.at_most);
  each = All-append (λ (entry : GrowingNode). min least e.shows ≤ entry.shows) entries (e ∷ [])
      (All-weaker (λ (entry : GrowingNode). least ≤ entry.shows) (λ (entry : GrowingNode). min least e.shows ≤ entry.shows) (λ entry more. omega (arith, more)) entries is.each)
      (All-from_recursion (λ (entry : GrowingNode). min least e.shows ≤ entry.shows) (e ∷ []) (omega arith, tt));
  greatest = λ bound few all.
      let P = λ (entry : GrowingNode). bound ≤ entry.shows in
      let parts = part_all P entries (e ∷ []) (recursion_from_All P (entries ++ e ∷ []) all) in
      omega (arith, is.greatest bound few (All-from_recursion P entries parts.0), parts.1.0);
}

pub least_more : (cost least : ℕ) (entries : List GrowingNode) (i : ℕ) (e : GrowingNode) → i < length entries → IsLeast cost (take i entries) least →
    IsLeast cost (take (i + 1) entries) (min least (get_or entries i e).shows)
least_more cost least entries i e less is =
    subst (λ (es : List GrowingNode). IsLeast cost es (min least (get_or entries i e).shows)) (sym (take_more entries i e less)) (one_more cost least (take i entries) (get_or entries i e) is)

abbrev pub none : GrowingNode
none = record { node = nodes.Void; shows = 0 }

-- a place where the least number stands, and before which there is none
module _ (least : ℕ) (entries : List GrowingNode) (place : ℕ) (found : position (shows_just least) entries ≡ Some place) where
  is_here : (e : GrowingNode) → (get_or entries place e).shows ≡ least
  is_here e = eqb-true (get_or entries place e).shows least (position-Some (shows_just least) entries place e found).1

  other_before : (k : ℕ) (e : GrowingNode) → k < place → least ≤ (get_or entries k e).shows → least < (get_or entries k e).shows
  other_before k e before more = elim (cases_lt least (get_or entries k e).shows) [
    | inl less ↦ less
    | inr most ↦
        let no : shows_just least (get_or entries k e) ≡ false = (position-Some (shows_just least) entries place e found).2 k before in
        let yes : shows_just least (get_or entries k e) ≡ true = eq-eqb (get_or entries k e).shows least (omega (arith, more, most)) in
        absurd (false≢true (sym no ∙ yes))
  ]

-- the first place of the least number, which is below the cost
pub first_least : (cost least : ℕ) (entries : List GrowingNode) (place : ℕ) → IsLeast cost entries least → least < cost → position (shows_just least) entries ≡ Some place → IsLeastOpen cost entries place
first_least cost least entries place is below found =
    let inside : place < length entries = (position-Some (shows_just least) entries place none found).0 in
    record {
      inside = inside;
      not_shown = λ other. omega (arith, is_here least entries place found other, below);
      least = λ other k d less. omega (arith, is_here least entries place found other, is.each k d less);
      first = λ other k d less.
          let before : k < place = omega (arith, less, length-take-le place entries (omega (arith, inside))) in
          let same : get_or (take place entries) k d ≡ get_or entries k d = get_or-take place entries k d before in
          subst (λ (e : GrowingNode). (get_or entries place other).shows < e.shows) (sym same)
          (omega (arith, is_here least entries place found other, other_before least entries place found k d before (is.each k d (omega (arith, before, inside)))));
    }

-- where no entry has the least number, it is the cost
module _ (cost least : ℕ) (entries : List GrowingNode) (is : IsLeast cost entries least) (found : position (shows_just least) entries ≡ None) where
  past : length entries ≤ position_or_len (shows_just least) entries
  past = elim (cases_lt (position_or_len (shows_just least) entries) (length entries)) [
    | inl less ↦
        let some : position (shows_just least) entries ≡ Some (position_or_len (shows_just least) entries) = rw (lt-ltb _ _ less) refl in
        absurd (cc)
    | inr long ↦ long
  ]

  each_above : All (λ (entry : GrowingNode). least + 1 ≤ entry.shows) entries
  each_above = λ k d less.
      let no : shows_just least (get_or entries k d) ≡ false = fails_before_first (shows_just least) entries k d (omega (arith, less, past)) in
      elim (cases_lt least (get_or entries k d).shows) [
        | inl more ↦ omega (arith, more)
        | inr most ↦
            let yes : shows_just least (get_or entries k d) ≡ true = eq-eqb (get_or entries k d).shows least (omega (arith, is.each k d less, most)) in
            absurd (false≢true (sym no ∙ yes))
      ]

  pub none_least : All (λ (entry : GrowingNode). cost ≤ entry.shows) entries
  none_least = elim (cases_lt least cost) [
    | inl below ↦ absurd (omega (arith, is.greatest (least + 1) (omega (arith, below)) each_above))
    | inr most ↦ λ k d less. omega (arith, is.each k d less, most)
  ]

module _ (cost least : ℕ) (entries : List GrowingNode) (is : IsLeast cost entries least) where
  pub open_some : (r : Option ℕ) → r ≡ position (shows_just least) entries → least ≢ cost → IfSome r (λ place. IsLeastOpen cost entries place)
  open_some None found other = tt
  open_some (Some place) found other = first_least cost least entries place is (omega (arith, is.at_most, other)) (sym found)

  pub open_none : (r : Option ℕ) → r ≡ position (shows_just least) entries → IfNone r (All (λ (entry : GrowingNode). cost ≤ entry.shows) entries)
  open_none None found = none_least cost least entries is (sym found)
  open_none (Some place) found = tt

-- an entry in place of another one
pub replaced : (entries : List GrowingNode) (place : ℕ) (entry : GrowingNode) → place < length entries → set entries place entry ≡ take place entries ++ (entry ∷ drop (place + 1) entries)
replaced entries place entry less =
    let next : suc place ≡ place + 1 = omega arith in set_split entries place entry less ∙ ap (λ n. take place entries ++ (entry ∷ drop n entries)) next

-- the least number of two lists
pub least_joined : (cost most least other : ℕ) (xs ys : List GrowingNode) → cost ≤ most → IsLeast cost xs least → IsLeast most ys other → IsLeast cost (xs ++ ys) (min least other)
least_joined cost most least other xs ys enough is also = record {
  at_most = omega (arith, is.at_most);
  each = All-append (λ (entry : GrowingNode). min least other ≤ entry.shows) xs ys
      (All-weaker (λ (entry : GrowingNode). least ≤ entry.shows) (λ (entry : GrowingNode). min least other ≤ entry.shows) (λ entry more. omega (arith, more)) xs is.each)
      (All-weaker (λ (entry : GrowingNode). other ≤ entry.shows) (λ (entry : GrowingNode). min least other ≤ entry.shows) (λ entry more. omega (arith, more)) ys also.each);
  greatest = λ bound few all.
      let P = λ (entry : GrowingNode). bound ≤ entry.shows in
      let parts = part_all P xs ys (recursion_from_All P (xs ++ ys) all) in
      omega (arith, is.greatest bound few (All-from_recursion P xs parts.0), also.greatest bound (omega (arith, few, enough)) (All-from_recursion P ys parts.1));
}

-- The first place of a number in two lists, one behind the other.

module _ (p : GrowingNode → Bool) where
  abbrev pub Fails : List GrowingNode → ℕ → Type 0
  Fails xs n = (k : ℕ) → k < n → p (get_or xs k none) ≡ false

  none_past : (xs : List GrowingNode) → position p xs ≡ None → length xs ≤ position_or_len p xs
  none_past xs found = elim (cases_lt (position_or_len p xs) (length xs)) [
    | inl less ↦
        let some : position p xs ≡ Some (position_or_len p xs) = rw (lt-ltb _ _ less) refl in
        absurd (cc)
    | inr long ↦ long
  ]

  none_fails : (xs : List GrowingNode) → position p xs ≡ None → Fails xs (length xs)
  none_fails xs found k less = fails_before_first p xs k none (omega (arith, less, none_past xs found))

  pub fails_none : (xs : List GrowingNode) → Fails xs (length xs) → position p xs ≡ None
  fails_none xs fails =
      let is : position_or_len p xs ≡ length xs = position_or_len_is p xs (length xs) none (omega arith) fails (λ less. absurd (omega (arith, less))) in
      rw (le-ltb (position_or_len p xs) (length xs) (omega (arith, is))) refl

  some_is : (xs : List GrowingNode) (i : ℕ) → i < length xs → Fails xs i → p (get_or xs i none) ≡ true → position p xs ≡ Some i
  some_is xs i less fails here =
      let is : position_or_len p xs ≡ i = position_or_len_is p xs i none (omega (arith, less)) fails (λ more. here) in
      rw (is, lt-ltb i (length xs) less) refl

  fails_both : (xs ys : List GrowingNode) (n : ℕ) → Fails xs (length xs) → Fails ys n → Fails (xs ++ ys) (length xs + n)
  fails_both xs ys n first second k less = elim (cases_lt k (length xs)) [
    | inl before ↦ ap p (get_or_append_left xs ys none k before) ∙ first k before
    | inr behind ↦ ap p (get_or-append_right xs ys (length xs) k none refl behind) ∙ second (k - length xs) (omega (arith, less, behind))
  ]

  pub position_none : (xs ys : List GrowingNode) → position p xs ≡ None → position p ys ≡ None → position p (xs ++ ys) ≡ None
  position_none xs ys first second =
      fails_none (xs ++ ys) (subst (λ (n : ℕ). Fails (xs ++ ys) n) (sym (length-append xs ys)) (fails_both xs ys (length ys) (none_fails xs first) (none_fails ys second)))

  pub position_first : (xs ys : List GrowingNode) (i : ℕ) → position p xs ≡ Some i → position p (xs ++ ys) ≡ Some i
  position_first xs ys i found =
      let is = position-Some p xs i none found in
      some_is (xs ++ ys) i (omega (arith, is.0, length-append xs ys)) (λ k less. ap p (get_or_append_left xs ys none k (omega (arith, less, is.0))) ∙ is.2 k less)
      (ap p (get_or_append_left xs ys none i is.0) ∙ is.1)

  pub position_second : (xs ys : List GrowingNode) (i : ℕ) → position p xs ≡ None → position p ys ≡ Some i → position p (xs ++ ys) ≡ Some (length xs + i)
  position_second xs ys i first found =
      let is = position-Some p ys i none found in
      some_is (xs ++ ys) (length xs + i) (omega (arith, is.0, length-append xs ys)) (fails_both xs ys i (none_fails xs first) is.2)
      (ap p (get_or-append-add xs ys i none) ∙ is.1)

  -- in a block behind those that have none
  pub position_joined : (blocks : List (List GrowingNode)) (i : ℕ) (x : List GrowingNode) (place : ℕ) → i < length blocks → x ≡ get_or blocks i x → position p (joined (take i blocks)) ≡ None → position p x ≡ Some place →
      position p (joined blocks) ≡ Some (length (joined (take i blocks)) + place)
  position_joined blocks i x place less is first found =
      let rest = joined (drop (i + 1) blocks) in
      ap (position p) (joined_whole blocks i x less)
      ∙ position_second (joined (take i blocks)) (get_or blocks i x ++ rest) place first (position_first (get_or blocks i x) rest place (ap (position p) (sym is) ∙ found))

  pub position_more : (blocks : List (List GrowingNode)) (i : ℕ) (x : List GrowingNode) → i < length blocks → x ≡ get_or blocks i x → position p (joined (take i blocks)) ≡ None → position p x ≡ None →
      position p (joined (take (i + 1) blocks)) ≡ None
  position_more blocks i x less is first second =
      ap (position p) (joined_more blocks i x less) ∙ position_none (joined (take i blocks)) (get_or blocks i x) first (ap (position p) (sym is) ∙ second)

-- where the least number is greater, no entry has this one
pub none_below : (shows most least : ℕ) (entries : List GrowingNode) → IsLeast most entries least → shows < least → position (shows_just shows) entries ≡ None
none_below shows most least entries is less =
    fails_none (shows_just shows) entries (λ k inside.
    let more : shows < (get_or entries k none).shows = omega (arith, less, is.each k none inside) in
    ne_eqb (get_or entries k none).shows shows (λ same. absurd (omega (arith, more, same))))
