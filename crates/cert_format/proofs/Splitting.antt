-- Bytes that are cut at each byte of a kind, and more bytes behind them.
use Rattle.std.proofs.Common.{◌≡◌, ℕ, Bool, true, false, List, [], ◌∷◌, ◌++◌, refl, sym, ap, subst, ◌∙◌, append_assoc, inl, inr}
use Rattle.std.specs.List.{All, slice_split, onto_first}
use Rattle.std.proofs.lemmas.Bool.{cases_Bool}
use Rattle.std.proofs.lemmas.List.{append-nil}
use Rattle.std.proofs.lemmas.List.Splits.{slice_split_none, slice_split-cons_yes, slice_split-cons_no}

-- parts, of which the last goes on with the first of others
abbrev pub join : List (List ℕ) → List (List ℕ) → List (List ℕ)
join [] qs = qs
join (p ∷ []) [] = p ∷ []
join (p ∷ []) (q ∷ qs) = (p ++ q) ∷ qs
join (p ∷ r ∷ ps) qs = p ∷ join (r ∷ ps) qs

pub record IsSome (list : List (List ℕ)) : Type 0 where
  pub first : List ℕ
  pub more : List (List ℕ)
  pub parts : list ≡ first ∷ more

onto_some : (x : ℕ) (ps : List (List ℕ)) → IsSome ps → IsSome (onto_first x ps)
onto_some x [] some = (let both : [] ≡ some.first ∷ some.more = some.parts in cc)
onto_some x (p ∷ ps) some = record { first = x ∷ p; more = ps; parts = refl }

pub split_some : (test : ℕ → Bool) (xs : List ℕ) → IsSome (slice_split test xs)
split_some test [] = record { first = []; more = []; parts = refl }
split_some test (x ∷ xs) = elim (cases_Bool (test x)) [
  | inl cut ↦ subst IsSome (sym (slice_split-cons_yes test x xs cut)) (record { first = []; more = slice_split test xs; parts = refl })
  | inr on ↦ subst IsSome (sym (slice_split-cons_no test x xs on)) (onto_some x (slice_split test xs) (split_some test xs))
]

join_none : (qs : List (List ℕ)) → IsSome qs → qs ≡ join ([] ∷ []) qs
join_none [] some = (let both : [] ≡ some.first ∷ some.more = some.parts in cc)
join_none (q ∷ qs) some = refl

join_cut : (ps qs : List (List ℕ)) → IsSome ps → [] ∷ join ps qs ≡ join ([] ∷ ps) qs
join_cut [] qs some = (let both : [] ≡ some.first ∷ some.more = some.parts in cc)
join_cut (p ∷ ps) qs some = refl

join_onto : (x : ℕ) (ps qs : List (List ℕ)) → IsSome ps → IsSome qs → onto_first x (join ps qs) ≡ join (onto_first x ps) qs
join_onto x [] qs some other = (let both : [] ≡ some.first ∷ some.more = some.parts in cc)
join_onto x (p ∷ []) [] some other = (let both : [] ≡ other.first ∷ other.more = other.parts in cc)
join_onto x (p ∷ []) (q ∷ qs) some other = refl
join_onto x (p ∷ r ∷ ps) qs some other = refl

pub split_append : (test : ℕ → Bool) (xs ys : List ℕ) → slice_split test (xs ++ ys) ≡ join (slice_split test xs) (slice_split test ys)
split_append test [] ys = join_none (slice_split test ys) (split_some test ys)
split_append test (x ∷ xs) ys = elim (cases_Bool (test x)) [
  | inl cut ↦ slice_split-cons_yes test x (xs ++ ys) cut ∙ ap (λ (ps : List (List ℕ)). [] ∷ ps) (split_append test xs ys)
      ∙ join_cut (slice_split test xs) (slice_split test ys) (split_some test xs) ∙ ap (λ (ps : List (List ℕ)). join ps (slice_split test ys)) (sym (slice_split-cons_yes test x xs cut))
  | inr on ↦ slice_split-cons_no test x (xs ++ ys) on ∙ ap (onto_first x) (split_append test xs ys)
      ∙ join_onto x (slice_split test xs) (slice_split test ys) (split_some test xs) (split_some test ys) ∙ ap (λ (ps : List (List ℕ)). join ps (slice_split test ys)) (sym (slice_split-cons_no test x xs on))
]

pub join_some : (ps : List (List ℕ)) (q : List ℕ) (qs : List (List ℕ)) → IsSome (join ps (q ∷ qs))
join_some [] q qs = record { first = q; more = qs; parts = refl }
join_some (p ∷ []) q qs = record { first = p ++ q; more = qs; parts = refl }
join_some (p ∷ r ∷ ps) q qs = record { first = p; more = join (r ∷ ps) (q ∷ qs); parts = refl }

pub some_join : (r : List ℕ) (ps qs : List (List ℕ)) → IsSome (join (r ∷ ps) qs)
some_join r [] [] = record { first = r; more = []; parts = refl }
some_join r [] (q ∷ qs) = record { first = r ++ q; more = qs; parts = refl }
some_join r (s ∷ ps) qs = record { first = r; more = join (s ∷ ps) qs; parts = refl }

-- what goes on with the last part
pub join_last : (ws : List (List ℕ)) (w q : List ℕ) (qs : List (List ℕ)) → join (ws ++ w ∷ []) (q ∷ qs) ≡ ws ++ (w ++ q) ∷ qs
join_last [] w q qs = refl
join_last (v ∷ []) w q qs = refl
join_last (v ∷ u ∷ ws) w q qs = ap (λ (r : List (List ℕ)). v ∷ r) (join_last (u ∷ ws) w q qs)

-- words of which the last goes on
pub words_more : (test : ℕ → Bool) (xs q : List ℕ) (ws : List (List ℕ)) (w : List ℕ) → All (λ b. test b ≡ false) q → slice_split test xs ≡ ws ++ w ∷ [] → slice_split test (xs ++ q) ≡ ws ++ (w ++ q) ∷ []
words_more test xs q ws w plain is =
    split_append test xs q ∙ ap (λ (ps : List (List ℕ)). join ps (slice_split test q)) is ∙ ap (join (ws ++ w ∷ [])) (slice_split_none test q plain) ∙ join_last ws w q []

-- words of which the last is whole
pub words_next : (test : ℕ → Bool) (xs : List ℕ) (c : ℕ) (ws : List (List ℕ)) (w : List ℕ) → test c ≡ true → slice_split test xs ≡ ws ++ w ∷ [] → slice_split test (xs ++ c ∷ []) ≡ (ws ++ w ∷ []) ++ [] ∷ []
words_next test xs c ws w cut is =
    split_append test xs (c ∷ []) ∙ ap (λ (ps : List (List ℕ)). join ps (slice_split test (c ∷ []))) is ∙ ap (join (ws ++ w ∷ [])) (slice_split-cons_yes test c [] cut)
    ∙ join_last ws w [] ([] ∷ []) ∙ ap (λ (x : List ℕ). ws ++ x ∷ [] ∷ []) (append-nil w) ∙ sym (append_assoc ws (w ∷ []) ([] ∷ []))
