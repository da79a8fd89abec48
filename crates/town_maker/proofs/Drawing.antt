-- What is drawn for one street more.
use Rattle.std.proofs.Common.{◌≡◌, ℕ, ◌+◌, ◌<◌, Bool, true, false, List, [], ◌∷◌, ◌++◌, take, length, filter, cond, append_assoc, refl, sym, ap, ◌∙◌, subst, slice_index_or}
use Rattle.std.proofs.lemmas.List.{take_more}
use Rattle.carp_base.specs.declared.edge.RawEdge.{RawEdge}
use Rattle.rand_pcg.specs.Lcg.{Lcg}
use Rattle.town_maker.specs.declared.grid.Street.{Street}
use Rattle.town_maker.specs.Draws.{drawn_edge, drawn_edges}
use Rattle.town_maker.specs.Towns.{has_demand, has_none}

-- what is drawn for these streets is on the two lists, and this is the generator after it
pub record HasDrawn (start : Lcg) (streets : List Street) (was_required was_others is_required is_others : List RawEdge) (now : Lcg) : Type 0 where
  pub required : is_required ≡ was_required ++ filter has_demand (drawn_edges streets start).0
  pub others : is_others ≡ was_others ++ filter has_none (drawn_edges streets start).0
  pub words : now ≡ (drawn_edges streets start).1

words_more : (ss : List Street) (s : Street) (g : Lcg) → (drawn_edges (ss ++ s ∷ []) g).1 ≡ (drawn_edge s (drawn_edges ss g).1).1
words_more [] s g = refl
words_more (x ∷ ss) s g = words_more ss s (drawn_edge x g).1

edges_more : (ss : List Street) (s : Street) (g : Lcg) → (drawn_edges (ss ++ s ∷ []) g).0 ≡ (drawn_edges ss g).0 ++ (drawn_edge s (drawn_edges ss g).1).0 ∷ []
edges_more [] s g = refl
edges_more (x ∷ ss) s g = ap (λ xs. (drawn_edge x g).0 ∷ xs) (edges_more ss s (drawn_edge x g).1)

cond_append : {X : Type 0} (b : Bool) (x : X) (xs ys : List X) → cond b (x ∷ xs) xs ++ ys ≡ cond b (x ∷ (xs ++ ys)) (xs ++ ys)
cond_append true x xs ys = refl
cond_append false x xs ys = refl

filter_append : {X : Type 0} (test : X → Bool) (xs ys : List X) → filter test (xs ++ ys) ≡ filter test xs ++ filter test ys
filter_append test [] ys = refl
filter_append test (x ∷ xs) ys = ap (λ zs. cond (test x) (x ∷ zs) zs) (filter_append test xs ys) ∙ sym (cond_append (test x) x (filter test xs) (filter test ys))

list_more : (test : RawEdge → Bool) (ss : List Street) (s : Street) (g now : Lcg) (before list next : List RawEdge) (x : RawEdge) →
    list ≡ before ++ filter test (drawn_edges ss g).0 → next ≡ list ++ filter test (x ∷ []) → now ≡ (drawn_edges ss g).1 → x ≡ (drawn_edge s now).0 →
    next ≡ before ++ filter test (drawn_edges (ss ++ s ∷ []) g).0
list_more test ss s g now before list next x so added moved drew =
    rw (added, so, drew, moved, edges_more ss s g, filter_append test (drawn_edges ss g).0 ((drawn_edge s (drawn_edges ss g).1).0 ∷ []))
    (append_assoc before (filter test (drawn_edges ss g).0) (filter test ((drawn_edge s (drawn_edges ss g).1).0 ∷ [])))

-- one street more
drawn_more : (start now after : Lcg) (ss : List Street) (s : Street) (required others was_required was_others is_required is_others : List RawEdge) (x : RawEdge) →
    HasDrawn start ss required others was_required was_others now → (x, after) ≡ drawn_edge s now → is_required ≡ was_required ++ filter has_demand (x ∷ []) →
    is_others ≡ was_others ++ filter has_none (x ∷ []) → HasDrawn start (ss ++ s ∷ []) required others is_required is_others after
drawn_more start now after ss s required others was_required was_others is_required is_others x so drew more_required more_others = record {
  required = list_more has_demand ss s start now required was_required is_required x so.required more_required so.words (ap (λ t. t.0) drew);
  others = list_more has_none ss s start now others was_others is_others x so.others more_others so.words (ap (λ t. t.0) drew);
  words = ap (λ t. t.1) drew ∙ (ap (λ g. (drawn_edge s g).1) so.words ∙ sym (words_more ss s start));
}

pub drawn_next : (start now after : Lcg) (ss : List Street) (i : ℕ) (s : Street) (required others was_required was_others is_required is_others : List RawEdge) (x : RawEdge) →
    i < length ss → slice_index_or ss i s ≡ s → HasDrawn start (take i ss) required others was_required was_others now → (x, after) ≡ drawn_edge s now →
    is_required ≡ was_required ++ filter has_demand (x ∷ []) → is_others ≡ was_others ++ filter has_none (x ∷ []) →
    HasDrawn start (take (i + 1) ss) required others is_required is_others after
drawn_next start now after ss i s required others was_required was_others is_required is_others x below at so drew more_required more_others =
    let e : take (i + 1) ss ≡ take i ss ++ s ∷ [] = take_more ss i s below ∙ ap (λ z. take i ss ++ z ∷ []) at in
    subst (λ part. HasDrawn start part required others is_required is_others after) (sym e)
    (drawn_more start now after (take i ss) s required others was_required was_others is_required is_others x so drew more_required more_others)
