-- From a node to the next one, and what is known of all nodes then.
use Rattle.std.proofs.Common.{◌≡◌, ℕ, ◌+◌, ◌<◌, true, false, List, [], ◌∷◌, ◌++◌, length, get_or, drop, refl, sym, ap, ◌∙◌, subst, arith, append_assoc, append-nil, length-append, Option, Some, None, Result, Ok, Err, IfOk, inl, inr}
use Rattle.std.specs.Option.{is_some}
use Rattle.std.specs.List.{All}
use Rattle.std.proofs.lemmas.List.{drop_more, get_or_append_left}
use Rattle.std.proofs.Math.Seq.{get_or-append_seam}
use Rattle.std.proofs.lemmas.List.Elements.{All-push}
use Rattle.carp_base.specs.Problem.{Problem}
use Rattle.packing_trees.specs.declared.node.PackChoice.{PackChoice}
use Rattle.packing_trees.specs.declared.node.PackChoice.TheVariants.{Together, Apart}
use Rattle.packing_trees.specs.declared.node.PackNode.{PackNode}
use Rattle.packing_trees.specs.declared.reason.PackReason.{PackReason}
use Rattle.packing_trees.specs.Bundles.{IsChoice, IsPair}
use Rattle.packing_trees.specs.Reasons.{FirstNodeFails, NodeIsRight, branches_below}
use Rattle.packing_trees.specs.Layers.{AreRight, NodeSays, NodesSay, seconds_from, seconds_of}

pub if_ok_more : {T E : Type 0} {P Q : T → Type 0} (r : Result T E) → ((x : T) → P x → Q x) → IfOk r P → IfOk r Q
if_ok_more (Ok x) more holds = more x holds
if_ok_more (Err e) more holds = tt

-- The branches that wait.
seconds_together : (rest before : List PackChoice) (a b : ℕ) → seconds_from before (rest ++ Together a b ∷ []) ≡ ((before ++ rest) ++ Apart a b ∷ []) ∷ seconds_from before rest
seconds_together [] before a b = ap (λ (xs : List PackChoice). (xs ++ Apart a b ∷ []) ∷ []) (sym (append-nil before))
seconds_together (Together c d ∷ rest) before a b =
    ap (λ (ss : List (List PackChoice)). ss ++ ((before ++ Apart c d ∷ []) ∷ [])) (seconds_together rest (before ++ Together c d ∷ []) a b)
    ∙ ap (λ (xs : List PackChoice). (xs ++ Apart a b ∷ []) ∷ (seconds_from (before ++ Together c d ∷ []) rest ++ ((before ++ Apart c d ∷ []) ∷ []))) (append_assoc before (Together c d ∷ []) rest)
seconds_together (Apart c d ∷ rest) before a b =
    seconds_together rest (before ++ Apart c d ∷ []) a b
    ∙ ap (λ (xs : List PackChoice). (xs ++ Apart a b ∷ []) ∷ seconds_from (before ++ Apart c d ∷ []) rest) (append_assoc before (Apart c d ∷ []) rest)

seconds_apart : (rest before : List PackChoice) (a b : ℕ) → seconds_from before (rest ++ Apart a b ∷ []) ≡ seconds_from before rest
seconds_apart [] before a b = refl
seconds_apart (Together c d ∷ rest) before a b = ap (λ (ss : List (List PackChoice)). ss ++ ((before ++ Apart c d ∷ []) ∷ [])) (seconds_apart rest (before ++ Together c d ∷ []) a b)
seconds_apart (Apart c d ∷ rest) before a b = seconds_apart rest (before ++ Apart c d ∷ []) a b

pub entered : (old new : List PackChoice) (a b : ℕ) → new ≡ old ++ Together a b ∷ [] →
    ◌≡◌ {A = List (List PackChoice)} ((old ++ Together a b ∷ []) ∷ ((old ++ Apart a b ∷ []) ∷ seconds_of old)) (new ∷ seconds_of new)
entered old new a b is =
    let Q : List PackChoice → Type 0 = λ xs. ◌≡◌ {A = List (List PackChoice)} ((old ++ Together a b ∷ []) ∷ ((old ++ Apart a b ∷ []) ∷ seconds_of old)) (xs ∷ seconds_of xs) in
    subst Q (sym is) (ap (λ (ss : List (List PackChoice)). (old ++ Together a b ∷ []) ∷ ss) (sym (seconds_together old [] a b)))

pub left : (start before popped now : List PackChoice) (x : PackChoice) (a b : ℕ) → seconds_of start ≡ seconds_of before → before ≡ popped ++ x ∷ [] → x ≡ Together a b → now ≡ popped ++ Apart a b ∷ [] →
    seconds_of start ≡ now ∷ seconds_of now
left start before popped now x a b same was is then =
    let Q : List PackChoice → Type 0 = λ xs. ◌≡◌ {A = List (List PackChoice)} ((popped ++ Apart a b ∷ []) ∷ seconds_of popped) (xs ∷ seconds_of xs) in
    same ∙ ap seconds_of (was ∙ ap (λ (y : PackChoice). popped ++ y ∷ []) is) ∙ seconds_together popped [] a b
    ∙ subst Q (sym then) (ap (λ (ss : List (List PackChoice)). (popped ++ Apart a b ∷ []) ∷ ss) (sym (seconds_apart popped [] a b)))

pub kept : (start before popped : List PackChoice) (x : PackChoice) (a b : ℕ) → seconds_of start ≡ seconds_of before → before ≡ popped ++ x ∷ [] → x ≡ Apart a b → seconds_of start ≡ seconds_of popped
kept start before popped x a b same was is = same ∙ ap seconds_of (was ∙ ap (λ (y : PackChoice). popped ++ y ∷ []) is) ∙ seconds_apart popped [] a b

-- The choices are on pairs of required edges.
module _ (p : Problem) (before popped : List PackChoice) (x : PackChoice) (was : before ≡ popped ++ x ∷ []) (fits : All (IsChoice p) before) where
  fits' : All (IsChoice p) (popped ++ x ∷ [])
  fits' = let P : List PackChoice → Type 0 = All (IsChoice p) in subst P was fits

  pub popped_fits : All (IsChoice p) popped
  popped_fits k d less =
      let P : PackChoice → Type 0 = IsChoice p in
      subst P (get_or_append_left popped (x ∷ []) d k less) (fits' k d (simp length-append (omega (arith, less))))

  last_fits : IsChoice p x
  last_fits =
      let P : PackChoice → Type 0 = IsChoice p in
      subst P (get_or-append_seam popped x [] x) (fits' (length popped) x (simp length-append (omega arith)))

  pub turned_fits : (a b : ℕ) (now : List PackChoice) → x ≡ Together a b → now ≡ popped ++ Apart a b ∷ [] → All (IsChoice p) now
  turned_fits a b now is then =
      let P : PackChoice → Type 0 = IsChoice p in
      let pair : IsPair p a b = subst P is last_fits in
      let Q : List PackChoice → Type 0 = All (IsChoice p) in
      subst Q (sym then) (All-push (IsChoice p) popped (Apart a b) popped_fits pair)

-- One node more.
pub none_wait : (p : Problem) (bound : ℕ) (nodes : List PackNode) → AreRight p bound nodes []
none_wait p bound [] = tt
none_wait p bound (node ∷ nodes) = tt

module _ (p : Problem) (bound : ℕ) (nodes : List PackNode) (i : ℕ) (branch : List PackChoice) (d : PackNode) (less : i < length nodes) where
  pub here_fails : (reason : Option PackReason) → true ≡ is_some reason → NodeSays p bound (i + 1) branch (get_or nodes i d) reason →
      ((r : PackReason) → FirstNodeFails p bound (i + 1) (drop i nodes) (branch ∷ seconds_of branch) r → FirstNodeFails p bound 1 nodes ([] ∷ []) r) → NodesSay p bound nodes reason
  here_fails None some says before = cc
  here_fails (Some r) some says before =
      let P : List PackNode → Type 0 = λ xs. FirstNodeFails p bound (i + 1) xs (branch ∷ seconds_of branch) r in
      before r (subst P (sym (drop_more nodes i d less)) (inl says))

  pub here_right : (reason : Option PackReason) → false ≡ is_some reason → NodeSays p bound (i + 1) branch (get_or nodes i d) reason → NodeIsRight p bound branch (get_or nodes i d)
  here_right None none says = says
  here_right (Some r) none says = cc

  module _ (right : NodeIsRight p bound branch (get_or nodes i d)) (waiting : List (List PackChoice)) (goes : branches_below branch (get_or nodes i d) ++ seconds_of branch ≡ waiting) where
    pub fails_on : ((r : PackReason) → FirstNodeFails p bound (i + 1) (drop i nodes) (branch ∷ seconds_of branch) r → FirstNodeFails p bound 1 nodes ([] ∷ []) r) →
        (r : PackReason) → FirstNodeFails p bound (i + 1 + 1) (drop (i + 1) nodes) waiting r → FirstNodeFails p bound 1 nodes ([] ∷ []) r
    fails_on before r fails =
        let P : List PackNode → Type 0 = λ xs. FirstNodeFails p bound (i + 1) xs (branch ∷ seconds_of branch) r in
        before r (subst P (sym (drop_more nodes i d less)) (inr (right, subst (λ (ws : List (List PackChoice)). FirstNodeFails p bound (i + 1 + 1) (drop (i + 1) nodes) ws r) (sym goes) fails)))

    pub right_on : (AreRight p bound (drop i nodes) (branch ∷ seconds_of branch) → AreRight p bound nodes ([] ∷ [])) → AreRight p bound (drop (i + 1) nodes) waiting → AreRight p bound nodes ([] ∷ [])
    right_on before rest =
        let P : List PackNode → Type 0 = λ xs. AreRight p bound xs (branch ∷ seconds_of branch) in
        before (subst P (sym (drop_more nodes i d less)) (right, subst (λ (ws : List (List PackChoice)). AreRight p bound (drop (i + 1) nodes) ws) (sym goes) rest))
