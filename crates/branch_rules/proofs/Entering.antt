-- How the branches that wait change where a path goes on or back by a decision.
use Rattle.std.proofs.Common.{◌≡◌, suc, ◌-◌, ◌<◌, false, List, [], ◌∷◌, ◌++◌, length, take, refl, sym, ap, ◌∙◌, arith, Option, Some, None, IfSome, IsSome, append_assoc, length-append}
use Rattle.std.specs.Option.{option_flatten, option_to_list}
use Rattle.std.proofs.lemmas.List.Elements.{All-push, All-pop, All-same}
use Rattle.decision_chains.specs.declared.decision.Decision.{Decision}
use Rattle.decision_chains.specs.Pairs.{HasPairWithin}
use Rattle.branch_rules.specs.Limits.{HasShoreOf, IsFineDecision}
use Rattle.branch_rules.specs.Trees.{Support}
use Rattle.branch_rules.specs.declared.path.Path.{Path}
use Rattle.branch_rules.specs.Paths.{IsDecisionIn, IsPath, IsPathIn, seconds_of, seconds_wait, waits}
use Rattle.branch_rules.specs.Steps.{Enters, LeavesOne}

wait_first : (taken : List Decision) (seconds : List (Option Decision)) (d e : Decision) (before : List Decision) (later : List (List Decision)) → length taken ≡ length seconds →
    seconds_wait (taken ++ d ∷ []) (seconds ++ Some e ∷ []) before later ≡ (before ++ (taken ++ e ∷ [])) ∷ seconds_wait taken seconds before later
wait_first [] [] d e before later even = refl
wait_first [] (o ∷ seconds) d e before later even = absurd (omega (arith, even))
wait_first (x ∷ taken) [] d e before later even = absurd (omega (arith, even))
wait_first (x ∷ taken) (None ∷ seconds) d e before later even =
    wait_first taken seconds d e (before ++ x ∷ []) later (omega (arith, even))
    ∙ ap (λ (front : List Decision). front ∷ seconds_wait taken seconds (before ++ x ∷ []) later) (append_assoc before (x ∷ []) (taken ++ e ∷ []))
wait_first (x ∷ taken) (Some f ∷ seconds) d e before later even =
    wait_first taken seconds d e (before ++ x ∷ []) ((before ++ f ∷ []) ∷ later) (omega (arith, even))
    ∙ ap (λ (front : List Decision). front ∷ seconds_wait taken seconds (before ++ x ∷ []) ((before ++ f ∷ []) ∷ later)) (append_assoc before (x ∷ []) (taken ++ e ∷ []))

wait_second : (taken : List Decision) (seconds : List (Option Decision)) (d : Decision) (before : List Decision) (later : List (List Decision)) → length taken ≡ length seconds →
    seconds_wait (taken ++ d ∷ []) (seconds ++ None ∷ []) before later ≡ seconds_wait taken seconds before later
wait_second [] [] d before later even = refl
wait_second [] (o ∷ seconds) d before later even = absurd (omega (arith, even))
wait_second (x ∷ taken) [] d before later even = absurd (omega (arith, even))
wait_second (x ∷ taken) (None ∷ seconds) d before later even = wait_second taken seconds d (before ++ x ∷ []) later (omega (arith, even))
wait_second (x ∷ taken) (Some f ∷ seconds) d before later even = wait_second taken seconds d (before ++ x ∷ []) ((before ++ f ∷ []) ∷ later) (omega (arith, even))

last_of : (X : Type 0) (xs : List X) → 0 < length xs → (x : X) × (xs ≡ take (length xs - 1) xs ++ x ∷ [])
last_of X [] some = absurd (omega (arith, some))
last_of X (x ∷ []) some = (x, refl)
last_of X (x ∷ (y ∷ ys)) some =
    let rest = last_of X (y ∷ ys) (omega arith) in
    let one_less : length (x ∷ (y ∷ ys)) - 1 ≡ suc (length (y ∷ ys) - 1) = omega arith in
    (rest.0, ap (λ (zs : List X). x ∷ zs) rest.1 ∙ ap (λ n. take n (x ∷ (y ∷ ys)) ++ rest.0 ∷ []) (sym one_less))

flat_list : (o : Option (Option Decision)) → IsSome o → option_to_list o ≡ option_flatten o ∷ []
flat_list (Some o) some = refl
flat_list None some = cc

pub leaves_one : (old new : Path) (popped : Option (Option Decision)) (second : Option Decision) → 0 < length old.branch → new.branch ≡ take (length old.branch - 1) old.branch →
    old.seconds.items ≡ new.seconds.items ++ option_to_list popped → IsSome popped → second ≡ option_flatten popped → new.whole ≡ old.whole → LeavesOne new old second
leaves_one old new popped second some branch seconds is flat same =
    let last = last_of Decision old.branch some in (
      last.0,
      record {
        branch = last.1 ∙ ap (λ (xs : List Decision). xs ++ last.0 ∷ []) (sym branch);
        seconds = seconds ∙ ap (λ (xs : List (Option Decision)). new.seconds.items ++ xs) (flat_list popped is ∙ ap (λ (o : Option Decision). o ∷ []) (sym flat));
        same_whole = sym same;
      },
    )

module _ (old new : Path) (decision : Decision) (second : Option Decision) (enters : Enters old new decision second) where
  even_after : length old.branch ≡ length old.seconds.items → length new.branch ≡ length new.seconds.items
  even_after even = omega (arith, even, ap length enters.branch, ap length enters.seconds, length-append old.branch (decision ∷ []), length-append old.seconds.items (second ∷ []))

  even_before : length new.branch ≡ length new.seconds.items → length old.branch ≡ length old.seconds.items
  even_before even = omega (arith, even, ap length enters.branch, ap length enters.seconds, length-append old.branch (decision ∷ []), length-append old.seconds.items (second ∷ []))

  pub path_after : IsPath old → IfSome second IsFineDecision → IsPath new
  path_after path fine = record {
    even = even_after path.even;
    fine = All-same (λ o. IfSome o IsFineDecision) _ _ enters.seconds (All-push (λ o. IfSome o IsFineDecision) old.seconds.items second path.fine fine);
  }

  pub in_after : (s : Support) → IsPathIn s old → IsDecisionIn s decision → IfSome second (IsDecisionIn s) → IsPathIn s new
  in_after s path here other = record {
    pairs = All-same (HasPairWithin s.problem.required) _ _ enters.branch (All-push (HasPairWithin s.problem.required) old.branch decision path.pairs here.pair);
    shores = All-same (HasShoreOf s.problem s.pool) _ _ enters.branch (All-push (HasShoreOf s.problem s.pool) old.branch decision path.shores here.shore);
    seconds = All-same (λ o. IfSome o (IsDecisionIn s)) _ _ enters.seconds (All-push (λ o. IfSome o (IsDecisionIn s)) old.seconds.items second path.seconds other);
  }

  pub path_before : IsPath new → IsPath old × IfSome second IsFineDecision
  path_before path =
      let kept = All-pop (λ o. IfSome o IsFineDecision) _ old.seconds.items (Some second) enters.seconds path.fine in
      (record { even = even_before path.even; fine = kept.0 }, kept.1)

  pub in_before : (s : Support) → IsPathIn s new → IsPathIn s old × IfSome second (IsDecisionIn s)
  in_before s path =
      let kept = All-pop (λ o. IfSome o (IsDecisionIn s)) _ old.seconds.items (Some second) enters.seconds path.seconds in (
        record {
          pairs = (All-pop (HasPairWithin s.problem.required) _ old.branch (Some decision) enters.branch path.pairs).0;
          shores = (All-pop (HasShoreOf s.problem s.pool) _ old.branch (Some decision) enters.branch path.shores).0;
          seconds = kept.0;
        },
        kept.1,
      )

  seconds_are : seconds_of new ≡ seconds_wait (old.branch ++ decision ∷ []) (old.seconds.items ++ second ∷ []) [] []
  seconds_are = ap (λ (xs : List Decision). seconds_wait xs new.seconds.items [] []) enters.branch ∙ ap (λ (os : List (Option Decision)). seconds_wait (old.branch ++ decision ∷ []) os [] []) enters.seconds

pub seconds_first : (old new : Path) (decision other : Decision) → Enters old new decision (Some other) → length old.branch ≡ length old.seconds.items →
    seconds_of new ≡ (old.branch ++ other ∷ []) ∷ seconds_of old
seconds_first old new decision other enters even = seconds_are old new decision (Some other) enters ∙ wait_first old.branch old.seconds.items decision other [] [] even

pub seconds_second : (old new : Path) (decision : Decision) → Enters old new decision None → length old.branch ≡ length old.seconds.items → seconds_of new ≡ seconds_of old
seconds_second old new decision enters even = seconds_are old new decision None enters ∙ wait_second old.branch old.seconds.items decision [] [] even

waits_going : (path : Path) → path.whole ≡ false → waits path ≡ path.branch ∷ seconds_of path
waits_going path goes = rw goes refl

pub waits_first : (old new : Path) (decision other : Decision) → Enters old new decision (Some other) → length old.branch ≡ length old.seconds.items → old.whole ≡ false →
    waits new ≡ (old.branch ++ decision ∷ []) ∷ ((old.branch ++ other ∷ []) ∷ seconds_of old)
waits_first old new decision other enters even goes =
    waits_going new (enters.same_whole ∙ goes) ∙ ap (λ (xs : List Decision). xs ∷ seconds_of new) enters.branch
    ∙ ap (λ (rest : List (List Decision)). (old.branch ++ decision ∷ []) ∷ rest) (seconds_first old new decision other enters even)

pub waits_second : (old new : Path) (decision : Decision) → Enters old new decision None → length old.branch ≡ length old.seconds.items → old.whole ≡ false →
    waits new ≡ (old.branch ++ decision ∷ []) ∷ seconds_of old
waits_second old new decision enters even goes =
    waits_going new (enters.same_whole ∙ goes) ∙ ap (λ (xs : List Decision). xs ∷ seconds_of new) enters.branch
    ∙ ap (λ (rest : List (List Decision)). (old.branch ++ decision ∷ []) ∷ rest) (seconds_second old new decision enters even)
