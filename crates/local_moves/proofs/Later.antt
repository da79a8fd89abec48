-- The answers of a trial.
use Rattle.std.proofs.Common.{◌≡◌, ℕ, ◌<◌, List, sym, subst, Option, None, Some, MatchOption, Result, Ok, Err}
use Rattle.std.specs.Result.{IfOk}
use Rattle.std.specs.Prelude.{IsTrue}
use Rattle.ruin_recreate.specs.declared.board.Board.{Board}
use Rattle.local_moves.specs.Sequences.{IsLater, IsSequence, KeepsServices, fits, links_of}

pub answered : {X : Type 0} {P Q : Type 0} {R S : X → Type 0} (found : Option X) → MatchOption found P R → (P → Q) → ((x : X) → R x → S x) → MatchOption found Q S
answered None answer none some = none answer
answered (Some x) answer none some = some x answer

pub answered_ok : {X E : Type 0} {P Q : Type 0} {R S : X → Type 0} (found : Result (Option X) E) → IfOk found (λ o. MatchOption o P R) → (P → Q) → ((x : X) → R x → S x) →
    IfOk found (λ o. MatchOption o Q S)
answered_ok (Ok o) answer none some = answered o answer none some
answered_ok (Err e) answer none some = answer

pub ok_by_one : {X E : Type 0} {P S : X → Type 0} (r : Result X E) → IfOk r P → ((x : X) → P x → S x) → IfOk r S
ok_by_one (Ok x) first all = all x first
ok_by_one (Err e) first all = first

-- what three clauses on an answer say together
pub ok_by_three : {X E : Type 0} {P Q R S : X → Type 0} (r : Result X E) → IfOk r P → IfOk r Q → IfOk r R → ((x : X) → P x → Q x → R x → S x) → IfOk r S
ok_by_three (Ok x) first second third all = all x first second third
ok_by_three (Err e) first second third all = first

pub later : (b : Board) (xs ys zs : List ℕ) → zs ≡ ys → IsTrue (fits b ys) → links_of b ys < links_of b xs → IsSequence b ys → KeepsServices xs ys → IsLater b xs zs
later b xs ys zs is loads cheaper sequence services =
    subst (λ us. IsLater b xs us) (sym is) (record { sequence = sequence; better = record { loads = loads; cheaper = cheaper }; services = services })

pub none_left : {X Q : Type 0} (R : X → Type 0) (found : Option X) → MatchOption found Q R → found ≡ None → Q
none_left {X} {Q} R found answer is = subst (λ (o : Option X). MatchOption o Q R) is answer
