-- Answers that are passed on.
use Rattle.std.proofs.Common.{◌≡◌, ℕ, Bool, List, ap}
use Rattle.std.specs.Prelude.{Option, None, Some, Result, Err, Ok, IfOk, IsSomeAnd}
use Rattle.carp_base.specs.declared.fail.Fail.{Fail}
use Rattle.command_inputs.specs.Reads.{Seen}
use Rattle.command_inputs.specs.declared.status.Status.{Status}

pub of_some : {X : Type 0} {P Q : X → Type 0} (o : Option X) → IsSomeAnd o P → ((x : X) → P x → Q x) → IsSomeAnd o Q
of_some None none f = none
of_some (Some x) holds f = f x holds

pub of_ok : {X E : Type 0} {P Q : X → Type 0} (r : Result X E) → IfOk r P → ((x : X) → P x → Q x) → IfOk r Q
of_ok (Ok x) holds f = f x holds
of_ok (Err e) holds f = tt

-- two facts of what is there
pub of_both : {X : Type 0} {P Q : X → Type 0} {R : Type 0} (o : Option X) → IsSomeAnd o P → IsSomeAnd o Q → ((x : X) → P x → Q x → R) → R
of_both None none other f = absurd none
of_both (Some x) p q f = f x p q

-- a refusal of each type
abbrev pub failed : (X : Type 0) → Fail Status → Result X (Fail Status)
failed X f = Err f

abbrev pub made : (X : Type 0) → X → Result X (Fail Status)
made X x = Ok x

-- a refusal, told of another type
pub again : {X Y : Type 0} {f g : Fail Status} → failed X f ≡ failed X g → failed Y f ≡ failed Y g
again {X} {Y} {f} {g} e = ap (failed Y) (inside e) where
  inside : failed X f ≡ failed X g → f ≡ g
  inside e = cc

-- what a call saw, by its parts
abbrev pub seen_by : Bool → (List ℕ → Option (List ℕ)) → (List ℕ → ℕ) → (List ℕ → ℕ) → ℕ → ℕ → Seen
seen_by contents_told contents before now given_before given_now = record {
  contents_told = contents_told;
  contents = contents;
  looks_before = before;
  looks_now = now;
  given_before = given_before;
  given_now = given_now;
}
