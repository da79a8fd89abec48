-- What the reading of one file gives.
use Rattle.std.proofs.Common.{◌≡◌, ℕ, List, ◌∙◌, subst, inl, inr, arith, IsTrue, Bool, Option}
use Rattle.std.specs.Prelude.{◌⊎◌, Result, Ok, Err, IsOk, IfOk, IsErrOf}
use Rattle.std.specs.declared.alloc.Global.{Global}
use Rattle.std.specs.declared.vec.Vec.{Vec}
use Rattle.carp_base.specs.declared.fail.Fail.{Fail}
use Rattle.carp_base.specs.declared.fail.Fail.TheVariants.{Refused, Memory as NoMemory}
use Rattle.command_line.specs.Commands.{Source}
use Rattle.command_inputs.specs.Files.{GivenIn, Holds, IsTooLong}
use Rattle.command_inputs.specs.Reads.{AreBytes, NoneIsBad, EachIsGood, IsFileRead, IsOfBytes, IsOfNone, IsParsed}
use Rattle.command_inputs.specs.declared.status.Status.{Status}
use Rattle.command_inputs.specs.declared.status.Status.TheVariants.{ReadFault, TooLong}
use Rattle.command_inputs.proofs.Given.{founded_by}
use Rattle.command_inputs.proofs.Results.{again, failed, made, of_both, of_some, seen_by}

-- refusals that are the same
pub same_refusal : {X : Type 0} {s t : Status} → failed X (Refused s) ≡ failed X (Refused t) → s ≡ t
same_refusal e = cc

-- a file that is not too long is not refused as one
not_too_long : (source : Source) (contents : List ℕ → Option (List ℕ)) (P : List ℕ → Type 0) (R : Type 0) → Holds source contents P → IsTooLong source contents → R
not_too_long source contents P R holds long =
    of_both (contents source.name) holds long (λ bytes held longer. absurd (omega (arith, held.0, longer)))

-- what is made of the bytes that a file holds
pub file_parsed : {X : Type 0} {contents_told : Bool} {source : Source} {contents : List ℕ → Option (List ℕ)} {lb ln : List ℕ → ℕ} {gb gn : ℕ}
    {Of : Status → Type 0} {Is : List ℕ → X → Type 0} {Bad : List ℕ → Status → Type 0} {Good : List ℕ → Type 0} (r : Result X (Fail Status)) →
    (IsTrue contents_told → Holds source contents (λ bytes. IsParsed bytes Is Bad Good r)) → IfOk r (λ x. GivenIn gb gn source (λ bytes. Is bytes x)) →
    ((status : Status) → IsErrOf r (Refused status) → IsOfBytes status) → ((status : Status) → IsErrOf r (Refused status) → Of status) →
    IsFileRead (seen_by contents_told contents lb ln gb gn) source Of Is Bad Good r
file_parsed {X} {contents_told} {source} {contents} {lb} {ln} {gb} {gn} {Of} {Is} {Bad} {Good} r parsed founded refusal kind = record {
  made = λ told. made_of r (parsed told);
  founded = founded;
  tried = record {
    refusal = λ status e. inr (kind status e);
    read = λ e. absurd (refusal ReadFault e);
    order = λ told e. absurd (refusal ReadFault e);
    too_long = λ limit e. absurd (refusal (TooLong limit) e);
    refused = λ told status e. inr (inr (of_some (contents source.name) (parsed told) (λ bytes is. (is.0, is.1.refused status e))));
    bad = λ told status bad no. elim bad [
      | inl long ↦ not_too_long source contents _ _ (parsed told) long.1
      | inr of ↦ of_both (contents source.name) (parsed told) of (λ bytes is bad. is.1.bad status bad.1)
    ];
    good = λ told good no. of_both (contents source.name) (parsed told) good (λ bytes is good. is.1.good good.1);
  };
} where
  made_of : (r : Result X (Fail Status)) → Holds source contents (λ bytes. IsParsed bytes Is Bad Good r) → IfOk r (λ x. Holds source contents (λ bytes. Is bytes x))
  made_of (Ok x) parsed = of_some (contents source.name) parsed (λ bytes is. (is.0, is.1.made))
  made_of (Err e) parsed = tt

-- all bytes of a file, and what is made of them
pub read_then : {X : Type 0} {contents_told : Bool} {source : Source} {contents : List ℕ → Option (List ℕ)} {lb ln : List ℕ → ℕ} {gb gn : ℕ}
    {Of : Status → Type 0} {Is : List ℕ → X → Type 0} {Bad : List ℕ → Status → Type 0} {Good : List ℕ → Type 0} → ((bytes : List ℕ) (status : Status) → Bad bytes status → Of status) →
    (v : Vec ℕ Global) (bytes : List ℕ) (r : Result X (Fail Status)) → bytes ≡ v.items →
    IsFileRead (seen_by contents_told contents lb ln gb gn) source IsOfNone AreBytes NoneIsBad EachIsGood (made (Vec ℕ Global) v) → IsParsed bytes Is Bad Good r →
    IsFileRead (seen_by contents_told contents lb ln gb gn) source Of Is Bad Good r
read_then {X = X} {source = source} {contents = contents} {gb = gb} {gn = gn} {Is = Is} {Bad = Bad} {Good = Good} kind v bytes r are whole parsed =
    file_parsed r (λ told. of_some (contents source.name) (whole.made told) (λ own held. (held.0, subst (λ b. IsParsed b Is Bad Good r) (are ∙ held.1) parsed)))
    (founded_by {P = Is} {Q = Is} source gb gn gn v r (omega arith) whole.founded (λ bytes x is. is) (subst (λ b. IfOk r (Is b)) are parsed.made))
    parsed.refusal (λ status e. kind bytes status (parsed.refused status e))

-- the bytes of a file are not to be had
pub read_stops : {X : Type 0} {contents_told : Bool} {source : Source} {contents : List ℕ → Option (List ℕ)} {lb ln : List ℕ → ℕ} {gb gn : ℕ}
    {Of : Status → Type 0} {Is : List ℕ → X → Type 0} {Bad : List ℕ → Status → Type 0} {Good : List ℕ → Type 0} (f : Fail Status) →
    IsFileRead (seen_by contents_told contents lb ln gb gn) source IsOfNone AreBytes NoneIsBad EachIsGood (failed (Vec ℕ Global) f) →
    IsFileRead (seen_by contents_told contents lb ln gb gn) source Of Is Bad Good (failed X f)
read_stops {X} {source = source} {contents = contents} {Bad = Bad} f whole = record {
  made = λ told. tt;
  founded = tt;
  tried = record {
    refusal = λ status e. of_file (whole.tried.refusal status (again e));
    read = λ e. whole.tried.read (again e);
    order = λ told e. whole.tried.order told (again e);
    too_long = λ limit e. whole.tried.too_long limit (again e);
    refused = λ told status e. elim (whole.tried.refused told status (again e)) [
      | inl fault ↦ inl fault
      | inr (inl long) ↦ inr (inl long)
      | inr (inr none) ↦ absurd (of_both (contents source.name) none none (λ bytes held more. held.1))
    ];
    bad = λ told status bad no. elim bad [
      | inl long ↦ moved status (whole.tried.bad told status (inl long) no)
      | inr of ↦ out (whole.tried.good told (of_some (contents source.name) of (λ bytes held. (held.0, tt))) no)
    ];
    good = λ told good no. out (whole.tried.good told (of_some (contents source.name) good (λ bytes held. (held.0, tt))) no);
  };
} where
  of_file : {F P : Type 0} → F ⊎ ⊥ → F ⊎ P
  of_file (inl is) = inl is
  of_file (inr none) = absurd none

  moved : (status : Status) → IsErrOf (failed (Vec ℕ Global) f) (Refused status) ⊎ IsErrOf (failed (Vec ℕ Global) f) NoMemory → IsErrOf (failed X f) (Refused status) ⊎ IsErrOf (failed X f) NoMemory
  moved status (inl e) = inl (again e)
  moved status (inr e) = inr (again e)

  out : {P : Type 0} → IsOk (failed (Vec ℕ Global) f) ⊎ IsErrOf (failed (Vec ℕ Global) f) NoMemory → P ⊎ IsErrOf (failed X f) NoMemory
  out (inl none) = cc
  out (inr e) = inr (again e)
