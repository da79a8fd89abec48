-- What becomes of files that are read one after another.
use Rattle.std.proofs.Common.{◌≡◌, ℕ, ◌+◌, ◌≤◌, List, [], ◌∷◌, sym, subst, inl, inr, IsTrue, Bool, Option}
use Rattle.std.specs.Prelude.{◌⊎◌, Result, Ok, Err, IsOk, IfOk, IsErrOf}
use Rattle.std.specs.declared.alloc.Global.{Global}
use Rattle.std.specs.declared.vec.Vec.{Vec}
use Rattle.carp_base.specs.declared.fail.Fail.{Fail}
use Rattle.carp_base.specs.declared.fail.Fail.TheVariants.{Refused, Memory as NoMemory}
use Rattle.carp_outside.specs.Causes.{Rose, RoseBy}
use Rattle.command_line.specs.Commands.{Source}
use Rattle.command_inputs.specs.Files.{HasLimit, HeldIn, Holds, IsBadFile, RoseAtSome}
use Rattle.command_inputs.specs.Reads.{AreBytes, EachIsGood, IsFileRead, IsOfFile, IsOfNone, IsParsed, IsTried, NoneIsBad, Seen}
use Rattle.command_inputs.specs.declared.status.Status.{Status}
use Rattle.command_inputs.specs.declared.status.Status.TheVariants.{ReadFault, TooLong}
use Rattle.command_inputs.proofs.Given.{rose_since, rose_until}
use Rattle.command_inputs.proofs.Results.{again, failed, made, of_both, of_some, seen_by}

pub moved : {X Y : Type 0} {f : Fail Status} {status : Status} → IsErrOf (failed X f) (Refused status) ⊎ IsErrOf (failed X f) NoMemory → IsErrOf (failed Y f) (Refused status) ⊎ IsErrOf (failed Y f) NoMemory
moved (inl e) = inl (again e)
moved (inr e) = inr (again e)

pub out : {X Y : Type 0} {P : Type 0} {f : Fail Status} → IsOk (failed X f) ⊎ IsErrOf (failed X f) NoMemory → P ⊎ IsErrOf (failed Y f) NoMemory
out (inl none) = cc
out (inr e) = inr (again e)

-- what is made of bytes reads no file
pub tried_none : {X : Type 0} {contents_told : Bool} {contents : List ℕ → Option (List ℕ)} {bytes : List ℕ} {l : List ℕ → ℕ} {g : ℕ} {Refuses : Status → Type 0} {Is : List ℕ → X → Type 0} {Bad : List ℕ → Status → Type 0} {Good : List ℕ → Type 0}
    → ((status : Status) → Bad bytes status → Refuses status) → (r : Result X (Fail Status))
    → IsParsed bytes Is Bad Good r → IsTried (seen_by contents_told contents l l g g) [] Refuses ⊥ (Bad bytes) (Good bytes) r
tried_none kind r parsed = record {
  refusal = λ status e. kind status (parsed.refused status e);
  read = λ e. parsed.refusal ReadFault e;
  order = λ told e. absurd (parsed.refusal ReadFault e);
  too_long = λ limit e. absurd (parsed.refusal (TooLong limit) e);
  refused = λ told status e. inr (parsed.refused status e);
  bad = λ told status bad no. parsed.bad status bad;
  good = λ told good no. parsed.good good;
}

-- of equal bytes the same is made
pub parsed_of : {X : Type 0} {b c : List ℕ} {Is : List ℕ → X → Type 0} {Bad : List ℕ → Status → Type 0} {Good : List ℕ → Type 0} {r : Result X (Fail Status)}
    → b ≡ c → IsParsed b Is Bad Good r → IsParsed c Is Bad Good r
parsed_of {Is = Is} {Bad = Bad} {Good = Good} {r = r} same parsed = subst (λ (x : List ℕ). IsParsed x Is Bad Good r) same parsed

-- by equal contents, and where more files may be unread
pub same_tried : {X : Type 0} {contents_told : Bool} {sources : List Source} {c d : List ℕ → Option (List ℕ)} {lb ln : List ℕ → ℕ} {gb gn : ℕ} {Refuses : Status → Type 0} {U V : Type 0}
    (Bad : (List ℕ → Option (List ℕ)) → Status → Type 0) (Good : (List ℕ → Option (List ℕ)) → Type 0) (r : Result X (Fail Status)) → (IsTrue contents_told → c ≡ d) → (IsTrue contents_told → U → V)
    → IsTried (seen_by contents_told c lb ln gb gn) sources Refuses U (Bad c) (Good c) r → IsTried (seen_by contents_told d lb ln gb gn) sources Refuses V (Bad d) (Good d) r
same_tried Bad Good r same more tried = record {
  refusal = tried.refusal;
  read = tried.read;
  order = λ told e. more told (tried.order told e);
  too_long = tried.too_long;
  refused = λ told status e. subst (λ x. (status ≡ ReadFault) ⊎ Bad x status) (same told) (tried.refused told status e);
  bad = λ told status bad no. tried.bad told status (subst (λ x. Bad x status) (sym (same told)) bad) (λ unread. no (more told unread));
  good = λ told good no. tried.good told (subst Good (sym (same told)) good) (λ unread. no (more told unread));
}

-- of one file alone
pub tried_alone : {X : Type 0} {seen : Seen} {sources : List Source} {Refuses : Status → Type 0} {U H : Type 0} {Bad : Status → Type 0} {Good : Type 0} (r : Result X (Fail Status))
    → IsTried seen sources Refuses (U ⊎ (H × ⊥)) Bad Good r → IsTried seen sources Refuses U Bad Good r
tried_alone {U = U} {H = H} r tried = record {
  refusal = tried.refusal;
  read = tried.read;
  order = λ told e. only (tried.order told e);
  too_long = tried.too_long;
  refused = tried.refused;
  bad = λ told status bad no. tried.bad told status bad (λ unread. no (only unread));
  good = λ told good no. tried.good told good (λ unread. no (only unread));
} where
  only : U ⊎ (H × ⊥) → U
  only (inl unread) = unread
  only (inr none) = absurd none.1

some_since : (sources : List Source) (before mid now : List ℕ → ℕ) → ((name : List ℕ) → before name ≤ mid name) → RoseAtSome sources mid now → RoseAtSome sources before now
some_since [] before mid now later rose = rose
some_since (source ∷ sources) before mid now later (inl rose) = inl (rose_since 1 (before source.name) (mid source.name) (now source.name) (later source.name) rose)
some_since (source ∷ sources) before mid now later (inr rose) = inr (some_since sources before mid now later rose)

at_first : (source : Source) (sources : List Source) (before now : List ℕ → ℕ) → RoseAtSome (source ∷ []) before now → RoseAtSome (source ∷ sources) before now
at_first source sources before now (inl rose) = inl rose
at_first source sources before now (inr none) = absurd none

limited : (limit g h : ℕ) (source : Source) (sources : List Source) → HasLimit limit (source ∷ []) × RoseBy (limit + 1) g h → HasLimit limit (source ∷ sources) × RoseBy (limit + 1) g h
limited limit g h source sources (inl is, rose) = (inl is, rose)
limited limit g h source sources (inr none, rose) = absurd none

-- the first of some files is not to be had
pub first_stops : {X : Type 0} {contents_told : Bool} {source : Source} {sources : List Source} {contents : List ℕ → Option (List ℕ)} {lb ln : List ℕ → ℕ} {gb gn : ℕ} {Refuses : Status → Type 0} {Later : Type 0}
    (Bad : List ℕ → Status → Type 0) (Good : List ℕ → Type 0) → ((status : Status) → IsOfFile status → Refuses status) → (f : Fail Status)
    → IsFileRead (seen_by contents_told contents lb ln gb gn) source IsOfNone AreBytes NoneIsBad EachIsGood (failed (Vec ℕ Global) f)
    → IsTried (seen_by contents_told contents lb ln gb gn) (source ∷ sources) Refuses (Rose (lb source.name) (ln source.name) ⊎ Later)
    (IsBadFile Bad source contents) (Holds source contents Good) (failed X f)
first_stops {source = source} {sources = sources} {contents = contents} {lb = lb} {ln = ln} {gb = gb} {gn = gn} {Refuses = Refuses} Bad Good kind f first = record {
  refusal = λ status e. of_file status (first.tried.refusal status (again e));
  order = λ told e. inl (first.tried.order told (again e));
  read = λ e. at_first source sources lb ln (first.tried.read (again e));
  too_long = λ limit e. limited limit gb gn source sources (first.tried.too_long limit (again e));
  refused = λ told status e. elim (first.tried.refused told status (again e)) [
    | inl fault ↦ inl fault
    | inr (inl long) ↦ inr (inl long)
    | inr (inr none) ↦ absurd (of_both (contents source.name) none none (λ bytes held more. held.1))
  ];
  bad = λ told status bad no. elim bad [
    | inl long ↦ moved (first.tried.bad told status (inl long) (λ rose. no (inl rose)))
    | inr of ↦ out (first.tried.good told (of_some (contents source.name) of (λ bytes held. (held.0, tt))) (λ rose. no (inl rose)))
  ];
  good = λ told good no. out (first.tried.good told (of_some (contents source.name) good (λ bytes held. (held.0, tt))) (λ rose. no (inl rose)));
} where
  of_file : (status : Status) → IsOfFile status ⊎ ⊥ → Refuses status
  of_file status (inl is) = kind status is
  of_file status (inr none) = absurd none

-- a file that was read is held
held_here : {contents_told : Bool} {source : Source} {contents : List ℕ → Option (List ℕ)} {lb ln : List ℕ → ℕ} {gb gn : ℕ} (v : Vec ℕ Global)
    → IsFileRead (seen_by contents_told contents lb ln gb gn) source IsOfNone AreBytes NoneIsBad EachIsGood (made (Vec ℕ Global) v) → IsTrue contents_told → Holds source contents EachIsGood
held_here {source = source} {contents = contents} v file told = of_some (contents source.name) (file.made told) (λ bytes own. (own.0, tt))

-- the first of some files is read, and the others decide
pub others_decide : {X : Type 0} {contents_told : Bool} {source : Source} {sources : List Source} {contents : List ℕ → Option (List ℕ)} {lb lm ln : List ℕ → ℕ} {gb gm gn : ℕ} {Refuses : Status → Type 0} {Later : Type 0}
    (Bad : List ℕ → Status → Type 0) (Good : List ℕ → Type 0) (v : Vec ℕ Global) (r : Result X (Fail Status))
    → IsFileRead (seen_by contents_told contents lb lm gb gm) source IsOfNone AreBytes NoneIsBad EachIsGood (made (Vec ℕ Global) v)
    → IsTried (seen_by contents_told contents lm ln gm gn) sources Refuses Later (Bad v.items) (Good v.items) r
    → ((name : List ℕ) → lb name ≤ lm name) → ((name : List ℕ) → lm name ≤ ln name) → gb ≤ gm
    → IsTried (seen_by contents_told contents lb ln gb gn) (source ∷ sources) Refuses (Rose (lb source.name) (ln source.name) ⊎ (Holds source contents EachIsGood × Later))
    (IsBadFile Bad source contents) (Holds source contents Good) r
others_decide {X} {contents_told} {source} {sources} {contents} {lb} {lm} {ln} {gb} {gm} {gn} Bad Good v r first others risen rises given = record {
  refusal = others.refusal;
  order = λ told e. inr (held_here v first told, others.order told e);
  read = λ e. inr (some_since sources lb lm ln risen (others.read e));
  too_long = λ limit e. let found = others.too_long limit e in (inr found.0, rose_since (limit + 1) gb gm gn given found.1);
  refused = λ told status e. elim (others.refused told status e) [
    | inl fault ↦ inl fault
    | inr bad ↦ inr (inr (of_some (contents source.name) (first.made told) (λ bytes own. (own.0, subst (λ b. Bad b status) own.1 bad))))
  ];
  bad = λ told status bad no. elim bad [
    | inl long ↦ elim (first.tried.bad told status (inl long) (λ rose. no (inl (rose_until 1 (lb source.name) (lm source.name) (ln source.name) (rises source.name) rose)))) [ inl e ↦ cc | inr e ↦ cc ]
    | inr of ↦ of_both (contents source.name) (first.made told) of (λ bytes own held. others.bad told status (subst (λ b. Bad b status) (sym own.1) held.1) (λ unread. no (inr (held_here v first told, unread))))
  ];
  good = λ told good no. of_both (contents source.name) (first.made told) good (λ bytes own held. others.good told (subst Good (sym own.1) held.1) (λ unread. no (inr (held_here v first told, unread))));
}

-- what is made of the bytes is made of the file that holds them
pub made_of : {X : Type 0} {contents_told : Bool} {source : Source} {contents mid : List ℕ → Option (List ℕ)} {lb lm : List ℕ → ℕ} {gb gm : ℕ}
    (P : (List ℕ → Option (List ℕ)) → List ℕ → X → Type 0) (v : Vec ℕ Global) (r : Result X (Fail Status))
    → IsFileRead (seen_by contents_told contents lb lm gb gm) source IsOfNone AreBytes NoneIsBad EachIsGood (made (Vec ℕ Global) v) → IsTrue contents_told → mid ≡ contents
    → IfOk r (P mid v.items) → IfOk r (λ x. HeldIn contents source (λ bytes. P contents bytes x))
made_of {X = X} {source = source} {contents = contents} P v r first told same is = by r (subst (λ held. IfOk r (P held v.items)) same is) where
  by : (r : Result X (Fail Status)) → IfOk r (P contents v.items) → IfOk r (λ x. HeldIn contents source (λ bytes. P contents bytes x))
  by (Ok x) is = of_some (contents source.name) (first.made told) (λ bytes own. (own.0, subst (λ b. P contents b x) own.1 is))
  by (Err e) is = tt
