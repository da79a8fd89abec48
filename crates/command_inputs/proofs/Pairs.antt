-- What becomes of the two files of a command.
use Rattle.std.proofs.Common.{◌≡◌, ℕ, ◌+◌, ◌≤◌, List, [], ◌∷◌, refl, sym, subst, inl, inr, IsTrue, Bool, Option}
use Rattle.std.specs.Prelude.{◌⊎◌, Result, IsOk, IfOk, IsErrOf}
use Rattle.carp_base.specs.Problem.{Problem}
use Rattle.carp_base.specs.declared.fail.Fail.{Fail}
use Rattle.carp_base.specs.declared.fail.Fail.TheVariants.{Refused, Memory as NoMemory}
use Rattle.carp_outside.specs.Causes.{Rose, RoseBy}
use Rattle.dat_text.specs.Text.{IsTextOf}
use Rattle.dat_text.specs.Laws.{InstanceIsUnique}
use Rattle.command_line.specs.Commands.{Source, instance_at, certificate_at}
use Rattle.command_inputs.specs.Files.{HeldIn, Holds, IsInstance, IsBadInstance, IsGoodText, IsBadCertificate, IsBadFile}
use Rattle.command_inputs.specs.Reads.{IsFileRead, IsOfCertificate, IsOfFile, IsOfInstance, IsTried, Seen}
use Rattle.command_inputs.specs.declared.status.Status.{Status}
use Rattle.command_inputs.specs.declared.status.Status.TheVariants.{ReadFault}
use Rattle.command_inputs.specs.Inputs.{IsBadPair, IsGoodPair, IsOfPair, IsUnreadPair}
use Rattle.command_inputs.proofs.Given.{rose_since, rose_until}
use Rattle.command_inputs.proofs.Results.{again, failed, made, of_both, of_some, seen_by}

-- the reading of a file by equal contents
pub by_contents : {X : Type 0} {contents_told : Bool} {source : Source} {c d : List ℕ → Option (List ℕ)} {lb ln : List ℕ → ℕ} {gb gn : ℕ}
    {Of : Status → Type 0} {Is : List ℕ → X → Type 0} {Bad : List ℕ → Status → Type 0} {Good : List ℕ → Type 0} {r : Result X (Fail Status)} → (IsTrue contents_told → c ≡ d) →
    IsFileRead (seen_by contents_told c lb ln gb gn) source Of Is Bad Good r → IsFileRead (seen_by contents_told d lb ln gb gn) source Of Is Bad Good r
by_contents {source = source} {c = c} {d = d} {Is = Is} {Bad = Bad} {Good = Good} {r = r} same file = record {
  made = λ told. subst (λ e. IfOk r (λ x. HeldIn e source (λ bytes. Is bytes x))) (same told) (file.made told);
  founded = file.founded;
  tried = record {
    refusal = file.tried.refusal;
    read = file.tried.read;
    order = file.tried.order;
    too_long = file.tried.too_long;
    refused = λ told status e. subst (λ x. (status ≡ ReadFault) ⊎ IsBadFile Bad source x status) (same told) (file.tried.refused told status e);
    bad = λ told status bad no. file.tried.bad told status (subst (λ x. IsBadFile Bad source x status) (sym (same told)) bad) no;
    good = λ told good no. file.tried.good told (subst (λ x. Holds source x Good) (sym (same told)) good) no;
  };
}

-- a refusal of a file is one of the command
pub tried_again : {X Y : Type 0} {seen : Seen} {sources : List Source} {Refuses : Status → Type 0} {Unread : Type 0} {Bad : Status → Type 0} {Good : Type 0} (f : Fail Status)
    → IsTried seen sources Refuses Unread Bad Good (failed X f) → IsTried seen sources Refuses Unread Bad Good (failed Y f)
tried_again {X} {Y} f tried = record {
  refusal = λ status e. tried.refusal status (again e);
  read = λ e. tried.read (again e);
  order = λ told e. tried.order told (again e);
  too_long = λ limit e. tried.too_long limit (again e);
  refused = λ told status e. tried.refused told status (again e);
  bad = λ told status bad no. elim (tried.bad told status bad no) [ inl e ↦ inl (again e) | inr e ↦ inr (again e) ];
  good = λ told good no. elim (tried.good told good no) [ inl none ↦ cc | inr e ↦ inr (again e) ];
}

-- what was read is made into an answer
pub tried_made : {X Y : Type 0} {seen : Seen} {sources : List Source} {Refuses : Status → Type 0} {Unread : Type 0} {Bad : Status → Type 0} {Good : Type 0} (x : X) (y : Y)
    → IsTried seen sources Refuses Unread Bad Good (made X x) → IsTried seen sources Refuses Unread Bad Good (made Y y)
tried_made x y tried = record {
  refusal = λ status e. cc;
  read = λ e. cc;
  order = λ told e. cc;
  too_long = λ limit e. cc;
  refused = λ told status e. cc;
  bad = λ told status bad no. elim (tried.bad told status bad no) [ inl e ↦ cc | inr e ↦ cc ];
  good = λ told good no. inl refl;
}

-- an instance is held, whichever it is
held_instance : (file : List ℕ) (contents : List ℕ → Option (List ℕ)) (p : Problem) → Holds (instance_at file) contents (λ bytes. IsTextOf bytes p) → Holds (instance_at file) contents IsInstance
held_instance file contents p read = of_some (contents file) read (λ bytes held. (held.0, record { instance = p; text = held.1 }))

-- the first of two files stops the command
pub first_stops : {Y : Type 0} {contents_told : Bool} {file cert : List ℕ} {contents : List ℕ → Option (List ℕ)} {lb ln : List ℕ → ℕ} {gb gn : ℕ} (f : Fail Status)
    → IsFileRead {X = Problem} (seen_by contents_told contents lb ln gb gn) (instance_at file) IsOfInstance IsTextOf IsBadInstance IsInstance (failed Problem f)
    → IsTried (seen_by contents_told contents lb ln gb gn) (instance_at file ∷ certificate_at cert ∷ []) (λ status. IsOfFile status ⊎ IsOfPair status) (IsUnreadPair file cert contents lb ln)
    (IsBadPair file cert contents) (IsGoodPair file cert contents) (failed Y f)
first_stops {Y} {file = file} {cert = cert} {contents = contents} {lb = lb} {ln = ln} {gb = gb} {gn = gn} f first = record {
  refusal = λ status e. of_pair (first.tried.refusal status (again e));
  read = λ e. at_first (first.tried.read (again e));
  order = λ told e. inl (first.tried.order told (again e));
  too_long = λ limit e. limited (first.tried.too_long limit (again e));
  refused = λ told status e. elim (first.tried.refused told status (again e)) [ inl fault ↦ inl fault | inr bad ↦ inr (inl bad) ];
  bad = λ told status bad no. elim bad [
    | inl b ↦ moved (first.tried.bad told status b (λ rose. no (inl rose)))
    | inr b ↦ out (first.tried.good told (held_instance file contents b.instance b.read) (λ rose. no (inl rose)))
  ];
  good = λ told good no. out (first.tried.good told (held_instance file contents good.instance good.read) (λ rose. no (inl rose)));
} where
  of_pair : {F P Q : Type 0} → F ⊎ P → F ⊎ (P ⊎ Q)
  of_pair (inl is) = inl is
  of_pair (inr is) = inr (inl is)

  at_first : Rose (lb file) (ln file) ⊎ ⊥ → Rose (lb file) (ln file) ⊎ (Rose (lb cert) (ln cert) ⊎ ⊥)
  at_first (inl rose) = inl rose
  at_first (inr none) = absurd none

  limited : {limit : ℕ} → ((limit ≡ 4194304) ⊎ ⊥) × RoseBy (limit + 1) gb gn → ((limit ≡ 4194304) ⊎ ((limit ≡ 268435456) ⊎ ⊥)) × RoseBy (limit + 1) gb gn
  limited (inl is, rose) = (inl is, rose)
  limited (inr none, rose) = absurd none

  moved : {status : Status} → IsErrOf (failed Problem f) (Refused status) ⊎ IsErrOf (failed Problem f) NoMemory → IsErrOf (failed Y f) (Refused status) ⊎ IsErrOf (failed Y f) NoMemory
  moved (inl e) = inl (again e)
  moved (inr e) = inr (again e)

  out : {P : Type 0} → IsOk (failed Problem f) ⊎ IsErrOf (failed Problem f) NoMemory → P ⊎ IsErrOf (failed Y f) NoMemory
  out (inl none) = cc
  out (inr e) = inr (again e)

-- the first of two files is read, and the second decides
pub second_decides : {X : Type 0} {contents_told : Bool} {file cert : List ℕ} {contents : List ℕ → Option (List ℕ)} {lb lm ln : List ℕ → ℕ} {gb gm gn : ℕ}
    {Is : List ℕ → X → Type 0} → InstanceIsUnique → (p : Problem) (r : Result X (Fail Status))
    → IsFileRead (seen_by contents_told contents lb lm gb gm) (instance_at file) IsOfInstance IsTextOf IsBadInstance IsInstance (made Problem p)
    → IsFileRead (seen_by contents_told contents lm ln gm gn) (certificate_at cert) IsOfCertificate Is (IsBadCertificate p) (IsGoodText p) r
    → ((name : List ℕ) → lb name ≤ lm name) → ((name : List ℕ) → lm name ≤ ln name) → gb ≤ gm
    → IsTried (seen_by contents_told contents lb ln gb gn) (instance_at file ∷ certificate_at cert ∷ []) (λ status. IsOfFile status ⊎ IsOfPair status) (IsUnreadPair file cert contents lb ln)
    (IsBadPair file cert contents) (IsGoodPair file cert contents) r
second_decides {X} {contents_told} {file} {cert} {contents} {lb} {lm} {ln} {gb} {gm} {gn} unique p r first second risen rises given = record {
  refusal = λ status e. of_pair (second.tried.refusal status e);
  read = λ e. inr (at_second (second.tried.read e));
  order = λ told e. unread_second told (second.tried.order told e);
  too_long = λ limit e. limited (second.tried.too_long limit e);
  refused = λ told status e. elim (second.tried.refused told status e) [
    | inl fault ↦ inl fault
    | inr bad ↦ inr (inr (record { instance = p; read = first.made told; bad = bad }))
  ];
  bad = λ told status bad no. elim bad [
    | inl b ↦ elim (first.tried.bad told status b (λ rose. no (inl (rose_until 1 (lb file) (lm file) (ln file) (rises file) rose)))) [ inl e ↦ cc | inr e ↦ cc ]
    | inr b ↦ second.tried.bad told status (subst (λ (q : Problem). IsBadFile (IsBadCertificate q) (certificate_at cert) contents status) (one told b.instance b.read) b.bad) (λ rose. no (unread_second told rose))
  ];
  good = λ told good no. second.tried.good told (subst (λ (q : Problem). Holds (certificate_at cert) contents (IsGoodText q)) (one told good.instance good.read) good.good) (λ rose. no (unread_second told rose));
} where
  of_pair : {F P Q : Type 0} → F ⊎ Q → F ⊎ (P ⊎ Q)
  of_pair (inl is) = inl is
  of_pair (inr is) = inr (inr is)

  unread_second : IsTrue contents_told → Rose (lm cert) (ln cert) → IsUnreadPair file cert contents lb ln
  unread_second told rose = inr (held_instance file contents p (first.made told), rose_since 1 (lb cert) (lm cert) (ln cert) (risen cert) rose)

  at_second : Rose (lm cert) (ln cert) ⊎ ⊥ → Rose (lb cert) (ln cert) ⊎ ⊥
  at_second (inl rose) = inl (rose_since 1 (lb cert) (lm cert) (ln cert) (risen cert) rose)
  at_second (inr none) = absurd none

  limited : {limit : ℕ} → ((limit ≡ 268435456) ⊎ ⊥) × RoseBy (limit + 1) gm gn → ((limit ≡ 4194304) ⊎ ((limit ≡ 268435456) ⊎ ⊥)) × RoseBy (limit + 1) gb gn
  limited {limit} (inl is, rose) = (inr (inl is), rose_since (limit + 1) gb gm gn given rose)
  limited (inr none, rose) = absurd none

  one : IsTrue contents_told → (q : Problem) → Holds (instance_at file) contents (λ bytes. IsTextOf bytes q) → q ≡ p
  one told q read = of_both (contents file) read (first.made told) (λ bytes other own. unique bytes q p other.1 own.1)
