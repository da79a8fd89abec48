-- When what the files of a command hold has it refuse, and when it can be done.
use Rattle.std.specs.Prelude.{ℕ, List, Option, ◌⊎◌}
use Rattle.carp_base.specs.Problem.{Problem}
use Rattle.carp_outside.specs.Causes.{Rose}
use Rattle.dat_text.specs.Text.{IsTextOf}
use Rattle.command_line.specs.Commands.{Command, Solve, Check, Sheet, Make, Drill, Upgrade, Postman, Fleet, Edit, Improve, instance_at, certificate_at}
use Rattle.command_inputs.specs.Files.{Holds, IsInstance, IsBadInstance, IsGoodText, IsBadCertificate, IsBadFile, IsBadRound, IsJoinedText}
use Rattle.command_inputs.specs.Reads.{IsOfCertificate, IsOfFile, IsOfInstance, IsOfRound}
use Rattle.command_inputs.specs.declared.status.Status.{Status}
use Rattle.command_inputs.specs.Edited.{AreBadFiles, AreGoodFiles, AreUnread, IsOfTexts}

-- the first file is the text of an instance, and the second is refused so for it
pub record IsBadSecond (file cert : List ℕ) (contents : List ℕ → Option (List ℕ)) (status : Status) : Type 0 where
  pub instance : Problem
  pub read : Holds (instance_at file) contents (λ bytes. IsTextOf bytes instance)
  pub bad : IsBadFile (IsBadCertificate instance) (certificate_at cert) contents status

-- the instance file is refused so, or, if it is the text of an instance, the certificate
abbrev pub IsBadPair : (file cert : List ℕ) → (List ℕ → Option (List ℕ)) → Status → Type 0
IsBadPair file cert contents status = IsBadFile IsBadInstance (instance_at file) contents status ⊎ IsBadSecond file cert contents status

-- the first file is the text of an instance, and the second of a certificate that is good for it
pub record IsGoodPair (file cert : List ℕ) (contents : List ℕ → Option (List ℕ)) : Type 0 where
  pub instance : Problem
  pub read : Holds (instance_at file) contents (λ bytes. IsTextOf bytes instance)
  pub good : Holds (certificate_at cert) contents (IsGoodText instance)

-- an answer by which one of two texts is refused: of an instance, or of a certificate
abbrev pub IsOfPair : Status → Type 0
IsOfPair status = IsOfInstance status ⊎ IsOfCertificate status

-- The answers by which a command can be refused: a file that it reads could not be read, is too long, or holds bad bytes of its kind. A command that reads no file is never
-- refused.
abbrev pub IsRefusalOf : Command → Status → Type 0
IsRefusalOf (Solve file cert turns seed) status = IsOfFile status ⊎ IsOfInstance status
IsRefusalOf (Check file cert) status = IsOfFile status ⊎ IsOfPair status
IsRefusalOf (Sheet file cert) status = IsOfFile status ⊎ IsOfPair status
IsRefusalOf (Make file seed) status = ⊥
IsRefusalOf (Drill turns seed) status = ⊥
IsRefusalOf (Upgrade file cert renewed) status = IsOfFile status ⊎ IsOfPair status
IsRefusalOf (Postman file) status = IsOfFile status ⊎ IsOfRound status
IsRefusalOf (Fleet file turns) status = IsOfFile status ⊎ IsOfInstance status
IsRefusalOf (Edit file cert edits edited carried) status = IsOfFile status ⊎ IsOfTexts status
IsRefusalOf (Improve file cert improved turns seed) status = IsOfFile status ⊎ IsOfPair status

-- what names hold has a command refuse so; one that reads no file refuses nothing
abbrev pub IsRefused : Command → (List ℕ → Option (List ℕ)) → Status → Type 0
IsRefused (Solve file cert turns seed) contents status = IsBadFile IsBadInstance (instance_at file) contents status
IsRefused (Check file cert) contents status = IsBadPair file cert contents status
IsRefused (Sheet file cert) contents status = IsBadPair file cert contents status
IsRefused (Make file seed) contents status = ⊥
IsRefused (Drill turns seed) contents status = ⊥
IsRefused (Upgrade file cert renewed) contents status = IsBadPair file cert contents status
IsRefused (Postman file) contents status = IsBadFile IsBadRound (instance_at file) contents status
IsRefused (Fleet file turns) contents status = IsBadFile IsBadInstance (instance_at file) contents status
IsRefused (Edit file cert edits edited carried) contents status = AreBadFiles file cert edits contents status
IsRefused (Improve file cert improved turns seed) contents status = IsBadPair file cert contents status

-- what names hold lets a command be done
abbrev pub CanBeDone : Command → (List ℕ → Option (List ℕ)) → Type 0
CanBeDone (Solve file cert turns seed) contents = Holds (instance_at file) contents IsInstance
CanBeDone (Check file cert) contents = IsGoodPair file cert contents
CanBeDone (Sheet file cert) contents = IsGoodPair file cert contents
CanBeDone (Make file seed) contents = Unit {0}
CanBeDone (Drill turns seed) contents = Unit {0}
CanBeDone (Upgrade file cert renewed) contents = IsGoodPair file cert contents
CanBeDone (Postman file) contents = Holds (instance_at file) contents IsJoinedText
CanBeDone (Fleet file turns) contents = Holds (instance_at file) contents IsInstance
CanBeDone (Edit file cert edits edited carried) contents = AreGoodFiles file cert edits contents
CanBeDone (Improve file cert improved turns seed) contents = IsGoodPair file cert contents

-- a look failed at the first of two files, or at the second one, if the first is the text of an instance
abbrev pub IsUnreadPair : (file cert : List ℕ) → (List ℕ → Option (List ℕ)) → (List ℕ → ℕ) → (List ℕ → ℕ) → Type 0
IsUnreadPair file cert contents before now = Rose (before file) (now file) ⊎ (Holds (instance_at file) contents IsInstance × Rose (before cert) (now cert))

-- a look failed at one of the files of a command, those before it being good, or, of an edit, held and not too long
abbrev pub IsUnread : Command → (List ℕ → Option (List ℕ)) → (List ℕ → ℕ) → (List ℕ → ℕ) → Type 0
IsUnread (Solve file cert turns seed) contents before now = Rose (before file) (now file)
IsUnread (Check file cert) contents before now = IsUnreadPair file cert contents before now
IsUnread (Sheet file cert) contents before now = IsUnreadPair file cert contents before now
IsUnread (Make file seed) contents before now = ⊥
IsUnread (Drill turns seed) contents before now = ⊥
IsUnread (Upgrade file cert renewed) contents before now = IsUnreadPair file cert contents before now
IsUnread (Postman file) contents before now = Rose (before file) (now file)
IsUnread (Fleet file turns) contents before now = Rose (before file) (now file)
IsUnread (Edit file cert edits edited carried) contents before now = AreUnread file cert edits contents before now
IsUnread (Improve file cert improved turns seed) contents before now = IsUnreadPair file cert contents before now
