-- A run that ends with a report did what its command promises.
use Rattle.std.proofs.Common.{◌≡◌, ◌≢◌, ℕ, ◌++◌, List, [], ◌∷◌, inl, inr, refl, ◌∙◌, subst, true, Option, None, Some}
use Rattle.std.specs.Prelude.{IsSomeAnd}
use Rattle.carp_base.specs.Problem.{Problem}
use Rattle.carp_outside.specs.Told.{HoldsExactly}
use Rattle.command_line.specs.Commands.{Command, Source, instance_at, certificate_at, edits_at}
use Rattle.command_inputs.specs.Files.{HeldIn, IsBadFile, IsBadInstance, IsBadCertificate}
use Rattle.command_inputs.specs.declared.status.Status.{Status}
use Rattle.command_inputs.specs.Inputs.{IsBadPair, IsRefused}
use Rattle.command_outputs.specs.Outputs.{Output}
use Rattle.command_inputs.specs.Edited.{AreBadFiles, AreBadTexts, IsBadEdits}
use Rattle.carp_cli.specs.Outside.{Outside, Finding, found, AreKept}
use Rattle.carp_cli.specs.Answers.{IsDone, IsRight}
use Rattle.carp_cli.specs.Refusals.{HasReport}
use Rattle.carp_cli.specs.Runs.{Leaves}

-- what follows from what is held
pub from_held : {P : List ℕ → Type 0} {R : Type 0} (held : Option (List ℕ)) → IsSomeAnd held P → ((bytes : List ℕ) → P bytes → R) → R
from_held None none f = absurd none
from_held (Some bytes) holds f = f bytes holds

pub held_too : {P Q : List ℕ → Type 0} (held : Option (List ℕ)) → IsSomeAnd held P → ((bytes : List ℕ) → P bytes → Q bytes) → IsSomeAnd held Q
held_too None none f = none
held_too (Some bytes) holds f = f bytes holds

-- A refusal has no report.

file_unreported : (Bad : List ℕ → Status → Type 0) (source : Source) (contents : List ℕ → Option (List ℕ)) (status : Status) → ((bytes : List ℕ) → Bad bytes status → ⊥) → HasReport status →
    IsBadFile Bad source contents status → ⊥
file_unreported Bad source contents status none report (inl long) = subst HasReport long.0 report
file_unreported Bad source contents status none report (inr holds) = from_held (contents source.name) holds (λ bytes is. none bytes is.1)

instance_unreported : (status : Status) → HasReport status → (bytes : List ℕ) → IsBadInstance bytes status → ⊥
instance_unreported status report bytes bad = subst HasReport bad.named report

certificate_unreported : (p : Problem) (status : Status) → HasReport status → (bytes : List ℕ) → IsBadCertificate p bytes status → ⊥
certificate_unreported p status report bytes (inl bad) = subst HasReport bad.named report
certificate_unreported p status report bytes (inr bad) = subst HasReport bad.named report

edits_unreported : (p : Problem) (status : Status) → HasReport status → (bytes : List ℕ) → IsBadEdits p bytes status → ⊥
edits_unreported p status report bytes (inl bad) = subst HasReport bad.named report
edits_unreported p status report bytes (inr bad) = subst HasReport bad.named report

texts_unreported : (file cert : List ℕ) (status : Status) → HasReport status → (edits : List ℕ) → AreBadTexts file cert edits status → ⊥
texts_unreported file cert status report edits (inl bad) = instance_unreported status report file bad
texts_unreported file cert status report edits (inr (inl bad)) = certificate_unreported bad.instance status report cert bad.bad
texts_unreported file cert status report edits (inr (inr bad)) = edits_unreported bad.instance status report edits bad.bad

pub one_unreported : (file : List ℕ) (contents : List ℕ → Option (List ℕ)) (status : Status) → HasReport status → IsBadFile IsBadInstance (instance_at file) contents status → ⊥
one_unreported file contents status report bad = file_unreported IsBadInstance (instance_at file) contents status (instance_unreported status report) report bad

pub pair_unreported : (file cert : List ℕ) (contents : List ℕ → Option (List ℕ)) (status : Status) → HasReport status → IsBadPair file cert contents status → ⊥
pair_unreported file cert contents status report (inl bad) = one_unreported file contents status report bad
pair_unreported file cert contents status report (inr bad) =
    file_unreported (IsBadCertificate bad.instance) (certificate_at cert) contents status (certificate_unreported bad.instance status report) report bad.bad

pub three_unreported : (file cert edits : List ℕ) (contents : List ℕ → Option (List ℕ)) (status : Status) → HasReport status → AreBadFiles file cert edits contents status → ⊥
three_unreported file cert edits contents status report bad =
    let third = λ (a b : List ℕ). file_unreported (AreBadTexts a b) (edits_at edits) contents status (texts_unreported a b status report) report in
    let second = λ (a : List ℕ). file_unreported (λ b. IsBadFile (AreBadTexts a b) (edits_at edits) contents) (certificate_at cert) contents status (third a) report in
    file_unreported (λ a. IsBadFile (λ b. IsBadFile (AreBadTexts a b) (edits_at edits) contents) (certificate_at cert) contents) (instance_at file) contents status second report bad

-- What was kept and written.

pub record IsPromised (c : Command) (before now : Outside) (status : Status) : Type 0 where
  pub output : Output
  pub done : IsDone (HeldIn before.contents) c now.offered status output
  pub kept : AreKept output.kept before.contents now.contents
  pub wrote : now.written ≡ before.written ++ output.text

done_of : (c : Command) (all : Finding) (status : Status) (output : Output) → HasReport status → (IsRefused c all.contents status → ⊥) → IsRight c all status output → IsDone (HeldIn all.contents) c all.offered status output
done_of c all status output report unrefused (inl unread) = absurd (subst HasReport unread.0 report)
done_of c all status output report unrefused (inr (inl bad)) = absurd (unrefused bad.0)
done_of c all status output report unrefused (inr (inr done)) = done.1

pub promised : (c : Command) (before now : Outside) (status : Status) → HasReport status → (IsRefused c before.contents status → ⊥) → Leaves true true (Some c) before now status →
    IsPromised c before now status
promised c before now status report unrefused left =
    let whole = left.whole (λ e. subst HasReport e report) (λ e. subst HasReport e report) in
    record {
      output = whole.output;
      done = done_of c (found before now) status whole.output report unrefused (whole.answer.right (inl refl));
      kept = whole.kept refl;
      wrote = whole.wrote refl;
    }

pub one_kept : (name bytes : List ℕ) (before now : List ℕ → Option (List ℕ)) → AreKept (record { name = name; bytes = bytes } ∷ []) before now → HoldsExactly name bytes before now
one_kept name bytes before now (next, holds, same) = record { there = same name ∙ holds.there; others = λ other apart. same other ∙ holds.others other apart }

-- two names hold these bytes
pub record HoldBoth (name bytes other more : List ℕ) (now : List ℕ → Option (List ℕ)) : Type 0 where
  pub first : now name ≡ Some bytes
  pub second : now other ≡ Some more

pub both_kept : (name bytes other more : List ℕ) (before now : List ℕ → Option (List ℕ)) → name ≢ other →
    AreKept (record { name = name; bytes = bytes } ∷ record { name = other; bytes = more } ∷ []) before now → HoldBoth name bytes other more now
both_kept name bytes other more before now apart (next, holds, later) =
    let last = one_kept other more next now later in
    record { first = last.others name apart ∙ holds.there; second = last.there }
