-- What one run kept, the next run takes.
use Rattle.std.proofs.Common.{◌≡◌, ◌≢◌, ℕ, ◌-◌, ◌≤◌, ◌++◌, List, length, inl, refl, sym, ap, ◌∙◌, subst, Option, Some, codes}
use Rattle.std.specs.Prelude.{◌⊎◌, IsSomeAnd}
use Rattle.carp_base.specs.Problem.{Problem, IsValid}
use Rattle.dat_text.specs.DatText.{dat_of}
use Rattle.dat_text.specs.Laws.{WrittenIsRead, WrittenIsShort}
use Rattle.dat_text.specs.Text.{IsTextOf}
use Rattle.cert_lines.specs.Certificates.{Certificate}
use Rattle.cert_lines.specs.Laws.{TextIsUnique, TextIsShort}
use Rattle.cert_lines.specs.Texts as certificates
use Rattle.cert_format.specs.Good.{IsGood, with_counts}
use Rattle.instance_edits.specs.Edits.{edited}
use Rattle.town_maker.specs.Laws.{TownsAreValid}
use Rattle.town_maker.specs.Towns.{town_of}
use Rattle.command_line.specs.Commands.{Command, Solve, Check, Make, Upgrade, Edit, Improve, instance_at, certificate_at}
use Rattle.command_inputs.specs.Files.{Holds, IsInstance, IsGoodText}
use Rattle.command_inputs.specs.declared.status.Status.{Status}
use Rattle.command_inputs.specs.declared.status.Status.TheVariants.{Accepted}
use Rattle.command_inputs.specs.Inputs.{CanBeDone, IsUnread}
use Rattle.command_outputs.specs.Texts.{answer_text}
use Rattle.command_outputs.specs.Outputs.{Kept, Output}
use Rattle.carp_cli.specs.Outside.{Outside, AreKept}
use Rattle.carp_cli.specs.Answers.{IsDoneStatus}
use Rattle.carp_cli.specs.Refusals.{HasReport}
use Rattle.carp_cli.specs.Runs.{IsNoAnswer}
use Rattle.carp_cli.specs.Laws.{RunLeaves, IsCheckedLater, IsAccepted, IsEditedThenAccepted, SolvedIsAccepted, UpgradedIsAccepted, EditedIsAccepted, ImprovedIsAccepted, MadeIsHeld, MadeIsSolved}
use Rattle.carp_cli.proofs.Refusing.{found_reports}
use Rattle.carp_cli.proofs.Promised.{held_too, one_unreported, pair_unreported, three_unreported, IsPromised, promised, one_kept, both_kept}

-- A file that is held.

-- the name holds the text of an instance
abbrev HoldsText : List ℕ → (List ℕ → Option (List ℕ)) → Problem → Type 0
HoldsText file contents p = Holds (instance_at file) contents (λ bytes. IsTextOf bytes p)

same_text : (file : List ℕ) (before now : List ℕ → Option (List ℕ)) (p : Problem) → now file ≡ before file → HoldsText file before p → HoldsText file now p
same_text file before now p same held = subst (λ (o : Option (List ℕ)). IsSomeAnd o (λ bytes. (length bytes ≤ 4194304) × IsTextOf bytes p)) (sym same) held

written_text : WrittenIsRead → WrittenIsShort → (file : List ℕ) (contents : List ℕ → Option (List ℕ)) (p : Problem) → IsValid p → contents file ≡ Some (dat_of p) → HoldsText file contents p
written_text read short file contents p valid there =
    subst (λ (o : Option (List ℕ)). IsSomeAnd o (λ bytes. (length bytes ≤ 4194304) × IsTextOf bytes p)) (sym there) (short p valid, read p valid)

is_instance : (file : List ℕ) (contents : List ℕ → Option (List ℕ)) (p : Problem) → HoldsText file contents p → Holds (instance_at file) contents IsInstance
is_instance file contents p held = held_too (contents file) held (λ bytes is. (is.0, record { instance = p; text = is.1 }))

-- A certificate that is held.

written_certificate : TextIsShort → (cert : List ℕ) (contents : List ℕ → Option (List ℕ)) (c : Certificate) (text : List ℕ) → contents cert ≡ Some text → certificates.IsTextOf text c →
    Holds (certificate_at cert) contents (λ bytes. certificates.IsTextOf bytes c)
written_certificate short cert contents c text there is =
    subst (λ (o : Option (List ℕ)). IsSomeAnd o (λ bytes. (length bytes ≤ 268435456) × certificates.IsTextOf bytes c)) (sym there) (short text c is, is)

-- What `check` makes of a good pair.

-- what can be done is done, if no look failed that had to be made
done_or_no_answer : (c : Command) (before now : Outside) (status : Status) → RunLeaves c before now status → CanBeDone c before.contents →
    ¬ (IsUnread c before.contents before.failed_looks now.failed_looks) → IsDoneStatus c status ⊎ IsNoAnswer status
done_or_no_answer c before now status run can looked = run.done (inl refl) c refl can looked

accepted_text : TextIsUnique → (file cert : List ℕ) (c : Certificate) (text : List ℕ) (after later : Outside) (answer : Status) → after.contents cert ≡ Some text → certificates.IsTextOf text c →
    RunLeaves (Check file cert) after later answer → answer ≡ Accepted → later.written ≡ after.written ++ answer_text (codes "accepted\n") c.cost c.bound
accepted_text unique file cert c text after later answer there is run said =
    let report : HasReport answer = subst HasReport (sym said) tt in
    let all = promised (Check file cert) after later answer report (pair_unreported file cert after.contents answer report) run in
    let found_text =
    subst (λ (o : Option (List ℕ)). IsSomeAnd o (λ bytes. (length bytes ≤ 268435456) × certificates.IsTextOf bytes all.done.certificate)) there all.done.certified.certified in
    let same : all.done.certificate ≡ c = unique text all.done.certificate c found_text.1 is in
    all.wrote ∙ ap (λ (t : List ℕ). after.written ++ t) all.done.writes
    ∙ ap (λ (d : Certificate). after.written ++ answer_text (codes "accepted\n") d.cost d.bound) same

accepted : TextIsUnique → TextIsShort → (file cert : List ℕ) (p : Problem) (c : Certificate) (text : List ℕ) (now after later : Outside) (answer : Status) →
    HoldsText file now.contents p → now.contents cert ≡ Some text → certificates.IsTextOf text c → IsGood p c → IsCheckedLater file cert now after later answer →
    IsAccepted c.cost c.bound after later answer
accepted unique short file cert p c text now after later answer held there is good checked =
    let read : HoldsText file after.contents p = same_text file now.contents after.contents p checked.same_file held in
    let there_still : after.contents cert ≡ Some text = checked.same_cert ∙ there in
    let second : Holds (certificate_at cert) after.contents (IsGoodText p) =
    subst (λ (o : Option (List ℕ)). IsSomeAnd o (λ bytes. (length bytes ≤ 268435456) × IsGoodText p bytes)) (sym there_still)
    (short text c is, record { certificate = c; text = is; good = good }) in
    record {
      answered = done_or_no_answer (Check file cert) after later answer checked.run (record { instance = p; read = read; good = second }) checked.looked;
      wrote = accepted_text unique file cert c text after later answer there_still is checked.run;
    }

-- The laws.

pub solved_accepted : TextIsUnique → TextIsShort → SolvedIsAccepted
solved_accepted unique short file cert turns seed before now after later status answer apart left ends checked =
    let report = found_reports status ends in
    let all = promised (Solve file cert turns seed) before now status report (one_unreported file before.contents status report) left in
    let p = all.done.instance in
    let by = all.done.solution in
    let held = one_kept cert by.kept_text before.contents now.contents (subst (λ (ks : List Kept). AreKept ks before.contents now.contents) by.keeps all.kept) in
    record {
      instance = p;
      read = all.done.read;
      certificate = by.certificate;
      kept = written_certificate short cert now.contents by.certificate by.kept_text held.there by.kept_is;
      turns = by.turns;
      reported = all.wrote ∙ ap (λ (t : List ℕ). before.written ++ t) by.writes;
      accepted = accepted unique short file cert p by.certificate by.kept_text now after later answer
          (same_text file before.contents now.contents p (held.others file apart) all.done.read) held.there by.kept_is by.sound.good checked;
    }

pub upgraded_accepted : TextIsUnique → TextIsShort → UpgradedIsAccepted
upgraded_accepted unique short file cert renewed before now after later status answer apart left done checked =
    let report : HasReport status = subst HasReport (sym done) tt in
    let all = promised (Upgrade file cert renewed) before now status report (pair_unreported file cert before.contents status report) left in
    let by = all.done in
    let held = one_kept renewed by.kept_text before.contents now.contents (subst (λ (ks : List Kept). AreKept ks before.contents now.contents) by.keeps all.kept) in
    record {
      cost = by.certificate.cost;
      bound = by.certificate.bound;
      reported = all.wrote ∙ ap (λ (t : List ℕ). before.written ++ t) by.writes;
      accepted = accepted unique short file renewed by.instance (with_counts by.instance by.certificate) by.kept_text now after later answer
          (same_text file before.contents now.contents by.instance (held.others file apart) by.certified.read) held.there by.kept_is by.still_good checked;
    }

edited_from : TextIsUnique → TextIsShort → WrittenIsRead → WrittenIsShort → (file cert edits new_file new_cert : List ℕ) (before now after later : Outside) (status answer : Status) → new_file ≢ new_cert →
    IsPromised (Edit file cert edits new_file new_cert) before now status → IsCheckedLater new_file new_cert now after later answer → IsEditedThenAccepted before now after later answer
edited_from unique short read brief file cert edits new_file new_cert before now after later status answer apart all checked =
    let by = all.done in
    let p = edited by.instance by.changes in
    let held = both_kept new_file (dat_of p) new_cert by.text before.contents now.contents apart (subst (λ (ks : List Kept). AreKept ks before.contents now.contents) by.keeps all.kept) in
    record {
      edges = length p.edges;
      closed = length by.instance.edges - length p.edges;
      cost = by.carried.cost;
      bound = by.carried.bound;
      reported = all.wrote ∙ ap (λ (t : List ℕ). before.written ++ t) by.writes;
      accepted = accepted unique short new_file new_cert p by.carried by.text now after later answer
          (written_text read brief new_file now.contents p by.valid held.first) held.second by.text_is by.over.good checked;
    }

pub edited_accepted : TextIsUnique → TextIsShort → WrittenIsRead → WrittenIsShort → EditedIsAccepted
edited_accepted unique short read brief file cert edits new_file new_cert before now after later status answer apart left done checked =
    let report : HasReport status = subst HasReport (sym done) tt in
    edited_from unique short read brief file cert edits new_file new_cert before now after later status answer apart
    (promised (Edit file cert edits new_file new_cert) before now status report (three_unreported file cert edits before.contents status report) left) checked

pub improved_accepted : TextIsUnique → TextIsShort → ImprovedIsAccepted
improved_accepted unique short file cert improved turns seed before now after later status answer apart left ends checked =
    let report = found_reports status ends in
    let all = promised (Improve file cert improved turns seed) before now status report (pair_unreported file cert before.contents status report) left in
    let p = all.done.instance in
    let by = all.done.improvement in
    let held = one_kept improved by.kept_text before.contents now.contents (subst (λ (ks : List Kept). AreKept ks before.contents now.contents) by.keeps all.kept) in
    record {
      instance = p;
      read = all.done.certified.read;
      old = all.done.old;
      old_text = all.done.certified.certified;
      new = by.certificate;
      kept = written_certificate short improved now.contents by.certificate by.kept_text held.there by.kept_is;
      turns = by.turns;
      reported = all.wrote ∙ ap (λ (t : List ℕ). before.written ++ t) by.writes;
      no_dearer = by.better.no_dearer;
      no_lower = by.better.no_lower;
      accepted = accepted unique short file improved p by.certificate by.kept_text now after later answer
          (same_text file before.contents now.contents p (held.others file apart) all.done.certified.read) held.there by.kept_is by.better.good checked;
    }

pub made_held : WrittenIsRead → WrittenIsShort → TownsAreValid → MadeIsHeld
made_held read brief towns file seed before now status left done =
    let report : HasReport status = subst HasReport (sym done) tt in
    let all = promised (Make file seed) before now status report (λ bad. bad) left in
    let held = one_kept file (dat_of (town_of seed)) before.contents now.contents (subst (λ (w : Output). AreKept w.kept before.contents now.contents) all.done all.kept) in
    written_text read brief file now.contents (town_of seed) (towns seed) held.there

pub made_solved : WrittenIsRead → WrittenIsShort → TownsAreValid → MadeIsSolved
made_solved read brief towns file cert seed turns drawn before now after later status answer left done same run looked =
    let held = same_text file now.contents after.contents (town_of seed) same (made_held read brief towns file seed before now status left done) in
    done_or_no_answer (Solve file cert turns drawn) after later answer run (is_instance file after.contents (town_of seed) held) looked
