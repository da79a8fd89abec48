-- What becomes of a command, from what becomes of its files and its job.
use Rattle.std.proofs.Common.{◌≡◌, ◌≢◌, ℕ, List, [], ◌∷◌, map, refl, sym, ap, ◌∙◌, subst, inl, inr, IsTrue, Bool, Option, None, Some, codes}
use Rattle.std.specs.List.{AllByRecursion}
use Rattle.std.specs.Prelude.{Result, Ok, Err, IsSomeAnd}
use Rattle.carp_base.specs.declared.fail.Fail.{Fail}
use Rattle.carp_base.specs.declared.fail.Fail.TheVariants.{Refused}
use Rattle.cert_lines.specs.Texts as certificates
use Rattle.command_line.specs.Commands.{Command, Solve, Check, Sheet, Make, Drill, Upgrade, Postman, Fleet, Edit, Improve, Source, asks_helpers, keeps, seed_of}
use Rattle.command_inputs.specs.Files.{GivenIn, HeldIn}
use Rattle.command_inputs.specs.Reads.{IsTried, Seen}
use Rattle.command_inputs.specs.declared.status.Status.{Status}
use Rattle.command_inputs.specs.declared.status.Status.TheVariants.{BadUsage}
use Rattle.command_inputs.specs.Inputs.{IsRefusalOf, IsRefused, CanBeDone, IsUnread}
use Rattle.command_inputs.specs.Jobs.{IsFor, IsGathered, IsJobOf, IsSoundJob, WasRead}
use Rattle.command_inputs.specs.declared.job.Job.{Job}
use Rattle.command_inputs.specs.declared.job.Job.TheVariants as jobs
use Rattle.command_outputs.specs.Made.{IsMade, job_asks, job_seed}
use Rattle.command_outputs.specs.Solving.{IsSolvedBy}
use Rattle.command_outputs.specs.Improving.{IsImprovedBy}
use Rattle.command_outputs.specs.Drills.{IsDrilled}
use Rattle.command_outputs.specs.Fleets.{IsFleetFound}
use Rattle.cert_format.specs.Certs.{certificate_in}
use Rattle.cert_format.specs.Good.{IsProof}
use Rattle.carp_base.specs.Problem.{Problem, IsValid}
use Rattle.cert_transfer.specs.Transfer.{IsCarriedOver}
use Rattle.command_inputs.specs.Edited.{IsEditedFrom}
use Rattle.command_inputs.specs.declared.edited.Edited.{Edited}
use Rattle.carp_cli.specs.Editing.{AreEdited}
use Rattle.command_outputs.specs.Texts.{answer_text}
use Rattle.command_outputs.specs.Outputs.{Kept, Output}
use Rattle.carp_cli.specs.Outside.{Finding}
use Rattle.carp_cli.specs.Answers.{IsDone, IsDoneStatus, IsKnown, refusal_output}
use Rattle.carp_cli.specs.Refusals.{HasReport}
use Rattle.carp_cli.specs.Runs.{IsHelped}
use Rattle.carp_cli.specs.Steps.{IsPrepared}
use Rattle.carp_cli.proofs.Refusing.{IsRefusal, done_reports, is_refusal, read_or_told, reads_nothing_refuses_nothing, refusals_report_nothing, refuses_only_read}

-- what is so of what is there
of_some : {X : Type 0} {P Q : X → Type 0} (o : Option X) → IsSomeAnd o P → ((x : X) → P x → Q x) → IsSomeAnd o Q
of_some None none f = none
of_some (Some x) holds f = f x holds

by_second : {X : Type 0} {P : X → Type 0} {R : Type 0} (o : Option X) → IsSomeAnd o P → ((x : X) → P x → R) → R
by_second None none f = absurd none
by_second (Some x) holds f = f x holds

-- a command is done
record IsPerformed (Reads : Source → (List ℕ → Type 0) → Type 0) (c : Command) (offered : List (Option ℕ)) (status : Status) (output : Output) : Type 0 where
  pub status_is : IsDoneStatus c status
  pub names : map (λ k. k.name) output.kept ≡ keeps c
  pub done : IsDone Reads c offered status output

-- what the texts of three files say, as three facts
record AreApart (Reads : Source → (List ℕ → Type 0) → Type 0) : Type 0 where
  pub facts : (file cert edits : List ℕ) (x : Edited) → IsEditedFrom file cert edits Reads x → AreEdited Reads file cert edits x.before (certificate_in x.cert) x.edits.items

held_apart : (contents : List ℕ → Option (List ℕ)) → AreApart (HeldIn contents)
held_apart contents = record {
  facts = λ file cert edits x from. record {
    read = of_some (contents file) from (λ a held. (held.0, by_second (contents cert) held.1 (λ b more. by_second (contents edits) more.1 (λ c last. last.1.read))));
    certified = by_second (contents file) from (λ a held. of_some (contents cert) held.1 (λ b more. (more.0, by_second (contents edits) more.1 (λ c last. last.1.certified))));
    edits_read = by_second (contents file) from (λ a held. by_second (contents cert) held.1 (λ b more. of_some (contents edits) more.1 (λ c last. (last.0, last.1.edits_read))));
    good = by_second (contents file) from (λ a held. by_second (contents cert) held.1 (λ b more. by_second (contents edits) more.1 (λ c last. last.1.is.good)));
  };
}

given_apart : (before now : ℕ) → AreApart (GivenIn before now)
given_apart before now = record { facts = λ file cert edits x from. facts file cert edits x from } where
  facts : (file cert edits : List ℕ) (x : Edited) → IsEditedFrom file cert edits (GivenIn before now) x
      → AreEdited (GivenIn before now) file cert edits x.before (certificate_in x.cert) x.edits.items
  facts file cert edits x (a, ra, (b, rb, (c, rc, is))) = record { read = (a, ra, is.read); certified = (b, rb, is.certified); edits_read = (c, rc, is.edits_read); good = is.is.good }

module _ (Reads : Source → (List ℕ → Type 0) → Type 0) (offered : List (Option ℕ)) (status : Status) (output : Output) where
  solved : (file cert : List ℕ) (turns seed : ℕ) (job : Job) → IsFor (Solve file cert turns seed) job → WasRead Reads (Solve file cert turns seed) job
      → IsMade job offered status output → IsPerformed Reads (Solve file cert turns seed) offered status output
  solved file cert turns seed (jobs.Solve inst name asked drawn) is read made =
      let by : IsSolvedBy inst cert turns offered status output =
      subst (λ (t : ℕ). IsSolvedBy inst cert t offered status output) is.1 (subst (λ (n : List ℕ). IsSolvedBy inst n asked offered status output) is.0 made.1) in
      record {
        status_is = made.0;
        names = ap (map (λ k. k.name)) by.keeps;
        done = record { instance = inst; read = read; solution = by };
      }
  solved file cert turns seed _ fails read made = absurd fails

  accepted : (file cert : List ℕ) (job : Job) → IsFor (Check file cert) job → WasRead Reads (Check file cert) job
      → IsMade job offered status output → IsPerformed Reads (Check file cert) offered status output
  accepted file cert (jobs.Check cost bound) is read made = record {
    status_is = made.0;
    names = ap (λ (w : Output). map (λ k. k.name) w.kept) made.1;
    done = record {
      instance = read.instance;
      certificate = read.certificate;
      certified = read.certified;
      keeps = ap (λ (w : Output). w.kept) made.1;
      writes = ap (λ (w : Output). w.text) made.1 ∙ rw (read.cost_is, read.bound_is) refl;
    };
  }
  accepted file cert _ fails read made = absurd fails

  spelled_out : (file cert : List ℕ) (job : Job) → IsFor (Sheet file cert) job → WasRead Reads (Sheet file cert) job
      → IsMade job offered status output → IsPerformed Reads (Sheet file cert) offered status output
  spelled_out file cert (jobs.Sheet inst plan) is read made = record {
    status_is = made.0;
    names = ap (λ (w : Output). map (λ k. k.name) w.kept) made.1;
    done = record {
      instance = inst;
      certificate = read.certificate;
      certified = read.certified;
      keeps = ap (λ (w : Output). w.kept) made.1;
      writes = ap (λ (w : Output). w.text) made.1 ∙ rw read.plan_is refl;
    };
  }
  spelled_out file cert _ fails read made = absurd fails

  town_kept : (file : List ℕ) (seed : ℕ) (job : Job) → IsFor (Make file seed) job → WasRead Reads (Make file seed) job
      → IsMade job offered status output → IsPerformed Reads (Make file seed) offered status output
  town_kept file seed (jobs.Make name drawn) is read made = record {
    status_is = made.0;
    names = ap (λ (w : Output). map (λ k. k.name) w.kept) made.1 ∙ ap (λ (n : List ℕ). n ∷ []) is.0;
    done = made.1 ∙ rw (is.0, is.1) refl;
  }
  town_kept file seed _ fails read made = absurd fails

  drilled : (turns seed : ℕ) (job : Job) → IsFor (Drill turns seed) job → WasRead Reads (Drill turns seed) job
      → IsMade job offered status output → IsPerformed Reads (Drill turns seed) offered status output
  drilled turns seed (jobs.Drill asked drawn) is read made =
      let by : IsDrilled seed turns offered output =
      subst (λ (t : ℕ). IsDrilled seed t offered output) is.0 (subst (λ (s : ℕ). IsDrilled s asked offered output) is.1 made.1) in
      record { status_is = made.0; names = ap (map (λ k. k.name)) by.keeps; done = by }
  drilled turns seed _ fails read made = absurd fails

  upgraded : (file cert renewed : List ℕ) (job : Job) → IsFor (Upgrade file cert renewed) job → WasRead Reads (Upgrade file cert renewed) job
      → IsMade job offered status output → IsPerformed Reads (Upgrade file cert renewed) offered status output
  upgraded file cert renewed (jobs.Upgrade c name) is read made = record {
    status_is = made.0;
    names = ap (map (λ k. k.name)) made.1.keeps ∙ ap (λ (n : List ℕ). n ∷ []) is;
    done = record {
      instance = read.instance;
      certificate = read.certificate;
      certified = read.certified;
      still_good = read.still_good;
      kept_text = made.1.kept_text;
      kept_is = subst (certificates.IsTextOf made.1.kept_text) read.renewed_is made.1.kept_is;
      keeps = made.1.keeps ∙ ap (λ (n : List ℕ). record { name = n; bytes = made.1.kept_text } ∷ []) is;
      writes = made.1.writes ∙ ap (λ c. answer_text (codes "upgraded\n") c.cost c.bound) read.renewed_is;
    };
  }
  upgraded file cert renewed _ fails read made = absurd fails

  round_found : (file : List ℕ) (job : Job) → IsFor (Postman file) job → IsSoundJob job → WasRead Reads (Postman file) job
      → IsMade job offered status output → IsPerformed Reads (Postman file) offered status output
  round_found file (jobs.Postman laid) is sound read made = record {
    status_is = made.0;
    names = ap (λ (w : Output). map (λ k. k.name) w.kept) made.1;
    done = record {
      instance = laid.inst;
      read = read;
      walk = laid.round.walk;
      shores = laid.round.shores.items;
      cost = laid.round.cost;
      round = sound;
      keeps = ap (λ (w : Output). w.kept) made.1;
      writes = ap (λ (w : Output). w.text) made.1;
    };
  }
  round_found file _ fails sound read made = absurd fails

  fleet_counted : (file : List ℕ) (turns : ℕ) (job : Job) → IsFor (Fleet file turns) job → WasRead Reads (Fleet file turns) job
      → IsMade job offered status output → IsPerformed Reads (Fleet file turns) offered status output
  fleet_counted file turns (jobs.Fleet inst asked) is read made =
      let by : IsFleetFound inst turns status output = subst (λ (t : ℕ). IsFleetFound inst t status output) is made.1 in
      record { status_is = made.0; names = ap (map (λ k. k.name)) by.keeps; done = record { instance = inst; read = read; fleet = by } }
  fleet_counted file turns _ fails read made = absurd fails

  carried_along : AreApart Reads → (file cert edits new_file new_cert : List ℕ) (job : Job) → IsFor (Edit file cert edits new_file new_cert) job → IsSoundJob job
      → WasRead Reads (Edit file cert edits new_file new_cert) job → IsMade job offered status output
      → IsPerformed Reads (Edit file cert edits new_file new_cert) offered status output
  carried_along apart file cert edits new_file new_cert (jobs.Edit read first second) is sound was made =
      let by = made.1 in
      record {
        status_is = made.0;
        names = ap (map (λ k. k.name)) by.keeps ∙ rw (is.0, is.1) refl;
        done = record {
          instance = read.before;
          certificate = certificate_in read.cert;
          changes = read.edits.items;
          files = apart.facts file cert edits read was;
          valid = subst (λ (p : Problem). IsValid p) sound.after by.valid;
          carried = by.certificate;
          over = subst (λ (p : Problem). IsCarriedOver p (certificate_in read.cert) by.certificate) sound.after by.over;
          proof = subst (λ (p : Problem). IsProof p by.certificate) sound.after by.proof;
          text = by.text;
          text_is = by.text_is;
          keeps = by.keeps ∙ rw (is.0, is.1, sound.after) refl;
          writes = by.writes ∙ rw sound.after refl;
        };
      }
  carried_along apart file cert edits new_file new_cert _ fails sound was made = absurd fails

  improved : (file cert better : List ℕ) (turns seed : ℕ) (job : Job) → IsFor (Improve file cert better turns seed) job → WasRead Reads (Improve file cert better turns seed) job
      → IsMade job offered status output → IsPerformed Reads (Improve file cert better turns seed) offered status output
  improved file cert better turns seed (jobs.Improve inst c name asked drawn) is read made =
      let old = certificate_in c in
      let by : IsImprovedBy inst old better turns offered status output =
      subst (λ (t : ℕ). IsImprovedBy inst old better t offered status output) is.1 (subst (λ (n : List ℕ). IsImprovedBy inst old n asked offered status output) is.0 made.1) in
      record {
        status_is = made.0;
        names = ap (map (λ k. k.name)) by.keeps;
        done = record { instance = inst; old = old; certified = read; improvement = by };
      }
  improved file cert better turns seed _ fails read made = absurd fails

  performed : AreApart Reads → (c : Command) (job : Job) → IsFor c job → IsSoundJob job → WasRead Reads c job
      → IsMade job offered status output → IsPerformed Reads c offered status output
  performed apart (Solve file cert turns seed) job is sound = solved file cert turns seed job is
  performed apart (Check file cert) job is sound = accepted file cert job is
  performed apart (Sheet file cert) job is sound = spelled_out file cert job is
  performed apart (Make file seed) job is sound = town_kept file seed job is
  performed apart (Drill turns seed) job is sound = drilled turns seed job is
  performed apart (Upgrade file cert renewed) job is sound = upgraded file cert renewed job is
  performed apart (Postman file) job is sound = round_found file job is sound
  performed apart (Fleet file turns) job is sound = fleet_counted file turns job is
  performed apart (Edit file cert edits edited carried) job is sound = carried_along apart file cert edits edited carried job is sound
  performed apart (Improve file cert better turns seed) job is sound = improved file cert better turns seed job is

-- a job asks the helpers where its command does, and with its seed
abbrev AsksAlike : Command → Job → Type 0
AsksAlike c job = (job_asks job ≡ asks_helpers c) × (job_seed job ≡ seed_of c)

pub asks_alike : (c : Command) (job : Job) → IsFor c job → AsksAlike c job
asks_alike (Solve file cert turns seed) job is = by job is where
  by : (job : Job) → IsFor (Solve file cert turns seed) job → AsksAlike (Solve file cert turns seed) job
  by (jobs.Solve inst name asked drawn) is = (refl, is.2)
  by _ fails = absurd fails
asks_alike (Check file cert) job is = by job is where
  by : (job : Job) → IsFor (Check file cert) job → AsksAlike (Check file cert) job
  by (jobs.Check cost bound) is = (refl, refl)
  by _ fails = absurd fails
asks_alike (Sheet file cert) job is = by job is where
  by : (job : Job) → IsFor (Sheet file cert) job → AsksAlike (Sheet file cert) job
  by (jobs.Sheet inst plan) is = (refl, refl)
  by _ fails = absurd fails
asks_alike (Make file seed) job is = by job is where
  by : (job : Job) → IsFor (Make file seed) job → AsksAlike (Make file seed) job
  by (jobs.Make name drawn) is = (refl, refl)
  by _ fails = absurd fails
asks_alike (Drill turns seed) job is = by job is where
  by : (job : Job) → IsFor (Drill turns seed) job → AsksAlike (Drill turns seed) job
  by (jobs.Drill asked drawn) is = (refl, is.1)
  by _ fails = absurd fails
asks_alike (Upgrade file cert renewed) job is = by job is where
  by : (job : Job) → IsFor (Upgrade file cert renewed) job → AsksAlike (Upgrade file cert renewed) job
  by (jobs.Upgrade c name) is = (refl, refl)
  by _ fails = absurd fails
asks_alike (Postman file) job is = by job is where
  by : (job : Job) → IsFor (Postman file) job → AsksAlike (Postman file) job
  by (jobs.Postman laid) is = (refl, refl)
  by _ fails = absurd fails
asks_alike (Fleet file turns) job is = by job is where
  by : (job : Job) → IsFor (Fleet file turns) job → AsksAlike (Fleet file turns) job
  by (jobs.Fleet inst asked) is = (refl, refl)
  by _ fails = absurd fails
asks_alike (Edit file cert edits edited carried) job is = by job is where
  by : (job : Job) → IsFor (Edit file cert edits edited carried) job → AsksAlike (Edit file cert edits edited carried) job
  by (jobs.Edit read first second) is = (refl, refl)
  by _ fails = absurd fails
asks_alike (Improve file cert improved turns seed) job is = by job is where
  by : (job : Job) → IsFor (Improve file cert improved turns seed) job → AsksAlike (Improve file cert improved turns seed) job
  by (jobs.Improve inst c name asked drawn) is = (refl, is.2)
  by _ fails = absurd fails

names_apart : (other : List ℕ) (kept : List Kept) (names : List (List ℕ)) → map (λ k. k.name) kept ≡ names → AllByRecursion (λ name. other ≢ name) names → AllByRecursion (λ k. other ≢ k.name) kept
names_apart other kept names is apart = by kept (subst (AllByRecursion (λ name. other ≢ name)) (sym is) apart) where
  by : (kept : List Kept) → AllByRecursion (λ name. other ≢ name) (map (λ k. k.name) kept) → AllByRecursion (λ k. other ≢ k.name) kept
  by [] apart = tt
  by (k ∷ ks) apart = (apart.0, by ks apart.1)

-- what a run saw of the files
abbrev seen_at : (contents_told : Bool) → Finding → (given_before given_now : ℕ) → Seen
seen_at contents_told found given_before given_now = record {
  contents_told = contents_told;
  contents = found.contents;
  looks_before = found.looks_before;
  looks_now = found.looks_now;
  given_before = given_before;
  given_now = given_now;
}

-- a job of a command was done
pub job_prepared : {contents_told : Bool} {c : Command} {found : Finding} {gb gn : ℕ} (job : Job) (status : Status) (output : Output) → IsJobOf contents_told c found.contents gb gn job
    → IsGathered c (seen_at contents_told found gb gn) (Ok job) → IsMade job found.offered status output → IsPrepared contents_told (Some c) found gb gn status output
job_prepared {contents_told} {c} {found} {gb} {gn} job status output is tried made =
    let rests = performed (GivenIn gb gn) found.offered status output (given_apart gb gn) c job is.is_for is.sound is.founded made in
    let reports : HasReport status = done_reports c status rests.status_is in record {
      right = λ known. inr (inr (rests.status_is, (performed (HeldIn found.contents) found.offered status output (held_apart found.contents) c job is.is_for is.sound (read_or_told (GivenIn gb gn) found.contents c job is.was_read is.founded known) made).done));
      founded = inr (rests.status_is, rests.done);
      refusal = λ no. absurd (no reports);
      written = λ is. subst HasReport is reports;
      remembered = λ is. subst HasReport is reports;
      names = λ other apart. names_apart other output.kept (keeps c) rests.names apart;
      usage = λ is. absurd (subst HasReport is reports);
      read = λ is. absurd (subst HasReport is reports);
      too_long = λ limit is. absurd (subst HasReport is reports);
      no_command = λ none. cc;
      refused = λ known other wanted is bad no.
          refuses_only_read found.contents wanted c known (subst (λ x. IsRefused x found.contents wanted) (sym (one is)) bad) (λ told.
          elim (tried.bad told wanted (subst (λ x. IsRefused x found.contents wanted) (sym (one is)) bad) (λ unread. no (subst (λ x. IsUnread x found.contents found.looks_before found.looks_now) (one is) unread)))
          [ inl e ↦ cc | inr e ↦ cc ]);
      done = λ known other is good no. subst (λ x. IsDoneStatus x status) (one is) rests.status_is;
    } where
      one : {a b : Command} → Some a ≡ Some b → a ≡ b
      one e = cc

abbrev failed : Status → Result Job (Fail Status)
failed s = Err (Refused s)

-- a command was refused
pub refusal_prepared : {contents_told : Bool} {c : Command} {found : Finding} {gb gn : ℕ} (status answered : Status) (output : Output)
    → IsGathered c (seen_at contents_told found gb gn) (Err (Refused status)) → answered ≡ status → output ≡ refusal_output status → IsPrepared contents_told (Some c) found gb gn answered output
refusal_prepared {contents_told} {c} {found} {gb} {gn} status answered output tried same_status same_output =
    subst (λ s. IsPrepared contents_told (Some c) found gb gn s output) (sym same_status) (subst (λ w. IsPrepared contents_told (Some c) found gb gn status w) (sym same_output) prepared) where
      refusal : IsRefusal status
      refusal = is_refusal c status (tried.refusal status refl)

      one : {a b : Command} → Some a ≡ Some b → a ≡ b
      one e = cc

      told : IsKnown contents_told (Some c) → IsTrue contents_told
      told (inl tells) = tells
      told (inr none) = absurd (reads_nothing_refuses_nothing c status none (tried.refusal status refl))

      prepared : IsPrepared contents_told (Some c) found gb gn status (refusal_output status)
      prepared = record {
        right = λ known. elim (tried.refused (told known) status refl) [
          | inl fault ↦ inl (fault, tried.order (told known) (ap failed fault), refl)
          | inr bad ↦ inr (inl (bad, refl))
        ];
        founded = inl (tried.refusal status refl, refl);
        refusal = λ no. refl;
        written = λ is. subst IsRefusal is refusal;
        remembered = λ is. subst IsRefusal is refusal;
        names = λ other apart. tt;
        usage = λ is. absurd (subst IsRefusal is refusal);
        read = λ is. tried.read (ap failed is);
        too_long = λ limit is. tried.too_long limit (ap failed is);
        no_command = λ none. cc;
        refused = λ known other wanted is bad no.
            elim (tried.bad (told known) wanted (subst (λ x. IsRefused x found.contents wanted) (sym (one is)) bad) (λ unread. no (subst (λ x. IsUnread x found.contents found.looks_before found.looks_now) (one is) unread)))
            [ inl e ↦ cc | inr e ↦ cc ];
        done = λ known other is good no.
            elim (tried.good (told known) (subst (λ x. CanBeDone x found.contents) (sym (one is)) good) (λ unread. no (subst (λ x. IsUnread x found.contents found.looks_before found.looks_now) (one is) unread)))
            [ inl none ↦ cc | inr e ↦ cc ];
      }

-- the refusal that was answered, as its status
pub by_status : {seen : Seen} {sources : List Source} {Refuses : Status → Type 0} {Unread : Type 0} {Bad : Status → Type 0} {Good : Type 0} (fail : Fail Status) (status : Status) → fail ≡ Refused status
    → IsTried {X = Job} seen sources Refuses Unread Bad Good (Err fail) → IsTried {X = Job} seen sources Refuses Unread Bad Good (Err (Refused status))
by_status {seen} {sources} {Refuses} {Unread} {Bad} {Good} fail status is tried = subst (λ (f : Fail Status). IsTried {X = Job} seen sources Refuses Unread Bad Good (Err f)) is tried

-- helpers are not asked by a command that is refused
pub refused_asks_none : {P : Type 0} (c : Command) (status answered : Status) → IsRefusalOf c status → answered ≡ status → IsHelped (Some c) answered → P
refused_asks_none c status answered refusal same helped =
    absurd (refusals_report_nothing status (is_refusal c status refusal) (done_reports c status (subst (IsDoneStatus c) same helped.1)))

-- words that are no command
pub usage_prepared : {contents_told : Bool} {found : Finding} {gb gn : ℕ} (command : Option Command) (status : Status) (output : Output) → command ≡ None → status ≡ BadUsage → output ≡ refusal_output BadUsage
    → IsPrepared contents_told command found gb gn status output
usage_prepared {contents_told} {found} {gb} {gn} command status output none is outputs =
    subst (λ c. IsPrepared contents_told c found gb gn status output) (sym none) (subst (λ s. IsPrepared contents_told None found gb gn s output) (sym is) (subst (λ w. IsPrepared contents_told None found gb gn BadUsage w) (sym outputs) prepared)) where
      prepared : IsPrepared contents_told None found gb gn BadUsage (refusal_output BadUsage)
      prepared = record {
        right = λ known. (refl, refl);
        founded = (refl, refl);
        refusal = λ no. refl;
        written = λ is. cc;
        remembered = λ is. cc;
        names = λ other apart. tt;
        usage = λ is. refl;
        read = λ is. cc;
        too_long = λ limit is. cc;
        no_command = λ none. refl;
        refused = λ known c wanted is bad no. cc;
        done = λ known c is good no. cc;
      }
