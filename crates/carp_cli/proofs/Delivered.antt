-- What is left of an answer that was given whole or in part.
use Rattle.std.proofs.Common.{◌≡◌, ◌≢◌, ℕ, ◌++◌, List, [], ◌∷◌, refl, sym, ◌∙◌, subst, inl, inr, IsTrue, Bool, Option, None, Some}
use Rattle.std.proofs.Math.Path.{fun_ext}
use Rattle.std.specs.List.{AllByRecursion}
use Rattle.std.specs.Prelude.{◌⊎◌}
use Rattle.carp_outside.specs.Causes.{Rose}
use Rattle.carp_outside.specs.Told.{SameContents, WroteFront}
use Rattle.command_line.specs.Commands.{Command}
use Rattle.command_outputs.specs.Outputs.{Kept, Output}
use Rattle.carp_cli.specs.Outside.{Outside, found, AreKept, AreKeptInPart, IsLeftShort}
use Rattle.carp_cli.specs.Runs.{IsHelped, Leaves}
use Rattle.carp_cli.specs.Steps.{IsPrepared}
use Rattle.carp_cli.proofs.Refusing.{done_reports}
use Rattle.command_inputs.specs.declared.status.Status.{Status}
use Rattle.command_inputs.specs.declared.status.Status.TheVariants.{WriteFault, Memory}

kept_elsewhere : (kept : List Kept) (before now : List ℕ → Option (List ℕ)) → AreKept kept before now → (other : List ℕ) → AllByRecursion (λ k. other ≢ k.name) kept → now other ≡ before other
kept_elsewhere [] before now same other apart = same other
kept_elsewhere (k ∷ ks) before now (next, first, others) other apart = kept_elsewhere ks next now others other apart.1 ∙ first.others other apart.0

part_elsewhere : (kept : List Kept) (before now : List ℕ → Option (List ℕ)) → AreKeptInPart kept before now → (other : List ℕ) → AllByRecursion (λ k. other ≢ k.name) kept → now other ≡ before other
part_elsewhere [] before now none other apart = absurd none
part_elsewhere (k ∷ ks) before now (inl front) other apart = front.others other apart.0
part_elsewhere (k ∷ ks) before now (inr (next, first, others)) other apart = part_elsewhere ks next now others other apart.1 ∙ first.others other apart.0

pub whole_leaves : {contents_told written_told : Bool} {command : Option Command} {before now : Outside} (status : Status) (output : Output)
    → IsPrepared contents_told command (found before now) before.given now.given status output
    → (IsTrue contents_told → AreKept output.kept before.contents now.contents) → (IsTrue written_told → now.written ≡ before.written ++ output.text) → Leaves contents_told written_told command before now status
whole_leaves {contents_told} {written_told} {command} {before} {now} status output prepared kept wrote = record {
  whole = λ written remembered. record {
    output = output;
    answer = record { right = prepared.right; founded = prepared.founded; refusal = prepared.refusal };
    kept = kept;
    wrote = wrote;
  };
  cut = λ is. absurd (prepared.written is);
  untouched = λ is. absurd (prepared.remembered is);
  elsewhere = λ tells other apart. kept_elsewhere output.kept before.contents now.contents (kept tells) other (prepared.names other apart);
  usage = prepared.usage;
  read = prepared.read;
  write = λ is. absurd (prepared.written is);
  too_long = prepared.too_long;
  no_command = λ none. inl (prepared.no_command none);
  refused = λ known c wanted is bad no. inl (prepared.refused known c wanted is bad no);
  done = λ known c is good no. inl (prepared.done known c is good no);
}

pub part_leaves : {contents_told written_told : Bool} {command : Option Command} {before now : Outside} (status : Status) (output : Output)
    → IsPrepared contents_told command (found before now) before.given now.given status output → IsLeftShort contents_told written_told output before now → Leaves contents_told written_told command before now WriteFault
part_leaves {contents_told} {written_told} {command} {before} {now} status output prepared left = record {
  whole = λ written remembered. absurd (written refl);
  cut = λ is. record {
    status = status;
    output = output;
    answer = record { right = prepared.right; founded = prepared.founded; refusal = prepared.refusal };
    left = left;
  };
  untouched = λ is. cc;
  elsewhere = λ tells other apart. elim left [
    | inl front ↦ part_elsewhere output.kept before.contents now.contents (front.1 tells) other (prepared.names other apart)
    | inr whole ↦ kept_elsewhere output.kept before.contents now.contents (whole.1 tells) other (prepared.names other apart)
  ];
  usage = λ is. cc;
  read = λ is. cc;
  write = λ is. elim left [ inl front ↦ inl front.0 | inr whole ↦ inr whole.0 ];
  too_long = λ limit is. cc;
  no_command = λ none. inr (inl refl);
  refused = λ known c wanted is bad no. inr (inl refl);
  done = λ known c is good no. inr (inl refl);
}

pub nothing_leaves : {contents_told written_told : Bool} {command : Option Command} {before now : Outside} → (IsTrue contents_told → SameContents before.contents now.contents) → (IsTrue written_told → now.written ≡ before.written)
    → Leaves contents_told written_told command before now Memory
nothing_leaves kept wrote = record {
  whole = λ written remembered. absurd (remembered refl);
  cut = λ is. cc;
  untouched = λ is. record { kept = kept; wrote = wrote };
  elsewhere = λ tells other apart. kept tells other;
  usage = λ is. cc;
  read = λ is. cc;
  write = λ is. cc;
  too_long = λ limit is. cc;
  no_command = λ none. inr (inr refl);
  refused = λ known c wanted is bad no. inr (inr refl);
  done = λ known c is good no. inr (inr refl);
}

-- what was prepared is delivered, whole or in part
pub delivered : {contents_told written_told : Bool} {command : Option Command} {before now : Outside} {looks : List ℕ → ℕ} {given keeps : ℕ} {contents : List ℕ → Option (List ℕ)} (status : Status) (output : Output) (answer : Status)
    → IsPrepared contents_told command (record { contents = before.contents; looks_before = before.failed_looks; looks_now = looks; offered = now.offered }) before.given given status output
    → ((name : List ℕ) → now.failed_looks name ≡ looks name) → now.given ≡ given → keeps ≡ before.failed_keeps → (IsTrue contents_told → SameContents before.contents contents)
    → (answer ≡ status) ⊎ (answer ≡ WriteFault) → (IsTrue contents_told → answer ≢ WriteFault → AreKept output.kept contents now.contents)
    → (IsTrue written_told → answer ≢ WriteFault → now.written ≡ before.written ++ output.text)
    → (answer ≡ WriteFault → (status ≡ WriteFault)
    ⊎ ((Rose keeps now.failed_keeps × (IsTrue contents_told → AreKeptInPart output.kept contents now.contents) × (IsTrue written_told → now.written ≡ before.written))
    ⊎ (Rose before.failed_puts now.failed_puts × (IsTrue contents_told → AreKept output.kept contents now.contents) × (IsTrue written_told → WroteFront output.text before.written now.written))))
    → Leaves contents_told written_told command before now answer
delivered {contents_told} {written_told} {command} {before} {now} {looks} {given} {keeps} {contents} status output answer prepared same_looks same_given same_keeps same ends kept wrote cut =
    let prepared1 = subst (λ l. IsPrepared contents_told command (record { contents = before.contents; looks_before = before.failed_looks; looks_now = l; offered = now.offered }) before.given given status output)
    (sym (fun_ext same_looks)) prepared in
    let prepared2 : IsPrepared contents_told command (found before now) before.given now.given status output =
    subst (λ n. IsPrepared contents_told command (found before now) before.given n status output) (sym same_given) prepared1 in
    elim ends [
      | inl is ↦ subst (Leaves contents_told written_told command before now) (sym is) (whole_leaves status output prepared2
          (λ tells. subst (λ x. AreKept output.kept x now.contents) (fun_ext (same tells)) (kept tells (λ e. prepared.written (sym is ∙ e))))
          (λ tells. wrote tells (λ e. prepared.written (sym is ∙ e))))
      | inr is ↦ subst (Leaves contents_told written_told command before now) (sym is) (part_leaves status output prepared2 (short (cut is)))
    ] where
      short : (status ≡ WriteFault) ⊎ ((Rose keeps now.failed_keeps × (IsTrue contents_told → AreKeptInPart output.kept contents now.contents) × (IsTrue written_told → now.written ≡ before.written))
          ⊎ (Rose before.failed_puts now.failed_puts × (IsTrue contents_told → AreKept output.kept contents now.contents) × (IsTrue written_told → WroteFront output.text before.written now.written)))
          → IsLeftShort contents_told written_told output before now
      short (inl is) = absurd (prepared.written is)
      short (inr (inl (rose, front, none))) = inl (subst (λ n. Rose n now.failed_keeps) same_keeps rose, (λ tells. subst (λ x. AreKeptInPart output.kept x now.contents) (fun_ext (same tells)) (front tells)), none)
      short (inr (inr (rose, whole, front))) = inr (rose, (λ tells. subst (λ x. AreKept output.kept x now.contents) (fun_ext (same tells)) (whole tells)), front)

-- helpers are asked by a command that is done
pub cut_is_not_helped : (command : Option Command) → IsHelped command WriteFault → ⊥
cut_is_not_helped None none = none
cut_is_not_helped (Some c) (asks, done) = done_reports c WriteFault done

pub memory_is_not_helped : (command : Option Command) → IsHelped command Memory → ⊥
memory_is_not_helped None none = none
memory_is_not_helped (Some c) (asks, done) = done_reports c Memory done
