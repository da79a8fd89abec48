-- Which file was not read, by counts that rose later.
use Rattle.std.proofs.Common.{ℕ, ◌≤◌, List, subst, inl, inr, arith, Option}
use Rattle.std.specs.Prelude.{◌≡◌}
use Rattle.carp_outside.specs.Causes.{Rose}
use Rattle.command_line.specs.Commands.{certificate_at}
use Rattle.command_inputs.specs.Files.{Holds}
use Rattle.command_inputs.specs.Reads.{EachIsGood}
use Rattle.command_inputs.specs.Edited.{AreUnreadTwo}

pub rose_later : (before mid now : ℕ) → before ≤ mid → Rose mid now → Rose before now
rose_later before mid now later rose = omega (arith, later, rose)

-- the second file or the third was not read, by equal contents
pub unread_later : (cert edits : List ℕ) (before mid now : List ℕ → ℕ) {c d : List ℕ → Option (List ℕ)} → c ≡ d → ((name : List ℕ) → before name ≤ mid name)
    → AreUnreadTwo cert edits c mid now → AreUnreadTwo cert edits d before now
unread_later cert edits before mid now {c} {d} same later (inl rose) = inl (rose_later (before cert) (mid cert) (now cert) (later cert) rose)
unread_later cert edits before mid now {c} {d} same later (inr next) =
    inr (subst (λ x. Holds (certificate_at cert) x EachIsGood) same next.0, rose_later (before edits) (mid edits) (now edits) (later edits) next.1)
