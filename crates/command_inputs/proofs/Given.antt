-- Counts that rose, and what was given between two moments.
use Rattle.std.proofs.Common.{ℕ, ◌≤◌, List, subst, arith}
use Rattle.std.specs.Prelude.{Result, Ok, Err, IfOk}
use Rattle.std.specs.declared.alloc.Global.{Global}
use Rattle.std.specs.declared.vec.Vec.{Vec}
use Rattle.carp_base.specs.declared.fail.Fail.{Fail}
use Rattle.carp_outside.specs.Causes.{RoseBy}
use Rattle.command_line.specs.Commands.{Source}
use Rattle.command_inputs.specs.Files.{GivenIn}
use Rattle.command_inputs.specs.Reads.{AreBytes}
use Rattle.command_inputs.specs.Stages.{AreOfThird, AreOfTwo}
use Rattle.command_inputs.specs.declared.edited.Edited.{Edited}
use Rattle.command_inputs.specs.declared.status.Status.{Status}

-- counts that rose later, or until earlier, rose
pub rose_since : (n before mid now : ℕ) → before ≤ mid → RoseBy n mid now → RoseBy n before now
rose_since n before mid now later rose = omega (arith, later, rose)

pub rose_until : (n before mid now : ℕ) → mid ≤ now → RoseBy n before mid → RoseBy n before now
rose_until n before mid now later rose = omega (arith, later, rose)

-- what was given later, or until earlier, was given
pub given_since : (source : Source) (Is : List ℕ → Type 0) (before mid now : ℕ) → before ≤ mid → GivenIn mid now source Is → GivenIn before now source Is
given_since source Is before mid now later (bytes, rose, is) = (bytes, rose_since _ before mid now later rose, is)

pub given_until : (source : Source) (Is : List ℕ → Type 0) (before mid now : ℕ) → mid ≤ now → GivenIn before mid source Is → GivenIn before now source Is
given_until source Is before mid now later (bytes, rose, is) = (bytes, rose_until _ before mid now later rose, is)

pub third_since : (file cert edits : List ℕ) (x : Edited) (before mid now : ℕ) → before ≤ mid → AreOfThird file cert edits (GivenIn mid now) x → AreOfThird file cert edits (GivenIn before now) x
third_since file cert edits x before mid now later (bytes, rose, is) = (bytes, rose_since _ before mid now later rose, is)

pub two_since : (file cert edits : List ℕ) (x : Edited) (before mid now : ℕ) → before ≤ mid → AreOfTwo file cert edits (GivenIn mid now) x → AreOfTwo file cert edits (GivenIn before now) x
two_since file cert edits x before mid now later (bytes, rose, third) = (bytes, rose_since _ before mid now later rose, third_since file bytes edits x before mid now later third)

-- what is made of the bytes that a file gave, with what was given after them
pub founded_by : {X : Type 0} {P Q : List ℕ → X → Type 0} (source : Source) (before mid now : ℕ) (v : Vec ℕ Global) (r : Result X (Fail Status)) → mid ≤ now
    → GivenIn before mid source (λ bytes. AreBytes bytes v) → ((bytes : List ℕ) (x : X) → P bytes x → Q bytes x) → IfOk r (P v.items)
    → IfOk r (λ x. GivenIn before now source (λ bytes. Q bytes x))
founded_by {P = P} source before mid now v (Ok x) later (own, rose, are) wider is = (own, rose_until _ before mid now later rose, wider own x (subst (λ bytes. P bytes x) are is))
founded_by source before mid now v (Err fail) later file wider is = tt
