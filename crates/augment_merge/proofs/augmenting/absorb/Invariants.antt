use Rattle.std.proofs.Common.{◌≡◌, ◌≤◌, ◌++◌, List, [], length}
use Rattle.std.specs.Prelude.{IsTrue}
use Rattle.std.specs.List.{AllByRecursion}
use Rattle.carp_base.specs.declared.edge.Task.{Task}
use Rattle.augment_merge.specs.Absorbing.{FlagsSay, IsFlagged, unflagged}
use Rattle.augment_merge.proofs.Absorption.{goes_on}
use Rattle.augment_merge.proofs.augmenting.absorb.Given as goal

abbrev pub invariant-loop-i : goal.invariant-loop-i
invariant-loop-i l = record {
  load_in : l.load ≤ l.inst.capacity;
  long : length l.served ≡ l.inst.required;
  own : AllByRecursion (λ s. IsTrue s.served → IsFlagged l.inst l.served s.edge) l.walk;
  fewer : unflagged l.served ≤ unflagged l.fn.served;
  says : (taken : List Task) → FlagsSay l.inst l.fn.served taken → FlagsSay l.inst l.served (taken ++ l.tour);
  goes : (taken : List Task) → FlagsSay l.inst l.fn.served taken → goes_on l.inst taken l.tour l.load l.walk l.i ≡ goes_on l.inst taken [] l.fn.load l.walk 0;
}
