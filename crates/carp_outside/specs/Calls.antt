-- Numbered calls of one kind, some of which fail.
use Rattle.std.specs.Prelude.{◌≡◌, ℕ, ◌+◌, List, Contains, Result, OnOk, OnErr}
use Rattle.carp_outside.specs.declared.calls.Calls.{Calls}
use Rattle.carp_outside.specs.Causes.{grown}

-- the calls of one kind so far: how many were made, the numbers of those that are to fail, and how many failed
pub record CallLog : Type 0 where
  pub made : ℕ
  pub listed : List ℕ
  pub faults : ℕ

-- no call was made yet
abbrev pub empty_log : List ℕ → CallLog
empty_log listed = record { made = 0; listed = listed; faults = 0 }

-- the next call is to fail; the first call has number 1. A number of more than 64 bits is never listed
abbrev pub IsListed : CallLog → Type 0
IsListed log = Contains log.listed (log.made + 1)

-- one more call was made, and it counts as a fault just where it failed
pub record AddsCall {T E : Type 0} (before now : CallLog) (result : Result T E) : Type 0 where
  pub made : now.made ≡ grown before.made 1
  pub listed : now.listed ≡ before.listed
  pub ok : OnOk result (now.faults ≡ before.faults)
  pub err : OnErr result (now.faults ≡ grown before.faults 1)

abbrev pub log_of : Calls → CallLog
log_of calls = record { made = calls.made; listed = calls.failing.items; faults = calls.faults }
