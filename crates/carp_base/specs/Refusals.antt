-- What a refusal of a description says.
use Rattle.carp_base.specs.declared.fail.Fail.{Fail}
use Rattle.carp_base.specs.declared.fail.Fail.TheVariants.{Memory, Refused}
use Rattle.carp_base.specs.declared.fault.InstanceFault.{InstanceFault}
use Rattle.carp_base.specs.Problem.{Problem}
use Rattle.carp_base.specs.Faults.{IsFirstFault}

-- a refusal names the first fault; want of memory says nothing of the description
abbrev pub RefusesFirstFault : Problem → Fail InstanceFault → Type 0
RefusesFirstFault p Memory = Unit {0}
RefusesFirstFault p (Refused fault) = IsFirstFault p fault
