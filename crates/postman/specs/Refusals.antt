-- What a refusal to lay a round says.
use Rattle.carp_base.specs.declared.fail.Fail.{Fail}
use Rattle.carp_base.specs.declared.fail.Fail.TheVariants.{Memory, Refused}
use Rattle.carp_base.specs.Problem.{Problem}
use Rattle.postman.specs.Rounds.{IsFirstApart}
use Rattle.postman.specs.declared.fault.PostmanFault.{PostmanFault}
use Rattle.postman.specs.declared.fault.PostmanFault.TheVariants.{NotJoined}

-- a refusal names the least required edge that required edges do not join to the depot; want of memory says nothing of them
abbrev pub RefusesApart : Problem → Fail PostmanFault → Type 0
RefusesApart p Memory = Unit {0}
RefusesApart p (Refused (NotJoined e)) = IsFirstApart p e
