-- The lines that are written where an input is refused.
use Rattle.std.specs.Prelude.{ℕ, ◌++◌, List, [], codes, decimal}
use Rattle.std.specs.Fmt.{signed_decimal}
use Rattle.carp_base.specs.declared.fault.InstanceFault.{InstanceFault}
use Rattle.carp_base.specs.declared.fault.InstanceFault.TheVariants.{TooManyVertices, TooManyEdges, TooManyRequired, EndOutOfRange, Loop, CostTooLarge, CapacityOutOfRange, ZeroDemand, Overweight, DepotOutOfRange, TooManyStates, Unreachable, ServiceTooLarge}
use Rattle.dat_text.specs.declared.fault.DatFault.{DatFault}
use Rattle.dat_text.specs.declared.fault.DatFault.TheVariants as dat
use Rattle.dat_text.specs.Lines.{key_name}
use Rattle.instance_edits.specs.declared.edit.EditFault.{EditFault}
use Rattle.instance_edits.specs.declared.edit.EditFault.TheVariants as edit
use Rattle.plan_model.specs.declared.verdict.Verdict.{Verdict}
use Rattle.plan_model.specs.declared.verdict.Verdict.TheVariants.{Lawful, Broken, NotAtDepot, ServesOther, ServedTwice, NotServed, Overload}
use Rattle.cert_lines.specs.declared.fault.CertFault.{CertFault}
use Rattle.cert_lines.specs.declared.fault.CertFault.TheVariants as cert
use Rattle.cert_checker.specs.declared.reason.Part.{Part}
use Rattle.cert_checker.specs.declared.reason.Part.TheVariants.{Shore, Prices, Node}
use Rattle.cert_checker.specs.declared.reason.Reason.{Reason}
use Rattle.cert_checker.specs.declared.reason.Reason.TheVariants.{PlanUnlawful, CostDiffers, Misfit, WeightTooLarge, CountsDiffer, NotLean, NotVoid, NotFixed, MissingUpper, MissingYes, TourTooCheap, LeafLow}

-- words, a number, and what follows
abbrev pub around : List ℕ → ℕ → List ℕ → List ℕ
around before number after = before ++ (decimal number ++ after)

-- what is wrong with the instance that a text describes
abbrev pub instance_words : InstanceFault → List ℕ
instance_words (TooManyVertices n) = decimal n ++ codes " vertices are too many"
instance_words (TooManyEdges n) = decimal n ++ codes " edges are too many"
instance_words (TooManyRequired n) = decimal n ++ codes " required edges are too many"
instance_words (EndOutOfRange e) = around (codes "edge ") e (codes " has an end out of range")
instance_words (Loop e) = around (codes "edge ") e (codes " is a loop")
instance_words (CostTooLarge e) = around (codes "edge ") e (codes " has too large a cost")
instance_words (CapacityOutOfRange n) = around (codes "capacity ") n (codes " is out of range")
instance_words (ZeroDemand e) = around (codes "required edge ") e (codes " has demand 0")
instance_words (Overweight e) = around (codes "edge ") e (codes " has a demand above the capacity")
instance_words (DepotOutOfRange n) = around (codes "depot ") n (codes " is out of range")
instance_words (TooManyStates n) = decimal n ++ codes " states are too many"
instance_words (Unreachable e) = around (codes "edge ") e (codes " cannot be reached")
instance_words (ServiceTooLarge e) = around (codes "edge ") e (codes " has too large a service cost")

-- what is wrong with an instance file
abbrev pub fault_words : DatFault → List ℕ
fault_words (dat.Syntax line) = around (codes "line ") line (codes " cannot be read")
fault_words (dat.MissingKey key) = codes "key " ++ (key_name key ++ codes " is missing")
fault_words (dat.DoubleKey key) = codes "key " ++ (key_name key ++ codes " stands twice")
fault_words (dat.CountDiffers key stated found) = key_name key ++ around (codes " states ") stated (codes " and the list has " ++ decimal found)
fault_words (dat.NumberTooLong line) = around (codes "line ") line (codes " has a number of more than 18 digits")
fault_words (dat.Refused fault) = instance_words fault

-- the line for a fault of an instance file
unfoldable pub instance_fault_line : DatFault → List ℕ
instance_fault_line fault = codes "bad instance: " ++ fault_words fault ++ codes "\n"

-- what is wrong with the text of a certificate
abbrev pub certificate_words : CertFault → List ℕ
certificate_words (cert.Syntax line) = around (codes "line ") line (codes " cannot be read")
certificate_words (cert.Limit line) = around (codes "line ") line (codes " passes a limit")
certificate_words (cert.Truncated line) = around (codes "ends before line ") line (codes " is complete")

-- the line for a fault of a certificate's text
unfoldable pub certificate_fault_line : CertFault → List ℕ
certificate_fault_line fault = codes "bad certificate: " ++ certificate_words fault ++ codes "\n"

-- what is wrong with edits, or with the edited instance
abbrev pub edit_words : EditFault → List ℕ
edit_words (edit.Syntax line) = around (codes "line ") line (codes " cannot be read")
edit_words (edit.Unknown line) = around (codes "line ") line (codes " names a wrong edge")
edit_words (edit.Refused fault) = instance_words fault

-- the line for a fault of edits
unfoldable pub edit_fault_line : EditFault → List ℕ
edit_fault_line fault = codes "bad edit: " ++ edit_words fault ++ codes "\n"

-- what is first wrong with a plan, and nothing of a lawful one
abbrev pub verdict_words : Verdict → List ℕ
verdict_words (Lawful cost) = []
verdict_words (Broken tour step) = around (codes "tour ") tour (around (codes " step ") step (codes " is broken"))
verdict_words (NotAtDepot tour) = around (codes "tour ") tour (codes " does not start and end at the depot")
verdict_words (ServesOther edge) = around (codes "edge ") edge (codes " is served and not required")
verdict_words (ServedTwice edge) = around (codes "edge ") edge (codes " is served twice")
verdict_words (NotServed edge) = around (codes "edge ") edge (codes " is not served")
verdict_words (Overload tour load) = around (codes "tour ") tour (codes " has load " ++ decimal load)

-- what does not fit the instance
abbrev pub misfit_words : Part → List ℕ
misfit_words (Shore i) = around (codes "shore ") i (codes " does not fit the instance")
misfit_words (Prices j) = around (codes "prices ") j (codes " do not fit the instance")
misfit_words (Node k) = around (codes "node ") k (codes " does not fit the instance")

-- why a certificate is not good
abbrev pub reason_words : Reason → List ℕ
reason_words (PlanUnlawful verdict) = verdict_words verdict
reason_words (CostDiffers stated found) = around (codes "cost ") stated (around (codes " is stated and ") found (codes " is true"))
reason_words (Misfit part) = misfit_words part
reason_words (WeightTooLarge set edge price) = around (codes "set ") set (around (codes " prices edge ") edge (codes " at " ++ signed_decimal price))
reason_words (NotLean node) = around (codes "node ") node (codes " is not lean")
reason_words (NotVoid node) = around (codes "node ") node (codes " is not void")
reason_words (NotFixed node) = around (codes "node ") node (codes " is not fixed")
reason_words (MissingUpper set node shore) = around (codes "set ") set (around (codes " at node ") node (codes " has no upper number for shore " ++ decimal shore))
reason_words (MissingYes set node a b) =
    around (codes "set ") set (around (codes " at node ") node (around (codes " needs the pair ") a (codes " " ++ decimal b)))
reason_words (TourTooCheap set node value) = around (codes "set ") set (around (codes " at node ") node (codes " has a tour at " ++ signed_decimal value))
reason_words (LeafLow node value limit) = around (codes "node ") node (codes " has value " ++ (signed_decimal value ++ (codes ", not above " ++ signed_decimal limit)))
reason_words (CountsDiffer place stated found) = around (codes "count ") place (around (codes " is ") stated (codes " and the instance has " ++ decimal found))

-- the line for the first reason why a certificate is not good
unfoldable pub rejection_line : Reason → List ℕ
rejection_line reason = codes "rejected: " ++ reason_words reason ++ codes "\n"
