use Rattle.plan_print.proofs.lines.push_reason.Goals as goal

pub returns-in-WeightTooLarge : goal.returns-in-WeightTooLarge
returns-in-WeightTooLarge c = rw c.in-WeightTooLarge.is c.write-in-WeightTooLarge.ensures.bytes

pub returns-in-NotLean : goal.returns-in-NotLean
returns-in-NotLean c = rw c.in-NotLean.is c.write-in-NotLean.ensures.bytes

pub returns-in-NotFixed : goal.returns-in-NotFixed
returns-in-NotFixed c = rw c.in-NotFixed.is c.write-in-NotFixed.ensures.bytes

pub returns-in-MissingUpper : goal.returns-in-MissingUpper
returns-in-MissingUpper c = rw c.in-MissingUpper.is c.write-in-MissingUpper.ensures.bytes

pub returns-in-MissingYes : goal.returns-in-MissingYes
returns-in-MissingYes c = rw c.in-MissingYes.is c.write-in-MissingYes.ensures.bytes

pub returns-in-TourTooCheap : goal.returns-in-TourTooCheap
returns-in-TourTooCheap c = rw c.in-TourTooCheap.is c.write-in-TourTooCheap.ensures.bytes
