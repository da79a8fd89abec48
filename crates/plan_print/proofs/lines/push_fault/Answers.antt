use Rattle.plan_print.proofs.lines.push_fault.Goals as goal

pub returns-in-CountDiffers : goal.returns-in-CountDiffers
returns-in-CountDiffers c = rw c.in-CountDiffers.is c.write-in-CountDiffers.ensures.bytes

pub returns-in-NumberTooLong : goal.returns-in-NumberTooLong
returns-in-NumberTooLong c = rw c.in-NumberTooLong.is c.write-in-NumberTooLong.ensures.bytes
