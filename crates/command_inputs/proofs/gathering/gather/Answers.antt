use Rattle.command_inputs.proofs.gathering.gather.Goals as goal

pub returns-in-Check-clause-tried : goal.returns-in-Check-clause-tried
returns-in-Check-clause-tried g c = rw c.in-Check.is c.gather_checked.ensures.tried

pub returns-in-Sheet-clause-tried : goal.returns-in-Sheet-clause-tried
returns-in-Sheet-clause-tried g c = rw c.in-Sheet.is c.gather_plan.ensures.tried

pub returns-in-Upgrade-clause-tried : goal.returns-in-Upgrade-clause-tried
returns-in-Upgrade-clause-tried g c = rw c.in-Upgrade.is c.gather_renewed.ensures.tried

pub returns-in-Edit-clause-tried : goal.returns-in-Edit-clause-tried
returns-in-Edit-clause-tried g c = rw c.in-Edit.is c.gather_edited.ensures.tried

pub returns-in-Improve-clause-tried : goal.returns-in-Improve-clause-tried
returns-in-Improve-clause-tried g c = rw c.in-Improve.is c.gather_held.ensures.tried
