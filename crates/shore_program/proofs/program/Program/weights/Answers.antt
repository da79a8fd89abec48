use Rattle.shore_program.proofs.program.Program.weights.Goals as goal

pub returns-clause-packs : goal.returns-clause-packs
returns-clause-packs c = rw (← c.self.view_is) c.lay_out.ensures.packs
