-- The plan of no walks is lawful where nothing is to be served, and a step on no edge makes a plan unlawful.
use Rattle.std.proofs.Common.{[], ◌∷◌, arith}
use Rattle.plan_model.specs.Plans.{IsLawful}
use Rattle.plan_model.specs.Examples.{one_vertex, first_step}

pub nothing_is_lawful : IsLawful one_vertex []
nothing_is_lawful = record { walks = tt; once = λ e required. absurd (omega (arith, required.from_one, required.in_range)) }

pub a_stray_is_unlawful : ¬ (IsLawful one_vertex ((first_step ∷ []) ∷ []))
a_stray_is_unlawful lawful = omega (arith, lawful.walks.0.leads.0.in_range)
