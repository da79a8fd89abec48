use Rattle.std.proofs.Common.{◌≡◌, ◌∙◌, ℕ, ◌+◌, ◌%◌, ◌^◌, map, refl, subst}
use Rattle.std.specs.Prelude.{EachIndex, slice_index, IfOk, OnOk, Result, Ok, Err}
use Rattle.command_line.specs.Forms.{command_in}
use Rattle.command_outputs.specs.Outputs.{output_in}
use Rattle.carp_cli.proofs.Performed.{asks_alike, by_status, job_prepared, refusal_prepared, refused_asks_none}
use Rattle.carp_cli.proofs.running.perform.Goals as goal

of_ok : {X E : Type 0} {P Q : X → Type 0} (r : Result X E) → IfOk r P → ((x : X) → P x → Q x) → IfOk r Q
of_ok (Ok x) holds f = f x holds
of_ok (Err e) holds f = tt

-- what is so of helpers that are asked
if_asked : {X E : Type 0} (A Y : Type 0) (Q : X → Type 0) (r : Result X E) → (A → OnOk r Y) → IfOk r (λ x. A × Q x → Y)
if_asked A Y Q (Ok x) holds = λ so. holds so.0
if_asked A Y Q (Err e) holds = tt

pub returns-in-Ok-clause-prepared : goal.returns-in-Ok-clause-prepared
returns-in-Ok-clause-prepared g c = of_ok c.make.result c.make.ensures.made (λ d made. job_prepared c.in-Ok.job d.status (output_in d) c.in-Ok.ensures.job c.in-Ok.ensures.tried made)

pub returns-in-Ok-clause-unasked : goal.returns-in-Ok-clause-unasked
returns-in-Ok-clause-unasked g c none =
    let alike = asks_alike (command_in c.args.command) c.in-Ok.job c.in-Ok.ensures.job.is_for in
    c.make.ensures.unasked (alike.0 ∙ none)

pub returns-in-Ok-clause-seeds : goal.returns-in-Ok-clause-seeds
returns-in-Ok-clause-seeds g c =
    let alike = asks_alike (command_in c.args.command) c.in-Ok.job c.in-Ok.ensures.job.is_for in
    if_asked _ _ _ c.make.result (λ asks. subst (λ (s : ℕ). OnOk c.make.result (EachIndex c.make.new.helpers.items (λ k. slice_index (map g.P.Proposer.seed c.make.new.helpers.items) k ≡ (s + k) % 2 ^ 64)))
    alike.1 (c.make.ensures.seeds (alike.0 ∙ asks)))

pub returns-in-Ok-clause-asked : goal.returns-in-Ok-clause-asked
returns-in-Ok-clause-asked g c =
    let alike = asks_alike (command_in c.args.command) c.in-Ok.job c.in-Ok.ensures.job.is_for in
    if_asked _ _ _ c.make.result (λ asks. c.make.ensures.asked (alike.0 ∙ asks))

pub returns-in-Ok-clause-fouls : goal.returns-in-Ok-clause-fouls
returns-in-Ok-clause-fouls g c =
    let alike = asks_alike (command_in c.args.command) c.in-Ok.job c.in-Ok.ensures.job.is_for in
    if_asked _ _ _ c.make.result (λ asks. c.make.ensures.fouls (alike.0 ∙ asks))

pub returns-in-Err-Refused-clause-prepared : goal.returns-in-Err-Refused-clause-prepared
returns-in-Err-Refused-clause-prepared g c =
    of_ok c.refuse.result c.refuse.ensures (λ d is. refusal_prepared c.in-Err-Refused.status d.status (output_in d) (by_status c.in-Err-Refused.field-0 c.in-Err-Refused.status c.in-Err-Refused.field-0-is c.in-Err-Refused.ensures.tried) is.0 is.1)

pub returns-in-Err-Refused-clause-seeds : goal.returns-in-Err-Refused-clause-seeds
returns-in-Err-Refused-clause-seeds g c =
    of_ok c.refuse.result c.refuse.ensures (λ d is. refused_asks_none (command_in c.args.command) c.in-Err-Refused.status d.status ((by_status c.in-Err-Refused.field-0 c.in-Err-Refused.status c.in-Err-Refused.field-0-is c.in-Err-Refused.ensures.tried).refusal c.in-Err-Refused.status refl) is.0)

pub returns-in-Err-Refused-clause-asked : goal.returns-in-Err-Refused-clause-asked
returns-in-Err-Refused-clause-asked g c =
    of_ok c.refuse.result c.refuse.ensures (λ d is. refused_asks_none (command_in c.args.command) c.in-Err-Refused.status d.status ((by_status c.in-Err-Refused.field-0 c.in-Err-Refused.status c.in-Err-Refused.field-0-is c.in-Err-Refused.ensures.tried).refusal c.in-Err-Refused.status refl) is.0)

pub returns-in-Err-Refused-clause-fouls : goal.returns-in-Err-Refused-clause-fouls
returns-in-Err-Refused-clause-fouls g c =
    of_ok c.refuse.result c.refuse.ensures (λ d is. refused_asks_none (command_in c.args.command) c.in-Err-Refused.status d.status ((by_status c.in-Err-Refused.field-0 c.in-Err-Refused.status c.in-Err-Refused.field-0-is c.in-Err-Refused.ensures.tried).refusal c.in-Err-Refused.status refl) is.0)
