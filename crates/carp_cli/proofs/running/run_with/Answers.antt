use Rattle.std.proofs.Common.{inl, inr, subst}
use Rattle.carp_cli.specs.Runs.{IsHelped}
use Rattle.command_outputs.specs.Outputs.{output_in}
use Rattle.command_line.specs.Words.{command_of, texts_of}
use Rattle.carp_cli.proofs.Delivered.{cut_is_not_helped, delivered, memory_is_not_helped}
use Rattle.carp_cli.proofs.running.run_with.Goals as goal

pub returns-in-Ok-clause-leaves : goal.returns-in-Ok-clause-leaves
returns-in-Ok-clause-leaves g c =
    delivered c.in-Ok.delivery.status (output_in c.in-Ok.delivery) c.deliver.result c.in-Ok.ensures.prepared c.deliver.ensures.looks c.deliver.ensures.given c.in-Ok.ensures.keeps c.in-Ok.ensures.contents
    c.deliver.ensures.answer c.deliver.ensures.kept c.deliver.ensures.wrote c.deliver.ensures.cut

pub returns-in-Ok-clause-helpers : goal.returns-in-Ok-clause-helpers
returns-in-Ok-clause-helpers g c =
    let command = command_of (texts_of c.args.words.now) in
    record {
      order = c.in-Ok.ensures.helpers;
      unasked = c.in-Ok.ensures.unasked;
      seeds = λ helped. elim c.deliver.ensures.answer [
        | inl same ↦ c.in-Ok.ensures.seeds (subst (IsHelped command) same helped)
        | inr cut ↦ absurd (cut_is_not_helped command (subst (IsHelped command) cut helped))
      ];
      asked = λ helped. elim c.deliver.ensures.answer [
        | inl same ↦ c.in-Ok.ensures.asked (subst (IsHelped command) same helped)
        | inr cut ↦ absurd (cut_is_not_helped command (subst (IsHelped command) cut helped))
      ];
      few_fouls = λ helped. elim c.deliver.ensures.answer [
        | inl same ↦ c.in-Ok.ensures.fouls (subst (IsHelped command) same helped)
        | inr cut ↦ absurd (cut_is_not_helped command (subst (IsHelped command) cut helped))
      ];
    }

pub returns-in-Err-clause-helpers : goal.returns-in-Err-clause-helpers
returns-in-Err-clause-helpers g c =
    let none = memory_is_not_helped (command_of (texts_of c.args.words.now)) in
    record {
      order = c.in-Err.ensures.helpers;
      unasked = c.in-Err.ensures.unasked;
      seeds = λ helped. absurd (none helped);
      asked = λ helped. absurd (none helped);
      few_fouls = λ helped. absurd (none helped);
    }
