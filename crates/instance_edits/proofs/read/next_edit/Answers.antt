use Rattle.std.proofs.Common.{◌∙◌, sym, refl, subst}
use Rattle.instance_edits.specs.declared.edit.Edit.{Edit}
use Rattle.instance_edits.specs.Reading.{edit_of, IsNext}
use Rattle.instance_edits.proofs.Lines.{none_told}
use Rattle.instance_edits.proofs.Known.{next_is, unknown_is, line_some, line_none}
use Rattle.instance_edits.proofs.read.next_edit.Goals as goal

pub returns-in_default : goal.returns-in_default
returns-in_default c = λ before marked. (refl, none_told c.args.text.now (line_none c.args.text.now c.line_at.result c.line_at.ensures c.in_default.is))

pub returns-then-not-is_known : goal.returns-then-not-is_known
returns-then-not-is_known c =
    λ before marked. (
      refl,
      unknown_is c.args.inst.now c.args.closed.now before c.requires marked c.args.text.now (edit_of c.in-Some.line) c.in-Some.rest.now
          (line_some c.args.text.now c.line_at.result c.in-Some.line c.in-Some.rest c.line_at.ensures c.in-Some.is) (sym c.is_known.ensures.known ∙ c.if-not-is_known.true),
    )

pub returns : goal.returns
returns c =
    λ before marked. subst (λ (x : Edit). IsNext c.args.inst.now before c.args.text.now x c.in-Some.rest.now) (sym c.edit_of.ensures)
    (next_is c.args.inst.now c.args.closed.now before c.requires marked c.args.text.now (edit_of c.in-Some.line) c.in-Some.rest.now
    (line_some c.args.text.now c.line_at.result c.in-Some.line c.in-Some.rest c.line_at.ensures c.in-Some.is) (sym c.is_known.ensures.known ∙ c.if-not-is_known.false))
