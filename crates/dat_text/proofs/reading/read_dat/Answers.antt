use Rattle.std.proofs.Common.{ap, length, arith}
use Rattle.dat_text.specs.Drafts.{description_of}
use Rattle.dat_text.proofs.WholeTexts.{required_within, others_within}
use Rattle.dat_text.proofs.reading.read_dat.Goals as goal

pub build-requires-clause-few_required : goal.build-requires-clause-few_required
build-requires-clause-few_required c =
    omega (arith, c.requires, ap length c.deref.ensures.value, required_within c.args.bytes.now (description_of c.in_ok-text.text) c.in_ok-text.ensures)

pub build-requires-clause-few_others : goal.build-requires-clause-few_others
build-requires-clause-few_others c =
    omega (arith, c.requires, ap length c.deref-2.ensures.value, others_within c.args.bytes.now (description_of c.in_ok-text.text) c.in_ok-text.ensures)
