use Rattle.std.proofs.Common.{◌∙◌, ap, map, refl}
use Rattle.cert_format.specs.Certs.{certificate_in}
use Rattle.command_outputs.specs.Outputs.{kept_in}
use Rattle.command_outputs.proofs.Solved.{of_ok}
use Rattle.command_outputs.proofs.editing.deliver_edited.Goals as goal

pub returns : goal.returns
returns c = of_ok c.deliver_two.result c.deliver_two.ensures (λ d made. (
  made.0,
  record {
    valid = c.edge_count-after.ensures.valid;
    certificate = certificate_in c.args.cert.now;
    over = c.requires;
    proof = c.good_is_proof.ensures c.args.read.now.after (certificate_in c.args.cert.now) c.edge_count-after.ensures.valid c.requires.good;
    text = c.in_ok-write_cert.field-0.items;
    text_is = c.in_ok-write_cert.ensures.read;
    keeps = ap (map kept_in) made.1 ∙ rw c.in_ok-write_dat.ensures.text refl;
    writes = ap (λ t. t.items) made.2 ∙ c.in_ok-text.ensures ∙ rw (c.saturating_sub.ensures, c.edge_count-before.ensures.value, c.edge_count-after.ensures.value) refl;
  },
))
