use Rattle.std.proofs.Common.{◌≡◌, List, ℕ, sym, subst}
use Rattle.cert_lines.specs.Texts.{IsTextOf}
use Rattle.cert_lines.specs.Spelling.{text_of}
use Rattle.cert_format.proofs.Wholes.{text_is}
use Rattle.cert_format.specs.Certs.{certificate_in}
use Rattle.cert_format.proofs.writing.write_cert.Goals as goal

spelled : (c : goal.In_ok-push_nodes) → c.push_nodes.new.text.items ≡ text_of (certificate_in c.args.cert.now)
spelled c =
    rw (c.in_ok-push_nodes.ensures, c.in_ok-push_sets.ensures, c.in_ok-push_pool.ensures, c.in_ok-push_plan.ensures, c.in_ok-push_values.ensures, c.in_ok-push_version.ensures, c.new-text.ensures.items, c.has_groups-grouped.ensures, c.deref.ensures.value, c.deref-2.ensures.value)
    (text_is (certificate_in c.args.cert.now))

pub returns-clause-spelled : goal.returns-clause-spelled
returns-clause-spelled c = spelled c

pub returns-clause-read : goal.returns-clause-read
returns-clause-read c =
    subst (λ (bytes : List ℕ). IsTextOf bytes (certificate_in c.args.cert.now)) (sym (spelled c))
    (c.spelled_is_read.ensures (certificate_in c.args.cert.now) c.requires)
