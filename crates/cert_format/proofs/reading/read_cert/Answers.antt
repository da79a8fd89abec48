use Rattle.std.proofs.Common.{◌≡◌, sym, subst, rules}
use Rattle.carp_base.specs.declared.fail.Fail.TheVariants.{Refused}
use Rattle.cert_lines.specs.Texts.{IsTextOf}
use Rattle.cert_format.specs.declared.cert.Cert.{Cert}
use Rattle.cert_format.specs.declared.reader.Standing.{Standing}
use Rattle.cert_format.specs.Certs.{certificate_in}
use Rattle.cert_format.specs.Held.{StandingHolds}
use Rattle.cert_format.proofs.TreeSteps.{text_read}
use Rattle.cert_format.proofs.reading.read_cert.Goals as goal

pub returns-in-Err-finish-clause-refused : goal.returns-in-Err-finish-clause-refused
returns-in-Err-finish-clause-refused c = λ fault is.
    let r = c.in-Ok.ensures.read in
    let same : c.in-Err-finish.fail ≡ Refused fault = (let b = is in cc) in
    c.in-Err-finish.ensures.refused c.args.bytes.now (subst (λ (s : Standing). StandingHolds s c.read_nodes.new.reader c.args.bytes.now) (sym c.in-Ok.ensures.going) (r.said, r.rest, r.going)) fault (search rules)

pub returns-clause-read : goal.returns-clause-read
returns-clause-read c =
    let r = c.in-Ok.ensures.read in
    let taken = subst (λ (s : Standing). StandingHolds s c.read_nodes.new.reader c.args.bytes.now) (sym c.in-Ok.ensures.going) (r.said, r.rest, r.going) in
    subst (λ (x : Cert). IsTextOf c.args.bytes.now (certificate_in x)) (sym c.into_cert.ensures) (text_read c.readings_are_unique.ensures.reading r (c.in_default.ensures.whole c.args.bytes.now taken))
