use Rattle.std.proofs.Common.{rules}
use Rattle.cert_format.specs.Certs.{certificate_in}
use Rattle.cert_format.specs.Good.{IsGood}
use Rattle.cert_checker.specs.Reasons.{IsFirstReason}
use Rattle.command_inputs.proofs.Certificates.{AreApart, accepted, rejected}
use Rattle.command_inputs.proofs.reading.judge_cert.Goals as goal

pub check-requires : goal.check-requires
check-requires c = c.read_is_spelled.ensures.spellable c.args._bytes.now _ c.requires

pub returns-in-Ok-Accepted : goal.returns-in-Ok-Accepted
returns-in-Ok-Accepted c =
    let laws : AreApart = record {
      text = c.texts_are_unique.ensures.text;
      apart = c.texts_are_unique.ensures.apart;
      fault = c.texts_are_unique.ensures.fault;
      good = c.good_has_no_reason.ensures;
      reason = c.reason_is_unique.ensures;
    } in
    let good : IsGood c.args.inst.now (certificate_in c.args.cert) = search rules in
    accepted laws c.args._bytes.now _ c.args.cert c.requires good (record {
      text = c.requires;
      spellable = c.read_is_spelled.ensures.spellable c.args._bytes.now _ c.requires;
      good = good;
    })

pub returns-in-Ok-Rejected : goal.returns-in-Ok-Rejected
returns-in-Ok-Rejected c =
    let laws : AreApart = record {
      text = c.texts_are_unique.ensures.text;
      apart = c.texts_are_unique.ensures.apart;
      fault = c.texts_are_unique.ensures.fault;
      good = c.good_has_no_reason.ensures;
      reason = c.reason_is_unique.ensures;
    } in
    let first : IsFirstReason c.args.inst.now (certificate_in c.args.cert) c.in-Ok-Rejected.reason = search rules in
    rejected laws c.args._bytes.now _ c.in-Ok-Rejected.reason c.requires first
