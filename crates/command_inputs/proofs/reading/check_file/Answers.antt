use Rattle.std.proofs.Common.{rules}
use Rattle.command_inputs.proofs.Certificates.{AreApart, file_checked, file_faulty}
use Rattle.command_inputs.proofs.reading.check_file.Goals as goal

pub returns-in-Ok-clause-read : goal.returns-in-Ok-clause-read
returns-in-Ok-clause-read g c =
    let laws : AreApart = record {
      text = c.texts_are_unique.ensures.text;
      apart = c.texts_are_unique.ensures.apart;
      fault = c.texts_are_unique.ensures.fault;
      good = c.good_has_no_reason.ensures;
      reason = c.reason_is_unique.ensures;
    } in
    file_checked laws c.in-Ok.checked c.accept.result c.accept.ensures c.in-Ok.ensures.checked c.in-Ok.ensures.given_text

pub returns-in-Err-Refused-Bad-clause-read : goal.returns-in-Err-Refused-Bad-clause-read
returns-in-Err-Refused-Bad-clause-read g c =
    file_faulty c.texts_are_unique.ensures.apart c.texts_are_unique.ensures.fault _ (λ told. c.in-Err-Refused-Bad.ensures.bad told _ (search rules))
