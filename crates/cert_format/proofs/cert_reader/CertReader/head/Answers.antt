use Rattle.cert_format.proofs.Standings.{head_of, head_told}
use Rattle.cert_format.proofs.cert_reader.CertReader.head.Goals as goal

pub returns-in_default : goal.returns-in_default
returns-in_default c = record {
  there = λ bytes said taken says. head_told c.head.result c.args.self.now.draft.head said c.head.ensures
      (head_of c.args.self.now.standing c.args.self.now bytes said c.readings_are_unique.ensures.reading c.readings_are_unique.ensures.apart c.readings_are_unique.ensures.bad taken says);
  failed = λ e. absurd (c.in_default.not-OutOfMemory e);
}
