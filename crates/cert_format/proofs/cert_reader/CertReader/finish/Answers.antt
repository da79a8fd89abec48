use Rattle.std.proofs.Common.{◌≡◌, [], subst, inr}
use Rattle.cert_lines.specs.Texts.{ReadsAs}
use Rattle.cert_format.specs.declared.reader.Standing.{Standing}
use Rattle.cert_format.specs.Held.{StandingHolds}
use Rattle.cert_format.proofs.Standings.{on_ok_then}
use Rattle.cert_format.proofs.cert_reader.CertReader.finish.Goals as goal
use Rattle.cert_lines.specs.declared.next.Next.TheVariants.{Nothing}
use Rattle.cert_lines.specs.Order.{next_of}

pub returns-in-Going-clause-whole : goal.returns-in-Going-clause-whole
returns-in-Going-clause-whole c = λ bytes taken.
    let h = subst (λ (s : Standing). StandingHolds s c.args.self.now bytes) c.in-Going.is taken in
    on_ok_then c.finish_lines.result (c.finish_lines.ensures.whole bytes h.0 h.1 h.2) (λ (w : (h.1 ≡ []) × (next_of h.0 ≡ Nothing)). (h.0, subst (ReadsAs bytes h.0) w.0 h.2.reads, w.1))

pub returns-in-Going-clause-refused : goal.returns-in-Going-clause-refused
returns-in-Going-clause-refused c = λ bytes taken fault is.
    let h = subst (λ (s : Standing). StandingHolds s c.args.self.now bytes) c.in-Going.is taken in
    inr (h.0, h.1, h.2.reads, c.finish_lines.ensures.refused bytes h.0 h.1 h.2 fault is)
