use Rattle.std.proofs.Common.{◌≡◌, ◌++◌, take, sym, ap, subst, ◌∙◌}
use Rattle.cert_format.specs.declared.reader.Standing.{Standing}
use Rattle.cert_format.specs.Held.{StandingHolds, IsBroken}
use Rattle.cert_format.proofs.MoreBytes.{gives_of}
use Rattle.cert_format.proofs.Standings.{if_ok_then, still_broken}
use Rattle.cert_lines.specs.declared.fault.CertFault.{CertFault}
use Rattle.cert_format.specs.declared.reader.Standing.TheVariants.{Bad}
use Rattle.cert_format.proofs.cert_reader.CertReader.feed.Goals as goal

pub returns-in-Bad-clause-bad : goal.returns-in-Bad-clause-bad
returns-in-Bad-clause-bad c = λ bytes taken fault is.
    let h = subst (λ (s : Standing). StandingHolds s c.args.self.now bytes) c.in-Bad.is taken in
    let same : c.in-Bad.fault ≡ fault = (let b = is in cc) in
    let standing : c.args.self.now.standing ≡ Bad fault = c.in-Bad.is ∙ ap Bad same in
    let broken = still_broken c.args.piece.now (subst (λ (f : CertFault). IsBroken c.args.self.now bytes f) same h) in
    ((broken.said, broken.breaks), subst (λ (s : Standing). StandingHolds s c.args.self.now (bytes ++ c.args.piece.now)) (sym standing) broken, standing)

pub returns-clause-gives : goal.returns-clause-gives
returns-clause-gives c = λ bytes taken.
    let h = subst (λ (s : Standing). StandingHolds s c.args.self.now bytes) c.in-Going.is taken in
    if_ok_then c.feed_lines.result (c.feed_lines.ensures.gives bytes h.0 h.1 h.2) c.feed_lines.ensures.going (λ x p going. (
      gives_of c.args.piece.now x.0 x.1 h.2 p.0 p.1 p.2,
      subst (λ (s : Standing). StandingHolds s c.feed_lines.new.self (bytes ++ take x.0 c.args.piece.now)) (sym going) (p.2.said, p.2.rest, p.2.going),
    ))

pub returns-clause-bad : goal.returns-clause-bad
returns-clause-bad c = λ bytes taken fault is.
    let h = subst (λ (s : Standing). StandingHolds s c.args.self.now bytes) c.in-Going.is taken in
    let b = c.feed_lines.ensures.bad bytes h.0 h.1 h.2 fault is in
    ((b.0.said, b.0.breaks), subst (λ (s : Standing). StandingHolds s c.feed_lines.new.self (bytes ++ c.args.piece.now)) (sym b.1) b.0, b.1)
