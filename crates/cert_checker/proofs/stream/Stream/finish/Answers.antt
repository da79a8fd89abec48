use Rattle.std.proofs.Common.{rules, ◌≡◌, [], refl, ◌∙◌, inl, arith}
use Rattle.carp_base.specs.declared.fail.Fail.TheVariants.{Refused}
use Rattle.cert_lines.specs.Certificates.{certificate_of}
use Rattle.cert_lines.specs.Texts.{IsTextOf}
use Rattle.cert_format.specs.Certs.{stated_nodes}
use Rattle.cert_checker.proofs.Taking.{stage_answer, whole_heads}
use Rattle.cert_checker.proofs.stream.Stream.finish.Goals as goal

pub returns-in-Err-clause-refused : goal.returns-in-Err-clause-refused
returns-in-Err-clause-refused c = λ bytes streamed fault is.
    let same : c.in-Err.fail ≡ Refused fault = (let b = is in cc) in
    c.in-Err.ensures.refused bytes streamed.taken fault (search rules)

pub unreachable-requires : goal.unreachable-requires
unreachable-requires c =
    let s = c.requires.streamed in
    let w = c.in_default.ensures.whole c.requires.bytes s.taken in
    let none : stated_nodes w.0 ≡ 0 = c.in_default-head.ensures.there c.requires.bytes w.0 s.taken (inl ([], w.1)) in
    omega (arith, none, (whole_heads c.args.inst.now c.args.self.now c.requires.bytes w.0 s w.1 w.2).1)

pub answer_of-requires : goal.answer_of-requires
answer_of-requires c =
    let s = c.requires.streamed in
    let w = c.in_default.ensures.whole c.requires.bytes s.taken in
    (whole_heads c.args.inst.now c.args.self.now c.requires.bytes w.0 s w.1 w.2).0

pub returns-clause-checked : goal.returns-clause-checked
returns-clause-checked c = λ bytes streamed.
    let w = c.in_default.ensures.whole bytes streamed.taken in
    let heads = whole_heads c.args.inst.now c.args.self.now bytes w.0 streamed w.1 w.2 in
    let text : IsTextOf bytes (certificate_of w.0) = record { said = w.0; reads = w.1; whole = w.2; is = refl } in
    let h = (c.in-Some.ensures.there bytes w.0 streamed.taken (inl ([], w.1))).1 in
    record {
      certificate = certificate_of w.0;
      text = text;
      answer = stage_answer c.args.inst.now c.args.self.now.stage w.0 bytes c.answer_of.result c.stream_laws.ensures heads.0 (streamed.stage w.0 [] w.1).says text c.answer_of.ensures;
      cost = h.cost;
      bound = h.bound;
      plan = c.in_ok-plan.ensures ∙ h.plan;
    }
