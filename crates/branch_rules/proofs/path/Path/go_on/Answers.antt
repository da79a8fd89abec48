use Rattle.std.proofs.Common.{sym, ◌∙◌, None}
use Rattle.std.proofs.lemmas.Result.{on_ok_weaker}
use Rattle.branch_rules.proofs.Entering.{in_after, in_before, path_before, seconds_first, seconds_second, waits_second}
use Rattle.branch_rules.proofs.path.Path.go_on.Goals as goal

pub returns-in-Some-clause-inside : goal.returns-in-Some-clause-inside
returns-in-Some-clause-inside c = on_ok_weaker c.enter.result
    (λ enters s path.
    let back = in_before c.leave.new.self c.loop-self.self c.in-Some.ensures.0 _ c.in-Some.ensures.1 s (c.loop-self.invariant.inside s path) in
    in_after c.leave.new.self c.enter.new.self c.in-Some.decision None enters s back.0 back.1 tt)
    c.enter.ensures

pub returns-in-Some-clause-waits : goal.returns-in-Some-clause-waits
returns-in-Some-clause-waits c =
    let left = c.in-Some.ensures.1 in
    let even = (path_before c.leave.new.self c.loop-self.self c.in-Some.ensures.0 _ left c.loop-self.invariant.path).0.even in
    on_ok_weaker c.enter.result
    (λ enters. waits_second c.leave.new.self c.enter.new.self c.in-Some.decision enters even (sym left.same_whole ∙ c.loop-self.invariant.goes)
    ∙ sym (seconds_first c.leave.new.self c.loop-self.self c.in-Some.ensures.0 c.in-Some.decision left even) ∙ c.loop-self.invariant.waits)
    c.enter.ensures

pub loop-self-preserved : goal.loop-self-preserved
loop-self-preserved c =
    let left = c.in_default.ensures.1 in
    let before = path_before c.leave.new.self c.loop-self.self c.in_default.ensures.0 None left c.loop-self.invariant.path in
    record {
      path = before.0;
      goes = sym left.same_whole ∙ c.loop-self.invariant.goes;
      inside = λ s path. (in_before c.leave.new.self c.loop-self.self c.in_default.ensures.0 None left s (c.loop-self.invariant.inside s path)).0;
      waits = sym (seconds_second c.leave.new.self c.loop-self.self c.in_default.ensures.0 left before.0.even) ∙ c.loop-self.invariant.waits;
    }
