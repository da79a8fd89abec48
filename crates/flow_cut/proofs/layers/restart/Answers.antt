use Rattle.std.proofs.Common.{◌≡◌, ℕ, ◌+◌, length, replicate, ap, ◌∙◌, arith}
use Rattle.std.proofs.lemmas.List.{take_at, length-replicate}
use Rattle.flow_cut.proofs.Searching.{search_none, pending_none}
use Rattle.flow_cut.proofs.layers.restart.Goals as goal

pub returns : goal.returns
returns c =
    let n = c.args.ends.nodes in
    let s = c.args.ends.source in
    let long : length c.deref_mut.result.now ≡ n + 1 = ap length c.deref_mut.ensures.value ∙ c.requires.level_len in
    let zeros : c.forget.new.level ≡ replicate (n + 1) 0 = c.forget.ensures ∙ ap (λ k. replicate k 0) long in
    let len : length c.forget.new.level ≡ c.args.layers.now.level.len =
    omega (arith, ap length zeros, length-replicate {A = ℕ} (n + 1) 0, c.requires.level_len, c.args.layers.now.level.ok.0) in
    rw (take_at c.forget.new.level _ c.args.layers.now.level.len len, zeros, c.in_ok-push.ensures.items, c.clear.ensures.items)
    (record {
      search = search_none c.args.arcs.now c.args.flows.now n s c.requires.source c.args.layers.now.via.items c.requires.via_len;
      pending = pending_none c.args.arcs.now c.args.flows.now n s c.requires.source;
    })
