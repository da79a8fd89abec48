use Rattle.std.proofs.Common.{◌≡◌, ℕ, ◌+◌, List, [], take, subst, rules, arith, inl}
use Rattle.carp_base.specs.declared.fail.Fail.TheVariants.{Refused}
use Rattle.cert_lines.specs.Texts.{BreaksAt}
use Rattle.cert_format.specs.declared.reader.Standing.{Standing}
use Rattle.cert_format.specs.Held.{StandingHolds}
use Rattle.cert_format.proofs.MoreBytes.{advances_same}
use Rattle.cert_format.proofs.Standings.{slice_run, slice_rest, slice_length}
use Rattle.cert_format.proofs.TreeSteps.{item_fits, tree_step, tree_start}
use Rattle.cert_format.proofs.reading.read_nodes.Goals as goal

pub loop-taken-init : goal.loop-taken-init
loop-taken-init c = record {
  within = omega arith;
  going = c.requires.going;
  reads = tree_start _ (subst (λ (s : Standing). StandingHolds s c.args.reader.now []) c.requires.going c.requires.taken) (search rules) (search rules);
}

pub returns-in-Err-clause-refused : goal.returns-in-Err-clause-refused
returns-in-Err-clause-refused c = λ fault is.
    let r = c.loop-taken.invariant.reads in
    let t : ℕ = c.loop-taken.taken in
    let same : c.in-Err.fail ≡ Refused fault = (let b = is in cc) in
    let broken = c.in-Err.ensures.bad (take t c.args.bytes.now) r.said r.rest r.going fault (search rules) in
    inl (broken.0.said, subst (λ (x : List ℕ). BreaksAt x broken.0.said fault) (slice_rest c.args.bytes.now t) broken.0.breaks)

pub keep_item-requires : goal.keep_item-requires
keep_item-requires c =
    let r = c.loop-taken.invariant.reads in
    let t : ℕ = c.loop-taken.taken in
    let m : ℕ = c.in-Ok.run'.0 in
    let a = c.in-Ok.ensures.gives (take t c.args.bytes.now) r.said r.rest r.going in
    item_fits c.feed_lines.new.self (take (t + m) c.args.bytes.now) c.in-Ok.run'.1 r (advances_same _ (take (t + m) c.args.bytes.now) (slice_run [] c.args.bytes.now t m) a.2)

pub loop-taken-preserved : goal.loop-taken-preserved
loop-taken-preserved c =
    let r = c.loop-taken.invariant.reads in
    let t : ℕ = c.loop-taken.taken in
    let m : ℕ = c.in-Ok.run'.0 in
    let a = c.in-Ok.ensures.gives (take t c.args.bytes.now) r.said r.rest r.going in
    record {
      within = omega (arith, c.in-Ok.ensures.within.1, slice_length c.args.bytes.now t, c.loop-taken.invariant.within);
      going = c.in-Ok.ensures.going;
      reads = tree_step c.feed_lines.new.self (take (t + m) c.args.bytes.now) c.in-Ok.run'.1 _ r (advances_same _ (take (t + m) c.args.bytes.now) (slice_run [] c.args.bytes.now t m) a.2) c.in_ok-keep_item.ensures;
    }
