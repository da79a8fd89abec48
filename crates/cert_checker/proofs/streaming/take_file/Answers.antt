use Rattle.std.proofs.Common.{rules, ◌≡◌, ◌+◌, ◌++◌, ℕ, List, length, subst, ap, ◌∙◌}
use Rattle.carp_outside.specs.Pieces.{piece_of, taken_of}
use Rattle.cert_checker.specs.Streams.{HasStreamed}
use Rattle.cert_checker.proofs.Reading.{given_on, read_on}
use Rattle.cert_checker.proofs.streaming.take_file.Goals as goal

pub loop-pieces-preserved : goal.loop-pieces-preserved
loop-pieces-preserved g c =
    let piece = piece_of c.next.new.self in
    let more : taken_of c.next.new.self ≡ taken_of c.loop-pieces.pieces + length piece = c.in-Ok.ensures.taken ∙ ap (λ (k : ℕ). taken_of c.loop-pieces.pieces + k) c.in-Ok.ensures.count in
    record {
      limit = search rules;
      within = search rules;
      read = read_on c.args.inst.now c.loop-pieces.stream c.take_piece.new.self _ _ _ (taken_of c.loop-pieces.pieces) (taken_of c.next.new.self) piece c.loop-pieces.invariant.read
          (λ told. c.loop-pieces.invariant.contents told c.args.name.now) (λ told. c.in-Ok.ensures.bytes told) more
          (λ bytes streamed. subst (λ (xs : List ℕ). HasStreamed c.args.inst.now c.take_piece.new.self (bytes ++ xs)) c.piece.ensures (c.in_ok-take_piece-in-Ok.ensures bytes streamed));
      contents = λ told name. c.next.ensures.contents told name ∙ c.loop-pieces.invariant.contents told name;
      given = given_on _ _ _ _ _ _ c.loop-pieces.invariant.given c.in-Ok.ensures.given c.in-Ok.ensures.taken;
      later = search rules;
      keeps = search rules;
      looks = search rules;
    }
