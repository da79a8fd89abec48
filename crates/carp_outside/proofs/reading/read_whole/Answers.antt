use Rattle.std.proofs.Common.{rules, ◌≡◌, ◌+◌, ◌++◌, length, ◌∙◌}
use Rattle.carp_outside.specs.Pieces.{piece_of}
use Rattle.carp_outside.proofs.Files.{is_some_from_and, read_more_told, given_more}
use Rattle.carp_outside.proofs.reading.read_whole.Goals as goal

pub loop-bytes-preserved : goal.loop-bytes-preserved
loop-bytes-preserved g c =
    let is : c.extend_from_slice.new.self.items ≡ c.loop-bytes.bytes.items ++ piece_of c.next.new.self = search rules in
    let more : length c.extend_from_slice.new.self.items ≡ length c.loop-bytes.bytes.items + c.in-Ok.field-0 = search rules in record {
      taken = search rules;
      limit = search rules;
      within = search rules;
      whole = λ told. read_more_told _ _ _ _ _ _ (c.loop-bytes.invariant.contents told c.args.name.now) c.loop-bytes.invariant.taken (c.loop-bytes.invariant.whole told) (c.in-Ok.ensures.bytes told) is;
      there = λ told some. is_some_from_and _ _ _ (c.loop-bytes.invariant.contents told c.args.name.now) (c.in-Ok.ensures.bytes told);
      contents = λ told name. c.next.ensures.contents told name ∙ c.loop-bytes.invariant.contents told name;
      given = given_more _ _ _ _ _ _ c.loop-bytes.invariant.given c.in-Ok.ensures.given more;
      later = search rules;
      keeps = search rules;
      looks = search rules;
    }
