use Rattle.std.proofs.Common.{◌≡◌, ◌+◌, ◌*◌, [], refl, arith}
use Rattle.ruin_recreate.specs.Boards.{link}
use Rattle.ruin_recreate.proofs.examples.a_board_of_dear_links.Goals as goal

pub returns : goal.returns
returns c of =
    let b = c.args.board.now in
    let place : 1 * b.width + 1 ≡ 3 = omega (arith, c.requires.width_is) in
    let dear : link b 1 1 ≡ 1 = rw (place, c.requires.links_are) in
    let free = (of.links 1 1 (omega (arith, c.requires.width_is)) (omega (arith, c.requires.width_is))).least 0 [] (record { unserved = tt; leads = refl; costs = refl }) in
    omega (arith, dear, free)
