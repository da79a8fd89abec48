use Rattle.std.proofs.Common.{◌≡◌, ◌<◌, List, ℕ, arith, ap, subst, ◌∙◌, sym}
use Rattle.std.specs.Prelude.{IsTrue}
use Rattle.std.specs.List.{All, insert}
use Rattle.std.proofs.lemmas.Bool.{false≢true}
use Rattle.local_moves.specs.Sequences.{KeepsServices, links_of, fits}
use Rattle.local_moves.proofs.Deltas.{remove_delta, insert_delta}
use Rattle.local_moves.proofs.Kept.{insert_sequence, move_services}
use Rattle.local_moves.proofs.Later.{answered, later}
use Rattle.local_moves.proofs.Rooms.{no_insert}
use Rattle.local_moves.proofs.moves.try_insert.Goals as goal

pub returns-then-not-has_room : goal.returns-then-not-has_room
returns-then-not-has_room c = λ better.
    let b = c.args.board.now in
    no_insert b c.args.rest.now c.args.loads.now c.args.to c.args.x c.requires.loads c.requires.to_last c.requires.some
    (λ room. false≢true (sym c.if-not-has_room.true ∙ c.has_room.ensures.1 room))
    (subst (λ ys. IsTrue (fits b (insert ys c.args.to c.args.x))) (sym c.requires.rest) better.loads)

pub returns-then-new-old : goal.returns-then-new-old
returns-then-new-old c = λ better.
    let b = c.args.board.now in
    let xs = c.args.sequence.now in
    let rest = c.args.rest.now in
    omega (
      arith,
      better.cheaper,
      remove_delta b xs c.args.from c.requires.service.after_first c.requires.service.before_last,
      insert_delta b rest c.args.to c.args.x c.requires.to_first c.requires.to_last,
      ap (links_of b) c.requires.rest,
      ap (λ ys. links_of b (insert ys c.args.to c.args.x)) c.requires.rest,
      c.between.ensures.value,
      c.between-2.ensures.value,
      c.between-3.ensures.value,
      c.between-4.ensures.value,
      c.between-5.ensures.value,
      c.between-6.ensures.value,
      c.if-new-old.true,
    )

pub accept-requires-clause-within : goal.accept-requires-clause-within
accept-requires-clause-within c =
    let b = c.args.board.now in
    let made = c.in_ok-insert.ensures.items ∙ ap (λ ys. insert ys c.args.to c.args.x) c.in_ok-changed.ensures.items in
    subst (λ (zs : List ℕ). All (λ x. x < b.width) zs) (sym made)
    (insert_sequence b c.args.rest.now c.args.to c.args.x c.requires.rest_sequence c.requires.to_first c.requires.to_last c.requires.x c.requires.real).within

pub returns : goal.returns
returns c =
    let b = c.args.board.now in
    let xs = c.args.sequence.now in
    let rest = c.args.rest.now in
    let to = c.args.to in
    let x = c.args.x in
    let made : c.insert.new.self.items ≡ insert rest to x = c.in_ok-insert.ensures.items ∙ ap (λ ys. insert ys to x) c.in_ok-changed.ensures.items in
    answered c.accept.result c.accept.ensures
    (λ none better. none (subst (λ zs. IsTrue (fits b zs)) (ap (λ ys. insert ys to x) (sym c.requires.rest) ∙ sym made) better.loads))
    (λ next found.
    later b xs (insert rest to x) next.items (found.0 ∙ made) (subst (λ zs. IsTrue (fits b zs)) made found.1)
    (omega (
      arith,
      remove_delta b xs c.args.from c.requires.service.after_first c.requires.service.before_last,
      insert_delta b rest to x c.requires.to_first c.requires.to_last,
      ap (links_of b) c.requires.rest,
      c.between.ensures.value,
      c.between-2.ensures.value,
      c.between-3.ensures.value,
      c.between-4.ensures.value,
      c.between-5.ensures.value,
      c.between-6.ensures.value,
      c.if-new-old.false,
    ))
    (insert_sequence b rest to x c.requires.rest_sequence c.requires.to_first c.requires.to_last c.requires.x c.requires.real)
    (subst (λ ys. KeepsServices xs (insert ys to x)) (sym c.requires.rest) (move_services xs c.args.from to x (omega (arith, c.requires.service.before_last)) c.requires.edge)))
