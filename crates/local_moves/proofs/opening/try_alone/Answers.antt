use Rattle.std.proofs.Common.{◌≡◌, ◌<◌, ◌++◌, ◌∷◌, [], List, ℕ, arith, ap, subst, ◌∙◌, sym}
use Rattle.std.specs.Prelude.{IsTrue}
use Rattle.std.specs.List.{All, remove}
use Rattle.std.proofs.lemmas.List.{append_assoc}
use Rattle.ruin_recreate.specs.Boards.{link}
use Rattle.local_moves.specs.Sequences.{fits}
use Rattle.local_moves.proofs.Deltas.{alone_delta}
use Rattle.local_moves.proofs.Kept.{open_sequence, open_services, remove_sequence}
use Rattle.local_moves.proofs.Later.{answered, later}
use Rattle.local_moves.proofs.opening.try_alone.Goals as goal

two_more : (rest one two : List ℕ) (x : ℕ) → one ≡ rest ++ (x ∷ []) → two ≡ one ++ (0 ∷ []) → two ≡ rest ++ (x ∷ (0 ∷ []))
two_more rest one two x first second = second ∙ ap (λ ys. ys ++ (0 ∷ [])) first ∙ append_assoc rest (x ∷ []) (0 ∷ [])

pub returns-then-new-old : goal.returns-then-new-old
returns-then-new-old c = λ better.
    omega (
      arith,
      better.cheaper,
      alone_delta c.args.board.now c.args.sequence.now c.args.from c.args.x c.requires.service.after_first c.requires.service.before_last,
      ap (λ z. link c.args.board.now z c.args.x) c.requires.sequence.last,
      c.between.ensures.value,
      c.between-2.ensures.value,
      c.between-3.ensures.value,
      c.between-4.ensures.value,
      c.between-5.ensures.value,
      c.if-new-old.true,
    )

pub accept-requires-clause-within : goal.accept-requires-clause-within
accept-requires-clause-within c =
    let b = c.args.board.now in
    let xs = c.args.sequence.now in
    let rest : c.remove.new.self.items ≡ remove xs c.args.from = c.remove.ensures.items ∙ ap (λ ys. remove ys c.args.from) c.in_ok-changed.ensures.items in
    let made = two_more (remove xs c.args.from) c.push.new.self.items c.push-2.new.self.items c.args.x (c.in_ok-push.ensures.items ∙ ap (λ ys. ys ++ (c.args.x ∷ [])) rest) c.in_ok-push-2.ensures.items in
    subst (λ (zs : List ℕ). All (λ x. x < b.width) zs) (sym made)
    (open_sequence b (remove xs c.args.from) c.args.x (remove_sequence b xs c.args.from c.requires.sequence c.requires.service.after_first c.requires.service.before_last) c.requires.x c.requires.real).within

pub returns : goal.returns
returns c =
    let b = c.args.board.now in
    let xs = c.args.sequence.now in
    let x = c.args.x in
    let ys = remove xs c.args.from ++ (x ∷ (0 ∷ [])) in
    let rest : c.remove.new.self.items ≡ remove xs c.args.from = c.remove.ensures.items ∙ ap (λ zs. remove zs c.args.from) c.in_ok-changed.ensures.items in
    let made : c.push-2.new.self.items ≡ ys = two_more (remove xs c.args.from) c.push.new.self.items c.push-2.new.self.items x (c.in_ok-push.ensures.items ∙ ap (λ zs. zs ++ (x ∷ [])) rest) c.in_ok-push-2.ensures.items in
    answered c.accept.result c.accept.ensures
    (λ none better. none (subst (λ zs. IsTrue (fits b zs)) (sym made) better.loads))
    (λ next found.
    later b xs ys next.items (found.0 ∙ made) (subst (λ zs. IsTrue (fits b zs)) made found.1)
    (omega (
      arith,
      alone_delta b xs c.args.from x c.requires.service.after_first c.requires.service.before_last,
      ap (λ z. link b z x) c.requires.sequence.last,
      c.between.ensures.value,
      c.between-2.ensures.value,
      c.between-3.ensures.value,
      c.between-4.ensures.value,
      c.between-5.ensures.value,
      c.if-new-old.false,
    ))
    (open_sequence b (remove xs c.args.from) x (remove_sequence b xs c.args.from c.requires.sequence c.requires.service.after_first c.requires.service.before_last) c.requires.x c.requires.real)
    (open_services xs c.args.from x (omega (arith, c.requires.service.before_last)) c.requires.edge))
