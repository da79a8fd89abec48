use Rattle.std.proofs.Common.{arith, subst}
use Rattle.deadhead_paths.specs.Table.{IsTable}
use Rattle.deadhead_paths.proofs.Reading.{read_none, read_price, read_small}
use Rattle.deadhead_paths.proofs.table.Distances.get.Goals as goal

pub returns-then-label-clause-value : goal.returns-then-label-clause-value
returns-then-label-clause-value c =
    let inside = c.self.inside in
    let table = subst (λ y. IsTable y inside.labels.items inside.nexts.items) c.self.view_is c.self.invariant in
    read_none c.args.self.now inside.labels.items inside.nexts.items table c.args.from c.args.to c.place.result c.index-label.result.now c.requires.to c.requires.from
    c.place.ensures c.index-label.ensures c.if-label.true

pub returns-else-label-clause-value : goal.returns-else-label-clause-value
returns-else-label-clause-value c =
    let inside = c.self.inside in
    let table = subst (λ y. IsTable y inside.labels.items inside.nexts.items) c.self.view_is c.self.invariant in
    read_price c.args.self.now inside.labels.items inside.nexts.items table c.args.from c.args.to c.place.result c.index-label.result.now c.requires.to c.requires.from
    c.place.ensures c.index-label.ensures (omega (arith, c.if-label.false))

pub returns-else-label-clause-small : goal.returns-else-label-clause-small
returns-else-label-clause-small c =
    let inside = c.self.inside in
    let table = subst (λ y. IsTable y inside.labels.items inside.nexts.items) c.self.view_is c.self.invariant in
    read_small c.args.self.now inside.labels.items inside.nexts.items table c.args.from c.args.to c.place.result c.index-label.result.now c.requires.to c.requires.from
    c.place.ensures c.index-label.ensures (omega (arith, c.if-label.false))
