use Rattle.std.proofs.Common.{refl}
use Rattle.std.proofs.lemmas.Result.{err_from_is_err_and}
use Rattle.dat_text.specs.declared.key.Key.TheVariants.{Vertices, RequiredCount, Capacity, Depot}
use Rattle.dat_text.proofs.Endings.{is_missing, is_present}
use Rattle.dat_text.proofs.draft.Draft.end.Goals as goal

pub returns-in_err-vertices : goal.returns-in_err-vertices
returns-in_err-vertices c = λ said m.
    let p = err_from_is_err_and c.from_residual.result c.from_residual.ensures.1 in
    let none = is_missing Vertices said c.args.self refl m c.in_err-vertices.ensures.1 in
    rw (p.1, p.2, c.in_err-vertices.ensures.0, none) refl

pub returns-in_err-required : goal.returns-in_err-required
returns-in_err-required c = λ said m.
    let p = err_from_is_err_and c.from_residual-in_err-required.result c.from_residual-in_err-required.ensures.1 in
    let vertices = is_present Vertices said c.args.self refl m c.in_ok-vertices.vertices c.in_ok-vertices.ensures in
    let none = is_missing RequiredCount said c.args.self refl m c.in_err-required.ensures.1 in
    rw (p.1, p.2, c.in_err-required.ensures.0, vertices, none) refl

pub returns-in_err-capacity : goal.returns-in_err-capacity
returns-in_err-capacity c = λ said m.
    let p = err_from_is_err_and c.from_residual-in_err-capacity.result c.from_residual-in_err-capacity.ensures.1 in
    let vertices = is_present Vertices said c.args.self refl m c.in_ok-vertices.vertices c.in_ok-vertices.ensures in
    let required = is_present RequiredCount said c.args.self refl m c.in_ok-required.required c.in_ok-required.ensures in
    let none = is_missing Capacity said c.args.self refl m c.in_err-capacity.ensures.1 in
    rw (p.1, p.2, c.in_err-capacity.ensures.0, vertices, required, none) refl

pub returns-in_err-depot : goal.returns-in_err-depot
returns-in_err-depot c = λ said m.
    let p = err_from_is_err_and c.from_residual-in_err-depot.result c.from_residual-in_err-depot.ensures.1 in
    let vertices = is_present Vertices said c.args.self refl m c.in_ok-vertices.vertices c.in_ok-vertices.ensures in
    let required = is_present RequiredCount said c.args.self refl m c.in_ok-required.required c.in_ok-required.ensures in
    let capacity = is_present Capacity said c.args.self refl m c.in_ok-capacity.capacity c.in_ok-capacity.ensures in
    let none = is_missing Depot said c.args.self refl m c.in_err-depot.ensures.1 in
    rw (p.1, p.2, c.in_err-depot.ensures.0, vertices, required, capacity, none) refl
