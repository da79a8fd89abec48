use Rattle.std.proofs.Common.{◌+◌, ◌≤◌, ◌≡◌, set, subst, sym, arith, ◌<◌, length}
use Rattle.std.specs.Prelude.{slice_index}
use Rattle.std.proofs.lemmas.List.{get_or_read}
use Rattle.fleet_pack.specs.Groups.{IsFirstRoom, IsPut}
use Rattle.fleet_pack.proofs.Placing.{put_room, put_new}
use Rattle.fleet_pack.proofs.first_fit.put.Goals as goal

pub returns-then-place-len : goal.returns-then-place-len
returns-then-place-len c =
    let first : IsFirstRoom c.args.capacity c.args.demand c.args.loads.now.items c.first_room-place.result =
    subst (λ xs. IsFirstRoom c.args.capacity c.args.demand xs c.first_room-place.result) c.deref.ensures.value c.first_room-place.ensures in
    let less : c.first_room-place.result < length c.args.loads.now.items = omega arith in
    let was : c.index_mut.result.now ≡ slice_index c.args.loads.now.items c.first_room-place.result = get_or_read c.args.loads.now.items c.first_room-place.result c.index_mut.result.now less c.index_mut.ensures.value 0 in
    subst (λ v. IsPut c.args.capacity c.args.demand c.args.loads.now.items (set c.args.loads.now.items c.first_room-place.result (v + c.args.demand)) c.first_room-place.result) (sym was)
    (put_room c.args.capacity c.args.demand c.args.loads.now.items c.first_room-place.result first less)

pub returns : goal.returns
returns c =
    let first : IsFirstRoom c.args.capacity c.args.demand c.args.loads.now.items c.first_room-place.result =
    subst (λ xs. IsFirstRoom c.args.capacity c.args.demand xs c.first_room-place.result) c.deref.ensures.value c.first_room-place.ensures in
    let past : length c.args.loads.now.items ≤ c.first_room-place.result = omega arith in
    subst (λ xs. IsPut c.args.capacity c.args.demand c.args.loads.now.items xs c.first_room-place.result) (sym c.in_ok-push.ensures.items)
    (put_new c.args.capacity c.args.demand c.args.loads.now.items c.first_room-place.result c.requires.fits first past)
