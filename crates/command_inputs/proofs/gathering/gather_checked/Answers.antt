use Rattle.std.proofs.Math.Path.{fun_ext}
use Rattle.command_inputs.proofs.Gathered.{given_checked, was_checked}
use Rattle.command_inputs.proofs.Pairs.{by_contents, first_stops, second_decides, tried_again, tried_made}
use Rattle.command_inputs.proofs.gathering.gather_checked.Goals as goal

pub returns-in-Ok-check_file-clause-job : goal.returns-in-Ok-check_file-clause-job
returns-in-Ok-check_file-clause-job g c =
    let second = by_contents (λ told. fun_ext (c.in-Ok.ensures.contents told)) c.in-Ok-check_file.ensures.read in
    let valid = c.in-Ok.ensures.read.founded.2.valid in
    let before = g.H.Shelf.given c.args.shelf.now in
    let mid = g.H.Shelf.given c.read_instance.new.shelf in
    let now = g.H.Shelf.given c.check_file.new.shelf in
    record {
      is_for = tt;
      sound = tt;
      founded = given_checked c.in-Ok.inst valid c.good_is_proof.ensures before mid now c.in-Ok.ensures.given c.in-Ok-check_file.ensures.given c.in-Ok.ensures.read.founded c.in-Ok-check_file.stated c.in-Ok-check_file.ensures.read.founded;
      was_read = λ told. was_checked c.in-Ok.inst valid c.good_is_proof.ensures (g.H.Shelf.contents c.args.shelf.now) (c.in-Ok.ensures.read.made told) c.in-Ok-check_file.stated (second.made told);
    }

pub returns-in-Ok-check_file-clause-tried : goal.returns-in-Ok-check_file-clause-tried
returns-in-Ok-check_file-clause-tried g c =
    let second = by_contents (λ told. fun_ext (c.in-Ok.ensures.contents told)) c.in-Ok-check_file.ensures.read in
    tried_made _ _ (second_decides c.readings_are_unique.ensures.instance c.in-Ok.inst _ c.in-Ok.ensures.read second c.in-Ok.ensures.looks c.in-Ok-check_file.ensures.looks c.in-Ok.ensures.given)

pub returns-in-Ok-clause-tried : goal.returns-in-Ok-clause-tried
returns-in-Ok-clause-tried g c =
    let second = by_contents (λ told. fun_ext (c.in-Ok.ensures.contents told)) c.in-Err-check_file.ensures.read in
    tried_again c.in-Err-check_file.fail
    (second_decides c.readings_are_unique.ensures.instance c.in-Ok.inst _ c.in-Ok.ensures.read second c.in-Ok.ensures.looks c.in-Err-check_file.ensures.looks c.in-Ok.ensures.given)

pub returns-clause-tried : goal.returns-clause-tried
returns-clause-tried g c = first_stops c.in-Err.fail c.in-Err.ensures.read
