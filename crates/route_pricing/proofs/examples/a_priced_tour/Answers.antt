use Rattle.std.proofs.Common.{[], length, ap, refl, arith}
use Rattle.std.proofs.lemmas.Bool.{false≢true}
use Rattle.route_pricing.proofs.Twins.{allowed, followed_of_two, one_way_pays, stays}
use Rattle.route_pricing.proofs.examples.a_priced_tour.Goals as goal

pub returns-clause-there_and_back : goal.returns-clause-there_and_back
returns-clause-there_and_back c = record {
  tour = record {
    some = λ is. omega (arith, ap length is);
    required = (record { from_one = omega arith; in_range = omega arith }, (record { from_one = omega arith; in_range = omega arith }, tt));
    load = omega arith;
    each_allowed = λ a b f. allowed a b (followed_of_two a b f);
  };
  deadheads = (0, 0, stays 1, (0, 0, stays 2, stays 1, refl), refl);
  sum = refl;
}

pub returns-clause-one_way : goal.returns-clause-one_way
returns-clause-one_way c = λ priced. omega (arith, one_way_pays 0 priced.deadheads)

pub returns-clause-after_itself : goal.returns-clause-after_itself
returns-clause-after_itself c = λ priced. false≢true (priced.tour.each_allowed 1 1 (record { before = []; after = []; joined = refl }))
