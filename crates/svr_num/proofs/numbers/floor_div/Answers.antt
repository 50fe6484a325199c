use Rattle.std.proofs.Common.{◌≡◌, rules}
use Rattle.std.specs.Int.{cast_signed, cast_unsigned, w128}
use Rattle.svr_num.specs.Numbers.{floor_of}
use Rattle.svr_num.proofs.Floor.{floor_of-not_above, floor_of-greatest}
use Rattle.svr_num.proofs.numbers.floor_div.Goals as goal

pub returns-clause-not_above : goal.returns-clause-not_above
returns-clause-not_above c =
    let is : cast_signed w128 (cast_unsigned w128 c.div_euclid.result) ≡ floor_of c.args.a c.args.b = search rules in
    rw is (floor_of-not_above c.args.a c.args.b c.requires)

pub returns-clause-greatest : goal.returns-clause-greatest
returns-clause-greatest c =
    let is : cast_signed w128 (cast_unsigned w128 c.div_euclid.result) ≡ floor_of c.args.a c.args.b = search rules in
    rw is (floor_of-greatest c.args.a c.args.b c.requires)
