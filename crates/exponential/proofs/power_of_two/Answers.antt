use Rattle.arith.proofs.Power.{bits-power, bits-no-nan}
use Rattle.std.proofs.Common.{rules}
use Rattle.exponential.proofs.power_of_two.Goals as goal

pub float_from_bits-result : goal.float_from_bits-result
float_from_bits-result c = bits-no-nan c.args.b (search rules) (search rules)

pub returns : goal.returns
returns c = bits-power c.args.b (search rules) (search rules)
