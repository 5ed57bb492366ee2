-- The gain's bounds, from the divisor's.
use Rattle.bessel.proofs.Gains.{gain_small, gain_near}
use Rattle.bessel.proofs.parameters.gain.Goals as goal

pub returns : goal.returns
returns c =
    record {
      value = cc;
      small = gain_small c.args.k2 c.divisor.result c.divisor.ensures.least c.divisor.ensures.over;
      near = gain_near c.args.k2 c.divisor.result c.divisor.ensures.least;
    }
