-- `planets::reduced` meets its contract: both counts are so many times their common divisor. Assumes nothing.
use native.Mathlib.Nat.{pos_of_dvd_of_pos, div-mul_cancel}
use mathlib.Core.Path.{sym}
use Rattle.planets.proofs.reduced.Goals as goal

pub returns : goal.returns
returns c =
    record {
      common = c.common_divisor-d.result;
      is-common = c.common_divisor-d.ensures;
      first = sym (div-mul_cancel c.common_divisor-d.result c.common_divisor-d.ensures.first);
      second = sym (div-mul_cancel c.common_divisor-d.result c.common_divisor-d.ensures.second);
    }

pub nonzero_div-result : goal.nonzero_div-result
nonzero_div-result c = pos_of_dvd_of_pos c.common_divisor-d.ensures.second c.requires

pub nonzero_div-result-2 : goal.nonzero_div-result-2
nonzero_div-result-2 c = pos_of_dvd_of_pos c.common_divisor-d.ensures.second c.requires
