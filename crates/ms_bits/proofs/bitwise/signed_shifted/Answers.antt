use Rattle.std.proofs.Common.{◌∙◌}
use Rattle.ms_bits.proofs.Products.{shifted_fits, shifted_is}
use Rattle.ms_bits.proofs.bitwise.signed_shifted.Goals as goal

pub overflow_mul-result : goal.overflow_mul-result
overflow_mul-result c = shifted_fits c.signed_value.result c.limit.result c.args.amount c.signed_value.ensures.small c.limit.ensures c.requires

pub returns : goal.returns
returns c =
    shifted_is c.signed_value.result c.limit.result c.args.amount c.signed_value.ensures.small c.limit.ensures c.requires
    ∙ rw (c.signed_value.ensures.value, c.limit.ensures)
