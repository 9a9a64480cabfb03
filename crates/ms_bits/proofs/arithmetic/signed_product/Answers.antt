use Rattle.std.proofs.Common.{◌∙◌}
use Rattle.ms_bits.proofs.Products.{product_fits, product_is}
use Rattle.ms_bits.proofs.arithmetic.signed_product.Goals as goal

pub overflow_mul-result : goal.overflow_mul-result
overflow_mul-result c = product_fits c.signed_value.result c.signed_value-2.result c.signed_value.ensures.small c.signed_value-2.ensures.small

pub returns : goal.returns
returns c =
    product_is c.signed_value.result c.signed_value-2.result c.signed_value.ensures.small c.signed_value-2.ensures.small
    ∙ rw (c.signed_value.ensures.value, c.signed_value-2.ensures.value)
