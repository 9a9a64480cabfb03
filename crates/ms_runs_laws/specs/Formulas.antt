-- The formulas of masks stay folded in proofs about code; here is one name that opens them all.
use Rattle.std.specs.Prelude.{ℕ}
use Rattle.ms_bits.specs.Formulas.{greatest, least, union_mask, and_mask, or_mask, eq_mask, order_mask, turned_sign, compare_mask, select_mask, carry_mask}

-- opened by `unfolding formulas`, it lets shadow runs compute; its value says nothing
unfoldable pub formulas : ℕ
unfolding greatest least union_mask and_mask or_mask eq_mask order_mask turned_sign compare_mask select_mask carry_mask
formulas = 0
