-- A number that 64 bits don't have fits no type.
use Rattle.std.proofs.Common.{◌≡◌, ℕ, ◌-◌, ◌≤◌, ◌^◌, false, arith}
use Rattle.std.proofs.Math.Pow.{pow_mono}
use Rattle.std.specs.Prelude.{ℤ, pos, negsuc}
use Rattle.ms_text_grammar.specs.Steps.{is_givable}
use Rattle.ms_text_grammar.specs.Values.{fits}
use Rattle.ms_read_values.specs.Narrow.{IsWidth}

pub wide_misfits : (width : ℕ) (n : ℤ) → IsWidth width → is_givable n ≡ false → fits width n ≡ false
wide_misfits width (pos n) w h = let less : 2 ^ width ≤ 2 ^ 64 = pow_mono {i = width} {j = 64} w.1 in grind arith
wide_misfits width (negsuc n) w h = let less : 2 ^ (width - 1) ≤ 2 ^ 63 = pow_mono {i = width - 1} {j = 63} (omega arith) in grind arith
