-- What a run reads of an operand is in the range of its type.
use Rattle.std.proofs.Common.{◌≡◌, ℕ, zero, suc, ◌/◌, ◌%◌, ◌^◌, ◌<◌, List, [], ◌∷◌, map, refl}
use Rattle.std.proofs.Math.Pow.{ones_lt}
use Rattle.std.proofs.lemmas.Nat.{mod_below, pow_pos}
use Rattle.std.proofs.lemmas.Nat.Bits.{bit_at-lt}
use Rattle.ms_bits.specs.Fill.{undef_bit, undef_word_of, made_byte}
use Rattle.ms_ir.specs.declared.syntax.Name.{Name}
use Rattle.ms_ir.specs.declared.syntax.Ty.{Ty}
use Rattle.ms_ir.specs.declared.syntax.Operand.{Operand}
use Rattle.ms_ir.specs.declared.syntax.Operand.TheVariants as operand
use Rattle.ms_ir.specs.Layout.{width_of}
use Rattle.ms_runs.specs.World.{Setting, word}
use Rattle.ms_runs.specs.Act.{operand_word, plain_reading}
use Rattle.ms_runs.specs.Poisoned.{Poisoned}
use Rattle.ms_runs.specs.Masks.{word_at}
use Rattle.ms_runs.specs.Shadow.{operand_mask, shadow_reading}
use Rattle.ms_runs_good_laws.specs.GoodStates.{PoisonedBelow}
use Rattle.ms_bits_laws.proofs.MaskFunctions.{number_fits}

undef_below : (fill : _) (w : ℕ) → undef_word_of fill w < 2 ^ w
unfolding undef_word_of undef_bit
undef_below fill w = number_fits (undef_bit fill) (λ i. bit_at-lt (made_byte fill (i / 8)) (i % 8)) w

word_below : (setting : Setting) (values : Name → ℕ) (w : ℕ) (o : Operand) → operand_word setting values w o < 2 ^ w
word_below setting values w operand.Undef = undef_below setting.fill w
word_below setting values w operand.Poison = undef_below setting.fill w
word_below setting values w _ = mod_below _ (2 ^ w) (pow_pos w)

mask_below : (values : Name → Poisoned) (w : ℕ) (o : Operand) → operand_mask values w o < 2 ^ w
mask_below values w operand.Undef = ones_lt w
mask_below values w operand.Poison = ones_lt w
mask_below values w (operand.Local x) = mod_below (values x).mask (2 ^ w) (pow_pos w)
mask_below values w _ = pow_pos w

pub plain_unset : (t : Ty) → plain_reading.unset < 2 ^ width_of t
plain_unset t = pow_pos (width_of t)

pub plain_read : (setting : Setting) (values : Name → ℕ) (n : ℕ) (t : Ty) (o : Operand) → plain_reading.read setting values n t o < 2 ^ width_of t
plain_read setting values n t o = word_below setting values (width_of t) o

pub shadow_unset : (t : Ty) → PoisonedBelow shadow_reading.unset (2 ^ width_of t)
shadow_unset t = (pow_pos (width_of t), pow_pos (width_of t))

pub shadow_read : (setting : Setting) (values : Name → Poisoned) (n : ℕ) (t : Ty) (o : Operand) → PoisonedBelow (shadow_reading.read setting values n t o) (2 ^ width_of t)
shadow_read setting values n t o = (word_below setting (λ x. (values x).value) (width_of t) o, mask_below values (width_of t) o)

-- the number of a word among those of operands
pub word_number : (k : ℕ) (ps : List Poisoned) → word k (map (λ p. p.value) ps) ≡ (word_at k ps).value
word_number k [] = refl
word_number zero (p ∷ ps) = refl
word_number (suc k) (p ∷ ps) = word_number k ps
