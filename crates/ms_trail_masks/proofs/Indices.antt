-- The masks that strides read are those of the indices of a 'getelementptr'.
use Rattle.std.proofs.Common.{◌≡◌, ◌<◌, ◌+◌, ◌-◌, ◌%◌, ◌^◌, ℕ, List, [], ◌∷◌, map, get_or, drop, length, bit_and, bit_or, not, Bool, true, false, refl, sym, ap, ap₂, ◌∙◌, arith, if◌then◌else◌}
use Rattle.std.proofs.Math.Nat.{zero-mod, mod-eq_of_lt}
use Rattle.std.proofs.lemmas.Bool.{lt-ltb}
use Rattle.std.proofs.lemmas.List.{drop_all}
use Rattle.std.proofs.lemmas.Nat.{pow_pos, mod_below, and_mask}
use Rattle.std.specs.Prelude.{cond, pos, negsuc}
use Rattle.std.specs.Int.Bits.{or_zero_l}
use Rattle.ms_bits.specs.Signed.{signed, wrap}
use Rattle.ms_ir.specs.declared.syntax.Name.{Name}
use Rattle.ms_ir.specs.declared.syntax.Ty.{Ty}
use Rattle.ms_ir.specs.declared.syntax.Operand.{Operand}
use Rattle.ms_ir.specs.declared.syntax.Operand.TheVariants as operand
use Rattle.ms_ir.specs.declared.syntax.Module.{Module}
use Rattle.ms_ir.specs.Layout.{width_of, extended}
use Rattle.ms_ir.specs.Instructions.{one_undef}
use Rattle.ms_ir.proofs.Sizes.{drop_next}
use Rattle.ms_runs.specs.declared.runs.Setup.{Setup}
use Rattle.ms_runs.specs.Control.{read_all}
use Rattle.ms_runs.specs.Act.{extended_all}
use Rattle.ms_runs.specs.Plain.{setting_of}
use Rattle.ms_runs.specs.Poisoned.{Poisoned}
use Rattle.ms_runs.specs.Masks.{union}
use Rattle.ms_runs.specs.Shadow.{operand_mask, read_poisoned}
use Rattle.ms_machine_code.specs.declared.code.Stride.{Stride}
use Rattle.ms_machine_code.specs.Words.{extended_by}
use Rattle.ms_machine_code.specs.Reads.{Holds, IsIndex, ReadIndices, is_integer, strided}
use Rattle.ms_machine_operands.proofs.SignBits.{extended_is}
use Rattle.ms_trail_masks.specs.Shades.{mask_of, stride_mask, strides_mask}
use Rattle.ms_trail_masks.proofs.Reading.{reads_mask}

extended_none : (w : ℕ) → extended w 0 ≡ 0
unfolding wrap signed
extended_none w = ap (λ t. wrap 64 (cond t (pos 0) (negsuc (2 ^ w - 1 - 0)))) (lt-ltb 0 (2 ^ w) (pow_pos w)) ∙ zero-mod (2 ^ 64)

-- an integer is clean
pub integer_clean : (values : Name → Poisoned) (w : ℕ) (o : Operand) → is_integer o ≡ true → operand_mask values w o ≡ 0
integer_clean values w (operand.Int k) e = refl
integer_clean values w operand.Undef e = absurd (cc)
integer_clean values w operand.Poison e = absurd (cc)
integer_clean values w operand.Null e = refl
integer_clean values w (operand.Local x) e = absurd (cc)
integer_clean values w (operand.Global x) e = refl
integer_clean values w (operand.Offset x is) e = refl

mask_below : (values : Name → Poisoned) (w : ℕ) (o : Operand) → operand_mask values w o < 2 ^ w
mask_below values w (operand.Int k) = pow_pos w
mask_below values w operand.Undef = let h : 0 < 2 ^ w = pow_pos w in omega (arith, h)
mask_below values w operand.Poison = let h : 0 < 2 ^ w = pow_pos w in omega (arith, h)
mask_below values w operand.Null = pow_pos w
mask_below values w (operand.Local x) = mod_below (values x).mask (2 ^ w) (pow_pos w)
mask_below values w (operand.Global x) = pow_pos w
mask_below values w (operand.Offset x is) = pow_pos w

module _ (m : Module) (names : List Name) (ms : List ℕ) (values : Name → Poisoned) (holds : Holds names ms (λ x. (values x).mask)) where
  stride_is : (i : Ty × Operand) (s : Stride) → IsIndex m names i s → stride_mask ms s ≡ extended (width_of i.0) (operand_mask values (width_of i.0) i.1)
  stride_is i s index =
      let w : ℕ = width_of i.0 in
      let v : ℕ = operand_mask values (width_of i.0) i.1 in
      let fits : v < 2 ^ width_of i.0 = mask_below values (width_of i.0) i.1 in
      let mask : s.mask ≡ 2 ^ width_of i.0 - 1 = omega (arith, index.mask) in
      ap₂ (λ a g. extended_by g (bit_and a g)) (reads_mask m names (width_of i.0) s.index i.1 index.reads ms values holds) mask
      ∙ ap (extended_by (2 ^ width_of i.0 - 1)) (and_mask v (width_of i.0) ∙ mod-eq_of_lt fits)
      ∙ sym (extended_is (width_of i.0) v index.few fits)

  pub indices_mask : (u : Setup) (is : List (Ty × Operand)) (ss : List Stride) → ReadIndices m names ss (strided is) → (n : ℕ)
      → strides_mask ms ss ≡ union (extended_all is (map (λ p. p.mask) (read_all (read_poisoned (setting_of m u) values) is n)))
  indices_mask u [] [] h n = refl
  indices_mask u [] (s ∷ ss) h n = absurd h
  indices_mask u (i ∷ is) ss h n = by_test (is_integer i.1) refl ss h (λ ts g. indices_mask u is ts g (n + one_undef i.1))
    where
      by_test : (t : Bool) → is_integer i.1 ≡ t → (ts : List Stride) → ReadIndices m names ts (if not t then i ∷ strided is else strided is)
          → ((qs : List Stride) → ReadIndices m names qs (strided is) → strides_mask ms qs ≡ union (extended_all is (map (λ p. p.mask) (read_all (read_poisoned (setting_of m u) values) is (n + one_undef i.1)))))
          → strides_mask ms ts
          ≡ bit_or (extended (width_of i.0) (operand_mask values (width_of i.0) i.1)) (union (extended_all is (map (λ p. p.mask) (read_all (read_poisoned (setting_of m u) values) is (n + one_undef i.1)))))
      by_test true e ts g later =
          later ts g
          ∙ sym (or_zero_l (union (extended_all is (map (λ p. p.mask) (read_all (read_poisoned (setting_of m u) values) is (n + one_undef i.1))))))
          ∙ ap (λ a. bit_or a (union (extended_all is (map (λ p. p.mask) (read_all (read_poisoned (setting_of m u) values) is (n + one_undef i.1))))))
          (sym (ap (extended (width_of i.0)) (integer_clean values (width_of i.0) i.1 e) ∙ extended_none (width_of i.0)))
      by_test false e [] g later = absurd g
      by_test false e (s ∷ ts) g later = ap₂ bit_or (stride_is i s g.0) (later ts g.1)

-- ---- from the last stride on

pub strides_none : (ms : List ℕ) (ss : List Stride) (n : ℕ) → n ≡ length ss → 0 ≡ strides_mask ms (drop n ss)
strides_none ms ss n e = sym (ap (strides_mask ms) (drop_all n ss (omega (arith, e))))

pub strides_back : (ms : List ℕ) (ss : List Stride) (k n : ℕ) (s : Stride) (mask one : ℕ) → n ≡ k + 1 → k < length ss → s ≡ get_or ss k s → one ≡ stride_mask ms s → mask ≡ strides_mask ms (drop n ss)
    → bit_or one mask ≡ strides_mask ms (drop k ss)
strides_back ms ss k n s mask one e lt is here before =
    ap₂ bit_or here (before ∙ ap (λ j. strides_mask ms (drop j ss)) e) ∙ sym (ap (strides_mask ms) (drop_next ss k s lt is))

pub strides_whole : (ms : List ℕ) (ss : List Stride) (n : ℕ) → n ≡ 0 → strides_mask ms (drop n ss) ≡ strides_mask ms ss
strides_whole ms ss n e = ap (λ k. strides_mask ms (drop k ss)) e
