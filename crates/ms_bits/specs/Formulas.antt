-- Masks as inserted instructions compute them, in the order of those instructions (after Stepanov and Serebryany,
-- CGO 2015; own in this form). v and u are the numbers of two words of w bits, and m and k their masks; a condition
-- has t and n. Crate ms_bits_laws proves which of them are the exact masks of Completion.
use Rattle.std.specs.Prelude.{◌≡◌, ◌≤◌, ℕ, ◌+◌, ◌-◌, ◌%◌, ◌^◌, Bool, not, eqb, ltb, leb, bit_and, bit_or, bit_xor}
use Rattle.std.specs.Int.{bit_at, from_bool}
use Rattle.ms_bits.specs.Conversions.{select_of}
use Rattle.ms_bits.specs.declared.operations.Pred.{Pred}
use Rattle.ms_bits.specs.declared.operations.Pred.TheVariants.{Eq, Ne, Ugt, Uge, Ult, Ule, Sgt, Sge, Slt, Sle}

-- the greatest completion: every poisoned bit is 1
unfoldable pub greatest : (v m : ℕ) → ℕ
greatest v m = bit_or v m

-- the least completion: every poisoned bit is 0
unfoldable pub least : (v m : ℕ) → ℕ
least v m = bit_xor (bit_or v m) m

-- the union of two masks
unfoldable pub union_mask : (m k : ℕ) → ℕ
union_mask m k = bit_or m k

-- 'and': no defined 0, and some bit poisoned
unfoldable pub and_mask : (v m u k : ℕ) → ℕ
and_mask v m u k = bit_and (bit_and (bit_or v m) (bit_or u k)) (bit_or m k)

-- 'or': no defined 1, and some bit poisoned
unfoldable pub or_mask : (w v m u k : ℕ) → ℕ
or_mask w v m u k = bit_and (bit_and (bit_or (bit_xor v (2 ^ w - 1)) m) (bit_or (bit_xor u (2 ^ w - 1)) k)) (bit_or m k)

-- 'icmp eq' and 'icmp ne': no bit that is defined in both differs, and some bit is poisoned
unfoldable pub eq_mask : (v m u k : ℕ) → ℕ
eq_mask v m u k = bit_and (from_bool (eqb (bit_or (bit_xor v u) (bit_or m k)) (bit_or m k))) (from_bool (not (eqb (bit_or m k) 0)))

-- an ordered comparison: the answers at the two extremes differ
unfoldable pub order_mask : (ℕ → ℕ → Bool) → (v m u k : ℕ) → ℕ
order_mask before v m u k = bit_xor (from_bool (before (least v m) (greatest u k))) (from_bool (before (greatest v m) (least u k)))

-- a word with its sign bit turned: signed order is the unsigned order of these
unfoldable pub turned_sign : (w v : ℕ) → ℕ
turned_sign w v = bit_xor v (2 ^ (w - 1))

-- 'icmp' of each predicate: "greater" is "less" with the operands swapped
unfoldable pub compare_mask : Pred → (w v m u k : ℕ) → ℕ
compare_mask Eq w v m u k = eq_mask v m u k
compare_mask Ne w v m u k = eq_mask v m u k
compare_mask Ugt w v m u k = order_mask ltb u k v m
compare_mask Uge w v m u k = order_mask leb u k v m
compare_mask Ult w v m u k = order_mask ltb v m u k
compare_mask Ule w v m u k = order_mask leb v m u k
compare_mask Sgt w v m u k = order_mask ltb (turned_sign w u) k (turned_sign w v) m
compare_mask Sge w v m u k = order_mask leb (turned_sign w u) k (turned_sign w v) m
compare_mask Slt w v m u k = order_mask ltb (turned_sign w v) m (turned_sign w u) k
compare_mask Sle w v m u k = order_mask leb (turned_sign w v) m (turned_sign w u) k

-- 'select': the chosen operand's mask; with a poisoned condition also where the operands differ
unfoldable pub select_mask : (t n v m u k : ℕ) → ℕ
select_mask t n v m u k = select_of n (bit_or (bit_or (bit_xor v u) m) k) (select_of t m k)

-- sums, differences and products, where carries count: s or (0 - s) of the union s of the operands' masks
unfoldable pub carry_mask : (w s : ℕ) → ℕ
carry_mask w s = bit_or s ((0 + (2 ^ w - s)) % 2 ^ w)

-- bit i of a mask, or a lower one, is 1
abbrev pub HasBitUpTo : (s i : ℕ) → Type 0
HasBitUpTo s i = (j : ℕ) × (j ≤ i) × (bit_at s j ≡ 1)
