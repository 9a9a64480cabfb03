-- Which bits of a result are poisoned, and where they come from (after Stepanov and Serebryany, CGO 2015; own in this form).
use Rattle.std.specs.Prelude.{◌≡◌, ◌<◌, ℕ, zero, suc, ◌-◌, ◌%◌, ◌^◌, not, List, [], ◌∷◌, map, drop, eqb, if◌then◌else◌, bit_or, Option, Some, None, Result, Ok, Err}
use Rattle.std.specs.Int.{from_bool}
use Rattle.ms_bits.specs.declared.traps.Trap.{Trap}
use Rattle.ms_bits.specs.declared.operations.BinOp.{BinOp}
use Rattle.ms_bits.specs.declared.operations.BinOp.TheVariants.{Add, Sub, Mul, Udiv, Sdiv, Urem, Srem, Shl, Lshr, Ashr, And, Or, Xor}
use Rattle.ms_bits.specs.declared.operations.Pred.{Pred}
use Rattle.ms_bits.specs.Arithmetic.{binary_of}
use Rattle.ms_bits.specs.Conversions.{compare_of, cast_of, select_of}
use Rattle.ms_bits.specs.Maps.{number_at}
use Rattle.ms_bits.specs.Fill.{number_of_bits}
use Rattle.ms_bits.specs.Completion.{mask_of, select_mask_of}
use Rattle.ms_bits.specs.Formulas as formulas
use Rattle.ms_bits.specs.WordFunctions.{bits_of, word_mask}
use Rattle.ms_ir.specs.declared.calls.External.{External}
use Rattle.ms_ir.specs.declared.calls.External.TheVariants.{Word}
use Rattle.ms_ir.specs.Names.{lookup, externals}
use Rattle.ms_ir.specs.declared.syntax.Ty.{Ty}
use Rattle.ms_ir.specs.declared.syntax.Op.{Op}
use Rattle.ms_ir.specs.declared.syntax.Op.TheVariants as op
use Rattle.ms_bits.specs.NoFlags.{no_flags}
use Rattle.ms_ir.specs.Layout.{width_of, stored_size}
use Rattle.ms_runs.specs.World.{World}
use Rattle.ms_runs.specs.Origins.{load_origin}
use Rattle.ms_runs.specs.Act.{truth, extended_all}
use Rattle.ms_runs.specs.Poisoned.{Poisoned, clean, InRange}

-- which rules give the masks of results: of `and`, `or`, `xor`, comparisons, selections, and sums, whose union of masks is given
pub record Rules : Type 0 where
  pub both : (w : ℕ) → Poisoned → Poisoned → ℕ
  pub either : (w : ℕ) → Poisoned → Poisoned → ℕ
  pub one : (w : ℕ) → Poisoned → Poisoned → ℕ
  pub compare : Pred → (w : ℕ) → Poisoned → Poisoned → ℕ
  pub select : (w : ℕ) → Poisoned → Poisoned → Poisoned → ℕ
  pub sum : (w union : ℕ) → ℕ

abbrev pub value_or_zero : Result ℕ Trap → ℕ
value_or_zero (Ok v) = v
value_or_zero (Err t) = 0

-- the exact mask, of so many bits, of an operation on two words of w bits
abbrev pub exact_mask : (ℕ → ℕ → ℕ) → (w bits : ℕ) → Poisoned → Poisoned → ℕ
exact_mask f w bits p q = mask_of f w p.value p.mask q.value q.mask bits

abbrev pub exact_binary : BinOp → ℕ → Poisoned → Poisoned → ℕ
exact_binary o w p q = exact_mask (λ a b. value_or_zero (binary_of o no_flags w a b)) w w p q

-- the bits of a mask of w bits, and all bits above its lowest one: bit i is set where bit i or a lower one is
abbrev pub from_lowest : (w mask : ℕ) → ℕ
from_lowest w mask = number_of_bits (λ i. from_bool (not (eqb (mask % 2 ^ suc i) 0))) w

-- the rules: two choices of completions give results that differ at the bit; in a sum a poisoned bit of either operand poisons
-- each bit above it too, since it may carry
abbrev pub by_completions : Rules
by_completions = record {
  both = exact_binary And;
  either = exact_binary Or;
  one = exact_binary Xor;
  compare = λ o w p q. exact_mask (λ a b. value_or_zero (truth (compare_of o no_flags w a b))) w 1 p q;
  select = λ w k p q. select_mask_of k.value k.mask w p.value p.mask q.value q.mask;
  sum = λ w union. from_lowest w union;
}

-- the same as inserted instructions compute it
abbrev pub by_formulas : Rules
by_formulas = record {
  both = λ w p q. formulas.and_mask p.value p.mask q.value q.mask;
  either = λ w p q. formulas.or_mask w p.value p.mask q.value q.mask;
  one = λ w p q. formulas.union_mask p.mask q.mask;
  compare = λ o w p q. formulas.compare_mask o w p.value p.mask q.value q.mask;
  select = λ w k p q. formulas.select_mask k.value k.mask p.value p.mask q.value q.mask;
  sum = λ w union. formulas.carry_mask w union;
}

-- ---- results

abbrev pub shift_mask : BinOp → ℕ → Poisoned → Poisoned → ℕ
shift_mask o w p q = if eqb q.mask 0 then value_or_zero (binary_of o no_flags w p.mask q.value) else (2 ^ w - 1)

abbrev pub binary_mask : Rules → BinOp → ℕ → Poisoned → Poisoned → ℕ
binary_mask d Add w p q = d.sum w (bit_or p.mask q.mask)
binary_mask d Sub w p q = d.sum w (bit_or p.mask q.mask)
binary_mask d Mul w p q = d.sum w (bit_or p.mask q.mask)
binary_mask d Udiv w p q = p.mask
binary_mask d Sdiv w p q = p.mask
binary_mask d Urem w p q = p.mask
binary_mask d Srem w p q = p.mask
binary_mask d Shl w p q = shift_mask Shl w p q
binary_mask d Lshr w p q = shift_mask Lshr w p q
binary_mask d Ashr w p q = shift_mask Ashr w p q
binary_mask d And w p q = d.both w p q
binary_mask d Or w p q = d.either w p q
binary_mask d Xor w p q = d.one w p q

abbrev pub union : List ℕ → ℕ
union [] = 0
union (m ∷ ms) = bit_or m (union ms)

abbrev pub word_at : ℕ → List Poisoned → Poisoned
word_at k [] = clean
word_at zero (p ∷ ps) = p
word_at (suc k) (p ∷ ps) = word_at k ps

-- the mask of what an external answers: that of a function of whole words, else 0
abbrev pub answer_mask : Option External → List Poisoned → ℕ
answer_mask (Some (Word f n)) ps =
    word_mask f (bits_of n) (word_at 0 ps).value (word_at 0 ps).mask (word_at 1 ps).value (word_at 1 ps).mask (word_at 2 ps).value (word_at 2 ps).mask
answer_mask _ ps = 0

-- cut to the width of a result, where there is one
abbrev pub as_result : Option Ty → ℕ → ℕ
as_result None m = 0
as_result (Some t) m = m % 2 ^ width_of t

-- of a call it is read where an external answers, which has no place among the functions
abbrev pub result_mask : Rules → Op → List Poisoned → World → ℕ
result_mask d (op.Binary o f t a b) ps w = binary_mask d o (width_of t) (word_at 0 ps) (word_at 1 ps)
result_mask d (op.Icmp o f t a b) ps w = d.compare o (width_of t) (word_at 0 ps) (word_at 1 ps)
result_mask d (op.Cast o f t a u) ps w = value_or_zero (cast_of o no_flags (width_of t) (word_at 0 ps).mask (width_of u))
result_mask d (op.Select c t a b) ps w = d.select (width_of t) (word_at 0 ps) (word_at 1 ps) (word_at 2 ps)
result_mask d (op.Load t a) ps w = number_at w.shadow (word_at 0 ps).value (stored_size t) % 2 ^ width_of t
result_mask d (op.Gep t a is) ps w = d.sum 64 (bit_or (word_at 0 ps).mask (union (extended_all is (map (λ p. p.mask) (drop 1 ps)))))
result_mask d (op.Call ret callee args) ps w = as_result ret (answer_mask (lookup externals callee) ps)
result_mask d _ ps w = 0

-- the last word's whose mask isn't 0, else the one given
abbrev pub last_origin : List Poisoned → ℕ → ℕ
last_origin [] best = best
last_origin (p ∷ ps) best = last_origin ps (if eqb p.mask 0 then best else p.origin)

abbrev pub select_origin : Poisoned → Poisoned → Poisoned → ℕ
select_origin k p q = select_of k.mask k.origin (select_of k.value p.origin q.origin)

abbrev pub answer_origin : Option External → List Poisoned → ℕ
answer_origin (Some (Word f n)) ps = last_origin ps (word_at 0 ps).origin
answer_origin _ ps = 0

abbrev pub result_origin : Op → List Poisoned → (mask : ℕ) → World → ℕ
result_origin (op.Binary o f t a b) ps m w = last_origin ps (word_at 0 ps).origin
result_origin (op.Icmp o f t a b) ps m w = last_origin ps (word_at 0 ps).origin
result_origin (op.Cast o f t a u) ps m w = (word_at 0 ps).origin
result_origin (op.Select c t a b) ps m w = select_origin (word_at 0 ps) (word_at 1 ps) (word_at 2 ps)
result_origin (op.Load t a) ps m w = load_origin (word_at 0 ps).value m w
result_origin (op.Gep t a is) ps m w = last_origin ps (word_at 0 ps).origin
result_origin (op.Call ret callee args) ps m w = answer_origin (lookup externals callee) ps
result_origin _ ps m w = 0

-- two sets of rules that give the same masks of words in range
pub record SameRules (d e : Rules) : Type 0 where
  pub both : (w : ℕ) (p q : Poisoned) → InRange w p → InRange w q → d.both w p q ≡ e.both w p q
  pub either : (w : ℕ) (p q : Poisoned) → InRange w p → InRange w q → d.either w p q ≡ e.either w p q
  pub one : (w : ℕ) (p q : Poisoned) → InRange w p → InRange w q → d.one w p q ≡ e.one w p q
  pub compare : (o : Pred) (w : ℕ) (p q : Poisoned) → InRange w p → InRange w q → d.compare o w p q ≡ e.compare o w p q
  pub select : (w : ℕ) (k p q : Poisoned) → InRange 1 k → InRange w p → InRange w q → d.select w k p q ≡ e.select w k p q
  pub sum : (w u : ℕ) → u < 2 ^ w → d.sum w u ≡ e.sum w u
