-- Which operand the poisoned bits of a result come from (own).
use Rattle.std.specs.Prelude.{ℕ, ◌+◌, eqb, List, [], ◌∷◌, drop, if◌then◌else◌}
use Rattle.ms_bits.specs.Conversions.{select_of}
use Rattle.ms_ir.specs.declared.syntax.Ty.{Ty}
use Rattle.ms_ir.specs.declared.syntax.Operand.{Operand}
use Rattle.ms_ir.specs.declared.syntax.Op.{Op}
use Rattle.ms_ir.specs.declared.syntax.Op.TheVariants as op
use Rattle.ms_machine_code.specs.declared.code.Stride.{Stride}
use Rattle.ms_machine_code.specs.declared.code.Code.{Code}
use Rattle.ms_machine_code.specs.declared.code.Code.TheVariants as code
use Rattle.ms_machine_code.specs.Words.{word_of}
use Rattle.ms_machine_code.specs.Reads.{is_integer}
use Rattle.ms_trail_masks.specs.Shades.{mask_of}

-- the mask of the index of the first of some strides
abbrev pub head_mask : (ms : List ℕ) → List Stride → ℕ
head_mask ms [] = 0
head_mask ms (s ∷ ss) = mask_of ms s.index

-- the place of the last of these indices whose mask isn't 0, which are counted from one on, else the one given; an integer
-- has no stride
abbrev pub last_stride : (ms : List ℕ) → List (Ty × Operand) → List Stride → (k best : ℕ) → ℕ
last_stride ms [] ss k best = best
last_stride ms (i ∷ is) ss k best =
    last_stride ms is (if is_integer i.1 then ss else drop 1 ss) (k + 1) (if is_integer i.1 then best else (if eqb (head_mask ms ss) 0 then best else k))

abbrev pub index_read : (ms : List ℕ) → Op → List Stride → ℕ
index_read ms (op.Gep t base indices) ss = last_stride ms indices ss 1 0
index_read ms o ss = 0

-- the place of the operand whose origin a result has, by its code
abbrev pub place_read : (fill xs ms : List ℕ) → Op → Code → ℕ
place_read fill xs ms o (code.Binary b flags w p q to) = if eqb (mask_of ms q) 0 then 0 else 1
place_read fill xs ms o (code.Icmp c flags w p q to) = if eqb (mask_of ms q) 0 then 0 else 1
place_read fill xs ms o (code.Select c p q to) = select_of (mask_of ms c) 0 (select_of (word_of fill xs c) 1 2)
place_read fill xs ms o (code.Gep base offset strides to) = index_read ms o strides
place_read fill xs ms o k = 0

-- the place of the last of some masks that isn't 0, where places are counted from k on; else the one given
abbrev pub last_masked : (k : ℕ) → (masks : List ℕ) → (best : ℕ) → ℕ
last_masked k [] best = best
last_masked k (m ∷ ms) best = last_masked (k + 1) ms (if eqb m 0 then best else k)
