-- Masks that are computed of what code reads are those of the instruction that it stands for.
use Rattle.std.proofs.Common.{◌≡◌, ℕ, ◌+◌, List, bit_or, refl, sym, ap, ap₂, ◌∙◌, subst}
use Rattle.ms_bits.specs.declared.operations.BinOp.{BinOp}
use Rattle.ms_bits.specs.declared.operations.BinOp.TheVariants.{Add, Sub, Mul, Udiv, Sdiv, Urem, Srem, Shl, Lshr, Ashr, And, Or, Xor}
use Rattle.ms_bits.specs.declared.operations.Flags.{Flags}
use Rattle.ms_bits.specs.declared.operations.Pred.{Pred}
use Rattle.ms_bits.specs.declared.operations.CastOp.{CastOp}
use Rattle.ms_bits.specs.Conversions.{cast_of}
use Rattle.ms_bits.specs.NoFlags.{no_flags}
use Rattle.ms_bits.specs.Formulas.{carry_mask, compare_mask, select_mask}
use Rattle.ms_ir.specs.declared.syntax.Name.{Name}
use Rattle.ms_ir.specs.declared.syntax.Operand.{Operand}
use Rattle.ms_ir.specs.declared.syntax.Op.{Op}
use Rattle.ms_ir.specs.declared.syntax.Module.{Module}
use Rattle.ms_ir.specs.Layout.{width_of}
use Rattle.ms_ir.specs.Instructions.{operands, one_undef}
use Rattle.ms_runs.specs.declared.runs.Setup.{Setup}
use Rattle.ms_runs.specs.World.{World}
use Rattle.ms_runs.specs.Control.{read_all}
use Rattle.ms_runs.specs.Act.{operand_word}
use Rattle.ms_runs.specs.Plain.{setting_of}
use Rattle.ms_runs.specs.Poisoned.{Poisoned}
use Rattle.ms_runs.specs.Masks.{by_formulas, binary_mask, value_or_zero, result_mask}
use Rattle.ms_runs.specs.Shadow.{operand_mask, read_poisoned}
use Rattle.ms_machine_code.specs.declared.code.WordSource.{WordSource}
use Rattle.ms_machine_code.specs.declared.code.Stride.{Stride}
use Rattle.ms_machine_code.specs.declared.code.Code.{Code}
use Rattle.ms_machine_code.specs.declared.code.Code.TheVariants as code
use Rattle.ms_machine_code.specs.Words.{word_of}
use Rattle.ms_machine_code.specs.Reads.{Reads}
use Rattle.ms_machine_code.specs.Encodes.{Where}
use Rattle.ms_trail_masks.specs.Shades.{mask_of, strides_mask, HoldsShades}
use Rattle.ms_trail_masks.specs.Results.{bare, IsMask}
use Rattle.ms_trail_masks.proofs.Reading.{reads_mask}
use Rattle.ms_trail_masks.proofs.Indices.{indices_mask}

-- where a word comes from doesn't matter for the mask of an operation
binary_bare : (o : BinOp) (w : ℕ) (p q : Poisoned) → binary_mask by_formulas o w p q ≡ binary_mask by_formulas o w (bare p.value p.mask) (bare q.value q.mask)
binary_bare Add w p q = refl
binary_bare Sub w p q = refl
binary_bare Mul w p q = refl
binary_bare Udiv w p q = refl
binary_bare Sdiv w p q = refl
binary_bare Urem w p q = refl
binary_bare Srem w p q = refl
binary_bare Shl w p q = refl
binary_bare Lshr w p q = refl
binary_bare Ashr w p q = refl
binary_bare And w p q = refl
binary_bare Or w p q = refl
binary_bare Xor w p q = refl

-- the mask of the result of an operation on what is read in a frame
abbrev mask_in : (m : Module) (u : Setup) (values : Name → Poisoned) (root : ℕ) (world : World) → Op → ℕ
mask_in m u values root world o = result_mask by_formulas o (read_all (read_poisoned (setting_of m u) values) (operands o) root) world

module _ (fill xs ms : List ℕ) (at : Where) (u : Setup) (values : Name → Poisoned) (filled : u.fill ≡ fill) (holds : HoldsShades at.names xs ms values) where
  -- an operand as it is read
  abbrev word : ℕ → Operand → ℕ
  word w o = operand_word (setting_of at.whole u) (λ x. (values x).value) w o

  word_is : (w : ℕ) (s : WordSource) (o : Operand) → Reads at.whole at.names w s o → word_of fill xs s ≡ word w o
  word_is w s o reads = ap (λ f. word_of f xs s) (sym filled) ∙ reads u xs (λ x. (values x).value) holds.words

  mask_is : (w : ℕ) (s : WordSource) (o : Operand) → Reads at.whole at.names w s o → mask_of ms s ≡ operand_mask values w o
  mask_is w s o reads = reads_mask at.whole at.names w s o reads ms values holds.masks

  bare_is : (w : ℕ) (s : WordSource) (o : Operand) → Reads at.whole at.names w s o → bare (word_of fill xs s) (mask_of ms s) ≡ bare (word w o) (operand_mask values w o)
  bare_is w s o reads = ap₂ bare (word_is w s o reads) (mask_is w s o reads)

pub binary_is : (fill xs ms : List ℕ) (o : BinOp) (flags : Flags) (w : ℕ) (a b : WordSource) (to : ℕ)
    → IsMask fill xs ms (code.Binary o flags w a b to) (binary_mask by_formulas o w (bare (word_of fill xs a) (mask_of ms a)) (bare (word_of fill xs b) (mask_of ms b)))
binary_is fill xs ms o flags w a b to at u inst values root world filled (t, p, q, (is, wide, ra, rb, res)) holds =
    ap₂ (binary_mask by_formulas o w) (bare_is fill xs ms at u values filled holds w a p ra) (bare_is fill xs ms at u values filled holds w b q rb)
    ∙ ap (λ z. binary_mask by_formulas o z (bare (operand_word (setting_of at.whole u) (λ x. (values x).value) z p) (operand_mask values z p)) (bare (operand_word (setting_of at.whole u) (λ x. (values x).value) z q) (operand_mask values z q))) (sym wide)
    ∙ sym (binary_bare o (width_of t) (read_poisoned (setting_of at.whole u) values root t p) (read_poisoned (setting_of at.whole u) values (root + one_undef p) t q))
    ∙ sym (ap (mask_in at.whole u values root world) is)

pub icmp_is : (fill xs ms : List ℕ) (o : Pred) (flags : Flags) (w : ℕ) (a b : WordSource) (to : ℕ)
    → IsMask fill xs ms (code.Icmp o flags w a b to) (compare_mask o w (word_of fill xs a) (mask_of ms a) (word_of fill xs b) (mask_of ms b))
icmp_is fill xs ms o flags w a b to at u inst values root world filled (t, p, q, (is, wide, ra, rb, res)) holds =
    ap₂ (λ x y. compare_mask o w x y (word_of fill xs b) (mask_of ms b)) (word_is fill xs ms at u values filled holds w a p ra) (mask_is fill xs ms at u values filled holds w a p ra)
    ∙ ap₂ (λ x y. compare_mask o w (operand_word (setting_of at.whole u) (λ x. (values x).value) w p) (operand_mask values w p) x y)
    (word_is fill xs ms at u values filled holds w b q rb) (mask_is fill xs ms at u values filled holds w b q rb)
    ∙ ap (λ z. compare_mask o z (operand_word (setting_of at.whole u) (λ x. (values x).value) z p) (operand_mask values z p) (operand_word (setting_of at.whole u) (λ x. (values x).value) z q) (operand_mask values z q)) (sym wide)
    ∙ sym (ap (mask_in at.whole u values root world) is)

pub cast_is : (fill xs ms : List ℕ) (o : CastOp) (flags : Flags) (w : ℕ) (a : WordSource) (into to : ℕ)
    → IsMask fill xs ms (code.Cast o flags w a into to) (value_or_zero (cast_of o no_flags w (mask_of ms a) into))
cast_is fill xs ms o flags w a into to at u inst values root world filled (t, p, v, (is, wide, far, ra, res)) holds =
    ap (λ x. value_or_zero (cast_of o no_flags w x into)) (mask_is fill xs ms at u values filled holds w a p ra)
    ∙ ap₂ (λ z y. value_or_zero (cast_of o no_flags z (operand_mask values z p) y)) (sym wide) (sym far)
    ∙ sym (ap (mask_in at.whole u values root world) is)

pub select_is : (fill xs ms : List ℕ) (c a b : WordSource) (to : ℕ)
    → IsMask fill xs ms (code.Select c a b to) (select_mask (word_of fill xs c) (mask_of ms c) (word_of fill xs a) (mask_of ms a) (word_of fill xs b) (mask_of ms b))
select_is fill xs ms c a b to at u inst values root world filled (t, k, p, q, (is, rc, ra, rb, res)) holds =
    ap₂ (λ x y. select_mask x y (word_of fill xs a) (mask_of ms a) (word_of fill xs b) (mask_of ms b)) (word_is fill xs ms at u values filled holds 1 c k rc) (mask_is fill xs ms at u values filled holds 1 c k rc)
    ∙ ap₂ (λ x y. select_mask (operand_word (setting_of at.whole u) (λ x. (values x).value) 1 k) (operand_mask values 1 k) x y (word_of fill xs b) (mask_of ms b))
    (word_is fill xs ms at u values filled holds (width_of t) a p ra) (mask_is fill xs ms at u values filled holds (width_of t) a p ra)
    ∙ ap₂ (λ x y. select_mask (operand_word (setting_of at.whole u) (λ x. (values x).value) 1 k) (operand_mask values 1 k) (operand_word (setting_of at.whole u) (λ x. (values x).value) (width_of t) p) (operand_mask values (width_of t) p) x y)
    (word_is fill xs ms at u values filled holds (width_of t) b q rb) (mask_is fill xs ms at u values filled holds (width_of t) b q rb)
    ∙ sym (ap (mask_in at.whole u values root world) is)

pub address_is : (fill xs ms : List ℕ) (base : WordSource) (offset : ℕ) (strides : List Stride) (to : ℕ) → IsMask fill xs ms (code.Gep base offset strides to) (carry_mask 64 (bit_or (mask_of ms base) (strides_mask ms strides)))
address_is fill xs ms base offset strides to at u inst values root world filled (t, p, indices, (is, based, read, sums, res)) holds =
    ap₂ (λ a b. carry_mask 64 (bit_or a b)) (mask_is fill xs ms at u values filled holds 64 base p based)
    (indices_mask at.whole at.names ms values holds.masks u indices strides read (root + one_undef p))
    ∙ sym (ap (mask_in at.whole u values root world) is)

-- ---- the same, of what was computed

pub binary_told : (fill xs ms : List ℕ) (k : Code) (o : BinOp) (flags : Flags) (w : ℕ) (a b : WordSource) (to va ma vb mb r : ℕ) → k ≡ code.Binary o flags w a b to
    → r ≡ binary_mask by_formulas o w (bare va ma) (bare vb mb) → va ≡ word_of fill xs a → ma ≡ mask_of ms a → vb ≡ word_of fill xs b → mb ≡ mask_of ms b → IsMask fill xs ms k r
binary_told fill xs ms k o flags w a b to va ma vb mb r is told ea fa eb fb =
    subst (λ x. IsMask fill xs ms x r) (sym is)
    (subst (λ n. IsMask fill xs ms (code.Binary o flags w a b to) n) (sym (told ∙ ap₂ (binary_mask by_formulas o w) (ap₂ bare ea fa) (ap₂ bare eb fb))) (binary_is fill xs ms o flags w a b to))

pub icmp_told : (fill xs ms : List ℕ) (k : Code) (o : Pred) (flags : Flags) (w : ℕ) (a b : WordSource) (to va ma vb mb r : ℕ) → k ≡ code.Icmp o flags w a b to
    → r ≡ compare_mask o w va ma vb mb → va ≡ word_of fill xs a → ma ≡ mask_of ms a → vb ≡ word_of fill xs b → mb ≡ mask_of ms b → IsMask fill xs ms k r
icmp_told fill xs ms k o flags w a b to va ma vb mb r is told ea fa eb fb =
    subst (λ x. IsMask fill xs ms x r) (sym is)
    (subst (λ n. IsMask fill xs ms (code.Icmp o flags w a b to) n)
    (sym (told ∙ ap₂ (λ x y. compare_mask o w x y vb mb) ea fa ∙ ap₂ (compare_mask o w (word_of fill xs a) (mask_of ms a)) eb fb)) (icmp_is fill xs ms o flags w a b to))

pub cast_told : (fill xs ms : List ℕ) (k : Code) (o : CastOp) (flags : Flags) (w : ℕ) (a : WordSource) (into to ma r : ℕ) → k ≡ code.Cast o flags w a into to
    → r ≡ value_or_zero (cast_of o no_flags w ma into) → ma ≡ mask_of ms a → IsMask fill xs ms k r
cast_told fill xs ms k o flags w a into to ma r is told fa =
    subst (λ x. IsMask fill xs ms x r) (sym is)
    (subst (λ n. IsMask fill xs ms (code.Cast o flags w a into to) n) (sym (told ∙ ap (λ x. value_or_zero (cast_of o no_flags w x into)) fa)) (cast_is fill xs ms o flags w a into to))

pub select_told : (fill xs ms : List ℕ) (k : Code) (c a b : WordSource) (to vc mc va ma vb mb r : ℕ) → k ≡ code.Select c a b to
    → r ≡ select_mask vc mc va ma vb mb → vc ≡ word_of fill xs c → mc ≡ mask_of ms c → va ≡ word_of fill xs a → ma ≡ mask_of ms a → vb ≡ word_of fill xs b → mb ≡ mask_of ms b → IsMask fill xs ms k r
select_told fill xs ms k c a b to vc mc va ma vb mb r is told ec fc ea fa eb fb =
    subst (λ x. IsMask fill xs ms x r) (sym is)
    (subst (λ n. IsMask fill xs ms (code.Select c a b to) n)
    (sym (told ∙ ap₂ (λ x y. select_mask x y va ma vb mb) ec fc ∙ ap₂ (λ x y. select_mask (word_of fill xs c) (mask_of ms c) x y vb mb) ea fa
    ∙ ap₂ (select_mask (word_of fill xs c) (mask_of ms c) (word_of fill xs a) (mask_of ms a)) eb fb)) (select_is fill xs ms c a b to))

pub address_told : (fill xs ms : List ℕ) (k : Code) (base : WordSource) (offset : ℕ) (strides read : List Stride) (to r : ℕ) → k ≡ code.Gep base offset strides to → read ≡ strides
    → r ≡ carry_mask 64 (bit_or (mask_of ms base) (strides_mask ms read)) → IsMask fill xs ms k r
address_told fill xs ms k base offset strides read to r is same told =
    subst (λ x. IsMask fill xs ms x r) (sym is)
    (subst (λ n. IsMask fill xs ms (code.Gep base offset strides to) n) (sym (told ∙ ap (λ ss. carry_mask 64 (bit_or (mask_of ms base) (strides_mask ms ss))) same)) (address_is fill xs ms base offset strides to))
