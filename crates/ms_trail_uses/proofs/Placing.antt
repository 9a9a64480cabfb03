-- The operand that a result's origin comes from has the place that code finds.
use Rattle.std.proofs.Common.{◌≡◌, ◌≤◌, ◌<◌, ◌+◌, ℕ, suc, Bool, true, false, not, eqb, List, [], ◌∷◌, drop, length, get_or, if◌then◌else◌, refl, sym, ap, ap₂, ◌∙◌, add-one, drop-drop, eq-eqb}
use Rattle.std.proofs.lemmas.List.{drop_all}
use Rattle.ms_bits.specs.declared.operations.BinOp.{BinOp}
use Rattle.ms_bits.specs.declared.operations.Flags.{Flags}
use Rattle.ms_bits.specs.declared.operations.Pred.{Pred}
use Rattle.ms_bits.specs.Conversions.{select_of}
use Rattle.ms_ir.specs.declared.syntax.Name.{Name}
use Rattle.ms_ir.specs.declared.syntax.Ty.{Ty}
use Rattle.ms_ir.specs.declared.syntax.Operand.{Operand}
use Rattle.ms_ir.specs.declared.syntax.Op.{Op}
use Rattle.ms_ir.specs.declared.syntax.Op.TheVariants as op
use Rattle.ms_ir.specs.declared.syntax.Inst.{Inst}
use Rattle.ms_ir.specs.Layout.{width_of}
use Rattle.ms_ir.specs.Instructions.{operands, one_undef}
use Rattle.ms_ir.proofs.Sizes.{drop_next}
use Rattle.ms_runs.specs.declared.runs.Setup.{Setup}
use Rattle.ms_runs.specs.World.{World}
use Rattle.ms_runs.specs.Control.{read_all}
use Rattle.ms_runs.specs.Plain.{setting_of}
use Rattle.ms_runs.specs.Poisoned.{Poisoned}
use Rattle.ms_runs.specs.Masks.{last_origin, result_origin}
use Rattle.ms_runs.specs.Shadow.{operand_mask, read_poisoned}
use Rattle.ms_trail_moves.specs.Sources.{placed}
use Rattle.ms_machine_code.specs.declared.code.WordSource.{WordSource}
use Rattle.ms_machine_code.specs.declared.code.Stride.{Stride}
use Rattle.ms_machine_code.specs.declared.code.Code.{Code}
use Rattle.ms_machine_code.specs.declared.code.Code.TheVariants as code
use Rattle.ms_machine_code.specs.Reads.{ReadIndices, is_integer, strided}
use Rattle.ms_machine_code.specs.Encodes.{Where, Encodes}
use Rattle.ms_trail_masks.specs.Shades.{mask_of, HoldsShades}
use Rattle.ms_trail_masks.specs.Results.{IsComputed}
use Rattle.ms_trail_masks.proofs.Reading.{reads_mask}
use Rattle.ms_trail_masks.proofs.Indices.{integer_clean}
use Rattle.ms_trail_uses.specs.Origins.{head_mask, last_stride, index_read, place_read}
use Rattle.ms_trail_uses.proofs.CodeUses.{source_word, source_mask}

-- ---- one index more

pub stride_more : (ms : List ℕ) (typed : List (Ty × Operand)) (ss : List Stride) (k next best mask now after : ℕ) (integer : Bool) (pair : Ty × Operand) → k < length typed → pair ≡ get_or typed k pair
    → integer ≡ is_integer pair.1 → mask ≡ head_mask ms (drop next ss) → now ≡ (if integer then best else (if eqb mask 0 then best else k + 1)) → after ≡ (if integer then next else next + 1)
    → last_stride ms (drop k typed) (drop next ss) (k + 1) best ≡ last_stride ms (drop (k + 1) typed) (drop after ss) (k + 1 + 1) now
stride_more ms typed ss k next best mask now after integer pair lt is test read better beyond =
    let bs : List (Ty × Operand) = drop (k + 1) typed in
    let this : is_integer pair.1 ≡ integer = sym test in
    let its : head_mask ms (drop next ss) ≡ mask = sym read in
    ap (λ is'. last_stride ms is' (drop next ss) (k + 1) best) (drop_next typed k pair lt is)
    ∙ (λ i. last_stride ms bs (if this i then drop next ss else drop 1 (drop next ss)) (k + 1 + 1) (if this i then best else (if eqb (its i) 0 then best else k + 1)))
    ∙ ap (λ ts. last_stride ms bs ts (k + 1 + 1) (if integer then best else (if eqb mask 0 then best else k + 1))) (by_test integer)
    ∙ (λ i. last_stride ms bs (drop (sym beyond i) ss) (k + 1 + 1) (sym better i))
  where
    by_test : (b : Bool) → (if b then drop next ss else drop 1 (drop next ss)) ≡ drop (if b then next else next + 1) ss
    by_test true = refl
    by_test false = drop-drop 1 next ss

pub strides_done : (ms : List ℕ) (typed : List (Ty × Operand)) (ss : List Stride) (k best : ℕ) → length typed ≤ k → best ≡ last_stride ms (drop k typed) ss (k + 1) best
strides_done ms typed ss k best le = sym (ap (λ is. last_stride ms is ss (k + 1) best) (drop_all k typed le))

pub head_is : (ms : List ℕ) (ss : List Stride) (n m : ℕ) (s : Stride) → n < length ss → s ≡ get_or ss n s → m ≡ mask_of ms s.index → m ≡ head_mask ms (drop n ss)
head_is ms ss n m s lt is e = e ∙ sym (ap (head_mask ms) (drop_next ss n s lt is))

pub head_past : (ms : List ℕ) (ss : List Stride) (n : ℕ) → length ss ≤ n → 0 ≡ head_mask ms (drop n ss)
head_past ms ss n le = sym (ap (head_mask ms) (drop_all n ss le))

pub no_indices : (ms : List ℕ) (ss : List Stride) (o : Op) → ((t : Ty) (base : Operand) (is : List (Ty × Operand)) → o ≡ op.Gep t base is → ⊥) → 0 ≡ index_read ms o ss
no_indices ms ss (op.Gep t base is) h = absurd (h t base is refl)
no_indices ms ss _ h = refl

-- code of another kind has its first operand's
pub other_place : (fill xs ms : List ℕ) (o : Op) (k : Code) → ((b : BinOp) (f : Flags) (w : ℕ) (p q : WordSource) (to : ℕ) → k ≡ code.Binary b f w p q to → ⊥)
    → ((c : Pred) (f : Flags) (w : ℕ) (p q : WordSource) (to : ℕ) → k ≡ code.Icmp c f w p q to → ⊥) → ((c p q : WordSource) (to : ℕ) → k ≡ code.Select c p q to → ⊥)
    → ((base : WordSource) (offset : ℕ) (ss : List Stride) (to : ℕ) → k ≡ code.Gep base offset ss to → ⊥) → 0 ≡ place_read fill xs ms o k
other_place fill xs ms o (code.Binary b f w p q to) binary icmp select gep = absurd (binary b f w p q to refl)
other_place fill xs ms o (code.Icmp c f w p q to) binary icmp select gep = absurd (icmp c f w p q to refl)
other_place fill xs ms o (code.Select c p q to) binary icmp select gep = absurd (select c p q to refl)
other_place fill xs ms o (code.Gep base offset ss to) binary icmp select gep = absurd (gep base offset ss to refl)
other_place fill xs ms o _ binary icmp select gep = refl

-- ---- the place is that of the origin

same_either : (b : Bool) (n : ℕ) → n ≡ (if b then n else n)
same_either true n = refl
same_either false n = refl

two_last : (a b : Bool) → ◌≡◌ {A = ℕ} (if b then 0 else 1) (if b then (if a then 0 else 0) else 1)
two_last true true = refl
two_last true false = refl
two_last false true = refl
two_last false false = refl

module _ (fill xs ms : List ℕ) (at : Where) (u : Setup) (values : Name → Poisoned) (filled : u.fill ≡ fill) (holds : HoldsShades at.names xs ms values) where
  indices_last : (is : List (Ty × Operand)) (ss : List Stride) → ReadIndices at.whole at.names ss (strided is) → (k best root : ℕ)
      → last_stride ms is ss k best ≡ last_origin (placed k (read_all (read_poisoned (setting_of at.whole u) values) is root)) best
  indices_last [] ss reads k best root = refl
  indices_last (i ∷ is) ss reads k best root = by_test (is_integer i.1) refl ss reads (λ ts h n. indices_last is ts h (suc k) n (root + one_undef i.1))
    where
      by_test : (b : Bool) → is_integer i.1 ≡ b → (ts : List Stride) → ReadIndices at.whole at.names ts (if not b then i ∷ strided is else strided is)
          → ((qs : List Stride) → ReadIndices at.whole at.names qs (strided is) → (n : ℕ) → last_stride ms is qs (suc k) n ≡ last_origin (placed (suc k) (read_all (read_poisoned (setting_of at.whole u) values) is (root + one_undef i.1))) n)
          → last_stride ms is (if b then ts else drop 1 ts) (k + 1) (if b then best else (if eqb (head_mask ms ts) 0 then best else k))
          ≡ last_origin (placed (suc k) (read_all (read_poisoned (setting_of at.whole u) values) is (root + one_undef i.1))) (if eqb (operand_mask values (width_of i.0) i.1) 0 then best else k)
      by_test true e ts h later =
          let clean : operand_mask values (width_of i.0) i.1 ≡ 0 = integer_clean values (width_of i.0) i.1 e in
          ap (λ n. last_stride ms is ts n best) (add-one k)
          ∙ later ts h best
          ∙ ap (λ b. last_origin (placed (suc k) (read_all (read_poisoned (setting_of at.whole u) values) is (root + one_undef i.1))) (if b then best else k)) (sym (eq-eqb (operand_mask values (width_of i.0) i.1) 0 clean))
      by_test false e [] h later = absurd h
      by_test false e (s ∷ ts) h later =
          let mask : mask_of ms s.index ≡ operand_mask values (width_of i.0) i.1 = reads_mask at.whole at.names (width_of i.0) s.index i.1 h.0.reads ms values holds.masks in
          let found : (if eqb (mask_of ms s.index) 0 then best else k) ≡ (if eqb (operand_mask values (width_of i.0) i.1) 0 then best else k) = ap (λ m. if eqb m 0 then best else k) mask in
          ap₂ (λ n b. last_stride ms is ts n b) (add-one k) found ∙ later ts h.1 (if eqb (operand_mask values (width_of i.0) i.1) 0 then best else k)

  -- where the origin of a result comes from, as the shadow meaning has it
  abbrev origin_place : (root : ℕ) (world : World) → Op → ℕ
  origin_place root world o = result_origin o (placed 0 (read_all (read_poisoned (setting_of at.whole u) values) (operands o) root)) 0 world

  pub place_is : (root : ℕ) (world : World) (n : ℕ) (k : Code) (inst : Inst) → IsComputed n k → Encodes at k inst → place_read fill xs ms inst.op k ≡ origin_place root world inst.op
  place_is root world n (code.Binary b flags w x y to) inst fits (t, p, q, (is, wide, rx, ry, res)) =
      ap (λ m. if eqb m 0 then 0 else 1) (source_mask fill xs ms at u values filled holds w y q ry ∙ ap (λ z. operand_mask values z q) (sym wide))
      ∙ two_last (eqb (operand_mask values (width_of t) p) 0) (eqb (operand_mask values (width_of t) q) 0)
      ∙ sym (ap (origin_place root world) is)
  place_is root world n (code.Icmp c flags w x y to) inst fits (t, p, q, (is, wide, rx, ry, res)) =
      ap (λ m. if eqb m 0 then 0 else 1) (source_mask fill xs ms at u values filled holds w y q ry ∙ ap (λ z. operand_mask values z q) (sym wide))
      ∙ two_last (eqb (operand_mask values (width_of t) p) 0) (eqb (operand_mask values (width_of t) q) 0)
      ∙ sym (ap (origin_place root world) is)
  place_is root world n (code.Cast c flags w x into to) inst fits (t, p, v, (is, wide, far, rx, res)) = sym (ap (origin_place root world) is)
  place_is root world n (code.Select c x y to) inst fits (t, k, p, q, (is, rc, rx, ry, res)) =
      ap₂ (λ m v. select_of m 0 (select_of v 1 2)) (source_mask fill xs ms at u values filled holds 1 c k rc) (source_word fill xs ms at u values filled holds 1 c k rc)
      ∙ sym (ap (origin_place root world) is)
  place_is root world n (code.Freeze x to) inst fits (t, p, (is, rx, res)) = sym (ap (origin_place root world) is)
  place_is root world n (code.Gep base offset strides to) inst fits (t, p, indices, (is, based, reads, sums, res)) =
      ap (λ o. index_read ms o strides) is
      ∙ indices_last indices strides reads 1 0 (root + one_undef p)
      ∙ ap (last_origin (placed 1 (read_all (read_poisoned (setting_of at.whole u) values) indices (root + one_undef p)))) (same_either (eqb (operand_mask values 64 p) 0) 0)
      ∙ sym (ap (origin_place root world) is)
  place_is root world n k inst fits e = absurd fits
