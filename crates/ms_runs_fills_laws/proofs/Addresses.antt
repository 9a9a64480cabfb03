-- Addresses that 'getelementptr' gives of words that agree outside their masks.
use Rattle.std.proofs.Common.{◌≡◌, ℕ, suc, ◌+◌, ◌*◌, ◌%◌, ◌^◌, ◌<◌, ◌≤◌, List, [], ◌∷◌, map, refl, sym, ap, ◌∙◌, arith, bit_or, ◌⊎◌, inl, inr}
use Rattle.std.specs.Int.{bit_at}
use Rattle.std.proofs.lemmas.Nat.{or_lt}
use Rattle.std.proofs.lemmas.Nat.Bits.{bit_at_or}
use Rattle.ms_ir.specs.declared.syntax.Ty.{Ty, Int, Ptr, Array', Struct', Named}
use Rattle.ms_ir.specs.declared.syntax.Operand.{Operand}
use Rattle.ms_ir.specs.declared.syntax.Op.{Op}
use Rattle.ms_ir.specs.declared.syntax.Op.TheVariants as op
use Rattle.ms_ir.specs.Layout.{Types, width_of, size_in, row_types, type_at, resolved, part_type, part_offset, parts_offset, extended, indexed}
use Rattle.ms_ir.specs.Instructions.{one_undef}
use Rattle.ms_runs.specs.Control.{read_all}
use Rattle.ms_runs.specs.Act.{extended_all}
use Rattle.ms_runs.specs.Poisoned.{Poisoned}
use Rattle.ms_runs.specs.Masks.{union}
use Rattle.ms_bits.specs.Completion.{Agrees}
use Rattle.ms_bits.specs.Formulas.{carry_mask}
use Rattle.ms_bits_laws.proofs.Agreement.{add_keeps, mul_keeps}
use Rattle.ms_bits_laws.proofs.BitLemmas.{bit_at_mod, bit_at_same_mod, same_mod_from_bits}
use Rattle.ms_bits_laws.proofs.CarryMasks.{clear_below}
use Rattle.ms_bits_laws.proofs.OperationAgreement as operations
use Rattle.ms_runs_laws.proofs.SameRuns.{union_fits}
use Rattle.ms_runs_fills_laws.proofs.Words.{LowAt, same_number}

-- ---- types whose parts are all alike

-- what is no struct
abbrev pub IsEven : Ty → Type 0
IsEven (Struct' packed shape fields) = ⊥
IsEven t = Unit {0}

even_offset : (types : Types) (t : Ty) (k : ℕ) → IsEven t → part_offset types t k ≡ k * part_offset types t 1
even_offset types (Array' n shape item) k e = ap (λ x. k * x) (once (size_in types (type_at (row_types item) 0)))
  where
    once : (size : ℕ) → size ≡ 1 * size
    once size = omega arith
even_offset types (Struct' packed shape fields) k e = absurd e
even_offset types (Int n) k e = omega arith
even_offset types Ptr k e = omega arith
even_offset types (Named x) k e = omega arith

pub even_part : (t : Ty) (k : ℕ) → IsEven t → part_type t k ≡ part_type t 1
even_part (Struct' packed shape fields) k e = absurd e
even_part t k e = refl

-- ---- what an address of a valid module has

-- indices that lead into a type, with their words: each has 1 to 64 bits, and one that leads into a struct no poisoned one
abbrev pub PartsStand : Types → Ty → List (Ty × Operand) → List Poisoned → Type 0
PartsStand types t [] ps = Unit {0}
PartsStand types t (i ∷ is) [] = Unit {0}
PartsStand types t (i ∷ is) (p ∷ ps) =
    (1 ≤ width_of i.0) × (width_of i.0 ≤ 64) × (IsEven (resolved types t) ⊎ (p.mask ≡ 0)) × PartsStand types (part_type (resolved types t) (extended (width_of i.0) p.value)) is ps

-- the first index counts whole types
abbrev pub IndicesStand : Types → Ty → List (Ty × Operand) → List Poisoned → Type 0
IndicesStand types t [] ps = Unit {0}
IndicesStand types t (i ∷ is) [] = Unit {0}
IndicesStand types t (i ∷ is) (p ∷ ps) = (1 ≤ width_of i.0) × (width_of i.0 ≤ 64) × PartsStand types t is ps

abbrev pub AddressStands : Types → Op → List Poisoned → Type 0
AddressStands types (op.Gep t base is) (p ∷ ps) = IndicesStand types t is ps
AddressStands types o ps = Unit {0}

-- ---- words of indices

-- words of the indices' widths that agree
abbrev pub AllAt : List (Ty × Operand) → List Poisoned → List Poisoned → Type 0
AllAt [] [] [] = Unit {0}
AllAt (i ∷ is) (p ∷ ps) (q ∷ qs) = LowAt (width_of i.0) p q × AllAt is ps qs
AllAt _ _ _ = ⊥

pub read_all_at : (read other : ℕ → Ty → Operand → Poisoned) → ((n : ℕ) (t : Ty) (o : Operand) → LowAt (width_of t) (read n t o) (other n t o))
    → (is : List (Ty × Operand)) (n : ℕ) → AllAt is (read_all read is n) (read_all other is n)
read_all_at read other h [] n = tt
read_all_at read other h (i ∷ is) n = (h n i.0 i.1, read_all_at read other h is (n + one_undef i.1))

-- the masks and the numbers of indices as words of 64 bits
abbrev masks_of : List (Ty × Operand) → List Poisoned → List ℕ
masks_of is ps = extended_all is (map (λ p. p.mask) ps)

abbrev numbers_of : List (Ty × Operand) → List Poisoned → List ℕ
numbers_of is ps = extended_all is (map (λ p. p.value) ps)

-- no bit of a mask up to a place
abbrev ClearTo : ℕ → ℕ → Type 0
ClearTo i m = (j : ℕ) → j ≤ i → bit_at m j ≡ 0

clear_left : (i m k : ℕ) → ClearTo i (bit_or m k) → ClearTo i m
clear_left i m k h j l = omega (arith, h j l, bit_at_or m k j)

clear_right : (i m k : ℕ) → ClearTo i (bit_or m k) → ClearTo i k
clear_right i m k h j l = omega (arith, h j l, bit_at_or m k j)

module _ (types : Types) (i : ℕ) (l : i < 64) where
  -- words that agree leave the same remainder where no bit is poisoned up to a place
  word_same : (p q : Poisoned) → LowAt 64 p q → ClearTo i p.mask → p.value % 2 ^ suc i ≡ q.value % 2 ^ suc i
  word_same p q h clear = same_mod_from_bits (suc i) p.value q.value (λ j lj. h.value j (omega (arith, lj, l)) (clear j (omega (arith, lj))))

  index_same : (w : ℕ) (p q : Poisoned) → 1 ≤ w → w ≤ 64 → LowAt w p q → ClearTo i (extended w p.mask) → extended w p.value % 2 ^ suc i ≡ extended w q.value % 2 ^ suc i
  index_same w p q some few h clear =
      same_mod_from_bits (suc i) (extended w p.value) (extended w q.value) (λ j lj.
      operations.extended w 64 p.mask p.value q.value some few h.left.mask h.left.value h.right.value h.value j (omega (arith, lj, l)) (clear j (omega (arith, lj))))

  -- a step into a part
  step_same : (r : Ty) (v u : ℕ) → v % 2 ^ suc i ≡ u % 2 ^ suc i → (IsEven r ⊎ (v ≡ u)) → (part_offset types r v % 2 ^ suc i ≡ part_offset types r u % 2 ^ suc i) × (part_type r v ≡ part_type r u)
  step_same r v u h (inl e) = (
    ap (λ n. n % 2 ^ suc i) (even_offset types r v e)
        ∙ mul_keeps v (part_offset types r 1) u (part_offset types r 1) (2 ^ suc i) h refl
        ∙ sym (ap (λ n. n % 2 ^ suc i) (even_offset types r u e)),
    even_part r v e ∙ sym (even_part r u e),
  )
  step_same r v u h (inr e) = (ap (λ n. part_offset types r n % 2 ^ suc i) e, ap (part_type r) e)

  -- where indices lead
  parts_same : (t : Ty) (is : List (Ty × Operand)) (ps qs : List Poisoned) → AllAt is ps qs → PartsStand types t is ps → ClearTo i (union (masks_of is ps))
      → parts_offset types t (numbers_of is ps) % 2 ^ suc i ≡ parts_offset types t (numbers_of is qs) % 2 ^ suc i
  parts_same t [] [] [] at stand clear = refl
  parts_same t (x ∷ is) (p ∷ ps) (q ∷ qs) at stand clear =
      let w = width_of x.0 in
      let r = resolved types t in
      let masks = clear_right i (extended w p.mask) (union (masks_of is ps)) clear in
      let number = index_same w p q stand.0 stand.1 at.0 (clear_left i (extended w p.mask) (union (masks_of is ps)) clear) in
      let step = step_same r (extended w p.value) (extended w q.value) number (which stand.2) in
      add_keeps (part_offset types r (extended w p.value)) _ (part_offset types r (extended w q.value)) _ (2 ^ suc i) step.0
      (parts_same (part_type r (extended w p.value)) is ps qs at.1 stand.3 masks
      ∙ ap (λ y. parts_offset types y (numbers_of is qs) % 2 ^ suc i) step.1)
    where
      which : (IsEven (resolved types t) ⊎ (p.mask ≡ 0)) → IsEven (resolved types t) ⊎ (extended (width_of x.0) p.value ≡ extended (width_of x.0) q.value)
      which (inl e) = inl e
      which (inr z) = inr (ap (extended (width_of x.0)) (same_number (width_of x.0) p q at.0 z))
  parts_same t [] [] (q ∷ qs) at stand clear = absurd at
  parts_same t [] (p ∷ ps) qs at stand clear = absurd at
  parts_same t (x ∷ is) [] qs at stand clear = absurd at
  parts_same t (x ∷ is) (p ∷ ps) [] at stand clear = absurd at

  -- the address's bit at that place
  bit_same : (t : Ty) (is : List (Ty × Operand)) (p q : Poisoned) (ps qs : List Poisoned) → LowAt 64 p q → AllAt is ps qs → IndicesStand types t is ps → ClearTo i (bit_or p.mask (union (masks_of is ps)))
      → bit_at (indexed types t p.value (numbers_of is ps)) i ≡ bit_at (indexed types t q.value (numbers_of is qs)) i
  bit_same t [] p q [] [] low at stand clear = low.value i l (clear_left i p.mask 0 clear i (omega arith))
  bit_same t (x ∷ is) p q (a ∷ ps) (b ∷ qs) low at stand clear =
      let w = width_of x.0 in
      let masks = clear_right i p.mask (bit_or (extended w a.mask) (union (masks_of is ps))) clear in
      let number = index_same w a b stand.0 stand.1 at.0 (clear_left i (extended w a.mask) (union (masks_of is ps)) masks) in
      let inner = parts_same t is ps qs at.1 stand.2 (clear_right i (extended w a.mask) (union (masks_of is ps)) masks) in
      let base = word_same p q low (clear_left i p.mask (bit_or (extended w a.mask) (union (masks_of is ps))) clear) in
      let size = size_in types t in
      bit_at_mod _ 64 i l
      ∙ bit_at_same_mod _ _ (suc i) i (omega arith)
      (add_keeps p.value _ q.value _ (2 ^ suc i) base
      (add_keeps (extended w a.value * size) _ (extended w b.value * size) _ (2 ^ suc i)
      (mul_keeps (extended w a.value) size (extended w b.value) size (2 ^ suc i) number refl) inner))
      ∙ sym (bit_at_mod _ 64 i l)
  bit_same t [] p q [] (b ∷ qs) low at stand clear = absurd at
  bit_same t [] p q (a ∷ ps) qs low at stand clear = absurd at
  bit_same t (x ∷ is) p q [] qs low at stand clear = absurd at
  bit_same t (x ∷ is) p q (a ∷ ps) [] low at stand clear = absurd at

-- addresses agree outside the mask of carries
pub addresses_agree : (types : Types) (t : Ty) (is : List (Ty × Operand)) (p q : Poisoned) (ps qs : List Poisoned) → LowAt 64 p q → AllAt is ps qs → IndicesStand types t is ps
    → Agrees 64 (carry_mask 64 (bit_or p.mask (union (masks_of is ps)))) (indexed types t p.value (numbers_of is ps)) (indexed types t q.value (numbers_of is qs))
addresses_agree types t is p q ps qs low at stand i l z =
    bit_same types i l t is p q ps qs low at stand
    (clear_below 64 (bit_or p.mask (union (masks_of is ps))) i (or_lt 64 p.mask (union (masks_of is ps)) low.left.mask (union_fits is (map (λ p. p.mask) ps))) l z)
