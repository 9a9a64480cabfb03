-- Where the slots are, and one store and one load.
use Rattle.std.proofs.Common.{◌≡◌, ℕ, ◌+◌, ◌*◌, ◌%◌, ◌^◌, ◌<◌, List, ◌∷◌, ap, ◌∙◌, arith, true, Some, None}
use Rattle.std.specs.Prelude.{if◌then◌else◌, bit_xor}
use Rattle.ms_bits.specs.declared.traps.Trap.TheVariants as trap
use Rattle.ms_bits.specs.Maps.{byte_of, with_range, number_at}
use Rattle.ms_bits.specs.Signed.{signed, wrap}
use Rattle.ms_ir.specs.declared.calls.Slot.TheVariants as slot
use Rattle.ms_ir.specs.declared.syntax.Name.{Name}
use Rattle.ms_ir.specs.declared.syntax.Ty.{Ty}
use Rattle.ms_ir.specs.declared.syntax.Operand.{Operand}
use Rattle.ms_ir.specs.declared.syntax.Op.TheVariants as op
use Rattle.ms_ir.specs.declared.syntax.Inst.{Inst}
use Rattle.ms_ir.specs.Names.{slots}
use Rattle.ms_ir.specs.Layout.{width_of, stored_size}
use Rattle.ms_runs.specs.World.{World, Setting, Here, Gives, Does, traps}
use Rattle.ms_runs.specs.Memory.{is_good, set_shadow}
use Rattle.ms_runs.specs.Control.{with_value}
use Rattle.ms_runs.specs.Act.{operand_word}
use Rattle.ms_runs.specs.Plain.{shadow_bits, in_slots, load_marked, store_marked}
use Rattle.ms_pass_tasks.specs.Tasks.{inserted}
use Rattle.ms_pass_tasks.specs.Meaning.{Values, run_marked, marked_next}
use Rattle.ms_pass_tasks.specs.SlotTasks.{param_mask, param_origin, result_mask_slot, result_origin_slot}
use Rattle.ms_pass_tasks.specs.Match.{SlotAddresses, mask_slot, origin_slot}
use Rattle.ms_pass_tasks.proofs.Slots.{slot_of}

-- ---- where the slots are

module _ (s : Setting) (at : SlotAddresses s) (names : Name → ℕ) where
  pub param_mask_at : (k : ℕ) → k < 100 → operand_word s names 64 (param_mask k) ≡ mask_slot k
  param_mask_at k l = ap (λ a. (a + (wrap 64 (signed 64 k) * 8 + 0)) % 2 ^ 64 % 2 ^ 64) (at.stand slot.ParamMasks) ∙ slot_of 0x680000000000 k 8 l (omega arith) (omega arith)

  pub param_origin_at : (k : ℕ) → k < 100 → operand_word s names 64 (param_origin k) ≡ origin_slot k
  param_origin_at k l = ap (λ a. (a + (wrap 64 (signed 64 k) * 4 + 0)) % 2 ^ 64 % 2 ^ 64) (at.stand slot.ParamOrigins) ∙ slot_of 0x680000001000 k 4 l (omega arith) (omega arith)

  pub result_mask_at : operand_word s names 64 result_mask_slot ≡ 0x680000002000
  result_mask_at = ap (λ a. a % 2 ^ 64) (at.stand slot.RetvalMask)

  pub result_origin_at : operand_word s names 64 result_origin_slot ≡ 0x680000003000
  result_origin_at = ap (λ a. a % 2 ^ 64) (at.stand slot.RetvalOrigin)

-- ---- one store and one load

module _ (s : Setting) (h : Here) (names : Name → ℕ) where
  -- the words with some bytes of the slots
  abbrev pub at_cells : (ℕ → ℕ) → Values
  at_cells cells = record { names = names; slots = cells }

  -- a store into a slot
  pub put_slot : (t : Ty) (value slot : Operand) (a : ℕ) → operand_word s names 64 slot ≡ a → in_slots a (stored_size t) slots ≡ true → (rest : List Inst) (cells : ℕ → ℕ) (w : World)
      → run_marked s h (inserted None (op.Store t value slot) ∷ rest) (at_cells cells) w
      ≡ run_marked s h rest (at_cells (with_range cells a (stored_size t) (byte_of (operand_word s names (width_of t) value)))) w
  put_slot t value slot a e f rest cells w =
      let n = stored_size t in
      let x = operand_word s names (width_of t) value in
      ap (λ i. marked_next None names (if in_slots i n slots then with_range cells i n (byte_of x) else cells) (store_marked h.site i t x w) (run_marked s h rest)) e
      ∙ ap (λ b. marked_next None names (if b then with_range cells a n (byte_of x) else cells)
      (if b then Does w else (if is_good w (bit_xor a shadow_bits) n then Does (set_shadow (bit_xor a shadow_bits) n (byte_of x) w) else traps trap.BadAddress h.site w)) (run_marked s h rest)) f

  -- a load from a slot
  pub fetch_slot : (x : Name) (t : Ty) (slot : Operand) (a : ℕ) → operand_word s names 64 slot ≡ a → in_slots a (stored_size t) slots ≡ true → (rest : List Inst) (cells : ℕ → ℕ) (w : World)
      → run_marked s h (inserted (Some x) (op.Load t slot) ∷ rest) (at_cells cells) w
      ≡ run_marked s h rest (record { names = with_value names x (number_at cells a (stored_size t) % 2 ^ width_of t); slots = cells }) w
  fetch_slot x t slot a e f rest cells w =
      let n = stored_size t in
      ap (λ i. marked_next (Some x) names cells (load_marked h.site i t cells w) (run_marked s h rest)) e
      ∙ ap (λ b. marked_next (Some x) names cells
      (if b then Gives (number_at cells a n % 2 ^ width_of t) w else
      (if is_good w (bit_xor a shadow_bits) n then Gives (number_at w.shadow (bit_xor a shadow_bits) n % 2 ^ width_of t) w else traps trap.BadAddress h.site w)) (run_marked s h rest)) f
