-- The mask that code reads is what two readings differ by: one with all undefined bits 1 and the masks in place of the
-- values, and one with all bits 0. So what code reads decides its masks.
use Rattle.std.proofs.Common.{◌≡◌, ◌+◌, ◌-◌, ◌^◌, ℕ, zero, suc, List, [], ◌∷◌, map, length, get_or, set, bit_and, Bool, true, false, refl, sym, ap, ap₂, ◌∙◌, arith, if◌then◌else◌, Option}
use Rattle.std.specs.Prelude.{unwrap_or}
use Rattle.std.proofs.Math.Nat.{zero-mod}
use Rattle.ms_ir.specs.declared.syntax.Name.{Name}
use Rattle.ms_ir.specs.declared.syntax.Name.TheVariants.{Number}
use Rattle.ms_ir.specs.declared.syntax.Ty.{Ty}
use Rattle.ms_ir.specs.declared.syntax.Operand.{Operand}
use Rattle.ms_ir.specs.declared.syntax.Operand.TheVariants as operand
use Rattle.ms_ir.specs.declared.syntax.Op.{Op}
use Rattle.ms_ir.specs.declared.syntax.Op.TheVariants as op
use Rattle.ms_ir.specs.declared.syntax.Inst.{Inst}
use Rattle.ms_ir.specs.declared.syntax.Module.{Module}
use Rattle.ms_ir.specs.Names.{name_eq}
use Rattle.ms_ir.specs.Layout.{width_of}
use Rattle.ms_ir.specs.Instructions.{one_undef, roots_in, func_index, blocks_at, insts_at, block_index, root_at}
use Rattle.ms_runs.specs.declared.runs.Setup.{Setup}
use Rattle.ms_runs.specs.Control.{read_all, read_edge, phis, with_value, block_name}
use Rattle.ms_runs.specs.Act.{operand_word, plain_reading}
use Rattle.ms_runs.specs.Plain.{setting_of}
use Rattle.ms_runs.specs.Poisoned.{Poisoned, clean}
use Rattle.ms_runs.specs.Shadow.{operand_mask, read_poisoned}
use Rattle.ms_check_valid.specs.FlowGraph.{name_place}
use Rattle.ms_machine_code.specs.declared.code.WordSource.{WordSource}
use Rattle.ms_machine_code.specs.declared.code.WordSource.TheVariants as source
use Rattle.ms_machine_code.specs.declared.code.PhiMove.{PhiMove}
use Rattle.ms_machine_code.specs.declared.code.Edge.{Edge}
use Rattle.ms_machine_code.specs.Words.{word_of, moved, put_all, read_by}
use Rattle.ms_machine_code.specs.Reads.{Holds, Reads, ReadsAll}
use Rattle.ms_machine_code.specs.Encodes.{Where, values_at, Leads}
use Rattle.ms_trail_masks.specs.Shades.{mask_of, masks_of, masks_read, masks_moved, shades_at}
use Rattle.ms_trail_masks.proofs.Fills.{ones_word, zeros_word}

-- ---- two setups

abbrev ones : Setup
ones = record { input = []; fill = 255 ∷ []; steps = 0; reports = 0; once = false }

abbrev none : Setup
none = record { input = []; fill = 0 ∷ []; steps = 0; reports = 0; once = false }

abbrev zeros : List Name → List ℕ
zeros names = map (λ x. 0) names

zero_at : (names : List Name) (k : ℕ) → get_or (zeros names) k 0 ≡ 0
zero_at [] k = refl
zero_at (x ∷ names) zero = refl
zero_at (x ∷ names) (suc k) = zero_at names k

zeros_count : (names : List Name) → length (zeros names) ≡ length names
zeros_count [] = refl
zeros_count (x ∷ names) = ap suc (zeros_count names)

zeros_hold : (names : List Name) → Holds names (zeros names) (λ x. 0)
zeros_hold names = record { count = zeros_count names; same = λ x known. zero_at names (name_place names x) }

-- ---- one word

nothing_less : (a : ℕ) → a ≡ a - 0
nothing_less a = omega arith

itself_less : (a : ℕ) → 0 ≡ a - a
itself_less a = omega arith

less_zero : (a b : ℕ) → b ≡ 0 → a ≡ a - b
less_zero a b e = omega (arith, e)

and_none : (mask : ℕ) → bit_and 0 mask ≡ 0
and_none mask = grind arith

pub source_difference : (names : List Name) (ms : List ℕ) (s : WordSource) → mask_of ms s ≡ word_of (255 ∷ []) ms s - word_of (0 ∷ []) (zeros names) s
source_difference names ms (source.Value k mask) =
    less_zero (bit_and (get_or ms k 0) mask) (bit_and (get_or (zeros names) k 0) mask) (ap (λ n. bit_and n mask) (zero_at names k) ∙ and_none mask)
source_difference names ms (source.Word v) = itself_less v
source_difference names ms (source.Undefined width) = sym (ones_word width) ∙ less_zero _ _ (zeros_word width)

module _ (m : Module) where
  -- the word of an operand with all undefined bits 1, and with all bits 0
  abbrev upper : (Name → ℕ) → ℕ → Operand → ℕ
  upper values w o = operand_word (setting_of m ones) values w o

  abbrev lower : ℕ → Operand → ℕ
  lower w o = operand_word (setting_of m none) (λ x. 0) w o

  pub operand_difference : (values : Name → Poisoned) (w : ℕ) (o : Operand) → operand_mask values w o ≡ upper (λ x. (values x).mask) w o - lower w o
  operand_difference values w operand.Undef = sym (ones_word w) ∙ less_zero _ _ (zeros_word w)
  operand_difference values w operand.Poison = sym (ones_word w) ∙ less_zero _ _ (zeros_word w)
  operand_difference values w (operand.Local x) = less_zero _ _ (zero-mod (2 ^ w))
  operand_difference values w (operand.Int n) = itself_less _
  operand_difference values w operand.Null = itself_less _
  operand_difference values w (operand.Global x) = itself_less _
  operand_difference values w (operand.Offset x is) = itself_less _

  -- the mask of an operand is read where its word is
  pub reads_mask : (names : List Name) (w : ℕ) (s : WordSource) (o : Operand) → Reads m names w s o → (ms : List ℕ) (values : Name → Poisoned) → Holds names ms (λ x. (values x).mask)
      → mask_of ms s ≡ operand_mask values w o
  reads_mask names w s o reads ms values holds =
      source_difference names ms s
      ∙ ap₂ (λ a b. a - b) (reads ones ms (λ x. (values x).mask) holds) (reads none (zeros names) (λ x. 0) (zeros_hold names))
      ∙ sym (operand_difference values w o)

  pub read_masks : (names : List Name) (ss : List WordSource) (os : List (Ty × Operand)) → ReadsAll m names ss os → (u : Setup) (ms : List ℕ) (values : Name → Poisoned) → Holds names ms (λ x. (values x).mask)
      → (n : ℕ) → masks_of ms ss ≡ map (λ p. p.mask) (read_all (read_poisoned (setting_of m u) values) os n)
  read_masks names [] [] reads u ms values holds n = refl
  read_masks names [] (o ∷ os) reads u ms values holds n = absurd reads
  read_masks names (s ∷ ss) [] reads u ms values holds n = absurd reads
  read_masks names (s ∷ ss) (o ∷ os) reads u ms values holds n =
      ap₂ (λ a b. a ∷ b) (reads_mask names (width_of o.0) s o.1 reads.0 ms values holds) (read_masks names ss os reads.1 u ms values holds (n + one_undef o.1))

-- ---- jumps

-- a list holds what two others differ by
pub record Differs (ms xs ys : List ℕ) : Type 0 where
  pub upper_count : length xs ≡ length ms
  pub lower_count : length ys ≡ length ms
  pub each : (k : ℕ) → get_or ms k 0 ≡ get_or xs k 0 - get_or ys k 0

set_count : (xs : List ℕ) (k v : ℕ) → length (set xs k v) ≡ length xs
set_count [] k v = refl
set_count (x ∷ xs) zero v = refl
set_count (x ∷ xs) (suc k) v = ap suc (set_count xs k v)

each_set : (ms xs ys : List ℕ) (to a b c : ℕ) → length xs ≡ length ms → length ys ≡ length ms → ((k : ℕ) → get_or ms k 0 ≡ get_or xs k 0 - get_or ys k 0) → a ≡ b - c
    → (k : ℕ) → get_or (set ms to a) k 0 ≡ get_or (set xs to b) k 0 - get_or (set ys to c) k 0
each_set [] [] [] to a b c p q h e k = h k
each_set [] [] (y ∷ ys) to a b c p q h e k = absurd (omega (arith, q))
each_set [] (x ∷ xs) ys to a b c p q h e k = absurd (omega (arith, p))
each_set (m ∷ ms) [] ys to a b c p q h e k = absurd (omega (arith, p))
each_set (m ∷ ms) (x ∷ xs) [] to a b c p q h e k = absurd (omega (arith, q))
each_set (m ∷ ms) (x ∷ xs) (y ∷ ys) zero a b c p q h e zero = e
each_set (m ∷ ms) (x ∷ xs) (y ∷ ys) zero a b c p q h e (suc k) = h (suc k)
each_set (m ∷ ms) (x ∷ xs) (y ∷ ys) (suc to) a b c p q h e zero = h zero
each_set (m ∷ ms) (x ∷ xs) (y ∷ ys) (suc to) a b c p q h e (suc k) = each_set ms xs ys to a b c (omega (arith, p)) (omega (arith, q)) (λ j. h (suc j)) e k

differ_set : (ms xs ys : List ℕ) (to a b c : ℕ) → Differs ms xs ys → a ≡ b - c → Differs (set ms to a) (set xs to b) (set ys to c)
differ_set ms xs ys to a b c h e = record {
  upper_count = set_count xs to b ∙ h.upper_count ∙ sym (set_count ms to a);
  lower_count = set_count ys to c ∙ h.lower_count ∙ sym (set_count ms to a);
  each = each_set ms xs ys to a b c h.upper_count h.lower_count h.each e;
}

put_difference : (names : List Name) (old : List ℕ) (moves : List PhiMove) (ms xs ys : List ℕ) → Differs ms xs ys
    → Differs (put_all ms moves (masks_read old moves)) (put_all xs moves (read_by (255 ∷ []) old moves)) (put_all ys moves (read_by (0 ∷ []) (zeros names) moves))
put_difference names old [] ms xs ys h = h
put_difference names old (p ∷ ps) ms xs ys h =
    put_difference names old ps (set ms p.to (mask_of old p.from)) (set xs p.to (word_of (255 ∷ []) old p.from)) (set ys p.to (word_of (0 ∷ []) (zeros names) p.from))
    (differ_set ms xs ys p.to _ _ _ h (source_difference names old p.from))

module _ (m : Module) (u : Setup) where
  -- how words are read with all undefined bits 1, and with all bits 0
  abbrev upper_read : (Name → Poisoned) → ℕ → Ty → Operand → ℕ
  upper_read old = plain_reading.read (setting_of m ones) (λ x. (old x).mask)

  abbrev lower_read : ℕ → Ty → Operand → ℕ
  lower_read = plain_reading.read (setting_of m none) (λ x. 0)

  abbrev shadow_read : (Name → Poisoned) → ℕ → Ty → Operand → Poisoned
  shadow_read old = read_poisoned (setting_of m u) old

  edge_difference : (old : Name → Poisoned) (t : Ty) (from : Name) (es : List (Operand × Name)) (n : ℕ)
      → (read_edge (shadow_read old) clean t from es n).mask ≡ read_edge (upper_read old) 0 t from es n - read_edge lower_read 0 t from es n
  edge_difference old t from [] n = refl
  edge_difference old t from (e ∷ es) n = by_test (name_eq e.1 from) (edge_difference old t from es (n + one_undef e.0))
    where
      by_test : (b : Bool)
          → (read_edge (shadow_read old) clean t from es (n + one_undef e.0)).mask ≡ read_edge (upper_read old) 0 t from es (n + one_undef e.0) - read_edge lower_read 0 t from es (n + one_undef e.0)
          → (if b then shadow_read old n t e.0 else read_edge (shadow_read old) clean t from es (n + one_undef e.0)).mask
          ≡ (if b then upper_read old n t e.0 else read_edge (upper_read old) 0 t from es (n + one_undef e.0)) - (if b then lower_read n t e.0 else read_edge lower_read 0 t from es (n + one_undef e.0))
      by_test true rest = operand_difference m old (width_of t) e.0
      by_test false rest = rest

  with_difference : (v : Name → Poisoned) (a b : Name → ℕ) (x : Name) (p : Poisoned) (c d : ℕ) → ((y : Name) → (v y).mask ≡ a y - b y) → p.mask ≡ c - d
      → (y : Name) → (with_value v x p y).mask ≡ with_value a x c y - with_value b x d y
  with_difference v a b x p c d h e y = by_test (name_eq y x)
    where
      by_test : (t : Bool) → (if t then p else v y).mask ≡ (if t then c else a y) - (if t then d else b y)
      by_test true = e
      by_test false = h y

  module _ (func : Name → Option ℕ) (old : Name → Poisoned) (from : Name) where
    phis_difference : (is : List Inst) (n : ℕ) (v : Name → Poisoned) (a b : Name → ℕ) → ((y : Name) → (v y).mask ≡ a y - b y)
        → (y : Name) → (phis (shadow_read old) clean func from is n v y).mask ≡ phis (upper_read old) 0 func from is n a y - phis lower_read 0 func from is n b y
    phis_difference [] n v a b h y = h y
    phis_difference (i ∷ is) n v a b h y = by_op i.op (λ k v' a' b' h'. phis_difference is k v' a' b' h' y)
      where
        by_op : (o : Op)
            → ((k : ℕ) (v' : Name → Poisoned) (a' b' : Name → ℕ) → ((z : Name) → (v' z).mask ≡ a' z - b' z)
            → (phis (shadow_read old) clean func from is k v' y).mask ≡ phis (upper_read old) 0 func from is k a' y - phis lower_read 0 func from is k b' y)
            → ((elim o as (λ z. Name → Poisoned) [
              | op.Phi t edges ↦ phis (shadow_read old) clean func from is (n + roots_in func i) (with_value v (unwrap_or i.result (Number 0)) (read_edge (shadow_read old) clean t from edges n))
              | _ ↦ v
            ]) y).mask
            ≡ (elim o as (λ z. Name → ℕ) [
              | op.Phi t edges ↦ phis (upper_read old) 0 func from is (n + roots_in func i) (with_value a (unwrap_or i.result (Number 0)) (read_edge (upper_read old) 0 t from edges n))
              | _ ↦ a
            ]) y
            - (elim o as (λ z. Name → ℕ) [
              | op.Phi t edges ↦ phis lower_read 0 func from is (n + roots_in func i) (with_value b (unwrap_or i.result (Number 0)) (read_edge lower_read 0 t from edges n))
              | _ ↦ b
            ]) y
        by_op (op.Phi t edges) later = later (n + roots_in func i) _ _ _ (with_difference v a b (unwrap_or i.result (Number 0)) _ _ _ h (edge_difference old t from edges n))
        by_op _ later = h y

-- after a jump the masks are those of the phis
pub jump_masks : (at : Where) (e : Edge) (to : Name) → Leads at e to → (u : Setup) (ms : List ℕ) (values : Name → Poisoned) → Holds at.names ms (λ x. (values x).mask)
    → Holds at.names (masks_moved ms e.moves) (λ x. (shades_at at u to values x).mask)
jump_masks at e to leads u ms values holds =
    let up : Holds at.names (moved (255 ∷ []) ms e.moves) (values_at at ones to (λ x. (values x).mask)) = leads.moves ones ms (λ x. (values x).mask) holds in
    let low : Holds at.names (moved (0 ∷ []) (zeros at.names) e.moves) (values_at at none to (λ x. 0)) = leads.moves none (zeros at.names) (λ x. 0) (zeros_hold at.names) in
    let start : Differs ms ms (zeros at.names) = record {
      upper_count = refl;
      lower_count = zeros_count at.names ∙ sym holds.count;
      each = λ k. less_zero (get_or ms k 0) (get_or (zeros at.names) k 0) (zero_at at.names k);
    } in
    let differ : Differs (masks_moved ms e.moves) (moved (255 ∷ []) ms e.moves) (moved (0 ∷ []) (zeros at.names) e.moves) = put_difference at.names ms e.moves ms ms (zeros at.names) start in
    let b : ℕ = block_index (blocks_at at.whole at.func) to in
    record {
      count = sym differ.upper_count ∙ up.count;
      same = λ x known.
          differ.each (name_place at.names x)
          ∙ ap₂ (λ a c. a - c) (up.same x known) (low.same x known)
          ∙ sym (phis_difference at.whole u (func_index at.whole.funcs) values (block_name at.whole at.func at.block) (insts_at at.whole at.func b)
          (root_at (func_index at.whole.funcs) at.whole at.func b 0) values (λ z. (values z).mask) (λ z. 0) (λ z. nothing_less (values z).mask) x);
    }
