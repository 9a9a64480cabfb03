-- What is put into the slots is what is taken from them.
use Rattle.std.proofs.Common.{◌≡◌, ◌≢◌, ℕ, zero, suc, ◌+◌, ◌*◌, ◌/◌, ◌%◌, ◌^◌, ◌<◌, ◌≤◌, List, [], ◌∷◌, ◌++◌, length, refl, sym, ap, ◌∙◌, subst, arith, append_assoc, Bool, true, false, Option, Some, None}
use Rattle.std.specs.Prelude.{if◌then◌else◌, leb, ◌&&◌, map, is_some, bit_xor}
use Rattle.std.proofs.Math.Path.{ap₂}
use Rattle.std.proofs.Math.Nat.{mod-eq_of_lt, pow-suc}
use Rattle.std.proofs.Math.Pow.{pow_mono}
use Rattle.ms_bits.specs.declared.traps.Trap.TheVariants as trap
use Rattle.ms_bits.specs.Maps.{byte_of, with_range, number_at}
use Rattle.ms_bits.specs.Signed.{signed, wrap}
use Rattle.ms_bits_laws.proofs.MapLemmas.{stored_is_loaded, load_elsewhere, load_elsewhere_above}
use Rattle.ms_ir.specs.declared.calls.Slot.TheVariants as slot
use Rattle.ms_ir.specs.declared.syntax.Name.{Name}
use Rattle.ms_ir.specs.declared.syntax.Ty.{Ty, Int}
use Rattle.ms_ir.specs.declared.syntax.Operand.{Operand}
use Rattle.ms_ir.specs.declared.syntax.Operand.TheVariants as operand
use Rattle.ms_ir.specs.declared.syntax.Op.{Op}
use Rattle.ms_ir.specs.declared.syntax.Op.TheVariants as op
use Rattle.ms_ir.specs.Names.{is_reserved, name_eq, slots}
use Rattle.ms_ir.specs.Layout.{width_of, stored_size}
use Rattle.ms_runs.specs.World.{World, Setting, Here, Gives, Does, traps}
use Rattle.ms_runs.specs.Memory.{is_good, set_shadow}
use Rattle.ms_ir.specs.Instructions.{operands, one_undef, count_undefs}
use Rattle.ms_ir.proofs.RootKinds.{name_same}
use Rattle.ms_runs.specs.Control.{read_all, with_value, bind}
use Rattle.ms_runs.specs.Act.{operand_word}
use Rattle.ms_runs.specs.Plain.{shadow_bits, in_slots, load_marked, store_marked}
use Rattle.ms_runs.specs.Poisoned.{Poisoned, clean}
use Rattle.ms_runs.specs.Shadow.{read_poisoned}
use Rattle.ms_pass_tasks.specs.Tasks.{mask_name, origin_name, Expr, Leaf, Task, Puts, Fetches}
use Rattle.ms_pass_tasks.specs.Meaning.{Values, Went, evaluate, marked_next, do_tasks, set_result, BelowTasks}
use Rattle.ms_pass_tasks.specs.Environments.{Env, Tracked, tracked, mask_type, mask_of, origin_of, local_mask, local_origin}
use Rattle.ms_pass_tasks.specs.SlotTasks.{param_mask, param_origin, result_mask_slot, result_origin_slot, give_tasks, take_tasks, give_arguments, hand_tasks, take_value, take_parameters}
use Rattle.ms_pass_tasks.specs.Known.{KnownName, KnownOperands, KnownResult, OneName, KnownParams, ArgsFit}
use Rattle.ms_pass_tasks.specs.Match.{held, Matches, RangedValues, SlotAddresses, mask_slot, origin_slot, SlotsHold, ArgsHeld, CallHeld, Handed}
use Rattle.ms_pass_tasks.proofs.InsertedNames.{own_not_msan, mask_not_origin, mask_name_one, origin_name_one, name_self, with_here, with_other}
use Rattle.ms_pass_tasks.proofs.OperandWords.{word_less, mod_once, Holds, tracked_holds, mask_at}
use Rattle.ms_pass_tasks.proofs.MatchedNames.{Defines, mask_elsewhere, origin_elsewhere}
use Rattle.ms_pass_tasks.proofs.Defined.{mask_first, clean_kept}
use Rattle.ms_pass_tasks.proofs.WordMasks.{wrap_signed}
use Rattle.ms_pass_tasks.proofs.TaskNames.{below_append, value_low}
use Rattle.ms_pass_tasks.specs.SlotLaw.{SameLength, ReturnFits, ResultTaken, Entered}
use Rattle.std.proofs.lemmas.List.{append-nil}

-- ---- where the slots are

pub slot_of : (a : ℕ) (k size : ℕ) → k < 100 → a < 2 ^ 47 → size ≤ 8 → (a + (wrap 64 (signed 64 k) * size + 0)) % 2 ^ 64 % 2 ^ 64 ≡ a + k * size
slot_of a k size lk la ls =
    let word : wrap 64 (signed 64 k) ≡ k = wrap_signed 64 k (omega arith) in
    let bound : k * size ≤ 800 = product k size lk ls in
    ap (λ i. (a + (i * size + 0)) % 2 ^ 64 % 2 ^ 64) word ∙ mod_once 64 (a + (k * size + 0)) ∙ ap (λ i. i % 2 ^ 64) (plus (k * size)) ∙ mod-eq_of_lt (omega (arith, bound))
  where
    plus : (n : ℕ) → a + (n + 0) ≡ a + n
    plus n = omega arith

    product : (k size : ℕ) → k < 100 → size ≤ 8 → k * size ≤ 800
    product k size lk ls = let m : k * size ≤ k * 8 = grind arith in omega (arith, m)

module _ (s : Setting) (at : SlotAddresses s) (names : Name → ℕ) where
  param_mask_at : (k : ℕ) → k < 100 → operand_word s names 64 (param_mask k) ≡ mask_slot k
  param_mask_at k l = ap (λ a. (a + (wrap 64 (signed 64 k) * 8 + 0)) % 2 ^ 64 % 2 ^ 64) (at.stand slot.ParamMasks) ∙ slot_of 0x680000000000 k 8 l (omega arith) (omega arith)

  param_origin_at : (k : ℕ) → k < 100 → operand_word s names 64 (param_origin k) ≡ origin_slot k
  param_origin_at k l = ap (λ a. (a + (wrap 64 (signed 64 k) * 4 + 0)) % 2 ^ 64 % 2 ^ 64) (at.stand slot.ParamOrigins) ∙ slot_of 0x680000001000 k 4 l (omega arith) (omega arith)

  result_mask_at : operand_word s names 64 result_mask_slot ≡ 0x680000002000
  result_mask_at = ap (λ a. a % 2 ^ 64) (at.stand slot.RetvalMask)

  result_origin_at : operand_word s names 64 result_origin_slot ≡ 0x680000003000
  result_origin_at = ap (λ a. a % 2 ^ 64) (at.stand slot.RetvalOrigin)

pub in_first : (base size a n : ℕ) (rest : Bool) → base ≤ a → a + n ≤ base + size → (if leb base a && leb (a + n) (base + size) then true else rest) ≡ true
in_first base size a n rest p q =
    let e : leb base a ≡ true = grind arith in
    let f : leb (a + n) (base + size) ≡ true = grind arith in
    ap₂ (λ b c. if b && c then true else rest) e f

pub in_later : (b rest : Bool) → rest ≡ true → (if b then true else rest) ≡ true
in_later true rest e = refl
in_later false rest e = e

pub mask_inside : (k n : ℕ) → k < 100 → n ≤ 8 → in_slots (mask_slot k) n slots ≡ true
mask_inside k n lk ln = in_first 0x680000000000 800 (mask_slot k) n _ (omega arith) (omega arith)

pub origin_inside : (k n : ℕ) → k < 100 → n ≤ 4 → in_slots (origin_slot k) n slots ≡ true
origin_inside k n lk ln = in_later (leb 0x680000000000 (origin_slot k) && leb (origin_slot k + n) (0x680000000000 + 800)) _ (in_first 0x680000001000 400 (origin_slot k) n _ (omega arith) (omega arith))

pub result_inside : (n : ℕ) → n ≤ 8 → in_slots 0x680000002000 n slots ≡ true
result_inside n l =
    in_later (leb 0x680000000000 0x680000002000 && leb (0x680000002000 + n) (0x680000000000 + 800)) _
    (in_later (leb 0x680000001000 0x680000002000 && leb (0x680000002000 + n) (0x680000001000 + 400)) _
    (in_first 0x680000002000 8 0x680000002000 n _ (omega arith) (omega arith)))

pub answer_inside : in_slots 0x680000003000 4 slots ≡ true
answer_inside = refl

-- ---- one store and one load

pub size_small : (w : ℕ) → w ≤ 64 → (w + 7) / 8 ≤ 8
size_small w l = omega arith

pub bytes_bits : (n : ℕ) → 256 ^ n ≡ 2 ^ (8 * n)
bytes_bits zero = refl
bytes_bits (suc n) =
    let e : 8 * suc n ≡ suc (suc (suc (suc (suc (suc (suc (suc (8 * n)))))))) = omega arith in
    pow-suc 256 n ∙ grind (
      arith,
      bytes_bits n,
      e,
      pow-suc 2 (8 * n),
      pow-suc 2 (suc (8 * n)),
      pow-suc 2 (suc (suc (8 * n))),
      pow-suc 2 (suc (suc (suc (8 * n)))),
      pow-suc 2 (suc (suc (suc (suc (8 * n))))),
      pow-suc 2 (suc (suc (suc (suc (suc (8 * n)))))),
      pow-suc 2 (suc (suc (suc (suc (suc (suc (8 * n))))))),
      pow-suc 2 (suc (suc (suc (suc (suc (suc (suc (8 * n)))))))),
    )

-- a word that was stored whole
pub stored_word : (cells : ℕ → ℕ) (a w v : ℕ) → v < 2 ^ w → number_at (with_range cells a ((w + 7) / 8) (byte_of v)) a ((w + 7) / 8) % 2 ^ w ≡ v
stored_word cells a w v l =
    let n = (w + 7) / 8 in
    let room : 2 ^ w ≤ 2 ^ (8 * n) = pow_mono (omega arith) in
    let less : v < 256 ^ n = subst (λ i. v < i) (sym (bytes_bits n)) (omega (arith, room, l)) in
    ap (λ i. i % 2 ^ w) (stored_is_loaded cells a n v ∙ mod-eq_of_lt less) ∙ mod-eq_of_lt l

module _ (s : Setting) (h : Here) (names : Name → ℕ) where
  -- the words with some bytes of the slots
  abbrev at_cells : (ℕ → ℕ) → Values
  at_cells cells = record { names = names; slots = cells }

  put_slot : (t : Ty) (value : Expr) (slot : Operand) (a : ℕ) → operand_word s names 64 slot ≡ a → in_slots a (stored_size t) slots ≡ true → (rest : List Task) (cells : ℕ → ℕ) (w : World)
      → do_tasks s h (Puts t value (Leaf slot) ∷ rest) (at_cells cells) w
      ≡ do_tasks s h rest (at_cells (with_range cells a (stored_size t) (byte_of (evaluate s names value t)))) w
  put_slot t value slot a e f rest cells w =
      let n = stored_size t in
      let x = evaluate s names value t in
      ap (λ i. marked_next None names (if in_slots i n slots then with_range cells i n (byte_of x) else cells) (store_marked h.site i t x w) (do_tasks s h rest)) e
      ∙ ap (λ b. marked_next None names (if b then with_range cells a n (byte_of x) else cells)
      (if b then Does w else (if is_good w (bit_xor a shadow_bits) n then Does (set_shadow (bit_xor a shadow_bits) n (byte_of x) w) else traps trap.BadAddress h.site w)) (do_tasks s h rest)) f

  fetch_slot : (x : Name) (t : Ty) (slot : Operand) (a : ℕ) → operand_word s names 64 slot ≡ a → in_slots a (stored_size t) slots ≡ true → (rest : List Task) (cells : ℕ → ℕ) (w : World)
      → do_tasks s h (Fetches x t (Leaf slot) ∷ rest) (at_cells cells) w
      ≡ do_tasks s h rest (record { names = with_value names x (number_at cells a (stored_size t) % 2 ^ width_of t); slots = cells }) w
  fetch_slot x t slot a e f rest cells w =
      let n = stored_size t in
      ap (λ i. marked_next (Some x) names cells (load_marked h.site i t cells w) (do_tasks s h rest)) e
      ∙ ap (λ b. marked_next (Some x) names cells
      (if b then Gives (number_at cells a n % 2 ^ width_of t) w else
      (if is_good w (bit_xor a shadow_bits) n then Gives (number_at w.shadow (bit_xor a shadow_bits) n % 2 ^ width_of t) w else traps trap.BadAddress h.site w)) (do_tasks s h rest)) f

  -- a word's mask and origin are stored
  abbrev given_cells : (a b : ℕ) → Tracked → (ℕ → ℕ) → (ℕ → ℕ)
  given_cells a b t cells =
      with_range (with_range cells a ((width_of t.ty + 7) / 8) (byte_of (operand_word s names (width_of t.ty) t.mask))) b 4 (byte_of (operand_word s names 32 t.origin))

  give_done : (mask origin : Operand) (a b : ℕ) → operand_word s names 64 mask ≡ a → operand_word s names 64 origin ≡ b → (t : Tracked)
      → in_slots a ((width_of t.ty + 7) / 8) slots ≡ true → in_slots b 4 slots ≡ true → (rest : List Task) (cells : ℕ → ℕ) (w : World)
      → do_tasks s h (give_tasks mask origin t ++ rest) (at_cells cells) w ≡ do_tasks s h rest (at_cells (given_cells a b t cells)) w
  give_done mask origin a b e f t p q rest cells w =
      put_slot (mask_type t.ty) (mask_of t) mask a e p (Puts (Int 32) (origin_of t) (Leaf origin) ∷ rest) cells w
      ∙ put_slot (Int 32) (origin_of t) origin b f q rest (with_range cells a ((width_of t.ty + 7) / 8) (byte_of (operand_word s names (width_of t.ty) t.mask))) w

  given_holds : (a b : ℕ) (t : Tracked) (p : Poisoned) (cells : ℕ → ℕ) → a + (width_of t.ty + 7) / 8 ≤ b → Holds s names t p → SlotsHold (given_cells a b t cells) a b (width_of t.ty) p
  given_holds a b t p cells apart hold =
      let w = width_of t.ty in
      let c1 = with_range cells a ((w + 7) / 8) (byte_of (operand_word s names w t.mask)) in
      record {
        mask = ap (λ i. i % 2 ^ w) (load_elsewhere c1 b 4 (byte_of (operand_word s names 32 t.origin)) a ((w + 7) / 8) apart)
            ∙ stored_word cells a w (operand_word s names w t.mask) (word_less s names w t.mask) ∙ hold.mask;
        origin = λ ne. stored_word c1 b 32 (operand_word s names 32 t.origin) (word_less s names 32 t.origin) ∙ hold.origin ne;
      }

-- ---- arguments

-- slots of smaller numbers hold what they held
record Smaller (k : ℕ) (new old : ℕ → ℕ) : Type 0 where
  pub masks : (j n : ℕ) → j < k → n ≤ 8 → number_at new (mask_slot j) n ≡ number_at old (mask_slot j) n
  pub origins : (j : ℕ) → j < k → number_at new (origin_slot j) 4 ≡ number_at old (origin_slot j) 4

smaller_hold : (k j w : ℕ) (new old : ℕ → ℕ) (p : Poisoned) → Smaller k new old → j < k → w ≤ 64 → SlotsHold old (mask_slot j) (origin_slot j) w p → SlotsHold new (mask_slot j) (origin_slot j) w p
smaller_hold k j w new old p q l lw hold = record {
  mask = ap (λ i. i % 2 ^ w) (q.masks j ((w + 7) / 8) l (size_small w lw)) ∙ hold.mask;
  origin = λ ne. ap (λ i. i % 2 ^ 32) (q.origins j l) ∙ hold.origin ne;
}

module _ (s : Setting) (slots_at : SlotAddresses s) (h : Here) (names : Name → ℕ) where
  -- what stands for words of types
  abbrev Given : List Tracked → List (Ty × Operand) → List Poisoned → Type 0
  Given (t ∷ ts) (o ∷ os) (p ∷ ps) = (t.ty ≡ o.0) × (width_of o.0 ≤ 64) × Holds s names t p × Given ts os ps
  Given [] [] [] = Unit {0}
  Given ts os ps = ⊥

  -- what handing arguments over comes to, from number k on: their slots hold masks and origins, and those before stay
  record ArgsDone (k : ℕ) (ts : List Tracked) (os : List (Ty × Operand)) (ps : List Poisoned) (cells : ℕ → ℕ) : Type 0 where
    pub after : ℕ → ℕ
    pub runs : (rest : List Task) (w : World) → do_tasks s h (give_arguments k ts ++ rest) (at_cells s h names cells) w ≡ do_tasks s h rest (at_cells s h names after) w
    pub held : ArgsHeld after k os ps
    pub kept : Smaller k after cells

  args_done : (ts : List Tracked) (os : List (Ty × Operand)) (ps : List Poisoned) → Given ts os ps → (k : ℕ) → k + length os ≤ 100 → (cells : ℕ → ℕ) → ArgsDone k ts os ps cells
  args_done [] [] [] g k l cells = record { after = cells; runs = λ rest w. refl; held = tt; kept = record { masks = λ j n a b. refl; origins = λ j a. refl } }
  args_done [] [] (p ∷ ps) g k l cells = absurd g
  args_done [] (o ∷ os) ps g k l cells = absurd g
  args_done (t ∷ ts) [] ps g k l cells = absurd g
  args_done (t ∷ ts) (o ∷ os) [] g k l cells = absurd g
  args_done (t ∷ ts) (o ∷ os) (p ∷ ps) g k l cells =
      let w = width_of t.ty in
      let lw : w ≤ 64 = subst (λ i. width_of i ≤ 64) (sym g.0) g.1 in
      let n = (w + 7) / 8 in
      let ln : n ≤ 8 = size_small w lw in
      let a = mask_slot k in
      let b = origin_slot k in
      let c1 = with_range cells a n (byte_of (operand_word s names w t.mask)) in
      let c2 = given_cells s h names a b t cells in
      let r = args_done ts os ps g.3 (suc k) (omega arith) c2 in
      record {
        after = r.after;
        runs = λ rest z.
            ap (λ q. do_tasks s h q (at_cells s h names cells) z) (append_assoc (give_tasks (param_mask k) (param_origin k) t) (give_arguments (suc k) ts) rest)
            ∙ give_done s h names (param_mask k) (param_origin k) a b (param_mask_at s slots_at names k (omega arith)) (param_origin_at s slots_at names k (omega arith)) t
            (mask_inside k n (omega arith) ln) (origin_inside k 4 (omega arith) (omega arith)) (give_arguments (suc k) ts ++ rest) cells z
            ∙ r.runs rest z;
        held = (
          subst (λ i. SlotsHold r.after a b (width_of i) p) g.0
              (smaller_hold (suc k) k w r.after c2 p r.kept (omega arith) lw (given_holds s h names a b t p cells (omega arith) g.2)),
          r.held,
        );
        kept = record {
          masks = λ j m lj lm.
              r.kept.masks j m (omega arith) lm
              ∙ load_elsewhere c1 b 4 (byte_of (operand_word s names 32 t.origin)) (mask_slot j) m (omega arith)
              ∙ load_elsewhere cells a n (byte_of (operand_word s names w t.mask)) (mask_slot j) m (omega arith);
          origins = λ j lj.
              r.kept.origins j (omega arith)
              ∙ load_elsewhere c1 b 4 (byte_of (operand_word s names 32 t.origin)) (origin_slot j) 4 (omega arith)
              ∙ load_elsewhere_above cells a n (byte_of (operand_word s names w t.mask)) (origin_slot j) 4 (omega arith);
        };
      }

  pub given_all : (env : Env) (size : ℕ) (values : Name → Poisoned) → Matches env values names → RangedValues values → (os : List (Ty × Operand)) (root : ℕ) → KnownOperands env size os
      → root + count_undefs os < 2 ^ 32 → Given (tracked env root os) os (read_all (read_poisoned s values) os root)
  given_all env size values m rv [] root k few = tt
  given_all env size values m rv (o ∷ os) root k few = (
    refl,
    k.0,
    tracked_holds s env size values names m rv (o ∷ os) root k few 0,
    given_all env size values m rv os (root + one_undef o.1) k.2 (omega arith),
  )

  -- the list that hands over, before all else
  pub record HandDone (main : Bool) (o : Op) (ts : List Tracked) (ps : List Poisoned) (cells : ℕ → ℕ) : Type 0 where
    pub after : ℕ → ℕ
    pub runs : (rest : List Task) (w : World) → do_tasks s h (hand_tasks s.func main o ts ++ rest) (at_cells s h names cells) w ≡ do_tasks s h rest (at_cells s h names after) w
    pub held : Handed s.func main o ps after

  -- what handing the arguments of a call over comes to
  record OwnDone (args : List (Ty × Operand)) (ts : List Tracked) (ps : List Poisoned) (cells : ℕ → ℕ) (b : Bool) : Type 0 where
    pub after : ℕ → ℕ
    pub runs : (rest : List Task) (w : World) → do_tasks s h ((if b then give_arguments 0 ts else []) ++ rest) (at_cells s h names cells) w ≡ do_tasks s h rest (at_cells s h names after) w
    pub held : CallHeld b after args ps

  pub hand_done : (main : Bool) (o : Op) → ((ret : Option Ty) (callee : Name) (args : List (Ty × Operand)) → o ≡ op.Call ret callee args → is_some (s.func callee) ≡ true → length args ≤ 100)
      → (ts : List Tracked) (ps : List Poisoned) → Given ts (operands o) ps → (cells : ℕ → ℕ) → HandDone main o ts ps cells
  hand_done main (op.Call ret callee args) few ts ps g cells = by_own (is_some (s.func callee)) (few ret callee args refl)
    where
      by : (b : Bool) → (b ≡ true → length args ≤ 100) → OwnDone args ts ps cells b
      by true few = let r = args_done ts args ps g 0 (let q = few refl in omega (arith, q)) cells in record { after = r.after; runs = r.runs; held = r.held }
      by false few = record { after = cells; runs = λ rest w. refl; held = tt }

      by_own : (b : Bool) → (is_some (s.func callee) ≡ true → length args ≤ 100) → HandDone main (op.Call ret callee args) ts ps cells
      by_own b few = let r = by (is_some (s.func callee)) few in record { after = r.after; runs = r.runs; held = r.held }
  hand_done true (op.Ret v) few ts ps g cells = record { after = cells; runs = λ rest w. refl; held = tt }
  hand_done false (op.Ret None) few [] ps g cells = record { after = cells; runs = λ rest w. refl; held = tt }
  hand_done false (op.Ret None) few (t ∷ ts) ps g cells = absurd g
  hand_done false (op.Ret (Some v)) few [] ps g cells = absurd g
  hand_done false (op.Ret (Some v)) few (t ∷ ts) [] g cells = absurd g
  hand_done false (op.Ret (Some v)) few (t ∷ ts) (p ∷ ps) g cells =
      let n = (width_of t.ty + 7) / 8 in
      let lw : width_of t.ty ≤ 64 = subst (λ i. width_of i ≤ 64) (sym g.0) g.1 in
      let ln : n ≤ 8 = size_small (width_of t.ty) lw in
      record {
        after = given_cells s h names 0x680000002000 0x680000003000 t cells;
        runs = λ rest z. give_done s h names result_mask_slot result_origin_slot 0x680000002000 0x680000003000 (result_mask_at s slots_at names) (result_origin_at s slots_at names) t (result_inside n ln) answer_inside rest cells z;
        held = subst (λ i. SlotsHold (given_cells s h names 0x680000002000 0x680000003000 t cells) 0x680000002000 0x680000003000 (width_of i) p) g.0
            (given_holds s h names 0x680000002000 0x680000003000 t p cells (omega arith) g.2);
      }
  hand_done main _ few ts ps g cells = record { after = cells; runs = λ rest w. refl; held = tt }

-- ---- what is taken

-- a value's mask and origin come out of two slots
module _ (s : Setting) (h : Here) (cells : ℕ → ℕ) where
  -- the bytes of the slots with some words
  abbrev at_names : (Name → ℕ) → Values
  at_names names = record { names = names; slots = cells }

  -- the words with what two slots hold
  abbrev taken_names : (mask origin v w : ℕ) → (Name → ℕ) → (Name → ℕ)
  taken_names a b v w names = with_value (with_value names (mask_name v) (number_at cells a ((w + 7) / 8) % 2 ^ w)) (origin_name v) (number_at cells b 4 % 2 ^ 32)

  take_done : (mask origin : Operand) (a b : ℕ) → ((names : Name → ℕ) → operand_word s names 64 mask ≡ a) → ((names : Name → ℕ) → operand_word s names 64 origin ≡ b)
      → (v : ℕ) (t : Ty) → in_slots a ((width_of t + 7) / 8) slots ≡ true → in_slots b 4 slots ≡ true → (rest : List Task) (names : Name → ℕ) (w : World)
      → do_tasks s h (take_tasks mask origin v t ++ rest) (at_names names) w ≡ do_tasks s h rest (at_names (taken_names a b v (width_of t) names)) w
  take_done mask origin a b e f v t p q rest names w =
      let names1 = with_value names (mask_name v) (number_at cells a ((width_of t + 7) / 8) % 2 ^ width_of t) in
      fetch_slot s h names (mask_name v) (mask_type t) mask a (e names) p (Fetches (origin_name v) (Int 32) (Leaf origin) ∷ rest) cells w
      ∙ fetch_slot s h names1 (origin_name v) (Int 32) origin b (f names1) q rest cells w

  -- of a value that is known
  record ValueTaken (env : Env) (mask origin : Operand) (x : Name) (n : ℕ) (t : Ty) (p : Poisoned) (names : Name → ℕ) : Type 0 where
    pub after : Name → ℕ
    pub runs : (rest : List Task) (w : World) → do_tasks s h (take_value env mask origin x t ++ rest) (at_names names) w ≡ do_tasks s h rest (at_names after) w
    pub defines : Defines env x n names after p.mask p.origin

  value_taken : (env : Env) (mask origin : Operand) (a b : ℕ) → ((names : Name → ℕ) → operand_word s names 64 mask ≡ a) → ((names : Name → ℕ) → operand_word s names 64 origin ≡ b)
      → (x : Name) (n : ℕ) → env.number x ≡ Some n → (t : Ty) → in_slots a ((width_of t + 7) / 8) slots ≡ true → in_slots b 4 slots ≡ true
      → (p : Poisoned) → (env.clean x ≡ true → p.mask ≡ 0) → SlotsHold cells a b (width_of t) p → (names : Name → ℕ) → ValueTaken env mask origin x n t p names
  value_taken env mask origin a b e f x n numbered t ia ib p sound hold names = by_clean (env.clean x) refl
    where
      listed : (c : Bool) → env.clean x ≡ c → take_value env mask origin x t ≡ (if c then [] else take_tasks mask origin n t)
      listed c g =
          ap (λ i. if i then [] else elim (env.number x) [ Some v ↦ take_tasks mask origin v t | None ↦ [] ]) g
          ∙ ap (λ i. if c then [] else elim i [ Some v ↦ take_tasks mask origin v t | None ↦ [] ]) numbered

      by_clean : (c : Bool) → env.clean x ≡ c → ValueTaken env mask origin x n t p names
      by_clean true g = record {
        after = names;
        runs = λ rest w. ap (λ l. do_tasks s h (l ++ rest) (at_names names) w) (listed true g);
        defines = clean_kept env x n numbered g names p.mask p.origin (sound g);
      }
      by_clean false g = record {
        after = taken_names a b n (width_of t) names;
        runs = λ rest w. ap (λ l. do_tasks s h (l ++ rest) (at_names names) w) (listed false g) ∙ take_done mask origin a b e f n t ia ib rest names w;
        defines = subst (λ m. Defines env x n names (taken_names a b n (width_of t) names) m p.origin) hold.mask
            (mask_first env x n numbered g names (number_at cells a ((width_of t + 7) / 8) % 2 ^ width_of t) p.origin (number_at cells b 4 % 2 ^ 32) (λ ne. hold.origin (λ z. ne (hold.mask ∙ z))));
      }

pub result_taken : (s : Setting) → SlotAddresses s → (h : Here) (env : Env) (size : ℕ) → OneName env → (x : Option Name) (ret : Option Ty) → KnownResult env size x
    → (values : Name → Poisoned) (p : Poisoned) (names : Name → ℕ) (cells : ℕ → ℕ) → Matches env values names → ReturnFits x ret cells p
    → ((y : Name) → x ≡ Some y → env.clean y ≡ true → p.mask ≡ 0) → ResultTaken s h env x ret values p names cells
result_taken s at h env size one None ret known values p names cells m fits sound = record { after = names; runs = λ w. refl; matches = m }
result_taken s at h env size one (Some x) None known values p names cells m fits sound = absurd fits
result_taken s at h env size one (Some x) (Some t) known values p names cells m fits sound =
    let n = (width_of t + 7) / 8 in
    let before = set_result names (Some x) p.value in
    let r = value_taken s h cells env result_mask_slot result_origin_slot 0x680000002000 0x680000003000 (result_mask_at s at) (result_origin_at s at) x known.place known.numbered t
    (result_inside n (size_small (width_of t) fits.0)) answer_inside p (sound x refl) fits.1 before in
    record {
      after = r.after;
      runs = λ w. ap (λ l. do_tasks s h l (record { names = before; slots = cells }) w) (sym (append-nil (take_value env result_mask_slot result_origin_slot x t))) ∙ r.runs [] w;
      matches = later env size one x known values p names r.after m r.defines;
    }
  where
    -- the result's word stands before its mask and origin here
    later : (env : Env) (size : ℕ) → OneName env → (x : Name) (k : KnownName env size x) (values : Name → Poisoned) (p : Poisoned) (names after : Name → ℕ) → Matches env values names
        → Defines env x k.place (with_value names x p.value) after p.mask p.origin → Matches env (with_value values x p) after
    later env size one x k values p names after m d = record {
      value = λ y own. d.kept y (own_not_msan y (2 * k.place + 1) own) (own_not_msan y (2 * k.place + 2) own) ∙ both y own;
      mask = λ y v e. at_mask y v e (name_eq y x) refl;
      origin = λ y v e ne. at_origin y v e (name_eq y x) refl ne;
    }
      where
        both : (y : Name) → is_reserved y ≡ false → with_value names x p.value y ≡ (with_value values x p y).value
        both y own = by_name (name_eq y x)
          where
            by_name : (b : Bool) → (if b then p.value else names y) ≡ (if b then p else values y).value
            by_name true = refl
            by_name false = m.value y own

        other : (y : Name) (v : ℕ) → env.number y ≡ Some v → name_eq y x ≡ false → v ≢ k.place
        other y v e f z =
            let same : y ≡ x = one y x k.place (e ∙ ap Some z) k.numbered in
            let loop : name_eq x x ≡ false = subst (λ i. name_eq i x ≡ false) same f in
            true_false (sym (name_self x) ∙ loop)
          where
            true_false : true ≡ false → ⊥
            true_false g = grind arith

        kept_mask : (v : ℕ) → v ≢ k.place → after (mask_name v) ≡ names (mask_name v)
        kept_mask v ne =
            d.kept (mask_name v) (λ z. ne (mask_name_one v k.place z)) (mask_not_origin v k.place)
            ∙ with_other names x (mask_name v) p.value (λ z. own_not_msan x (2 * v + 1) k.own (sym z))

        kept_origin : (v : ℕ) → v ≢ k.place → after (origin_name v) ≡ names (origin_name v)
        kept_origin v ne =
            d.kept (origin_name v) (λ z. mask_not_origin k.place v (sym z)) (λ z. ne (origin_name_one v k.place z))
            ∙ with_other names x (origin_name v) p.value (λ z. own_not_msan x (2 * v + 2) k.own (sym z))

        at_mask : (y : Name) (v : ℕ) → env.number y ≡ Some v → (b : Bool) → name_eq y x ≡ b → held after (local_mask env y) ≡ (if b then p else values y).mask
        at_mask y v e true f = ap (λ i. held after (local_mask env i)) (name_same y x f) ∙ d.mask_held
        at_mask y v e false f = mask_elsewhere env after names y v e (kept_mask v (other y v e f)) ∙ m.mask y v e

        at_origin : (y : Name) (v : ℕ) → env.number y ≡ Some v → (b : Bool) → name_eq y x ≡ b → (if b then p else values y).mask ≢ 0
            → held after (local_origin env y) ≡ (if b then p else values y).origin
        at_origin y v e true f ne = ap (λ i. held after (local_origin env i)) (name_same y x f) ∙ d.origin_held ne
        at_origin y v e false f ne = origin_elsewhere env after names y v e (kept_origin v (other y v e f)) ∙ m.origin y v e ne

-- ---- parameters

pub params_low : (env : Env) (size base : ℕ) → 2 * size + 1 ≤ base → (k : ℕ) (params : List (Ty × Name)) → KnownParams env size k params → BelowTasks base (take_parameters env k params)
params_low env size base room k [] known = tt
params_low env size base room k (p ∷ ps) known =
    below_append base (take_value env (param_mask k) (param_origin k) p.1 p.0) (take_parameters env (suc k) ps)
    (value_low env size base room (param_mask k) (param_origin k) tt tt p.1 p.0 (record { own = known.0; place = k; numbered = known.1; below = known.2 }))
    (params_low env size base room (suc k) ps known.4)

-- the words of parameters are bound as their values
pub bind_values : (params : List (Ty × Name)) (ps : List Poisoned) (x : Name) → bind 0 params (map (λ p. p.value) ps) x ≡ (bind clean params ps x).value
bind_values [] ps x = refl
bind_values (a ∷ params) [] x = refl
bind_values (a ∷ params) (p ∷ ps) x = by_name (bind_values params ps x) (name_eq x a.1)
  where
    by_name : bind 0 params (map (λ p. p.value) ps) x ≡ (bind clean params ps x).value → (b : Bool) → (if b then p.value else bind 0 params (map (λ p. p.value) ps) x) ≡ (if b then p else bind clean params ps x).value
    by_name rest true = refl
    by_name rest false = rest

module _ (s : Setting) (slots_at : SlotAddresses s) (h : Here) (cells : ℕ → ℕ) (env : Env) (size : ℕ) (one : OneName env) where
  -- from number k on, names hold the masks and origins of parameters; others hold what they held
  record ParamsTaken (k : ℕ) (params : List (Ty × Name)) (ps : List Poisoned) (names : Name → ℕ) : Type 0 where
    pub after : Name → ℕ
    pub runs : (w : World) → do_tasks s h (take_parameters env k params) (at_names s h cells names) w ≡ Went (at_names s h cells after) w
    pub own : (y : Name) → is_reserved y ≡ false → after y ≡ names y
    pub masks : (x : Name) (v : ℕ) → env.number x ≡ Some v → k ≤ v → held after (local_mask env x) ≡ (bind clean params ps x).mask
    pub origins : (x : Name) (v : ℕ) → env.number x ≡ Some v → k ≤ v → (bind clean params ps x).mask ≢ 0 → held after (local_origin env x) ≡ (bind clean params ps x).origin
    pub before : (v : ℕ) → v < k → (after (mask_name v) ≡ names (mask_name v)) × (after (origin_name v) ≡ names (origin_name v))

  zero_held : (names : Name → ℕ) (x : Name) (v : ℕ) → env.number x ≡ Some v → names (mask_name v) ≡ 0 → held names (local_mask env x) ≡ 0
  zero_held names x v e z = ap (held names) (mask_at env x v e) ∙ by_clean (env.clean x)
    where
      by_clean : (b : Bool) → held names (if b then operand.Int 0 else operand.Local (mask_name v)) ≡ 0
      by_clean true = refl
      by_clean false = z

  params_taken : (params : List (Ty × Name)) (os : List (Ty × Operand)) (ps : List Poisoned) → ArgsFit params os → (k : ℕ) → k + length os ≤ 100 → KnownParams env size k params → ArgsHeld cells k os ps
      → SameLength os ps → (names : Name → ℕ) → ((v : ℕ) → k ≤ v → names (mask_name v) ≡ 0)
      → ((x : Name) (v : ℕ) → env.number x ≡ Some v → k ≤ v → env.clean x ≡ true → (bind clean params ps x).mask ≡ 0) → ParamsTaken k params ps names
  params_taken [] [] ps fit k l known holds same names zeros sound = record {
    after = names;
    runs = λ w. refl;
    own = λ y o. refl;
    masks = λ x v e le. zero_held names x v e (zeros v le);
    origins = λ x v e le ne. absurd (ne refl);
    before = λ v lt. (refl, refl);
  }
  params_taken [] (o ∷ os) ps fit k l known holds same names zeros sound = absurd fit
  params_taken (a ∷ params) [] ps fit k l known holds same names zeros sound = absurd fit
  params_taken (a ∷ params) (o ∷ os) [] fit k l known holds same names zeros sound = absurd same
  params_taken (a ∷ params) (o ∷ os) (p ∷ ps) fit k l known holds same names zeros sound =
      let w = width_of a.0 in
      let n = (w + 7) / 8 in
      let first = value_taken s h cells env (param_mask k) (param_origin k) (mask_slot k) (origin_slot k) (λ f. param_mask_at s slots_at f k (omega arith)) (λ f. param_origin_at s slots_at f k (omega arith))
      a.1 k known.1 a.0 (mask_inside k n (omega arith) (size_small w known.3)) (origin_inside k 4 (omega arith) (omega arith)) p
      (λ c. sym (ap (λ q. q.mask) (with_here (bind clean params ps) a.1 p)) ∙ sound a.1 k known.1 (omega arith) c)
      (subst (λ i. SlotsHold cells (mask_slot k) (origin_slot k) i p) fit.0 holds.0) names in
      let rest = params_taken params os ps fit.1 (suc k) (omega arith) known.4 holds.1 same first.after
      (λ v le. first.defines.kept (mask_name v) (λ z. not_k v le (mask_name_one v k z)) (mask_not_origin v k) ∙ zeros v (omega arith))
      (λ x v e le c. sym (ap (λ q. q.mask) (with_other (bind clean params ps) a.1 x p (other x v e le))) ∙ sound x v e (omega arith) c) in
      record {
        after = rest.after;
        runs = λ z. first.runs (take_parameters env (suc k) params) z ∙ rest.runs z;
        own = λ y o. rest.own y o ∙ first.defines.kept y (own_not_msan y (2 * k + 1) o) (own_not_msan y (2 * k + 2) o);
        masks = λ x v e le. at_mask x v e le (leb (suc k) v) refl first rest;
        origins = λ x v e le ne. at_origin x v e le (leb (suc k) v) refl first rest ne;
        before = λ v lt. (
          (rest.before v (omega arith)).0 ∙ first.defines.kept (mask_name v) (λ z. is_k v lt (mask_name_one v k z)) (mask_not_origin v k),
          (rest.before v (omega arith)).1 ∙ first.defines.kept (origin_name v) (λ z. mask_not_origin k v (sym z)) (λ z. is_k v lt (origin_name_one v k z)),
        );
      }
    where
      not_k : (v : ℕ) → suc k ≤ v → v ≡ k → ⊥
      not_k v le e = omega arith

      is_k : (v : ℕ) → v < k → v ≡ k → ⊥
      is_k v lt e = omega arith

      other : (x : Name) (v : ℕ) → env.number x ≡ Some v → suc k ≤ v → x ≢ a.1
      other x v e le z = not_k v le (some_one (sym e ∙ ap env.number z ∙ known.1))
        where
          some_one : Some v ≡ Some k → v ≡ k
          some_one q = grind arith

      same_name : (x : Name) (v : ℕ) → env.number x ≡ Some v → v ≡ k → x ≡ a.1
      same_name x v e z = one x a.1 k (e ∙ ap Some z) known.1

      at_mask : (x : Name) (v : ℕ) → env.number x ≡ Some v → k ≤ v → (b : Bool) → leb (suc k) v ≡ b
          → (first : ValueTaken s h cells env (param_mask k) (param_origin k) a.1 k a.0 p names) (rest : ParamsTaken (suc k) params ps first.after)
          → held rest.after (local_mask env x) ≡ (with_value (bind clean params ps) a.1 p x).mask
      at_mask x v e le true t first rest =
          let le1 : suc k ≤ v = grind arith in
          rest.masks x v e le1 ∙ sym (ap (λ q. q.mask) (with_other (bind clean params ps) a.1 x p (other x v e le1)))
      at_mask x v e le false t first rest =
          let z : v ≡ k = grind arith in
          let y = same_name x v e z in
          mask_elsewhere env rest.after first.after x v e (rest.before v (omega (arith, z))).0
          ∙ ap (λ i. held first.after (local_mask env i)) y ∙ first.defines.mask_held
          ∙ sym (ap (λ i. (with_value (bind clean params ps) a.1 p i).mask) y ∙ ap (λ q. q.mask) (with_here (bind clean params ps) a.1 p))

      at_origin : (x : Name) (v : ℕ) → env.number x ≡ Some v → k ≤ v → (b : Bool) → leb (suc k) v ≡ b
          → (first : ValueTaken s h cells env (param_mask k) (param_origin k) a.1 k a.0 p names) (rest : ParamsTaken (suc k) params ps first.after)
          → (with_value (bind clean params ps) a.1 p x).mask ≢ 0
          → held rest.after (local_origin env x) ≡ (with_value (bind clean params ps) a.1 p x).origin
      at_origin x v e le true t first rest ne =
          let le1 : suc k ≤ v = grind arith in
          let o = with_other (bind clean params ps) a.1 x p (other x v e le1) in
          rest.origins x v e le1 (λ z. ne (ap (λ q. q.mask) o ∙ z)) ∙ sym (ap (λ q. q.origin) o)
      at_origin x v e le false t first rest ne =
          let z : v ≡ k = grind arith in
          let y = same_name x v e z in
          let o : with_value (bind clean params ps) a.1 p x ≡ p = ap (λ i. with_value (bind clean params ps) a.1 p i) y ∙ with_here (bind clean params ps) a.1 p in
          origin_elsewhere env rest.after first.after x v e (rest.before v (omega (arith, z))).1
          ∙ ap (λ i. held first.after (local_origin env i)) y ∙ first.defines.origin_held (λ q. ne (ap (λ i. i.mask) o ∙ q))
          ∙ sym (ap (λ q. q.origin) o)

  unset_reserved : (params : List (Ty × Name)) (vs : List ℕ) (k j : ℕ) → KnownParams env size k params → bind 0 params vs (mask_name j) ≡ 0
  unset_reserved [] vs k j known = refl
  unset_reserved (a ∷ params) [] k j known = refl
  unset_reserved (a ∷ params) (n ∷ vs) k j known =
      with_other (bind 0 params vs) a.1 (mask_name j) n (λ z. own_not_msan a.1 (2 * j + 1) known.0 (sym z)) ∙ unset_reserved params vs (suc k) j known.4

  pub function_entered : (params : List (Ty × Name)) (os : List (Ty × Operand)) (ps : List Poisoned) → ArgsFit params os → length os ≤ 100 → KnownParams env size 0 params → ArgsHeld cells 0 os ps → SameLength os ps
      → ((x : Name) → env.clean x ≡ true → (bind clean params ps x).mask ≡ 0) → Entered s h env params ps cells
  function_entered params os ps fit l known holds same sound =
      let r = params_taken params os ps fit 0 (omega (arith, l)) known holds same (bind 0 params (map (λ p. p.value) ps)) (λ v le. unset_reserved params (map (λ p. p.value) ps) 0 v known) (λ x v e le c. sound x c) in
      record {
        after = r.after;
        runs = r.runs;
        matches = record {
          value = λ x o. r.own x o ∙ bind_values params ps x;
          mask = λ x v e. r.masks x v e (omega arith);
          origin = λ x v e ne. r.origins x v e (omega arith) ne;
        };
      }
