-- What the tasks after an 'alloca' and a 'store' do to shadow and origins.
use Rattle.std.proofs.Common.{◌≡◌, ◌≢◌, ℕ, zero, suc, ◌+◌, ◌-◌, ◌*◌, ◌/◌, ◌%◌, ◌^◌, ◌<◌, ◌≤◌, List, [], ◌∷◌, ◌++◌, length, refl, sym, ap, ◌∙◌, arith, Bool, true, false, Option, Some, None}
use Rattle.std.specs.Prelude.{if◌then◌else◌, eqb, leb, ltb, ◌&&◌, ◌||◌, not, max, bit_xor}
use Rattle.std.proofs.Math.Path.{fun_ext}
use Rattle.std.proofs.Math.Nat.{mod-eq_of_lt}
use Rattle.std.proofs.lemmas.Bool.{false≢true}
use Rattle.ms_bits.specs.declared.traps.Trap.TheVariants as trap
use Rattle.ms_bits.specs.Maps.{byte_of, with_cell}
use Rattle.ms_ir.specs.declared.syntax.Name.{Name}
use Rattle.ms_ir.specs.declared.syntax.Ty.{Ty, Int, Ptr}
use Rattle.ms_runs.specs.declared.runs.End.{End}
use Rattle.ms_ir.specs.declared.calls.RuntimeFn.TheVariants as function
use Rattle.ms_ir.specs.Names.{slots}
use Rattle.ms_ir.specs.Layout.{width_of, stored_size}
use Rattle.ms_ir.specs.Areas.{Area, Fixed, Heap, Stack}
use Rattle.ms_runs.specs.World.{World, Setting, Here, Does, traps, result}
use Rattle.ms_runs.specs.Memory.{is_good, set_shadow, set_cells, fits, next_base, used}
use Rattle.ms_runs.specs.Origins.{Chained, store_origin, mark_cells, chain, keeps_old, pair_index, poison}
use Rattle.ms_runs.specs.Plain.{shadow_bits, in_slots, store_marked}
use Rattle.ms_runs.specs.Act.{operand_word}
use Rattle.ms_runs.specs.Poisoned.{Poisoned}
use Rattle.ms_pass_tasks.specs.Tasks.{Task, Puts, Calls, parts}
use Rattle.ms_pass_tasks.specs.Meaning.{Went, evaluate, marked_next, do_tasks, task_slots, evaluate_all}
use Rattle.ms_pass_tasks.specs.Environments.{Tracked, mask_type, mask_of, origin_of, word_of, number, widened}
use Rattle.ms_pass_tasks.specs.ResultTasks.{shadow_address}
use Rattle.ms_pass_tasks.specs.Match.{RangedWorld}
use Rattle.ms_pass_tasks.proofs.OperandWords.{ap₃, word_less}
use Rattle.ms_pass_tasks.proofs.CheckTasks.{widened_word, whole}
use Rattle.ms_pass_tasks.proofs.DefineLoad.{xor_twice, address_word, good_slot}

-- ---- what doesn't show in an answer

-- two worlds that answer alike
abbrev pub Alike : World → World → Type 0
Alike w u = (e : End) → result e w ≡ result e u

mark_alike : (n a m o : ℕ) (w : World) → Alike w (mark_cells n a m o w)
mark_alike zero a m o w e = refl
mark_alike (suc n) a m o w e =
    one (eqb (m % 256) 0 || not (is_good w a 1))
    ∙ mark_alike n (a + 1) (m / 256) o (if eqb (m % 256) 0 || not (is_good w a 1) then w else record w { origins = with_cell w.origins a o }) e
  where
    one : (b : Bool) → result e w ≡ result e (if b then w else record w { origins = with_cell w.origins a o })
    one true = refl
    one false = refl

-- a pair that was found, or is made
abbrev chained_at : Setting → ℕ → ℕ → World → Option ℕ → Chained
chained_at s old site w p = elim p [
  | Some k ↦ record { id = s.roots + 1 + k; world = w }
  | None ↦ record { id = s.roots + 1 + length w.pairs; world = record w { pairs = w.pairs ++ (old, site) ∷ [] } }
]

-- an origin that is kept as it is
abbrev kept_at : ℕ → World → Chained
kept_at old w = record { id = old; world = w }

pub chain_alike : (s : Setting) (old site : ℕ) (w : World) → Alike w (chain s old site w).world
chain_alike s old site w e = by_old (keeps_old s w old)
  where
    by_pair : (p : Option ℕ) → result e w ≡ result e (chained_at s old site w p).world
    by_pair (Some k) = refl
    by_pair None = refl

    by_old : (b : Bool) → result e w ≡ result e (if b then kept_at old w else chained_at s old site w (pair_index w.pairs old site)).world
    by_old true = refl
    by_old false = by_pair (pair_index w.pairs old site)

pub origin_alike : (s : Setting) (a mask o site : ℕ) (w : World) → Alike w (store_origin s a mask o site w)
origin_alike s a mask o site w e = by_mask (eqb mask 0)
  where
    by_mask : (b : Bool) → result e w ≡ result e (if b then w else mark_cells 8 a mask (chain s o site w).id (chain s o site w).world)
    by_mask true = refl
    by_mask false = chain_alike s o site w e ∙ mark_alike 8 a mask (chain s o site w).id (chain s o site w).world e

pub poison_alike : (a from to o : ℕ) (w : World) → Alike w (poison a from to o w)
poison_alike a from to o w e = by_good (ltb from to && is_good w ((a + from) % 2 ^ 64) (to - from))
  where
    by_good : (b : Bool) → result e w ≡ result e (if b then set_cells ((a + from) % 2 ^ 64) (to - from) o (set_shadow ((a + from) % 2 ^ 64) (to - from) (λ k. 255) w) else w)
    by_good true = refl
    by_good false = refl

-- ---- a store

-- the origin of a mask that is 0 doesn't matter
store_origin_same : (s : Setting) (a mask o p site : ℕ) (w : World) → (mask ≢ 0 → o ≡ p) → store_origin s a mask o site w ≡ store_origin s a mask p site w
store_origin_same s a zero o p site w e = refl
store_origin_same s a (suc k) o p site w e = ap (λ x. store_origin s a (suc k) x site w) (e (λ z. grind arith))

-- no bytes are changed
none_changed : (a : ℕ) (new : ℕ → ℕ) (w : World) → w ≡ set_shadow a 0 new w
none_changed a new w = ap (λ f. record w { shadow = f }) (fun_ext (λ x. sym (ap (λ b. if b then new (x - a) else w.shadow x) (outside x))))
  where
    outside : (x : ℕ) → (leb a x && ltb x (a + 0)) ≡ false
    outside x = grind arith

-- the marked store of a good access writes its shadow, unless it has no bytes
write_good : (site a n mask : ℕ) (w : World) → RangedWorld w → is_good w a n ≡ true → (c : Bool) → in_slots (bit_xor a shadow_bits) n slots ≡ c
    → (if c then Does w else (if is_good w a n then Does (set_shadow a n (byte_of mask) w) else traps trap.BadAddress site w)) ≡ Does (set_shadow a n (byte_of mask) w)
write_good site a n mask w r g false e = ap (λ b. if b then Does (set_shadow a n (byte_of mask) w) else traps trap.BadAddress site w) g
write_good site a zero mask w r g true e = ap Does (none_changed a (byte_of mask) w)
write_good site a (suc n) mask w r g true e = absurd (false≢true (sym (good_slot w a (suc n) r (λ z. grind arith) g) ∙ e))

-- what stands after a store
abbrev pub store_tasks : Ty → Tracked → Tracked → (site : ℕ) → List Task
store_tasks t x a site =
    Puts (mask_type t) (mask_of x) (shadow_address (word_of a))
    ∷ Calls None function.StoreOrigin ((Ptr, word_of a) ∷ (Int 64, widened (width_of t) (mask_of x)) ∷ (Int 32, origin_of x) ∷ (Int 32, number site) ∷ [])
    ∷ []

module _ (s : Setting) (names : Name → ℕ) (t : Ty) (x a : Tracked) (p q : Poisoned) (narrow : width_of t ≤ 64)
    (hx : operand_word s names (width_of t) x.mask ≡ p.mask) (ho : p.mask ≢ 0 → operand_word s names 32 x.origin ≡ p.origin)
    (ha : operand_word s names 64 a.operand ≡ q.value) where
  origin_stored : (at : Here) (site : ℕ) → site < 2 ^ 32 → (cells : ℕ → ℕ) (w : World)
      → do_tasks s at (Calls None function.StoreOrigin ((Ptr, word_of a) ∷ (Int 64, widened (width_of t) (mask_of x)) ∷ (Int 32, origin_of x) ∷ (Int 32, number site) ∷ []) ∷ [])
      (record { names = names; slots = cells }) w
      ≡ Went (record { names = names; slots = cells }) (store_origin s q.value p.mask p.origin site w)
  origin_stored at site less cells w =
      let mask : evaluate s names (widened (width_of t) (mask_of x)) (Int 64) ≡ p.mask =
      widened_word s names (width_of t) x.mask ∙ whole (width_of t) _ narrow (word_less s names (width_of t) x.mask) ∙ hx in
      ap (λ z. Went (record { names = names; slots = cells }) z)
      (ap₃ (λ i j k. store_origin s i j (operand_word s names 32 x.origin) k w) ha mask (mod-eq_of_lt less)
      ∙ store_origin_same s q.value p.mask (operand_word s names 32 x.origin) p.origin site w ho)

  pub store_done : (at : Here) (site : ℕ) → site < 2 ^ 32 → (cells : ℕ → ℕ) (w : World) → RangedWorld w → is_good w q.value (stored_size t) ≡ true
      → (after : ℕ → ℕ) × (do_tasks s at (store_tasks t x a site) (record { names = names; slots = cells }) w
      ≡ Went (record { names = names; slots = after }) (store_origin s q.value p.mask p.origin site (set_shadow q.value (stored_size t) (byte_of p.mask) w)))
  store_done at site less cells w ranged good =
      let first = Puts (mask_type t) (mask_of x) (shadow_address (word_of a)) in
      let after = task_slots first (evaluate_all s names (parts first)) cells in
      let rest = do_tasks s at (Calls None function.StoreOrigin ((Ptr, word_of a) ∷ (Int 64, widened (width_of t) (mask_of x)) ∷ (Int 32, origin_of x) ∷ (Int 32, number site) ∷ []) ∷ []) in
      let address : evaluate s names (shadow_address (word_of a)) Ptr ≡ bit_xor q.value shadow_bits = address_word s names a.operand ∙ ap (λ i. bit_xor i shadow_bits) ha in
      let write : store_marked at.site (evaluate s names (shadow_address (word_of a)) Ptr) (mask_type t) (operand_word s names (width_of t) x.mask) w
      ≡ Does (set_shadow q.value (stored_size t) (byte_of p.mask) w) =
      ap₃ (λ i j k. if in_slots i (stored_size t) slots then Does w else
      (if is_good w j (stored_size t) then Does (set_shadow j (stored_size t) (byte_of k) w) else traps trap.BadAddress at.site w))
      address (ap (λ i. bit_xor i shadow_bits) address ∙ xor_twice q.value) hx
      ∙ write_good at.site q.value (stored_size t) p.mask w ranged good (in_slots (bit_xor q.value shadow_bits) (stored_size t) slots) refl in (
        after,
        ap (λ e. marked_next None names after e rest) write
            ∙ origin_stored at site less after (set_shadow q.value (stored_size t) (byte_of p.mask) w),
      )

-- ---- an 'alloca'

pub fits_small : (area : Area) (n : ℕ) (w : World) → fits area n w ≡ true → (n ≤ 2 ^ 26) × (next_base area w < 2 ^ 64)
fits_small Fixed n w e =
    let all : used Fixed w.allocs + (max n 1 + 15) / 16 * 16 ≤ 2 ^ 24 = grind arith in
    (omega arith, omega arith)
fits_small Heap n w e =
    let all : used Heap w.allocs + (max n 1 + 15) / 16 * 16 ≤ 2 ^ 26 = grind arith in
    (omega arith, omega arith)
fits_small Stack n w e =
    let all : used Stack w.allocs + (max n 1 + 15) / 16 * 16 ≤ 2 ^ 20 = grind arith in
    (omega arith, omega arith)
