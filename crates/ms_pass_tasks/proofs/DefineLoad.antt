-- The mask and the origin of a load, and the addresses of shadow.
use Rattle.std.proofs.Common.{◌≡◌, ◌≢◌, ℕ, zero, suc, ◌+◌, ◌*◌, ◌/◌, ◌%◌, ◌^◌, ◌<◌, ◌≤◌, List, [], ◌∷◌, refl, sym, ap, ◌∙◌, subst, arith, Bool, true, false, Some}
use Rattle.std.specs.Prelude.{if◌then◌else◌, eqb, leb, ◌&&◌, ◌||◌, not, bit_xor, is_some}
use Rattle.std.specs.Int.{bit_at}
use Rattle.std.proofs.Math.Path.{ap₂}
use Rattle.std.proofs.Math.Nat.{mod-eq_of_lt}
use Rattle.std.proofs.lemmas.Nat.{xor_lt, mod-pow-add, field_of, mod_below, pow_pos}
use Rattle.std.proofs.lemmas.Nat.Bits.{bit_at_xor}
use Rattle.std.specs.Int.Bits.{xor_assoc, xor_self, xor_zero_r}
use Rattle.std.proofs.lemmas.Bool.{false≢true}
use Rattle.ms_bits.specs.Conversions.{cast_of}
use Rattle.ms_bits.specs.Maps.{number_at}
use Rattle.ms_ir.specs.declared.syntax.Name.{Name}
use Rattle.ms_ir.specs.declared.syntax.Ty.{Ty, Int, Ptr}
use Rattle.ms_ir.specs.declared.syntax.Operand.{Operand}
use Rattle.ms_ir.specs.declared.syntax.Operand.TheVariants as operand
use Rattle.ms_ir.specs.declared.syntax.Op.TheVariants as op
use Rattle.ms_runs.specs.declared.runs.End.{End}
use Rattle.ms_runs.specs.declared.runs.End.TheVariants as «end»
use Rattle.ms_ir.specs.declared.calls.RuntimeFn.TheVariants as function
use Rattle.ms_bits.specs.declared.traps.Trap.TheVariants as trap
use Rattle.ms_ir.specs.Names.{slots, is_reserved}
use Rattle.ms_ir.specs.Layout.{width_of, stored_size}
use Rattle.ms_runs.specs.World.{World, Setting, Here, Allocation, Effect, Gives, Ends, traps}
use Rattle.ms_runs.specs.Memory.{is_good, first_that, covers}
use Rattle.ms_runs.specs.Origins.{origin_within, load_origin}
use Rattle.ms_runs.specs.Plain.{shadow_bits, in_slots}
use Rattle.ms_runs.specs.Control.{with_value}
use Rattle.ms_runs.specs.Act.{operand_word}
use Rattle.ms_runs.specs.Poisoned.{Poisoned}
use Rattle.ms_runs.specs.Masks.{by_formulas}
use Rattle.ms_runs.specs.Shadow.{poisoned_result}
use Rattle.ms_pass_tasks.specs.Tasks.{mask_name, origin_name, Leaf, Task, Calls}
use Rattle.ms_pass_tasks.specs.Meaning.{Values, Reach, Went, evaluate, marked_next, do_tasks, set_result}
use Rattle.ms_pass_tasks.specs.Environments.{Env, widened, tracked}
use Rattle.ms_pass_tasks.specs.ResultTasks.{shadow_address, define_tasks}
use Rattle.ms_pass_tasks.specs.Known.{KnownName, KnownOperand, KnownOperands, OneName}
use Rattle.ms_pass_tasks.specs.Match.{IsPlaced, ArePlaced, RangedWorld, RangedValues, Matches}
use Rattle.ms_pass_tasks.specs.InstructionLaw.{after_result, GoesOn}
use Rattle.ms_pass_tasks.proofs.InsertedNames.{own_not_msan, with_here, with_other}
use Rattle.ms_pass_tasks.proofs.OperandWords.{word_less, mod_once, value_known, word_same, own_agrees}
use Rattle.ms_pass_tasks.proofs.MatchedNames.{defines_own, matches_set}
use Rattle.ms_pass_tasks.proofs.CheckTasks.{widened_word}
use Rattle.ms_pass_tasks.proofs.Defined.{words_for, acts_for, Defined, Fine, Fails, mask_first}

-- ---- addresses of shadow

pub xor_twice : (a : ℕ) → bit_xor (bit_xor a shadow_bits) shadow_bits ≡ a
xor_twice a = xor_assoc a shadow_bits shadow_bits ∙ ap (bit_xor a) (xor_self shadow_bits) ∙ xor_zero_r a

-- the address that inserted code computes of an operand
pub address_word : (s : Setting) (names : Name → ℕ) (o : Operand)
    → evaluate s names (shadow_address (Leaf o)) Ptr ≡ bit_xor (operand_word s names 64 o) shadow_bits
unfolding cast_of
address_word s names o =
    let a = operand_word s names 64 o in
    let less : a < 2 ^ 64 = word_less s names 64 o in
    let cut : a % 2 ^ 64 % 2 ^ 64 ≡ a = mod_once 64 a ∙ mod-eq_of_lt less in
    let small : bit_xor a shadow_bits < 2 ^ 64 = xor_lt 64 a shadow_bits less (omega arith) in
    ap (λ z. bit_xor z shadow_bits % 2 ^ 64 % 2 ^ 64) cut ∙ mod_once 64 (bit_xor a shadow_bits) ∙ mod-eq_of_lt small

-- bytes of one allocation lie between the first address of the globals and the last of the stack
abbrev Between : ℕ → ℕ → Type 0
Between a n = (0x700000000000 ≤ a) × (a + n ≤ 0x720000100000)

covered : (a n : ℕ) (b : Allocation) → IsPlaced b → covers a n b ≡ true → Between a n
covered a n b p e = by_live b.live (leb b.base a) refl (leb (a + n) (b.base + b.size)) refl e
  where
    by_live : (c d : Bool) → leb b.base a ≡ d → (f : Bool) → leb (a + n) (b.base + b.size) ≡ f → c && d && f ≡ true → Between a n
    by_live true true g true i e = (let x : b.base ≤ a = grind arith in omega (arith, x, p.from), let x : a + n ≤ b.base + b.size = grind arith in omega (arith, x, p.to))
    by_live true true g false i e = absurd (false≢true e)
    by_live true false g f i e = absurd (false≢true e)
    by_live false d g f i e = absurd (false≢true e)

placed_between : (a n : ℕ) (allocs : List Allocation) → ArePlaced allocs → is_some (first_that (covers a n) allocs) ≡ true → Between a n
placed_between a n [] p e = absurd (false≢true e)
placed_between a n (b ∷ rest) p e = by_first (λ g. placed_between a n rest p.1 g) (covers a n b) refl e
  where
    by_first : (is_some (first_that (covers a n) rest) ≡ true → Between a n) → (c : Bool) → covers a n b ≡ c
        → is_some (if c then Some b else first_that (covers a n) rest) ≡ true → Between a n
    by_first next false f g = next g
    by_first next true f g = covered a n b p.0 f

-- the shadow of such an address lies below the slots
shadow_low : (a : ℕ) → 0x700000000000 ≤ a → a < 0x800000000000 → bit_xor a shadow_bits < 2 ^ 46
shadow_low a l h =
    let top : bit_at (bit_xor a shadow_bits) 46 ≡ (bit_at a 46 + bit_at shadow_bits 46) % 2 = bit_at_xor a shadow_bits 46 in
    let own : a / 2 ^ 46 % 2 ≡ 1 = omega arith in
    let small : bit_xor a shadow_bits < 2 ^ 47 = xor_lt 47 a shadow_bits (omega arith) (omega arith) in
    let zero_top : bit_xor a shadow_bits / 2 ^ 46 % 2 ≡ 0 = top ∙ ap (λ z. (z + bit_at shadow_bits 46) % 2) own in
    omega arith

-- an address below the slots is none of them
below_slot : (base a : ℕ) (x rest : Bool) → a < base → rest ≡ false → (if leb base a && x then true else rest) ≡ false
below_slot base a x rest l e = let f : leb base a ≡ false = grind arith in ap (λ b. if b && x then true else rest) f ∙ e

low_no_slot : (a n : ℕ) → a < 2 ^ 46 → in_slots a n slots ≡ false
low_no_slot a n l =
    below_slot 0x680000000000 a _ _ (omega arith)
    (below_slot 0x680000001000 a _ _ (omega arith) (below_slot 0x680000002000 a _ _ (omega arith) (below_slot 0x680000003000 a _ _ (omega arith) refl)))

-- a good access has its shadow in no slot, unless it has no bytes
pub good_slot : (w : World) (a n : ℕ) → RangedWorld w → n ≢ 0 → is_good w a n ≡ true → in_slots (bit_xor a shadow_bits) n slots ≡ false
good_slot w a n r ne g =
    let some_bytes : eqb n 0 ≡ false = grind arith in
    let between : Between a n =
    placed_between a n w.allocs r.placed (sym (ap (λ b. if b then true else is_some (first_that (covers a n) w.allocs)) some_bytes) ∙ g) in
    low_no_slot (bit_xor a shadow_bits) n (shadow_low a between.0 (omega (arith, between.1)))

-- ---- the origin of what was loaded

-- the first bytes of a mask decide the origin
pub origin_low : (n a m : ℕ) (w : World) → origin_within n a (m % 2 ^ (8 * n)) w ≡ origin_within n a m w
origin_low zero a m w = refl
origin_low (suc n) a m w =
    let e : 8 * suc n ≡ 8 * n + 8 = omega arith in
    let low : m % 2 ^ (8 * n + 8) % 256 ≡ m % 256 = omega (arith, mod-pow-add m (8 * n) 8) in
    ap (λ k. origin_within (suc n) a (m % 2 ^ k) w) e
    ∙ ap₂ (λ i o. if eqb i 0 || not (is_good w a 1) then o else w.origins (a / 4)) low
    (ap (λ i. origin_within n (a + 1) i w) (field_of m (8 * n) 8) ∙ origin_low n (a + 1) (m / 256) w)

-- ---- the tasks of a load

-- the world of an effect that gives a word
abbrev effect_world : Effect → World → World
effect_world (Gives k u) w = u
effect_world _ w = w

ends_gives : (e : End) (k : ℕ) (w u : World) → Ends e w ≡ Gives k u → ⊥
ends_gives e k w u f = grind arith

-- the marked load of a good access reads its shadow, whatever a slot holds
read_good : (cells : ℕ → ℕ) (a n bits : ℕ) (w : World) → RangedWorld w → is_good w a n ≡ true → (c : Bool) → in_slots (bit_xor a shadow_bits) n slots ≡ c
    → (if c then Gives (number_at cells (bit_xor a shadow_bits) n % 2 ^ bits) w else Gives (number_at w.shadow a n % 2 ^ bits) w)
    ≡ Gives (number_at w.shadow a n % 2 ^ bits) w
read_good cells a n bits w r g false e = refl
read_good cells a zero bits w r g true e = refl
read_good cells a (suc n) bits w r g true e = absurd (false≢true (sym (good_slot w a (suc n) r (λ z. grind arith) g) ∙ e))

module _ (s : Setting) (env : Env) (size : ℕ) (h : Here) (values : Name → Poisoned) (v : Values) (m : Matches env values v.names) (r : RangedValues values)
    (one : OneName env) (x : Name) (k : KnownName env size x) (c : env.clean x ≡ false) where
  -- what defines the mask and the origin of a load
  abbrev load_tasks : Ty → Operand → List Task
  load_tasks t a = define_tasks s.func k.place (op.Load t a) (tracked env h.root ((Ptr, a) ∷ []))

  -- the call that finds the origin, after the mask
  abbrev origin_tasks : Ty → Operand → List Task
  origin_tasks t a =
      Calls (Some (origin_name k.place)) function.LoadOrigin
      ((Ptr, Leaf a) ∷ (Int 64, widened (width_of t) (Leaf (operand.Local (mask_name k.place)))) ∷ [])
      ∷ []

  -- the words with that of the mask
  abbrev with_mask : ℕ → Name → ℕ
  with_mask mask = with_value v.names (mask_name k.place) mask

  -- and with that of the origin
  abbrev with_both : ℕ → ℕ → Values
  with_both mask origin = record { names = with_value (with_mask mask) (origin_name k.place) origin; slots = v.slots }

  -- the address that is loaded from
  abbrev address_of : Operand → ℕ
  address_of a = operand_word s (λ y. (values y).value) 64 a

  address_known : (a : Operand) → KnownOperand env size a → operand_word s v.names 64 a ≡ address_of a
  address_known a known = value_known s env size values v.names m.value 64 a known

  origin_done : (t : Ty) (a : Operand) → KnownOperand env size a → (mask : ℕ) → mask < 2 ^ width_of t → (w : World)
      → do_tasks s h (origin_tasks t a) (record { names = with_mask mask; slots = v.slots }) w ≡ Went (with_both mask (load_origin (address_of a) mask w)) w
  origin_done t a known mask less w =
      let own : (y : Name) → is_reserved y ≡ false → with_mask mask y ≡ v.names y =
      λ y own. with_other v.names (mask_name k.place) y mask (own_not_msan y (2 * k.place + 1) own) in
      let address : operand_word s (with_mask mask) 64 a ≡ address_of a =
      word_same s (with_mask mask) v.names 64 a (own_agrees env size (with_mask mask) v.names own a known) ∙ address_known a known in
      let read : evaluate s (with_mask mask) (widened (width_of t) (Leaf (operand.Local (mask_name k.place)))) (Int 64) ≡ mask % 2 ^ 64 =
      widened_word s (with_mask mask) (width_of t) (operand.Local (mask_name k.place))
      ∙ ap (λ i. i % 2 ^ 64) (ap (λ i. i % 2 ^ width_of t) (with_here v.names (mask_name k.place) mask) ∙ mod-eq_of_lt less) in
      ap (λ o. Went (with_both mask o) w) (ap₂ (λ i j. load_origin i j w) address read ∙ origin_low 8 (address_of a) mask w)

  -- what the marked load comes to, at the address itself
  abbrev shadow_read : Ty → Operand → World → Effect
  shadow_read t a w =
      if in_slots (bit_xor (address_of a) shadow_bits) (stored_size t) slots then Gives (number_at v.slots (bit_xor (address_of a) shadow_bits) (stored_size t) % 2 ^ width_of t) w else
      if is_good w (address_of a) (stored_size t) then Gives (number_at w.shadow (address_of a) (stored_size t) % 2 ^ width_of t) w else traps trap.BadAddress h.site w

  -- how it goes on once the shadow is read
  abbrev after_read : Ty → Operand → Effect → Reach
  after_read t a e = marked_next (Some (mask_name k.place)) v.names v.slots e (do_tasks s h (origin_tasks t a))

  moved : (t : Ty) (a : Operand) → KnownOperand env size a → (w : World) → do_tasks s h (load_tasks t a) v w ≡ after_read t a (shadow_read t a w)
  moved t a known w =
      let at : evaluate s v.names (shadow_address (Leaf a)) Ptr ≡ bit_xor (address_of a) shadow_bits =
      address_word s v.names a ∙ ap (λ i. bit_xor i shadow_bits) (address_known a known) in
      ap₂ (λ i j. after_read t a (
      if in_slots i (stored_size t) slots then Gives (number_at v.slots i (stored_size t) % 2 ^ width_of t) w else
      if is_good w j (stored_size t) then Gives (number_at w.shadow j (stored_size t) % 2 ^ width_of t) w else traps trap.BadAddress h.site w))
      at (ap (λ i. bit_xor i shadow_bits) at ∙ xor_twice (address_of a))

  load_fails : (t : Ty) (a : Operand) (w : World) → is_good w (address_of a) (stored_size t) ≡ false
      → acts_for s values h (op.Load t a) w ≡ traps trap.BadAddress h.site w
  load_fails t a w g = ap (λ b. if b then Gives (number_at w.bytes (address_of a) (stored_size t) % 2 ^ width_of t) w else traps trap.BadAddress h.site w) g

  load_gives : (t : Ty) (a : Operand) (w : World) → is_good w (address_of a) (stored_size t) ≡ true
      → acts_for s values h (op.Load t a) w ≡ Gives (number_at w.bytes (address_of a) (stored_size t) % 2 ^ width_of t) w
  load_gives t a w g = ap (λ b. if b then Gives (number_at w.bytes (address_of a) (stored_size t) % 2 ^ width_of t) w else traps trap.BadAddress h.site w) g

  pub load_done : (t : Ty) (a : Operand) → KnownOperands env size ((Ptr, a) ∷ []) → (w : World) → RangedWorld w
      → Defined s env h values v (Some x) (op.Load t a) (load_tasks t a) w
  load_done t a known w ranged = by_good (is_good w (address_of a) (stored_size t)) refl (in_slots (bit_xor (address_of a) shadow_bits) (stored_size t) slots) refl
    where
      by_good : (g : Bool) → is_good w (address_of a) (stored_size t) ≡ g → (b : Bool) → in_slots (bit_xor (address_of a) shadow_bits) (stored_size t) slots ≡ b
          → Defined s env h values v (Some x) (op.Load t a) (load_tasks t a) w
      by_good true g b i =
          let mask = number_at w.shadow (address_of a) (stored_size t) % 2 ^ width_of t in
          let origin = load_origin (address_of a) mask w in
          let d = mask_first env x k.place k.numbered c v.names mask origin origin (λ ne. refl) in
          let read : shadow_read t a w ≡ Gives mask w =
          ap (λ z. if in_slots (bit_xor (address_of a) shadow_bits) (stored_size t) slots then Gives (number_at v.slots (bit_xor (address_of a) shadow_bits) (stored_size t) % 2 ^ width_of t) w else
          if z then Gives mask w else traps trap.BadAddress h.site w) g
          ∙ read_good v.slots (address_of a) (stored_size t) (width_of t) w ranged g (in_slots (bit_xor (address_of a) shadow_bits) (stored_size t) slots) refl in
          Fine (with_both mask origin)
          (moved t a known.1 w ∙ ap (after_read t a) read ∙ origin_done t a known.1 mask (mod_below _ (2 ^ width_of t) (pow_pos (width_of t))) w)
          refl
          (defines_own env x k.place v.names (with_both mask origin).names mask origin d)
          (λ n u e.
          subst (λ z. Matches env (after_result values (Some x) (poisoned_result by_formulas (op.Load t a) (words_for s values h (op.Load t a)) n z)) (set_result (with_both mask origin).names (Some x) n))
          (ap (λ z. effect_world z w) (sym (load_gives t a w g) ∙ e))
          (matches_set env size x k one values v.names (with_both mask origin).names (record { value = n; mask = mask; origin = origin }) m d))
          (λ outside. absurd outside)
          (λ e. absurd (subst GoesOn (load_gives t a w g) e))
      -- a slot is read, and then the load itself is a trap
      by_good false g true i =
          let mask = number_at v.slots (bit_xor (address_of a) shadow_bits) (stored_size t) % 2 ^ width_of t in
          let origin = load_origin (address_of a) mask w in
          let d = mask_first env x k.place k.numbered c v.names mask origin origin (λ ne. refl) in
          let read : shadow_read t a w ≡ Gives mask w =
          ap (λ z. if z then Gives mask w else
          if is_good w (address_of a) (stored_size t) then Gives (number_at w.shadow (address_of a) (stored_size t) % 2 ^ width_of t) w else traps trap.BadAddress h.site w) i in
          Fine (with_both mask origin)
          (moved t a known.1 w ∙ ap (after_read t a) read ∙ origin_done t a known.1 mask (mod_below _ (2 ^ width_of t) (pow_pos (width_of t))) w)
          refl
          (defines_own env x k.place v.names (with_both mask origin).names mask origin d)
          (λ n u e. absurd (ends_gives _ n w u (sym (load_fails t a w g) ∙ e)))
          (λ outside. absurd outside)
          (λ e. absurd (subst GoesOn (load_fails t a w g) e))
      by_good false g false i =
          let read : shadow_read t a w ≡ traps trap.BadAddress h.site w =
          ap₂ (λ y z. if y then Gives (number_at v.slots (bit_xor (address_of a) shadow_bits) (stored_size t) % 2 ^ width_of t) w else
          if z then Gives (number_at w.shadow (address_of a) (stored_size t) % 2 ^ width_of t) w else traps trap.BadAddress h.site w) i g in
          Fails («end».Trap trap.BadAddress h.site) (λ outside. outside) (moved t a known.1 w ∙ ap (after_read t a) read) (load_fails t a w g)
