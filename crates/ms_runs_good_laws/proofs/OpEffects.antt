-- What an instruction answers that is neither a call nor a terminator is in the range of its type, and leaves a good world.
use Rattle.std.proofs.Common.{◌≡◌, ◌<◌, ◌≤◌, ℕ, ◌+◌, ◌*◌, ◌%◌, ◌^◌, List, [], ◌∷◌, map, drop, true, nat_le, Some, None, Result, Ok, Err, IfOk, refl, sym, arith, if◌then◌else◌, true≢false, bit_xor, leb-true, ltb-true}
use Rattle.std.proofs.lemmas.Nat.{mod_below, pow_pos}
use Rattle.std.proofs.lemmas.Bool.{and_parts}
use Rattle.ms_bits.specs.declared.operations.CastOp.{CastOp}
use Rattle.ms_bits.specs.declared.operations.CastOp.TheVariants as cast
use Rattle.ms_bits.specs.declared.traps.Trap.{Trap}
use Rattle.ms_bits.specs.declared.traps.Trap.TheVariants as trap
use Rattle.ms_bits.specs.Arithmetic.{binary_of}
use Rattle.ms_bits.specs.Conversions.{Allows, compare_of, cast_of, select_of}
use Rattle.ms_bits.specs.Maps.{number_at, byte_of}
use Rattle.ms_ir.specs.declared.syntax.Ty.{Ty, Int, Ptr}
use Rattle.ms_ir.specs.declared.syntax.Op.{Op}
use Rattle.ms_ir.specs.declared.syntax.Op.TheVariants as op
use Rattle.ms_ir.specs.Layout.{Types, width_of, stored_size, size_in, parts_offset, indexed}
use Rattle.ms_ir.specs.Names.{slots}
use Rattle.ms_runs.specs.World.{World, Setting, Here, Gives, Does, traps, word, gives}
use Rattle.ms_ir.specs.Areas.{Area}
use Rattle.ms_runs.specs.Memory.{fits, next_base, local_area, is_good, set_shadow, make_unset, store_number}
use Rattle.ms_ir.specs.Instructions.{operands}
use Rattle.ms_runs.specs.Act.{truth, alloca, load, store, extended_all, act}
use Rattle.ms_runs.specs.Plain.{shadow_bits, in_slots, load_marked, store_marked}
use Rattle.ms_ir.specs.Written.{result_type}
use Rattle.ms_check_valid.specs.TypesAgree.{cast_allows}
use Rattle.ms_check_valid.specs.FormedCode.{is_value_type}
use Rattle.ms_runs_good_laws.specs.GoodStates.{IsBelow}
use Rattle.ms_runs_good_laws.specs.GoodWorlds.{GoodWorld}
use Rattle.ms_runs_good_laws.specs.Straight.{Answers, HaveTypes}
use Rattle.ms_runs_good_laws.proofs.WordRanges.{binary_below, compare_below, cast_below, select_below}
use Rattle.ms_runs_good_laws.proofs.WorldChanges.{chosen, either, set_bytes_good, set_shadow_good, make_unset_good, GoodSetting}
use Rattle.ms_runs_good_laws.proofs.ExternalEffects.{in_type, fits_small}
use Rattle.ms_runs_good_laws.proofs.CallTypes.{same_width}
use Rattle.ms_bits_laws.proofs.MapLemmas.{byte_of-lt}

-- ---- casts

pub value_width : (t : Ty) → is_value_type t ≡ true → (1 ≤ width_of t) × (width_of t ≤ 64)
value_width (Int n) e = let parts = and_parts (nat_le 1 n) (nat_le n 64) e in (leb-true 1 n parts.0, leb-true n 64 parts.1)
value_width Ptr e = (omega arith, omega arith)
value_width t e = absurd (true≢false (sym e))

trunc_allowed : (from to : Ty) → cast_allows cast.Trunc from to ≡ true → is_value_type to ≡ true → Allows cast.Trunc (width_of from) (width_of to)
trunc_allowed (Int m) (Int n) e t = ((value_width (Int n) t).0, ltb-true n m e)
trunc_allowed from to e t = absurd (true≢false (sym e))

zext_allowed : (from to : Ty) → cast_allows cast.Zext from to ≡ true → is_value_type to ≡ true → Allows cast.Zext (width_of from) (width_of to)
zext_allowed (Int m) (Int n) e t = (ltb-true m n e, (value_width (Int n) t).1)
zext_allowed from to e t = absurd (true≢false (sym e))

sext_allowed : (from to : Ty) → cast_allows cast.Sext from to ≡ true → is_value_type to ≡ true → Allows cast.Sext (width_of from) (width_of to)
sext_allowed (Int m) (Int n) e t = (ltb-true m n e, (value_width (Int n) t).1)
sext_allowed from to e t = absurd (true≢false (sym e))

to_int_allowed : (from to : Ty) → cast_allows cast.PtrToInt from to ≡ true → is_value_type to ≡ true → Allows cast.PtrToInt (width_of from) (width_of to)
to_int_allowed Ptr (Int n) e t = (refl, (value_width (Int n) t).0, (value_width (Int n) t).1)
to_int_allowed from to e t = absurd (true≢false (sym e))

to_pointer_allowed : (from to : Ty) → cast_allows cast.IntToPtr from to ≡ true → Allows cast.IntToPtr (width_of from) (width_of to)
to_pointer_allowed (Int m) Ptr e = refl
to_pointer_allowed from to e = absurd (true≢false (sym e))

pub cast_allowed : (o : CastOp) (from to : Ty) → cast_allows o from to ≡ true → is_value_type to ≡ true → Allows o (width_of from) (width_of to)
cast_allowed cast.Trunc from to e t = trunc_allowed from to e t
cast_allowed cast.Zext from to e t = zext_allowed from to e t
cast_allowed cast.Sext from to e t = sext_allowed from to e t
cast_allowed cast.PtrToInt from to e t = to_int_allowed from to e t
cast_allowed cast.IntToPtr from to e t = to_pointer_allowed from to e
cast_allowed cast.Bitcast from to e t = sym (same_width from to e)

-- ---- words

-- the operation, comparison or cast that traps leaves the world
gives_answers : (good : World → Type 0) (site : ℕ) (r : Result ℕ Trap) (w : World) (t : Ty) → IfOk r (λ v. v < 2 ^ width_of t) → good w → Answers good (Some t) (gives site r w)
gives_answers good site (Ok v) w t h g = (in_type t v h, g)
gives_answers good site (Err e) w t h g = g

pub indexed_below : (types : Types) (t : Ty) (base : ℕ) (ks : List ℕ) → base < 2 ^ 64 → indexed types t base ks < 2 ^ 64
indexed_below types t base [] h = h
indexed_below types t base (k ∷ ks) h = mod_below (base + (k * size_in types t + parts_offset types t ks)) (2 ^ 64) (pow_pos 64)

-- ---- instructions

-- a cast's types are as its form and its operation allow
abbrev pub CastFits : Op → Type 0
CastFits (op.Cast o flags from a to) = (cast_allows o from to ≡ true) × (is_value_type from ≡ true) × (is_value_type to ≡ true)
CastFits o = Unit {0}

-- neither a call nor a terminator
abbrev pub IsOrdinary : Op → Type 0
IsOrdinary (op.Call ret callee args) = ⊥
IsOrdinary (op.Br to) = ⊥
IsOrdinary (op.CondBr c to other) = ⊥
IsOrdinary (op.Switch t v other cases) = ⊥
IsOrdinary (op.Ret v) = ⊥
IsOrdinary op.Unreachable = ⊥
IsOrdinary o = Unit {0}

module _ (P : ℕ → Type 0) (setting : Setting) (given : GoodSetting P setting) (w : World) (g : GoodWorld P w) where
  alloca_answers : (site n : ℕ) → Answers (GoodWorld P) (Some Ptr) (alloca setting site n w)
  alloca_answers site n = at (local_area w)
    where
      at : (area : Area) → Answers (GoodWorld P) (Some Ptr) (if fits area n w then Gives (next_base area w) (make_unset setting.fill area n w) else traps trap.Stack site w)
      at area =
          chosen (Answers (GoodWorld P) (Some Ptr)) (fits area n w) (Gives (next_base area w) (make_unset setting.fill area n w)) (traps trap.Stack site w)
          (λ e. (in_type Ptr (next_base area w) (fits_small area n w e).1, make_unset_good P setting.fill area n w given.fill g given.none (fits_small area n w e).0))
          (λ e. g)

  load_answers : (site a : ℕ) (t : Ty) → Answers (GoodWorld P) (Some t) (load site a t w)
  load_answers site a t =
      let v = number_at w.bytes a (stored_size t) % 2 ^ width_of t in
      either (Answers (GoodWorld P) (Some t)) (is_good w a (stored_size t)) (Gives v w) (traps trap.BadAddress site w)
      (in_type t v (mod_below (number_at w.bytes a (stored_size t)) (2 ^ width_of t) (pow_pos (width_of t))), g) g

  store_answers : (site a : ℕ) (t : Ty) (v : ℕ) → Answers (GoodWorld P) None (store site a t v w)
  store_answers site a t v =
      either (Answers (GoodWorld P) None) (is_good w a (stored_size t)) (Does (store_number a (stored_size t) v w)) (traps trap.BadAddress site w)
      (refl, set_bytes_good P a (stored_size t) (byte_of v) w g (byte_of-lt v)) g

  -- accesses of marked code
  pub load_marked_answers : (site a : ℕ) (t : Ty) (cells : ℕ → ℕ) → Answers (GoodWorld P) (Some t) (load_marked site a t cells w)
  load_marked_answers site a t cells =
      let n = stored_size t in let b = bit_xor a shadow_bits in
      let v = number_at cells a n % 2 ^ width_of t in let u = number_at w.shadow b n % 2 ^ width_of t in
      either (Answers (GoodWorld P) (Some t)) (in_slots a n slots) (Gives v w) (if is_good w b n then Gives u w else traps trap.BadAddress site w)
      (in_type t v (mod_below (number_at cells a n) (2 ^ width_of t) (pow_pos (width_of t))), g)
      (either (Answers (GoodWorld P) (Some t)) (is_good w b n) (Gives u w) (traps trap.BadAddress site w)
      (in_type t u (mod_below (number_at w.shadow b n) (2 ^ width_of t) (pow_pos (width_of t))), g) g)

  pub store_marked_answers : (site a : ℕ) (t : Ty) (v : ℕ) → Answers (GoodWorld P) None (store_marked site a t v w)
  store_marked_answers site a t v =
      let n = stored_size t in let b = bit_xor a shadow_bits in
      either (Answers (GoodWorld P) None) (in_slots a n slots) (Does w) (if is_good w b n then Does (set_shadow b n (byte_of v) w) else traps trap.BadAddress site w) (refl, g)
      (either (Answers (GoodWorld P) None) (is_good w b n) (Does (set_shadow b n (byte_of v) w)) (traps trap.BadAddress site w)
      (refl, set_shadow_good P b n (byte_of v) w g (byte_of-lt v)) g)

  pub act_answers : (here : Here) (o : Op) (words : List ℕ) → IsOrdinary o → CastFits o → HaveTypes IsBelow 0 words (map (λ a. a.0) (operands o))
      → Answers (GoodWorld P) (result_type o) (act setting here o words w)
  act_answers here (op.Binary o flags t a b) words i c h =
      gives_answers (GoodWorld P) here.site (binary_of o flags (width_of t) (word 0 words) (word 1 words)) w t
      (binary_below o flags (width_of t) (word 0 words) (word 1 words) (h 0 t refl) (h 1 t refl)) g
  act_answers here (op.Icmp p flags t a b) words i c h =
      gives_answers (GoodWorld P) here.site (truth (compare_of p flags (width_of t) (word 0 words) (word 1 words))) w (Int 1)
      (compare_below p flags (width_of t) (word 0 words) (word 1 words)) g
  act_answers here (op.Cast o flags t a u) words i c h =
      gives_answers (GoodWorld P) here.site (cast_of o flags (width_of t) (word 0 words) (width_of u)) w u
      (cast_below o flags (width_of t) (word 0 words) (width_of u) (value_width t c.1).1 (cast_allowed o t u c.0 c.2) (h 0 t refl)) g
  act_answers here (op.Select k t a b) words i c h =
      (in_type t (select_of (word 0 words) (word 1 words) (word 2 words)) (select_below (2 ^ width_of t) (word 0 words) (word 1 words) (word 2 words) (h 1 t refl) (h 2 t refl)), g)
  act_answers here (op.Freeze t a) words i c h = (in_type t (word 0 words) (h 0 t refl), g)
  act_answers here (op.Phi t edges) words i c h = g
  act_answers here (op.Alloca t u count) words i c h = alloca_answers here.site (size_in setting.types t * word 0 words)
  act_answers here (op.Load t addr) words i c h = load_answers here.site (word 0 words) t
  act_answers here (op.Store t v addr) words i c h = store_answers here.site (word 1 words) t (word 0 words)
  act_answers here (op.Gep t base indices) words i c h =
      (in_type Ptr (indexed setting.types t (word 0 words) (extended_all indices (drop 1 words))) (indexed_below setting.types t (word 0 words) (extended_all indices (drop 1 words)) (h 0 Ptr refl)), g)
  act_answers here (op.Call ret callee args) words i c h = absurd i
  act_answers here (op.Br to) words i c h = absurd i
  act_answers here (op.CondBr k to other) words i c h = absurd i
  act_answers here (op.Switch t v other cases) words i c h = absurd i
  act_answers here (op.Ret v) words i c h = absurd i
  act_answers here op.Unreachable words i c h = absurd i
