-- The tasks of results that are one word, and of shifts, give the mask and the origin of the shadow run.
use Rattle.std.proofs.Common.{◌≡◌, ◌≢◌, ℕ, zero, suc, ◌+◌, ◌-◌, ◌/◌, ◌%◌, ◌^◌, ◌<◌, ◌≤◌, List, [], ◌∷◌, refl, sym, ap, ◌∙◌, subst, arith, Bool, true, false, Option, Some, None, Result, Ok, Err}
use Rattle.std.specs.Prelude.{if◌then◌else◌, ◌*◌, cond, eqb, leb, not, map, ℤ, pos, negsuc}
use Rattle.std.specs.Int.{from_bool}
use Rattle.std.proofs.Math.Path.{ap₂}
use Rattle.std.proofs.Math.Nat.{mod-eq_of_lt, zero-mod}
use Rattle.std.proofs.Math.Pow.{ones_lt}
use Rattle.std.proofs.lemmas.Nat.{pow_pos}
use lib.Signed.{shr_z}
use Rattle.ms_bits.specs.declared.operations.BinOp.{BinOp}
use Rattle.ms_bits.specs.declared.operations.BinOp.TheVariants as binary
use Rattle.ms_bits.specs.declared.operations.Flags.{Flags}
use Rattle.ms_bits.specs.declared.traps.Trap.{Trap}
use Rattle.ms_bits.specs.declared.traps.Trap.TheVariants as trap
use Rattle.ms_bits.specs.declared.word_functions.WordFn.{WordFn}
use Rattle.ms_bits.specs.declared.word_functions.WordWidth.{WordWidth}
use Rattle.ms_bits.specs.declared.word_functions.BitMove.{BitMove}
use Rattle.ms_bits.specs.WordFunctions.{bits_of, move_of, moved}
use Rattle.ms_bits.specs.Signed.{signed, wrap}
use Rattle.ms_bits.specs.Arithmetic.{binary_of, shl_of, lshr_of, ashr_of}
use Rattle.ms_bits.specs.Conversions.{select_of}
use Rattle.ms_bits.specs.Formulas.{select_mask}
use Rattle.ms_ir.specs.declared.syntax.Name.{Name}
use Rattle.ms_ir.specs.declared.syntax.Ty.{Ty, Int, Ptr}
use Rattle.ms_ir.specs.declared.syntax.Operand.{Operand}
use Rattle.ms_ir.specs.declared.syntax.Op.{Op}
use Rattle.ms_ir.specs.declared.syntax.Op.TheVariants as op
use Rattle.ms_runs.specs.declared.runs.End.TheVariants as «end»
use Rattle.ms_bits.specs.NoFlags.{no_flags}
use Rattle.ms_ir.specs.Layout.{width_of, size_in}
use Rattle.ms_runs.specs.World.{World, Setting, Here, Effect, Gives, Ends, traps, word, gives}
use Rattle.ms_runs.specs.Memory.{fits, next_base, local_area, make_unset}
use Rattle.ms_ir.specs.Instructions.{operands, one_undef, count_undefs}
use Rattle.ms_runs.specs.Control.{read_all, with_value}
use Rattle.ms_runs.specs.Act.{operand_word, act}
use Rattle.ms_runs.specs.Poisoned.{Poisoned}
use Rattle.ms_runs.specs.Masks.{by_formulas, result_mask, result_origin, value_or_zero, shift_mask, select_origin, word_at, last_origin, answer_mask, as_result, answer_origin}
use Rattle.ms_runs.specs.Shadow.{read_poisoned, poisoned_result}
use Rattle.ms_pass_tasks.specs.Tasks.{mask_name, origin_name, Expr, Pick, Task, Sets, Calls}
use Rattle.ms_pass_tasks.specs.Meaning.{Values, Went, do_tasks, marked_next, evaluate, evaluate_all, whole}
use Rattle.ms_pass_tasks.specs.Environments.{Env, Tracked, tracked, tracked_at, mask_of, word_of, origin_of, number, is_set}
use Rattle.ms_pass_tasks.specs.ResultMasks.{mask_expr, move_args, origin_expr, answer_origin_expr, first_last}
use Rattle.ms_ir.specs.declared.calls.External.{External}
use Rattle.ms_ir.specs.declared.calls.External.TheVariants.{Word}
use Rattle.ms_ir.specs.declared.calls.RuntimeFn.TheVariants as called
use Rattle.ms_ir.specs.Names.{lookup, externals}
use Rattle.ms_pass_tasks.specs.ResultTasks.{result_width, shift_task, word_tasks, move_called, answer_tasks}
use Rattle.ms_pass_tasks.specs.Known.{AnswersWord, KnownName, KnownOperands, OneName}
use Rattle.ms_pass_tasks.specs.Match.{Matches, RangedValues}
use Rattle.ms_pass_tasks.specs.InstructionLaw.{GoesOn}
use Rattle.ms_pass_tasks.proofs.OperandWords.{ap₃, word_less}
use Rattle.ms_pass_tasks.proofs.MatchedNames.{Defines, defines_own, matches_set}
use Rattle.ms_pass_tasks.proofs.Defined.{words_for, acts_for, Defined, Fine, Fails, origin_first}
use Rattle.ms_pass_tasks.proofs.Words.{Is, is_eval, is_leaf, is_number}
use Rattle.ms_pass_tasks.proofs.LastOrigins.{AllWords, HoldsOrigin, AllOrigins, AllClean, words_hold, origins_hold, set_word, first_whole}
use Rattle.ms_pass_tasks.proofs.WordMasks.{WordFits, IsWordOp, NoCallOp, call_moved, mask_value, mask_clean, answer_clean, wrap_signed, signed_zero}

zero-div : (n : ℕ) → 0 / n ≡ 0
zero-div n = grind arith

gives_goes : (site : ℕ) (r : Result ℕ Trap) (w : World) → GoesOn (gives site r w) → ⊥
gives_goes site (Ok n) w g = g
gives_goes site (Err t) w g = g

-- an operation whose result is a word gives it, or the run ends
word_goes : (s : Setting) (h : Here) (o : Op) → IsWordOp o → NoCallOp o → (words : List ℕ) (w : World) → GoesOn (act s h o words w) → ⊥
word_goes s h (op.Binary o f t a b) k nc words w g = gives_goes h.site _ w g
word_goes s h (op.Icmp p f t a b) k nc words w g = gives_goes h.site _ w g
word_goes s h (op.Cast o f t a v) k nc words w g = gives_goes h.site _ w g
word_goes s h (op.Select c t a b) k nc words w g = g
word_goes s h (op.Freeze t a) k nc words w g = g
word_goes s h (op.Gep t a is) k nc words w g = g
word_goes s h (op.Alloca t u c) k nc words w g = by_fits (fits (local_area w) (size_in s.types t * word 0 words) w) g
  where
    by_fits : (b : Bool) → GoesOn (if b then Gives (next_base (local_area w) w) (make_unset s.fill (local_area w) (size_in s.types t * word 0 words) w) else traps trap.Stack h.site w) → ⊥
    by_fits true g = g
    by_fits false g = g
word_goes s h (op.Call ret callee args) k nc words w g = absurd nc
word_goes s h _ k nc words w g = absurd k

module _ (s : Setting) (names : Name → ℕ) where
  -- the origin of a selection
  select_value : (c a b : Tracked) (k p q : Poisoned) (t : ℕ) → HoldsOrigin s names c k → HoldsOrigin s names a p → HoldsOrigin s names b q → width_of c.ty ≡ 1
      → select_mask k.value k.mask p.value p.mask q.value q.mask ≢ 0
      → whole s names (Pick (mask_of c) (Int 32) (origin_of c) (Pick (word_of c) (Int 32) (origin_of a) (origin_of b))) (Int 32) ≡ select_origin k p q
  unfolding select_mask select_of
  select_value c a b k p q t hc ha hb one ne =
      let mask : operand_word s names 1 c.mask ≡ k.mask = ap (λ w. operand_word s names w c.mask) (sym one) ∙ hc.mask in
      let word : operand_word s names 1 c.operand ≡ k.value = ap (λ w. operand_word s names w c.operand) (sym one) ∙ hc.value in
      ap (λ i. select_of i (operand_word s names 32 c.origin) (evaluate s names (Pick (word_of c) (Int 32) (origin_of a) (origin_of b)) (Int 32))) mask
      ∙ by_mask k.mask refl ne word
    where
      by_value : (v : ℕ) → select_of v p.mask q.mask ≢ 0 → select_of v (operand_word s names 32 a.origin) (operand_word s names 32 b.origin) % 2 ^ 32 ≡ select_of v p.origin q.origin
      by_value zero n = mod-eq_of_lt (word_less s names 32 b.origin) ∙ hb.origin n
      by_value (suc v) n = mod-eq_of_lt (word_less s names 32 a.origin) ∙ ha.origin n

      by_mask : (m : ℕ) → k.mask ≡ m → select_of m (select_mask k.value 1 p.value p.mask q.value q.mask) (select_of k.value p.mask q.mask) ≢ 0 → operand_word s names 1 c.operand ≡ k.value
          → select_of m (operand_word s names 32 c.origin) (evaluate s names (Pick (word_of c) (Int 32) (origin_of a) (origin_of b)) (Int 32)) ≡ select_of m k.origin (select_of k.value p.origin q.origin)
      by_mask zero e n word =
          ap (λ i. select_of i (operand_word s names 32 a.origin) (operand_word s names 32 b.origin) % 2 ^ 32) word ∙ by_value k.value n
      by_mask (suc m) e n word = hc.origin (λ z. absurd (omega (arith, z, e)))

  -- the origin of a result whose mask isn't 0
  pub origin_value : (env : Env) (values : Name → Poisoned) (root : ℕ) (o : Op) → IsWordOp o → (w : World)
      → AllOrigins s names (tracked env root (operands o)) (read_all (read_poisoned s values) (operands o) root)
      → result_mask by_formulas o (read_all (read_poisoned s values) (operands o) root) w ≢ 0
      → whole s names (origin_expr o (tracked env root (operands o))) (Int 32)
      ≡ result_origin o (read_all (read_poisoned s values) (operands o) root) (result_mask by_formulas o (read_all (read_poisoned s values) (operands o) root) w) w
  origin_value env values root (op.Icmp p f t a b) k w h ne =
      first_whole s names (tracked env root ((t, a) ∷ (t, b) ∷ [])) (read_all (read_poisoned s values) ((t, a) ∷ (t, b) ∷ []) root) h (λ c. ne (mask_clean s values root (op.Icmp p f t a b) k w c))
  origin_value env values root (op.Cast o f t a u) k w h ne = h.0.origin (λ e. ne (mask_clean s values root (op.Cast o f t a u) k w (e, tt)))
  origin_value env values root (op.Select c t a b) k w h ne =
      select_value _ _ _ (read_poisoned s values root (Int 1) c) (read_poisoned s values (root + one_undef c) t a) (read_poisoned s values (root + one_undef c + one_undef a) t b) 0
      h.0 h.1.0 h.1.1.0 refl ne
  origin_value env values root (op.Freeze t a) k w h ne = absurd (ne refl)
  origin_value env values root (op.Alloca t u c) k w h ne = absurd (ne refl)
  origin_value env values root (op.Call ret callee args) k w h ne = by_external (lookup externals callee) ne
    where
      ps : List Poisoned
      ps = read_all (read_poisoned s values) args root

      by_external : (e : Option External) → as_result ret (answer_mask e ps) ≢ 0 → whole s names (answer_origin_expr e (tracked env root args)) (Int 32) ≡ answer_origin e ps
      by_external None ne = refl
      by_external (Some (Word f n)) ne = first_whole s names (tracked env root args) ps h (λ c. ne (answer_clean ret (Some (Word f n)) ps c))
      by_external (Some e) ne = refl
  origin_value env values root (op.Gep t a is) k w h ne =
      first_whole s names (tracked env root ((Ptr, a) ∷ is)) (read_all (read_poisoned s values) ((Ptr, a) ∷ is) root) h (λ c. ne (mask_clean s values root (op.Gep t a is) k w c))
  origin_value env values root (op.Binary binary.Shl f t a b) k w h ne = absurd k
  origin_value env values root (op.Binary binary.Lshr f t a b) k w h ne = absurd k
  origin_value env values root (op.Binary binary.Ashr f t a b) k w h ne = absurd k
  origin_value env values root (op.Binary o f t a b) k w h ne =
      first_whole s names (tracked env root ((t, a) ∷ (t, b) ∷ [])) (read_all (read_poisoned s values) ((t, a) ∷ (t, b) ∷ []) root) h (λ c. ne (mask_clean s values root (op.Binary o f t a b) k w c))
  origin_value env values root _ k w h ne = absurd k

-- ---- shifts

-- an operation is a shift
abbrev pub IsShift : BinOp → Type 0
IsShift binary.Shl = Unit {0}
IsShift binary.Lshr = Unit {0}
IsShift binary.Ashr = Unit {0}
IsShift _ = ⊥

shr_one : (z : ℤ) → shr_z z (2 ^ 0) ≡ z
shr_one (pos a) = let e : a / 2 ^ 0 ≡ a = omega arith in ap pos e
shr_one (negsuc a) = let e : a / 2 ^ 0 ≡ a = omega arith in ap negsuc e

-- all bits, shifted by 0
shift_ones : (o : BinOp) → IsShift o → (w : ℕ) → 1 ≤ w → binary_of o no_flags w (2 ^ w - 1) 0 ≡ Ok (2 ^ w - 1)
unfolding binary_of shl_of lshr_of ashr_of
shift_ones binary.Shl k w some =
    let small : leb w 0 ≡ false = grind arith in
    ap (λ b. cond b (Err trap.Shift) (Ok (((2 ^ w - 1) * 2 ^ 0) % 2 ^ w))) small
    ∙ ap Ok (let e : (2 ^ w - 1) * 2 ^ 0 ≡ 2 ^ w - 1 = omega arith in ap (λ n. n % 2 ^ w) e ∙ mod-eq_of_lt (ones_lt w))
shift_ones binary.Lshr k w some =
    let small : leb w 0 ≡ false = grind arith in
    ap (λ b. cond b (Err trap.Shift) (Ok ((2 ^ w - 1) / 2 ^ 0))) small
    ∙ ap Ok (let e : (2 ^ w - 1) / 2 ^ 0 ≡ 2 ^ w - 1 = omega arith in e)
shift_ones binary.Ashr k w some =
    let small : leb w 0 ≡ false = grind arith in
    ap (λ b. cond b (Err trap.Shift) (Ok (wrap w (shr_z (signed w (2 ^ w - 1)) (2 ^ 0))))) small
    ∙ ap Ok (ap (wrap w) (shr_one (signed w (2 ^ w - 1))) ∙ wrap_signed w (2 ^ w - 1) (ones_lt w))
shift_ones _ k w some = absurd k

-- a shift of a mask traps only as the shift itself does
shift_fails : (o : BinOp) → IsShift o → (f : Flags) (w a m b : ℕ) (t : Trap) → binary_of o no_flags w m b ≡ Err t → binary_of o f w a b ≡ Err t
unfolding binary_of shl_of lshr_of ashr_of
shift_fails binary.Shl k f w a m b t e = by_amount (leb w b) _ _ e
  where
    by_amount : (z : Bool) (x : ℕ) (y : Result ℕ Trap) → cond z (Err trap.Shift) (Ok x) ≡ Err t → cond z (Err trap.Shift) y ≡ Err t
    by_amount true x y g = g
    by_amount false x y g = absurd (grind arith)
shift_fails binary.Lshr k f w a m b t e = by_amount (leb w b) _ _ e
  where
    by_amount : (z : Bool) (x : ℕ) (y : Result ℕ Trap) → cond z (Err trap.Shift) (Ok x) ≡ Err t → cond z (Err trap.Shift) y ≡ Err t
    by_amount true x y g = g
    by_amount false x y g = absurd (grind arith)
shift_fails binary.Ashr k f w a m b t e = by_amount (leb w b) _ _ e
  where
    by_amount : (z : Bool) (x : ℕ) (y : Result ℕ Trap) → cond z (Err trap.Shift) (Ok x) ≡ Err t → cond z (Err trap.Shift) y ≡ Err t
    by_amount true x y g = g
    by_amount false x y g = absurd (grind arith)
shift_fails _ k f w a m b t e = absurd k

shift_result : (o : BinOp) → IsShift o → (f : Flags) (t : Ty) (a b : Operand) (ps : List Poisoned) (w : World)
    → result_mask by_formulas (op.Binary o f t a b) ps w ≡ shift_mask o (width_of t) (word_at 0 ps) (word_at 1 ps)
shift_result binary.Shl k f t a b ps w = refl
shift_result binary.Lshr k f t a b ps w = refl
shift_result binary.Ashr k f t a b ps w = refl
shift_result _ k f t a b ps w = absurd k

shift_zero : (o : BinOp) → IsShift o → (w b : ℕ) → value_or_zero (binary_of o no_flags w 0 b) ≡ 0
unfolding binary_of shl_of lshr_of ashr_of wrap signed
shift_zero binary.Shl k w b = by_amount (leb w b)
  where
    by_amount : (z : Bool) → value_or_zero (cond z (Err trap.Shift) (Ok ((0 * 2 ^ b) % 2 ^ w))) ≡ 0
    by_amount true = refl
    by_amount false = let e : 0 * 2 ^ b ≡ 0 = omega arith in ap (λ n. n % 2 ^ w) e ∙ zero-mod (2 ^ w)
shift_zero binary.Lshr k w b = by_amount (leb w b)
  where
    by_amount : (z : Bool) → value_or_zero (cond z (Err trap.Shift) (Ok (0 / 2 ^ b))) ≡ 0
    by_amount true = refl
    by_amount false = zero-div (2 ^ b)
shift_zero binary.Ashr k w b = by_amount (leb w b)
  where
    positive : signed w 0 ≡ pos 0
    positive = signed_zero w

    by_amount : (z : Bool) → value_or_zero (cond z (Err trap.Shift) (Ok (wrap w (shr_z (signed w 0) (2 ^ b))))) ≡ 0
    by_amount true = refl
    by_amount false = ap (λ z. wrap w (shr_z z (2 ^ b))) positive ∙ ap (λ n. n % 2 ^ w) (zero-div (2 ^ b)) ∙ zero-mod (2 ^ w)
shift_zero _ k w b = absurd k

chosen : (w : ℕ) (z : Bool) (i j : ℕ) → i < 2 ^ w → j < 2 ^ w → select_of (from_bool (not z)) i j % 2 ^ w ≡ (if z then j else i)
unfolding select_of
chosen w true i j p q = mod-eq_of_lt q
chosen w false i j p q = mod-eq_of_lt p

-- ---- the tasks

module _ (s : Setting) (env : Env) (size : ℕ) (h : Here) (values : Name → Poisoned) (v : Values) (m : Matches env values v.names) (r : RangedValues values)
    (one : OneName env) (x : Name) (k : KnownName env size x) (c : env.clean x ≡ false) where
  -- the origin is set first, and then the mask by some task
  mask_done : (o : Op) → IsWordOp o → KnownOperands env size (operands o) → h.root + count_undefs (operands o) < 2 ^ 32 → (w : World) → (GoesOn (acts_for s values h o w) → ⊥)
      → (t : Task) (mask : ℕ)
      → ((names1 : Name → ℕ) → names1 ≡ with_value v.names (origin_name k.place) (whole s v.names (origin_expr o (tracked env h.root (operands o))) (Int 32))
      → do_tasks s h (t ∷ []) (record { names = names1; slots = v.slots }) w ≡ Went (record { names = with_value names1 (mask_name k.place) mask; slots = v.slots }) w)
      → ((u : World) → mask ≡ result_mask by_formulas o (words_for s values h o) u)
      → Defined s env h values v (Some x) o (Sets (origin_name k.place) (Int 32) (origin_expr o (tracked env h.root (operands o))) ∷ t ∷ []) w
  mask_done o is known few w never t mask runs mask_is =
      let n = k.place in
      let ts = tracked env h.root (operands o) in
      let ps = words_for s values h o in
      let stored = whole s v.names (origin_expr o ts) (Int 32) in
      let names1 = with_value v.names (origin_name n) stored in
      let names2 = with_value names1 (mask_name n) mask in
      let ho = origins_hold s env size values v.names m r (operands o) h.root known few in
      let origin_is = λ (u : World). origin_value s v.names env values h.root o is u ho in
      let d : (u : World) → Defines env x n v.names names2 (result_mask by_formulas o ps u) (result_origin o ps (result_mask by_formulas o ps u) u) =
      λ u. subst (λ i. Defines env x n v.names names2 i (result_origin o ps (result_mask by_formulas o ps u) u)) (mask_is u)
      (origin_first env x n k.numbered c v.names mask (result_origin o ps (result_mask by_formulas o ps u) u) stored (λ ne. origin_is u (λ z. ne (mask_is u ∙ z)))) in
      Fine (record { names = names2; slots = v.slots }) (runs names1 refl) refl
      (defines_own env x n v.names names2 _ _ (d w))
      (λ i u e. matches_set env size x k one values v.names names2 (poisoned_result by_formulas o ps i u) m (d u))
      (λ outside i u. matches_set env size x k one values v.names names2 (poisoned_result by_formulas o ps i u) m (d u))
      (λ g. absurd (never g))

  -- what the operands' names hold then
  held_then : (o : Op) → KnownOperands env size (operands o)
      → AllWords s (with_value v.names (origin_name k.place) (whole s v.names (origin_expr o (tracked env h.root (operands o))) (Int 32))) (tracked env h.root (operands o)) (words_for s values h o)
  held_then o known = words_hold s env size values v.names m k.place (whole s v.names (origin_expr o (tracked env h.root (operands o))) (Int 32)) (operands o) h.root known

  pub answer_done : (o : Op) → IsWordOp o → move_called o ≡ None → KnownOperands env size (operands o) → h.root + count_undefs (operands o) < 2 ^ 32 → (w : World)
      → (GoesOn (acts_for s values h o w) → ⊥)
      → Defined s env h values v (Some x) o (word_tasks (mask_name k.place) (origin_name k.place) o (tracked env h.root (operands o))) w
  answer_done o is unmoved known few w never =
      let ts = tracked env h.root (operands o) in
      let names1 = with_value v.names (origin_name k.place) (whole s v.names (origin_expr o ts) (Int 32)) in
      mask_done o is known few w never (Sets (mask_name k.place) (Int (result_width o)) (mask_expr o ts)) (whole s names1 (mask_expr o ts) (Int (result_width o)))
      (λ names e. ap (λ l. Went (record { names = with_value names (mask_name k.place) (whole s l (mask_expr o ts) (Int (result_width o))); slots = v.slots }) w) e)
      (λ u. mask_value s names1 env values h.root o is unmoved u (held_then o known))

  -- what moves bits gives its mask
  pub move_done : (ret : Option Ty) (callee : Name) (args : List (Ty × Operand)) (f : WordFn) (n : WordWidth) (j : BitMove) → lookup externals callee ≡ Some (Word f n) → move_of f n ≡ Some j
      → WordFits (Some (Word f n)) ret args → KnownOperands env size args → h.root + count_undefs args < 2 ^ 32 → (w : World) → (GoesOn (acts_for s values h (op.Call ret callee args) w) → ⊥)
      → Defined s env h values v (Some x) (op.Call ret callee args)
      (answer_tasks (mask_name k.place) (origin_name k.place) (Some j) (op.Call ret callee args) (tracked env h.root args)) w
  move_done ret callee args f n j found moves fits known few w never =
      let o = op.Call ret callee args in
      let ts = tracked env h.root args in
      let names1 = with_value v.names (origin_name k.place) (whole s v.names (origin_expr o ts) (Int 32)) in
      let is = call_moved s names1 env values h.root args f n fits.0 (held_then o known) j moves in
      mask_done o (subst (λ e. WordFits e ret args) (sym found) fits) known few w never (Calls (Some (mask_name k.place)) (called.Move j) (move_args j ts)) (given names1)
      (λ names e. ap (λ l. Went (record { names = with_value names (mask_name k.place) (given l); slots = v.slots }) w) e)
      (λ u. is.0 ∙ sym (ap (λ e. as_result ret (answer_mask e (words_for s values h o))) found ∙ by_result ret fits.1 is.1))
    where
      given : (Name → ℕ) → ℕ
      given names = moved j (word 0 (evaluate_all s names (move_args j (tracked env h.root args)))) (word 1 (evaluate_all s names (move_args j (tracked env h.root args))))
          (word 2 (evaluate_all s names (move_args j (tracked env h.root args))))

      by_result : (q : Option Ty) → AnswersWord (Some (Word f n)) q → answer_mask (Some (Word f n)) (words_for s values h (op.Call ret callee args)) < 2 ^ bits_of n
          → as_result q (answer_mask (Some (Word f n)) (words_for s values h (op.Call ret callee args))) ≡ answer_mask (Some (Word f n)) (words_for s values h (op.Call ret callee args))
      by_result None a l = absurd a
      by_result (Some t) a l = ap (λ i. answer_mask (Some (Word f n)) (words_for s values h (op.Call ret callee args)) % 2 ^ i) a ∙ mod-eq_of_lt l

  pub word_done : (o : Op) → IsWordOp o → NoCallOp o → move_called o ≡ None → KnownOperands env size (operands o) → h.root + count_undefs (operands o) < 2 ^ 32 → (w : World)
      → Defined s env h values v (Some x) o (word_tasks (mask_name k.place) (origin_name k.place) o (tracked env h.root (operands o))) w
  word_done o is nc unmoved known few w = answer_done o is unmoved known few w (word_goes s h o is nc (map (λ p. p.value) (words_for s values h o)) w)

  -- a shift's mask is shifted by the same amount where that is set
  pub shift_done : (o : BinOp) → IsShift o → (f : Flags) (t : Ty) (a b : Operand) → 1 ≤ width_of t → KnownOperands env size ((t, a) ∷ (t, b) ∷ [])
      → h.root + count_undefs ((t, a) ∷ (t, b) ∷ []) < 2 ^ 32 → (w : World)
      → Defined s env h values v (Some x) (op.Binary o f t a b)
      (Sets (origin_name k.place) (Int 32) (first_last (tracked env h.root ((t, a) ∷ (t, b) ∷ [])))
      ∷ shift_task (mask_name k.place) o (width_of t) (tracked_at 0 (tracked env h.root ((t, a) ∷ (t, b) ∷ []))) (tracked_at 1 (tracked env h.root ((t, a) ∷ (t, b) ∷ []))) ∷ []) w
  shift_done o is f t a b some known few w = by_mask (eqb q.mask 0) refl
    where
      os : List (Ty × Operand)
      os = (t, a) ∷ (t, b) ∷ []

      ts : List Tracked
      ts = tracked env h.root ((t, a) ∷ (t, b) ∷ [])

      p : Poisoned
      p = read_poisoned s values h.root t a

      q : Poisoned
      q = read_poisoned s values (h.root + one_undef a) t b

      stored : ℕ
      stored = whole s v.names (first_last (tracked env h.root ((t, a) ∷ (t, b) ∷ []))) (Int 32)

      names1 : Name → ℕ
      names1 = with_value v.names (origin_name k.place) stored

      hw : AllWords s names1 (tracked env h.root ((t, a) ∷ (t, b) ∷ [])) (p ∷ q ∷ [])
      hw = words_hold s env size values v.names m k.place stored ((t, a) ∷ (t, b) ∷ []) h.root known

      ho : AllOrigins s v.names (tracked env h.root ((t, a) ∷ (t, b) ∷ [])) (p ∷ q ∷ [])
      ho = origins_hold s env size values v.names m r ((t, a) ∷ (t, b) ∷ []) h.root known few

      mask_of_all : ℕ
      mask_of_all = shift_mask o (width_of t) p q

      clean_shift : AllClean (p ∷ q ∷ []) → shift_mask o (width_of t) p q ≡ 0
      clean_shift z = ap₂ (λ i j. if eqb j 0 then value_or_zero (binary_of o no_flags (width_of t) i q.value) else (2 ^ width_of t - 1)) z.0 z.1.0 ∙ shift_zero o is (width_of t) q.value

      -- the words that are shifted
      test : evaluate s names1 (is_set (Int (width_of t)) (mask_of (tracked_at 1 (tracked env h.root ((t, a) ∷ (t, b) ∷ []))))) (Int 1) ≡ from_bool (not (eqb q.mask 0))
      test = set_word s names1 (width_of t) q.mask _ (is_leaf s names1 (width_of t) _ q.mask hw.1.0.mask)

      run : (e : Effect) → gives h.site (binary_of o no_flags (width_of t) (if eqb q.mask 0 then p.mask else (2 ^ width_of t - 1)) (if eqb q.mask 0 then q.value else 0)) w ≡ e
          → do_tasks s h (Sets (origin_name k.place) (Int 32) (first_last (tracked env h.root ((t, a) ∷ (t, b) ∷ [])))
          ∷ shift_task (mask_name k.place) o (width_of t) (tracked_at 0 (tracked env h.root ((t, a) ∷ (t, b) ∷ []))) (tracked_at 1 (tracked env h.root ((t, a) ∷ (t, b) ∷ []))) ∷ []) v w
          ≡ marked_next (Some (mask_name k.place)) names1 v.slots e (λ u z. Went u z)
      run e g =
          ap (λ z. marked_next (Some (mask_name k.place)) names1 v.slots z (λ u z. Went u z))
          (ap₂ (λ i j. gives h.site (binary_of o no_flags (width_of t) i j) w)
          (picks (eqb q.mask 0) (number (2 ^ width_of t - 1)) (mask_of (tracked_at 0 (tracked env h.root ((t, a) ∷ (t, b) ∷ [])))) (2 ^ width_of t - 1) p.mask
          (is_number s names1 (width_of t) (2 ^ width_of t - 1) (ones_lt (width_of t))) (is_leaf s names1 (width_of t) _ p.mask hw.0.mask) test)
          (picks (eqb q.mask 0) (number 0) (word_of (tracked_at 1 (tracked env h.root ((t, a) ∷ (t, b) ∷ [])))) 0 q.value
          (is_number s names1 (width_of t) 0 (pow_pos (width_of t))) (is_leaf s names1 (width_of t) _ q.value hw.1.0.value) test)
          ∙ g)
        where
          picks : (z : Bool) (e1 e2 : Expr) (i j : ℕ) → Is s names1 (width_of t) e1 i → Is s names1 (width_of t) e2 j
              → evaluate s names1 (is_set (Int (width_of t)) (mask_of (tracked_at 1 (tracked env h.root ((t, a) ∷ (t, b) ∷ []))))) (Int 1) ≡ from_bool (not z)
              → evaluate s names1 (Pick (is_set (Int (width_of t)) (mask_of (tracked_at 1 (tracked env h.root ((t, a) ∷ (t, b) ∷ []))))) (Int (width_of t)) e1 e2) (Int (width_of t)) ≡ (if z then j else i)
          picks z e1 e2 i j hi hj g =
              ap₃ (λ c d e. select_of c d e % 2 ^ width_of t) g (is_eval s names1 hi) (is_eval s names1 hj) ∙ chosen (width_of t) z i j hi.less hj.less

      fine : (i : ℕ) → gives h.site (binary_of o no_flags (width_of t) (if eqb q.mask 0 then p.mask else (2 ^ width_of t - 1)) (if eqb q.mask 0 then q.value else 0)) w ≡ Gives i w
          → i ≡ shift_mask o (width_of t) p q
          → Defined s env h values v (Some x) (op.Binary o f t a b)
          (Sets (origin_name k.place) (Int 32) (first_last (tracked env h.root ((t, a) ∷ (t, b) ∷ [])))
          ∷ shift_task (mask_name k.place) o (width_of t) (tracked_at 0 (tracked env h.root ((t, a) ∷ (t, b) ∷ []))) (tracked_at 1 (tracked env h.root ((t, a) ∷ (t, b) ∷ []))) ∷ []) w
      fine i g e =
          let ps = words_for s values h (op.Binary o f t a b) in
          let names2 = with_value names1 (mask_name k.place) i in
          let mask_is = λ (u : World). e ∙ sym (shift_result o is f t a b ps u) in
          let origin = last_origin ps p.origin in
          let d : (u : World) → Defines env x k.place v.names names2 (result_mask by_formulas (op.Binary o f t a b) ps u) origin =
          λ u. subst (λ j. Defines env x k.place v.names names2 j origin) (mask_is u)
          (origin_first env x k.place k.numbered c v.names i origin stored
          (λ ne. first_whole s v.names (tracked env h.root ((t, a) ∷ (t, b) ∷ [])) (p ∷ q ∷ []) ho (λ z. ne (e ∙ clean_shift z)))) in
          Fine (record { names = names2; slots = v.slots }) (run (Gives i w) g) refl
          (defines_own env x k.place v.names names2 _ _ (d w))
          (λ j u g. matches_set env size x k one values v.names names2 (poisoned_result by_formulas (op.Binary o f t a b) ps j u) m (d u))
          (λ outside. absurd outside)
          (λ g. absurd (gives_goes h.site _ w g))

      by_result : (rr : Result ℕ Trap) → binary_of o no_flags (width_of t) p.mask q.value ≡ rr → eqb q.mask 0 ≡ true
          → Defined s env h values v (Some x) (op.Binary o f t a b)
          (Sets (origin_name k.place) (Int 32) (first_last (tracked env h.root ((t, a) ∷ (t, b) ∷ [])))
          ∷ shift_task (mask_name k.place) o (width_of t) (tracked_at 0 (tracked env h.root ((t, a) ∷ (t, b) ∷ []))) (tracked_at 1 (tracked env h.root ((t, a) ∷ (t, b) ∷ []))) ∷ []) w
      by_result (Ok i) e z =
          fine i (ap (λ y. gives h.site (binary_of o no_flags (width_of t) (if y then p.mask else (2 ^ width_of t - 1)) (if y then q.value else 0)) w) z ∙ ap (λ y. gives h.site y w) e)
          (sym (ap (λ y. if y then value_or_zero (binary_of o no_flags (width_of t) p.mask q.value) else (2 ^ width_of t - 1)) z ∙ ap value_or_zero e))
      by_result (Err tr) e z =
          Fails («end».Trap tr h.site) (λ outside. outside)
          (run (Ends («end».Trap tr h.site) w) (ap (λ y. gives h.site (binary_of o no_flags (width_of t) (if y then p.mask else (2 ^ width_of t - 1)) (if y then q.value else 0)) w) z ∙ ap (λ y. gives h.site y w) e))
          (ap (λ y. gives h.site y w) (shift_fails o is f (width_of t) p.value p.mask q.value tr e))

      by_mask : (z : Bool) → eqb q.mask 0 ≡ z → Defined s env h values v (Some x) (op.Binary o f t a b)
          (Sets (origin_name k.place) (Int 32) (first_last (tracked env h.root ((t, a) ∷ (t, b) ∷ [])))
          ∷ shift_task (mask_name k.place) o (width_of t) (tracked_at 0 (tracked env h.root ((t, a) ∷ (t, b) ∷ []))) (tracked_at 1 (tracked env h.root ((t, a) ∷ (t, b) ∷ []))) ∷ []) w
      by_mask true z = by_result (binary_of o no_flags (width_of t) p.mask q.value) refl z
      by_mask false z =
          fine (2 ^ width_of t - 1)
          (ap (λ y. gives h.site (binary_of o no_flags (width_of t) (if y then p.mask else (2 ^ width_of t - 1)) (if y then q.value else 0)) w) z ∙ ap (λ y. gives h.site y w) (shift_ones o is (width_of t) some))
          (sym (ap (λ y. if y then value_or_zero (binary_of o no_flags (width_of t) p.mask q.value) else (2 ^ width_of t - 1)) z))
