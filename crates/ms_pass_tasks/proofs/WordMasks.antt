-- The mask of each kind of result that is one word, and that it is 0 where the operands' are.
use Rattle.std.proofs.Common.{◌≡◌, ℕ, zero, suc, ◌+◌, ◌-◌, ◌*◌, ◌%◌, ◌^◌, ◌<◌, ◌≤◌, List, [], ◌∷◌, refl, sym, ap, ◌∙◌, subst, arith, Bool, true, false, Option, Some, None}
use Rattle.std.specs.Prelude.{if◌then◌else◌, eqb, bit_and, bit_or, bit_xor, ltb, leb, map, get_or, pos, negsuc}
use Rattle.std.specs.Int.{from_bool}
use Rattle.std.proofs.lemmas.Option.{same_Some}
use Rattle.std.proofs.Math.Path.{ap₂}
use Rattle.std.proofs.Math.Nat.{mod-eq_of_lt, zero-mod}
use Rattle.std.proofs.lemmas.Nat.{pow_pos}
use Rattle.std.specs.Int.Bits.{and_zero_r, or_zero_r, xor_self, xor_zero_r}
use Rattle.ms_bits.specs.declared.operations.BinOp.TheVariants as binary
use Rattle.ms_bits.specs.declared.operations.CastOp.{CastOp}
use Rattle.ms_bits.specs.declared.operations.CastOp.TheVariants as cast
use Rattle.ms_bits.specs.declared.operations.Pred.{Pred}
use Rattle.ms_bits.specs.declared.operations.Pred.TheVariants as pred
use Rattle.ms_bits.specs.Signed.{signed, wrap}
use Rattle.ms_bits.specs.Conversions.{cast_of, Allows}
use Rattle.ms_bits.specs.Formulas.{and_mask, or_mask, union_mask, carry_mask, least, greatest, order_mask, eq_mask, turned_sign, compare_mask}
use Rattle.ms_bits.specs.declared.word_functions.WordFn.{WordFn}
use Rattle.ms_bits.specs.declared.word_functions.WordFn.TheVariants as word
use Rattle.ms_bits.specs.declared.word_functions.WordWidth.{WordWidth}
use Rattle.ms_bits.specs.declared.word_functions.WordWidth.TheVariants as width
use Rattle.ms_bits.specs.declared.word_functions.BitMove.{BitMove}
use Rattle.ms_bits.specs.declared.word_functions.BitMove.TheVariants as move
use Rattle.ms_bits.specs.WordFunctions.{bits_of, word_mask, move_fn, move_width, move_of, moved_by, moved}
use Rattle.ms_bits_laws.proofs.WordAgreement.{width_some, moved_lt}
use Rattle.ms_bits_laws.proofs.CleanWords.{word_clean}
use Rattle.ms_bits_laws.proofs.OperationAgreement.{wrap-lt}
use Rattle.ms_ir.specs.declared.calls.External.{External}
use Rattle.ms_ir.specs.declared.calls.External.TheVariants.{Word}
use Rattle.ms_ir.specs.Names.{lookup, externals}
use Rattle.ms_ir.specs.Signatures.{word_params}
use Rattle.ms_ir.specs.declared.syntax.Name.{Name}
use Rattle.ms_ir.specs.declared.syntax.Ty.{Ty, Int, Ptr}
use Rattle.ms_ir.specs.declared.syntax.Operand.{Operand}
use Rattle.ms_ir.specs.declared.syntax.Op.{Op}
use Rattle.ms_ir.specs.declared.syntax.Op.TheVariants as op
use Rattle.ms_bits.specs.NoFlags.{no_flags}
use Rattle.ms_ir.specs.Layout.{width_of, extended}
use Rattle.ms_runs.specs.World.{World, Setting}
use Rattle.ms_runs.specs.World.{word as value}
use Rattle.ms_ir.specs.Instructions.{operands, one_undef}
use Rattle.ms_runs.specs.Control.{read_all}
use Rattle.ms_runs.specs.Act.{operand_word, extended_all}
use Rattle.ms_runs.specs.Poisoned.{Poisoned}
use Rattle.ms_runs.specs.Masks.{by_formulas, word_at, answer_mask, as_result, result_mask, value_or_zero, union}
use Rattle.ms_runs.specs.Shadow.{read_poisoned}
use Rattle.ms_pass_tasks.specs.Tasks.{Leaf, Turn}
use Rattle.ms_pass_tasks.specs.Meaning.{whole, evaluate_all}
use Rattle.ms_pass_tasks.specs.Environments.{Env, Tracked, tracked, tracked_at, mask_of, extended_expr, extended_mask, joined, unknown}
use Rattle.ms_pass_tasks.specs.ResultMasks.{cast_expr, sum_expr, address_expr, answer_expr, mask_expr, moved_args, move_args}
use Rattle.ms_pass_tasks.specs.Known.{AnswersWord}
use Rattle.ms_pass_tasks.proofs.Externals.{width_at}
use Rattle.ms_pass_tasks.proofs.WordExprs.{Still, Moving, Stands, Second, Third, word_value, moved_value}
use Rattle.ms_pass_tasks.specs.ResultTasks.{result_width, external_move, move_called}
use Rattle.ms_pass_tasks.proofs.OperandWords.{word_less}
use Rattle.ms_pass_tasks.proofs.CheckTasks.{zero_word}
use Rattle.ms_pass_tasks.proofs.JoinedWords.{Makes, AllMake, own_mask, joined_is}
use Rattle.ms_pass_tasks.proofs.Words.{Is, is_leaf, is_bits, is_or, mask_carry, mask_and, mask_or, mask_compare, mask_select}
use Rattle.ms_pass_tasks.proofs.LastOrigins.{AllWords, AllClean}

-- a word is its own signed reading
pub wrap_signed : (w v : ℕ) → v < 2 ^ w → wrap w (signed w v) ≡ v
unfolding wrap signed
wrap_signed w v l = by_sign (ltb (2 * v) (2 ^ w))
  where
    by_sign : (b : Bool) → wrap w (if b then pos v else negsuc (2 ^ w - 1 - v)) ≡ v
    by_sign true = mod-eq_of_lt l
    by_sign false = let e : (2 ^ w - 1 - v) % 2 ^ w ≡ 2 ^ w - 1 - v = mod-eq_of_lt (omega arith) in omega (arith, e)

pub signed_zero : (w : ℕ) → signed w 0 ≡ pos 0
unfolding signed
signed_zero w = let e : ltb (2 * 0) (2 ^ w) ≡ true = grind (arith, pow_pos w) in ap (λ b. if b then pos 0 else negsuc (2 ^ w - 1 - 0)) e

wrap_zero : (w to : ℕ) → wrap to (signed w 0) ≡ 0
unfolding wrap
wrap_zero w to = ap (wrap to) (signed_zero w) ∙ zero-mod (2 ^ to)

-- a call of a function of whole words has words of their width, and answers one
abbrev pub WordFits : Option External → Option Ty → List (Ty × Operand) → Type 0
WordFits (Some (Word f n)) ret args = (map (λ a. width_of a.0) args ≡ map width_of (word_params f (bits_of n))) × AnswersWord (Some (Word f n)) ret
WordFits e ret args = Unit {0}

-- what an operation asks of its types
abbrev pub IsWordOp : Op → Type 0
IsWordOp (op.Binary binary.Shl f t a b) = ⊥
IsWordOp (op.Binary binary.Lshr f t a b) = ⊥
IsWordOp (op.Binary binary.Ashr f t a b) = ⊥
IsWordOp (op.Binary o f t a b) = Unit {0}
IsWordOp (op.Icmp p f t a b) = 1 ≤ width_of t
IsWordOp (op.Cast o f t a u) = Allows o (width_of t) (width_of u)
IsWordOp (op.Select c t a b) = Unit {0}
IsWordOp (op.Freeze t a) = Unit {0}
IsWordOp (op.Gep t a is) = Unit {0}
IsWordOp (op.Alloca t u c) = Unit {0}
IsWordOp (op.Call ret callee args) = WordFits (lookup externals callee) ret args
IsWordOp _ = ⊥

-- an operation that calls nothing
abbrev pub NoCallOp : Op → Type 0
NoCallOp (op.Call ret callee args) = ⊥
NoCallOp _ = Unit {0}

-- ---- functions that move bits

pub no_move : (k : BitMove) → None ≡ Some k → ⊥
no_move k e = grind arith

-- which function of whole words one is
pub move_is : (f : WordFn) (n : WordWidth) (k : BitMove) → move_of f n ≡ Some k → (move_fn k ≡ f) × (move_width k ≡ n) × Moving f
move_is word.Bswap width.I16 k e = subst (λ j. (move_fn j ≡ word.Bswap) × (move_width j ≡ width.I16) × Moving word.Bswap) (same_Some move.Bswap16 k e) (refl, refl, tt)
move_is word.Bswap width.I32 k e = subst (λ j. (move_fn j ≡ word.Bswap) × (move_width j ≡ width.I32) × Moving word.Bswap) (same_Some move.Bswap32 k e) (refl, refl, tt)
move_is word.Bswap width.I64 k e = subst (λ j. (move_fn j ≡ word.Bswap) × (move_width j ≡ width.I64) × Moving word.Bswap) (same_Some move.Bswap64 k e) (refl, refl, tt)
move_is word.Bitreverse width.I8 k e = subst (λ j. (move_fn j ≡ word.Bitreverse) × (move_width j ≡ width.I8) × Moving word.Bitreverse) (same_Some move.Bitreverse8 k e) (refl, refl, tt)
move_is word.Bitreverse width.I16 k e = subst (λ j. (move_fn j ≡ word.Bitreverse) × (move_width j ≡ width.I16) × Moving word.Bitreverse) (same_Some move.Bitreverse16 k e) (refl, refl, tt)
move_is word.Bitreverse width.I32 k e = subst (λ j. (move_fn j ≡ word.Bitreverse) × (move_width j ≡ width.I32) × Moving word.Bitreverse) (same_Some move.Bitreverse32 k e) (refl, refl, tt)
move_is word.Bitreverse width.I64 k e = subst (λ j. (move_fn j ≡ word.Bitreverse) × (move_width j ≡ width.I64) × Moving word.Bitreverse) (same_Some move.Bitreverse64 k e) (refl, refl, tt)
move_is word.Fshl width.I8 k e = subst (λ j. (move_fn j ≡ word.Fshl) × (move_width j ≡ width.I8) × Moving word.Fshl) (same_Some move.Fshl8 k e) (refl, refl, tt)
move_is word.Fshl width.I16 k e = subst (λ j. (move_fn j ≡ word.Fshl) × (move_width j ≡ width.I16) × Moving word.Fshl) (same_Some move.Fshl16 k e) (refl, refl, tt)
move_is word.Fshl width.I32 k e = subst (λ j. (move_fn j ≡ word.Fshl) × (move_width j ≡ width.I32) × Moving word.Fshl) (same_Some move.Fshl32 k e) (refl, refl, tt)
move_is word.Fshl width.I64 k e = subst (λ j. (move_fn j ≡ word.Fshl) × (move_width j ≡ width.I64) × Moving word.Fshl) (same_Some move.Fshl64 k e) (refl, refl, tt)
move_is word.Fshr width.I8 k e = subst (λ j. (move_fn j ≡ word.Fshr) × (move_width j ≡ width.I8) × Moving word.Fshr) (same_Some move.Fshr8 k e) (refl, refl, tt)
move_is word.Fshr width.I16 k e = subst (λ j. (move_fn j ≡ word.Fshr) × (move_width j ≡ width.I16) × Moving word.Fshr) (same_Some move.Fshr16 k e) (refl, refl, tt)
move_is word.Fshr width.I32 k e = subst (λ j. (move_fn j ≡ word.Fshr) × (move_width j ≡ width.I32) × Moving word.Fshr) (same_Some move.Fshr32 k e) (refl, refl, tt)
move_is word.Fshr width.I64 k e = subst (λ j. (move_fn j ≡ word.Fshr) × (move_width j ≡ width.I64) × Moving word.Fshr) (same_Some move.Fshr64 k e) (refl, refl, tt)
move_is f n k e = absurd (no_move k e)

still : (f : WordFn) (n : WordWidth) → move_of f n ≡ None → Still f (bits_of n)
still word.Bswap width.I8 e = refl
still word.Bswap width.I16 e = grind arith
still word.Bswap width.I32 e = grind arith
still word.Bswap width.I64 e = grind arith
still word.Bitreverse width.I8 e = grind arith
still word.Bitreverse width.I16 e = grind arith
still word.Bitreverse width.I32 e = grind arith
still word.Bitreverse width.I64 e = grind arith
still word.Fshl width.I8 e = grind arith
still word.Fshl width.I16 e = grind arith
still word.Fshl width.I32 e = grind arith
still word.Fshl width.I64 e = grind arith
still word.Fshr width.I8 e = grind arith
still word.Fshr width.I16 e = grind arith
still word.Fshr width.I32 e = grind arith
still word.Fshr width.I64 e = grind arith
still f n e = tt

module _ (s : Setting) (names : Name → ℕ) where
  cast_value : (o : CastOp) (w to : ℕ) (m : Operand) (x : ℕ) → Allows o w to → operand_word s names w m ≡ x
      → whole s names (cast_expr o w to (Leaf m)) (Int to) ≡ value_or_zero (cast_of o no_flags w x to)
  unfolding cast_of
  cast_value cast.Trunc w to m x k e = ap (λ n. n % 2 ^ to) e
  cast_value cast.Zext w to m x k e = e
  cast_value cast.Sext w to m x k e = ap (λ n. wrap to (signed w n)) e
  cast_value cast.PtrToInt w to m x k e = by_width (eqb to 64) refl
    where
      by_width : (b : Bool) → eqb to 64 ≡ b → whole s names (if b then Leaf m else Turn cast.Trunc (Int w) (Leaf m) (Int to)) (Int to) ≡ x % 2 ^ to
      by_width true f =
          let same : to ≡ w = grind (arith, k.0) in
          sym (mod-eq_of_lt (word_less s names to m)) ∙ ap (λ n. n % 2 ^ to) (ap (λ i. operand_word s names i m) same ∙ e)
      by_width false f = ap (λ n. n % 2 ^ to) e
  cast_value cast.IntToPtr w to m x k e = by_width (eqb w 64) refl
    where
      by_width : (b : Bool) → eqb w 64 ≡ b → whole s names (if b then Leaf m else Turn cast.Zext (Int w) (Leaf m) (Int 64)) (Int to) ≡ x
      by_width true f =
          let same : to ≡ w = grind (arith, k) in
          ap (λ i. operand_word s names i m) same ∙ e
      by_width false f = e
  cast_value cast.Bitcast w to m x k e = ap (λ i. operand_word s names i m) k ∙ e

  -- an index's mask with copies of its sign bit
  extended_value : (w : ℕ) (m : Operand) (x : ℕ) → operand_word s names w m ≡ x → Is s names 64 (extended_expr w (Leaf m)) (extended w x)
  unfolding cast_of
  extended_value w m x e = by_width (eqb w 64) refl
    where
      by_width : (b : Bool) → eqb w 64 ≡ b → Is s names 64 (if b then Leaf m else Turn cast.Sext (Int w) (Leaf m) (Int 64)) (wrap 64 (signed w x))
      by_width true f =
          let same : 64 ≡ w = grind arith in
          is_leaf s names 64 m (wrap 64 (signed w x))
          (ap (λ i. operand_word s names i m) same ∙ e
          ∙ sym (wrap_signed w x (subst (λ n. n < 2 ^ w) e (word_less s names w m))) ∙ ap (λ i. wrap i (signed w x)) (sym same))
      by_width false f = record { raw = ap (λ n. wrap 64 (signed w n)) e; less = wrap-lt 64 (signed w x) }

  -- the masks of indices
  indices_make : (env : Env) (values : Name → Poisoned) (is : List (Ty × Operand)) (root : ℕ)
      → AllWords s names (tracked env root is) (read_all (read_poisoned s values) is root)
      → AllMake s names 64 extended_mask (tracked env root is) (extended_all is (map (λ p. p.mask) (read_all (read_poisoned s values) is root)))
  indices_make env values [] root h = tt
  indices_make env values (i ∷ is) root h = (
    record {
      word = extended_value (width_of i.0) _ _ h.0.mask;
      clean = λ z. ap (extended (width_of i.0)) (sym h.0.mask ∙ zero_word s names (width_of i.0) _ z) ∙ wrap_zero (width_of i.0) 64;
    },
    indices_make env values is (root + one_undef i.1) h.1,
  )

  -- of an address, of which the base's mask has 64 bits as it is
  address_value : (env : Env) (values : Name → Poisoned) (a : Operand) (is : List (Ty × Operand)) (root : ℕ)
      → AllWords s names (tracked env root ((Ptr, a) ∷ is)) (read_all (read_poisoned s values) ((Ptr, a) ∷ is) root)
      → Is s names 64 (address_expr (tracked env root ((Ptr, a) ∷ is)))
      (carry_mask 64 (bit_or (read_poisoned s values root Ptr a).mask (union (extended_all is (map (λ p. p.mask) (read_all (read_poisoned s values) is (root + one_undef a)))))))
  address_value env values a is root h =
      let base : Makes s names 64 extended_mask _ _ = record { word = is_leaf s names 64 _ _ h.0.mask; clean = λ z. sym h.0.mask ∙ zero_word s names 64 _ z } in
      mask_carry s names
      (joined_is s names 64 extended_mask (tracked env root ((Ptr, a) ∷ is))
      ((read_poisoned s values root Ptr a).mask ∷ extended_all is (map (λ p. p.mask) (read_all (read_poisoned s values) is (root + one_undef a))))
      (base, indices_make env values is (root + one_undef a) h.1))

  sum_value : (w : ℕ) (a b : Tracked) (x y : ℕ) → operand_word s names w a.mask ≡ x → operand_word s names w b.mask ≡ y → Is s names w (sum_expr w (a ∷ b ∷ [])) (carry_mask w (bit_or x y))
  sum_value w a b x y p q =
      let made : AllMake s names w mask_of (a ∷ b ∷ []) (x ∷ y ∷ []) = (own_mask s names w a x p, (own_mask s names w b y q, tt)) in
      mask_carry s names
      (subst (Is s names w (joined (Int w) mask_of (unknown (a ∷ b ∷ [])))) (ap (bit_or x) (or_zero_r y)) (joined_is s names w mask_of (a ∷ b ∷ []) (x ∷ y ∷ []) made))

  -- what stands for an operand of a call, also where it has none
  word_stands : (ts : List Tracked) (ps : List Poisoned) → AllWords s names ts ps → (k : ℕ) → Stands s names (width_of (tracked_at k ts).ty) (tracked_at k ts) (word_at k ps)
  word_stands [] [] h k = record { value = zero-mod (2 ^ 64); mask = zero-mod (2 ^ 64) }
  word_stands [] (p ∷ ps) h k = absurd h
  word_stands (t ∷ ts) [] h k = absurd h
  word_stands (t ∷ ts) (p ∷ ps) h zero = record { value = h.0.value; mask = h.0.mask }
  word_stands (t ∷ ts) (p ∷ ps) h (suc k) = word_stands ts ps h.1 k

  -- a call of a function of whole words
  module _ (env : Env) (values : Name → Poisoned) (root : ℕ) (args : List (Ty × Operand)) (f : WordFn) (n : WordWidth)
      (widths : map (λ a. width_of a.0) args ≡ map width_of (word_params f (bits_of n))) (h : AllWords s names (tracked env root args) (read_all (read_poisoned s values) args root)) where
    abbrev called : List Tracked
    called = tracked env root args

    abbrev given : List Poisoned
    given = read_all (read_poisoned s values) args root

    -- the width of a parameter
    Wide : WordFn → ℕ → Type 0
    Wide f k = get_or (map width_of (word_params f (bits_of n))) k 64 ≡ bits_of n

    at : (k : ℕ) → Wide f k → Stands s names (bits_of n) (tracked_at k called) (word_at k given)
    unfolding Wide
    at k e = subst (λ j. Stands s names j (tracked_at k called) (word_at k given)) (width_at env root args k ∙ ap (λ l. get_or l k 64) widths ∙ e) (word_stands called given h k)

    first_wide : (f : WordFn) → Wide f 0
    unfolding Wide
    first_wide word.Ctpop = refl
    first_wide word.Fshl = refl
    first_wide word.Fshr = refl
    first_wide word.Ctlz = refl
    first_wide f = refl

    second : (f : WordFn) → {X : Type 0} → (Wide f 1 → X) → Second s names f X
    unfolding Wide
    second word.Ctpop h = tt
    second word.Ctlz h = tt
    second word.Cttz h = tt
    second word.Bswap h = tt
    second word.Bitreverse h = tt
    second word.Abs h = tt
    second word.Expect h = tt
    second f h = h refl

    third : (f : WordFn) → {X : Type 0} → (Wide f 2 → X) → Third s names f X
    unfolding Wide
    third word.Fshl h = h refl
    third word.Fshr h = h refl
    third f h = tt

    call_value : move_of f n ≡ None → Is s names (bits_of n) (answer_expr (Some (Word f n)) called) (answer_mask (Some (Word f n)) given)
    call_value e =
        word_value s names (bits_of n) (omega (arith, width_some n)) (tracked_at 0 called) (tracked_at 1 called) (tracked_at 2 called) (word_at 0 given) (word_at 1 given) (word_at 2 given)
        (at 0 (first_wide f)) f (still f n e) (second f (λ e. at 1 e))

    -- what moves bits gives its mask
    abbrev gives : WordFn → ℕ → ℕ
    gives g w =
        let xs = evaluate_all s names (moved_args g w (tracked_at 0 called) (tracked_at 1 called) (tracked_at 2 called)) in moved_by g w (value 0 xs) (value 1 xs) (value 2 xs)

    pub call_moved : (k : BitMove) → move_of f n ≡ Some k
        → (moved k (value 0 (evaluate_all s names (move_args k called))) (value 1 (evaluate_all s names (move_args k called))) (value 2 (evaluate_all s names (move_args k called))) ≡ answer_mask (Some (Word f n)) given)
        × (answer_mask (Some (Word f n)) given < 2 ^ bits_of n)
    call_moved k e =
        let is = move_is f n k e in
        let same : gives (move_fn k) (bits_of (move_width k)) ≡ answer_mask (Some (Word f n)) given =
        ap₂ (λ g w. gives g (bits_of w)) is.0 is.1
        ∙ moved_value s names (bits_of n) (omega (arith, width_some n)) (tracked_at 0 called) (tracked_at 1 called) (tracked_at 2 called) (word_at 0 given) (word_at 1 given) (word_at 2 given)
        (at 0 (first_wide f)) f is.2 (second f (λ e. at 1 e)) (third f (λ e. at 2 e)) in (
          same,
          subst (λ w. answer_mask (Some (Word f n)) given < 2 ^ bits_of w) is.1
              (subst (λ x. x < 2 ^ bits_of (move_width k)) same (moved_lt k _ _ _)),
        )

  -- the mask of a result
  pub mask_value : (env : Env) (values : Name → Poisoned) (root : ℕ) (o : Op) → IsWordOp o → move_called o ≡ None → (w : World)
      → AllWords s names (tracked env root (operands o)) (read_all (read_poisoned s values) (operands o) root)
      → whole s names (mask_expr o (tracked env root (operands o))) (Int (result_width o)) ≡ result_mask by_formulas o (read_all (read_poisoned s values) (operands o) root) w
  unfolding union_mask
  mask_value env values root (op.Binary binary.And f t a b) k n w h =
      (mask_and s names (is_leaf s names (width_of t) a _ h.0.value) (is_leaf s names (width_of t) _ _ h.0.mask) (is_leaf s names (width_of t) b _ h.1.0.value) (is_leaf s names (width_of t) _ _ h.1.0.mask)).raw
  mask_value env values root (op.Binary binary.Or f t a b) k n w h =
      (mask_or s names (is_leaf s names (width_of t) a _ h.0.value) (is_leaf s names (width_of t) _ _ h.0.mask) (is_leaf s names (width_of t) b _ h.1.0.value) (is_leaf s names (width_of t) _ _ h.1.0.mask)).raw
  mask_value env values root (op.Binary binary.Xor f t a b) k n w h = (is_or s names (is_leaf s names (width_of t) _ _ h.0.mask) (is_leaf s names (width_of t) _ _ h.1.0.mask)).raw
  mask_value env values root (op.Binary binary.Add f t a b) k n w h = (sum_value (width_of t) _ _ _ _ h.0.mask h.1.0.mask).raw
  mask_value env values root (op.Binary binary.Sub f t a b) k n w h = (sum_value (width_of t) _ _ _ _ h.0.mask h.1.0.mask).raw
  mask_value env values root (op.Binary binary.Mul f t a b) k n w h = (sum_value (width_of t) _ _ _ _ h.0.mask h.1.0.mask).raw
  mask_value env values root (op.Binary binary.Udiv f t a b) k n w h = h.0.mask
  mask_value env values root (op.Binary binary.Sdiv f t a b) k n w h = h.0.mask
  mask_value env values root (op.Binary binary.Urem f t a b) k n w h = h.0.mask
  mask_value env values root (op.Binary binary.Srem f t a b) k n w h = h.0.mask
  mask_value env values root (op.Icmp p f t a b) k n w h =
      (mask_compare s names p k (is_bits s names t a _ h.0.value) (is_leaf s names (width_of t) _ _ h.0.mask) (is_bits s names t b _ h.1.0.value) (is_leaf s names (width_of t) _ _ h.1.0.mask)).raw
  mask_value env values root (op.Cast o f t a u) k n w h = cast_value o (width_of t) (width_of u) _ _ k h.0.mask
  mask_value env values root (op.Select c t a b) k n w h =
      (mask_select s names (is_leaf s names 1 c _ h.0.value) (is_leaf s names 1 _ _ h.0.mask) (is_bits s names t a _ h.1.0.value) (is_leaf s names (width_of t) _ _ h.1.0.mask)
      (is_bits s names t b _ h.1.1.0.value) (is_leaf s names (width_of t) _ _ h.1.1.0.mask)).raw
  mask_value env values root (op.Freeze t a) k n w h = zero-mod (2 ^ width_of t)
  mask_value env values root (op.Alloca t u c) k n w h = zero-mod (2 ^ 64)
  mask_value env values root (op.Call (Some t) callee args) k n w h = by_external (lookup externals callee) k n
    where
      by_external : (e : Option External) → WordFits e (Some t) args → external_move e ≡ None
          → whole s names (answer_expr e (tracked env root args)) (Int (width_of t)) ≡ answer_mask e (read_all (read_poisoned s values) args root) % 2 ^ width_of t
      by_external None k e = refl
      by_external (Some (Word f n)) k e =
          let is = call_value env values root args f n k.0 h e in
          ap (λ j. whole s names (answer_expr (Some (Word f n)) (tracked env root args)) (Int j)) k.1 ∙ is.raw
          ∙ sym (ap (λ j. answer_mask (Some (Word f n)) (read_all (read_poisoned s values) args root) % 2 ^ j) k.1 ∙ mod-eq_of_lt is.less)
      by_external (Some e) k z = refl
  mask_value env values root (op.Call None callee args) k n w h = by_external (lookup externals callee) k n
    where
      by_external : (e : Option External) → WordFits e None args → external_move e ≡ None → whole s names (answer_expr e (tracked env root args)) (Int 64) ≡ 0
      by_external None k e = zero-mod (2 ^ 64)
      by_external (Some (Word f n)) k e = absurd k.1
      by_external (Some e) k z = zero-mod (2 ^ 64)
  mask_value env values root (op.Gep t a is) k n w h = (address_value env values a is root h).raw
  mask_value env values root (op.Binary binary.Shl f t a b) k n w h = absurd k
  mask_value env values root (op.Binary binary.Lshr f t a b) k n w h = absurd k
  mask_value env values root (op.Binary binary.Ashr f t a b) k n w h = absurd k
  mask_value env values root _ k n w h = absurd k

-- ---- masks that are 0

cast_clean : (o : CastOp) (w to : ℕ) → value_or_zero (cast_of o no_flags w 0 to) ≡ 0
unfolding cast_of
cast_clean cast.Trunc w to = zero-mod (2 ^ to)
cast_clean cast.Zext w to = refl
cast_clean cast.Sext w to = wrap_zero w to
cast_clean cast.PtrToInt w to = zero-mod (2 ^ to)
cast_clean cast.IntToPtr w to = refl
cast_clean cast.Bitcast w to = refl

order_clean : (before : ℕ → ℕ → Bool) (v u : ℕ) → order_mask before v 0 u 0 ≡ 0
unfolding order_mask least greatest
order_clean before v u =
    ap₂ (λ i j. bit_xor (from_bool (before i (bit_or u 0))) (from_bool (before (bit_or v 0) j))) (xor_zero_r (bit_or v 0)) (xor_zero_r (bit_or u 0))
    ∙ xor_self (from_bool (before (bit_or v 0) (bit_or u 0)))

eq_clean : (v u : ℕ) → eq_mask v 0 u 0 ≡ 0
unfolding eq_mask
eq_clean v u = and_zero_r (from_bool (eqb (bit_or (bit_xor v u) (bit_or 0 0)) (bit_or 0 0)))

compare_clean : (p : Pred) (w v u : ℕ) → compare_mask p w v 0 u 0 ≡ 0
unfolding compare_mask
compare_clean pred.Eq w v u = eq_clean v u
compare_clean pred.Ne w v u = eq_clean v u
compare_clean pred.Ugt w v u = order_clean ltb u v
compare_clean pred.Uge w v u = order_clean leb u v
compare_clean pred.Ult w v u = order_clean ltb v u
compare_clean pred.Ule w v u = order_clean leb v u
compare_clean pred.Sgt w v u = order_clean ltb (turned_sign w u) (turned_sign w v)
compare_clean pred.Sge w v u = order_clean leb (turned_sign w u) (turned_sign w v)
compare_clean pred.Slt w v u = order_clean ltb (turned_sign w v) (turned_sign w u)
compare_clean pred.Sle w v u = order_clean leb (turned_sign w v) (turned_sign w u)

union_clean : (is : List (Ty × Operand)) (ps : List Poisoned) → AllClean ps → union (extended_all is (map (λ p. p.mask) ps)) ≡ 0
union_clean [] ps c = refl
union_clean (i ∷ is) [] c = refl
union_clean (i ∷ is) (p ∷ ps) c = ap₂ bit_or (ap (λ n. extended (width_of i.0) n) c.0 ∙ wrap_zero (width_of i.0) 64) (union_clean is ps c.1)

two_clean : (m k : ℕ) → m ≡ 0 → k ≡ 0 → bit_or m k ≡ 0
two_clean m k e f = ap₂ bit_or e f

carry_clean : (w u : ℕ) → u ≡ 0 → carry_mask w u ≡ 0
unfolding carry_mask
carry_clean w u e = ap (λ n. bit_or n ((0 + (2 ^ w - n)) % 2 ^ w)) e ∙ full (2 ^ w)
  where
    full : (n : ℕ) → (0 + (n - 0)) % n ≡ 0
    full n = grind arith

-- where the origin is that of the last operand
abbrev pub TakesLast : Op → Type 0
TakesLast (op.Select c t a b) = ⊥
TakesLast (op.Freeze t a) = ⊥
TakesLast (op.Alloca t u c) = ⊥
TakesLast (op.Call ret callee args) = ⊥
TakesLast o = IsWordOp o

pub mask_clean : (s : Setting) (values : Name → Poisoned) (root : ℕ) (o : Op) → TakesLast o → (w : World) → AllClean (read_all (read_poisoned s values) (operands o) root)
    → result_mask by_formulas o (read_all (read_poisoned s values) (operands o) root) w ≡ 0
unfolding and_mask or_mask union_mask
mask_clean s values root (op.Binary binary.And f t a b) k w c = ap (bit_and _) (two_clean _ _ c.0 c.1.0) ∙ and_zero_r _
mask_clean s values root (op.Binary binary.Or f t a b) k w c = ap (bit_and _) (two_clean _ _ c.0 c.1.0) ∙ and_zero_r _
mask_clean s values root (op.Binary binary.Xor f t a b) k w c = two_clean _ _ c.0 c.1.0
mask_clean s values root (op.Binary binary.Add f t a b) k w c = carry_clean (width_of t) _ (two_clean _ _ c.0 c.1.0)
mask_clean s values root (op.Binary binary.Sub f t a b) k w c = carry_clean (width_of t) _ (two_clean _ _ c.0 c.1.0)
mask_clean s values root (op.Binary binary.Mul f t a b) k w c = carry_clean (width_of t) _ (two_clean _ _ c.0 c.1.0)
mask_clean s values root (op.Binary binary.Udiv f t a b) k w c = c.0
mask_clean s values root (op.Binary binary.Sdiv f t a b) k w c = c.0
mask_clean s values root (op.Binary binary.Urem f t a b) k w c = c.0
mask_clean s values root (op.Binary binary.Srem f t a b) k w c = c.0
mask_clean s values root (op.Icmp p f t a b) k w c =
    ap₂ (λ i j. compare_mask p (width_of t) (read_poisoned s values root t a).value i (read_poisoned s values (root + one_undef a) t b).value j) c.0 c.1.0 ∙ compare_clean p (width_of t) _ _
mask_clean s values root (op.Cast o f t a u) k w c = ap (λ i. value_or_zero (cast_of o no_flags (width_of t) i (width_of u))) c.0 ∙ cast_clean o (width_of t) (width_of u)
mask_clean s values root (op.Gep t a is) k w c = carry_clean 64 _ (two_clean _ _ c.0 (union_clean is (read_all (read_poisoned s values) is (root + one_undef a)) c.1))
mask_clean s values root (op.Binary binary.Shl f t a b) k w c = absurd k
mask_clean s values root (op.Binary binary.Lshr f t a b) k w c = absurd k
mask_clean s values root (op.Binary binary.Ashr f t a b) k w c = absurd k
mask_clean s values root _ k w c = absurd k

mask_at : (k : ℕ) (ps : List Poisoned) → AllClean ps → (word_at k ps).mask ≡ 0
mask_at k [] h = refl
mask_at zero (p ∷ ps) h = h.0
mask_at (suc k) (p ∷ ps) h = mask_at k ps h.1

-- what an external answers of words without a poisoned bit
pub answer_clean : (ret : Option Ty) (e : Option External) (ps : List Poisoned) → AllClean ps → as_result ret (answer_mask e ps) ≡ 0
answer_clean ret e ps c = cut ret (by_external e)
  where
    cut : (ret : Option Ty) → answer_mask e ps ≡ 0 → as_result ret (answer_mask e ps) ≡ 0
    cut None z = refl
    cut (Some t) z = ap (λ m. m % 2 ^ width_of t) z ∙ zero-mod (2 ^ width_of t)

    by_external : (e : Option External) → answer_mask e ps ≡ 0
    by_external None = refl
    by_external (Some (Word f n)) =
        ap (λ m. word_mask f (bits_of n) (word_at 0 ps).value m (word_at 1 ps).value (word_at 1 ps).mask (word_at 2 ps).value (word_at 2 ps).mask) (mask_at 0 ps c)
        ∙ ap (λ m. word_mask f (bits_of n) (word_at 0 ps).value 0 (word_at 1 ps).value m (word_at 2 ps).value (word_at 2 ps).mask) (mask_at 1 ps c)
        ∙ ap (λ m. word_mask f (bits_of n) (word_at 0 ps).value 0 (word_at 1 ps).value 0 (word_at 2 ps).value m) (mask_at 2 ps c)
        ∙ word_clean f (bits_of n) (word_at 0 ps).value (word_at 1 ps).value (word_at 2 ps).value
    by_external (Some e) = refl
