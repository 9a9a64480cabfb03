-- The mask and the origin of a result that is one word, as words that inserted code computes (after Stepanov and
-- Serebryany, CGO 2015; own in this exact form).
use Rattle.std.specs.Prelude.{ℕ, ◌-◌, ◌^◌, eqb, List, [], ◌∷◌, if◌then◌else◌, Option, Some}
use Rattle.ms_bits.specs.declared.operations.BinOp.{BinOp}
use Rattle.ms_bits.specs.declared.operations.CastOp.{CastOp}
use Rattle.ms_bits.specs.declared.operations.Pred.{Pred}
use Rattle.ms_bits.specs.declared.word_functions.WordFn.{WordFn}
use Rattle.ms_bits.specs.declared.word_functions.WordFn.TheVariants as word
use Rattle.ms_bits.specs.declared.word_functions.BitMove.{BitMove}
use Rattle.ms_bits.specs.WordFunctions.{places, move_fn, move_width}
use Rattle.ms_bits.specs.WordFunctions.{bits_of as width_bits}
use Rattle.ms_ir.specs.declared.calls.External.{External}
use Rattle.ms_ir.specs.declared.calls.External.TheVariants as external
use Rattle.ms_ir.specs.Names.{lookup, externals}
use Rattle.ms_ir.specs.declared.syntax.Ty.{Ty, Int}
use Rattle.ms_ir.specs.declared.syntax.Op.{Op}
use Rattle.ms_ir.specs.declared.syntax.Op.TheVariants as op
use Rattle.ms_ir.specs.Layout.{width_of}
use Rattle.ms_bits.specs.declared.operations.BinOp.TheVariants as binary
use Rattle.ms_bits.specs.declared.operations.CastOp.TheVariants as cast
use Rattle.ms_bits.specs.declared.operations.Pred.TheVariants as pred
use Rattle.ms_pass_tasks.specs.Tasks.{Expr, And, Or, Xor, Sub, Two, Turn, Test, Pick}
use Rattle.ms_pass_tasks.specs.Environments.{mask_type, Tracked, tracked_at, mask_of, origin_of, word_of, widened, is_zero, extended_mask, joined, unknown, number, is_set, bits_of}

-- ---- masks: v and u are the words of two operands and m and k their masks

-- a bit is poisoned where it is in either word: of `xor`
abbrev pub union_expr : Ty → (m k : Expr) → Expr
union_expr t m k = Two Or t m k

-- a bit is poisoned where it or a lower one is in a union of masks: of sums, products and addresses
abbrev pub carry_expr : Ty → (union : Expr) → Expr
carry_expr t union = Two Or t union (Two Sub t (number 0) union)

-- a bit is poisoned where both are, or one is and the other word has a defined 1
abbrev pub and_expr : Ty → (v m u k : Expr) → Expr
and_expr t v m u k = Two And t (Two And t (Two Or t v m) (Two Or t u k)) (Two Or t m k)

-- a bit is poisoned where both are, or one is and the other word has a defined 0
abbrev pub or_expr : ℕ → (v m u k : Expr) → Expr
or_expr w v m u k =
    Two And (Int w)
    (Two And (Int w) (Two Or (Int w) (Two Xor (Int w) v (number (2 ^ w - 1))) m) (Two Or (Int w) (Two Xor (Int w) u (number (2 ^ w - 1))) k))
    (Two Or (Int w) m k)

-- the greatest completion of a word
abbrev pub greatest_expr : ℕ → (v m : Expr) → Expr
greatest_expr w v m = Two Or (Int w) v m

-- the least completion of a word
abbrev pub least_expr : ℕ → (v m : Expr) → Expr
least_expr w v m = Two Xor (Int w) (Two Or (Int w) v m) m

-- an ordered comparison is poisoned where the least and the greatest completions answer differently
abbrev pub order_expr : Pred → ℕ → (v m u k : Expr) → Expr
order_expr p w v m u k =
    Two Xor (Int 1) (Test p (Int w) (least_expr w v m) (greatest_expr w u k)) (Test p (Int w) (greatest_expr w v m) (least_expr w u k))

-- a comparison by `eq` or `ne` is poisoned where no bit that is defined in both words differs and some bit is poisoned
abbrev pub eq_expr : ℕ → (v m u k : Expr) → Expr
eq_expr w v m u k =
    Two And (Int 1)
    (Test pred.Eq (Int w) (Two Or (Int w) (Two Xor (Int w) v u) (Two Or (Int w) m k)) (Two Or (Int w) m k))
    (is_set (Int w) (Two Or (Int w) m k))

-- a word with its sign bit turned, by which signed words are ordered as unsigned ones are
abbrev pub turned_expr : ℕ → Expr → Expr
turned_expr w v = Two Xor (Int w) v (number (2 ^ (w - 1)))

-- the mask of a comparison
abbrev pub compare_expr : Pred → ℕ → (v m u k : Expr) → Expr
compare_expr pred.Eq w v m u k = eq_expr w v m u k
compare_expr pred.Ne w v m u k = eq_expr w v m u k
compare_expr pred.Ugt w v m u k = order_expr pred.Ult w u k v m
compare_expr pred.Uge w v m u k = order_expr pred.Ule w u k v m
compare_expr pred.Ult w v m u k = order_expr pred.Ult w v m u k
compare_expr pred.Ule w v m u k = order_expr pred.Ule w v m u k
compare_expr pred.Sgt w v m u k = order_expr pred.Ult w (turned_expr w u) k (turned_expr w v) m
compare_expr pred.Sge w v m u k = order_expr pred.Ule w (turned_expr w u) k (turned_expr w v) m
compare_expr pred.Slt w v m u k = order_expr pred.Ult w (turned_expr w v) m (turned_expr w u) k
compare_expr pred.Sle w v m u k = order_expr pred.Ule w (turned_expr w v) m (turned_expr w u) k

-- with a defined condition the mask of what is chosen, else each bit that differs or is poisoned in one; t is the
-- condition, and n its mask
abbrev pub select_expr : ℕ → (t n v m u k : Expr) → Expr
select_expr w t n v m u k =
    Pick n (Int w) (Two Or (Int w) (Two Or (Int w) (Two Xor (Int w) v u) m) k) (Pick t (Int w) m k)

-- the same cast of the mask, where pointers are numbers
abbrev pub cast_expr : CastOp → (w to : ℕ) → Expr → Expr
cast_expr cast.Trunc w to m = Turn cast.Trunc (Int w) m (Int to)
cast_expr cast.Zext w to m = Turn cast.Zext (Int w) m (Int to)
cast_expr cast.Sext w to m = Turn cast.Sext (Int w) m (Int to)
cast_expr cast.PtrToInt w to m = if eqb to 64 then m else Turn cast.Trunc (Int w) m (Int to)
cast_expr cast.IntToPtr w to m = widened w m
cast_expr cast.Bitcast w to m = m

-- of a sum or a product, and of an address, whose base's mask has 64 bits: a mask that is known to be 0 is left out
abbrev pub sum_expr : ℕ → List Tracked → Expr
sum_expr w ts = carry_expr (Int w) (joined (Int w) mask_of (unknown ts))

abbrev pub address_expr : List Tracked → Expr
address_expr ts = carry_expr (Int 64) (joined (Int 64) extended_mask (unknown ts))

-- the mask of an operation, but a shift's: of a division the dividend's
abbrev pub binary_expr : BinOp → ℕ → Tracked → Tracked → Expr
binary_expr binary.And w a b = and_expr (Int w) (word_of a) (mask_of a) (word_of b) (mask_of b)
binary_expr binary.Or w a b = or_expr w (word_of a) (mask_of a) (word_of b) (mask_of b)
binary_expr binary.Xor w a b = union_expr (Int w) (mask_of a) (mask_of b)
binary_expr binary.Add w a b = sum_expr w (a ∷ b ∷ [])
binary_expr binary.Sub w a b = sum_expr w (a ∷ b ∷ [])
binary_expr binary.Mul w a b = sum_expr w (a ∷ b ∷ [])
binary_expr _ w a b = mask_of a

-- ---- masks of functions of whole words

-- every bit, where some bit of a mask is set
abbrev pub whole_expr : ℕ → (u : Expr) → Expr
whole_expr w u = Pick (Test pred.Eq (Int w) u (number 0)) (Int w) (number 0) (number (2 ^ w - 1))

-- all places of a count, where it isn't known
abbrev pub count_expr : ℕ → (known : Expr) → Expr
count_expr w known = Pick known (Int w) (number 0) (number (2 ^ places w - 1))

abbrev pub ctpop_expr : ℕ → (m : Expr) → Expr
ctpop_expr w m = count_expr w (Test pred.Eq (Int w) m (number 0))

abbrev pub ctlz_expr : ℕ → (v m : Expr) → Expr
ctlz_expr w v m = count_expr w (Test pred.Ule (Int w) m (least_expr w v m))

abbrev pub cttz_expr : ℕ → (v m : Expr) → Expr
cttz_expr w v m =
    count_expr w
    (Test pred.Eq (Int w) (Two And (Int w) (Two And (Int w) (greatest_expr w v m) (Two Sub (Int w) (number 0) (greatest_expr w v m))) m) (number 0))

-- each bit in which two words may differ
abbrev pub either_expr : ℕ → (v m u k : Expr) → Expr
either_expr w v m u k = Two Or (Int w) (Two Or (Int w) (Two Xor (Int w) v u) m) k

abbrev pub greater_expr : ℕ → (v m u k : Expr) → Expr
greater_expr w v m u k =
    Pick (Test pred.Ule (Int w) (greatest_expr w u k) (least_expr w v m)) (Int w) m
    (Pick (Test pred.Ule (Int w) (greatest_expr w v m) (least_expr w u k)) (Int w) k (either_expr w v m u k))

abbrev pub smaller_expr : ℕ → (v m u k : Expr) → Expr
smaller_expr w v m u k =
    Pick (Test pred.Ule (Int w) (greatest_expr w u k) (least_expr w v m)) (Int w) k
    (Pick (Test pred.Ule (Int w) (greatest_expr w v m) (least_expr w u k)) (Int w) m (either_expr w v m u k))

abbrev pub abs_expr : ℕ → (v m : Expr) → Expr
abs_expr w v m =
    Pick (Test pred.Uge (Int w) m (number (2 ^ (w - 1)))) (Int w) (carry_expr (Int w) (greatest_expr w v m))
    (Pick (Test pred.Uge (Int w) v (number (2 ^ (w - 1)))) (Int w) (carry_expr (Int w) m) m)

-- the mask of what a function of whole words answers, of operands a, b and c; where it moves bits alone, it gives the mask
-- itself
abbrev pub word_expr : WordFn → ℕ → (a b c : Tracked) → Expr
word_expr word.Ctpop w a b c = ctpop_expr w (mask_of a)
word_expr word.Ctlz w a b c = ctlz_expr w (word_of a) (mask_of a)
word_expr word.Cttz w a b c = cttz_expr w (word_of a) (mask_of a)
word_expr word.Abs w a b c = abs_expr w (word_of a) (mask_of a)
word_expr word.Smax w a b c = greater_expr w (turned_expr w (word_of a)) (mask_of a) (turned_expr w (word_of b)) (mask_of b)
word_expr word.Smin w a b c = smaller_expr w (turned_expr w (word_of a)) (mask_of a) (turned_expr w (word_of b)) (mask_of b)
word_expr word.Umax w a b c = greater_expr w (word_of a) (mask_of a) (word_of b) (mask_of b)
word_expr word.Umin w a b c = smaller_expr w (word_of a) (mask_of a) (word_of b) (mask_of b)
word_expr word.UaddSat w a b c = whole_expr w (union_expr (Int w) (mask_of a) (mask_of b))
word_expr word.UsubSat w a b c = whole_expr w (union_expr (Int w) (mask_of a) (mask_of b))
word_expr word.SaddSat w a b c = whole_expr w (union_expr (Int w) (mask_of a) (mask_of b))
word_expr word.SsubSat w a b c = whole_expr w (union_expr (Int w) (mask_of a) (mask_of b))
word_expr f w a b c = mask_of a

-- a mask, or every bit where an amount isn't known
abbrev pub known_expr : ℕ → (amount : Tracked) → (m : Expr) → Expr
known_expr w amount m = if is_zero amount.mask then m else Pick (is_set (Int w) (mask_of amount)) (Int w) (number (2 ^ w - 1)) m

-- what a function that moves bits takes to give its mask: masks in place of words, with the amount as it is
abbrev pub moved_args : WordFn → ℕ → (a b c : Tracked) → List (Ty × Expr)
moved_args word.Fshl w a b c = (Int w, known_expr w c (mask_of a)) ∷ (Int w, known_expr w c (mask_of b)) ∷ (Int w, word_of c) ∷ []
moved_args word.Fshr w a b c = (Int w, known_expr w c (mask_of a)) ∷ (Int w, known_expr w c (mask_of b)) ∷ (Int w, word_of c) ∷ []
moved_args f w a b c = (Int w, mask_of a) ∷ []

abbrev pub move_args : BitMove → List Tracked → List (Ty × Expr)
move_args k ts = moved_args (move_fn k) (width_bits (move_width k)) (tracked_at 0 ts) (tracked_at 1 ts) (tracked_at 2 ts)

-- the mask of what an external answers
abbrev pub answer_expr : Option External → List Tracked → Expr
answer_expr (Some (external.Word f n)) ts = word_expr f (width_bits n) (tracked_at 0 ts) (tracked_at 1 ts) (tracked_at 2 ts)
answer_expr _ ts = number 0

-- the mask of a result that is one word
abbrev pub mask_expr : Op → List Tracked → Expr
mask_expr (op.Binary o f t a b) ts = binary_expr o (width_of t) (tracked_at 0 ts) (tracked_at 1 ts)
mask_expr (op.Icmp p f t a b) ts =
    compare_expr p (width_of t) (bits_of (tracked_at 0 ts)) (mask_of (tracked_at 0 ts)) (bits_of (tracked_at 1 ts)) (mask_of (tracked_at 1 ts))
mask_expr (op.Cast o f t a u) ts = cast_expr o (width_of t) (width_of u) (mask_of (tracked_at 0 ts))
mask_expr (op.Select c t a b) ts =
    select_expr (width_of t) (word_of (tracked_at 0 ts)) (mask_of (tracked_at 0 ts))
    (bits_of (tracked_at 1 ts)) (mask_of (tracked_at 1 ts)) (bits_of (tracked_at 2 ts)) (mask_of (tracked_at 2 ts))
mask_expr (op.Gep t a is) ts = address_expr ts
mask_expr (op.Call ret callee args) ts = answer_expr (lookup externals callee) ts
mask_expr _ ts = number 0

-- ---- origins

-- the origin of the last operand whose mask isn't 0, else the one given
abbrev pub last_expr : List Tracked → Expr → Expr
last_expr [] best = best
last_expr (t ∷ ts) best = last_expr ts (Pick (is_set (mask_type t.ty) (mask_of t)) (Int 32) (origin_of t) best)

-- the origin of the last operand whose mask isn't 0, else the first operand's
abbrev pub first_last : List Tracked → Expr
first_last [] = number 0
first_last (t ∷ ts) = last_expr ts (origin_of t)

-- the origin of what an external answers
abbrev pub answer_origin_expr : Option External → List Tracked → Expr
answer_origin_expr (Some (external.Word f n)) ts = first_last ts
answer_origin_expr _ ts = number 0

-- the origin of a result that is one word: of `select` the condition's where this is poisoned, else that of what is
-- chosen
abbrev pub origin_expr : Op → List Tracked → Expr
origin_expr (op.Binary o f t a b) ts = first_last ts
origin_expr (op.Icmp p f t a b) ts = first_last ts
origin_expr (op.Cast o f t a u) ts = first_last ts
origin_expr (op.Select c t a b) ts =
    Pick (mask_of (tracked_at 0 ts)) (Int 32) (origin_of (tracked_at 0 ts))
    (Pick (word_of (tracked_at 0 ts)) (Int 32) (origin_of (tracked_at 1 ts)) (origin_of (tracked_at 2 ts)))
origin_expr (op.Gep t a is) ts = first_last ts
origin_expr (op.Call ret callee args) ts = answer_origin_expr (lookup externals callee) ts
origin_expr _ ts = number 0
