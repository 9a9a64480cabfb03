-- The masks of functions of whole words read only what their operands and numbers are.
use Rattle.std.proofs.Common.{ℕ, ◌-◌, ◌^◌, List, [], ◌∷◌, Bool, true, false, if◌then◌else◌}
use Rattle.ms_bits.specs.declared.word_functions.WordFn.{WordFn}
use Rattle.ms_bits.specs.declared.word_functions.WordFn.TheVariants.{Ctpop, Ctlz, Cttz, Abs, Smax, Smin, Umax, Umin, Fshl, Fshr, UaddSat, UsubSat, SaddSat, SsubSat}
use Rattle.ms_ir.specs.declared.syntax.Ty.{Ty, Int}
use Rattle.ms_ir.specs.declared.syntax.Operand.{Operand}
use Rattle.ms_ir.specs.declared.syntax.Operand.TheVariants as operand
use Rattle.ms_pass_tasks.specs.Tasks.{Expr, Pick}
use Rattle.ms_pass_tasks.specs.Meaning.{Reads}
use Rattle.ms_pass_tasks.specs.Environments.{Tracked, mask_of, word_of, number, is_set, is_zero}
use Rattle.ms_pass_tasks.specs.ResultMasks.{union_expr, turned_expr, whole_expr, ctpop_expr, ctlz_expr, cttz_expr, greater_expr, smaller_expr, abs_expr, word_expr, known_expr, moved_args}

module _ (P : Operand → Type 0) (numbers : (n : ℕ) → P (operand.Int n)) where
  -- a word and its mask
  pub record ReadsWord (a : Tracked) : Type 0 where
    pub own : P a.operand
    pub mask : P a.mask

  whole_reads : (w : ℕ) (m : Expr) → Reads P m → Reads P (whole_expr w m)
  whole_reads w m p = ((p, numbers 0), numbers 0, numbers _)

  ctpop_reads : (w : ℕ) (m : Expr) → Reads P m → Reads P (ctpop_expr w m)
  ctpop_reads w m p = ((p, numbers 0), numbers 0, numbers _)

  ctlz_reads : (w : ℕ) (v m : Expr) → Reads P v → Reads P m → Reads P (ctlz_expr w v m)
  ctlz_reads w v m p q = ((q, ((p, q), q)), numbers 0, numbers _)

  cttz_reads : (w : ℕ) (v m : Expr) → Reads P v → Reads P m → Reads P (cttz_expr w v m)
  cttz_reads w v m p q = (((((p, q), (numbers 0, (p, q))), q), numbers 0), numbers 0, numbers _)

  greater_reads : (w : ℕ) (v m u k : Expr) → Reads P v → Reads P m → Reads P u → Reads P k → Reads P (greater_expr w v m u k)
  greater_reads w v m u k a b c d = (((c, d), ((a, b), b)), b, (((a, b), ((c, d), d)), d, (((a, c), b), d)))

  smaller_reads : (w : ℕ) (v m u k : Expr) → Reads P v → Reads P m → Reads P u → Reads P k → Reads P (smaller_expr w v m u k)
  smaller_reads w v m u k a b c d = (((c, d), ((a, b), b)), d, (((a, b), ((c, d), d)), b, (((a, c), b), d)))

  abs_reads : (w : ℕ) (v m : Expr) → Reads P v → Reads P m → Reads P (abs_expr w v m)
  abs_reads w v m p q = ((q, numbers _), ((p, q), (numbers 0, (p, q))), ((p, numbers _), (q, (numbers 0, q)), q))

  pub word_reads : (f : WordFn) (w : ℕ) (a b c : Tracked) → ReadsWord a → ReadsWord b → ReadsWord c → Reads P (word_expr f w a b c)
  word_reads Ctpop w a b c p q r = ctpop_reads w (mask_of a) p.mask
  word_reads Ctlz w a b c p q r = ctlz_reads w (word_of a) (mask_of a) p.own p.mask
  word_reads Cttz w a b c p q r = cttz_reads w (word_of a) (mask_of a) p.own p.mask
  word_reads Abs w a b c p q r = abs_reads w (word_of a) (mask_of a) p.own p.mask
  word_reads Smax w a b c p q r = greater_reads w (turned_expr w (word_of a)) (mask_of a) (turned_expr w (word_of b)) (mask_of b) (p.own, numbers _) p.mask (q.own, numbers _) q.mask
  word_reads Smin w a b c p q r = smaller_reads w (turned_expr w (word_of a)) (mask_of a) (turned_expr w (word_of b)) (mask_of b) (p.own, numbers _) p.mask (q.own, numbers _) q.mask
  word_reads Umax w a b c p q r = greater_reads w (word_of a) (mask_of a) (word_of b) (mask_of b) p.own p.mask q.own q.mask
  word_reads Umin w a b c p q r = smaller_reads w (word_of a) (mask_of a) (word_of b) (mask_of b) p.own p.mask q.own q.mask
  word_reads UaddSat w a b c p q r = whole_reads w (union_expr (Int w) (mask_of a) (mask_of b)) (p.mask, q.mask)
  word_reads UsubSat w a b c p q r = whole_reads w (union_expr (Int w) (mask_of a) (mask_of b)) (p.mask, q.mask)
  word_reads SaddSat w a b c p q r = whole_reads w (union_expr (Int w) (mask_of a) (mask_of b)) (p.mask, q.mask)
  word_reads SsubSat w a b c p q r = whole_reads w (union_expr (Int w) (mask_of a) (mask_of b)) (p.mask, q.mask)
  word_reads f w a b c p q r = p.mask

  known_reads : (w : ℕ) (c : Tracked) (m : Expr) → ReadsWord c → Reads P m → Reads P (known_expr w c m)
  known_reads w c m r p = by_zero (is_zero c.mask)
    where
      by_zero : (t : Bool) → Reads P (if t then m else Pick (is_set (Int w) (mask_of c)) (Int w) (number (2 ^ w - 1)) m)
      by_zero true = p
      by_zero false = ((r.mask, numbers 0), numbers _, p)

  -- so do those of which a function that moves bits gives the mask
  abbrev pub AllRead : List (Ty × Expr) → Type 0
  AllRead [] = Unit {0}
  AllRead (e ∷ es) = Reads P e.1 × AllRead es

  two_read : (w : ℕ) (a b c : Tracked) → ReadsWord a → ReadsWord b → ReadsWord c → AllRead ((Int w, known_expr w c (mask_of a)) ∷ (Int w, known_expr w c (mask_of b)) ∷ (Int w, word_of c) ∷ [])
  two_read w a b c p q r = (known_reads w c (mask_of a) r p.mask, (known_reads w c (mask_of b) r q.mask, (r.own, tt)))

  pub args_read : (f : WordFn) (w : ℕ) (a b c : Tracked) → ReadsWord a → ReadsWord b → ReadsWord c → AllRead (moved_args f w a b c)
  args_read Fshl w a b c p q r = two_read w a b c p q r
  args_read Fshr w a b c p q r = two_read w a b c p q r
  args_read f w a b c p q r = (p.mask, tt)
