-- The blind count: what its task comes to, also where it is left out.
use Rattle.std.proofs.Common.{◌≡◌, ℕ, ◌+◌, ◌^◌, ◌<◌, ◌≤◌, List, [], ◌∷◌, ◌++◌, refl, sym, ap, ◌∙◌, subst, arith, Bool, true, false, Option, Some, None}
use Rattle.std.specs.Prelude.{if◌then◌else◌, eqb, map, take, drop, bit_or, ◌&&◌}
use Rattle.std.proofs.Math.Path.{ap₂}
use Rattle.std.proofs.Math.Pow.{pow_mono}
use Rattle.std.proofs.lemmas.Bool.{false≢true}
use Rattle.ms_bits.specs.declared.operations.BinOp.{BinOp}
use Rattle.ms_bits.specs.declared.operations.BinOp.TheVariants as binary
use Rattle.ms_bits.specs.declared.operations.CastOp.TheVariants as cast
use Rattle.ms_bits.specs.Conversions.{cast_of}
use Rattle.ms_ir.specs.declared.syntax.Name.{Name}
use Rattle.ms_ir.specs.declared.syntax.Ty.{Ty, Int}
use Rattle.ms_ir.specs.declared.syntax.Operand.{Operand}
use Rattle.ms_ir.specs.declared.syntax.Op.{Op}
use Rattle.ms_ir.specs.declared.syntax.Op.TheVariants as op
use Rattle.ms_ir.specs.declared.calls.RuntimeFn.TheVariants as function
use Rattle.ms_ir.specs.Layout.{width_of}
use Rattle.ms_runs.specs.World.{World, Setting, Here}
use Rattle.ms_runs.specs.Origins.{count_blind}
use Rattle.ms_ir.specs.Instructions.{one_undef, external_named}
use Rattle.ms_runs.specs.Control.{read_all}
use Rattle.ms_runs.specs.Act.{operand_word}
use Rattle.ms_runs.specs.Poisoned.{Poisoned}
use Rattle.ms_runs.specs.Masks.{union}
use Rattle.ms_runs.specs.Uses.{blinded, blind_binary, flagged_words, has_flag, has_true_flag}
use Rattle.ms_bits.specs.WordFunctions.{is_flagged}
use Rattle.ms_ir.specs.declared.calls.External.{External}
use Rattle.ms_ir.specs.declared.calls.External.TheVariants.{Word}
use Rattle.ms_runs.specs.Shadow.{read_poisoned}
use Rattle.ms_pass_tasks.specs.Tasks.{Leaf, Turn, Task, Calls}
use Rattle.ms_pass_tasks.specs.Meaning.{Values, do_tasks}
use Rattle.ms_pass_tasks.specs.Environments.{Env, Tracked, tracked, is_zero, widened, widened_mask}
use Rattle.ms_pass_tasks.specs.CheckTasks.{blind_binary_of, blinded_of, all_zero, union_masks, blind_tasks}
use Rattle.ms_pass_tasks.specs.Known.{KnownOperands}
use Rattle.ms_pass_tasks.specs.Match.{Matches}
use Rattle.ms_pass_tasks.proofs.OperandWords.{word_less, mask_known}
use Rattle.ms_pass_tasks.proofs.CheckTasks.{zero_word}
use Rattle.ms_pass_tasks.proofs.JoinedWords.{AllMake, joined_is}
use Rattle.ms_pass_tasks.proofs.Words.{Is, is_eval, is_leaf}

pub blinded_same : (func : Name → Option ℕ) (o : Op) (ps : List Poisoned) → blinded func o ps ≡ blinded_of func o ps
blinded_same func (op.Binary o f t a b) ps = by_op o
  where
    by_op : (o : BinOp) → (if has_flag f then ps else blind_binary o ps) ≡ (if has_flag f then ps else blind_binary_of o ps)
    by_op _ = refl
blinded_same func _ ps = refl

-- masks of words of at most 64 bits
pub record HoldsMask (s : Setting) (names : Name → ℕ) (t : Tracked) (p : Poisoned) : Type 0 where
  pub mask : operand_word s names (width_of t.ty) t.mask ≡ p.mask
  pub narrow : width_of t.ty ≤ 64

-- the same of all operands
abbrev pub AllMasks : Setting → (Name → ℕ) → List Tracked → List Poisoned → Type 0
AllMasks s names [] [] = Unit {0}
AllMasks s names (t ∷ ts) (p ∷ ps) = HoldsMask s names t p × AllMasks s names ts ps
AllMasks s names [] (p ∷ ps) = ⊥
AllMasks s names (t ∷ ts) [] = ⊥

pub masks_hold : (s : Setting) (env : Env) (size : ℕ) (values : Name → Poisoned) (names : Name → ℕ) → Matches env values names → (os : List (Ty × Operand)) (root : ℕ) → KnownOperands env size os
    → AllMasks s names (tracked env root os) (read_all (read_poisoned s values) os root)
masks_hold s env size values names m [] root k = tt
masks_hold s env size values names m (o ∷ os) root k = (
  record { mask = mask_known s env size values names m (width_of o.0) o.1 k.1; narrow = k.0 },
  masks_hold s env size values names m os (root + one_undef o.1) k.2,
)

module _ (s : Setting) (names : Name → ℕ) where
  either : (b : Bool) (ts us : List Tracked) (ps qs : List Poisoned) → AllMasks s names ts ps → AllMasks s names us qs → AllMasks s names (if b then ts else us) (if b then ps else qs)
  either true ts us ps qs h g = h
  either false ts us ps qs h g = g

  first_one : (ts : List Tracked) (ps : List Poisoned) → AllMasks s names ts ps → AllMasks s names (take 1 ts) (take 1 ps)
  first_one [] [] h = tt
  first_one [] (p ∷ ps) h = absurd h
  first_one (t ∷ ts) [] h = absurd h
  first_one (t ∷ ts) (p ∷ ps) h = (h.0, tt)

  later_ones : (ts : List Tracked) (ps : List Poisoned) → AllMasks s names ts ps → AllMasks s names (drop 1 ts) (drop 1 ps)
  later_ones [] [] h = tt
  later_ones [] (p ∷ ps) h = absurd h
  later_ones (t ∷ ts) [] h = absurd h
  later_ones (t ∷ ts) (p ∷ ps) h = h.1

  binary_blinded : (o : BinOp) (ts : List Tracked) (ps : List Poisoned) → AllMasks s names ts ps → AllMasks s names (blind_binary_of o ts) (blind_binary_of o ps)
  binary_blinded binary.Udiv ts ps h = first_one ts ps h
  binary_blinded binary.Sdiv ts ps h = first_one ts ps h
  binary_blinded binary.Urem ts ps h = first_one ts ps h
  binary_blinded binary.Srem ts ps h = first_one ts ps h
  binary_blinded binary.Shl ts ps h = later_ones ts ps h
  binary_blinded binary.Lshr ts ps h = later_ones ts ps h
  binary_blinded binary.Ashr ts ps h = later_ones ts ps h
  binary_blinded _ ts ps h = tt

  pub masks_blinded : (func : Name → Option ℕ) (o : Op) (ts : List Tracked) (ps : List Poisoned) → AllMasks s names ts ps → AllMasks s names (blinded_of func o ts) (blinded_of func o ps)
  masks_blinded func (op.Binary o f t a b) ts ps h = either (has_flag f) ts (blind_binary_of o ts) ps (blind_binary_of o ps) h (binary_blinded o ts ps h)
  masks_blinded func (op.Icmp p f t a b) ts ps h = either (has_flag f) ts [] ps [] h tt
  masks_blinded func (op.Cast o f t a u) ts ps h = either (has_flag f) ts [] ps [] h tt
  masks_blinded func (op.Freeze t a) ts ps h = h
  masks_blinded func (op.Call ret callee args) ts ps h =
      either (has_true_flag args) (flagged_words (external_named func callee) ts) [] (flagged_words (external_named func callee) ps) [] (by_external (external_named func callee)) tt
    where
      by_external : (e : Option External) → AllMasks s names (flagged_words e ts) (flagged_words e ps)
      by_external None = tt
      by_external (Some (Word f n)) = either (is_flagged f) (take 1 ts) [] (take 1 ps) [] (first_one ts ps h) tt
      by_external (Some e) = tt
  masks_blinded func _ ts ps h = tt

  widened_is : (w : ℕ) (m : Operand) (x : ℕ) → w ≤ 64 → operand_word s names w m ≡ x → Is s names 64 (widened w (Leaf m)) x
  unfolding cast_of
  widened_is w m x le e = by_width (eqb w 64) refl
    where
      by_width : (b : Bool) → eqb w 64 ≡ b → Is s names 64 (if b then Leaf m else Turn cast.Zext (Int w) (Leaf m) (Int 64)) x
      by_width true f = let same : 64 ≡ w = grind arith in is_leaf s names 64 m x (ap (λ i. operand_word s names i m) same ∙ e)
      by_width false f = record { raw = e; less = let l : x < 2 ^ w = subst (λ k. k < 2 ^ w) e (word_less s names w m) in omega (arith, l, pow_mono le) }

  masks_make : (ts : List Tracked) (ps : List Poisoned) → AllMasks s names ts ps → AllMake s names 64 widened_mask ts (map (λ p. p.mask) ps)
  masks_make [] [] h = tt
  masks_make [] (p ∷ ps) h = absurd h
  masks_make (t ∷ ts) [] h = absurd h
  masks_make (t ∷ ts) (p ∷ ps) h = (
    record { word = widened_is (width_of t.ty) t.mask p.mask h.0.narrow h.0.mask; clean = λ z. sym h.0.mask ∙ zero_word s names (width_of t.ty) t.mask z },
    masks_make ts ps h.1,
  )

  pub masks_union : (ts : List Tracked) (ps : List Poisoned) → AllMasks s names ts ps → Is s names 64 (union_masks ts) (union (map (λ p. p.mask) ps))
  masks_union ts ps h = joined_is s names 64 widened_mask ts (map (λ p. p.mask) ps) (masks_make ts ps h)

  zero_union : (ts : List Tracked) (ps : List Poisoned) → AllMasks s names ts ps → all_zero ts ≡ true → union (map (λ p. p.mask) ps) ≡ 0
  zero_union [] [] h e = refl
  zero_union [] (p ∷ ps) h e = absurd h
  zero_union (t ∷ ts) [] h e = absurd h
  zero_union (t ∷ ts) (p ∷ ps) h e = by_first (is_zero t.mask) refl e (zero_union ts ps h.1)
    where
      by_first : (b : Bool) → is_zero t.mask ≡ b → b && all_zero ts ≡ true → (all_zero ts ≡ true → union (map (λ p. p.mask) ps) ≡ 0) → bit_or p.mask (union (map (λ p. p.mask) ps)) ≡ 0
      by_first true f g k = ap₂ bit_or (sym h.0.mask ∙ zero_word s names (width_of t.ty) t.mask f) (k g)
      by_first false f g k = absurd (false≢true g)

pub blind_done : (s : Setting) (h : Here) (v : Values) (ts : List Tracked) (ps : List Poisoned) → AllMasks s v.names ts ps → (rest : List Task) (w : World)
    → do_tasks s h (blind_tasks ts ++ rest) v w ≡ do_tasks s h rest v (count_blind (union (map (λ p. p.mask) ps)) w)
blind_done s h v ts ps masks rest w = by_zero (all_zero ts) refl
  where
    by_zero : (b : Bool) → all_zero ts ≡ b → do_tasks s h ((if b then [] else Calls None function.Blind ((Int 64, union_masks ts) ∷ []) ∷ []) ++ rest) v w ≡ do_tasks s h rest v (count_blind (union (map (λ p. p.mask) ps)) w)
    by_zero true e = ap (λ n. do_tasks s h rest v (count_blind n w)) (sym (zero_union s v.names ts ps masks e))
    by_zero false e = ap (λ n. do_tasks s h rest v (count_blind n w)) (is_eval s v.names (masks_union s v.names ts ps masks))
