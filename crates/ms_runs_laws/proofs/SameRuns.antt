-- Rules that agree on words in range give the same runs.
use Rattle.std.proofs.Common.{◌≡◌, ℕ, ◌+◌, ◌-◌, ◌^◌, ◌<◌, List, [], ◌∷◌, refl, ap}
use Rattle.std.specs.Prelude.{map}
use Rattle.std.proofs.lemmas.Nat.{mod_below, pow_pos, or_lt}
use Rattle.std.proofs.lemmas.Nat.Bits.{bit_at-lt}
use Rattle.ms_bits.specs.declared.operations.BinOp.{BinOp}
use Rattle.ms_bits.specs.declared.operations.BinOp.TheVariants.{Add, Sub, Mul, Udiv, Sdiv, Urem, Srem, Shl, Lshr, Ashr, And, Or, Xor}
use Rattle.ms_ir.specs.declared.syntax.Name.{Name}
use Rattle.ms_ir.specs.declared.syntax.Ty.{Ty}
use Rattle.ms_ir.specs.declared.syntax.Ty as ty
use Rattle.ms_ir.specs.declared.syntax.Operand.{Operand}
use Rattle.ms_ir.specs.declared.syntax.Operand.TheVariants as operand
use Rattle.ms_ir.specs.declared.syntax.Op.{Op}
use Rattle.ms_ir.specs.declared.syntax.Op.TheVariants as op
use Rattle.ms_ir.specs.declared.syntax.Inst.{Inst}
use Rattle.ms_ir.specs.declared.syntax.Module.{Module}
use Rattle.ms_runs.specs.declared.runs.Setup.{Setup}
use Rattle.ms_bits.specs.Fill.{undef_bit, undef_word_of}
use Rattle.ms_bits.specs.Signed.{signed}
use Rattle.ms_bits_laws.proofs.OperationAgreement.{wrap-lt}
use Rattle.ms_bits_laws.proofs.MaskFunctions.{number_fits}
use Rattle.ms_bits_laws.proofs.WordAgreement.{ones_less}
use Rattle.ms_ir.specs.Layout.{width_of, extended}
use Rattle.ms_runs.specs.World.{World, Setting, Here, Effect, Gives, Does, Goes, Enters, Leaves, Ends}
use Rattle.ms_ir.specs.Instructions.{operands, count_undefs, one_undef}
use Rattle.ms_runs.specs.Control.{Frame, here, rest_of, read_all, keeping, after_effect}
use Rattle.ms_runs.specs.Act.{operand_word, act, extended_all}
use Rattle.ms_runs.specs.Plain.{run, setting_of, start_world, start_frame}
use Rattle.ms_runs.specs.Poisoned.{Poisoned, InRange}
use Rattle.ms_runs.specs.Masks.{Rules, SameRules, union, binary_mask, result_mask, result_origin}
use Rattle.ms_runs.specs.Shadow.{read_poisoned, shadow_reading, operand_mask, planes, poisoned_result, shadow_act, after_checks, shadow_first, shadow_frames, shadow_moved, ShadowState, shadow_step, shadow_by}

-- ---- words that are read are in range

pub undef_fits : (fill : List ℕ) (w : ℕ) → undef_word_of fill w < 2 ^ w
unfolding undef_word_of undef_bit
undef_fits fill w = number_fits _ (λ i. bit_at-lt _ _) w

word_fits : (s : Setting) (v : Name → ℕ) (w : ℕ) (o : Operand) → operand_word s v w o < 2 ^ w
word_fits s v w (operand.Int n) = mod_below _ _ (pow_pos w)
word_fits s v w operand.Null = mod_below _ _ (pow_pos w)
word_fits s v w operand.Undef = undef_fits s.fill w
word_fits s v w operand.Poison = undef_fits s.fill w
word_fits s v w (operand.Local x) = mod_below _ _ (pow_pos w)
word_fits s v w (operand.Global x) = mod_below _ _ (pow_pos w)
word_fits s v w (operand.Offset x steps) = mod_below _ _ (pow_pos w)

mask_fits : (v : Name → Poisoned) (w : ℕ) (o : Operand) → operand_mask v w o < 2 ^ w
mask_fits v w (operand.Int n) = pow_pos w
mask_fits v w operand.Null = pow_pos w
mask_fits v w operand.Undef = ones_less w
mask_fits v w operand.Poison = ones_less w
mask_fits v w (operand.Local x) = mod_below _ _ (pow_pos w)
mask_fits v w (operand.Global x) = pow_pos w
mask_fits v w (operand.Offset x steps) = pow_pos w

pub read_fits : (s : Setting) (v : Name → Poisoned) (root : ℕ) (t : Ty) (o : Operand) → InRange (width_of t) (read_poisoned s v root t o)
read_fits s v root t o = record { value = word_fits s _ (width_of t) o; mask = mask_fits v (width_of t) o }

-- ---- the same masks

same_binary : {d e : Rules} → SameRules d e → (o : BinOp) (w : ℕ) (p q : Poisoned) → InRange w p → InRange w q → binary_mask d o w p q ≡ binary_mask e o w p q
same_binary same Add w p q a b = same.sum w _ (or_lt w p.mask q.mask a.mask b.mask)
same_binary same Sub w p q a b = same.sum w _ (or_lt w p.mask q.mask a.mask b.mask)
same_binary same Mul w p q a b = same.sum w _ (or_lt w p.mask q.mask a.mask b.mask)
same_binary same Udiv w p q a b = refl
same_binary same Sdiv w p q a b = refl
same_binary same Urem w p q a b = refl
same_binary same Srem w p q a b = refl
same_binary same Shl w p q a b = refl
same_binary same Lshr w p q a b = refl
same_binary same Ashr w p q a b = refl
same_binary same And w p q a b = same.both w p q a b
same_binary same Or w p q a b = same.either w p q a b
same_binary same Xor w p q a b = same.one w p q a b

pub union_fits : (is : List (Ty × Operand)) (masks : List ℕ) → union (extended_all is masks) < 2 ^ 64
union_fits [] masks = pow_pos 64
union_fits (i ∷ is) [] = pow_pos 64
union_fits (i ∷ is) (m ∷ masks) = or_lt 64 (extended (width_of i.0) m) (union (extended_all is masks)) (wrap-lt 64 (signed (width_of i.0) m)) (union_fits is masks)

-- the words of an instruction
abbrev words_of : Setting → (Name → Poisoned) → ℕ → Op → List Poisoned
words_of s v n o = read_all (read_poisoned s v) (operands o) n

same_mask : {d e : Rules} → SameRules d e → (s : Setting) (v : Name → Poisoned) (n : ℕ) (o : Op) (w : World) → result_mask d o (words_of s v n o) w ≡ result_mask e o (words_of s v n o) w
same_mask same s v n (op.Binary o f t a b) w = same_binary same o (width_of t) _ _ (read_fits s v n t a) (read_fits s v (n + one_undef a) t b)
same_mask same s v n (op.Icmp p f t a b) w = same.compare p (width_of t) _ _ (read_fits s v n t a) (read_fits s v (n + one_undef a) t b)
same_mask same s v n (op.Cast o f t a u) w = refl
same_mask same s v n (op.Select c t a b) w = same.select (width_of t) _ _ _ (read_fits s v n (ty.Int 1) c) (read_fits s v (n + one_undef c) t a) (read_fits s v (n + one_undef c + one_undef a) t b)
same_mask same s v n (op.Freeze t a) w = refl
same_mask same s v n (op.Phi t es) w = refl
same_mask same s v n (op.Alloca t u c) w = refl
same_mask same s v n (op.Load t a) w = refl
same_mask same s v n (op.Store t x a) w = refl
same_mask same s v n (op.Gep t a is) w = same.sum 64 _ (or_lt 64 _ _ (read_fits s v n ty.Ptr a).mask (union_fits is _))
same_mask same s v n (op.Call r x as') w = refl
same_mask same s v n (op.Br to) w = refl
same_mask same s v n (op.CondBr c to other) w = refl
same_mask same s v n (op.Switch t x other cases) w = refl
same_mask same s v n (op.Ret x) w = refl
same_mask same s v n op.Unreachable w = refl

-- ---- the same runs

pub same_result : {d e : Rules} → SameRules d e → (s : Setting) (v : Name → Poisoned) (n : ℕ) (o : Op) → poisoned_result d o (words_of s v n o) ≡ poisoned_result e o (words_of s v n o)
same_result same s v n o = λ i x w. record { value = x; mask = same_mask same s v n o w i; origin = result_origin o (words_of s v n o) (same_mask same s v n o w i) w }

same_act : {d e : Rules} → SameRules d e → (s : Setting) (m : Module) (i : Inst) (h : Here) (fr : Frame Poisoned) (below : List (Frame Poisoned)) (w : World)
    → shadow_act d s m i h (words_of s fr.values h.root i.op) fr below w ≡ shadow_act e s m i h (words_of s fr.values h.root i.op) fr below w
same_act same s m i h fr below w =
    ap (λ lift. after_effect shadow_reading s m h.site i.result (words_of s fr.values h.root i.op) lift
    (planes s h.site (h.root + count_undefs (operands i.op) + 1) i.op (words_of s fr.values h.root i.op) w)
    (keeping i.op (act s h i.op (map (λ p. p.value) (words_of s fr.values h.root i.op)) w) fr) below (act s h i.op (map (λ p. p.value) (words_of s fr.values h.root i.op)) w))
    (same_result same s fr.values h.root i.op)

pub same_after : {d e : Rules} → SameRules d e → (s : Setting) (m : Module) (i : Inst) (h : Here) (fr : Frame Poisoned) (below : List (Frame Poisoned)) (x : Effect)
    → after_checks d s m i h (words_of s fr.values h.root i.op) fr below x ≡ after_checks e s m i h (words_of s fr.values h.root i.op) fr below x
same_after same s m i h fr below (Does w) = same_act same s m i h fr below _
same_after same s m i h fr below (Gives v w) = refl
same_after same s m i h fr below (Goes x w) = refl
same_after same s m i h fr below (Enters f w) = refl
same_after same s m i h fr below (Leaves w) = refl
same_after same s m i h fr below (Ends x w) = refl

same_first : {d e : Rules} → SameRules d e → (s : Setting) (m : Module) (is : List Inst) (fr : Frame Poisoned) (below : List (Frame Poisoned)) (w : World) → shadow_first d s m is fr below w ≡ shadow_first e s m is fr below w
same_first same s m [] fr below w = refl
same_first same s m (i ∷ is) fr below w = same_after same s m i (here s m fr) fr below _

same_frames : {d e : Rules} → SameRules d e → (s : Setting) (m : Module) (fs : List (Frame Poisoned)) (w : World) → shadow_frames d s m fs w ≡ shadow_frames e s m fs w
same_frames same s m [] w = refl
same_frames same s m (fr ∷ below) w = same_first same s m (rest_of m fr) fr below w

pub same_step : {d e : Rules} → SameRules d e → (s : Setting) (m : Module) (c : ShadowState) → shadow_step d s m c ≡ shadow_step e s m c
same_step same s m c = ap shadow_moved (same_frames same s m c.frames c.world)

pub same_shadow : {d e : Rules} → SameRules d e → (m : Module) (s : Setup) → shadow_by d m s ≡ shadow_by e m s
same_shadow same m s =
    ap (λ step. run (λ c. c.world) step s.steps (record { frames = start_frame shadow_reading m ∷ []; world = start_world m s }))
    (λ i c. shadow_moved (same_frames same (setting_of m s) m c.frames c.world i))
