-- A step of a shadow run looks at the limit of reports, and whether each use is reported once, in its checks alone.
use Rattle.std.proofs.Common.{◌≡◌, ℕ, ◌+◌, List, ◌∷◌, Bool, Option, Some, None, refl, ap, ◌∙◌, map}
use Rattle.ms_ir.specs.declared.syntax.Name.{Name}
use Rattle.ms_ir.specs.declared.syntax.Operand.{Operand}
use Rattle.ms_ir.specs.declared.syntax.Operand.TheVariants as operand
use Rattle.ms_ir.specs.declared.syntax.Op.{Op}
use Rattle.ms_ir.specs.declared.syntax.Op.TheVariants as op
use Rattle.ms_ir.specs.declared.syntax.Inst.{Inst}
use Rattle.ms_ir.specs.declared.syntax.Module.{Module}
use Rattle.ms_ir.specs.declared.calls.External.{External}
use Rattle.ms_ir.specs.declared.calls.External.TheVariants.{Malloc, Calloc, Realloc, Free, Memcpy, Memmove, Memset, Memcmp, Strlen, Putchar, Puts, Getchar, Read, Write, Exit, Abort, LlvmMemcpy, LlvmMemmove, LlvmMemset, LifetimeStart, LifetimeEnd, Printf, LlvmTrap, LlvmAssume, LlvmObjectSize, PthreadCreate, PthreadJoin, SchedYield}
use Rattle.ms_ir.specs.declared.calls.External.TheVariants as called
use Rattle.ms_ir.specs.Layout.{width_of}
use Rattle.ms_ir.specs.Instructions.{operands, count_undefs, external_named, root_at, block_index, blocks_at, insts_at}
use Rattle.ms_runs.specs.World.{World, Setting, Here, Effect, Gives, Does, Goes, Enters, Leaves, Ends}
use Rattle.ms_runs.specs.Act.{operand_word, act}
use Rattle.ms_runs.specs.Control.{Frame, On, phis, count_phis, block_name, keeping, after_effect}
use Rattle.ms_runs.specs.Poisoned.{Poisoned, clean}
use Rattle.ms_runs.specs.Masks.{by_formulas}
use Rattle.ms_runs.specs.Shadow.{read_poisoned, shadow_reading, operand_mask, operand_origin, external_planes, callee_planes, planes, poisoned_result, shadow_act}
use Rattle.ms_runs_fills_laws.proofs.LimitFree.{relimited, act_free}

module _ (s : Setting) (k : ℕ) (each : Bool) where
  abbrev other : Setting
  other = relimited s k each

  external_planes_free : (site root : ℕ) (e : External) (ps : List Poisoned) (before : World) (v : ℕ) (w : World) → external_planes other site root e ps before v w ≡ external_planes s site root e ps before v w
  external_planes_free site root Malloc ps before v w = refl
  external_planes_free site root Calloc ps before v w = refl
  external_planes_free site root Realloc ps before v w = refl
  external_planes_free site root Free ps before v w = refl
  external_planes_free site root Memcpy ps before v w = refl
  external_planes_free site root Memmove ps before v w = refl
  external_planes_free site root Memset ps before v w = refl
  external_planes_free site root Memcmp ps before v w = refl
  external_planes_free site root Strlen ps before v w = refl
  external_planes_free site root Putchar ps before v w = refl
  external_planes_free site root Puts ps before v w = refl
  external_planes_free site root Getchar ps before v w = refl
  external_planes_free site root Read ps before v w = refl
  external_planes_free site root Write ps before v w = refl
  external_planes_free site root Exit ps before v w = refl
  external_planes_free site root Abort ps before v w = refl
  external_planes_free site root LlvmMemcpy ps before v w = refl
  external_planes_free site root LlvmMemmove ps before v w = refl
  external_planes_free site root LlvmMemset ps before v w = refl
  external_planes_free site root LifetimeStart ps before v w = refl
  external_planes_free site root LifetimeEnd ps before v w = refl
  external_planes_free site root LlvmTrap ps before v w = refl
  external_planes_free site root LlvmAssume ps before v w = refl
  external_planes_free site root LlvmObjectSize ps before v w = refl
  external_planes_free site root PthreadCreate ps before v w = refl
  external_planes_free site root PthreadJoin ps before v w = refl
  external_planes_free site root SchedYield ps before v w = refl
  external_planes_free site root Printf ps before v w = refl
  external_planes_free site root (called.Word f n) ps before v w = refl

  callee_planes_free : (site root : ℕ) (o : Option External) (ps : List Poisoned) (before : World) (v : ℕ) (w : World) → callee_planes other site root o ps before v w ≡ callee_planes s site root o ps before v w
  callee_planes_free site root None ps before v w = refl
  callee_planes_free site root (Some e) ps before v w = external_planes_free site root e ps before v w

  planes_free : (site root : ℕ) (o : Op) (ps : List Poisoned) (before : World) (v : ℕ) (w : World) → planes other site root o ps before v w ≡ planes s site root o ps before v w
  planes_free site root (op.Alloca t u c) ps before v w = refl
  planes_free site root (op.Store t x a) ps before v w = refl
  planes_free site root (op.Call r x args) ps before v w = callee_planes_free site root (external_named s.func x) ps before v w
  planes_free site root _ ps before v w = refl

  word_free : (values : Name → ℕ) (w : ℕ) (o : Operand) → operand_word other values w o ≡ operand_word s values w o
  word_free values w (operand.Int n) = refl
  word_free values w operand.Null = refl
  word_free values w operand.Undef = refl
  word_free values w operand.Poison = refl
  word_free values w (operand.Local x) = refl
  word_free values w (operand.Global x) = refl
  word_free values w (operand.Offset x steps) = refl

  pub read_free : (values : Name → Poisoned) → read_poisoned other values ≡ read_poisoned s values
  read_free values = λ i root t o. record { value = word_free (λ x. (values x).value) (width_of t) o i; mask = operand_mask values (width_of t) o; origin = operand_origin values root o }

  module _ (m : Module) where
    moves_free : (site : ℕ) (x : Option Name) (ps : List Poisoned) (lift : ℕ → World → Poisoned) (after : ℕ → World → World) (fr : Frame Poisoned) (below : List (Frame Poisoned)) (e : Effect)
        → after_effect shadow_reading other m site x ps lift after fr below e ≡ after_effect shadow_reading s m site x ps lift after fr below e
    moves_free site x ps lift after fr below (Gives v w) = refl
    moves_free site x ps lift after fr below (Does w) = refl
    moves_free site x ps lift after fr below (Goes to w) =
        ap (λ read. On (record fr {
          block = block_index (blocks_at m fr.func) to;
          place = count_phis (insts_at m fr.func (block_index (blocks_at m fr.func) to));
          values =
              phis read clean s.func (block_name m fr.func fr.block) (insts_at m fr.func (block_index (blocks_at m fr.func) to))
              (root_at s.func m fr.func (block_index (blocks_at m fr.func) to) 0) fr.values;
        } ∷ below) w) (read_free fr.values)
    moves_free site x ps lift after fr below (Enters f w) = refl
    moves_free site x ps lift after fr below (Leaves w) = refl
    moves_free site x ps lift after fr below (Ends e w) = refl

    pub act_same : (i : Inst) (h : Here) (ps : List Poisoned) (fr : Frame Poisoned) (below : List (Frame Poisoned)) (w : World) → shadow_act by_formulas other m i h ps fr below w ≡ shadow_act by_formulas s m i h ps fr below w
    act_same i h ps fr below w =
        ap (λ after. after_effect shadow_reading other m h.site i.result ps (poisoned_result by_formulas i.op ps) after (keeping i.op (act other h i.op (map (λ p. p.value) ps) w) fr) below (act other h i.op (map (λ p. p.value) ps) w))
        (λ j v u. planes_free h.site (h.root + count_undefs (operands i.op) + 1) i.op ps w v u j)
        ∙ ap (λ e. after_effect shadow_reading other m h.site i.result ps (poisoned_result by_formulas i.op ps) (planes s h.site (h.root + count_undefs (operands i.op) + 1) i.op ps w) (keeping i.op e fr) below e)
        (act_free s k each h i.op (map (λ p. p.value) ps) w)
        ∙ moves_free h.site i.result ps (poisoned_result by_formulas i.op ps) (planes s h.site (h.root + count_undefs (operands i.op) + 1) i.op ps w) (keeping i.op (act s h i.op (map (λ p. p.value) ps) w) fr) below (act s h i.op (map (λ p. p.value) ps) w)
