-- The mask and the origin of each kind of result.
use Rattle.std.proofs.Common.{◌≡◌, ℕ, ◌+◌, ◌^◌, ◌<◌, List, [], refl, sym, subst, arith, Bool, true, false, Option, Some, None}
use Rattle.std.specs.Prelude.{if◌then◌else◌, map, is_some}
use Rattle.std.proofs.lemmas.Bool.{false≢true}
use Rattle.std.proofs.Math.Nat.{zero-mod}
use Rattle.ms_bits.specs.declared.operations.BinOp.TheVariants as binary
use Rattle.ms_bits.specs.declared.word_functions.BitMove.{BitMove}
use Rattle.ms_bits.specs.declared.traps.Trap.TheVariants as trap
use Rattle.ms_ir.specs.declared.syntax.Name.{Name}
use Rattle.ms_ir.specs.declared.syntax.Ty.{Ty}
use Rattle.ms_ir.specs.declared.syntax.Operand.{Operand}
use Rattle.ms_ir.specs.declared.syntax.Op.{Op}
use Rattle.ms_ir.specs.declared.syntax.Op.TheVariants as op
use Rattle.ms_runs.specs.declared.runs.End.{End}
use Rattle.ms_runs.specs.declared.runs.End.TheVariants as «end»
use Rattle.ms_ir.specs.Layout.{stored_size, width_of}
use Rattle.ms_runs.specs.World.{World, Setting, Here, Gives, Does, Goes, Enters, Ends, Leaves, traps, stuck, word}
use Rattle.ms_runs.specs.Memory.{is_good, store_number}
use Rattle.ms_ir.specs.Instructions.{operands, count_undefs, external_named}
use Rattle.ms_runs.specs.Act.{store}
use Rattle.ms_runs.specs.Poisoned.{Poisoned}
use Rattle.ms_runs.specs.Masks.{by_formulas, result_mask, answer_mask, as_result}
use Rattle.ms_runs.specs.Shadow.{poisoned_result}
use Rattle.ms_pass_tasks.specs.Tasks.{mask_name, origin_name}
use Rattle.ms_pass_tasks.specs.Meaning.{Values}
use Rattle.ms_pass_tasks.specs.Environments.{Env, tracked}
use Rattle.ms_pass_tasks.specs.ResultTasks.{define_tasks, called_tasks, answer_tasks, external_move, result_tasks}
use Rattle.ms_ir.specs.declared.calls.External.TheVariants.{Word}
use Rattle.ms_ir.specs.Names.{lookup, externals}
use Rattle.ms_pass_tasks.proofs.WordMasks.{WordFits, no_move}
use Rattle.ms_pass_tasks.specs.Known.{AnswersWord, FitsCallee, IsBuilt, KnownName, KnownOperands, KnownResult, OneName}
use Rattle.ms_pass_tasks.specs.Match.{RangedWorld, RangedValues, Matches}
use Rattle.ms_pass_tasks.specs.InstructionLaw.{GoesOn, CallsOutside, IsOutside}
use Rattle.ms_pass_tasks.proofs.MatchedNames.{matches_set}
use Rattle.ms_pass_tasks.proofs.Defined.{words_for, acts_for, Defined, Fine, clean_kept}
use Rattle.ms_pass_tasks.proofs.DefineWords.{word_done, answer_done, move_done, shift_done}
use Rattle.ms_pass_tasks.proofs.Externals.{external_goes}
use Rattle.ms_ir.specs.declared.calls.External.{External}
use Rattle.ms_runs.specs.Externals.{external}
use Rattle.ms_pass_tasks.proofs.DefineLoad.{load_done}

-- what some instructions never come to
goes_gives : (to : Name) (w : World) (k : ℕ) (z u : World) → Goes to w ≡ Gives k u → ⊥
goes_gives to w k z u e = grind arith

ends_gives : (x : End) (w : World) (k : ℕ) (z u : World) → Ends x w ≡ Gives k u → ⊥
ends_gives x w k z u e = grind arith

pub store_gives : (site a : ℕ) (t : Ty) (n k : ℕ) (w u : World) → store site a t n w ≡ Gives k u → ⊥
store_gives site a t n k w u e = by_good (is_good w a (stored_size t)) e
  where
    by_good : (b : Bool) → (if b then Does (store_number a (stored_size t) n w) else traps trap.BadAddress site w) ≡ Gives k u → ⊥
    by_good true e = grind arith
    by_good false e = grind arith

pub ret_gives : (b : Bool) (e : End) (k : ℕ) (w u : World) → (if b then Ends e w else Leaves w) ≡ Gives k u → ⊥
ret_gives true e k w u f = grind arith
ret_gives false e k w u f = grind arith

-- what a call outside answers has the mask 0
pub outside_clean : (func : Name → Option ℕ) (o : Op) → CallsOutside func o → (ps : List Poisoned) (w : World) → result_mask by_formulas o ps w ≡ 0
outside_clean func (op.Call ret callee args) c ps w = by_external (is_some (func callee)) (lookup externals callee) c
  where
    by_answer : (ret : Option Ty) → as_result ret 0 ≡ 0
    by_answer None = refl
    by_answer (Some t) = zero-mod (2 ^ width_of t)

    by_external : (b : Bool) (e : Option External) → IsOutside (if b then None else e) → as_result ret (answer_mask e ps) ≡ 0
    by_external true e c = absurd c
    by_external false None c = absurd c
    by_external false (Some (Word f n)) c = absurd c
    by_external false (Some e) c = by_answer ret
outside_clean func _ c ps w = absurd c

module _ (s : Setting) (env : Env) (size : ℕ) (h : Here) (values : Name → Poisoned) (v : Values) (m : Matches env values v.names) (r : RangedValues values)
    (one : OneName env) where
  -- nothing is defined, since there is no result
  none_done : (x : Option Name) (o : Op) → (CallsOutside s.func o → ⊥) → (w : World) → ((k : ℕ) (u : World) → acts_for s values h o w ≡ Gives k u → ⊥) → Defined s env h values v x o [] w
  none_done x o out w never = Fine v refl refl (λ y own. refl) (λ k u e. absurd (never k u e)) (λ c. absurd (out c)) (λ g. m)

  -- a call: an external answers, and a function of the module comes to no answer yet
  own_gives : (site : ℕ) (o : Option ℕ) (e : Option External) (types : List Ty) (words : List ℕ) (w : World) → is_some o ≡ true → (k : ℕ) (u : World)
      → elim o [ Some f ↦ Enters f w | None ↦ elim e [ Some x ↦ external s site x types words w | None ↦ Ends stuck w ] ] ≡ Gives k u → ⊥
  own_gives site None e types words w t k u g = absurd (grind arith)
  own_gives site (Some f) e types words w t k u g = grind arith

  outside_goes : (site : ℕ) (o : Option ℕ) (e : Option External) (x : Name) (args : List (Ty × Operand)) → FitsCallee e (Some x) args → (types : List Ty) (words : List ℕ) (w : World) → is_some o ≡ false
      → GoesOn (elim o [ Some f ↦ Enters f w | None ↦ elim e [ Some x ↦ external s site x types words w | None ↦ Ends stuck w ] ]) → ⊥
  outside_goes site (Some f) e x args b types words w t g = absurd (grind arith)
  outside_goes site None None x args b types words w t g = g
  outside_goes site None (Some e) x args b types words w t g = external_goes s site e types words w b.1 g

  called_done : (x : Name) (k : KnownName env size x) → env.clean x ≡ false → (ret : Option Ty) (callee : Name) (args : List (Ty × Operand))
      → FitsCallee (external_named s.func callee) (Some x) args → AnswersWord (external_named s.func callee) ret → KnownOperands env size args → h.root + count_undefs args < 2 ^ 32 → (w : World)
      → Defined s env h values v (Some x) (op.Call ret callee args)
      (called_tasks (is_some (s.func callee)) k.place (op.Call ret callee args) (tracked env h.root args)) w
  called_done x k c ret callee args built answers known few w = by_own (is_some (s.func callee)) refl
    where
      words_fit : (b : Bool) (e : Option External) → b ≡ false → FitsCallee (if b then None else e) (Some x) args → AnswersWord (if b then None else e) ret → WordFits e ret args
      words_fit true e f built answers = absurd (false≢true (sym f))
      words_fit false None f built answers = tt
      words_fit false (Some (Word g n)) f built answers = (built.0, answers)
      words_fit false (Some e) f built answers = tt

      by_own : (b : Bool) → is_some (s.func callee) ≡ b
          → Defined s env h values v (Some x) (op.Call ret callee args) (called_tasks b k.place (op.Call ret callee args) (tracked env h.root args)) w
      by_own true e = none_done (Some x) (op.Call ret callee args) (λ o. subst (λ b. IsOutside (if b then None else lookup externals callee)) e o) w (λ i u g. own_gives h.site (s.func callee) (external_named s.func callee) (map (λ a. a.0) args) (map (λ p. p.value) (words_for s values h (op.Call ret callee args))) w e i u g)
      by_own false e = by_move (external_move (lookup externals callee)) refl
        where
          never : GoesOn (acts_for s values h (op.Call ret callee args) w) → ⊥
          never g = outside_goes h.site (s.func callee) (external_named s.func callee) x args built (map (λ a. a.0) args) (map (λ p. p.value) (words_for s values h (op.Call ret callee args))) w e g

          fits : WordFits (lookup externals callee) ret args
          fits = words_fit (is_some (s.func callee)) (lookup externals callee) e built answers

          -- an external that moves bits is a function of whole words
          from_external : (j : BitMove) (q : Option External) → lookup externals callee ≡ q → external_move q ≡ Some j
              → Defined s env h values v (Some x) (op.Call ret callee args)
              (answer_tasks (mask_name k.place) (origin_name k.place) (Some j) (op.Call ret callee args) (tracked env h.root args)) w
          from_external j (Some (Word g n)) found moves =
              move_done s env size h values v m r one x k c ret callee args g n j found moves (subst (λ q. WordFits q ret args) found fits) known few w never
          from_external j None found moves = absurd (no_move j moves)
          from_external j (Some q) found moves = absurd (no_move j moves)

          by_move : (j : Option BitMove) → external_move (lookup externals callee) ≡ j
              → Defined s env h values v (Some x) (op.Call ret callee args)
              (answer_tasks (mask_name k.place) (origin_name k.place) j (op.Call ret callee args) (tracked env h.root args)) w
          by_move None moves = answer_done s env size h values v m r one x k c (op.Call ret callee args) fits moves known few w never
          by_move (Some j) moves = from_external j (lookup externals callee) refl moves

  define_done : (x : Name) (k : KnownName env size x) → env.clean x ≡ false → (o : Op) → IsBuilt s.func (Some x) o → KnownOperands env size (operands o)
      → h.root + count_undefs (operands o) < 2 ^ 32 → (w : World) → RangedWorld w
      → Defined s env h values v (Some x) o (define_tasks s.func k.place o (tracked env h.root (operands o))) w
  define_done x k c (op.Binary binary.Shl f t a b) built known few w ranged = shift_done s env size h values v m r one x k c binary.Shl tt f t a b built known few w
  define_done x k c (op.Binary binary.Lshr f t a b) built known few w ranged = shift_done s env size h values v m r one x k c binary.Lshr tt f t a b built known few w
  define_done x k c (op.Binary binary.Ashr f t a b) built known few w ranged = shift_done s env size h values v m r one x k c binary.Ashr tt f t a b built known few w
  define_done x k c (op.Binary o f t a b) built known few w ranged = word_done s env size h values v m r one x k c (op.Binary o f t a b) tt tt refl known few w
  define_done x k c (op.Icmp p f t a b) built known few w ranged = word_done s env size h values v m r one x k c (op.Icmp p f t a b) built tt refl known few w
  define_done x k c (op.Cast o f t a u) built known few w ranged = word_done s env size h values v m r one x k c (op.Cast o f t a u) built tt refl known few w
  define_done x k c (op.Select i t a b) built known few w ranged = word_done s env size h values v m r one x k c (op.Select i t a b) tt tt refl known few w
  define_done x k c (op.Freeze t a) built known few w ranged = word_done s env size h values v m r one x k c (op.Freeze t a) tt tt refl known few w
  define_done x k c (op.Gep t a is) built known few w ranged = word_done s env size h values v m r one x k c (op.Gep t a is) tt tt refl known few w
  define_done x k c (op.Alloca t u i) built known few w ranged = word_done s env size h values v m r one x k c (op.Alloca t u i) tt tt refl known few w
  define_done x k c (op.Load t a) built known few w ranged = load_done s env size h values v m r one x k c t a known w ranged
  define_done x k c (op.Store t n a) built known few w ranged = none_done (Some x) (op.Store t n a) (λ o. o) w (λ i u e.
      let words = map (λ p. p.value) (words_for s values h (op.Store t n a)) in store_gives h.site (word 1 words) t (word 0 words) i w u e)
  define_done x k c (op.Ret n) built known few w ranged = none_done (Some x) (op.Ret n) (λ o. o) w (λ i u e. ret_gives h.main («end».Exit (word 0 (map (λ p. p.value) (words_for s values h (op.Ret n))))) i w u e)
  define_done x k c (op.Br to) built known few w ranged = none_done (Some x) (op.Br to) (λ o. o) w (λ i u e. goes_gives _ _ i w u e)
  define_done x k c (op.CondBr i to other) built known few w ranged = none_done (Some x) (op.CondBr i to other) (λ o. o) w (λ j u e. goes_gives _ _ j w u e)
  define_done x k c (op.Switch t i other cases) built known few w ranged = none_done (Some x) (op.Switch t i other cases) (λ o. o) w (λ j u e. goes_gives _ _ j w u e)
  define_done x k c op.Unreachable built known few w ranged = none_done (Some x) op.Unreachable (λ o. o) w (λ j u e. ends_gives _ _ j w u e)
  define_done x k c (op.Call ret callee args) built known few w ranged = called_done x k c ret callee args built.0 built.2 known few w
  define_done x k c (op.Phi t es) built known few w ranged = absurd built

  -- where the result is known to be clean, its mask must be 0 already
  pub result_done : (x : Option Name) (o : Op) → IsBuilt s.func x o → KnownResult env size x → KnownOperands env size (operands o)
      → h.root + count_undefs (operands o) < 2 ^ 32 → (w : World) → RangedWorld w
      → ((y : Name) (k : ℕ) (u : World) → x ≡ Some y → env.clean y ≡ true → acts_for s values h o w ≡ Gives k u
      → (poisoned_result by_formulas o (words_for s values h o) k u).mask ≡ 0)
      → Defined s env h values v x o (result_tasks s.func env x o (tracked env h.root (operands o))) w
  result_done None o built named known few w ranged sound = Fine v refl refl (λ y own. refl) (λ k u e. m) (λ c k u. m) (λ g. m)
  result_done (Some x) o built named known few w ranged sound = by_clean (env.clean x) refl
    where
      by_clean : (b : Bool) → env.clean x ≡ b
          → Defined s env h values v (Some x) o (if b then [] else elim (env.number x) [ Some n ↦ define_tasks s.func n o (tracked env h.root (operands o)) | None ↦ [] ]) w
      by_clean true c =
          Fine v refl refl (λ y own. refl)
          (λ k u e. matches_set env size x named one values v.names v.names (poisoned_result by_formulas o (words_for s values h o) k u) m
          (clean_kept env x named.place named.numbered c v.names _ _ (sound x k u refl c e)))
          (λ outside k u. matches_set env size x named one values v.names v.names (poisoned_result by_formulas o (words_for s values h o) k u) m
          (clean_kept env x named.place named.numbered c v.names _ _ (outside_clean s.func o outside (words_for s values h o) u)))
          (λ g. m)
      by_clean false c =
          subst (λ z. Defined s env h values v (Some x) o (elim z [ Some n ↦ define_tasks s.func n o (tracked env h.root (operands o)) | None ↦ [] ]) w)
          (sym named.numbered) (define_done x named c o built known few w ranged)
