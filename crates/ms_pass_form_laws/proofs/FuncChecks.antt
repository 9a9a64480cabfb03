-- How many checks stand in an instrumented function.
use Rattle.std.proofs.Common.{◌≡◌, ℕ, zero, suc, ◌+◌, ◌*◌, List, [], ◌∷◌, ◌++◌, length, Bool, true, false, Some, refl, sym, ap, ◌∙◌, subst, arith}
use Rattle.std.specs.Prelude.{filter, if◌then◌else◌, option_map, slice_get, unwrap_or}
use Rattle.std.specs.List.{list_all}
use Rattle.ms_ir.specs.declared.syntax.Inst.{Inst}
use Rattle.ms_ir.specs.declared.syntax.Block.{Block}
use Rattle.ms_ir.specs.declared.syntax.Func.{Func}
use Rattle.ms_ir.specs.Names.{name_eq, main_name}
use Rattle.ms_ir.specs.Instructions.{operands, over_insts, over_blocks, one_unmarked, roots_in}
use Rattle.ms_runs.specs.Uses.{uses}
use Rattle.ms_runs.specs.World.{Here}
use Rattle.ms_runs_laws.proofs.Numbering.{insts_joined}
use Rattle.ms_check_valid.specs.FormedCode.{is_value_type}
use Rattle.ms_check_valid.specs.Paths.{insts_of}
use Rattle.ms_pass_tasks.specs.Environments.{Env, Given}
use Rattle.ms_pass_tasks.specs.Known.{KnownOperands}
use Rattle.ms_pass_tasks.specs.PassLists.{next_here, pass_insts, emit_op}
use Rattle.ms_pass_tasks.specs.SlotTasks.{take_parameters}
use Rattle.ms_pass_laws.specs.Pass.{Numbering, here_after, pass_blocks, pass_funcs, entry_code, enter_block}
use Rattle.ms_pass_form_laws.specs.Checks.{one_check, check_calls, is_unclean, unclean_uses}
use Rattle.ms_pass_form_laws.proofs.TaskChecks.{tasks_counted}
use Rattle.ms_pass_form_laws.proofs.RoundChecks.{parameters_none, checked, lists_counted}

-- an instruction of a program: it isn't inserted, is no check itself, and has operands that are known and words
pub record Plain (env : Env) (size : ℕ) (i : Inst) : Type 0 where
  pub unmarked : i.marked ≡ false
  pub own : one_check i ≡ 0
  pub reads : KnownOperands env size (operands i.op)
  pub words : list_all (λ o. is_value_type o.0) (operands i.op) ≡ true

-- all instructions of a list, and of blocks
abbrev AllPlain : Env → ℕ → List Inst → Type 0
AllPlain env size is = (p : ℕ) (i : Inst) → slice_get is p ≡ Some i → Plain env size i

abbrev BlocksPlain : Env → ℕ → List Block → Type 0
BlocksPlain env size bs = (b p : ℕ) (i : Inst) → slice_get (unwrap_or (option_map (λ k. k.insts) (slice_get bs b)) []) p ≡ Some i → Plain env size i

-- all instructions of a function
abbrev pub FuncPlain : Numbering → Func → Type 0
FuncPlain numbers f = (b p : ℕ) (i : Inst) → slice_get (insts_of f b) p ≡ Some i → Plain numbers.env numbers.size i

module _ (given : Given) (env : Env) (size : ℕ) where
  unmarked_uses : (main : Bool) (i : Inst) → i.marked ≡ false → unclean_uses env.clean given.func main i ≡ checked given env size main i
  unmarked_uses main i e = ap (λ b. if b then 0 else length (filter (is_unclean env.clean (operands i.op)) (uses given.func main i.op))) e

  code_counted : (is : List Inst) (h : Here) (n : ℕ) → AllPlain env size is → over_insts one_check (pass_insts given env is h n).code ≡ over_insts (unclean_uses env.clean given.func h.main) is
  code_counted [] h n plain = refl
  code_counted (i ∷ is) h n plain =
      let x = emit_op given env h i n i.op in
      let y = pass_insts given env is (next_here given h i) x.next in
      let k = plain 0 i refl in
      sums _ _ _ _ _ _ _ _ _ (insts_joined one_check x.before (i ∷ (x.after ++ y.code))) (insts_joined one_check x.after y.code)
      k.own (lists_counted given env size h i n k.reads k.words i.op refl) (unmarked_uses h.main i k.unmarked)
      (code_counted is (next_here given h i) x.next (λ p j e. plain (suc p) j e))
    where
      sums : (all before own later after code now uses rest : ℕ) → all ≡ before + (own + later) → later ≡ after + code → own ≡ 0 → before + after ≡ uses → now ≡ uses → code ≡ rest → all ≡ now + rest
      sums all before own later after code now uses rest e1 e2 p1 p2 p3 p4 = omega (arith, e1, e2, p1, p2, p3, p4)

  blocks_counted : (bs : List Block) (h : Here) (n : ℕ) → BlocksPlain env size bs → over_blocks one_check (pass_blocks given env bs h n) ≡ over_blocks (unclean_uses env.clean given.func h.main) bs
  blocks_counted [] h n plain = refl
  blocks_counted (b ∷ bs) h n plain =
      let e = code_counted b.insts h n (plain 0) in
      let r = blocks_counted bs (here_after given h b.insts) (pass_insts given env b.insts h n).next (λ c. plain (suc c)) in
      omega (arith, e, r)

entered_counted : (code : List Inst) (bs : List Block) → over_insts one_check code ≡ 0 → over_blocks one_check (enter_block code bs) ≡ over_blocks one_check bs
entered_counted code [] e = refl
entered_counted code (b ∷ bs) e = let j = insts_joined one_check code b.insts in omega (arith, j, e)

func_counted : (given : Given) (numbers : Numbering) (f : Func) (site root : ℕ) → FuncPlain numbers f →
    let h : Here = record { site = site; root = root; main = name_eq f.name main_name } in
    over_blocks one_check (enter_block (entry_code numbers.env f.params (2 * numbers.size + 1)) (pass_blocks given numbers.env f.blocks h (2 * numbers.size + 1)))
    ≡ over_blocks (unclean_uses numbers.env.clean given.func (name_eq f.name main_name)) f.blocks
func_counted given numbers f site root plain =
    let first = 2 * numbers.size + 1 in
    let h : Here = record { site = site; root = root; main = name_eq f.name main_name } in
    entered_counted (entry_code numbers.env f.params first) (pass_blocks given numbers.env f.blocks h first)
    (tasks_counted (take_parameters numbers.env 0 f.params) first ∙ parameters_none numbers.env 0 f.params)
    ∙ blocks_counted given numbers.env numbers.size f.blocks h first plain

-- so in the instrumented form of the function at a place
pub funcs_counted : (given : Given) (numbers : ℕ → Numbering) (fs : List Func) (site root n : ℕ) (f : Func) → slice_get fs n ≡ Some f → FuncPlain (numbers n) f
    → option_map check_calls (slice_get (pass_funcs given numbers fs site root) n) ≡ Some (over_blocks (unclean_uses (numbers n).env.clean given.func (name_eq f.name main_name)) f.blocks)
funcs_counted given numbers [] site root n f at plain = absurd (grind arith)
funcs_counted given numbers (g ∷ fs) site root zero f at plain =
    let same : g ≡ f = ap (λ o. unwrap_or o g) at in
    ap Some (func_counted given (numbers 0) g site root (subst (FuncPlain (numbers 0)) (sym same) plain)
    ∙ ap (λ k. over_blocks (unclean_uses (numbers 0).env.clean given.func (name_eq k.name main_name)) k.blocks) same)
funcs_counted given numbers (g ∷ fs) site root (suc n) f at plain =
    let next : n + 1 ≡ suc n = omega arith in
    funcs_counted given (λ k. numbers (k + 1)) fs (site + over_blocks one_unmarked g.blocks) (root + over_blocks (roots_in given.func) g.blocks) n f at
    (subst (λ k. FuncPlain (numbers k) f) (sym next) plain)
    ∙ ap (λ k. Some (over_blocks (unclean_uses (numbers k).env.clean given.func (name_eq f.name main_name)) f.blocks)) next
