-- What a call says of a single instruction is enough for its lists.
use Rattle.std.proofs.Common.{◌≡◌, ℕ, ◌+◌, ◌*◌, ◌<◌, ◌≤◌, ◌^◌, List, [], ◌∷◌, false, Option, Some, None, length, map, refl, sym, ap, ◌∙◌, arith}
use Rattle.std.specs.Prelude.{is_some, slice_get, unwrap_or, option_map}
use Rattle.std.specs.BTreeMap.{BTreeMap}
use Rattle.std.proofs.Math.Path.{ap₂, fun_ext}
use Rattle.std.proofs.lemmas.List.{length-map}
use Rattle.ms_ir.specs.declared.syntax.Name.{Name}
use Rattle.ms_ir.specs.declared.syntax.Name.TheVariants.{Number}
use Rattle.ms_ir.specs.declared.syntax.Operand.{Operand}
use Rattle.ms_ir.specs.declared.syntax.Op.{Op}
use Rattle.ms_ir.specs.declared.syntax.Op.TheVariants as op
use Rattle.ms_ir.specs.declared.syntax.Inst.{Inst}
use Rattle.ms_ir.specs.declared.syntax.Func.{Func}
use Rattle.ms_ir.specs.declared.syntax.Module.{Module}
use Rattle.ms_ir.specs.declared.calls.External.{External}
use Rattle.ms_ir.specs.Instructions.{external_named, func_at, is_phi, operands}
use Rattle.ms_ir.specs.Locals.{function_names, values}
use Rattle.ms_ir.specs.Names.{name_eq, main_name}
use Rattle.ms_runs.specs.World.{Here}
use Rattle.ms_runs_good_laws.proofs.Counted.{counted_within}
use Rattle.ms_check_valid.specs.Formed.{Formed}
use Rattle.ms_check_valid.specs.Uninstrumented.{CanInstrument}
use Rattle.ms_check_valid.specs.Valid.{Valid}
use Rattle.ms_check_tables.specs.FirstPlace.{first_place}
use Rattle.ms_check_tables.proofs.Tied.{func_index_is}
use Rattle.ms_pass_tasks.specs.Environments as environments
use Rattle.ms_pass_tasks.specs.Environments.{Given}
use Rattle.ms_pass_tasks.specs.Emit.{after_tasks, before_tasks, emit_tasks, start}
use Rattle.ms_pass_tasks.specs.PlaneTasks.{saved_by, saves}
use Rattle.ms_pass_tasks.specs.Tasks.{InsertedCode, tasks_code}
use Rattle.ms_pass_tasks.specs.PassLists.{emit_lists, emit_op}
use Rattle.ms_pass_laws.specs.Numbers.{values_at}
use Rattle.ms_pass_form_laws.proofs.Costs.{written_append}
use Rattle.ms_pass_form_laws.proofs.CostSum.{lists_cost}
use Rattle.ms_pass_form_laws.proofs.PlainModules.{plain_module}
use Rattle.ms_rules_builder.specs.Called.{called_external}
use Rattle.ms_rules_builder.specs.Made.{with_tasks}
use Rattle.ms_rules.specs.declared.single.Env.{Env}
use Rattle.ms_rules.specs.Around.{saved_for}
use Rattle.ms_rules.specs.Singles.{env_in, env_named, given_in, here_in, is_clean, operands_in, StandsIn}
use Rattle.ms_rules.specs.Taken.{IsTaken}
use Rattle.ms_rules.specs.Valued.{value_names}
use Rattle.ms_rules.proofs.Growth.{round_grows, tasks_grow}
use Rattle.ms_rules.proofs.TakenInsts.{inst_taken}
use Rattle.ms_rules.proofs.ValueNames.{value_place, names_are}

-- ---- how many numbers the lists take

module _ (given : Given) (env : environments.Env) (h : Here) (i : Inst) (n : ℕ) where
  pub lists_low : (emit_lists given env h i n).next ≤ n + 200 + 55 * length (operands i.op)
  lists_low =
      let x = emit_op given env h i n i.op in
      omega (arith, (round_grows given env h i n i.op).few, written_append x.before (i ∷ x.after), lists_cost given env h i n i.op refl)

  by_op : (o : Op) → is_phi o ≡ false → emit_tasks given env h i n ≡ emit_op given env h i n o
  by_op (op.Phi t es) plain = absurd cc
  by_op _ plain = refl

  -- the lists round an instruction that is no phi
  pub plain_lists : is_phi i.op ≡ false → emit_tasks given env h i n ≡ emit_lists given env h i n
  plain_lists plain = by_op i.op plain

-- an operation keeps a number by what it calls
saves_are : (func : Name → Option ℕ) (o : Op) → saves func o ≡ saved_for (called_external func o)
saves_are func (op.Call ret callee args) = by_external (external_named func callee)
  where
    by_external : (e : Option External) → (elim e as (λ w. ℕ) [ Some x ↦ saved_by x | None ↦ 0 ]) ≡ saved_for e
    by_external None = refl
    by_external (Some x) = refl
saves_are func _ = refl

module _ (given : Given) (env : environments.Env) (h : Here) (i : Inst) (n : ℕ) (plain : is_phi i.op ≡ false) where
  -- the number after the list before the instruction
  abbrev pub between : ℕ
  between = (tasks_code (before_tasks given env h i n) (start given i n)).next

  pub between_low : between ≤ n + 200 + 55 * length (operands i.op)
  between_low =
      let grows : between ≤ (emit_tasks given env h i n).next = (tasks_grow (after_tasks given env h i n) between).more in
      let same : (emit_tasks given env h i n).next ≡ (emit_lists given env h i n).next = ap (λ l. l.next) (plain_lists given env h i n plain) in
      omega (arith, grows, same, lists_low given env h i n)

  pub after_low : (made : InsertedCode) → made.next ≡ (emit_tasks given env h i n).next → made.next ≤ n + 200 + 55 * length (operands i.op)
  after_low made is =
      let same : (emit_tasks given env h i n).next ≡ (emit_lists given env h i n).next = ap (λ l. l.next) (plain_lists given env h i n plain) in
      omega (arith, is, same, lists_low given env h i n)

  -- what is made before the instruction ends there
  pub between_is : (saved : ℕ) (external : Option External) (first kept made : InsertedCode) → first ≡ record { code = []; next = n } → saved ≡ first.next
      → kept ≡ record { code = first.code; next = first.next + saved_for external } → called_external given.func i.op ≡ external → made ≡ with_tasks kept (before_tasks given env h i saved)
      → made.next ≡ between
  between_is saved external first kept made begun numbered kept_is called made_is =
      ap (λ c. c.next) made_is
      ∙ ap₂ (λ s k. (tasks_code (before_tasks given env h i s) k).next) (numbered ∙ ap (λ c. c.next) begun)
      (ap (λ c. c.next) kept_is ∙ ap₂ (λ a b. a + b) (ap (λ c. c.next) begun) (sym (saves_are given.func i.op ∙ ap saved_for called)))

  -- and what is made after it begins there
  pub after_is : (saved from : ℕ) (first made : InsertedCode) → saved ≡ n → from ≡ between → first ≡ record { code = []; next = from } → made ≡ with_tasks first (after_tasks given env h i saved)
      → made.next ≡ (emit_tasks given env h i n).next
  after_is saved from first made saved_is from_is begun made_is =
      ap (λ c. c.next) made_is ∙ ap₂ (λ s k. (tasks_code (after_tasks given env h i s) k).next) saved_is (ap (λ c. c.next) begun ∙ from_is)

-- ---- the place of the instruction

module _ (m : Module) (func : ℕ) (i : Inst) (site root : ℕ) (stands : StandsIn m func i site root) where
  -- its function is there
  pub func_there : func_at m func ≡ None → ⊥
  func_there none =
      let gone : Some i ≡ None = sym stands.is ∙ ap (λ o. slice_get (unwrap_or (option_map (λ k. k.insts) (slice_get (unwrap_or (option_map (λ g. g.blocks) o) []) stands.block)) []) stands.place) none in
      cc

  pub single_taken : Formed m → Valid m → CanInstrument m → IsTaken m.types i
  single_taken formed valid can = inst_taken m (plain_module m formed valid can) func stands.block stands.place i stands.is

  module _ (f : Func) (at : func_at m func ≡ Some f) where
    pub single_fits : CanInstrument m → (n : ℕ) → n < 2 ^ 31 → n + 200 + 55 * length (operands i.op) < 2 ^ 32
    single_fits can n low = omega (arith, low, can.operands, counted_within (λ k. length (operands k.op)) m func f stands.block stands.place i at stands.is)

-- ---- the function

module _ (m : Module) (func : ℕ) (f : Func) (at : func_at m func ≡ Some f) where
  values_are : values_at m func ≡ values f
  values_are = ap (λ o. unwrap_or (option_map values o) []) at

  pub single_few : (n : ℕ) → 2 * length (values_at m func) + 1 ≤ n → n < 2 ^ 31 → length (value_names f) ≤ 2 ^ 30
  single_few n above below =
      let same : length (value_names f) ≡ length (values_at m func) = ap length (sym (names_are f)) ∙ length-map (values f) (λ v. v.0) ∙ ap length (sym values_are) in
      omega (arith, above, below, same)

  -- its values are numbered by their names
  pub single_env : (env : Env) → env_named (value_names f) env.values ≡ env_in m func env
  single_env env =
      let by : (Name → Option ℕ) → environments.Env = λ number. record (env_in m func env) { number = number } in
      ap by (fun_ext (λ x. sym (value_place (values_at m func) x ∙ ap (λ names. first_place names x) (ap (map (λ v. v.0)) values_are ∙ names_are f))))

  pub single_here : (env : Env) → (let h : Here = record { site = env.site; root = env.root; main = name_eq f.name main_name } in h) ≡ here_in m func env
  single_here env =
      let by : Name → Here = λ x. record { site = env.site; root = env.root; main = name_eq x main_name } in
      ap by (sym (ap (λ o. unwrap_or (option_map (λ g. g.name) o) (Number 0)) at))

pub single_given : (m : Module) → (let g : Given = record { types = m.types; func = first_place (function_names m) } in g) ≡ given_in m
single_given m = let by : (Name → Option ℕ) → Given = λ func. record { types = m.types; func = func } in ap by (fun_ext (λ x. sym (func_index_is m.funcs x)))

-- how the values of a function are numbered, as tables have them
pub env_seen : (f : Func) (values : BTreeMap Name (Operand × Operand)) (names clean : List Name) → names ≡ value_names f → ((x : Name) → is_some (first_place clean x) ≡ is_clean (operands_in values x))
    → (let e : environments.Env = record { number = first_place names; clean = λ x. is_some (first_place clean x) } in e) ≡ env_named (value_names f) values
env_seen f values names clean named known =
    ap₂ {C = environments.Env} (λ number tells. record { number = number; clean = tells }) (ap first_place named) (fun_ext known)
