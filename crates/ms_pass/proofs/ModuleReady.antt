-- The functions of a module that is formed, valid and can be instrumented.
use Rattle.std.proofs.Common.{◌≡◌, ℕ, ◌+◌, ◌<◌, ◌≤◌, ◌^◌, [], Some, All, length, get_or, ap, ◌∙◌, arith}
use Rattle.std.specs.Prelude.{slice_get, unwrap_or, option_map}
use Rattle.std.proofs.lemmas.Option.{slice_get-get_or}
use Rattle.ms_ir.specs.declared.syntax.Func.{Func}
use Rattle.ms_ir.specs.declared.syntax.Module.{Module}
use Rattle.ms_ir.specs.Instructions.{operands, func_at}
use Rattle.ms_ir.specs.Locals.{function_names}
use Rattle.ms_check_valid.specs.Formed.{Formed}
use Rattle.ms_check_valid.specs.Uninstrumented.{CanInstrument}
use Rattle.ms_check_valid.specs.Valid.{Valid}
use Rattle.ms_check_valid.proofs.SmallNumbers.{funcs_written}
use Rattle.ms_check_tables.specs.FirstPlace.{first_place}
use Rattle.ms_pass_form_laws.proofs.AllReady.{Plain}
use Rattle.ms_pass_form_laws.proofs.PlainModules.{plain_module}
use Rattle.ms_rules.specs.Taken.{IsTaken}
use Rattle.ms_rules.proofs.TakenInsts.{inst_taken}
use Rattle.ms_pass.specs.Counted.{past_funcs, AreSmall}
use Rattle.ms_pass.specs.Passed.{no_counts}
use Rattle.ms_pass.specs.Ready.{IsReady}
use Rattle.ms_runs_good_laws.proofs.Starting.{funcs_few}
use Rattle.ms_pass_laws.proofs.KnownInstructions.{within_funcs}

blocks_taken : (m : Module) → Plain m → (n : ℕ) (f : Func) → func_at m n ≡ Some f → All (λ b. All (IsTaken m.types) b.insts) f.blocks
blocks_taken m plain n f at b d below p i within =
    let block = get_or f.blocks b d in
    inst_taken m plain n b p (get_or block.insts p i)
    (ap (λ o. slice_get (unwrap_or (option_map (λ k. k.insts) (slice_get (unwrap_or (option_map (λ g. g.blocks) o) []) b)) []) p) at
    ∙ ap (λ o. slice_get (unwrap_or (option_map (λ k. k.insts) o) []) p) (slice_get-get_or f.blocks b d below) ∙ slice_get-get_or block.insts p i within)

-- ---- functions

within : (a b c : ℕ) → a ≤ b → b ≤ c → a ≤ c
within a b c l k = omega (arith, l, k)

pub module_ready : (m : Module) → Formed m → Valid m → CanInstrument m → All (IsReady m.types) m.funcs
module_ready m formed valid can n d below =
    let f = get_or m.funcs n d in
    let plain = plain_module m formed valid can in
    let at : func_at m n ≡ Some f = slice_get-get_or m.funcs n d below in
    record {
      taken = blocks_taken m plain n f at;
      params = plain.params n f at;
      instructions = within _ _ _ (within_funcs (λ i. 1) m.funcs n f at) can.instructions;
      operands = within _ _ _ (within_funcs (λ i. length (operands i.op)) m.funcs n f at) can.operands;
    }

pub module_small : (m : Module) → Formed m → AreSmall (past_funcs (first_place (function_names m)) no_counts m.funcs)
module_small m formed = (
  sites _ _ (funcs_written m.funcs) formed.few_operands,
  roots _ _ (funcs_few (first_place (function_names m)) m.funcs) formed.few_operands,
)
  where
    sites : (a b : ℕ) → a ≤ b → b < 2 ^ 30 → 1 + a < 2 ^ 32
    sites a b l k = omega (arith, l, k)

    roots : (a b : ℕ) → a ≤ b → b < 2 ^ 30 → 0 + a < 2 ^ 40
    roots a b l k = omega (arith, l, k)
