use Rattle.std.proofs.Common.{List, All, option_map, sym, ap, subst, ◌∙◌}
use Rattle.ms_ir.specs.declared.syntax.Name.{Name}
use Rattle.ms_ir.specs.declared.syntax.Module.{Module}
use Rattle.ms_ir.specs.Instructions.{func_at, strip}
use Rattle.ms_ir.specs.Locals.{function_names}
use Rattle.ms_runs.specs.Faithful.{Faithful}
use Rattle.ms_check_valid.specs.Formed.{Formed}
use Rattle.ms_check_valid.specs.Valid.{Valid}
use Rattle.ms_runs_laws.proofs.SameOutput.{faithful_undisturbed}
use Rattle.ms_runs_fills_laws.proofs.Chosen.{checked_holds_chosen}
use Rattle.ms_runs_fills_laws.proofs.Whole.{inserted_fills, checked_holds}
use Rattle.ms_check_tables.specs.FirstPlace.{first_place}
use Rattle.ms_elide.specs.CleanSets.{is_in, IsExact}
use Rattle.ms_pass_laws.proofs.Unmarked.{module_strips}
use Rattle.ms_pass_laws.proofs.Whole.{strip_pass}
use Rattle.ms_pass_form_laws.specs.Checks.{check_calls}
use Rattle.ms_pass_form_laws.specs.Eliding.{eliding, SaysExactly}
use Rattle.ms_pass_form_laws.proofs.CheckCount.{checks_counted}
use Rattle.ms_pass_form_laws.proofs.Elided.{faithful, formed_valid}
use Rattle.ms_pass.specs.Counted.{past_funcs, AreSmall}
use Rattle.ms_pass.specs.Passed.{no_counts, passed_module}
use Rattle.ms_pass.specs.Ready.{IsReady}
use Rattle.ms_pass.proofs.ModuleReady.{module_ready, module_small}
use Rattle.ms_pass.proofs.Numbered.{passed_is}
use Rattle.ms_pass.proofs.instruments.instrumented.Goals as goal

-- a set that is exact says exactly what is clean
says_exactly : (m : Module) (set : List (List Name)) → IsExact m set → SaysExactly m (is_in set)
says_exactly m set exact = record {
  sound = λ n f at x e. (exact.values n f at x).0 e;
  whole = λ n f at x h. (exact.values n f at x).1 h;
}

pub passed_module-requires-clause-ready : goal.passed_module-requires-clause-ready
passed_module-requires-clause-ready g c κs within =
    subst (λ (m : Module). All (IsReady m.types) m.funcs) (sym c.module.ensures) (module_ready c.args.m.now c.law_valid.ensures.formed c.law_valid.ensures.valid c.requires)

pub passed_module-requires-clause-small : goal.passed_module-requires-clause-small
passed_module-requires-clause-small g c κs within =
    subst (λ (m : Module). AreSmall (past_funcs (first_place (function_names m)) no_counts m.funcs)) (sym c.module.ensures) (module_small c.args.m.now c.law_valid.ensures.formed)

pub returns : goal.returns
returns g c =
    let m = c.args.m.now in
    let formed = c.law_valid.ensures.formed in
    let valid = c.law_valid.ensures.valid in
    let j = c.in_ok-module.module in
    let set = c.in_ok-values.values in
    let exact = says_exactly m set c.in_ok-values.ensures.exact in
    let is = passed_is m c.module.result.now j set c.module.ensures c.in_ok-module.ensures in
    let runs : Faithful m j = subst (λ (x : Module). Faithful m x) (sym is) (faithful m formed valid c.requires (is_in set) exact.sound) in
    let both = formed_valid m formed valid c.requires (is_in set) in
    record {
      pass = record { clean = is_in set; exact = exact; is_pass = is };
      checks = record { clean = is_in set; exact = exact; counted = λ n f at. ap (λ k. option_map check_calls (func_at k n)) is ∙ checks_counted m (is_in set) formed valid c.requires n f at };
      faithful = runs;
      stripped = ap strip is ∙ strip_pass (eliding (is_in set) m) m (module_strips m c.requires);
      formed = subst Formed (sym is) both.0;
      valid = subst Valid (sym is) both.1;
      under_fills = λ calm setup fair. inserted_fills m formed valid calm j runs setup fair;
      holds = λ calm setup fair. checked_holds m formed valid calm c.requires.plain.unmarked j runs setup fair;
      choices = λ calm setup fair. checked_holds_chosen m formed valid calm c.requires.plain.unmarked j runs setup fair;
      undisturbed = λ setup fair. faithful_undisturbed m j runs setup fair;
      pieces = record { clean = set; exact = c.in_ok-values.ensures.exact; made = c.in_ok-module.ensures ∙ ap (passed_module set) c.module.ensures };
    }
