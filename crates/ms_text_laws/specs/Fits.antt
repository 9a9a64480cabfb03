-- Which modules an instrumented text can hold (own: the limits of texts).
use Rattle.std.specs.Prelude.{◌≡◌, ◌⊎◌, ◌≤◌, Bool, true, not, ◌||◌, nat_le, length, IsTrue}
use Rattle.std.specs.List.{list_all}
use Rattle.ms_ir.specs.declared.syntax.Op.{Op}
use Rattle.ms_ir.specs.declared.syntax.Op.TheVariants as op
use Rattle.ms_ir.specs.declared.syntax.Module.{Module}
use Rattle.ms_ir.specs.declared.forms.Form.TheVariants.{Instrumented}
use Rattle.ms_text_grammar.specs.declared.refusals.Limit.{Limit}
use Rattle.ms_text_grammar.specs.declared.refusals.Cause.{Cause}
use Rattle.ms_text_grammar.specs.declared.refusals.Cause.TheVariants as r
use Rattle.ms_text_grammar.specs.Insts.{names_printf}
use Rattle.ms_text_grammar.specs.Bodies.{max_instructions}
use Rattle.ms_text_grammar.specs.Texts.{max_bytes, max_tokens}
use Rattle.ms_ir.specs.Locals.{func_insts}
use Rattle.ms_check_valid.specs.ReadLimits.{ReadLimits}
use Rattle.ms_text_grammar.specs.LayoutModules.{module_pieces, written}

-- a call of `printf` has at most 100 arguments; those of other calls are counted by the parameters of the callee
abbrev pub few_arguments : Op → Bool
few_arguments (op.Call ret callee args) = not (names_printf callee) || nat_le (length args) 100
few_arguments o = true

-- a module within the limits of the instrumented form
pub record FitsForm (m : Module) : Type 0 where
  pub limits : ReadLimits (max_instructions Instrumented) m
  pub arguments : IsTrue (list_all (λ f. list_all (λ inst. few_arguments inst.op) (func_insts f)) m.funcs)

-- whose text is within them too: its bytes and its tokens
pub record FitsText (m : Module) : Type 0 where
  pub form : FitsForm m
  pub short : length (written m) ≤ max_bytes Instrumented
  pub few_tokens : length (module_pieces m) ≤ max_tokens Instrumented

-- a refusal names a limit on a text's parts, or the numbering of a function, whose numbers can run out
abbrev pub NamesLimit : Cause → Type 0
NamesLimit e = ((l : Limit) × (e ≡ r.Limit l)) ⊎ (e ≡ r.Numbering)
