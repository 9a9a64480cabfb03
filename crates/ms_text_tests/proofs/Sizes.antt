-- A text of at most 4 MiB is within the limit of either form.
use Rattle.std.proofs.Common.{ℕ, ◌^◌, ◌≤◌, arith}
use Rattle.ms_ir.specs.declared.forms.Form.{Form}
use Rattle.ms_ir.specs.declared.forms.Form.TheVariants.{Plain, Instrumented}
use Rattle.ms_text_grammar.specs.Texts.{max_bytes}

pub either_form : (form : Form) (n : ℕ) → n ≤ 2 ^ 22 → n ≤ max_bytes form
unfolding max_bytes
either_form Plain n h = h
either_form Instrumented n h = omega arith
