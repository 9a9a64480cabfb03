use Rattle.std.proofs.Common.{◌≡◌, ◌∙◌, ◌++◌, sym, ap, arith, rules}
use Rattle.std.specs.Prelude.{codes, decimal}
use Rattle.ms_ir.specs.declared.syntax.Name.TheVariants.{Text}
use Rattle.ms_pass_tasks.proofs.InsertedNames.{msan_decimal}
use Rattle.ms_rules_builder.proofs.names.msan_name.Goals as goal

pub returns : goal.returns
returns c =
    let e : c.in_ok-joined.field-0 ≡ codes "__msan." ++ decimal c.args.number = search rules in
    ap (λ t. Text t) e ∙ sym (msan_decimal c.args.number (omega (arith, c.ranges.number.fits)))
