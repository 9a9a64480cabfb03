use Rattle.std.proofs.Common.{◌≡◌, ◌∙◌, Option, Some, option_map, sym, ap}
use Rattle.std.specs.Option.{option_copied}
use Rattle.ms_ir.specs.declared.syntax.Inst.{Inst}
use Rattle.ms_ir.specs.declared.syntax.Op.{Op}
use Rattle.ms_printf.proofs.SameSite.{one_inst}
use Rattle.ms_printf.proofs.arguments.op_at.Goals as goal

pub returns-in-Some-inst_of : goal.returns-in-Some-inst_of
returns-in-Some-inst_of c place inst is here =
    let same : Some c.in-Some-inst_of.inst.now ≡ Some inst =
    sym (ap option_copied c.in-Some-inst_of.is) ∙ c.inst_of.ensures ∙ one_inst c.args.m.now c.args.site c.in-Some.place place c.in-Some.ensures.found is ∙ here in
    ap (λ (o : Option Inst). option_map {U = Op} (λ i. i.op) o) same
