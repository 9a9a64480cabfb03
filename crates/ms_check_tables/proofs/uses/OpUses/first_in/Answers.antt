use Rattle.std.proofs.Common.{[], ◌∷◌, map, sym, ap, ◌∙◌}
use Rattle.std.specs.Option.{option_or}
use Rattle.std.proofs.Math.Path.{ap₂}
use Rattle.ms_ir.specs.Instructions.{operands}
use Rattle.ms_ir.specs.Written.{OfLocal, OfGlobal, type_mentions, operands_mentions, targets}
use Rattle.ms_check_tables.specs.Sought.{first_sought}
use Rattle.ms_check_tables.proofs.Mentioned.{sought-append, alloca_mentions, gep_mentions, call_mentions, plain_mentions}
use Rattle.ms_check_tables.proofs.uses.OpUses.first_in.Goals as goal

pub returns-in-Alloca : goal.returns-in-Alloca
returns-in-Alloca g c =
    let sought = g.S.Search.sought c.args.search.now in
    let op = c.args.self.now in
    c.or.ensures ∙ ap₂ option_or c.in_type.ensures c.in_operands.ensures
    ∙ sym (sought-append sought (type_mentions c.in-Alloca.ty) (operands_mentions (operands op)))
    ∙ ap (first_sought sought) (alloca_mentions op c.in-Alloca.ty _ _ c.in-Alloca.is)

pub returns-in-Gep : goal.returns-in-Gep
returns-in-Gep g c =
    let sought = g.S.Search.sought c.args.search.now in
    let op = c.args.self.now in
    c.or-in-Gep.ensures ∙ ap₂ option_or c.in_type-in-Gep.ensures c.in_operands-in-Gep.ensures
    ∙ sym (sought-append sought (type_mentions c.in-Gep.ty) (operands_mentions (operands op)))
    ∙ ap (first_sought sought) (gep_mentions op c.in-Gep.ty _ _ c.in-Gep.is)

pub returns-in-Call : goal.returns-in-Call
returns-in-Call g c =
    let sought = g.S.Search.sought c.args.search.now in
    let op = c.args.self.now in
    c.or-in-Call.ensures ∙ ap₂ option_or c.global_sought.ensures c.in_operands-in-Call.ensures
    ∙ sym (sought-append sought (OfGlobal c.in-Call.callee ∷ []) (operands_mentions (operands op)))
    ∙ ap (first_sought sought) (call_mentions op _ c.in-Call.callee _ c.in-Call.is)

pub returns-in_default : goal.returns-in_default
returns-in_default g c =
    let sought = g.S.Search.sought c.args.search.now in
    let op = c.args.self.now in
    c.or-in_default.ensures ∙ ap₂ option_or c.in_operands-in_default.ensures c.in_targets.ensures
    ∙ sym (sought-append sought (operands_mentions (operands op)) (map OfLocal (targets op)))
    ∙ ap (first_sought sought) (sym (plain_mentions op c.in_default.not-Phi c.in_default.not-Alloca c.in_default.not-Gep c.in_default.not-Call))
