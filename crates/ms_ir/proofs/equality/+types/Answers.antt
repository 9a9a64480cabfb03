use Rattle.std.proofs.Common.{sym, ◌∙◌}
use Rattle.std.proofs.Math.Path.{ap₂}
use Rattle.ms_ir.specs.Equal.{type_eq, types_eq}
use Rattle.ms_ir.proofs.Differing.{same_arrays, same_structs, types_differ}
use Rattle.ms_ir.proofs.equality.+types.Goals as goal

pub same_type-returns-then-m-n : goal.same_type-returns-then-m-n
same_type-returns-then-m-n t c =
    let a = c.in-Array-Array in
    c.same_type.ensures ∙ ap₂ type_eq c.get.ensures c.get-then-m-n.ensures ∙ sym (same_arrays a.m a.n a.item a.other c.if-m-n.true)
    ∙ ap₂ type_eq (sym a.is-0) (sym a.is-1)

pub same_type-returns-then-p-q : goal.same_type-returns-then-p-q
same_type-returns-then-p-q t c =
    let a = c.in-Struct-Struct in
    c.same_types.ensures ∙ ap₂ types_eq c.as_slice.ensures c.as_slice-then-p-q.ensures ∙ sym (same_structs a.p a.q a.fields a.others c.if-p-q.true)
    ∙ ap₂ type_eq (sym a.is-0) (sym a.is-1)

pub same_types-returns-then-types-others : goal.same_types-returns-then-types-others
same_types-returns-then-types-others t c = types_differ c.args.types.now c.args.others.now c.if-types-others.true
