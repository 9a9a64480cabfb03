use Rattle.std.proofs.Common.{sym}
use Rattle.ms_ir.specs.ValueTypes.{type_of}
use Rattle.ms_machine.proofs.Typing.{func_known, word_some, word_none}
use Rattle.ms_machine.proofs.words.word_in.Goals as goal

pub width-requires : goal.width-requires
width-requires c = (func_known c.args.func.now c.args.name.now (type_of c.in-Some.ty) c.requires.formed (sym c.in-Some.ensures)).value

pub value_named-requires : goal.value_named-requires
value_named-requires c = record { held = c.requires.held; known = (func_known c.args.func.now c.args.name.now (type_of c.in-Some.ty) c.requires.formed (sym c.in-Some.ensures)).listed }

pub returns-in-Some : goal.returns-in-Some
returns-in-Some c =
    word_some c.args.func.now c.args.values.now c.args.name.now (type_of c.in-Some.ty) c.width.result c.value_named.result c.cut.result c.requires.formed c.in-Some.ensures c.width.ensures.width
    c.value_named.ensures c.cut.ensures

pub returns-in-None : goal.returns-in-None
returns-in-None c = λ meant holds. word_none c.args.func.now c.args.name.now c.in-None.ensures meant
