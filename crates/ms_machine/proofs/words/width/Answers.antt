use Rattle.std.proofs.Common.{◌≡◌, true, subst}
use Rattle.ms_ir.specs.ValueTypes.{type_of}
use Rattle.ms_check_valid.specs.FormedCode.{is_value_type}
use Rattle.ms_machine.proofs.Typing.{word_type}
use Rattle.ms_machine.proofs.words.width.Goals as goal

pub width_of-requires : goal.width_of-requires
width_of-requires c = word_type c.in-Written.ty.now (subst (λ t. is_value_type (type_of t) ≡ true) c.in-Written.is c.requires)
