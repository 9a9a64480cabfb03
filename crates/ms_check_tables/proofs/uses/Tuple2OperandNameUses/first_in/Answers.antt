use Rattle.std.proofs.Common.{[], ◌∷◌, sym, ◌∙◌}
use Rattle.std.specs.Option.{option_or}
use Rattle.std.proofs.Math.Path.{ap₂}
use Rattle.ms_ir.specs.Written.{OfLocal, operand_mentions}
use Rattle.ms_check_tables.proofs.Mentioned.{sought-append}
use Rattle.ms_check_tables.proofs.uses.Tuple2OperandNameUses.first_in.Goals as goal

pub returns : goal.returns
returns g c =
    c.or.ensures ∙ ap₂ option_or c.in_operand.ensures c.local_sought.ensures
    ∙ sym (sought-append (g.S.Search.sought c.args.search.now) (operand_mentions c.args.self.now.0) (OfLocal c.args.self.now.1 ∷ []))
