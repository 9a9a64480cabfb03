use Rattle.std.proofs.Common.{sym, ◌∙◌}
use Rattle.std.specs.Option.{option_or}
use Rattle.std.proofs.Math.Path.{ap₂}
use Rattle.ms_ir.specs.Written.{type_mentions, init_mentions}
use Rattle.ms_check_tables.proofs.Mentioned.{sought-append}
use Rattle.ms_check_tables.proofs.uses.GlobalVarUses.first_in.Goals as goal

pub returns : goal.returns
returns g c =
    c.or.ensures ∙ ap₂ option_or c.in_type.ensures c.in_init.ensures
    ∙ sym (sought-append (g.S.Search.sought c.args.search.now) (type_mentions c.args.self.now.ty) (init_mentions c.args.self.now.init))
