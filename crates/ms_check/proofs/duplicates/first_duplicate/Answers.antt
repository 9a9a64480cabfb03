use Rattle.std.proofs.Common.{sym, ap, ◌∙◌}
use Rattle.std.specs.Option.{option_copied}
use Rattle.ms_check.proofs.duplicates.first_duplicate.Goals as goal

pub first_symbol_twice-requires : goal.first_symbol_twice-requires
first_symbol_twice-requires c = sym c.in_ok-name.ensures ∙ ap option_copied c.in-None.is
