-- Operations without flags.
use Rattle.std.specs.Prelude.{false}
use Rattle.ms_bits.specs.declared.operations.Flags.{Flags}

-- no flag is set
abbrev pub no_flags : Flags
no_flags = record { nuw = false; nsw = false; exact = false; disjoint = false; nneg = false; samesign = false }
