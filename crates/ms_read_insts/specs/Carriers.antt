-- The flags that the operations may carry.
use Rattle.std.specs.Prelude.{Bool}
use Rattle.ms_text_grammar.specs.declared.symbols.Symbol.{Symbol}
use Rattle.ms_text_grammar.specs.Insts.{binary_carries, cast_carries, compare_carries}
use Rattle.ms_read_insts.specs.declared.flags.Carrier.{Carrier}
use Rattle.ms_read_insts.specs.declared.flags.Carrier.TheVariants.{Binary, Cast, Compare}

-- whether it may carry the flag of this word
abbrev pub carries_of : Carrier → Symbol → Bool
carries_of (Binary o) = binary_carries o
carries_of (Cast o) = cast_carries o
carries_of Compare = compare_carries
