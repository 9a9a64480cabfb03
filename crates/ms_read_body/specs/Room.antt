-- Where a line begins there is room for what it adds.
use Rattle.std.specs.Prelude.{◌<◌, ◌+◌, ◌^◌, ℕ}
use Rattle.ms_text_grammar.specs.declared.symbols.Symbol.{Symbol}
use Rattle.ms_text_grammar.specs.declared.symbols.Symbol.TheVariants as s

-- the count has room for the instruction that begins with this symbol, if one does
abbrev pub HasRoom : Symbol → ℕ → Type 0
HasRoom s.Label count = Unit {0}
HasRoom s.NumberedLabel count = Unit {0}
HasRoom s.DebugGroup count = Unit {0}
HasRoom symbol count = count + 1 < 2 ^ 32
