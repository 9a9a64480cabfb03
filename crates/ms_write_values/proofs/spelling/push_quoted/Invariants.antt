use Rattle.std.proofs.Common.{◌≡◌, ◌++◌, ◌∷◌, take}
use Rattle.std.specs.Prelude.{flat_map}
use Rattle.ms_text_grammar.specs.LayoutNames.{string_byte}
use Rattle.ms_write_values.proofs.spelling.push_quoted.Given as goal

abbrev pub invariant-loop-byte : goal.invariant-loop-byte
invariant-loop-byte l = l.text.items ≡ l.fn.text.items ++ 34 ∷ flat_map string_byte (take l.byte-index l.bytes)
