-- Bytes under names, as a map in memory has them.
use Rattle.std.specs.Prelude.{ℕ, option_map, String, Vec}
use Rattle.std.specs.declared.alloc.Global.{Global}
use Rattle.std.specs.BTreeMap.{BTreeMap, get_by_text}
use Rattle.ms_io.specs.Reading.{Holdings}

-- the files of a map: under a name of its keys the bytes of its value, and under no other name any
abbrev pub files_of : BTreeMap (String Global) (Vec ℕ Global) → Holdings
files_of map = λ name. option_map (λ bytes. bytes.items) (get_by_text map name)
