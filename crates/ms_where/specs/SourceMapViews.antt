-- What contracts see of a map of a text's sites: the lines of each.
use Rattle.std.specs.Prelude.{◌≡◌, ℕ, List, map}
use Rattle.ms_where.specs.declared.source_map.SourceMap.TheInside.{Inside}
use Rattle.ms_where.specs.Lines.{lines_of_instruction}
use Rattle.ms_where.specs.Shown.{newlines_before_tokens}

abbrev pub lines_in : Inside → List (List ℕ)
lines_in a = map (lines_of_instruction a.file.now a.debug) a.sites.items

-- the tables are those of the text
pub record IsReady (a : Inside) : Type 0 where
  pub variables : a.variables ≡ a.debug
  pub newlines : a.newlines.items ≡ newlines_before_tokens a.debug.text a.debug.tokens
