-- The sites of calls that stand, by a program's sites (own).
use Rattle.std.specs.Prelude.{ℕ, List, map, option_map, unwrap_or, slice_get}
use Rattle.ms_machine_code.specs.declared.code.Site.{Site}
use Rattle.ms_machine_frames.specs.declared.frames.Frame.{Frame}

-- the site of the instruction with a number
abbrev pub number_in : List Site → ℕ → ℕ
number_in sites at = unwrap_or (option_map (λ (s : Site). s.number) (slice_get sites at)) 0

-- the sites at which frames stand
abbrev pub sites_of : List Site → List Frame → List ℕ
sites_of sites frames = map (λ (f : Frame). number_in sites f.at) frames
