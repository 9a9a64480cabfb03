-- Where an instruction stands, as the walk knows it.
use Rattle.ms_ir.specs.Spots.{Spot, spot}
use Rattle.ms_check_tables.specs.declared.inst_sites.InstSite.{InstSite}

-- the spot
abbrev pub spot_of : InstSite → Spot
spot_of h = spot h.func.now h.block h.place h.site
