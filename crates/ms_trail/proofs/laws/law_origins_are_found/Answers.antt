use Rattle.ms_trail_uses.proofs.Placing.{place_is}
use Rattle.ms_trail.proofs.laws.law_origins_are_found.Goals as goal

pub returns : goal.returns
returns c = λ fill xs ms at u values filled holds root world n k inst fits e. place_is fill xs ms at u values filled holds root world n k inst fits e
