use Rattle.ms_check_valid.proofs.SmallNumbers.{small_numbers}
use Rattle.ms_report.proofs.places.places_text.Goals as goal

pub push_places-requires : goal.push_places-requires
push_places-requires g c = small_numbers c.args.m.now c.requires
