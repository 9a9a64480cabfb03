use Rattle.std.proofs.Common.{ap, ◌∙◌}
use Rattle.ms_check_tables.specs.Index.{place_from}
use Rattle.ms_check_tables.proofs.Near.{same_near}
use Rattle.ms_check_tables.proofs.index.Index.reach.Goals as goal

pub returns-in_err-make_room : goal.returns-in_err-make_room
returns-in_err-make_room c = λ x.
    same_near c.begin_at.new.self c.make_room.new.list (λ first n. ap (λ items. place_from first items n) c.make_room.ensures) x ∙ c.begin_at.ensures x

pub returns : goal.returns
returns c = λ x.
    same_near c.begin_at.new.self c.push_missing.new.places (λ first n. c.push_missing.ensures first n ∙ ap (λ items. place_from first items n) c.make_room.ensures) x
    ∙ c.begin_at.ensures x
