use Rattle.std.proofs.Common.{◌∙◌}
use Rattle.ms_runs.specs.Calls.{plain_blind, shadow_blind}
use Rattle.ms_runs_laws.proofs.BlindPlaces.{all_counted}
use Rattle.ms_runs_fills_laws.proofs.OneEach.{one_each, shadow_one_each, blind_each, plain_blind_each}
use Rattle.ms_runs_fills_laws.proofs.fills.one_each.Goals as goal

pub returns-clause-plain_runs : goal.returns-clause-plain_runs
returns-clause-plain_runs c = one_each

pub returns-clause-shadow_runs : goal.returns-clause-shadow_runs
returns-clause-shadow_runs c = shadow_one_each

pub returns-clause-shadow_blind : goal.returns-clause-shadow_blind
returns-clause-shadow_blind c = blind_each

pub returns-clause-plain_blind : goal.returns-clause-plain_blind
returns-clause-plain_blind c = plain_blind_each

pub returns-clause-places : goal.returns-clause-places
returns-clause-places c = λ m setup. all_counted (shadow_blind m setup) ∙ blind_each m setup

pub returns-clause-plain_places : goal.returns-clause-plain_places
returns-clause-plain_places c = λ m setup. all_counted (plain_blind m setup) ∙ plain_blind_each m setup
