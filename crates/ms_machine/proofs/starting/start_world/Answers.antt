use Rattle.std.proofs.Common.{ℕ, List, Err, ap, subst}
use Rattle.ms_runs.specs.World.{first_world}
use Rattle.ms_host.specs.State.{nothing_beside}
use Rattle.ms_host.specs.Shows.{Shows}
use Rattle.ms_machine.proofs.StartGlobals.{globals_made, never_full}
use Rattle.ms_machine.proofs.starting.start_world.Goals as goal

pub no_memory-requires : goal.no_memory-requires
no_memory-requires c = λ full.
    never_full c.args.m.now c.args.extents.now c.as_slice-3.result.now c.args.words.now c.as_slice.result.now c.in_ok-world.world c.requires.valid c.requires.extents c.as_slice-3.ensures c.requires.words
    c.in_ok-world.ensures.shows (c.in-Err.ensures.full (ap Err full))

pub returns-in-Ok-clause-shows : goal.returns-in-Ok-clause-shows
returns-in-Ok-clause-shows c =
    globals_made c.args.m.now c.args.extents.now c.as_slice-3.result.now c.args.words.now c.args.setup.now.input c.in_ok-world.world c.make_globals.new.self c.requires.valid c.requires.extents
    c.as_slice-3.ensures c.requires.words (subst (λ (input : List ℕ). Shows c.in_ok-world.world nothing_beside (first_world input)) c.as_slice.ensures c.in_ok-world.ensures.shows) c.in-Ok.ensures.written
