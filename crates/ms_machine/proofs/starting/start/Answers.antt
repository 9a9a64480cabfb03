use Rattle.std.proofs.Common.{not, eqb, reverse, sym, ap, ◌∙◌}
use Rattle.ms_runs.specs.Plain.{plain_start}
use Rattle.ms_runs_good_laws.specs.GoodWorlds.{GivesBytes}
use Rattle.ms_runs_good_laws.proofs.Sound.{plain_sound}
use Rattle.ms_machine_frames.specs.Standing.{frames_of}
use Rattle.ms_machine.proofs.Programs.{frames_from}
use Rattle.ms_machine.proofs.starting.start.Goals as goal

pub start_fiber-requires : goal.start_fiber-requires
start_fiber-requires c = (c.args.m.now, c.program.ensures)

pub returns-clause-running : goal.returns-clause-running
returns-clause-running c =
    let m = c.args.m.now in
    let u = c.args.setup.now in
    let p = c.program.result.now in
    let bytes : GivesBytes u = record { input = c.law_bytes_in_range.ensures; fill = c.law_bytes_in_range-2.ensures } in
    record {
      bytes = bytes;
      frames = frames_from m p c.program.ensures (frames_of c.in_ok-fiber.fiber) (plain_start m u).frames (c.in_ok-fiber.ensures.stands m u c.program.ensures);
      shows = c.in_ok-world.ensures.shows;
      slots = c.in_ok-world.ensures.slots;
      fill = c.in_ok-world.ensures.fill;
      sound = plain_sound m c.law_valid.ensures.formed c.law_valid.ensures.valid u bytes;
      owns = record {
        spawned = c.in_ok-fiber.ensures.spawned ∙ sym (ap (λ f. not (eqb f.turn 0)) c.in_ok-world.ensures.shows.fibers);
        blocks = ap reverse c.in_ok-fiber.ensures.heap;
      };
    }
