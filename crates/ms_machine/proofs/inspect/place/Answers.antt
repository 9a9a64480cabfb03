use Rattle.std.proofs.Common.{◌<◌, sym, subst}
use Rattle.ms_ir.specs.declared.syntax.Module.{Module}
use Rattle.ms_ir.specs.Instructions.{over_funcs}
use Rattle.ms_check_valid.specs.Formed.{Formed}
use Rattle.ms_machine.specs.Searches.{IsInFunc}
use Rattle.ms_machine.proofs.FramesDue.{few_somewhere, place_due}
use Rattle.ms_machine.proofs.inspect.place.Goals as goal

pub place_at-requires : goal.place_at-requires
place_at-requires c = record {
  formed = subst Formed (sym c.«module».ensures) c.law_valid.ensures.formed;
  few = subst (λ (m : Module). c.args.fiber.now.frame.at < over_funcs (λ inst. 1) m.funcs) (sym c.«module».ensures) (few_somewhere c.args.m.now c.args.fiber.now c.requires);
}

pub returns : goal.returns
returns c = λ u beside w state runs.
    place_due c.args.m.now c.args.fiber.now c.place_at.result
    (subst (λ (m : Module). IsInFunc m.funcs c.args.fiber.now.frame.at c.place_at.result.func c.place_at.result.block c.place_at.result.inst) c.«module».ensures c.place_at.ensures)
    state.frames runs.frames runs.sound.frames
