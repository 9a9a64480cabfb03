use Rattle.std.proofs.Common.{map}
use Rattle.ms_runs.specs.Poisoned.{clean}
use Rattle.ms_runs.specs.Shadow.{poisoned_result}
use Rattle.ms_ir.specs.Instructions.{operands}
use Rattle.ms_runs_good_laws.specs.GoodStates.{IsBelow, PoisonedBelow}
use Rattle.ms_runs_good_laws.specs.GoodWorlds.{FitsCell, AnyOrigin}
use Rattle.ms_runs_good_laws.proofs.InstructionEffects.{act_fits}
use Rattle.ms_runs_good_laws.proofs.Frames.{due_of}
use Rattle.ms_runs_good_laws.proofs.PlainSteps.{marked_fits}
use Rattle.ms_runs_good_laws.proofs.ShadowSteps.{numbers_have, result_fits}
use Rattle.ms_runs_good_laws.proofs.Starting.{plain_setting, shadow_setting}
use Rattle.ms_runs_good_laws.proofs.effects.instructions_fit.Goals as goal

pub returns-clause-unmarked : goal.returns-clause-unmarked
returns-clause-unmarked c = λ m formed valid setup bytes n b p f inst at due words have w g here.
    act_fits IsBelow 0 m formed valid FitsCell n b p f inst at (due_of m n b p f inst at due) words (λ v u. v) (λ v u t e l. l) have words have setup (plain_setting m formed setup bytes) w g here

pub returns-clause-marked : goal.returns-clause-marked
returns-clause-marked c = λ m formed valid setup bytes n b p f inst at due marked words have w g here slots.
    marked_fits m formed valid setup (plain_setting m formed setup bytes) n b p f inst at (due_of m n b p f inst at due) marked words have w g here slots

pub returns-clause-shadow_runs : goal.returns-clause-shadow_runs
returns-clause-shadow_runs c = λ d keep m formed valid setup bytes n b p f inst at due words have w g here.
    let is_due = due_of m n b p f inst at due in
    act_fits PoisonedBelow clean m formed valid AnyOrigin n b p f inst at is_due words (poisoned_result d inst.op words) (result_fits m formed valid d keep n b p f inst at is_due words have) have
    (map (λ q. q.value) words) (numbers_have words (map (λ a. a.0) (operands inst.op)) have) setup (shadow_setting m setup bytes) w g here
