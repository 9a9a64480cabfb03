use Rattle.std.proofs.Common.{◌≡◌, ◌<◌, ℕ, List, Some, sym, ap, subst, ◌∙◌, length}
use Rattle.ms_ir.specs.declared.syntax.Name.{Name}
use Rattle.ms_ir.specs.declared.syntax.Module.{Module}
use Rattle.ms_ir.specs.Instructions.{func_at, over_funcs}
use Rattle.ms_ir.specs.Locals.{locals}
use Rattle.ms_check_valid.specs.Formed.{Formed}
use Rattle.ms_machine_code.specs.Reads.{Holds}
use Rattle.ms_machine.specs.Searches.{IsInFunc}
use Rattle.ms_machine.specs.WordsNamed.{word_named}
use Rattle.ms_machine.proofs.FramesDue.{few_somewhere, formed_somewhere, held_somewhere, word_due}
use Rattle.ms_machine.proofs.inspect.word.Goals as goal

pub func_of-func-requires : goal.func_of-func-requires
func_of-func-requires c = record {
  formed = subst Formed (sym c.«module».ensures) c.law_valid.ensures.formed;
  few = subst (λ (m : Module). c.args.fiber.now.frame.at < over_funcs (λ inst. 1) m.funcs) (sym c.«module».ensures) (few_somewhere c.args.m.now c.args.fiber.now c.requires);
}

pub word_in-requires : goal.word_in-requires
word_in-requires c =
    let m = c.args.m.now in
    let fiber = c.args.fiber.now in
    let func = c.func_of-func.result.now in
    let found : (f b p : ℕ) → IsInFunc m.funcs fiber.frame.at f b p → func_at m f ≡ Some func =
    subst (λ (k : Module). (f b p : ℕ) → IsInFunc k.funcs fiber.frame.at f b p → func_at k f ≡ Some func) c.«module».ensures c.func_of-func.ensures in
    record { formed = formed_somewhere m fiber func found c.law_valid.ensures.formed c.requires; held = ap length c.deref.ensures.value ∙ held_somewhere m fiber func found c.requires }

pub returns : goal.returns
returns c = λ u beside w state runs.
    let m = c.args.m.now in
    let fiber = c.args.fiber.now in
    let func = c.func_of-func.result.now in
    let found : (f b p : ℕ) → IsInFunc m.funcs fiber.frame.at f b p → func_at m f ≡ Some func =
    subst (λ (k : Module). (f b p : ℕ) → IsInFunc k.funcs fiber.frame.at f b p → func_at k f ≡ Some func) c.«module».ensures c.func_of-func.ensures in
    let x = c.args.name.now in
    let is : (meant : Name → ℕ) → Holds (locals func) fiber.frame.values.items meant → c.word_in.result ≡ word_named func meant x =
    subst (λ (values : List ℕ). (meant : Name → ℕ) → Holds (locals func) values meant → c.word_in.result ≡ word_named func meant x) c.deref.ensures.value c.word_in.ensures in
    word_due m fiber func found x c.word_in.result is state.frames runs.frames runs.sound.frames
