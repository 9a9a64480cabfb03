use Rattle.std.proofs.Common.{◌≡◌, ◌++◌, Bool, [], sym, subst, ◌∙◌, if◌then◌else◌}
use Rattle.std.specs.Prelude.{IfOk}
use Rattle.ms_machine_code.specs.Constants.{init_constants}
use Rattle.ms_machine_operands.specs.InitialWords.{AreReadable, words_of}
use Rattle.ms_machine_operands.proofs.initial.push_global.Goals as goal

pub push_init-requires-clause-readable : goal.push_init-requires-clause-readable
push_init-requires-clause-readable c =
    subst (λ (b : Bool). AreReadable c.args.tables.now.whole.now.types (if b then [] else init_constants c.args.global.now.init)) (sym c.is_reserved.ensures ∙ c.if-is_reserved.false) c.requires.readable

pub returns : goal.returns
returns c =
    subst (λ (b : Bool). IfOk c.push_init.result (λ _. c.push_init.new.words.items ≡ c.args.words.now.items ++ words_of c.args.tables.now.whole.now (if b then [] else init_constants c.args.global.now.init)))
    (sym (sym c.is_reserved.ensures ∙ c.if-is_reserved.false)) c.push_init.ensures
