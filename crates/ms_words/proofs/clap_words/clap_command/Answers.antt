use Rattle.clap.specs.Words.{app_of, rule_of, new_app}
use Rattle.ms_words.specs.declared.names.OptionName.TheVariants.{Input}
use Rattle.ms_words.specs.Table.{command_word}
use Rattle.ms_words.specs.ClapForm.{with_options}
use Rattle.ms_words.proofs.Apps.{options_passed, options_ended}
use Rattle.ms_words.proofs.clap_words.clap_command.Goals as goal

pub loop-option-preserved : goal.loop-option-preserved
loop-option-preserved c =
    options_passed (app_of c.loop-option.built) (app_of c.in_ok-built.built) (with_options (new_app (command_word c.args.command)) c.options-option-items.result.now)
    c.options-option-items.result.now c.loop-option.option-index Input (rule_of c.option_arg.result)
    c.loop-option-test.true (c.in_ok-built.ensures.shape c.option_arg.ensures.local) c.option_arg.ensures.rule c.loop-option.invariant

pub returns : goal.returns
returns c =
    let past = c.loop-option-test.false in
    options_ended c.args.command (app_of c.loop-option.built) (app_of c.in_ok-arg.field-0) c.options-option-items.result.now c.loop-option.option-index (rule_of c.files_arg.result)
    past c.options-option-items.ensures c.loop-option.invariant (c.in_ok-arg.ensures.shape c.files_arg.ensures.local) c.files_arg.ensures.rule
