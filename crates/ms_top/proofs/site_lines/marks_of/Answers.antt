use Rattle.std.proofs.Common.{◌≡◌, true≢false, sym, ◌∙◌}
use Rattle.ms_text_grammar.specs.declared.refusals.Cause.TheVariants.{NoMemory}
use Rattle.ms_top.proofs.Placing.{marks_want_memory}
use Rattle.ms_top.proofs.site_lines.marks_of.Goals as goal
use Rattle.ms_top.proofs.site_lines.marks_of.Goals.{in-NoMemory, in_default}

pub prove-unreachable-requires : goal.prove-unreachable-requires
prove-unreachable-requires c =
    let wants : c.in-Err.cause ≡ NoMemory = marks_want_memory c.args.form c.args.text.now c.args.tokens.now c.in-Err.cause c.requires.reads c.requires.has c.in-Err.ensures.only_memory in
    elim c.match-matches.branch [ in-NoMemory w ↦ true≢false (sym w.matches-is ∙ c.if-prove.true) | in_default w ↦ w.in_default.not-NoMemory wants ]
