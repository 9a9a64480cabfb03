use Rattle.std.proofs.Common.{◌≡◌, true≢false, sym, ◌∙◌}
use Rattle.ms_lex.specs.declared.errors.LexError.TheVariants.{NoMemory}
use Rattle.ms_top.proofs.Placing.{short_again, cut_wants_memory}
use Rattle.ms_top.proofs.site_lines.tokens_of.Goals as goal
use Rattle.ms_top.proofs.site_lines.tokens_of.Goals.{in-NoMemory, in_default}

pub tokens-requires : goal.tokens-requires
tokens-requires c = short_again c.args.form c.args.text.now c.requires

pub prove-unreachable-requires : goal.prove-unreachable-requires
prove-unreachable-requires c =
    let wants : c.in-Err.cause ≡ NoMemory = cut_wants_memory c.args.form c.args.text.now c.max_tokens.result c.in-Err.cause c.requires c.max_tokens.ensures c.in-Err.ensures.exact in
    elim c.match-matches.branch [ in-NoMemory w ↦ true≢false (sym w.matches-is ∙ c.if-prove.true) | in_default w ↦ w.in_default.not-NoMemory wants ]
