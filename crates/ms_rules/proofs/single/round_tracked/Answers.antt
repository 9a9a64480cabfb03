use Rattle.std.proofs.Common.{ap, ◌∙◌, arith}
use Rattle.ms_rules.specs.Around.{here_of}
use Rattle.ms_rules.specs.Scopes.{env_of, given_of}
use Rattle.ms_rules.proofs.SingleInsts.{between_low, between_is, after_low, after_is}
use Rattle.ms_rules.proofs.single.round_tracked.Goals as goal

pub new-after-requires : goal.new-after-requires
new-after-requires c =
    let s = c.args.scope.now in let given = given_of s in let env = env_of s in let h = here_of s c.args.site c.args.tracking.now in
    let i = c.args.inst.now in let n = c.args.next in let saved = c.number_to_save-saved in
    let is = between_is given env h i n c.requires.plain saved.result c.args.callee.external c.new-before.result saved.new.builder c.push_before.new.builder c.new-before.ensures saved.ensures.number saved.ensures.code
    c.requires.callee.external c.in_ok-push_before.ensures in
    omega (arith, c.requires.room, c.next.ensures, is, between_low given env h i n c.requires.plain)

pub answer-requires : goal.answer-requires
answer-requires c =
    let s = c.args.scope.now in let given = given_of s in let env = env_of s in let h = here_of s c.args.site c.args.tracking.now in
    let i = c.args.inst.now in let n = c.args.next in let saved = c.number_to_save-saved in
    let is = between_is given env h i n c.requires.plain saved.result c.args.callee.external c.new-before.result saved.new.builder c.push_before.new.builder c.new-before.ensures saved.ensures.number saved.ensures.code
    c.requires.callee.external c.in_ok-push_before.ensures in
    let last = after_is given env h i n c.requires.plain saved.result c.next.result c.new-after.result c.push_after.new.builder (saved.ensures.number ∙ ap (λ k. k.next) c.new-before.ensures) (c.next.ensures ∙ is) c.new-after.ensures
    c.in_ok-push_after.ensures in
    omega (arith, c.requires.room, after_low given env h i n c.requires.plain c.push_after.new.builder last)
