use Rattle.std.proofs.Common.{◌≡◌, ◌∷◌, sym, subst, arith, List}
use Rattle.std.proofs.lemmas.Grind.{common_steps}
use Rattle.ms_lex.specs.declared.kinds.Token.{Token}
use Rattle.ms_lex.proofs.Cuts.{Found, began, blank_more, comment_more, one_more}
use Rattle.ms_lex.proofs.lexer.cut.Goals as goal

pub cut-init : goal.cut-init
cut-init c = subst (λ (xs : List Token). Found c.args.text.now c.args.limit xs 0 c.args.text.now) (sym c.new-found.ensures.items) (began c.args.text.now c.args.limit)

pub cut-preserved-then-first-eq59 : goal.cut-preserved-then-first-eq59
cut-preserved-then-first-eq59 c =
    let parts : c.cut.rest.now ≡ c.in-Some.first ∷ c.in-Some.after.now = grind (arith, common_steps) in
    let line = c.line_length-line.ensures.value in
    let more = comment_more c.args.text.now c.args.limit c.cut.found.items c.cut.place c.cut.rest.now c.in-Some.first c.in-Some.after.now c.cut.invariant parts (grind (arith, common_steps)) (grind (arith, common_steps)) (rw (← line) c.line_length-line.ensures.within) in
    rw (c.bytes_after-rest.ensures, line) more

pub cut-preserved : goal.cut-preserved
cut-preserved c =
    let parts : c.cut.rest.now ≡ c.in-Some.first ∷ c.in-Some.after.now = grind (arith, common_steps) in
    let more = one_more c.args.text.now c.args.limit c.cut.found.items c.cut.place c.cut.rest.now c.in-Some.first c.in-Some.after.now c.cut.invariant parts c.in-Some-token_at.kind c.in-Some-token_at.n (grind (arith, common_steps)) (grind (arith, common_steps)) (grind (arith, common_steps)) (grind (arith, common_steps)) (grind (arith, common_steps)) (omega arith) in
    rw (c.bytes_after-rest-in-Some-token_at.ensures, c.in_ok-push-in-Some-token_at.ensures.items) more

pub cut-preserved-then-is_blank : goal.cut-preserved-then-is_blank
cut-preserved-then-is_blank c =
    let parts : c.cut.rest.now ≡ c.in-Some.first ∷ c.in-Some.after.now = grind (arith, common_steps) in
    blank_more c.args.text.now c.args.limit c.cut.found.items c.cut.place c.cut.rest.now c.in-Some.first c.in-Some.after.now c.cut.invariant parts (grind (arith, common_steps))
