use Rattle.std.proofs.Common.{◌≡◌, ◌∙◌, sym, subst, ap, is_some, not, Bool, true, false, Option, ℕ}
use Rattle.ms_host.specs.declared.calls.Answer.{Answer}
use Rattle.ms_host.specs.Answers.{Answered}
use Rattle.ms_runs.specs.Externals.{free}
use Rattle.ms_host.proofs.Effects.{free-bad, free-some}
use Rattle.ms_host.proofs.worlds.World.free.Goals as goal

pub returns-then-is_none-clause-answered : goal.returns-then-is_none-clause-answered
returns-then-is_none-clause-answered c = λ beside world shows.
    subst (λ (a : Answer). Answered beside (free c.args.site c.args.base world) a c.args.self.now) (sym c.trap.ensures)
    (free-bad beside world c.args.site c.args.base c.args.self.now c.if-base-eq0.false (ap is_some (sym (c.heap_size.ensures.size beside world shows)) ∙ none c.heap_size.result c.is_none.result c.is_none.ensures c.if-is_none.true) shows)
  where
    none : (o : Option ℕ) (b : Bool) → is_some o ≡ not b → b ≡ true → is_some o ≡ false
    none o b e f = e ∙ ap not f

pub returns-clause-answered : goal.returns-clause-answered
returns-clause-answered c = λ beside world shows.
    free-some beside world c.args.site c.args.base c.free_block.new.self c.if-base-eq0.false (ap is_some (sym (c.heap_size.ensures.size beside world shows)) ∙ some c.heap_size.result c.is_none.result c.is_none.ensures c.if-is_none.false) (c.free_block.ensures.ended beside world shows)
  where
    some : (o : Option ℕ) (b : Bool) → is_some o ≡ not b → b ≡ false → is_some o ≡ true
    some o b e f = e ∙ ap not f
