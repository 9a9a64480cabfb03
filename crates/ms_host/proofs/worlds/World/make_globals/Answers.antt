use Rattle.std.proofs.Common.{◌+◌, ◌∙◌, Err, List, drop, ap, sym}
use Rattle.std.proofs.Math.ListN.{drop_of_length-le}
use Rattle.std.proofs.lemmas.Result.{err_from_is_err_and}
use Rattle.ms_alloc.specs.declared.errors.AllocError.TheVariants as refused
use Rattle.ms_ir.specs.declared.syntax.GlobalVar.{GlobalVar}
use Rattle.ms_ir.proofs.Sizes.{drop_next}
use Rattle.ms_host.proofs.Changes.{keeps-both}
use Rattle.ms_host.proofs.GlobalsMade.{advance-step, advance-end, advance-full, same-error}
use Rattle.ms_host.proofs.worlds.World.make_globals.Goals as goal

pub returns-in_err-left-clause-full : goal.returns-in_err-left-clause-full
returns-in_err-left-clause-full c = λ full.
    let l = c.loop-global in
    let p = err_from_is_err_and c.from_residual.result c.from_residual.ensures.1 in
    let all : List GlobalVar = c.args.globals.now in
    let g = c.global-item.result in
    advance-full c.args.extents.now c.args.self.now l.self c.args.words.now l.left.now all (drop l.global-index all) (drop (l.global-index + 1) all) g
    (drop_next all l.global-index g c.loop-global-test.true c.global-item.is)
    (c.in_err-left.ensures.full (ap Err (sym p.2 ∙ same-error p.0 refused.Full (sym p.1 ∙ full)))) l.invariant.written

pub loop-global-preserved : goal.loop-global-preserved
loop-global-preserved c =
    let l = c.loop-global in
    let all : List GlobalVar = c.args.globals.now in
    let g = c.global-item.result in
    record {
      written = advance-step c.args.extents.now c.args.self.now l.self c.make_global.new.self c.args.words.now l.left.now c.in_ok-left.left.now all (drop l.global-index all) (drop (l.global-index + 1) all) g
          (drop_next all l.global-index g c.loop-global-test.true c.global-item.is) c.in_ok-left.ensures.written l.invariant.written;
      keeps = keeps-both _ _ _ l.invariant.keeps c.make_global.ensures.keeps;
      made = c.make_global.ensures.made ∙ l.invariant.made;
    }

pub returns-clause-written : goal.returns-clause-written
returns-clause-written c =
    let l = c.loop-global in
    let all : List GlobalVar = c.args.globals.now in
    advance-end c.args.extents.now c.args.self.now l.self c.args.words.now l.left.now all (drop l.global-index all) (drop_of_length-le all c.loop-global-test.false) l.invariant.written
