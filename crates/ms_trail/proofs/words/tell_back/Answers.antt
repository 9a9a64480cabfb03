use Rattle.std.proofs.Common.{List, ◌++◌, sym, subst, append-nil, Option}
use Rattle.std.proofs.lemmas.Result.{on_ok_weaker}
use Rattle.ms_ir.specs.declared.syntax.Name.{Name}
use Rattle.ms_ir.specs.Instructions.{operands}
use Rattle.ms_trail_moves.specs.declared.moves.Move.{Move}
use Rattle.ms_trail_moves.specs.Sources.{sources, source_at}
use Rattle.ms_trail_bytes.specs.Logs.{IsLog}
use Rattle.ms_trail.specs.Calling.{returned_told}
use Rattle.ms_trail.proofs.Told.{returned_none, returned_one}
use Rattle.ms_trail.proofs.words.tell_back.Goals as goal

pub returns-then-mask-eq0-clause-told : goal.returns-then-mask-eq0-clause-told
returns-then-mask-eq0-clause-told c = λ moves is.
    let a = c.args in
    returned_none a.log.now moves a.stamp.event a.stamp.site a.frame a.inst.now.result a.mask (source_at a.from (sources a.inner (operands a.row.inst.now.op) a.row.roots)) c.if-mask-eq0.true is

pub returns-in_ok-to-in-Some-clause-told : goal.returns-in_ok-to-in-Some-clause-told
returns-in_ok-to-in-Some-clause-told c = λ moves is.
    let a = c.args in
    on_ok_weaker c.tell.result
    (returned_one c.tell.new.log moves a.stamp.event a.stamp.site a.frame a.inst.now.result _ a.mask (source_at a.from (sources a.inner (operands a.row.inst.now.op) a.row.roots)) c.in_ok-moved-in-Some.moved c.in_ok-to-in-Some.to c.in-Some.is c.if-mask-eq0.false
    c.in_ok-moved-in-Some.ensures c.in_ok-to-in-Some.ensures)
    (c.tell.ensures.told moves is)

pub returns-in-None-clause-told : goal.returns-in-None-clause-told
returns-in-None-clause-told c = λ moves is.
    let a = c.args in
    subst (λ (r : Option Name). IsLog a.log.now (moves ++ returned_told a.stamp.event a.stamp.site a.frame r a.mask (source_at a.from (sources a.inner (operands a.row.inst.now.op) a.row.roots)))) (sym c.in-None.is)
    (subst (λ (ms : List Move). IsLog a.log.now ms) (sym (append-nil moves)) is)
