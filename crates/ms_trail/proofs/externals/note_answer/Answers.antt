use Rattle.std.proofs.Common.{◌≡◌, ℕ, List, ◌++◌, ap, sym, subst, append-nil, Option}
use Rattle.std.specs.Prelude.{OnOk}
use Rattle.ms_ir.specs.Instructions.{operands}
use Rattle.ms_machine_frames.specs.Meaning.{put_of}
use Rattle.ms_trail_moves.specs.declared.moves.Move.{Move}
use Rattle.ms_trail_moves.specs.Sources.{sources, source_at}
use Rattle.ms_trail.specs.Calling.{answer_told, noted_masks}
use Rattle.ms_trail_bytes.specs.Logs.{IsLog}
use Rattle.ms_trail.proofs.externals.note_answer.Goals as goal
use Rattle.ms_planes.proofs.Histories.{all-ok}

pub returns-in-Some-clause-masks : goal.returns-in-Some-clause-masks
returns-in-Some-clause-masks c =
    all-ok c.tell_back.result _ (subst (λ (q : Option ℕ). c.put_result.new.masks.items ≡ noted_masks (put_of c.args.code.now) q c.args.mask c.args.masks.now.items) (sym c.in-Some.is) c.put_result.ensures)

pub returns-in-None-clause-masks : goal.returns-in-None-clause-masks
returns-in-None-clause-masks c = sym (ap (λ (q : Option ℕ). noted_masks (put_of c.args.code.now) q c.args.mask c.args.masks.now.items) c.in-None.is)

pub returns-in-Some-clause-told : goal.returns-in-Some-clause-told
returns-in-Some-clause-told c = λ moves is.
    let a = c.args in
    subst (λ (q : Option ℕ). OnOk c.tell_back.result (IsLog c.tell_back.new.log (moves ++ answer_told a.stamp.event a.stamp.site a.number q a.row.inst.now.result a.mask (source_at a.from (sources a.number (operands a.row.inst.now.op) a.row.roots)))))
    (sym c.in-Some.is) (c.tell_back.ensures.told moves is)

pub returns-in-None-clause-told : goal.returns-in-None-clause-told
returns-in-None-clause-told c = λ moves is.
    let a = c.args in
    subst (λ (q : Option ℕ). IsLog a.log.now (moves ++ answer_told a.stamp.event a.stamp.site a.number q a.row.inst.now.result a.mask (source_at a.from (sources a.number (operands a.row.inst.now.op) a.row.roots)))) (sym c.in-None.is)
    (subst (λ (ms : List Move). IsLog a.log.now ms) (sym (append-nil moves)) is)
