use Rattle.std.proofs.Common.{rules, ◌+◌, ◌-◌, ◌≤◌, arith}
use Rattle.ms_top.proofs.Appending.{with_next, with_part}
use Rattle.ms_top.proofs.output.put_text.Goals as goal

pub loop-at-preserved : goal.loop-at-preserved
loop-at-preserved g c =
    let i = c.loop-at.at in
    let j = i + c.min.result in
    let ordered : i ≤ j = omega arith in
    record {
      written = with_next _ _ _ i j c.args.text.now ordered c.loop-at.invariant.written c.in-Ok.ensures.ok;
      within = search rules;
      faults = search rules;
    }

pub returns-in-Err-clause-part : goal.returns-in-Err-clause-part
returns-in-Err-clause-part g c =
    with_part _ _ _ c.loop-at.at (c.loop-at.at + c.min.result - c.loop-at.at) c.args.text.now c.loop-at.invariant.written c.in-Err.ensures.prefix
