use Rattle.std.proofs.Common.{◌↔◌, arith}
use Rattle.ms_flow.specs.Search.{Has, Leaves}
use Rattle.ms_flow.proofs.Answered.{leaves_after, leaves_before, leaves_answer}
use Rattle.ms_flow.proofs.dataflow.arrives.Goals as goal
use Rattle.ms_flow.proofs.dataflow.arrives.Goals.{then-u, else-u}

pub unreachable-requires : goal.unreachable-requires
unreachable-requires c = c.in_default.ensures.none c.requires.value

pub returns : goal.returns
returns c =
    let u = c.args.u.now in
    let i = c.in-Some.place in
    let kills = c.args.kills.now in
    let words = c.args.words.now in
    let found = c.in-Some.ensures.found in
    let leaves : Has c.if-u.word i ↔ Leaves kills words u i = elim c.if-u.branch [
      | then-u w ↦ rw w.word-is (leaves_after kills words u i w.without-word.result w.if-u.true (w.without-word.ensures i (omega (arith, found.0, c.requires.few))))
      | else-u w ↦ leaves_before kills words u i c.if-u.word w.if-u.false w.word-is
    ] in
    (i, found, leaves_answer kills words u i c.if-u.word c.has.result c.has.ensures leaves)
