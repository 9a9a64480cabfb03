use Rattle.std.proofs.Common.{◌≡◌, ◌%◌, ◌++◌, List, sym, subst, ◌∙◌, arith}
use Rattle.ms_runs.specs.World.{World}
use Rattle.ms_ir.specs.Instructions.{operands}
use Rattle.ms_trail_moves.specs.declared.moves.Move.{Move}
use Rattle.ms_trail_moves.specs.Written.{Filled}
use Rattle.ms_trail_moves.specs.Events.{written_moves}
use Rattle.ms_runs_laws.specs.Follows.{fill_shadow}
use Rattle.ms_trail_bytes.specs.Logs.{IsLog}
use Rattle.ms_trail_bytes.specs.Shading.{ShadedAs}
use Rattle.ms_trail_bytes.proofs.Filling.{source_no_byte}
use Rattle.ms_trail_bytes.proofs.Refilled.{same_byte}
use Rattle.ms_trail.proofs.externals.shade_bytes.Goals as goal
use Rattle.std.proofs.lemmas.Result.{on_ok_weaker}

pub shade_set-requires-clause-byte : goal.shade_set-requires-clause-byte
shade_set-requires-clause-byte c = omega arith

pub shade_set-requires-clause-low : goal.shade_set-requires-clause-low
shade_set-requires-clause-low c = λ a e. absurd (source_no_byte 1 c.args.number (operands c.args.row.inst.now.op) c.args.row.roots a (sym c.in_ok-from.ensures ∙ e))

pub returns-clause-set : goal.returns-clause-set
returns-clause-set c = λ beside meant moves shows whole good is.
    let a = c.args in
    let same : fill_shadow a.addr a.n (a.mask % 256) meant ≡ fill_shadow a.addr a.n a.mask meant = same_byte a.addr a.n a.mask meant in
    on_ok_weaker c.shade_set.result
    (λ h. (
      subst (λ (x : World). ShadedAs beside meant x c.shade_set.new.world) same h.0,
      subst (λ (ms : List Move). IsLog c.shade_set.new.log (moves ++ ms)) (λ j. written_moves a.stamp.event a.stamp.site (same j).shadow (Filled a.addr a.n (c.in_ok-from.ensures j))) h.1,
    ))
    (c.shade_set.ensures.set beside meant moves shows whole good is)
