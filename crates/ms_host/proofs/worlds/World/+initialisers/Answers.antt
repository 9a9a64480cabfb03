use Rattle.std.proofs.Common.{◌+◌, ◌∙◌, ℕ, Option, drop, sym, subst}
use Rattle.std.proofs.Math.ListN.{drop_of_length-le}
use Rattle.ms_ir.specs.Layout.{size_in}
use Rattle.ms_ir.proofs.Sizes.{drop_next}
use Rattle.ms_host.specs.Initial.{Reaches}
use Rattle.ms_host.proofs.Changes.{keeps-both}
use Rattle.ms_host.proofs.KeptNumbers.{size-reaches}
use Rattle.ms_host.proofs.InitParts.{value-written, text-written, array-written, struct-written, progress-step, progress-end}
use Rattle.ms_host.proofs.worlds.World.+initialisers.Goals as goal

pub write_init-returns-in-Value-clause-written : goal.write_init-returns-in-Value-clause-written
write_init-returns-in-Value-clause-written t c =
    value-written c.args.extents.now c.args.at c.args.ty.now c.args.init.now c.in-Value.field-0 c.stored_size.result c.args.words.now c.write_word.result.now c.args.self.now c.write_word.new.self
    c.in-Value.is c.stored_size.ensures c.write_word.ensures.written

pub write_init-returns-in-Text-clause-written : goal.write_init-returns-in-Text-clause-written
write_init-returns-in-Text-clause-written t c =
    text-written c.args.extents.now c.args.at c.args.ty.now c.args.init.now c.in-Text.bytes c.as_slice.result.now c.args.words.now c.args.self.now c.initialise_text.new.self
    c.in-Text.is c.as_slice.ensures c.initialise_text.ensures.written

pub write_init-returns-in-Array-clause-written : goal.write_init-returns-in-Array-clause-written
write_init-returns-in-Array-clause-written t c =
    array-written c.args.extents.now c.args.at c.args.ty.now c.args.init.now c.in-Array.items c.as_slice-in-Array.result.now c.args.words.now c.write_parts.result.now c.args.self.now c.write_parts.new.self
    c.in-Array.is c.as_slice-in-Array.ensures c.write_parts.ensures.written

pub write_init-returns-in-Struct-clause-written : goal.write_init-returns-in-Struct-clause-written
write_init-returns-in-Struct-clause-written t c =
    struct-written c.args.extents.now c.args.at c.args.ty.now c.args.init.now c.in-Struct.packed c.in-Struct.fields c.as_slice-in-Struct.result.now c.args.words.now c.write_parts-in-Struct.result.now
    c.args.self.now c.write_parts-in-Struct.new.self c.in-Struct.is c.as_slice-in-Struct.ensures c.write_parts-in-Struct.ensures.written

pub write_parts-loop-ty-preserved : goal.write_parts-loop-ty-preserved
write_parts-loop-ty-preserved t c =
    let l = c.loop-ty in
    let part = c.loop-ty-item.result in
    let types = c.args.extents.now in
    record {
      written = progress-step types c.args.packed c.args.at c.args.self.now l.self c.write_init-left.new.self c.args.words.now l.left.now c.write_init-left.result.now
          l.so_far c.part_begin-begin.result c.sum.result c.size_of.result c.sum-so_far.result c.args.parts.now (drop l.ty-index c.args.parts.now) (drop (l.ty-index + 1) c.args.parts.now) part.0 part.1
          (drop_next c.args.parts.now l.ty-index part c.loop-ty-test.true c.loop-ty-item.is)
          c.part_begin-begin.ensures c.sum.ensures
          (λ known. subst (λ (o : Option ℕ). Reaches o (size_in types part.0)) (sym c.size_of.ensures) (size-reaches types part.0 known))
          c.sum-so_far.ensures c.write_init-left.ensures.written l.invariant.written;
      keeps = keeps-both _ _ _ l.invariant.keeps c.write_init-left.ensures.keeps;
      made = c.write_init-left.ensures.made ∙ l.invariant.made;
    }

pub write_parts-returns-clause-written : goal.write_parts-returns-clause-written
write_parts-returns-clause-written t c =
    let l = c.loop-ty in
    progress-end c.args.extents.now c.args.packed c.args.at c.args.self.now l.self c.args.words.now l.left.now l.so_far c.args.parts.now (drop l.ty-index c.args.parts.now)
    (drop_of_length-le c.args.parts.now c.loop-ty-test.false) l.invariant.written
