use Rattle.std.proofs.Common.{◌≡◌, ◌+◌, ◌++◌, List, [], drop, ap, sym, subst}
use Rattle.std.specs.Prelude.{IfOk}
use Rattle.std.proofs.Math.ListN.{drop_of_length-le}
use Rattle.ms_ir.specs.declared.syntax.Operand.{Operand}
use Rattle.ms_machine_operands.specs.Sized.{IsReadable}
use Rattle.std.proofs.lemmas.List.Elements.{All-head}
use Rattle.ms_machine_code.specs.Constants.{init_constants, parts_constants}
use Rattle.ms_machine_operands.specs.InitialWords.{AreReadable, words_of}
use Rattle.ms_machine_operands.proofs.Pushing.{array_constants, struct_constants, pushing_first, pushing_next, pushing_last}
use Rattle.ms_ir.specs.declared.syntax.Init.{Init}
use Rattle.ms_ir.proofs.Sizes.{drop_next}
use Rattle.ms_machine_operands.proofs.Depths.{array_falls, struct_falls, part_falls}
use Rattle.ms_machine_operands.proofs.initial.+constants.Goals as goal

pub push_init-returns-in-Array : goal.push_init-returns-in-Array
push_init-returns-in-Array t c =
    let m = c.args.tables.now.whole.now in
    subst (λ (os : List Operand). IfOk c.push_parts.result (λ _. c.push_parts.new.words.items ≡ c.args.words.now.items ++ words_of m os))
    (sym (array_constants c.args.init.now c.in-Array.items c.as_slice.result.now c.in-Array.is c.as_slice.ensures)) c.push_parts.ensures

pub push_init-returns-in-Struct : goal.push_init-returns-in-Struct
push_init-returns-in-Struct t c =
    let m = c.args.tables.now.whole.now in
    subst (λ (os : List Operand). IfOk c.push_parts-in-Struct.result (λ _. c.push_parts-in-Struct.new.words.items ≡ c.args.words.now.items ++ words_of m os))
    (sym (struct_constants c.args.init.now c.in-Struct.field-0 c.in-Struct.fields c.as_slice-in-Struct.result.now c.in-Struct.is c.as_slice-in-Struct.ensures)) c.push_parts-in-Struct.ensures

pub push_parts-loop-init-preserved : goal.push_parts-loop-init-preserved
push_parts-loop-init-preserved t c =
    let l = c.loop-init in
    let part = c.loop-init-item.result in
    pushing_next c.args.tables.now.whole.now c.args.words.now.items l.words.items c.push_init.new.words.items (parts_constants c.args.parts.now) (parts_constants (drop l.init-index c.args.parts.now))
    (init_constants part.1) (parts_constants (drop (l.init-index + 1) c.args.parts.now))
    (ap parts_constants (drop_next c.args.parts.now l.init-index part c.loop-init-test.true c.loop-init-item.is)) c.in_ok-push_init.ensures l.invariant

pub push_parts-returns : goal.push_parts-returns
push_parts-returns t c =
    let l = c.loop-init in
    pushing_last c.args.tables.now.whole.now c.args.words.now.items l.words.items (parts_constants c.args.parts.now) (parts_constants (drop l.init-index c.args.parts.now))
    (ap parts_constants (drop_of_length-le c.args.parts.now c.loop-init-test.false)) l.invariant

pub push_init-constant-requires-clause-readable : goal.push_init-constant-requires-clause-readable
push_init-constant-requires-clause-readable t c =
    let types = c.args.tables.now.whole.now.types in
    let o = c.in-Value.operand in
    All-head (IsReadable types []) o [] (subst (λ (i : Init). AreReadable types (init_constants i)) c.in-Value.is c.requires.readable)

pub push_init-push_parts-requires : goal.push_init-push_parts-requires
push_init-push_parts-requires t c =
    let types = c.args.tables.now.whole.now.types in
    let readable : AreReadable types (parts_constants c.as_slice.result.now) = subst (λ (os : List Operand). AreReadable types os)
    (array_constants c.args.init.now c.in-Array.items c.as_slice.result.now c.in-Array.is c.as_slice.ensures) c.requires.readable in
    (array_falls t c.args.init.now c.in-Array.items c.as_slice.result.now c.in-Array.is c.as_slice.ensures c.decreases, (c.requires.tables, (c.requires.low, readable)))

pub push_init-push_parts-requires-in-Struct : goal.push_init-push_parts-requires-in-Struct
push_init-push_parts-requires-in-Struct t c =
    let types = c.args.tables.now.whole.now.types in
    let readable : AreReadable types (parts_constants c.as_slice-in-Struct.result.now) = subst (λ (os : List Operand). AreReadable types os)
    (struct_constants c.args.init.now c.in-Struct.field-0 c.in-Struct.fields c.as_slice-in-Struct.result.now c.in-Struct.is c.as_slice-in-Struct.ensures) c.requires.readable in
    (struct_falls t c.args.init.now c.in-Struct.field-0 c.in-Struct.fields c.as_slice-in-Struct.result.now c.in-Struct.is c.as_slice-in-Struct.ensures c.decreases, (c.requires.tables, (c.requires.low, readable)))

pub push_parts-push_init-requires : goal.push_parts-push_init-requires
push_parts-push_init-requires t c =
    let l = c.loop-init in
    let part = c.loop-init-item.result in (
      part_falls t c.args.parts.now l.init-index part c.loop-init-test.true c.loop-init-item.is c.decreases,
      (
        c.requires.tables,
        (
          c.requires.low,
          pushing_first c.args.tables.now.whole.now c.args.words.now.items l.words.items (parts_constants c.args.parts.now) (parts_constants (drop l.init-index c.args.parts.now))
              (init_constants part.1) (parts_constants (drop (l.init-index + 1) c.args.parts.now))
              (ap parts_constants (drop_next c.args.parts.now l.init-index part c.loop-init-test.true c.loop-init-item.is)) l.invariant,
        ),
      ),
    )
