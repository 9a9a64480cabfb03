use Rattle.std.proofs.Common.{◌%◌, ◌^◌, ap, sym, ◌∙◌}
use Rattle.std.proofs.Math.Nat.{mod-eq_of_lt}
use Rattle.ms_runs.specs.Globals.{stepped, address_of, constant}
use Rattle.ms_machine_operands.proofs.ValidConstants.{whole_stepped}
use Rattle.ms_machine_operands.proofs.initial.constant.Goals as goal

pub returns-in-Global : goal.returns-in-Global
returns-in-Global c =
    let m = c.args.tables.now.whole.now in
    c.address.ensures ∙ mod-eq_of_lt (c.requires.low c.in-Global.name) ∙ sym (ap (constant m.types (address_of m)) c.in-Global.is)

pub returns-in-Offset : goal.returns-in-Offset
returns-in-Offset c =
    let m = c.args.tables.now.whole.now in
    let steps = c.in-Offset.steps in
    let low = c.requires.low c.in-Offset.name in
    c.stepped.ensures ∙ ap (λ ss. stepped m.types c.address-base.result ss % 2 ^ 64) c.as_slice.ensures
    ∙ ap (λ a. stepped m.types a steps % 2 ^ 64) (c.address-base.ensures ∙ ap (λ n. address_of m n % 2 ^ 64) c.get.ensures ∙ mod-eq_of_lt low)
    ∙ whole_stepped m.types (address_of m c.in-Offset.name) steps low
    ∙ sym (ap (constant m.types (address_of m)) c.in-Offset.is)
