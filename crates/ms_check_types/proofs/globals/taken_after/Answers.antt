use Rattle.std.proofs.Common.{◌≡◌, true, false, sym, ◌∙◌, arith}
use Rattle.ms_check_types.proofs.GlobalSizes.{without_sizes, without_size, within_limit, past_limit}
use Rattle.ms_check_types.proofs.globals.taken_after.Goals as goal

pub returns-then-not-is_global_sized-clause-is : goal.returns-then-not-is_global_sized-clause-is
returns-then-not-is_global_sized-clause-is c =
    let no : c.is_global_sized.result ≡ false = grind (arith, c.if-not-is_global_sized.true) in
    without_sizes c.args.extents.now c.args.taken c.args.global.now (sym c.is_global_sized.ensures ∙ no)

pub returns-in-None-clause-is : goal.returns-in-None-clause-is
returns-in-None-clause-is c =
    let yes : c.is_global_sized.result ≡ true = grind (arith, c.if-not-is_global_sized.false) in
    without_size c.args.extents.now c.args.taken c.args.global.now (sym c.is_global_sized.ensures ∙ yes) c.in-None.ensures

pub returns-then-after-le-LIMIT-clause-is : goal.returns-then-after-le-LIMIT-clause-is
returns-then-after-le-LIMIT-clause-is c =
    let yes : c.is_global_sized.result ≡ true = grind (arith, c.if-not-is_global_sized.false) in
    within_limit c.args.extents.now c.args.taken c.in-Some.size c.taken_with-after.result c.args.global.now (sym c.is_global_sized.ensures ∙ yes) c.requires c.in-Some.ensures
    c.taken_with-after.ensures c.if-after-le-LIMIT.true

pub returns-else-after-le-LIMIT-clause-is : goal.returns-else-after-le-LIMIT-clause-is
returns-else-after-le-LIMIT-clause-is c =
    let yes : c.is_global_sized.result ≡ true = grind (arith, c.if-not-is_global_sized.false) in
    past_limit c.args.extents.now c.args.taken c.in-Some.size c.taken_with-after.result c.args.global.now (sym c.is_global_sized.ensures ∙ yes) c.requires c.in-Some.ensures
    c.taken_with-after.ensures c.if-after-le-LIMIT.false
