use Rattle.std.proofs.Common.{refl, sym, subst, ap, arith}
use Rattle.ms_alloc.specs.Allocations.{IsArea, used}
use Rattle.ms_alloc.proofs.Rows.{area-append}
use Rattle.ms_alloc.proofs.areas.Area.append.Goals as goal

pub returns-clause-area : goal.returns-clause-area
returns-clause-area c =
    subst (IsArea c.args.kind) (sym c.in_ok-push.ensures.made)
    (area-append c.args.kind c.self.inside.made.items _ (subst (IsArea c.args.kind) (sym c.self.view_is) c.requires)
    (omega (arith, c.base.ensures, c.used-used.ensures, ap used c.self.view_is)) refl
    (omega (arith, c.used-used.ensures, ap used c.self.view_is)))
