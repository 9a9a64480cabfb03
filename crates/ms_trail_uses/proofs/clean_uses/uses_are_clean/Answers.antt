use Rattle.std.proofs.Common.{sym, ap, ◌∙◌}
use Rattle.ms_trail_uses.specs.CleanUses.{uses_clean}
use Rattle.ms_trail_uses.proofs.clean_uses.uses_are_clean.Goals as goal

pub returns-in-Binary : goal.returns-in-Binary
returns-in-Binary c = c.is_divisor_clean.ensures ∙ sym (ap (uses_clean c.args.view.now.masks.now) c.in-Binary.is)

pub returns-in-Alloca : goal.returns-in-Alloca
returns-in-Alloca c = c.is_clean.ensures ∙ sym (ap (uses_clean c.args.view.now.masks.now) c.in-Alloca.is)

pub returns-in-Load : goal.returns-in-Load
returns-in-Load c = c.is_clean-in-Load.ensures ∙ sym (ap (uses_clean c.args.view.now.masks.now) c.in-Load.is)

pub returns-in-Store : goal.returns-in-Store
returns-in-Store c = c.is_clean-in-Store.ensures ∙ sym (ap (uses_clean c.args.view.now.masks.now) c.in-Store.is)

pub returns-in-Branch : goal.returns-in-Branch
returns-in-Branch c = c.is_clean-in-Branch.ensures ∙ sym (ap (uses_clean c.args.view.now.masks.now) c.in-Branch.is)

pub returns-in-Switch : goal.returns-in-Switch
returns-in-Switch c = c.is_clean-in-Switch.ensures ∙ sym (ap (uses_clean c.args.view.now.masks.now) c.in-Switch.is)

pub returns-in-Exit : goal.returns-in-Exit
returns-in-Exit c = c.is_clean-in-Exit.ensures ∙ sym (ap (uses_clean c.args.view.now.masks.now) c.in-Exit.is)
