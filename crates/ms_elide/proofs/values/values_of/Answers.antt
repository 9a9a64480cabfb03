use Rattle.std.proofs.Common.{◌≡◌, ◌↔◌, ℕ, Bool, false, List, IsTrue, get_or, refl, sym, subst}
use Rattle.std.specs.Prelude.{filter, map}
use Rattle.std.proofs.lemmas.Result.{IfOk-weaker}
use Rattle.ms_ir.specs.declared.syntax.Name.{Name}
use Rattle.ms_ir.specs.declared.syntax.Module.{Module}
use Rattle.ms_ir.specs.Equal.{has_name}
use Rattle.ms_ir.specs.Locals.{results, func_insts, function_names}
use Rattle.ms_check_valid.specs.CleanValues.{IsClean}
use Rattle.ms_check_tables.specs.FirstPlace.{first_place}
use Rattle.ms_elide.specs.SelfSupport.{IsInGreatest}
use Rattle.ms_elide.specs.Needed.{is_member, row_needs, rows}
use Rattle.ms_elide.proofs.Exact.{clean_names}
use Rattle.ms_elide.proofs.values.values_of.Goals as goal

pub returns : goal.returns
returns c =
    let f = c.args.func.now in
    let functions = c.args.functions.now in
    let locals = c.in_ok-locals.locals in
    let members = c.as_slice.result.now in
    let needs = map (row_needs (first_place locals) (first_place functions)) (rows f) in
    let P : List Bool → Type 0 = λ l. (place : ℕ) → IsTrue (get_or l place false) ↔ IsInGreatest needs place in
    let exact : P members = subst P (sym c.as_slice.ensures) c.in_ok-members.ensures in
    IfOk-weaker c.members_of.result (λ names. names ≡ filter (is_member locals members) (results (func_insts f)))
    (λ names. (m : Module) → functions ≡ function_names m → (x : Name) → IsTrue (has_name names x) ↔ IsClean m f x)
    (λ names is m named x. clean_names m f functions locals needs members names c.requires named c.in_ok-locals.ensures refl exact is x)
    c.members_of.ensures
