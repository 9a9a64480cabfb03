-- What a follower that may take one more step has.
use Rattle.std.proofs.Common.{◌≡◌, ◌≤◌, ◌<◌, ◌+◌, ◌^◌, ℕ, Bool, List, length, if◌then◌else◌, Option, Some, sym, ap, ◌∙◌, subst, arith}
use Rattle.std.specs.Prelude.{slice_get, All}
use Rattle.std.proofs.lemmas.Option.{same_Some, none-some, slice_get_within}
use Rattle.ms_ir.specs.declared.calls.External.{External}
use Rattle.ms_ir.specs.declared.syntax.Ty.{Ty}
use Rattle.ms_ir.specs.declared.syntax.Func.{Func}
use Rattle.ms_ir.specs.declared.syntax.Inst.{Inst}
use Rattle.ms_ir.specs.declared.syntax.Module.{Module}
use Rattle.ms_ir.specs.Instructions.{func_at, func_index, insts_at, operands, count_undefs, is_root, roots_in, root_at, count_roots, NoMarks}
use Rattle.ms_runs_good_laws.proofs.Frames.{unmarked_at}
use Rattle.ms_runs_good_laws.proofs.Counted.{counted_within}
use Rattle.ms_machine_code.specs.declared.code.Code.{Code}
use Rattle.ms_machine_code.specs.declared.code.Code.TheVariants as code
use Rattle.ms_machine_code.specs.declared.code.Routine.{Routine}
use Rattle.ms_machine_code.specs.Fits.{Fits, IsSource, IsPut}
use Rattle.ms_machine_code.specs.declared.code.WordSource.{WordSource}
use Rattle.ms_host.specs.State.{nothing_beside}
use Rattle.ms_machine_frames.specs.Meaning.{phis_in, put_of}
use Rattle.ms_machine.specs.Running.{Runs}
use Rattle.ms_trail.specs.declared.traced_run.TracedRun.{TracedRun}
use Rattle.ms_trail_uses.specs.declared.tables.InstRow.{InstRow}
use Rattle.ms_trail_uses.specs.Tabled.{HasRow}
use Rattle.ms_trail_uses.specs.Due.{sets_at}
use Rattle.ms_trail.specs.Ready.{IsReady}
use Rattle.ms_trail.proofs.DueCode.{DueNow, due_now, holds_now}

-- the place of a result is among n values
place_fits : (n phis : ℕ) (rs : List Routine) (k : Code) (to : ℕ) → sets_at k ≡ Some to → Fits n phis rs k → to < n
place_fits n phis rs (code.Binary o f w a b d) to sets (p, q, x, y, z) = subst (λ (j : ℕ). j < n) (same_Some d to sets) z
place_fits n phis rs (code.Icmp o f w a b d) to sets (p, q, x, y, z) = subst (λ (j : ℕ). j < n) (same_Some d to sets) z
place_fits n phis rs (code.Cast o f w a into d) to sets (p, q, x, y, z) = subst (λ (j : ℕ). j < n) (same_Some d to sets) z
place_fits n phis rs (code.Select c a b d) to sets (p, q, x, z) = subst (λ (j : ℕ). j < n) (same_Some d to sets) z
place_fits n phis rs (code.Freeze a d) to sets (x, z) = subst (λ (j : ℕ). j < n) (same_Some d to sets) z
place_fits n phis rs (code.Gep base offset strides d) to sets (x, y, z) = subst (λ (j : ℕ). j < n) (same_Some d to sets) z
place_fits n phis rs k to sets fits = absurd (none-some to sets)

-- it stands for a state of the machine's run
pub runs_of : (f : TracedRun) (k : Code) → IsReady f k → Runs f.m.now f.fiber f.world
runs_of f k r = (r.setup, nothing_beside, r.is.state, r.is.running)

-- an instruction of a module without marks has its roots among the module's
pub root_within : (m : Module) → NoMarks m → (n : ℕ) (f : Func) (b p : ℕ) (i : Inst) → func_at m n ≡ Some f → slice_get (insts_at m n b) p ≡ Some i
    → root_at (func_index m.funcs) m n b p + count_undefs (operands i.op) ≤ count_roots m
root_within m bare n f b p i at due =
    let all : root_at (func_index m.funcs) m n b p + (count_undefs (operands i.op) + (if is_root (func_index m.funcs) i.op then 1 else 0)) ≤ count_roots m =
    subst (λ (k : ℕ). root_at (func_index m.funcs) m n b p + k ≤ count_roots m) (ap (λ (t : Bool). if t then 0 else (count_undefs (operands i.op) + (if is_root (func_index m.funcs) i.op then 1 else 0))) (unmarked_at m bare n b p i due))
    (counted_within (roots_in (func_index m.funcs)) m n f b p i at due)
    in
    omega (arith, all)

module _ (f : TracedRun) (k : Code) (r : IsReady f k) where
  pub now : DueNow f.m.now r.setup r.run f r.is k
  now = due_now f.m.now r.setup r.run f r.is k r.passes r.due

  -- its row
  listed : HasRow f.m.now f.tables.rows.items now.frame.func now.frame.block now.frame.place now.coded.inst
  listed = r.is.tables now.frame.func now.frame.block now.frame.place now.coded.inst now.coded.item

  row_there : slice_get f.tables.rows.items f.fiber.frame.at ≡ Some listed.row
  row_there = ap (slice_get f.tables.rows.items) now.stands.at ∙ listed.stands

  pub row_within : f.fiber.frame.at < length f.tables.rows.items
  row_within = slice_get_within f.tables.rows.items f.fiber.frame.at listed.row row_there

  module _ (row : InstRow) (found : slice_get f.tables.rows.items f.fiber.frame.at ≡ Some row) where
    row_is : row ≡ listed.row
    row_is = same_Some row listed.row (sym found ∙ row_there)

    pub few_roots : row.roots + count_undefs (operands row.inst.now.op) + 1 < 2 ^ 32
    few_roots =
        let inst_is : row.inst.now ≡ now.coded.inst = ap (λ (q : InstRow). q.inst.now) row_is ∙ listed.is.inst_is in
        let roots : row.roots ≡ root_at (func_index f.m.now.funcs) f.m.now now.frame.func now.frame.block now.frame.place = ap (λ (q : InstRow). q.roots) row_is ∙ listed.is.roots in
        let undefs : count_undefs (operands row.inst.now.op) ≡ count_undefs (operands now.coded.inst.op) = ap (λ (i : Inst). count_undefs (operands i.op)) inst_is in
        omega (arith, roots, undefs, root_within f.m.now r.is.bare now.frame.func now.coded.func now.frame.block now.frame.place now.coded.inst now.coded.is now.coded.item, r.is.few)

    pub few_operands : row.roots + count_undefs (operands row.inst.now.op) < 2 ^ 32
    few_operands = omega (arith, few_roots)

  pub filled : 0 < length f.fill.now
  filled = subst (λ (bs : List ℕ). 0 < length bs) (sym r.is.fill) r.is.filled

  pub bare : NoMarks f.m.now
  bare = r.is.bare

  pub few_made : f.world.made + 2 ^ 26 < 2 ^ 64
  few_made = r.room.made

  -- there are as many masks as values
  pub same_count : length f.shade.masks.items ≡ length f.fiber.frame.values.items
  same_count = let h = holds_now f.m.now r.setup r.run f r.is k now in h.masks.count ∙ sym h.words.count

  -- a result has its place among them
  pub place_within : (to : ℕ) → sets_at k ≡ Some to → to < length f.shade.masks.items
  place_within to sets = subst (λ (n : ℕ). to < n) (sym same_count) (place_fits (length f.fiber.frame.values.items) (phis_in r.fits.routines) r.fits.routines k to sets r.fits.fits)

  module _ (size cut : ℕ) (addr : WordSource) (to : ℕ) (is : k ≡ code.Load size cut addr to) where
    load_fits : (size ≤ 8) × IsSource (length f.fiber.frame.values.items) 64 addr × (to < length f.fiber.frame.values.items)
    load_fits = subst (λ (x : Code). Fits (length f.fiber.frame.values.items) (phis_in r.fits.routines) r.fits.routines x) is r.fits.fits

    pub load_small : size ≤ 8
    load_small = load_fits.0

    pub load_source : IsSource (length f.fiber.frame.values.items) 64 addr
    load_source = load_fits.1

    pub load_within : to < length f.shade.masks.items
    load_within = subst (λ (n : ℕ). to < n) (sym same_count) load_fits.2

  module _ (size : ℕ) (count : WordSource) (to : ℕ) (is : k ≡ code.Alloca size count to) where
    alloca_fits : IsSource (length f.fiber.frame.values.items) 64 count × (to < length f.fiber.frame.values.items)
    alloca_fits = subst (λ (x : Code). Fits (length f.fiber.frame.values.items) (phis_in r.fits.routines) r.fits.routines x) is r.fits.fits

    pub alloca_source : IsSource (length f.fiber.frame.values.items) 64 count
    alloca_source = alloca_fits.0

    pub alloca_within : to < length f.shade.masks.items
    alloca_within = subst (λ (n : ℕ). to < n) (sym same_count) alloca_fits.1

  module _ (size : ℕ) (value addr : WordSource) (is : k ≡ code.Store size value addr) where
    store_fits : (size ≤ 8) × IsSource (length f.fiber.frame.values.items) 64 value × IsSource (length f.fiber.frame.values.items) 64 addr
    store_fits = subst (λ (x : Code). Fits (length f.fiber.frame.values.items) (phis_in r.fits.routines) r.fits.routines x) is r.fits.fits

    pub store_small : size ≤ 8
    store_small = store_fits.0

    pub store_value : IsSource (length f.fiber.frame.values.items) 64 value
    store_value = store_fits.1

    pub store_source : IsSource (length f.fiber.frame.values.items) 64 addr
    store_source = store_fits.2

  module _ (func : ℕ) (args : List WordSource) (to : Option ℕ) (is : k ≡ code.Call func args to) where
    pub call_sources : All (IsSource (length f.fiber.frame.values.items) 64) args
    call_sources = (subst (λ (x : Code). Fits (length f.fiber.frame.values.items) (phis_in r.fits.routines) r.fits.routines x) is r.fits.fits).1

  module _ (value : WordSource) (is : k ≡ code.Return value) where
    pub return_source : IsSource (length f.fiber.frame.values.items) 64 value
    return_source = subst (λ (x : Code). Fits (length f.fiber.frame.values.items) (phis_in r.fits.routines) r.fits.routines x) is r.fits.fits

  module _ (e : External) (args : List WordSource) (to : Option ℕ) (is : (types : List Ty) × (k ≡ code.External e args types to)) where
    external_fits : All (IsSource (length f.fiber.frame.values.items) 64) args × IsPut (length f.fiber.frame.values.items) to
    external_fits = subst (λ (x : Code). Fits (length f.fiber.frame.values.items) (phis_in r.fits.routines) r.fits.routines x) is.1 r.fits.fits

    pub external_sources : All (IsSource (length f.fiber.frame.values.items) 64) args
    external_sources = external_fits.0

    pub external_put : IsPut (length f.shade.masks.items) (put_of k)
    external_put = subst (λ (x : Code). IsPut (length f.shade.masks.items) (put_of x)) (sym is.1) (subst (λ (n : ℕ). IsPut n to) (sym same_count) external_fits.1)
