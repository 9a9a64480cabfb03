-- A module and what is left when its marked instructions are gone have the same setting, names, parts and start.
use Rattle.std.proofs.Common.{◌≡◌, ℕ, suc, ◌+◌, ◌%◌, ◌^◌, List, [], ◌∷◌, Bool, true, false, Option, Some, None, refl, sym, ap, ◌∙◌, arith}
use Rattle.std.specs.Prelude.{map, filter, cond, not, if◌then◌else◌, option_map, unwrap_or, slice_get}
use Rattle.std.proofs.Math.Path.{ap₂}
use Rattle.std.proofs.lemmas.Option.{slice_get-map}
use Rattle.ms_ir.specs.declared.syntax.Name.{Name}
use Rattle.ms_ir.specs.declared.syntax.Name.TheVariants.{Number}
use Rattle.ms_ir.specs.declared.syntax.Inst.{Inst}
use Rattle.ms_ir.specs.declared.syntax.Block.{Block}
use Rattle.ms_ir.specs.declared.syntax.Func.{Func}
use Rattle.ms_ir.specs.declared.syntax.GlobalVar.{GlobalVar}
use Rattle.ms_ir.specs.declared.syntax.Module.{Module}
use Rattle.ms_runs.specs.declared.runs.Setup.{Setup}
use Rattle.ms_ir.specs.Names.{name_eq, is_reserved, lookup, slots, main_name}
use Rattle.ms_ir.specs.Layout.{Types, size_in}
use Rattle.ms_ir.specs.Areas.{area_base, room, Fixed}
use Rattle.ms_runs.specs.Memory.{make, next_base}
use Rattle.ms_runs.specs.World.{World, first_world}
use Rattle.ms_ir.specs.Instructions.{func_index, func_at, blocks_at, insts_at, over_insts, over_blocks, over_funcs, one_unmarked, roots_in, count_roots, is_unmarked, strip_block, strip_func, strip}
use Rattle.ms_runs.specs.Globals.{address_from, address_of, write_init, make_globals}
use Rattle.ms_runs.specs.Control.{Reading, func_name, block_name, params_at}
use Rattle.ms_runs.specs.Plain.{setting_of, start_world, start_frame}
pub use Rattle.ms_runs_laws.specs.Marks.{Skips}

-- ---- counts that pass over marked instructions

pub insts_kept : (c : Inst → ℕ) → Skips c → (is : List Inst) → over_insts c (filter is_unmarked is) ≡ over_insts c is
insts_kept c h [] = refl
insts_kept c h (i ∷ is) = by_mark i.marked refl (insts_kept c h is)
  where
    by_mark : (b : Bool) → i.marked ≡ b → over_insts c (filter is_unmarked is) ≡ over_insts c is
        → over_insts c (cond (not b) (i ∷ filter is_unmarked is) (filter is_unmarked is)) ≡ c i + over_insts c is
    by_mark true e same = omega (arith, same, h i e)
    by_mark false e same = ap (λ k. c i + k) same

pub blocks_kept : (c : Inst → ℕ) → Skips c → (bs : List Block) → over_blocks c (map strip_block bs) ≡ over_blocks c bs
blocks_kept c h [] = refl
blocks_kept c h (b ∷ bs) = ap₂ (λ x y. x + y) (insts_kept c h b.insts) (blocks_kept c h bs)

pub funcs_kept : (c : Inst → ℕ) → Skips c → (fs : List Func) → over_funcs c (map strip_func fs) ≡ over_funcs c fs
funcs_kept c h [] = refl
funcs_kept c h (f ∷ fs) = ap₂ (λ x y. x + y) (blocks_kept c h f.blocks) (funcs_kept c h fs)

pub roots_skip : (func : Name → Option ℕ) → Skips (roots_in func)
roots_skip func i e = ap (λ b. if b then 0 else roots_in func (record i { marked = false })) e

pub sites_skip : Skips one_unmarked
sites_skip i e = ap (λ b. if b then 0 else 1) e

-- ---- names and parts

pub func_kept : (fs : List Func) (x : Name) → func_index (map strip_func fs) x ≡ func_index fs x
func_kept [] x = refl
func_kept (f ∷ fs) x = ap (λ k. if name_eq f.name x then Some 0 else option_map suc k) (func_kept fs x)

pub func_stripped : (m : Module) (f : ℕ) → func_at (strip m) f ≡ option_map strip_func (func_at m f)
func_stripped m f = slice_get-map strip_func m.funcs f

pub blocks_stripped : (m : Module) (f : ℕ) → blocks_at (strip m) f ≡ map strip_block (blocks_at m f)
blocks_stripped m f = ap (λ o. unwrap_or (option_map (λ g. g.blocks) o) []) (func_stripped m f) ∙ of_func (func_at m f)
  where
    of_func : (o : Option Func) → unwrap_or (option_map (λ g. g.blocks) (option_map strip_func o)) [] ≡ map strip_block (unwrap_or (option_map (λ g. g.blocks) o) [])
    of_func None = refl
    of_func (Some g) = refl

pub insts_stripped : (m : Module) (f b : ℕ) → insts_at (strip m) f b ≡ filter is_unmarked (insts_at m f b)
insts_stripped m f b =
    ap (λ l. unwrap_or (option_map (λ k. k.insts) (slice_get l b)) []) (blocks_stripped m f)
    ∙ ap (λ o. unwrap_or (option_map (λ k. k.insts) o) []) (slice_get-map strip_block (blocks_at m f) b)
    ∙ of_block (slice_get (blocks_at m f) b)
  where
    of_block : (o : Option Block) → unwrap_or (option_map (λ k. k.insts) (option_map strip_block o)) [] ≡ filter is_unmarked (unwrap_or (option_map (λ k. k.insts) o) [])
    of_block None = refl
    of_block (Some k) = refl

pub func_name_kept : (m : Module) (f : ℕ) → func_name (strip m) f ≡ func_name m f
func_name_kept m f = ap (λ o. unwrap_or (option_map (λ g. g.name) o) (Number 0)) (func_stripped m f) ∙ of_func (func_at m f)
  where
    of_func : (o : Option Func) → unwrap_or (option_map (λ g. g.name) (option_map strip_func o)) (Number 0) ≡ unwrap_or (option_map (λ g. g.name) o) (Number 0)
    of_func None = refl
    of_func (Some g) = refl

pub params_kept : (m : Module) (f : ℕ) → params_at (strip m) f ≡ params_at m f
params_kept m f = ap (λ o. unwrap_or (option_map (λ g. g.params) o) []) (func_stripped m f) ∙ of_func (func_at m f)
  where
    of_func : (o : Option Func) → unwrap_or (option_map (λ g. g.params) (option_map strip_func o)) [] ≡ unwrap_or (option_map (λ g. g.params) o) []
    of_func None = refl
    of_func (Some g) = refl

pub block_name_kept : (m : Module) (f b : ℕ) → block_name (strip m) f b ≡ block_name m f b
block_name_kept m f b =
    ap (λ l. unwrap_or (option_map (λ k. k.name) (slice_get l b)) (Number 0)) (blocks_stripped m f)
    ∙ ap (λ o. unwrap_or (option_map (λ k. k.name) o) (Number 0)) (slice_get-map strip_block (blocks_at m f) b)
    ∙ of_block (slice_get (blocks_at m f) b)
  where
    of_block : (o : Option Block) → unwrap_or (option_map (λ k. k.name) (option_map strip_block o)) (Number 0) ≡ unwrap_or (option_map (λ k. k.name) o) (Number 0)
    of_block None = refl
    of_block (Some k) = refl

-- ---- globals

-- the globals whose names are not reserved
abbrev unreserved : List GlobalVar → List GlobalVar
unreserved gs = filter (λ g. not (is_reserved g.name)) gs

address_kept : (types : Types) (gs : List GlobalVar) (at : ℕ) (x : Name) → address_from types (unreserved gs) at x ≡ address_from types gs at x
address_kept types [] at x = refl
address_kept types (g ∷ gs) at x = by_name (is_reserved g.name) refl (address_kept types gs at x) (address_kept types gs (at + room (size_in types g.ty)) x)
  where
    by_name : (b : Bool) → is_reserved g.name ≡ b
        → address_from types (unreserved gs) at x ≡ address_from types gs at x
        → address_from types (unreserved gs) (at + room (size_in types g.ty)) x ≡ address_from types gs (at + room (size_in types g.ty)) x
        → address_from types (cond (not b) (g ∷ unreserved gs) (unreserved gs)) at x
        ≡ (if b then address_from types gs at x else (if name_eq g.name x then at else address_from types gs (at + room (size_in types g.ty)) x))
    by_name true e here beyond = here
    by_name false e here beyond =
        ap (λ b. if b then address_from types (unreserved gs) at x else (if name_eq g.name x then at else address_from types (unreserved gs) (at + room (size_in types g.ty)) x)) e
        ∙ ap (λ k. if name_eq g.name x then at else k) beyond

pub addresses_kept : (m : Module) (x : Name) → address_of (strip m) x ≡ address_of m x
addresses_kept m x =
    ap₂ (λ f k. elim (lookup slots x) [ Some p ↦ p.0 | None ↦ elim f [ Some n ↦ n % 2 ^ 64 | None ↦ k ] ]) (func_kept m.funcs x)
    (address_kept m.types m.globals (area_base Fixed) x)

-- the world when a global has its place and its bytes
abbrev placed : Types → (Name → ℕ) → GlobalVar → World → World
placed types address g w = write_init types address (next_base Fixed w) g.ty g.init (make Fixed (size_in types g.ty) w)

pub globals_kept : (types : Types) (address : Name → ℕ) (gs : List GlobalVar) (w : World) → make_globals types address (unreserved gs) w ≡ make_globals types address gs w
globals_kept types address [] w = refl
globals_kept types address (g ∷ gs) w = by_name (is_reserved g.name) refl (globals_kept types address gs w) (globals_kept types address gs (placed types address g w))
  where
    by_name : (b : Bool) → is_reserved g.name ≡ b
        → make_globals types address (unreserved gs) w ≡ make_globals types address gs w
        → make_globals types address (unreserved gs) (placed types address g w) ≡ make_globals types address gs (placed types address g w)
        → make_globals types address (cond (not b) (g ∷ unreserved gs) (unreserved gs)) w
        ≡ (if b then make_globals types address gs w else make_globals types address gs (placed types address g w))
    by_name true e here beyond = here
    by_name false e here beyond =
        ap (λ b. if b then make_globals types address (unreserved gs) w else make_globals types address (unreserved gs) (placed types address g w)) e
        ∙ beyond

-- ---- settings and starts

pub roots_kept : (m : Module) → count_roots (strip m) ≡ count_roots m
roots_kept m =
    ap (λ f. over_funcs (roots_in f) (map strip_func m.funcs)) (λ i x. func_kept m.funcs x i)
    ∙ funcs_kept (roots_in (func_index m.funcs)) (roots_skip _) m.funcs

pub setting_kept : (m : Module) (s : Setup) → setting_of (strip m) s ≡ setting_of m s
setting_kept m s = λ i. record {
  types = m.types;
  address = λ x. addresses_kept m x i;
  func = λ x. func_kept m.funcs x i;
  fill = s.fill;
  limit = s.reports;
  once = s.once;
  roots = roots_kept m i;
}

pub start_kept : (m : Module) (s : Setup) → start_world (strip m) s ≡ start_world m s
start_kept m s =
    ap (λ address. make_globals m.types address (unreserved m.globals) (first_world s.input)) (λ i x. addresses_kept m x i)
    ∙ globals_kept m.types (address_of m) m.globals (first_world s.input)

pub frame_kept : {V : Type 0} (reading : Reading V) (m : Module) → start_frame reading (strip m) ≡ start_frame reading m
frame_kept reading m = λ i. record {
  func = unwrap_or (func_kept m.funcs main_name i) 0;
  block = 0;
  place = 0;
  values = λ x. reading.unset;
  mark = 0x720000000000;
  heap = [];
}

-- ---- a module j with inserted code that strips to m

pub setting_same : (m j : Module) → strip j ≡ m → (s : Setup) → setting_of j s ≡ setting_of m s
setting_same m j e s = sym (setting_kept j s) ∙ ap (λ k. setting_of k s) e

pub start_same : (m j : Module) → strip j ≡ m → (s : Setup) → start_world j s ≡ start_world m s
start_same m j e s = sym (start_kept j s) ∙ ap (λ k. start_world k s) e

pub frame_same : {V : Type 0} (reading : Reading V) (m j : Module) → strip j ≡ m → start_frame reading j ≡ start_frame reading m
frame_same reading m j e = sym (frame_kept reading j) ∙ ap (λ k. start_frame reading k) e
