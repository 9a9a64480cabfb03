-- No instruction of the instrumented module breaks a clause.
use Rattle.std.proofs.Common.{◌≡◌, ℕ, zero, suc, ◌+◌, ◌*◌, ◌≤◌, List, [], ◌∷◌, Some, refl, sym, ap, subst, ◌∙◌, arith}
use Rattle.std.specs.Prelude.{slice_get, unwrap_or, option_map}
use Rattle.ms_ir.specs.declared.syntax.Func.{Func}
use Rattle.ms_ir.specs.declared.syntax.Module.{Module}
use Rattle.ms_ir.specs.Names.{name_eq, main_name}
use Rattle.ms_runs.specs.World.{Here}
use Rattle.ms_ir.specs.Instructions.{func_index, func_at, site_at, one_unmarked, roots_in, over_blocks, over_funcs}
use Rattle.ms_check_valid.specs.Paths.{insts_of}
use Rattle.ms_ir.specs.Spots.{spot}
use Rattle.ms_check_valid.specs.Valid.{Valid}
use Rattle.ms_check_valid.specs.ValidAt.{FitsAt, FitsOutside, FitsWithin}
use Rattle.ms_check_valid.proofs.AtInstructions.{fits_at}
use Rattle.ms_check_valid.proofs.ByParts.{valid_by_parts}
use Rattle.ms_pass_tasks.specs.Environments.{Given}
use Rattle.ms_pass_laws.specs.Pass.{Numbering, pass_funcs, pass}
use Rattle.ms_pass_form_laws.proofs.PassPaths.{passed}
use Rattle.ms_pass_form_laws.proofs.Inserted.{ConstGood}
use Rattle.ms_pass_form_laws.proofs.FuncClauses.{FuncReady, ModuleReady, func_fits}

-- a function of the instrumented module is the instrumented form of the program's function at its place
pub record FromFunc (given : Given) (numbers : ℕ → Numbering) (fs : List Func) (n : ℕ) (site root : ℕ) (g : Func) : Type 0 where
  pub func : Func
  pub at : slice_get fs n ≡ Some func
  pub numbering : Numbering
  pub numbered : numbering ≡ numbers n
  pub site_here : ℕ
  pub root_here : ℕ
  pub sites : site_here + over_blocks one_unmarked func.blocks ≤ site + over_funcs one_unmarked fs
  pub roots : root_here + over_blocks (roots_in given.func) func.blocks ≤ root + over_funcs (roots_in given.func) fs
  pub is : g ≡ passed given numbering.env func (record { site = site_here; root = root_here; main = name_eq func.name main_name }) (2 * numbering.size + 1)

pub from_func : (given : Given) (numbers : ℕ → Numbering) (fs : List Func) (site root n : ℕ) (g : Func) → slice_get (pass_funcs given numbers fs site root) n ≡ Some g
    → FromFunc given numbers fs n site root g
from_func given numbers [] site root n g e = grind arith
from_func given numbers (f ∷ fs) site root zero g e = record {
  func = f;
  at = refl;
  numbering = numbers 0;
  numbered = refl;
  site_here = site;
  root_here = root;
  sites = first site (over_blocks one_unmarked f.blocks) (over_funcs one_unmarked fs);
  roots = first root (over_blocks (roots_in given.func) f.blocks) (over_funcs (roots_in given.func) fs);
  is = ap (λ o. unwrap_or o g) (sym e);
}
  where
    first : (a b c : ℕ) → a + b ≤ a + (b + c)
    first a b c = omega arith
from_func given numbers (f ∷ fs) site root (suc n) g e =
    let r = from_func given (λ k. numbers (k + 1)) fs (site + over_blocks one_unmarked f.blocks) (root + over_blocks (roots_in given.func) f.blocks) n g e in
    record {
      func = r.func;
      at = r.at;
      numbering = r.numbering;
      numbered = r.numbered ∙ ap numbers {x = n + 1} {y = suc n} (omega arith);
      site_here = r.site_here;
      root_here = r.root_here;
      sites = later r.site_here _ site (over_blocks one_unmarked f.blocks) (over_funcs one_unmarked fs) r.sites;
      roots = later r.root_here _ root (over_blocks (roots_in given.func) f.blocks) (over_funcs (roots_in given.func) fs) r.roots;
      is = r.is;
    }
  where
    later : (x y a b c : ℕ) → x + y ≤ a + b + c → x + y ≤ a + (b + c)
    later x y a b c l = omega (arith, l)

abbrev pub given_by : Module → Given
given_by m = record { types = m.types; func = func_index m.funcs }

-- each function of a module is ready to be instrumented
abbrev pub AllReady : (ℕ → Numbering) → Module → Type 0
AllReady numbers m = (n : ℕ) (g : Func) (e : func_at (pass numbers m) n ≡ Some g) →
    let r = from_func (given_by m) numbers m.funcs 1 0 n g e in
    FuncReady (given_by m) r.numbering.env r.numbering.size r.func (record { site = r.site_here; root = r.root_here; main = name_eq r.func.name main_name }) (2 * r.numbering.size + 1)
    (ConstGood m (pass numbers m))

pub fits_within : (numbers : ℕ → Numbering) (m : Module) → Valid m → ModuleReady m (pass numbers m) → AllReady numbers m → FitsWithin (pass numbers m)
fits_within numbers m v a ready n b p g i e due =
    let j = pass numbers m in
    let r = from_func (given_by m) numbers m.funcs 1 0 n g e in
    let h : Here = record { site = r.site_here; root = r.root_here; main = name_eq r.func.name main_name } in
    let due_in : slice_get (insts_of g b) p ≡ Some i =
    ap (λ o. slice_get (unwrap_or (option_map (λ k. k.insts) (slice_get (unwrap_or (option_map (λ x. x.blocks) o) []) b)) []) p) (sym e) ∙ due in
    subst (λ x. FitsAt j (spot x b p (site_at j n b p)) i) (sym r.is)
    (func_fits m j (given_by m) r.numbering.env r.numbering.size r.func h (2 * r.numbering.size + 1) (ready n g e) a
    (λ c q k at. (
      site_at m n c q,
      fits_at m v n c q r.func k r.at
          (ap (λ o. slice_get (unwrap_or (option_map (λ k. k.insts) (slice_get (unwrap_or (option_map (λ x. x.blocks) o) []) c)) []) q) r.at ∙ at),
    ))
    b p (site_at j n b p) i (subst (λ x. slice_get (insts_of x b) p ≡ Some i) r.is due_in))

-- so the instrumented module is valid where it breaks no clause outside its instructions
pub pass_valid : (numbers : ℕ → Numbering) (m : Module) → Valid m → ModuleReady m (pass numbers m) → AllReady numbers m → FitsOutside (pass numbers m) → Valid (pass numbers m)
pass_valid numbers m v a ready outside = valid_by_parts (pass numbers m) outside (fits_within numbers m v a ready)
