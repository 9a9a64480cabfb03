-- The instrumented form of a formed and valid module that can be instrumented is valid.
use Rattle.std.proofs.Common.{◌≡◌, ℕ, ◌+◌, ◌*◌, [], ◌++◌, true, Some, refl, sym, ap, ◌∙◌, subst, inr, ⊎_elim}
use Rattle.std.specs.Prelude.{flat_map, slice_get, unwrap_or, option_map, ◌⊎◌}
use Rattle.std.proofs.Math.Path.{ap₂}
use Rattle.ms_ir.specs.declared.syntax.Name.{Name}
use Rattle.ms_check_valid.proofs.Finding.{both_empty}
use Rattle.ms_ir.specs.Signatures.{runtime_declarations}
use Rattle.ms_ir.specs.declared.syntax.Func.{Func}
use Rattle.ms_ir.specs.declared.syntax.Module.{Module}
use Rattle.ms_ir.specs.Names.{name_eq, is_reserved, main_name}
use Rattle.ms_runs.specs.World.{Here}
use Rattle.ms_ir.specs.Instructions.{func_at}
use Rattle.ms_check_valid.specs.Formed.{Formed}
use Rattle.ms_ir.specs.Locals.{locals, func_insts, global_names, declared_names, function_names}
use Rattle.ms_check_valid.specs.NamesOnce.{repeats}
use Rattle.ms_check_valid.specs.ExternalsFit.{name_unless, callees, called_names, decl_fits}
use Rattle.ms_check_valid.specs.SizesFit.{sized, func_types, unsized}
use Rattle.ms_check_valid.specs.Uninstrumented.{IsUninstrumented, CanInstrument}
use Rattle.ms_check_valid.specs.Valid.{Valid}
use Rattle.ms_check_valid.specs.ValidAt.{FitsOutside, FitsWithin}
use Rattle.ms_pass_laws.specs.Pass.{Numbering, pass}
use Rattle.ms_pass_form_laws.specs.Numbers.{GoodNumbers}
use Rattle.ms_pass_form_laws.proofs.OncePass.{once_kept}
use Rattle.ms_pass_form_laws.proofs.Within.{from_func, given_by, AllReady, fits_within, pass_valid}
use Rattle.ms_pass_form_laws.proofs.AllReady.{all_ready}
use Rattle.ms_pass_form_laws.proofs.PlainModules.{plain_module}
use Rattle.ms_pass_form_laws.proofs.Outside.{module_ready, symbols_free, main_kept, module_once, types_known, globals_known, globals_fit, functions_fit}
use Rattle.ms_pass_form_laws.proofs.Paths.{In, in_left, in_right}
use Rattle.ms_pass_form_laws.proofs.Initial.{initialisers_kept}
use Rattle.ms_pass_form_laws.proofs.Called.{func_calls, called_func, module_calls, decls_kept, runtime_fits}
use Rattle.ms_pass_form_laws.proofs.Sizes.{func_sized}
use Rattle.ms_pass_form_laws.proofs.SlotSizes.{globals_sized, funcs_sized}
use Rattle.std.proofs.lemmas.Grind.{flat_map-append}

module _ (numbers : ℕ → Numbering) (m : Module) (w : Formed m) (v : Valid m) (can : CanInstrument m) (good : GoodNumbers numbers) where
  abbrev u : IsUninstrumented m
  u = can.plain

  pub ready : AllReady numbers m
  ready = all_ready numbers m v (plain_module m w v can) good (module_ready numbers m u)

  -- no instruction of it breaks a clause
  pub within : FitsWithin (pass numbers m)
  within = fits_within numbers m v (module_ready numbers m u) ready

  -- the locals of each function stand once
  pub locals_once : (n : ℕ) (g : Func) → func_at (pass numbers m) n ≡ Some g → repeats [] (locals g) ≡ []
  locals_once n g e =
      let r = from_func (given_by m) numbers m.funcs 1 0 n g e in
      let h : Here = record { site = r.site_here; root = r.root_here; main = name_eq r.func.name main_name } in
      let k = ready n g e in
      subst (λ x. repeats [] (locals x) ≡ []) (sym r.is) (once_kept (given_by m) r.numbering.env r.numbering.size k.one k.few r.func h (2 * r.numbering.size + 1) k.room k.once k.free)

  -- ---- outside its instructions

  abbrev j : Module
  j = pass numbers m

  abbrev KnownCall : Name → Type 0
  KnownCall x = (is_reserved x ≡ true) ⊎ In (called_names m) x

  only_known : (x : Name) → In (called_names j) x → KnownCall x
  only_known = module_calls KnownCall j.funcs calls_at
    where
      calls_at : (n : ℕ) (g : Func) → slice_get j.funcs n ≡ Some g → (x : Name) → In (flat_map (λ i. callees i.op) (func_insts g)) x → KnownCall x
      calls_at n g e x p =
          let r = from_func (given_by m) numbers m.funcs 1 0 n g e in
          let h : Here = record { site = r.site_here; root = r.root_here; main = name_eq r.func.name main_name } in
          ⊎_elim (λ k. k) (λ k. inr (called_func m.funcs n r.func x r.at k))
          (func_calls m j (given_by m) r.numbering.env r.numbering.size r.func h (2 * r.numbering.size + 1) (ready n g e) x
          (subst (λ y. In (flat_map (λ i. callees i.op) (func_insts y)) x) r.is p))

  declarations_fit : flat_map (λ d. name_unless (decl_fits (called_names j) d) d.name) j.decls ≡ []
  declarations_fit =
      flat_map-append (λ d. name_unless (decl_fits (called_names j) d) d.name) m.decls runtime_declarations
      ∙ ap₂ (λ a b. a ++ b)
      (decls_kept (called_names m) (called_names j) only_known m.decls
      (λ d i. symbols_free m u d.name (in_right (global_names m) (declared_names m ++ function_names m) d.name (in_left (declared_names m) (function_names m) d.name i)))
      (both_empty _ _ (both_empty _ _ v.externals_fit).1).0)
      (runtime_fits (called_names j))

  sizes_fit : unsized j ≡ []
  sizes_fit =
      let parts = both_empty _ _ v.sizes_fit in
      let more = both_empty _ _ parts.1 in
      ap₂ (λ a b. a ++ b) parts.0 (ap₂ (λ a b. a ++ b) (globals_sized m.types 0 m.globals more.0) (funcs_sized m.types j.funcs at_func))
    where
      at_func : (n : ℕ) (g : Func) → slice_get j.funcs n ≡ Some g → sized m.types (func_types g) ≡ true
      at_func n g e =
          let r = from_func (given_by m) numbers m.funcs 1 0 n g e in
          let h : Here = record { site = r.site_here; root = r.root_here; main = name_eq r.func.name main_name } in
          subst (λ x. sized m.types (func_types x) ≡ true) (sym r.is)
          (func_sized m.types m j refl (given_by m) r.numbering.env r.numbering.size r.func h (2 * r.numbering.size + 1) (ready n g e)
          (λ b p i at. (plain_module m w v can).sizes n b p i
          (ap (λ o. slice_get (unwrap_or (option_map (λ k. k.insts) (slice_get (unwrap_or (option_map (λ x. x.blocks) o) []) b)) []) p) r.at ∙ at)))

  outside : FitsOutside j
  outside = record {
    names_once = module_once numbers m u v locals_once;
    types_known = types_known numbers m u v;
    globals_known = globals_known numbers m u v;
    initialisers_agree = initialisers_kept numbers m v u;
    has_main = main_kept numbers m v.has_main;
    globals_fit = globals_fit numbers m u v;
    declarations_fit = declarations_fit;
    functions_fit = functions_fit numbers m u v;
    sizes_fit = sizes_fit;
  }

  -- the instrumented module is valid
  pub instrumented_valid : Valid (pass numbers m)
  instrumented_valid = pass_valid numbers m v (module_ready numbers m u) ready outside
