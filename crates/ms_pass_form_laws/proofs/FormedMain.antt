-- The instrumented form of a formed and valid module is formed, where it isn't too large.
use Rattle.std.proofs.Common.{◌≡◌, ℕ, suc, ◌+◌, ◌*◌, ◌^◌, ◌<◌, ◌≤◌, List, [], ◌∷◌, ◌++◌, Bool, true, false, Some, refl, sym, ap, subst, ◌∙◌, arith, length-append, true≢false}
use Rattle.std.specs.Prelude.{◌&&◌, length, slice_get, unwrap_or, option_map, if◌then◌else◌}
use Rattle.std.specs.List.{list_all}
use Rattle.std.proofs.Math.Path.{ap₂}
use Rattle.ms_ir.specs.declared.syntax.Ty.{Int}
use Rattle.ms_ir.specs.declared.syntax.Func.{Func}
use Rattle.ms_ir.specs.declared.syntax.Module.{Module}
use Rattle.ms_ir.specs.Names.{bit_moves, name_eq, main_name}
use Rattle.ms_runs.specs.World.{Here}
use Rattle.ms_ir.specs.Instructions.{over_funcs, func_at, is_phi}
use Rattle.ms_check_valid.specs.FormedCode.{is_body, ends_well}
use Rattle.ms_check_valid.specs.Formed.{Formed, count_written, global_formed, decl_formed, block_formed, func_formed}
use Rattle.ms_check_valid.specs.Uninstrumented.{CanInstrument}
use Rattle.ms_check_valid.specs.Valid.{Valid}
use Rattle.ms_runs_good_laws.proofs.Starts.{all_get, entry_of, formed_insts}
use Rattle.ms_check_valid.proofs.TypeShapes.{type_formed-array}
use Rattle.ms_check_valid.proofs.SmallNumbers.{blocks_of}
use Rattle.ms_ir.specs.Signatures.{slot_globals, runtime_declarations}
use Rattle.ms_pass_laws.specs.Pass.{Numbering, pass}
use Rattle.ms_pass_laws.specs.Numbers.{numbering}
use Rattle.ms_pass_laws.proofs.NumberedValues.{numbers_one, numbers_few}
use Rattle.ms_ir.specs.declared.syntax.Inst.{Inst}
use Rattle.ms_ir.specs.declared.syntax.Block.{Block}
use Rattle.ms_pass_form_laws.specs.Numbers.{GoodNumbers}
use Rattle.ms_pass_form_laws.proofs.Within.{from_func, given_by}
use Rattle.ms_pass_form_laws.proofs.PlainModules.{formed_at}
use Rattle.ms_pass_form_laws.proofs.Main.{ready, instrumented_valid}
use Rattle.ms_pass_form_laws.proofs.CostSum.{funcs_cost, funcs_bound, funcs_few}
use Rattle.ms_pass_form_laws.proofs.FormedFuncs.{func_stays_formed}
use Rattle.ms_pass_form_laws.proofs.Lists.{both_all}

all_funcs : (p : Func → Bool) (fs : List Func) → ((n : ℕ) (f : Func) → slice_get fs n ≡ Some f → p f ≡ true) → list_all p fs ≡ true
all_funcs p [] h = refl
all_funcs p (f ∷ fs) h = ap₂ (λ a b. a && b) (h 0 f refl) (all_funcs p fs (λ n g e. h (suc n) g e))

slots_formed : list_all global_formed slot_globals ≡ true
unfolding bit_moves
slots_formed = ap₂ (λ a b. ((true && a) && true) && (((true && b) && true) && true)) (type_formed-array 100 (Int 64)) (type_formed-array 100 (Int 32))

-- a body that begins with no phi has none
no_phis : (is : List Inst) (i : Inst) → is_body is ≡ true → slice_get is 0 ≡ Some i → is_phi i.op ≡ false → ends_well is ≡ true
no_phis [] i e at plain = absurd (true≢false (sym e))
no_phis (k ∷ is) i e at plain = sym (ap (λ c. if c then is_body is else ends_well (k ∷ is)) (ap (λ o. is_phi (unwrap_or o k).op) at ∙ plain)) ∙ e

module _ (numbers : ℕ → Numbering) (m : Module) (w : Formed m) (v : Valid m) (can : CanInstrument m) (good : GoodNumbers numbers) where
  -- the instrumented module is formed, where there is room for four globals, and where few instructions and operands are written
  pub instrumented_formed : length m.globals + 4 < 2 ^ 30 → over_funcs count_written (pass numbers m).funcs < 2 ^ 30 → Formed (pass numbers m)
  instrumented_formed room few = record {
    types = w.types;
    globals = both_all global_formed m.globals slot_globals w.globals slots_formed;
    declarations = both_all decl_formed m.decls runtime_declarations w.declarations refl;
    functions = all_funcs func_formed (pass numbers m).funcs at_func;
    few_globals = few_slots;
    few_operands = few;
  }
    where
      few_slots : length (m.globals ++ slot_globals) < 2 ^ 30
      few_slots = let e = length-append m.globals slot_globals in omega (arith, e, room)

      -- the first block of a function has no phis
      first_ends : (n : ℕ) (f : Func) → func_at m n ≡ Some f → (k : Block) → slice_get f.blocks 0 ≡ Some k → ends_well k.insts ≡ true
      first_ends n f at k e =
          let entry = entry_of m w v n f at in
          let same : entry.block ≡ k = ap (λ o. unwrap_or o k) (sym entry.at ∙ e) in
          let blocks = blocks_of f (all_get func_formed m.funcs n f w.functions at) in
          let body = (formed_insts k (all_get block_formed f.blocks 0 k blocks.1 e)).0 in
          no_phis k.insts entry.inst body (subst (λ b. slice_get b.insts 0 ≡ Some entry.inst) same entry.due) entry.plain

      at_func : (n : ℕ) (g : Func) → slice_get (pass numbers m).funcs n ≡ Some g → func_formed g ≡ true
      at_func n g e =
          let r = from_func (given_by m) numbers m.funcs 1 0 n g e in
          let h : Here = record { site = r.site_here; root = r.root_here; main = name_eq r.func.name main_name } in
          subst (λ x. func_formed x ≡ true) (sym r.is)
          (func_stays_formed m (pass numbers m) (given_by m) r.numbering.env r.numbering.size r.func h (2 * r.numbering.size + 1) (ready numbers m w v can good n g e)
          (all_get func_formed m.funcs n r.func w.functions r.at) (first_ends n r.func r.at)
          (λ b p i at. formed_at m w n b p i (ap (λ o. slice_get (unwrap_or (option_map (λ k. k.insts) (slice_get (unwrap_or (option_map (λ x. x.blocks) o) []) b)) []) p) r.at ∙ at)))

-- the instrumented form of a module that can be instrumented is formed and valid
pub instrumented_formed_valid : (numbers : ℕ → Numbering) (m : Module) → Formed m → Valid m → CanInstrument m → GoodNumbers numbers → Formed (pass numbers m) × Valid (pass numbers m)
instrumented_formed_valid numbers m w v can good = (
  instrumented_formed numbers m w v can good (room (length m.globals) can.globals)
      (few _ _ _ _ _ (funcs_cost (given_by m) numbers m.funcs 1 0 can.parameters) (funcs_bound m.funcs) (funcs_few m.funcs w.functions) can.instructions can.operands),
  instrumented_valid numbers m w v can good,
)
  where
    room : (n : ℕ) → n ≤ 16384 → n + 4 < 2 ^ 30
    room n l = omega (arith, l)

    few : (a b c d k : ℕ) → a ≤ b + 1000 * k → b ≡ 200 * c + 55 * d → k ≤ c → c ≤ 2 ^ 17 → d ≤ 2 ^ 20 → a < 2 ^ 30
    few a b c d k l e h p q = omega (arith, l, e, h, p, q)

-- the numbering of a module by the order of its text is good
numbering_good : (m : Module) → CanInstrument m → GoodNumbers (numbering m)
numbering_good m can = record { one = numbers_one m can.plain.free; few = numbers_few m can.plain.free }

pub numbered_formed_valid : (m : Module) → Formed m → Valid m → CanInstrument m → Formed (pass (numbering m) m) × Valid (pass (numbering m) m)
numbered_formed_valid m w v can = instrumented_formed_valid (numbering m) m w v can (numbering_good m can)
