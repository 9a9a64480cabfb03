-- Rows of instructions, one after the other.
use Rattle.std.proofs.Common.{◌≡◌, ◌<◌, ◌+◌, ℕ, List, [], ◌∷◌, ◌++◌, take, length, get_or, refl, sym, ap, subst, ◌∙◌, arith, Option, Some, None, unwrap_or, option_map}
use Rattle.std.specs.Prelude.{slice_get}
use Rattle.std.proofs.lemmas.Option.{slice_get_read}
use Rattle.ms_ir.specs.declared.syntax.Name.{Name}
use Rattle.ms_ir.specs.declared.syntax.Name.TheVariants.{Number}
use Rattle.ms_ir.specs.declared.syntax.Inst.{Inst}
use Rattle.ms_ir.specs.declared.syntax.Block.{Block}
use Rattle.ms_ir.specs.declared.syntax.Func.{Func}
use Rattle.ms_ir.specs.declared.syntax.Module.{Module}
use Rattle.ms_ir.specs.Instructions.{insts_at, blocks_at, root_at, roots_in, func_index, over_insts, over_blocks, over_funcs}
use Rattle.ms_ir.specs.Locals.{function_names}
use Rattle.ms_runs.specs.Control.{block_name}
use Rattle.ms_check_tables.specs.FirstPlace.{first_place}
use Rattle.ms_check_tables.proofs.Tied.{func_index_is}
use Rattle.ms_machine_code.specs.Encodes.{number_of}
use Rattle.ms_machine_compile.specs.Flat.{EachInst, EachBlock, EachFunc, Pushed}
use Rattle.ms_machine_compile.proofs.FlatCode.{in_funcs}
use Rattle.ms_machine_compile.proofs.Numbers.{blocks_are, insts_are}
use Rattle.ms_machine_compile.proofs.Pushes.{inst_more, block_more, func_more, Pushing}
use Rattle.ms_trail_uses.specs.declared.tables.InstRow.{InstRow}
use Rattle.ms_trail_uses.specs.Tabled.{IsRow, AreTables}
use Rattle.ms_trail_uses.proofs.Sums.{inst_start, block_start, func_start}

-- the functions of a module are found by their names
pub functions_found : (m : Module) (functions : List Name) → functions ≡ function_names m → first_place functions ≡ func_index m.funcs
functions_found m functions e = λ j x. (ap (λ ns. first_place ns x) e ∙ sym (func_index_is m.funcs x)) j

-- one instruction more
pub rows_more : (m : Module) (n b i first : ℕ) (func : Name → Option ℕ) (before now after : List InstRow) (insts : List Inst) (block : Name) (x : Inst) (row : InstRow) → i < length insts → x ≡ get_or insts i x
    → func ≡ func_index m.funcs → insts ≡ insts_at m n b → block ≡ block_name m n b → first ≡ root_at (func_index m.funcs) m n b 0
    → row.inst.now ≡ x → row.roots ≡ first + over_insts (roots_in func) (take i insts) → row.block.now ≡ block → after ≡ now ++ row ∷ []
    → Pushing (EachInst (IsRow m n b)) before now i insts → Pushing (EachInst (IsRow m n b)) before after (i + 1) insts
rows_more m n b i first func before now after insts block x row lt is same here named begins inst roots within e p =
    inst_more (IsRow m n b) before now after i insts x lt is
    (record {
      made = row;
      is = e;
      good = record {
        inst_is = inst;
        roots = roots ∙ (λ j. begins j + over_insts (roots_in (same j)) (take i (here j))) ∙ sym (inst_start (roots_in (func_index m.funcs)) m n b i);
        block = within ∙ named;
      };
    })
    p

-- one block more
pub block_rows_more : (m : Module) (n i first roots : ℕ) (func : Name → Option ℕ) (before now after : List InstRow) (blocks : List Block) (k : Block) (insts : List Inst) (name : Name) → i < length blocks → k ≡ get_or blocks i k
    → func ≡ func_index m.funcs → insts ≡ k.insts → name ≡ k.name → blocks ≡ blocks_at m n → first ≡ root_at (func_index m.funcs) m n 0 0 → roots ≡ first + over_blocks (roots_in func) (take i blocks)
    → ((q : Module) (f b : ℕ) → func ≡ func_index q.funcs → insts ≡ insts_at q f b → name ≡ block_name q f b → roots ≡ root_at (func_index q.funcs) q f b 0 → Pushed (EachInst (IsRow q f b) 0) now after insts)
    → Pushing (EachBlock (IsRow m n)) before now i blocks → Pushing (EachBlock (IsRow m n)) before after (i + 1) blocks
block_rows_more m n i first roots func before now after blocks k insts name lt is found same named here begins at pushed p =
    let stands : slice_get (blocks_at m n) i ≡ Some k = ap (λ (bs : List Block). slice_get bs i) (sym here) ∙ slice_get_read blocks (length blocks) i k refl lt is in
    let there : insts_at m n i ≡ k.insts = ap (λ (o : Option Block). unwrap_or (option_map (λ q. q.insts) o) []) stands in
    let name_is : block_name m n i ≡ k.name = ap (λ (o : Option Block). unwrap_or (option_map (λ q. q.name) o) (Number 0)) stands in
    let number : roots ≡ root_at (func_index m.funcs) m n i 0 = at ∙ (λ j. begins j + over_blocks (roots_in (found j)) (take i (here j))) ∙ sym (block_start (roots_in (func_index m.funcs)) m n i) in
    block_more (IsRow m n) before now after i blocks k lt is
    (subst (λ (l : List Inst). Pushed (EachInst (IsRow m n i) 0) now after l) same (pushed m n i found (same ∙ sym there) (named ∙ sym name_is) number)) p

-- one function more
pub func_rows_more : (m : Module) (i roots : ℕ) (func : Name → Option ℕ) (before now after : List InstRow) (f : Func) (blocks : List Block) → i < length m.funcs → f ≡ get_or m.funcs i f
    → func ≡ func_index m.funcs → blocks ≡ f.blocks → roots ≡ over_funcs (roots_in func) (take i m.funcs)
    → ((q : Module) (n : ℕ) → func ≡ func_index q.funcs → blocks ≡ blocks_at q n → roots ≡ root_at (func_index q.funcs) q n 0 0 → Pushed (EachBlock (IsRow q n) 0) now after blocks)
    → Pushing (EachFunc (IsRow m)) before now i m.funcs → Pushing (EachFunc (IsRow m)) before after (i + 1) m.funcs
func_rows_more m i roots func before now after f blocks lt is found same at pushed p =
    let there : blocks_at m i ≡ f.blocks = ap (λ (o : Option Func). unwrap_or (option_map (λ g. g.blocks) o) []) (slice_get_read m.funcs (length m.funcs) i f refl lt is) in
    let number : roots ≡ root_at (func_index m.funcs) m i 0 0 = at ∙ (λ j. over_funcs (roots_in (found j)) (take i m.funcs)) ∙ sym (func_start (roots_in (func_index m.funcs)) m i) in
    func_more (IsRow m) before now after i m.funcs f lt is (subst (λ (l : List Block). Pushed (EachBlock (IsRow m i) 0) now after l) same (pushed m i found (same ∙ sym there) number)) p

-- ---- rows are found by number

func_there : (fs : List Func) (n b p : ℕ) (inst : Inst) → slice_get (unwrap_or (option_map (λ k. k.insts) (slice_get (unwrap_or (option_map (λ g. g.blocks) (slice_get fs n)) []) b)) []) p ≡ Some inst
    → (f : Func) × (k : Block) × ((slice_get fs n ≡ Some f) × (slice_get f.blocks b ≡ Some k) × (slice_get k.insts p ≡ Some inst))
func_there fs n b p inst at = by_func (slice_get fs n) refl at
  where
    by_block : (f : Func) → slice_get fs n ≡ Some f → (o : Option Block) → slice_get f.blocks b ≡ o → slice_get (unwrap_or (option_map (λ k. k.insts) o) []) p ≡ Some inst
        → (f : Func) × (k : Block) × ((slice_get fs n ≡ Some f) × (slice_get f.blocks b ≡ Some k) × (slice_get k.insts p ≡ Some inst))
    by_block f is None there at = absurd (cc)
    by_block f is (Some k) there at = (f, k, (is, there, at))

    by_func : (o : Option Func) → slice_get fs n ≡ o → slice_get (unwrap_or (option_map (λ k. k.insts) (slice_get (unwrap_or (option_map (λ g. g.blocks) o) []) b)) []) p ≡ Some inst
        → (f : Func) × (k : Block) × ((slice_get fs n ≡ Some f) × (slice_get f.blocks b ≡ Some k) × (slice_get k.insts p ≡ Some inst))
    by_func None is at = absurd (cc)
    by_func (Some f) is at = by_block f is (slice_get f.blocks b) refl at

pub tables_are : (m : Module) (rows : List InstRow) → EachFunc (IsRow m) 0 rows m.funcs → AreTables m rows
tables_are m rows each = λ n b p inst at.
    let q = func_there m.funcs n b p inst at in
    let f = q.0 in
    let k = q.1 in
    let r = in_funcs (IsRow m) 0 rows m.funcs each n b p f k inst q.2.0 q.2.1 q.2.2 in
    let number : number_of m n b p ≡ over_funcs (λ inst. 1) (take n m.funcs) + over_blocks (λ inst. 1) (take b f.blocks) + over_insts (λ inst. 1) (take p k.insts) =
    (λ j. over_funcs (λ inst. 1) (take n m.funcs) + over_blocks (λ inst. 1) (take b (blocks_are m n f q.2.0 j)) + over_insts (λ inst. 1) (take p (insts_are m n f b k q.2.0 q.2.1 j)))
    in
    let zero : 0 + n ≡ n = omega arith in
    record {
      row = r.item;
      stands = ap (slice_get rows) number ∙ r.at;
      is = subst (λ (j : ℕ). IsRow m j b p r.item inst) zero r.fits;
    }
