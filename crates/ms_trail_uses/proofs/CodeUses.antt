-- What code finds to be used is what the instruction that it stands for checks.
use Rattle.std.proofs.Common.{◌≡◌, ◌+◌, ◌-◌, ℕ, zero, suc, Bool, true, false, eqb, List, [], ◌∷◌, map, if◌then◌else◌, Option, Some, None, refl, sym, ap, ap₂, ◌∙◌, subst, true≢false}
use Rattle.std.specs.Prelude.{is_some}
use Rattle.ms_ir.specs.Names.{lookup, externals}
use Rattle.ms_ir.specs.declared.calls.External.{External}
use Rattle.ms_ir.specs.declared.syntax.Name.{Name}
use Rattle.ms_ir.specs.declared.syntax.Ty.{Ty}
use Rattle.ms_ir.specs.declared.syntax.Operand.{Operand}
use Rattle.ms_ir.specs.declared.syntax.Op.{Op}
use Rattle.ms_ir.specs.declared.syntax.Op.TheVariants as op
use Rattle.ms_ir.specs.declared.syntax.Inst.{Inst}
use Rattle.ms_ir.specs.Layout.{width_of}
use Rattle.ms_ir.specs.Instructions.{operands, one_undef, func_index}
use Rattle.ms_runs.specs.declared.runs.Setup.{Setup}
use Rattle.ms_runs.specs.World.{World}
use Rattle.ms_runs.specs.Control.{read_all}
use Rattle.ms_runs.specs.Act.{operand_word}
use Rattle.ms_runs.specs.Origins.{asks_string_at}
use Rattle.ms_runs.specs.Plain.{setting_of}
use Rattle.ms_runs.specs.Poisoned.{Poisoned}
use Rattle.ms_runs.specs.Masks.{word_at}
use Rattle.ms_runs.specs.Shadow.{operand_mask, read_poisoned}
use Rattle.ms_runs.specs.Uses as use_of
use Rattle.ms_runs.specs.Uses.{uses, callee_uses}
use Rattle.ms_machine_code.specs.declared.code.WordSource.{WordSource}
use Rattle.ms_machine_code.specs.declared.code.Code.{Code}
use Rattle.ms_machine_code.specs.declared.code.Code.TheVariants as code
use Rattle.ms_machine_code.specs.Words.{word_of}
use Rattle.ms_machine_code.specs.Reads.{Reads, ReadsAll}
use Rattle.ms_machine_code.specs.Encodes.{Where, Encodes, in_main}
use Rattle.ms_trail_masks.specs.Shades.{mask_of, HoldsShades}
use Rattle.ms_trail_masks.specs.Results.{bare}
use Rattle.ms_trail_masks.proofs.Reading.{reads_mask, source_difference}
use Rattle.ms_trail_uses.specs.declared.used.Used.{Used}
use Rattle.ms_trail_uses.specs.declared.used.Used.TheVariants as read
use Rattle.ms_runs_uses.specs.Uses.{op_uses}
use Rattle.ms_trail_uses.specs.Used.{range_read, string_read, use_read, or_used, first_read, op_read, seen, code_read}

-- ---- words without their origins

abbrev bare_all : List Poisoned → List Poisoned
bare_all ps = map (λ p. bare p.value p.mask) ps

bare_value : (ps : List Poisoned) (k : ℕ) → (word_at k (bare_all ps)).value ≡ (word_at k ps).value
bare_value [] k = refl
bare_value (p ∷ ps) zero = refl
bare_value (p ∷ ps) (suc k) = bare_value ps k

bare_mask : (ps : List Poisoned) (k : ℕ) → (word_at k (bare_all ps)).mask ≡ (word_at k ps).mask
bare_mask [] k = refl
bare_mask (p ∷ ps) zero = refl
bare_mask (p ∷ ps) (suc k) = bare_mask ps k

bare_line : (w : World) (ps : List Poisoned) (a : ℕ) → string_read w (word_at a (bare_all ps)).value ≡ string_read w (word_at a ps).value
bare_line w ps a = ap (string_read w) (bare_value ps a)

bare_use : (w : World) (ps : List Poisoned) (u : use_of.CheckedUse) → use_read w (bare_all ps) u ≡ use_read w ps u
bare_use w ps (use_of.Word kind k) = ap (λ (m : ℕ). if eqb m 0 then None else Some (read.Operand k)) (bare_mask ps k)
bare_use w ps (use_of.Bytes kind a n) = ap₂ (range_read w) (bare_value ps a) (bare_value ps n)
bare_use w ps (use_of.Line a) = bare_line w ps a
bare_use w ps (use_of.Asked a) = ap₂ (λ format rest. if asks_string_at w format a then rest else None) (bare_value ps 0) (bare_line w ps a)

pub bare_first : (w : World) (ps : List Poisoned) (us : List use_of.CheckedUse) → first_read w (bare_all ps) us ≡ first_read w ps us
bare_first w ps [] = refl
bare_first w ps (u ∷ us) = ap₂ or_used (bare_use w ps u) (bare_first w ps us)

-- ---- words that code reads

module _ (fill xs ms : List ℕ) (at : Where) (u : Setup) (values : Name → Poisoned) (filled : u.fill ≡ fill) (holds : HoldsShades at.names xs ms values) where
  pub source_word : (w : ℕ) (s : WordSource) (o : Operand) → Reads at.whole at.names w s o → word_of fill xs s ≡ operand_word (setting_of at.whole u) (λ x. (values x).value) w o
  source_word w s o reads = ap (λ f. word_of f xs s) (sym filled) ∙ reads u xs (λ x. (values x).value) holds.words

  pub source_mask : (w : ℕ) (s : WordSource) (o : Operand) → Reads at.whole at.names w s o → mask_of ms s ≡ operand_mask values w o
  source_mask w s o reads = reads_mask at.whole at.names w s o reads ms values holds.masks

  pub seen_all : (ss : List WordSource) (os : List (Ty × Operand)) → ReadsAll at.whole at.names ss os → (root : ℕ) → seen fill xs ms ss ≡ bare_all (read_all (read_poisoned (setting_of at.whole u) values) os root)
  seen_all [] [] reads root = refl
  seen_all [] (o ∷ os) reads root = absurd reads
  seen_all (s ∷ ss) [] reads root = absurd reads
  seen_all (s ∷ ss) (o ∷ os) reads root =
      ap₂ (λ p ps. p ∷ ps) (ap₂ bare (source_word (width_of o.0) s o.1 reads.0) (source_mask (width_of o.0) s o.1 reads.0)) (seen_all ss os reads.1 (root + one_undef o.1))

-- what an instruction is checked for, as the shadow meaning reads it
abbrev pub inst_read : Where → Setup → (Name → Poisoned) → (root : ℕ) → World → Op → Option Used
inst_read at u values root world o = first_read world (read_all (read_poisoned (setting_of at.whole u) values) (operands o) root) (uses (func_index at.whole.funcs) (in_main at) o)

module _ (fill xs ms : List ℕ) (at : Where) (u : Setup) (values : Name → Poisoned) (root : ℕ) (world : World) (filled : u.fill ≡ fill) (holds : HoldsShades at.names xs ms values) where
  -- of an operation whose operands sources read
  first_same : (ss : List WordSource) (main : Bool) (e : Option External) (o : Op) → ReadsAll at.whole at.names ss (operands o) → op_uses main e o ≡ uses (func_index at.whole.funcs) (in_main at) o → (all : Op) → all ≡ o
      → op_read world (seen fill xs ms ss) main e all ≡ inst_read at u values root world all
  first_same ss main e o reads same all is =
      let words = read_all (read_poisoned (setting_of at.whole u) values) (operands o) root in
      ap (op_read world (seen fill xs ms ss) main e) is ∙ ap (λ (ps : List Poisoned). op_read world ps main e o) (seen_all fill xs ms at u values filled holds ss (operands o) reads root)
      ∙ bare_first world words (op_uses main e o) ∙ ap (first_read world words) same ∙ sym (ap (inst_read at u values root world) is)

  -- code that stands for an unmarked instruction
  pub code_reads : (k : Code) (inst : Inst) → inst.marked ≡ false → Encodes at k inst → code_read fill xs ms world inst.op k ≡ inst_read at u values root world inst.op
  code_reads (code.Binary b flags w x y to) inst bare (t, p, q, (is, wide, rx, ry, res)) =
      first_same (x ∷ y ∷ []) false None (op.Binary b flags t p q)
      (subst (λ (n : ℕ). Reads at.whole at.names n x p) (sym wide) rx, (subst (λ (n : ℕ). Reads at.whole at.names n y q) (sym wide) ry, tt)) refl inst.op is
  code_reads (code.Icmp c flags w x y to) inst bare (t, p, q, (is, wide, rx, ry, res)) = sym (ap (inst_read at u values root world) is)
  code_reads (code.Cast c flags w x into to) inst bare (t, p, v, (is, wide, far, rx, res)) = sym (ap (inst_read at u values root world) is)
  code_reads (code.Select c x y to) inst bare (t, k, p, q, (is, rc, rx, ry, res)) = sym (ap (inst_read at u values root world) is)
  code_reads (code.Freeze x to) inst bare (t, p, (is, rx, res)) = sym (ap (inst_read at u values root world) is)
  code_reads (code.Alloca size count to) inst bare (t, v, p, (is, sized, reads, res, plain)) = first_same (count ∷ []) false None (op.Alloca t v p) (reads, tt) refl inst.op is
  code_reads (code.Load size mask addr to) inst bare (t, p, (is, sized, cut, reads, res, plain)) = first_same (addr ∷ []) false None (op.Load t p) (reads, tt) refl inst.op is
  code_reads (code.LoadMarked size mask addr to) inst bare (t, p, (is, sized, cut, reads, res, mark)) = absurd (true≢false (sym mark ∙ bare))
  code_reads (code.Store size value addr) inst bare (t, p, q, (is, sized, first, reads, res, plain)) = first_same (value ∷ addr ∷ []) false None (op.Store t p q) (first, (reads, tt)) refl inst.op is
  code_reads (code.StoreMarked size value addr) inst bare (t, p, q, (is, sized, first, reads, res, mark)) = absurd (true≢false (sym mark ∙ bare))
  code_reads (code.Gep base offset strides to) inst bare (t, p, indices, (is, based, read, sums, res)) = sym (ap (inst_read at u values root world) is)
  code_reads (code.Jump edge) inst bare (to, (is, leads, plain)) = sym (ap (inst_read at u values root world) is)
  code_reads (code.Branch c taken other) inst bare (k, to, to', (is, reads, leads, others, plain)) = first_same (c ∷ []) false None (op.CondBr k to to') (reads, tt) refl inst.op is
  code_reads (code.Switch v cases other) inst bare (t, k, to, named, (is, reads, leads, others, plain)) = first_same (v ∷ []) false None (op.Switch t k to named) (reads, tt) refl inst.op is
  code_reads (code.Call f args to) inst bare (ret, callee, written, (is, found, reads, res, plain)) =
      sym (ap (λ (o : Option ℕ). first_read world (read_all (read_poisoned (setting_of at.whole u) values) written root) (callee_uses (if is_some o then None else lookup externals callee) written)) found)
      ∙ sym (ap (inst_read at u values root world) is)
  code_reads (code.External e args types to) inst bare (ret, callee, written, (is, none, named, reads, res, plain, typed)) =
      first_same args false (Some e) (op.Call ret callee written) reads (ap (λ (x : Option External). callee_uses x written) (sym named)) inst.op is
  code_reads (code.Runtime f args to) inst bare (ret, callee, written, (is, found, reads, res, mark)) = absurd (true≢false (sym mark ∙ bare))
  code_reads (code.Return v) inst bare (value, (is, returns, main, plain)) =
      sym (ap (λ (b : Bool). first_read world (read_all (read_poisoned (setting_of at.whole u) values) (operands (op.Ret value)) root) (if b then use_of.Word 8 0 ∷ [] else [])) main)
      ∙ sym (ap (inst_read at u values root world) is)
  code_reads (code.Exit v) inst bare (None, (is, returns, main, plain)) =
      let clean : mask_of ms v ≡ 0 = source_difference at.names ms v ∙ ap₂ (λ a b. a - b) (returns (255 ∷ []) ms) (returns (0 ∷ []) (map (λ x. 0) at.names)) in
      ap (op_read world (seen fill xs ms (v ∷ [])) true None) is
      ∙ ap (λ (m : ℕ). or_used (if eqb m 0 then None else Some (read.Operand 0)) None) clean
      ∙ sym (ap (λ (b : Bool). first_read world [] (if b then use_of.Word 8 0 ∷ [] else [])) main)
      ∙ sym (ap (inst_read at u values root world) is)
  code_reads (code.Exit v) inst bare (Some value, (is, reads, main, plain)) =
      first_same (v ∷ []) true None (op.Ret (Some value)) (reads, tt) (sym (ap (λ (b : Bool). if b then use_of.Word 8 0 ∷ [] else []) main)) inst.op is
  code_reads code.Unreachable inst bare (is, plain) = sym (ap (inst_read at u values root world) is)
  code_reads code.Phi inst bare e = absurd e
