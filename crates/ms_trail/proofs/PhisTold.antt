-- The moves of phis, one after the other.
use Rattle.std.proofs.Common.{◌≡◌, ◌≤◌, ◌<◌, ◌+◌, ◌-◌, ℕ, zero, suc, Bool, List, [], ◌∷◌, ◌++◌, drop, take, length, get_or, if◌then◌else◌, Option, Some, unwrap_or, refl, sym, ap, ◌∙◌, subst, arith, append_assoc, append-nil}
use Rattle.std.specs.Prelude.{slice_get}
use Rattle.std.proofs.lemmas.Option.{same_Some, slice_get_within, get_or_from_slice_get}
use Rattle.std.proofs.lemmas.List.{length-take-le, drop_all}
use Rattle.ms_ir.specs.declared.syntax.Name.{Name}
use Rattle.ms_ir.specs.declared.syntax.Name.TheVariants.{Number}
use Rattle.ms_ir.specs.declared.syntax.Ty.{Ty}
use Rattle.ms_ir.specs.declared.syntax.Operand.{Operand}
use Rattle.ms_ir.specs.declared.syntax.Op.{Op}
use Rattle.ms_ir.specs.declared.syntax.Op.TheVariants as op
use Rattle.ms_ir.specs.declared.syntax.Inst.{Inst}
use Rattle.ms_ir.specs.declared.syntax.Module.{Module}
use Rattle.ms_ir.specs.Instructions.{insts_at, before, func_index, one_unmarked, roots_in, root_at, site_at, over_insts, NoMarks}
use Rattle.ms_ir.proofs.Sizes.{drop_next}
use Rattle.ms_runs.specs.Control.{count_phis}
use Rattle.ms_runs_good_laws.proofs.Frames.{unmarked_at}
use Rattle.ms_machine_compile.proofs.Numbers.{counted, phis_below}
use Rattle.ms_machine_compile.proofs.Building.{drop-zero}
use Rattle.ms_machine_code.specs.Encodes.{number_of}
use Rattle.ms_trail_moves.specs.declared.moves.Target.TheVariants.{Value}
use Rattle.ms_trail_moves.specs.declared.moves.Move.{Move}
use Rattle.ms_trail_moves.specs.Edges.{edge_source}
use Rattle.ms_trail_bytes.specs.declared.logs.Log.{Log}
use Rattle.ms_trail_uses.specs.declared.tables.InstRow.{InstRow}
use Rattle.ms_trail_bytes.specs.Logs.{IsLog}
use Rattle.ms_trail.specs.Phis.{phis_told}
use Rattle.ms_trail_uses.specs.Tabled.{HasRow, AreTables}
use Rattle.ms_trail.specs.Telling.{masked_move}
use Rattle.ms_trail_uses.proofs.Sums.{inst_start, insts_taken}

-- ---- leading phis

pub record PhiAt (insts : List Inst) (k : ℕ) : Type 0 where
  pub inst : Inst
  pub stands : slice_get insts k ≡ Some inst
  pub ty : Ty
  pub edges : List (Operand × Name)
  pub is : inst.op ≡ op.Phi ty edges

pub phi_at : (insts : List Inst) (k : ℕ) → k < count_phis insts → PhiAt insts k
phi_at [] k lt = absurd (omega (arith, lt))
phi_at (i ∷ is) k lt = by_op i.op refl k lt (λ j. phi_at is j)
  where
    by_op : (o : Op) → i.op ≡ o → (k : ℕ) → k < (elim o as (λ z. ℕ) [ op.Phi t edges ↦ suc (count_phis is) | _ ↦ 0 ]) → ((j : ℕ) → j < count_phis is → PhiAt is j) → PhiAt (i ∷ is) k
    by_op (op.Phi t edges) e zero lt later = record { inst = i; stands = refl; ty = t; edges = edges; is = e }
    by_op (op.Phi t edges) e (suc k) lt later = let p = later k (omega (arith, lt)) in record { inst = p.inst; stands = p.stands; ty = p.ty; edges = p.edges; is = p.is }
    by_op o e k lt later = absurd (omega (arith, lt))

-- ---- numbers after some instructions

read_at : (insts : List Inst) (k : ℕ) (x : Inst) → slice_get insts k ≡ Some x → x ≡ get_or insts k x
read_at insts k x e = sym (get_or_from_slice_get insts k x x e)

module _ (m : Module) (f b : ℕ) where
  pub number_after : (k : ℕ) → k ≤ length (insts_at m f b) → number_of m f b k ≡ number_of m f b 0 + k
  number_after k few =
      let many : over_insts (λ inst. 1) (take k (insts_at m f b)) ≡ k = counted (take k (insts_at m f b)) ∙ length-take-le k (insts_at m f b) few in
      omega (arith, inst_start (λ inst. 1) m f b k, many)

  pub count_on : (count : Inst → ℕ) (k : ℕ) (x : Inst) → slice_get (insts_at m f b) k ≡ Some x → before count m f b (k + 1) ≡ before count m f b k + count x
  count_on count k x e =
      let more : over_insts count (take (k + 1) (insts_at m f b)) ≡ over_insts count (take k (insts_at m f b)) + count x = insts_taken count (insts_at m f b) k x (slice_get_within (insts_at m f b) k x e) (read_at (insts_at m f b) k x e) in
      omega (arith, more)

  -- one site for each, in a module without marks
  pub site_on : NoMarks m → (k : ℕ) (x : Inst) → slice_get (insts_at m f b) k ≡ Some x → site_at m f b (k + 1) ≡ site_at m f b k + 1
  site_on bare k x e =
      let one : one_unmarked x ≡ 1 = ap (λ (t : Bool). if t then 0 else 1) (unmarked_at m bare f b k x e) in
      omega (arith, count_on one_unmarked k x e, one)

  pub sites_up : NoMarks m → (j k : ℕ) → j + k ≤ length (insts_at m f b) → site_at m f b (j + k) ≡ site_at m f b j + k
  sites_up bare j zero few = let e : j + 0 ≡ j = omega arith in ap (site_at m f b) e ∙ (let g : site_at m f b j ≡ site_at m f b j + 0 = omega arith in g)
  sites_up bare j (suc k) few =
      let earlier : site_at m f b (j + k) ≡ site_at m f b j + k = sites_up bare j k (omega (arith, few)) in
      let lt : j + k < length (insts_at m f b) = omega (arith, few) in
      let here = some_at (insts_at m f b) (j + k) lt in
      let e : j + suc k ≡ (j + k) + 1 = omega arith in
      ap (site_at m f b) e ∙ (let next : site_at m f b (j + k + 1) ≡ site_at m f b (j + k) + 1 = site_on bare (j + k) here.0 here.1 in let g : site_at m f b (j + k + 1) ≡ site_at m f b j + suc k = omega (arith, next, earlier) in g)
    where
      some_at : (xs : List Inst) (n : ℕ) → n < length xs → (x : Inst) × (slice_get xs n ≡ Some x)
      some_at [] n lt = absurd (omega (arith, lt))
      some_at (x ∷ xs) zero lt = (x, refl)
      some_at (x ∷ xs) (suc n) lt = some_at xs n (omega (arith, lt))

  -- ---- one phi more

  module _ (rows : List InstRow) (tables : AreTables m rows) (bare : NoMarks m) (first : ℕ) (begins : first ≡ number_of m f b 0) (read : List ℕ) (many : length read ≡ count_phis (insts_at m f b)) where
    -- the row of a phi
    row_of : (k : ℕ) (p : PhiAt (insts_at m f b) k) → HasRow m rows f b k p.inst
    row_of k p = tables f b k p.inst p.stands

    at_row : (k : ℕ) (p : PhiAt (insts_at m f b) k) → slice_get rows (first + k) ≡ Some (row_of k p).row
    at_row k p =
        let lt : k < length (insts_at m f b) = slice_get_within (insts_at m f b) k p.inst p.stands in
        let here : first + k ≡ number_of m f b k = omega (arith, begins, number_after k (omega (arith, lt))) in
        ap (slice_get rows) here ∙ (row_of k p).stands

    module _ (event frame : ℕ) (from : Name) (after : ℕ) (sited : after ≡ site_at m f b (length read)) where
      -- the moves that are left
      abbrev pub left : ℕ → List Move
      left k = phis_told event frame (func_index m.funcs) from (drop k (insts_at m f b)) (root_at (func_index m.funcs) m f b k) (site_at m f b k) (drop k read)

      pub site_here : (k : ℕ) → k < length read → after - (length read - k) ≡ site_at m f b k
      site_here k lt =
          let within : length read ≤ length (insts_at m f b) = omega (arith, many, phis_below (insts_at m f b)) in
          let sum : k + (length read - k) ≡ length read = omega (arith, lt) in
          let up : site_at m f b (k + (length read - k)) ≡ site_at m f b k + (length read - k) = sites_up bare k (length read - k) (omega (arith, sum, within)) in
          let whole : site_at m f b (length read) ≡ site_at m f b k + (length read - k) = ap (site_at m f b) (sym sum) ∙ up in
          omega (arith, sited, whole)

      pub next_phi : (k : ℕ) → k < length read → (row : InstRow) → slice_get rows (first + k) ≡ Some row → (mask site : ℕ) → mask ≡ get_or read k 0 → site ≡ after - (length read - k)
          → (log new : Log) (told : List Move) → IsLog log told
          → ((t : Ty) (edges : List (Operand × Name)) (moves : List Move) → row.inst.now.op ≡ op.Phi t edges → IsLog log moves → IsLog new (moves ++ masked_move event site mask (edge_source frame t from edges row.roots) (Value frame (unwrap_or row.inst.now.result (Number 0)))))
          → (all : List Move) → all ≡ told ++ left k → (more : List Move) × (IsLog new more × (all ≡ more ++ left (k + 1)))
      next_phi k lt row stands mask site masked sited' log new told is tell all e =
          let p : PhiAt (insts_at m f b) k = phi_at (insts_at m f b) k (omega (arith, many, lt)) in
          let row_is : row ≡ (row_of k p).row = same_Some row (row_of k p).row (sym stands ∙ at_row k p) in
          let inst_is : row.inst.now ≡ p.inst = ap (λ (r : InstRow). r.inst.now) row_is ∙ (row_of k p).is.inst_is in
          let roots : row.roots ≡ root_at (func_index m.funcs) m f b k = ap (λ (r : InstRow). r.roots) row_is ∙ (row_of k p).is.roots in
          let site_is : site ≡ site_at m f b k = sited' ∙ site_here k lt in
          let insts : drop k (insts_at m f b) ≡ p.inst ∷ drop (k + 1) (insts_at m f b) = drop_next (insts_at m f b) k p.inst (slice_get_within (insts_at m f b) k p.inst p.stands) (read_at (insts_at m f b) k p.inst p.stands) in
          let masks : drop k read ≡ mask ∷ drop (k + 1) read = drop_next read k mask lt (masked ∙ default read k lt mask) in
          let site_next : site_at m f b k + one_unmarked p.inst ≡ site_at m f b (k + 1) = omega (arith, count_on one_unmarked k p.inst p.stands) in
          let one : List Move = masked_move event site mask (edge_source frame p.ty from p.edges row.roots) (Value frame (unwrap_or row.inst.now.result (Number 0))) in
          let head : left k ≡ one ++ left (k + 1) =
          (λ j. phis_told event frame (func_index m.funcs) from (insts j) (root_at (func_index m.funcs) m f b k) (site_at m f b k) (masks j))
          ∙ ap (λ (o : Op). elim o as (λ z. List Move) [
            | op.Phi t edges ↦
                masked_move event (site_at m f b k) mask (edge_source frame t from edges (root_at (func_index m.funcs) m f b k)) (Value frame (unwrap_or p.inst.result (Number 0)))
                ++ phis_told event frame (func_index m.funcs) from (drop (k + 1) (insts_at m f b)) (root_at (func_index m.funcs) m f b k + roots_in (func_index m.funcs) p.inst) (site_at m f b k + one_unmarked p.inst) (drop (k + 1) read)
            | _ ↦ []
          ]) p.is
          ∙ (λ j. masked_move event (sym site_is j) mask (edge_source frame p.ty from p.edges (sym roots j)) (Value frame (unwrap_or (sym inst_is j).result (Number 0)))
          ++ phis_told event frame (func_index m.funcs) from (drop (k + 1) (insts_at m f b)) (sym (count_on (roots_in (func_index m.funcs)) k p.inst p.stands) j) (site_next j) (drop (k + 1) read))
          in (
            told ++ one,
            (
              tell p.ty p.edges told (ap (λ (i : Inst). i.op) inst_is ∙ p.is) is,
              e ∙ ap (λ ms. told ++ ms) head ∙ sym (append_assoc told one (left (k + 1))),
            ),
          )
        where
          default : (xs : List ℕ) (n : ℕ) → n < length xs → (d : ℕ) → get_or xs n 0 ≡ get_or xs n d
          default [] n lt d = absurd (omega (arith, lt))
          default (x ∷ xs) zero lt d = refl
          default (x ∷ xs) (suc n) lt d = default xs n (omega (arith, lt)) d

-- ---- all of them

none_told : (event frame : ℕ) (func : Name → Option ℕ) (from : Name) (insts : List Inst) (n site : ℕ) → phis_told event frame func from insts n site [] ≡ []
none_told event frame func from [] n site = refl
none_told event frame func from (i ∷ is) n site = refl

-- of phis with these masks the first k were told, from a log on
pub record PhisSoFar (rows : List InstRow) (first : ℕ) (read : List ℕ) (event site frame : ℕ) (from : Name) (start log : Log) (k : ℕ) : Type 0 where
  pub told : (m : Module) (f b : ℕ) (moves : List Move) → AreTables m rows → NoMarks m → first ≡ number_of m f b 0 → length read ≡ count_phis (insts_at m f b) → site ≡ site_at m f b (length read) → IsLog start moves
      → (more : List Move)
      × (IsLog log more
      × (moves ++ phis_told event frame (func_index m.funcs) from (insts_at m f b) (root_at (func_index m.funcs) m f b 0) (site_at m f b 0) read
      ≡ more ++ phis_told event frame (func_index m.funcs) from (drop k (insts_at m f b)) (root_at (func_index m.funcs) m f b k) (site_at m f b k) (drop k read)))
  pub count : log.count ≤ start.count + k

pub so_far_none : (rows : List InstRow) (first : ℕ) (read : List ℕ) (event site frame : ℕ) (from : Name) (log : Log) → PhisSoFar rows first read event site frame from log log 0
so_far_none rows first read event site frame from log = record {
  told = λ m f b moves tables bare begins many sited is. (
    moves,
    (
      is,
      (λ j. moves ++ phis_told event frame (func_index m.funcs) from (sym (drop-zero (insts_at m f b)) j) (root_at (func_index m.funcs) m f b 0) (site_at m f b 0) (sym (drop-zero read) j)),
    ),
  );
  count = omega arith;
}

pub so_far_more : (rows : List InstRow) (first : ℕ) (read : List ℕ) (event after frame : ℕ) (from : Name) (start log new : Log) (k : ℕ) → k < length read → (row : InstRow) → slice_get rows (first + k) ≡ Some row
    → (mask site : ℕ) → mask ≡ get_or read k 0 → site ≡ after - (length read - k)
    → ((t : Ty) (edges : List (Operand × Name)) (moves : List Move) → row.inst.now.op ≡ op.Phi t edges → IsLog log moves → IsLog new (moves ++ masked_move event site mask (edge_source frame t from edges row.roots) (Value frame (unwrap_or row.inst.now.result (Number 0)))))
    → new.count ≤ log.count + 1 → PhisSoFar rows first read event after frame from start log k → PhisSoFar rows first read event after frame from start new (k + 1)
so_far_more rows first read event after frame from start log new k lt row stands mask site masked sited tell few so = record {
  told = λ m f b moves tables bare begins many at is.
      let had = so.told m f b moves tables bare begins many at is in
      next_phi m f b rows tables bare first begins read many event frame from after at k lt row stands mask site masked sited log new had.0 had.1.0 tell
      (moves ++ phis_told event frame (func_index m.funcs) from (insts_at m f b) (root_at (func_index m.funcs) m f b 0) (site_at m f b 0) read) had.1.1;
  count = omega (arith, few, so.count);
}

pub so_far_all : (rows : List InstRow) (first : ℕ) (read : List ℕ) (event after frame : ℕ) (from : Name) (start log : Log) (k : ℕ) → k ≡ length read → PhisSoFar rows first read event after frame from start log k
    → (m : Module) (f b : ℕ) (moves : List Move) → AreTables m rows → NoMarks m → first ≡ number_of m f b 0 → length read ≡ count_phis (insts_at m f b) → after ≡ site_at m f b (length read) → IsLog start moves
    → IsLog log (moves ++ phis_told event frame (func_index m.funcs) from (insts_at m f b) (root_at (func_index m.funcs) m f b 0) (site_at m f b 0) read)
so_far_all rows first read event after frame from start log k end so m f b moves tables bare begins many at is =
    let had = so.told m f b moves tables bare begins many at is in
    let over : drop k read ≡ [] = drop_all k read (omega (arith, end)) in
    let none : phis_told event frame (func_index m.funcs) from (drop k (insts_at m f b)) (root_at (func_index m.funcs) m f b k) (site_at m f b k) (drop k read) ≡ [] =
    ap (phis_told event frame (func_index m.funcs) from (drop k (insts_at m f b)) (root_at (func_index m.funcs) m f b k) (site_at m f b k)) over
    ∙ none_told event frame (func_index m.funcs) from (drop k (insts_at m f b)) (root_at (func_index m.funcs) m f b k) (site_at m f b k)
    in
    subst (λ (ms : List Move). IsLog log ms) (sym (had.1.1 ∙ ap (λ ms. had.0 ++ ms) none ∙ append-nil had.0)) had.1.0
