-- Moves of bytes that come from one source.
use Rattle.std.proofs.Common.{◌≡◌, ◌+◌, ◌-◌, ◌<◌, ◌%◌, ◌^◌, ℕ, zero, suc, Bool, true, false, ◌&&◌, ltb, List, [], ◌∷◌, ◌++◌, if◌then◌else◌, refl, sym, ap, ◌∙◌, subst, append-nil, arith, true≢false}
use Rattle.std.specs.Prelude.{MatchBool}
use Rattle.std.proofs.lemmas.Bool.{lt-ltb, ltb-true}
use Rattle.ms_runs.specs.World.{World}
use Rattle.ms_runs.specs.Memory.{is_good}
use Rattle.ms_runs.specs.Origins.{copy_planes, poison}
use Rattle.ms_runs.specs.Memory.{copy_shadow, set_cells, set_shadow}
use Rattle.ms_runs_good_laws.specs.GoodWorlds.{GoodWorld, FitsCell}
use Rattle.ms_runs_good_laws.proofs.WorldChanges.{either, copy_shadow_good, set_shadow_good, set_cells_good}
use Rattle.ms_ir.specs.declared.syntax.Ty.{Ty}
use Rattle.ms_ir.specs.declared.syntax.Operand.{Operand}
use Rattle.ms_ir.specs.declared.syntax.Operand.TheVariants as operand
use Rattle.ms_ir.specs.Instructions.{one_undef}
use Rattle.ms_trail_moves.specs.Sources.{operand_source, sources, source_at}
use Rattle.ms_trail_moves.specs.declared.moves.Source.{Source}
use Rattle.ms_trail_moves.specs.declared.moves.Source.TheVariants.{Root, Value, Byte}
use Rattle.ms_trail_moves.specs.declared.moves.Move.{Move}
use Rattle.ms_trail_moves.specs.Written.{Filled, made}
use Rattle.ms_trail_moves.specs.Events.{written_moves, memory_moves}
use Rattle.ms_trail_bytes.specs.declared.logs.Log.{Log}
use Rattle.ms_trail_bytes.specs.Logs.{IsLog}
use Rattle.ms_trail_bytes.specs.Spans.{span_moves}

pub filled_same : (event site : ℕ) (shadow : ℕ → ℕ) (addr n : ℕ) (from : Source) → span_moves event site shadow from false addr n ≡ written_moves event site shadow (Filled addr n from)
filled_same event site shadow addr n (Root k) = refl
filled_same event site shadow addr n (Value frame x) = refl
filled_same event site shadow addr n (Byte a) = refl

-- bytes that are good, and bytes that aren't
pub good_told : (log : Log) (moves : List Move) (event site : ℕ) (w : World) (first n root : ℕ) → is_good w first n ≡ true → IsLog log (moves ++ span_moves event site w.shadow (Root root) false first n)
    → IsLog log (moves ++ memory_moves event site w.shadow (if is_good w first n then Filled first n (Root root) ∷ [] else []))
good_told log moves event site w first n root good is =
    subst (λ (ms : List Move). IsLog log (moves ++ ms))
    (sym (append-nil (written_moves event site w.shadow (Filled first n (Root root)))) ∙ sym (ap (λ (b : Bool). memory_moves event site w.shadow (if b then Filled first n (Root root) ∷ [] else [])) good)) is

pub bad_told : (log : Log) (moves : List Move) (event site : ℕ) (w : World) (first n root : ℕ) → is_good w first n ≡ false → IsLog log moves
    → IsLog log (moves ++ memory_moves event site w.shadow (if is_good w first n then Filled first n (Root root) ∷ [] else []))
bad_told log moves event site w first n root bad is =
    subst (λ (ms : List Move). IsLog log ms)
    (sym (append-nil moves) ∙ sym (ap (λ (b : Bool). moves ++ memory_moves event site w.shadow (if b then Filled first n (Root root) ∷ [] else [])) bad)) is

-- bytes that were made uninitialised, and none
pub made_told : (log : Log) (moves : List Move) (event site : ℕ) (w : World) (a from to root : ℕ) → from < to
    → IsLog log (moves ++ memory_moves event site w.shadow (if is_good w ((a + from) % 2 ^ 64) (to - from) then Filled ((a + from) % 2 ^ 64) (to - from) (Root root) ∷ [] else []))
    → IsLog log (moves ++ memory_moves event site w.shadow (made w a from to root))
made_told log moves event site w a from to root some is =
    subst (λ (ms : List Move). IsLog log (moves ++ ms))
    (sym (ap (λ (b : Bool). memory_moves event site w.shadow (if b && is_good w ((a + from) % 2 ^ 64) (to - from) then Filled ((a + from) % 2 ^ 64) (to - from) (Root root) ∷ [] else [])) (lt-ltb from to some))) is

pub none_made : (log : Log) (moves : List Move) (event site : ℕ) (w : World) (a from to root : ℕ) → (from < to → ⊥) → IsLog log moves → IsLog log (moves ++ memory_moves event site w.shadow (made w a from to root))
none_made log moves event site w a from to root none is =
    subst (λ (ms : List Move). IsLog log ms)
    (sym (append-nil moves)
    ∙ sym (ap (λ (b : Bool). moves ++ memory_moves event site w.shadow (if b && is_good w ((a + from) % 2 ^ 64) (to - from) then Filled ((a + from) % 2 ^ 64) (to - from) (Root root) ∷ [] else [])) (by_test (ltb from to) refl))) is
  where
    by_test : (b : Bool) → ltb from to ≡ b → b ≡ false
    by_test true e = absurd (none (ltb-true from to e))
    by_test false e = refl

-- a store to good bytes
pub stored_good : (b : Bool) (g : Bool) (P Q : Type 0) → MatchBool b ((g ≡ true) × P) ((g ≡ false) × Q) → g ≡ true → P
stored_good true g P Q h good = h.1
stored_good false g P Q h good = absurd (true≢false (sym good ∙ h.0))

-- a copy changes no allocation
pub copied_good : (w : World) (to from n : ℕ) → is_good w to n ≡ true → is_good (copy_planes to from n w) to n ≡ true
copied_good w to from n good = by_test (is_good w to n && is_good w from n)
  where
    by_test : (b : Bool) → is_good (if b then copy_shadow to from n w else w) to n ≡ true
    by_test true = good
    by_test false = good

pub good_copied : (to from n : ℕ) (w : World) → GoodWorld FitsCell w → GoodWorld FitsCell (copy_planes to from n w)
good_copied to from n w g = either (GoodWorld FitsCell) (is_good w to n && is_good w from n) _ w (copy_shadow_good FitsCell to from n w g) g

pub good_filled : (a n mask : ℕ) (w : World) → mask < 256 → GoodWorld FitsCell w → GoodWorld FitsCell (set_cells a n 0 (set_shadow a n (λ k. mask) w))
good_filled a n mask w byte g = set_cells_good FitsCell a n 0 (set_shadow a n (λ k. mask) w) (set_shadow_good FitsCell a n (λ k. mask) w g (λ k. byte)) (omega arith)

-- operands are no bytes
operand_no_byte : (frame root : ℕ) (o : Operand) (a : ℕ) → operand_source frame root o ≡ Byte a → ⊥
operand_no_byte frame root operand.Undef a e = absurd (cc)
operand_no_byte frame root operand.Poison a e = absurd (cc)
operand_no_byte frame root (operand.Local x) a e = absurd (cc)
operand_no_byte frame root o a e = absurd (cc)

pub source_no_byte : (k frame : ℕ) (os : List (Ty × Operand)) (root a : ℕ) → source_at k (sources frame os root) ≡ Byte a → ⊥
source_no_byte k frame [] root a e = absurd (cc)
source_no_byte zero frame (o ∷ os) root a e = operand_no_byte frame root o.1 a e
source_no_byte (suc k) frame (o ∷ os) root a e = source_no_byte k frame os (root + one_undef o.1) a e

-- ---- bytes without a value leave the world good

pub good_poison : (a from to : ℕ) (w : World) → GoodWorld FitsCell w → GoodWorld FitsCell (poison a from to 0 w)
good_poison a from to w g =
    either (GoodWorld FitsCell) (ltb from to && is_good w _ _) _ w
    (set_cells_good FitsCell _ _ 0 _ (set_shadow_good FitsCell _ _ (λ k. 255) w g (λ k. omega arith)) (omega arith)) g
