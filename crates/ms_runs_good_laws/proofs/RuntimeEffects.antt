-- Checks keep a world good, and what a runtime function answers is in the range of its type.
use Rattle.std.proofs.Common.{ℕ, zero, suc, ◌+◌, ◌-◌, ◌/◌, ◌%◌, List, [], ◌∷◌, ◌++◌, length, not, ◌||◌, leb, eqb, Option, Some, None, unwrap_or, refl, arith}
use Rattle.ms_bits.specs.Maps.{first_nonzero}
use Rattle.ms_bits.specs.WordFunctions.{bits_of, move_width, moved}
use Rattle.ms_bits_laws.proofs.WordAgreement.{moved_lt}
use Rattle.ms_ir.specs.declared.syntax.Ty.{Int}
use Rattle.ms_runs.specs.declared.runs.End.TheVariants as «end»
use Rattle.ms_runs.specs.declared.runs.Report.{Report}
use Rattle.ms_ir.specs.declared.calls.RuntimeFn.{RuntimeFn}
use Rattle.ms_ir.specs.declared.calls.RuntimeFn.TheVariants.{Check, CheckMemory, CheckString, Blind, Poison, Unpoison, Copy, Fill, StoreOrigin, LoadOrigin, Size, CheckFormat, ThreadResult, Move}
use Rattle.ms_runs.specs.World.{World, Setting, Effect, Gives, Does, Goes, Enters, Leaves, Ends, then_does, word}
use Rattle.ms_runs.specs.Memory.{is_good, heap_size, bytes_left}
use Rattle.ms_runs.specs.Origins.{is_hidden, add_report, check, check_byte, check_memory, check_string, asks_string_at, check_format, count_blind, trail, first_in_string, origin_within, load_origin}
use Rattle.ms_runs.specs.Runtime.{runtime}
use Rattle.ms_ir.specs.Signatures.{runtime_signature}
use Rattle.ms_runs_good_laws.specs.GoodWorlds.{GoodWorld, FitsCell}
use Rattle.ms_runs_good_laws.specs.GoodStates.{IsBelow}
use Rattle.ms_runs_good_laws.specs.Straight.{Answers, HaveTypes}
use Rattle.ms_runs_good_laws.proofs.WorldChanges.{either, with_reports, with_blind, GoodSetting, poison_good, unpoison_good, copy_planes_good, fill_planes_good, store_origin_good, thread_result_good}
use Rattle.ms_runs_good_laws.proofs.ExternalEffects.{in_type, heap_small}

-- ---- checks

-- a second effect follows where the first one changed the world alone
pub then_answers : (good : World → Type 0) (e : Effect) (go : World → Effect) → Answers good None e → ((u : World) → good u → Answers good None (go u)) → Answers good None (then_does e go)
then_answers good (Does u) go h f = f u h.1
then_answers good (Ends x u) go h f = h
then_answers good (Gives v u) go h f = h.1
then_answers good (Goes to u) go h f = absurd h
then_answers good (Enters n u) go h f = absurd h
then_answers good (Leaves u) go h f = absurd h

module _ (P : ℕ → Type 0) (setting : Setting) (w : World) (g : GoodWorld P w) where
  reported : (report : Report) → Answers (GoodWorld P) None (add_report setting report w)
  reported report =
      let next = record w { reports = w.reports ++ report ∷ [] } in
      let good = with_reports P w g (w.reports ++ report ∷ []) in
      either (Answers (GoodWorld P) None) (is_hidden setting report w) (Does w) _ (refl, g)
      (either (Answers (GoodWorld P) None) (leb setting.limit (length next.reports)) (Ends «end».Reported next) (Does next) good (refl, good))

  pub check_answers : (mask width origin kind part site : ℕ) → Answers (GoodWorld P) None (check setting mask width origin kind part site w)
  check_answers mask width origin kind part site =
      let report : Report = record {
        site = site;
        kind = kind;
        part = part;
        width = width;
        mask = mask;
        origin = origin;
        chain = trail setting w origin;
      } in
      either (Answers (GoodWorld P) None) (eqb mask 0) (Does w) (add_report setting report w) (refl, g) (reported report)

  byte_answers : (kind site start : ℕ) (o : Option ℕ) → Answers (GoodWorld P) None (check_byte setting kind site start o w)
  byte_answers kind site start None = (refl, g)
  byte_answers kind site start (Some x) = check_answers (w.shadow x) 8 (w.origins (x / 4)) kind (x - start) site

  pub memory_answers : (a n kind site : ℕ) → Answers (GoodWorld P) None (check_memory setting a n kind site w)
  memory_answers a n kind site =
      either (Answers (GoodWorld P) None) (is_good w a n) (check_byte setting kind site a (first_nonzero w.shadow a n) w) (Does w)
      (byte_answers kind site a (first_nonzero w.shadow a n)) (refl, g)

  pub string_answers : (a site : ℕ) → Answers (GoodWorld P) None (check_string setting a site w)
  string_answers a site = byte_answers 10 site a (first_in_string w a (bytes_left w a))

  pub format_answers : (format index a site : ℕ) → Answers (GoodWorld P) None (check_format setting format index a site w)
  format_answers format index a site =
      either (Answers (GoodWorld P) None) (asks_string_at w format index) (check_string setting a site w) (Does w) (string_answers a site) (refl, g)

  pub blind_good : (mask : ℕ) → GoodWorld P (count_blind mask w)
  blind_good mask = either (GoodWorld P) (eqb mask 0) w (record w { blind = w.blind + 1 }) g (with_blind P w g (w.blind + 1))

  origin_kept : (n a mask : ℕ) → P 0 → P (origin_within n a mask w)
  origin_kept zero a mask o = o
  origin_kept (suc n) a mask o =
      either P (eqb (mask % 256) 0 || not (is_good w a 1)) (origin_within n (a + 1) (mask / 256) w) (w.origins (a / 4)) (origin_kept n (a + 1) (mask / 256) o) (g.origins (a / 4))

  pub load_origin_kept : (a mask : ℕ) → P 0 → P (load_origin a mask w)
  load_origin_kept a mask o = origin_kept 8 a mask o

-- ---- runtime functions

pub runtime_answers : (setting : Setting) → GoodSetting FitsCell setting → (f : RuntimeFn) (words : List ℕ) (w : World) → GoodWorld FitsCell w → HaveTypes IsBelow 0 words (runtime_signature f).params
    → Answers (GoodWorld FitsCell) (runtime_signature f).ret (runtime setting f words w)
runtime_answers setting given Check words w g h = check_answers FitsCell setting w g (word 0 words) (word 1 words) (word 2 words) (word 3 words) (word 4 words) (word 5 words)
runtime_answers setting given CheckMemory words w g h = memory_answers FitsCell setting w g (word 0 words) (word 1 words) (word 2 words) (word 3 words)
runtime_answers setting given CheckString words w g h = string_answers FitsCell setting w g (word 0 words) (word 1 words)
runtime_answers setting given Blind words w g h = (refl, blind_good FitsCell setting w g (word 0 words))
runtime_answers setting given Poison words w g h = (refl, poison_good FitsCell setting given (word 0 words) (word 1 words) (word 2 words) (word 3 words) w g (h 3 (Int 32) refl))
runtime_answers setting given Unpoison words w g h = (refl, unpoison_good FitsCell setting given (word 0 words) (word 1 words) w g)
runtime_answers setting given Copy words w g h = (refl, copy_planes_good FitsCell setting given (word 0 words) (word 1 words) (word 2 words) w g)
runtime_answers setting given Fill words w g h =
    (refl, fill_planes_good FitsCell setting given (word 0 words) (word 1 words) (word 2 words) (word 3 words) (word 4 words) w g (h 3 (Int 32) refl))
runtime_answers setting given StoreOrigin words w g h = (refl, store_origin_good FitsCell setting given (word 0 words) (word 1 words) (word 2 words) (word 3 words) w g (h 2 (Int 32) refl))
runtime_answers setting given LoadOrigin words w g h =
    (in_type (Int 32) (load_origin (word 0 words) (word 1 words) w) (load_origin_kept FitsCell setting w g (word 0 words) (word 1 words) given.none), g)
runtime_answers setting given Size words w g h =
    (in_type (Int 64) (unwrap_or (heap_size w (word 0 words)) 0) (omega (arith, heap_small FitsCell w (word 0 words) g)), g)
runtime_answers setting given CheckFormat words w g h = format_answers FitsCell setting w g (word 0 words) (word 1 words) (word 2 words) (word 3 words)
runtime_answers setting given ThreadResult words w g h = (refl, thread_result_good FitsCell setting given (word 0 words) (word 1 words) (word 2 words) (word 3 words) w g)
runtime_answers setting given (Move k) words w g h =
    (in_type (Int (bits_of (move_width k))) (moved k (word 0 words) (word 1 words) (word 2 words)) (moved_lt k (word 0 words) (word 1 words) (word 2 words)), g)
