-- The longest runs of poisoned bytes, from the first on.
use Rattle.std.proofs.Common.{◌≡◌, ◌≢◌, ◌≤◌, ◌<◌, ◌+◌, ◌-◌, ◌*◌, ◌^◌, ℕ, zero, suc, Bool, true, false, eqb, ltb, List, [], ◌∷◌, ◌++◌, map, Option, Some, None, refl, sym, ap, ◌∙◌, subst, arith, if◌then◌else◌, leb, ⊎_elim, append_assoc, append-nil, eq-eqb}
use Rattle.std.specs.Prelude.{unwrap_or}
use Rattle.std.proofs.lemmas.Bool.{ne_eqb, ltb-true, ltb-false, leb-true, leb-false, eqb-true, cases_Bool}
use Rattle.std.proofs.Math.Nat.{pow-suc}
use Rattle.ms_bits.specs.Maps.{first_nonzero, number_at}
use Rattle.ms_runs.specs.World.{World}
use Rattle.ms_host.specs.declared.shadows.PoisonedByte.{PoisonedByte}
use Rattle.ms_host.specs.Poisonings.{IsFound}
use Rattle.ms_trail_moves.specs.declared.moves.Source.{Source}
use Rattle.ms_trail_moves.specs.declared.moves.Target.TheVariants.{Bytes}
use Rattle.ms_trail_moves.specs.declared.moves.Move.{Move}
use Rattle.ms_trail_moves.specs.Events.{moved, joined, runs}
use Rattle.ms_trail_bytes.specs.declared.logs.Log.{Log}
use Rattle.ms_trail_bytes.specs.Logs.{IsLog}
use Rattle.ms_trail_bytes.specs.Spans.{source_in, span_move, span_moves, Telling}

-- no run begins before its bytes do
abbrev BeginsAfter : ℕ → List (ℕ × ℕ) → Type 0
BeginsAfter a [] = Unit {0}
BeginsAfter a (r ∷ rs) = a ≤ r.0

after_joined : (a : ℕ) (rs : List (ℕ × ℕ)) → BeginsAfter a (joined a rs)
after_joined a [] = let h : a ≤ a = omega arith in h
after_joined a (r ∷ rs) = by_test (eqb r.0 (a + 1))
  where
    by_test : (b : Bool) → BeginsAfter a (if b then (a, r.1 + 1) ∷ rs else (a, 1) ∷ r ∷ rs)
    by_test true = let h : a ≤ a = omega arith in h
    by_test false = let h : a ≤ a = omega arith in h

further : (a b : ℕ) (rs : List (ℕ × ℕ)) → a ≤ b → BeginsAfter b rs → BeginsAfter a rs
further a b [] le h = tt
further a b (r ∷ rs) le h = omega (arith, le, h)

runs_after : (T : ℕ → ℕ) (n a : ℕ) → BeginsAfter a (runs T a n)
runs_after T zero a = tt
runs_after T (suc n) a = by_test (eqb (T a) 0) (runs_after T n (a + 1))
  where
    by_test : (b : Bool) → BeginsAfter (a + 1) (runs T (a + 1) n) → BeginsAfter a (if b then runs T (a + 1) n else joined a (runs T (a + 1) n))
    by_test true later = further a (a + 1) (runs T (a + 1) n) (let h : a ≤ a + 1 = omega arith in h) later
    by_test false later = after_joined a (runs T (a + 1) n)

-- a run that doesn't follow at once is one of its own
apart : (a : ℕ) (rs : List (ℕ × ℕ)) → BeginsAfter (a + 2) rs → joined a rs ≡ (a, 1) ∷ rs
apart a [] h = refl
apart a (r ∷ rs) h = ap (λ b. if b then (a, r.1 + 1) ∷ rs else (a, 1) ∷ r ∷ rs) (ne_eqb r.0 (a + 1) (λ e. absurd (omega (arith, h, e))))

next_run : (a q : ℕ) (rs : List (ℕ × ℕ)) → joined a ((a + 1, q) ∷ rs) ≡ (a, q + 1) ∷ rs
next_run a q rs = ap (λ b. if b then (a, q + 1) ∷ rs else (a, 1) ∷ (a + 1, q) ∷ rs) (eq-eqb (a + 1) (a + 1) refl)

clean_on : (T : ℕ → ℕ) (a n : ℕ) → T a ≡ 0 → runs T a (suc n) ≡ runs T (a + 1) n
clean_on T a n e = ap (λ b. if b then runs T (a + 1) n else joined a (runs T (a + 1) n)) (eq-eqb (T a) 0 e)

poisoned_on : (T : ℕ → ℕ) (a n : ℕ) → T a ≢ 0 → runs T a (suc n) ≡ joined a (runs T (a + 1) n)
poisoned_on T a n e = ap (λ b. if b then runs T (a + 1) n else joined a (runs T (a + 1) n)) (ne_eqb (T a) 0 e)

-- what follows a run is none, or begins after a clean byte
last_of : (T : ℕ → ℕ) (a n : ℕ) → (0 < n → T (a + 1) ≡ 0) → BeginsAfter (a + 2) (runs T (a + 1) n)
last_of T a zero clean = tt
last_of T a (suc n) clean =
    subst (λ (rs : List (ℕ × ℕ)). BeginsAfter (a + 2) rs) (sym (clean_on T (a + 1) n (clean (omega arith))))
    (further (a + 2) (a + 1 + 1) (runs T (a + 1 + 1) n) (omega arith) (runs_after T n (a + 1 + 1)))

-- the first run has the poisoned bytes up to a clean one
leading : (T : ℕ → ℕ) (p a n : ℕ) → ((k : ℕ) → k < suc p → T (a + k) ≢ 0) → (0 < n → T (a + suc p) ≡ 0) → runs T a (suc p + n) ≡ (a, suc p) ∷ runs T (a + suc p) n
leading T zero a n poisoned clean =
    let here : a + 0 ≡ a = omega arith in
    let next : a + 1 ≡ a + suc 0 = omega arith in
    let count : suc 0 + n ≡ suc n = omega arith in
    ap (runs T a) count
    ∙ poisoned_on T a n (λ e. poisoned 0 (omega arith) (ap T here ∙ e))
    ∙ apart a (runs T (a + 1) n) (last_of T a n (λ some. ap T next ∙ clean some))
    ∙ ap (λ x. (a, 1) ∷ runs T x n) next
leading T (suc p) a n poisoned clean =
    let here : a + 0 ≡ a = omega arith in
    let count : suc (suc p) + n ≡ suc (suc p + n) = omega arith in
    let last : a + 1 + suc p ≡ a + suc (suc p) = omega arith in
    let later = leading T p (a + 1) n (λ k lt e. poisoned (k + 1) (omega (arith, lt)) (ap T (let h : a + (k + 1) ≡ a + 1 + k = omega arith in h) ∙ e)) (λ some. ap T last ∙ clean some) in
    ap (runs T a) count
    ∙ poisoned_on T a (suc p + n) (λ e. poisoned 0 (omega arith) (ap T here ∙ e))
    ∙ ap (joined a) later
    ∙ next_run a (suc p) (runs T (a + 1 + suc p) n)
    ∙ ap (λ x. (a, suc p + 1) ∷ runs T x n) last
    ∙ ap (λ x. (a, x) ∷ runs T (a + suc (suc p)) n) (let h : suc p + 1 ≡ suc (suc p) = omega arith in h)

-- a number whose bits are all 1 has no byte that is 0
pub full_bytes : (T : ℕ → ℕ) (n a : ℕ) → ((x : ℕ) → T x < 256) → number_at T a n + 1 ≡ 256 ^ n → (k : ℕ) → a ≤ k → k < a + n → T k ≢ 0
full_bytes T zero a small e k le lt z = absurd (omega (arith, le, lt))
full_bytes T (suc n) a small e k le lt z =
    let power : 256 ^ (suc n) ≡ 256 ^ n * 256 = pow-suc 256 n in
    let here : T a + 256 * number_at T (a + 1) n + 1 ≡ 256 ^ (suc n) = e in
    let byte : T a < 256 = small a in
    let full : T a ≡ 255 = omega (arith, power, here, byte) in
    let rest : number_at T (a + 1) n + 1 ≡ 256 ^ n = omega (arith, power, here, full) in
    ⊎_elim
    (λ (h : leb k a ≡ true). let same : T k ≡ T a = ap T (let i : k ≡ a = omega (arith, le, leb-true k a h) in i) in absurd (omega (arith, same, full, z)))
    (λ (h : leb k a ≡ false). full_bytes T n (a + 1) small rest k (omega (arith, leb-false k a h)) (omega (arith, lt)) z)
    (cases_Bool (leb k a))

-- what a search passed is clean
pub clean_upto : (T : ℕ → ℕ) (n a last k : ℕ) → last ≡ a + n → a ≤ k → k < unwrap_or (first_nonzero T a n) last → T k ≡ 0
clean_upto T zero a last k e le lt = absurd (omega (arith, e, le, lt))
clean_upto T (suc n) a last k e le lt = by_test (eqb (T a) 0) refl (λ more below. clean_upto T n (a + 1) last k (omega (arith, e)) more below) lt
  where
    by_test : (b : Bool) → eqb (T a) 0 ≡ b → (a + 1 ≤ k → k < unwrap_or (first_nonzero T (a + 1) n) last → T k ≡ 0) → k < unwrap_or (if b then first_nonzero T (a + 1) n else Some a) last → T k ≡ 0
    by_test true z later below =
        ⊎_elim
        (λ (h : leb k a ≡ true). (let same : k ≡ a = omega (arith, le, leb-true k a h) in ap T same) ∙ eqb-true (T a) 0 z)
        (λ (h : leb k a ≡ false). later (omega (arith, leb-false k a h)) below)
        (cases_Bool (leb k a))
    by_test false z later below = absurd (omega (arith, le, below))

pub found_some : (w : World) (start n : ℕ) (byte : PoisonedByte) (found : Option ℕ) → found ≡ first_nonzero w.shadow start n → IsFound w start found (Some byte) → (k : ℕ) → start ≤ k → k < start + byte.part → w.shadow k ≡ 0
found_some w start n byte None e h k le lt = absurd h
found_some w start n byte (Some x) e h k le lt =
    let below : k < x = omega (arith, h.0, le, lt) in
    clean_upto w.shadow n start (start + n) k refl le (subst (λ (o : Option ℕ). k < unwrap_or o (start + n)) e below)

pub found_none : (w : World) (start n : ℕ) (found : Option ℕ) → found ≡ first_nonzero w.shadow start n → IsFound w start found None → (k : ℕ) → start ≤ k → k < start + n → w.shadow k ≡ 0
found_none w start n None e h k le lt = clean_upto w.shadow n start (start + n) k refl le (subst (λ (o : Option ℕ). k < unwrap_or o (start + n)) e lt)
found_none w start n (Some x) e h k le lt = absurd h

-- from number k on: a clean byte is passed, and a run of poisoned ones is one move
pub rest_clean : (T : ℕ → ℕ) (a k n : ℕ) → k < n → T (a + k) ≡ 0 → runs T (a + k) (n - k) ≡ runs T (a + (k + 1)) (n - (k + 1))
rest_clean T a k n lt clean =
    let count : n - k ≡ suc (n - (k + 1)) = omega (arith, lt) in
    let next : a + k + 1 ≡ a + (k + 1) = omega arith in
    ap (runs T (a + k)) count ∙ clean_on T (a + k) (n - (k + 1)) clean ∙ ap (λ x. runs T x (n - (k + 1))) next

pub rest_run : (T : ℕ → ℕ) (a k j n : ℕ) → k < j → j ≤ n → ((i : ℕ) → k ≤ i → i < j → T (a + i) ≢ 0) → (j < n → T (a + j) ≡ 0) → runs T (a + k) (n - k) ≡ (a + k, j - k) ∷ runs T (a + j) (n - j)
rest_run T a k j n lt le poisoned clean = by_count (j - k) refl
  where
    by_count : (d : ℕ) → j - k ≡ d → runs T (a + k) (n - k) ≡ (a + k, j - k) ∷ runs T (a + j) (n - j)
    by_count zero e = absurd (omega (arith, e, lt))
    by_count (suc p) e =
        let count : n - k ≡ suc p + (n - j) = omega (arith, e, lt, le) in
        let last : a + k + suc p ≡ a + j = omega (arith, e, lt) in
        let lead = leading T p (a + k) (n - j)
        (λ i l z. poisoned (k + i) (omega arith) (omega (arith, e, l)) (ap T (let h : a + (k + i) ≡ a + k + i = omega arith in h) ∙ z))
        (λ some. ap T last ∙ clean (omega (arith, some)))
        in
        ap (runs T (a + k)) count ∙ lead ∙ ap (λ x. (a + k, suc p) ∷ runs T x (n - j)) last ∙ ap (λ x. (a + k, x) ∷ runs T (a + j) (n - j)) (sym e)

-- what holds of a number below another, or from it on
pub either_part : (P : ℕ → Type 0) (k j : ℕ) → (j < k → P j) → (k ≤ j → P j) → P j
either_part P k j below from =
    ⊎_elim (λ (h : ltb j k ≡ true). below (ltb-true j k h)) (λ (h : ltb j k ≡ false). from (omega (arith, ltb-false j k h))) (cases_Bool (ltb j k))

-- what holds up to a number, and of it, holds up to the next
pub upto : (P : ℕ → Type 0) (first k : ℕ) → ((j : ℕ) → first ≤ j → j < k → P j) → P k → (j : ℕ) → first ≤ j → j < k + 1 → P j
upto P first k below here j le lt = by_test (ltb j k) refl
  where
    by_test : (b : Bool) → ltb j k ≡ b → P j
    by_test true e = below j le (ltb-true j k e)
    by_test false e = subst P (let h : k ≡ j = omega (arith, ltb-false j k e, lt) in h) here

-- ---- moves that were told, and those that are left

module _ (event site : ℕ) (from : Source) (copied : Bool) (addr n : ℕ) where
  pub telling_none : (T : ℕ → ℕ) (moves : List Move) (log : Log) → IsLog log moves → Telling event site from copied addr n T moves log 0
  telling_none T moves log is =
      let start : addr ≡ addr + 0 = omega arith in
      let count : n ≡ n - 0 = omega arith in
      record { told = moves; log_is = is; rest = (λ i. moves ++ map (span_move event site from copied addr) (runs T (start i) (count i))) }

  pub telling_clean : (T : ℕ → ℕ) (moves : List Move) (log : Log) (k : ℕ) → k < n → T (addr + k) ≡ 0 → Telling event site from copied addr n T moves log k → Telling event site from copied addr n T moves log (k + 1)
  telling_clean T moves log k lt clean t = record { told = t.told; log_is = t.log_is; rest = t.rest ∙ ap (λ rs. t.told ++ map (span_move event site from copied addr) rs) (rest_clean T addr k n lt clean) }

  pub telling_upto : (T : ℕ → ℕ) (moves : List Move) (log : Log) (d k j : ℕ) → j ≡ k + d → j ≤ n → ((i : ℕ) → k ≤ i → i < j → T (addr + i) ≡ 0) → Telling event site from copied addr n T moves log k → Telling event site from copied addr n T moves log j
  telling_upto T moves log zero k j e le clean t = subst (λ (i : ℕ). Telling event site from copied addr n T moves log i) (let h : k ≡ j = omega (arith, e) in h) t
  telling_upto T moves log (suc d) k j e le clean t =
      telling_upto T moves log d (k + 1) j (omega (arith, e)) le (λ i l lt. clean i (omega (arith, l)) lt)
      (telling_clean T moves log k (omega (arith, e, le)) (clean k (omega arith) (omega (arith, e))) t)

  pub telling_run : (T : ℕ → ℕ) (moves : List Move) (log new : Log) (k j : ℕ) (source : Source) (told : Move) → k < j → j ≤ n → ((i : ℕ) → k ≤ i → i < j → T (addr + i) ≢ 0) → (j < n → T (addr + j) ≡ 0)
      → source ≡ source_in from copied k → told ≡ moved event site source (Bytes (addr + k) (j - k)) → ((ms : List Move) → IsLog log ms → IsLog new (ms ++ told ∷ [])) → Telling event site from copied addr n T moves log k → Telling event site from copied addr n T moves new j
  telling_run T moves log new k j source told lt le poisoned clean is made add t =
      let distance : k ≡ addr + k - addr = omega arith in
      let same : told ≡ span_move event site from copied addr (addr + k, j - k) = made ∙ ap (λ s. moved event site s (Bytes (addr + k) (j - k))) (is ∙ ap (source_in from copied) distance) in
      record {
        told = t.told ++ told ∷ [];
        log_is = add t.told t.log_is;
        rest =
            t.rest
            ∙ ap (λ rs. t.told ++ map (span_move event site from copied addr) rs) (rest_run T addr k j n lt le poisoned clean)
            ∙ ap (λ m. t.told ++ m ∷ map (span_move event site from copied addr) (runs T (addr + j) (n - j))) (sym same)
            ∙ sym (append_assoc t.told (told ∷ []) (map (span_move event site from copied addr) (runs T (addr + j) (n - j))));
      }

  pub telling_all : (T : ℕ → ℕ) (moves : List Move) (log : Log) (k : ℕ) → n ≤ k → Telling event site from copied addr n T moves log k → IsLog log (moves ++ span_moves event site T from copied addr n)
  telling_all T moves log k le t =
      let none : n - k ≡ 0 = omega (arith, le) in
      subst (λ (ms : List Move). IsLog log ms) (sym (t.rest ∙ ap (λ c. t.told ++ map (span_move event site from copied addr) (runs T (addr + k) c)) none ∙ append-nil t.told)) t.log_is
