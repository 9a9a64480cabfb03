-- Steps of a walk along a format, and the arguments that they take.
use Rattle.std.proofs.Common.{◌≡◌, ◌<◌, ◌≤◌, ◌^◌, length, get_or, ℕ, zero, suc, ◌+◌, ◌-◌, List, [], ◌∷◌, map, drop, Bool, true, false, Option, Some, None, Result, Ok, Err, refl, sym, ap, ◌∙◌, subst, arith, add-one, if◌then◌else◌}
use Rattle.std.specs.Prelude.{slice_get, zip}
use Rattle.std.proofs.Math.Path.{ap₂}
use Rattle.ms_bits.specs.declared.traps.Trap.{Trap}
use Rattle.ms_bits.specs.declared.traps.Trap.TheVariants as trap
use Rattle.ms_bits.specs.Maps.{bytes_at}
use Rattle.ms_ir.specs.declared.syntax.Ty.{Ty}
use Rattle.ms_ir.specs.Equal.{type_eq}
use Rattle.ms_runs.specs.declared.formats.Piece.{Piece}
use Rattle.ms_runs.specs.declared.formats.Piece.TheVariants.{Text, Dec32, Udec32, Hex32, Char, Str, Dec64, Udec64, Hex64}
use Rattle.ms_runs.specs.declared.formats.Cut.{Cut}
use Rattle.ms_runs.specs.Formats.{takes_argument, with_arguments, argument_type, piece_text, shown, both_shown, all_shown, no_pieces, with_piece, cut_of}
use Rattle.ms_runs.specs.Externals.{string_at, cut_shown}
use Rattle.ms_runs.specs.World.{World}
use Rattle.ms_alloc.specs.Allocations.{Allocations}
use Rattle.ms_host.proofs.Liveness.{range-live}
use Rattle.ms_printf.specs.declared.walks.Walk.{Walk}
use Rattle.ms_printf.specs.Walks.{IsRest, IsWalk}

-- ---- arguments

-- an argument of a type and a word, where both are there
abbrev pub typed_word : Option Ty → Option ℕ → Option (Ty × ℕ)
typed_word None w = None
typed_word (Some t) None = None
typed_word (Some t) (Some w) = Some (t, w)

zip_none : (ts : List Ty) → zip {X = ℕ} ts [] ≡ []
zip_none [] = refl
zip_none (t ∷ ts) = refl

pub no_word : (o : Option Ty) → typed_word o None ≡ None
no_word None = refl
no_word (Some t) = refl

pub first_argument : (k : ℕ) (ts : List Ty) (ws : List ℕ) → slice_get (zip (drop k ts) (drop k ws)) 0 ≡ typed_word (slice_get ts k) (slice_get ws k)
first_argument zero [] ws = refl
first_argument zero (t ∷ ts) [] = refl
first_argument zero (t ∷ ts) (w ∷ ws) = refl
first_argument (suc k) [] ws = refl
first_argument (suc k) (t ∷ ts) [] = ap (λ (l : List (Ty × ℕ)). slice_get l 0) (zip_none (drop k ts)) ∙ sym (no_word (slice_get ts k))
first_argument (suc k) (t ∷ ts) (w ∷ ws) = first_argument k ts ws

later : (k : ℕ) (ts : List Ty) (ws : List ℕ) → zip (drop (suc k) ts) (drop (suc k) ws) ≡ drop 1 (zip (drop k ts) (drop k ws))
later zero [] ws = refl
later zero (t ∷ ts) [] = zip_none ts
later zero (t ∷ ts) (w ∷ ws) = refl
later (suc k) [] ws = refl
later (suc k) (t ∷ ts) [] = zip_none (drop (suc k) ts) ∙ ap (λ (l : List (Ty × ℕ)). drop 1 l) (sym (zip_none (drop k ts)))
later (suc k) (t ∷ ts) (w ∷ ws) = later k ts ws

pub later_arguments : (k : ℕ) (ts : List Ty) (ws : List ℕ) → zip (drop (k + 1) ts) (drop (k + 1) ws) ≡ drop 1 (zip (drop k ts) (drop k ws))
later_arguments k ts ws = let e : k + 1 ≡ suc k = omega arith in ap (λ (j : ℕ). zip (drop j ts) (drop j ws)) e ∙ later k ts ws

pub word_there : (ws : List ℕ) (k : ℕ) → k < length ws → slice_get ws k ≡ Some (get_or ws k 0)
word_there [] k l = absurd (omega (arith, l))
word_there (w ∷ ws) zero l = refl
word_there (w ∷ ws) (suc k) l = word_there ws k (omega (arith, l))

pub word_missing : (ws : List ℕ) (k : ℕ) → length ws ≤ k → slice_get ws k ≡ None
word_missing [] k l = refl
word_missing (w ∷ ws) zero l = absurd (omega (arith, l))
word_missing (w ∷ ws) (suc k) l = word_missing ws k (omega (arith, l))

-- ---- one piece

with_directive : (p : Piece) (ps : List Piece) (args : List (Ty × ℕ)) → takes_argument p ≡ true → with_arguments (p ∷ ps) args ≡ (p, slice_get args 0) ∷ with_arguments ps (drop 1 args)
with_directive (Text bs) ps args e = absurd (cc)
with_directive Dec32 ps [] e = refl
with_directive Dec32 ps (a ∷ args) e = refl
with_directive Udec32 ps [] e = refl
with_directive Udec32 ps (a ∷ args) e = refl
with_directive Hex32 ps [] e = refl
with_directive Hex32 ps (a ∷ args) e = refl
with_directive Char ps [] e = refl
with_directive Char ps (a ∷ args) e = refl
with_directive Str ps [] e = refl
with_directive Str ps (a ∷ args) e = refl
with_directive Dec64 ps [] e = refl
with_directive Dec64 ps (a ∷ args) e = refl
with_directive Udec64 ps [] e = refl
with_directive Udec64 ps (a ∷ args) e = refl
with_directive Hex64 ps [] e = refl
with_directive Hex64 ps (a ∷ args) e = refl

pub missing : (strings : ℕ → Option (List ℕ)) (p : Piece) → takes_argument p ≡ true → shown strings (p, None) ≡ Err trap.Format
missing strings (Text bs) e = absurd (cc)
missing strings Dec32 e = refl
missing strings Udec32 e = refl
missing strings Hex32 e = refl
missing strings Char e = refl
missing strings Str e = refl
missing strings Dec64 e = refl
missing strings Udec64 e = refl
missing strings Hex64 e = refl

pub present : (strings : ℕ → Option (List ℕ)) (p : Piece) (a : Ty × ℕ) (b : Bool) → takes_argument p ≡ true → type_eq a.0 (argument_type p) ≡ b → shown strings (p, Some a) ≡ (if b then piece_text strings p a.1 else Err trap.Format)
present strings (Text bs) a b e t = absurd (cc)
present strings Dec32 a b e t = ap (λ (c : Bool). if c then piece_text strings Dec32 a.1 else Err trap.Format) t
present strings Udec32 a b e t = ap (λ (c : Bool). if c then piece_text strings Udec32 a.1 else Err trap.Format) t
present strings Hex32 a b e t = ap (λ (c : Bool). if c then piece_text strings Hex32 a.1 else Err trap.Format) t
present strings Char a b e t = ap (λ (c : Bool). if c then piece_text strings Char a.1 else Err trap.Format) t
present strings Str a b e t = ap (λ (c : Bool). if c then piece_text strings Str a.1 else Err trap.Format) t
present strings Dec64 a b e t = ap (λ (c : Bool). if c then piece_text strings Dec64 a.1 else Err trap.Format) t
present strings Udec64 a b e t = ap (λ (c : Bool). if c then piece_text strings Udec64 a.1 else Err trap.Format) t
present strings Hex64 a b e t = ap (λ (c : Bool). if c then piece_text strings Hex64 a.1 else Err trap.Format) t

-- ---- steps

abbrev comes_to : World → Cut → List (Ty × ℕ) → Result (List ℕ) Trap
comes_to world c args = all_shown c.bad (map (shown (string_at world)) (with_arguments c.pieces args))

pub plain_step : (world : World) (a n m : ℕ) (bs : List ℕ) (types : List Ty) (words : List ℕ) → cut_of (bytes_at world.bytes a n) ≡ with_piece (Text bs) (cut_of (bytes_at world.bytes (a + m) (n - m)))
    → cut_shown world (bytes_at world.bytes a n) types words ≡ both_shown (Ok bs) (cut_shown world (bytes_at world.bytes (a + m) (n - m)) types words)
plain_step world a n m bs types words e = ap (λ (c : Cut). comes_to world c (zip types words)) e

pub bad_step : (world : World) (a n : ℕ) (types : List Ty) (words : List ℕ) → cut_of (bytes_at world.bytes a n) ≡ no_pieces true
    → cut_shown world (bytes_at world.bytes a n) types words ≡ both_shown (Err trap.Format) (cut_shown world (bytes_at world.bytes a 0) types words)
bad_step world a n types words e = ap (λ (c : Cut). comes_to world c (zip types words)) e

pub directive_step : (world : World) (a n m k : ℕ) (p : Piece) (o : Option (Ty × ℕ)) (r : Result (List ℕ) Trap) (types : List Ty) (words : List ℕ) → takes_argument p ≡ true
    → cut_of (bytes_at world.bytes a n) ≡ with_piece p (cut_of (bytes_at world.bytes (a + m) (n - m)))
    → o ≡ slice_get (zip (drop k types) (drop k words)) 0 → shown (string_at world) (p, o) ≡ r
    → cut_shown world (bytes_at world.bytes a n) (drop k types) (drop k words) ≡ both_shown r (cut_shown world (bytes_at world.bytes (a + m) (n - m)) (drop (k + 1) types) (drop (k + 1) words))
directive_step world a n m k p o r types words takes e is comes =
    let c : Cut = cut_of (bytes_at world.bytes (a + m) (n - m)) in
    let args : List (Ty × ℕ) = zip (drop k types) (drop k words) in
    ap (λ (c : Cut). comes_to world c args) e
    ∙ ap (λ (l : List (Piece × Option (Ty × ℕ))). all_shown c.bad (map (shown (string_at world)) l)) (with_directive p c.pieces args takes)
    ∙ ap₂ (λ x y. both_shown (shown (string_at world) (p, x)) (comes_to world c y)) (sym is) (sym (later_arguments k types words))
    ∙ ap (λ (x : Result (List ℕ) Trap). both_shown x (comes_to world c (zip (drop (k + 1) types) (drop (k + 1) words)))) comes

-- what is left after so many bytes
pub rest_after : (t : Allocations) (addr left len : ℕ) → IsRest t addr left → len ≤ left → IsRest t (addr + len) (left - len)
rest_after t addr left len h le = record {
  live = range-live t addr left len (left - len) h.live (omega (arith, le));
  low = omega (arith, le, h.low);
}

pub walk_after : (t : Allocations) (w : Walk) (len next : ℕ) → IsWalk t w → 0 < len → len ≤ w.left → next ≤ w.next + 1 → IsWalk t (record { addr = w.addr + len; left = w.left - len; next = next })
walk_after t w len next h some le one = record {
  rest = rest_after t w.addr w.left len h.rest le;
  few = omega (arith, some, le, one, h.few);
}
