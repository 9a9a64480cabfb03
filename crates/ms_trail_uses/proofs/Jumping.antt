-- The edge that a jump takes, by its kind.
use Rattle.std.proofs.Common.{◌≡◌, ◌≢◌, ℕ, suc, List, [], ◌∷◌, Bool, true, false, eqb, Some, sym, ap, ◌∙◌, subst, arith, if◌then◌else◌}
use Rattle.std.specs.Prelude.{All}
use Rattle.std.proofs.lemmas.Option.{none-some}
use Rattle.std.proofs.lemmas.Bool.{eq-eqb, ne_eqb}
use Rattle.ms_runs.specs.World.{World}
use Rattle.ms_machine_code.specs.declared.code.WordSource.{WordSource}
use Rattle.ms_machine_code.specs.declared.code.Edge.{Edge}
use Rattle.ms_machine_code.specs.declared.code.Code.{Code}
use Rattle.ms_machine_code.specs.declared.code.Code.TheVariants as code
use Rattle.ms_machine_code.specs.Words.{word_of, edge_of}
use Rattle.ms_machine_code.specs.declared.code.Routine.{Routine}
use Rattle.ms_machine_code.specs.Fits.{Fits, IsEdge}
use Rattle.ms_machine_frames.specs.Meaning.{Jumps, IsJump, doing}
use Rattle.ms_trail_masks.specs.Results.{IsComputed}
use Rattle.ms_trail_uses.specs.Due.{sets_at}
use Rattle.ms_trail_uses.specs.Taken.{HasCondition, IsTaken}

pub jump_taken : (fill xs : List ℕ) (k : Code) (e : Edge) → k ≡ code.Jump e → IsTaken fill xs k e
jump_taken fill xs k e is = λ site cells world. ap (λ z. doing fill site cells z xs world) is

pub other_taken : (fill xs : List ℕ) (k : Code) (c : WordSource) (taken other : Edge) (v : ℕ) → k ≡ code.Branch c taken other → v ≡ word_of fill xs c → v ≡ 0 → IsTaken fill xs k other
other_taken fill xs k c taken other v is word none = λ site cells world.
    ap (λ z. doing fill site cells z xs world) is ∙ ap (λ b. Jumps (if b then other else taken) world) (eq-eqb (word_of fill xs c) 0 (sym word ∙ none))

pub first_taken : (fill xs : List ℕ) (k : Code) (c : WordSource) (taken other : Edge) (v : ℕ) → k ≡ code.Branch c taken other → v ≡ word_of fill xs c → v ≢ 0 → IsTaken fill xs k taken
first_taken fill xs k c taken other v is word some = λ site cells world.
    ap (λ z. doing fill site cells z xs world) is ∙ ap (λ b. Jumps (if b then other else taken) world) (ne_eqb (word_of fill xs c) 0 (λ z. some (word ∙ z)))

pub case_taken : (fill xs : List ℕ) (k : Code) (s : WordSource) (cases read : List (ℕ × Edge)) (other e : Edge) (v : ℕ) → k ≡ code.Switch s cases other → v ≡ word_of fill xs s → read ≡ cases → e ≡ edge_of read v other
    → IsTaken fill xs k e
case_taken fill xs k s cases read other e v is word same found = λ site cells world.
    ap (λ z. doing fill site cells z xs world) is ∙ ap (λ z. Jumps z world) (sym (found ∙ (λ i. edge_of (same i) (word i) other)))

-- what a jump looks at is there
pub has_condition : (n phis : ℕ) (rs : List Routine) (k : Code) → Fits n phis rs k → HasCondition n k
has_condition n phis rs (code.Branch c taken other) (x, y, z) = x
has_condition n phis rs (code.Switch v cases other) (x, y, z) = x
has_condition n phis rs k fits = tt

-- code that sets a value by its operands alone
pub sets_computed : (n phis : ℕ) (rs : List Routine) (k : Code) (to : ℕ) → sets_at k ≡ Some to → Fits n phis rs k → IsComputed n k
sets_computed n phis rs (code.Binary o f w a b d) to sets (p, q, x, y, z) = (p, q, x, y)
sets_computed n phis rs (code.Icmp o f w a b d) to sets (p, q, x, y, z) = (p, q, x, y)
sets_computed n phis rs (code.Cast o f w a into d) to sets (p, q, x, y, z) = (p, q, x, y)
sets_computed n phis rs (code.Select c a b d) to sets (x, y, z, l) = (x, y, z)
sets_computed n phis rs (code.Freeze a d) to sets h = tt
sets_computed n phis rs (code.Gep base offset strides d) to sets (x, y, z) = (x, y)
sets_computed n phis rs k to sets fits = absurd (none-some to sets)

-- the edge that is taken is one of the jump's
same_edge : (e f : Edge) (w : World) → Jumps e w ≡ Jumps f w → e ≡ f
same_edge e f w h = cc

edge_among : (P : Edge → Type 0) (cases : List (ℕ × Edge)) (v : ℕ) (other : Edge) → All (λ c. P c.1) cases → P other → P (edge_of cases v other)
edge_among P [] v other all here = here
edge_among P (c ∷ cs) v other all here = by_test (eqb c.0 v) (edge_among P cs v other (λ k d l. all (suc k) d (omega (arith, l))) here)
  where
    by_test : (b : Bool) → P (edge_of cs v other) → P (if b then c.1 else edge_of cs v other)
    by_test true later = all 0 c (omega arith)
    by_test false later = later

either_edge : (P : Edge → Type 0) (b : Bool) (e f : Edge) → P e → P f → P (if b then e else f)
either_edge P true e f h g = h
either_edge P false e f h g = g

pub taken_edge : (n phis : ℕ) (rs : List Routine) (xs fill : List ℕ) (w : World) (k : Code) (e : Edge) → IsJump k → IsTaken fill xs k e → Fits n phis rs k → IsEdge n phis e
taken_edge n phis rs xs fill w (code.Jump edge) e jumps taken fits = subst (IsEdge n phis) (same_edge edge e w (taken 0 (λ a. 0) w)) fits
taken_edge n phis rs xs fill w (code.Branch c first other) e jumps taken (x, y, z) =
    subst (IsEdge n phis) (same_edge (if eqb (word_of fill xs c) 0 then other else first) e w (taken 0 (λ a. 0) w)) (either_edge (IsEdge n phis) (eqb (word_of fill xs c) 0) other first z y)
taken_edge n phis rs xs fill w (code.Switch v cases other) e jumps taken (x, y, z) =
    subst (IsEdge n phis) (same_edge (edge_of cases (word_of fill xs v) other) e w (taken 0 (λ a. 0) w)) (edge_among (IsEdge n phis) cases (word_of fill xs v) other y z)
taken_edge n phis rs xs fill w k e jumps taken fits = absurd jumps
