-- A phi fits its block where its edges are those of the block's row.
use Rattle.std.proofs.Common.{◌≡◌, ℕ, List, [], Bool, true, refl, sym, ap, subst, ◌∙◌, arith}
use Rattle.std.specs.Prelude.{◌<◌, ◌↔◌, length, All, IsTrue, Some, option_map, unwrap_or, Result, Ok, Err, IfOk, slice_get, slice_index_or}
use Rattle.std.proofs.lemmas.List.{length-map}
use Rattle.std.proofs.lemmas.Option.{slice_get_read}
use Rattle.ms_ir.specs.declared.syntax.Name.{Name}
use Rattle.ms_ir.specs.declared.syntax.Name.TheVariants.{Number}
use Rattle.ms_ir.specs.declared.syntax.Ty.{Ty}
use Rattle.ms_ir.specs.declared.syntax.Operand.{Operand}
use Rattle.ms_ir.specs.declared.syntax.Op.{Op}
use Rattle.ms_ir.specs.declared.syntax.Op.TheVariants as op
use Rattle.ms_ir.specs.declared.syntax.Block.{Block}
use Rattle.ms_ir.specs.declared.syntax.Func.{Func}
use Rattle.ms_ir.specs.Equal.{has_name}
use Rattle.ms_check_valid.specs.FlowGraph.{name_place}
use Rattle.ms_ir.specs.Locals.{block_names}
use Rattle.ms_check_valid.specs.PhisFit.{edges_fit, phi_fits}
use Rattle.ms_ir.specs.Spots.{spot}
use Rattle.ms_check_flow.specs.declared.edges.Edges.{Edges}
use Rattle.ms_check_flow.specs.Arriving.{AreEdgesOf, arrivals}
use Rattle.ms_check_flow.specs.Fitting.{FitsRow}
use Rattle.ms_check_flow.proofs.Arrived.{block_known, arrivals_below}
use Rattle.ms_check_flow.proofs.Judging.{number_in, row_of, fits_there, fits_here}
use Rattle.ms_check_valid.proofs.NamePlaces.{place_below, same_tests}

-- what an `Ok` holds follows from what it holds
pub if_ok_then : {A E : Type 0} (r : Result A E) {P Q : A → Type 0} → IfOk r P → ((x : A) → P x → Q x) → IfOk r Q
if_ok_then (Ok x) h f = f x h
if_ok_then (Err e) h f = h

-- the block at a place of a function
pub block_there : (xs ys : List Block) (i : ℕ) (x : Block) → xs ≡ ys → i < length ys → x ≡ slice_index_or xs i x → slice_get ys i ≡ Some x
block_there xs ys i x same l is = subst (λ bs. i < length bs → slice_get bs i ≡ Some x) same (λ m. slice_get_read xs (length xs) i x refl m is) l

known_there : (f : Func) (into : Edges) → AreEdgesOf f into → (k : ℕ) (b : Block) → slice_get f.blocks k ≡ Some b → has_name into.blocks b.name ≡ true
known_there f into h k b at = subst (λ names. has_name names b.name ≡ true) (sym h.names) (block_known f.blocks k b at)

pub number_within : (f : Func) (into : Edges) → AreEdgesOf f into → (k : ℕ) (b : Block) (n : ℕ) → slice_get f.blocks k ≡ Some b
    → n ≡ name_place into.blocks b.name → n < length into.arrivals
number_within f into h k b n at is =
    let below = place_below into.blocks b.name (known_there f into h k b at) in
    omega (arith, below, ap length h.names, length-map f.blocks (λ (c : Block). c.name), h.len, is)

-- the row of a block of the function
pub row_there : (f : Func) (into : Edges) → AreEdgesOf f into → (k : ℕ) (b : Block) (n : ℕ) → slice_get f.blocks k ≡ Some b
    → n ≡ name_place into.blocks b.name → slice_index_or into.arrivals n [] ≡ row_of f b.name
row_there f into h k b n at is =
    let same : n ≡ number_in f b.name = is ∙ ap (λ names. name_place names b.name) h.names in
    h.rows n (omega (arith, number_within f into h k b n at is, h.len)) ∙ ap (arrivals (number_in f) f.blocks) same

pub row_within : (f : Func) (into : Edges) → AreEdgesOf f into → (k : ℕ) (b : Block) (n : ℕ) → slice_get f.blocks k ≡ Some b
    → n ≡ name_place into.blocks b.name → All (λ m. m < length into.arrivals) (slice_index_or into.arrivals n [])
row_within f into h k b n at is =
    subst (λ row. All (λ m. m < length into.arrivals) row) (sym (row_there f into h k b n at is))
    (subst (λ size. All (λ m. m < size) (row_of f b.name)) (sym h.len) (arrivals_below f.blocks (number_in f b.name)))

-- a phi fits where its edges are those of its block's row
pub phi_judged : (f : Func) (into : Edges) → AreEdgesOf f into → (k : ℕ) (b : Block) (n : ℕ) → slice_get f.blocks k ≡ Some b → n ≡ name_place into.blocks b.name
    → (r : Bool) (edges : List (Operand × Name)) → (IsTrue r ↔ FitsRow into.blocks (length into.arrivals) (slice_index_or into.arrivals n []) edges)
    → (t : Ty) (o : Op) → o ≡ op.Phi t edges → (place site : ℕ) → r ≡ edges_fit (spot f k place site) o
phi_judged f into h k b n at is r edges judged t o phi place site =
    same_tests r (phi_fits f b.name edges)
    (λ e. fits_there f b.name edges known (there (judged.0 e)))
    (λ e. judged.1 (back (fits_here f b.name edges known e)))
    ∙ ap (λ x. phi_fits f x edges) (sym (ap (λ (c : _). unwrap_or (option_map (λ (z : Block). z.name) c) (Number 0)) at))
    ∙ ap (edges_fit (spot f k place site)) (sym phi)
  where
    known : has_name (block_names f) b.name ≡ true
    known = block_known f.blocks k b at

    there : FitsRow into.blocks (length into.arrivals) (slice_index_or into.arrivals n []) edges → FitsRow (block_names f) (length f.blocks) (row_of f b.name) edges
    there w =
        subst (λ row. FitsRow (block_names f) (length f.blocks) row edges) (row_there f into h k b n at is)
        (subst (λ size. FitsRow (block_names f) size (slice_index_or into.arrivals n []) edges) h.len
        (subst (λ names. FitsRow names (length into.arrivals) (slice_index_or into.arrivals n []) edges) h.names w))

    back : FitsRow (block_names f) (length f.blocks) (row_of f b.name) edges → FitsRow into.blocks (length into.arrivals) (slice_index_or into.arrivals n []) edges
    back w =
        subst (λ names. FitsRow names (length into.arrivals) (slice_index_or into.arrivals n []) edges) (sym h.names)
        (subst (λ size. FitsRow (block_names f) size (slice_index_or into.arrivals n []) edges) (sym h.len)
        (subst (λ row. FitsRow (block_names f) (length f.blocks) row edges) (sym (row_there f into h k b n at is)) w))
