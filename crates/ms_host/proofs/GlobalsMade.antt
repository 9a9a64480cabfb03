-- Globals that are made one after the other.
use Rattle.std.proofs.Common.{◌≡◌, ℕ, Bool, true, false, List, [], ◌∷◌, ◌++◌, map, Some, Ok, Err, refl, sym, ap, ◌∙◌, subst, is_some, ◌&&◌, ◌||◌, if◌then◌else◌}
use Rattle.std.specs.Prelude.{IsErrOf}
use Rattle.std.proofs.lemmas.Bool.{and_parts}
use Rattle.std.proofs.lemmas.List.{map-append}
use Rattle.ms_alloc.specs.declared.errors.AllocError.{AllocError}
use Rattle.ms_alloc.specs.declared.errors.AllocError.TheVariants as refused
use Rattle.ms_alloc.specs.declared.kinds.AllocKind.TheVariants as kind
use Rattle.ms_ir.specs.declared.syntax.Name.{Name}
use Rattle.ms_ir.specs.declared.syntax.GlobalVar.{GlobalVar}
use Rattle.ms_ir.specs.Names.{is_reserved}
use Rattle.ms_ir.specs.Areas.{Fixed}
use Rattle.ms_ir.specs.Layout.{Types, size_of, size_in}
use Rattle.ms_runs.specs.World.{World}
use Rattle.ms_runs.specs.Memory.{fits, next_base, make}
use Rattle.ms_runs.specs.Globals.{constant, write_init, make_globals}
use Rattle.ms_machine_code.specs.Constants.{init_constants, global_constants, globals_constants}
use Rattle.ms_host.specs.State.{WorldState, Beside}
use Rattle.ms_host.specs.Shows.{Shows, Cleared}
use Rattle.ms_host.specs.Initial.{init_sized, make_global, global_sized, globals_sized, global_fits, globals_fit, WritesInit, MakesGlobal, MakesGlobals, PassesLimit}
use Rattle.ms_host.proofs.KeptNumbers.{size-reaches, reaches-some}

-- ---- one global

-- the size of a global that has one
own-size : (types : Types) (g : GlobalVar) → is_reserved g.name ≡ false → global_sized types g ≡ true → (is_some (size_of types g.ty) ≡ true) × (init_sized types g.init ≡ true)
own-size types g plain sized = and_parts (is_some (size_of types g.ty)) (init_sized types g.init) (sym (ap (λ (b : Bool). b || (is_some (size_of types g.ty) && init_sized types g.init)) plain) ∙ sized)

known-size : (types : Types) (g : GlobalVar) (size : ℕ) → size_of types g.ty ≡ Some size → is_some (size_of types g.ty) ≡ true → size ≡ size_in types g.ty
known-size types g size is some = reaches-some (size_of types g.ty) size (size_in types g.ty) is (size-reaches types g.ty some)

pub global-written : (types : Types) (g : GlobalVar) (words left : List ℕ) (old zero new : WorldState) (size base : ℕ) → is_reserved g.name ≡ false → size_of types g.ty ≡ Some size →
    ((beside : Beside) (world : World) → Shows old beside world → Cleared kind.Fixed beside world size (Ok base) zero) →
    WritesInit types (Some base) g.ty g.init words left zero new → MakesGlobal types g words left old new
global-written types g words left old zero new size base plain is made write address rest beside world sized first shows =
    let h = own-size types g plain sized in
    let n : size ≡ size_in types g.ty = known-size types g size is h.0 in
    let m = made beside world shows in
    let r = write address rest h.1 (first ∙ ap (λ (b : Bool). map (constant types address) (if b then [] else init_constants g.init) ++ rest) plain) in
    let z : Shows zero beside (make Fixed (size_in types g.ty) world) = subst (λ (k : ℕ). Shows zero beside (make Fixed k world)) n m.2 in (
      r.0,
      ap (λ (b : Bool). b || fits Fixed (size_in types g.ty) world) plain ∙ ap (λ (k : ℕ). fits Fixed k world) (sym n) ∙ m.0,
      subst (λ (b : Bool). Shows new beside (if b then world else write_init types address (next_base Fixed world) g.ty g.init (make Fixed (size_in types g.ty) world))) (sym plain)
          (r.1 (next_base Fixed world) beside (make Fixed (size_in types g.ty) world) m.1 z),
    )

pub global-full : (types : Types) (g : GlobalVar) (old zero : WorldState) (size : ℕ) (e : AllocError) → is_reserved g.name ≡ false → size_of types g.ty ≡ Some size →
    ((beside : Beside) (world : World) → Shows old beside world → Cleared kind.Fixed beside world size (Err e) zero) →
    e ≡ refused.Full → (beside : Beside) (world : World) → global_sized types g ≡ true → Shows old beside world → global_fits types g world ≡ false
global-full types g old zero size e plain is made full beside world sized shows =
    let h = own-size types g plain sized in
    let n : size ≡ size_in types g.ty = known-size types g size is h.0 in
    let m : Cleared kind.Fixed beside world size (Err refused.Full) zero = subst (λ (x : AllocError). Cleared kind.Fixed beside world size (Err x) zero) full (made beside world shows) in
    ap (λ (b : Bool). b || fits Fixed (size_in types g.ty) world) plain ∙ ap (λ (k : ℕ). fits Fixed k world) (sym n) ∙ m.0

-- ---- the loop

one-more : (types : Types) (address : Name → ℕ) (g : GlobalVar) (rest : List GlobalVar) (world : World) → make_globals types address (g ∷ rest) world ≡ make_globals types address rest (make_global types address g world)
one-more types address g rest world = by (is_reserved g.name)
  where
    by : (b : Bool) → (if b then make_globals types address rest world else make_globals types address rest (write_init types address (next_base Fixed world) g.ty g.init (make Fixed (size_in types g.ty) world)))
        ≡ make_globals types address rest (if b then world else write_init types address (next_base Fixed world) g.ty g.init (make Fixed (size_in types g.ty) world))
    by true = refl
    by false = refl

-- between two globals
pub record Midway (types : Types) (address : Name → ℕ) (h : WorldState) (left : List ℕ) (globals todo : List GlobalVar) (beside : Beside) (world : World) : Type 0 where
  pub sized : globals_sized types todo ≡ true
  pub words : left ≡ map (constant types address) (globals_constants todo)
  pub meant : World
  pub shown : Shows h beside meant
  pub fits : globals_fit types address globals world ≡ globals_fit types address todo meant
  pub same : make_globals types address todo meant ≡ make_globals types address globals world

abbrev pub Advance : Types → (start h : WorldState) → (words left : List ℕ) → (globals todo : List GlobalVar) → Type 0
Advance types start h words left globals todo = (address : Name → ℕ) (beside : Beside) (world : World) → globals_sized types globals ≡ true → words ≡ map (constant types address) (globals_constants globals) →
    Shows start beside world → Midway types address h left globals todo beside world

first-words : (types : Types) (address : Name → ℕ) (left : List ℕ) (todo later : List GlobalVar) (g : GlobalVar) → todo ≡ g ∷ later → left ≡ map (constant types address) (globals_constants todo) →
    left ≡ map (constant types address) (global_constants g) ++ map (constant types address) (globals_constants later)
first-words types address left todo later g is words =
    words ∙ ap (λ (l : List GlobalVar). map (constant types address) (globals_constants l)) is ∙ map-append (constant types address) (global_constants g) (globals_constants later)

first-sized : (types : Types) (todo later : List GlobalVar) (g : GlobalVar) → todo ≡ g ∷ later → globals_sized types todo ≡ true → (global_sized types g ≡ true) × (globals_sized types later ≡ true)
first-sized types todo later g is sized = and_parts (global_sized types g) (globals_sized types later) (subst (λ (l : List GlobalVar). globals_sized types l ≡ true) is sized)

pub advance-step : (types : Types) (start h h' : WorldState) (words left left' : List ℕ) (globals todo later : List GlobalVar) (g : GlobalVar) → todo ≡ g ∷ later → MakesGlobal types g left left' h h' →
    Advance types start h words left globals todo → Advance types start h' words left' globals later
advance-step types start h h' words left left' globals todo later g is make before address beside world sized first shows =
    let d = before address beside world sized first shows in
    let s = first-sized types todo later g is d.sized in
    let r = make address (map (constant types address) (globals_constants later)) beside d.meant s.0 (first-words types address left todo later g is d.words) d.shown in
    record {
      sized = s.1;
      words = r.0;
      meant = make_global types address g d.meant;
      shown = r.2;
      fits = d.fits ∙ ap (λ (l : List GlobalVar). globals_fit types address l d.meant) is
          ∙ ap (λ (b : Bool). b && globals_fit types address later (make_global types address g d.meant)) r.1;
      same = sym (one-more types address g later d.meant) ∙ sym (ap (λ (l : List GlobalVar). make_globals types address l d.meant) is) ∙ d.same;
    }

pub advance-end : (types : Types) (start h : WorldState) (words left : List ℕ) (globals todo : List GlobalVar) → todo ≡ [] → Advance types start h words left globals todo → MakesGlobals types globals words start h
advance-end types start h words left globals todo none before address beside world sized first shows =
    let d = before address beside world sized first shows in (
      d.fits ∙ ap (λ (l : List GlobalVar). globals_fit types address l d.meant) none,
      subst (λ (w : World). Shows h beside w) (sym (ap (λ (l : List GlobalVar). make_globals types address l d.meant) none) ∙ d.same) d.shown,
    )

pub advance-full : (types : Types) (start h : WorldState) (words left : List ℕ) (globals todo later : List GlobalVar) (g : GlobalVar) → todo ≡ g ∷ later →
    ((beside : Beside) (world : World) → global_sized types g ≡ true → Shows h beside world → global_fits types g world ≡ false) →
    Advance types start h words left globals todo → PassesLimit types globals words start
advance-full types start h words left globals todo later g is full before address beside world sized first shows =
    let d = before address beside world sized first shows in
    let s = first-sized types todo later g is d.sized in
    d.fits ∙ ap (λ (l : List GlobalVar). globals_fit types address l d.meant) is
    ∙ ap (λ (b : Bool). b && globals_fit types address later (make_global types address g d.meant)) (full beside d.meant s.0 d.shown)

pub same-error : {T : Type 0} (x y : AllocError) → IsErrOf {T = T} {E = AllocError} (Err x) y → x ≡ y
same-error x y h = cc
