use Rattle.std.proofs.Common.{◌≡◌, ◌∙◌, ◌+◌, ◌-◌, ◌++◌, ◌≤◌, ◌^◌, [], ℕ, List, refl, ap, arith, sym, subst, Some, None, Option, option_map}
use Rattle.ms_alloc.specs.Allocations.{IsLaidOut}
use Rattle.ms_bits.specs.Maps.{bytes_at, string_within}
use Rattle.ms_host.proofs.Liveness.{part-live}
use Rattle.ms_host.specs.State.{WorldState}
use Rattle.ms_host.proofs.Changes.{live-size}
use Rattle.ms_host.proofs.Tables.{shorter-live}
use Rattle.ms_host.proofs.StringSteps.{fits-word, string-next, string-here}
use Rattle.ms_host.proofs.worlds.World.string_length.Goals as goal

pub overflow_add-addr : goal.overflow_add-addr
overflow_add-addr c = omega (arith, fits-word c.args.self.now.planes.table c.args.addr c.bytes_left-room.result c.loop-k.k (subst (λ (h : WorldState). IsLaidOut h.planes.table) c.self.view_is c.law_laid_out.ensures) c.bytes_left-room.ensures.good c.loop-k-test.true)

pub byte-requires : goal.byte-requires
byte-requires c = part-live c.args.self.now.planes.table c.args.addr c.bytes_left-room.result c.loop-k.k c.bytes_left-room.ensures.good c.loop-k-test.true

pub loop-k-init : goal.loop-k-init
loop-k-init c = λ beside world shows.
    let x : c.args.addr ≡ c.args.addr + 0 = omega arith in
    let n : c.bytes_left-room.result ≡ c.bytes_left-room.result - 0 = omega arith in
    same (string_within world.bytes c.args.addr c.bytes_left-room.result) ∙ ap (λ (a : ℕ). option_map (λ rest. [] ++ rest) (string_within world.bytes a c.bytes_left-room.result)) x
    ∙ ap (λ (m : ℕ). option_map (λ rest. [] ++ rest) (string_within world.bytes (c.args.addr + 0) m)) n
  where
    same : (o : Option (List ℕ)) → o ≡ option_map (λ rest. [] ++ rest) o
    same None = refl
    same (Some r) = refl

pub returns-then-byte-eq0-clause-string : goal.returns-then-byte-eq0-clause-string
returns-then-byte-eq0-clause-string c = λ beside world shows.
    ap (λ (n : ℕ). string_within world.bytes c.args.addr n) (sym (c.bytes_left-room.ensures.room beside world shows))
    ∙ string-here world.bytes c.args.addr c.loop-k.k c.bytes_left-room.result c.loop-k-test.true (sym (c.byte.ensures beside world shows) ∙ c.if-byte-eq0.true) (c.loop-k.invariant beside world shows)

pub returns-then-byte-eq0-clause-good : goal.returns-then-byte-eq0-clause-good
returns-then-byte-eq0-clause-good c = shorter-live c.args.self.now.planes.table c.args.addr c.bytes_left-room.result c.loop-k.k (let e : c.loop-k.k ≤ c.bytes_left-room.result = omega (arith, c.loop-k-test.true) in e) c.bytes_left-room.ensures.good

pub loop-k-preserved : goal.loop-k-preserved
loop-k-preserved c = λ beside world shows.
    string-next world.bytes c.args.addr c.loop-k.k c.bytes_left-room.result c.loop-k-test.true (λ e. c.if-byte-eq0.false (c.byte.ensures beside world shows ∙ e)) (c.loop-k.invariant beside world shows)

pub returns-clause-string : goal.returns-clause-string
returns-clause-string c = λ beside world shows.
    let none : c.bytes_left-room.result - c.loop-k.k ≡ 0 = omega (arith, c.loop-k-test.false) in
    ap (λ (n : ℕ). string_within world.bytes c.args.addr n) (sym (c.bytes_left-room.ensures.room beside world shows))
    ∙ c.loop-k.invariant beside world shows
    ∙ ap (λ (m : ℕ). option_map (λ rest. bytes_at world.bytes c.args.addr c.loop-k.k ++ rest) (string_within world.bytes (c.args.addr + c.loop-k.k) m)) none

pub returns-then-byte-eq0-clause-short : goal.returns-then-byte-eq0-clause-short
returns-then-byte-eq0-clause-short c =
    let few : c.bytes_left-room.result ≤ 2 ^ 26 = live-size c.args.self.now.planes.table c.args.addr c.bytes_left-room.result (subst (λ (h : WorldState). IsLaidOut h.planes.table) c.self.view_is c.law_laid_out.ensures) c.bytes_left-room.ensures.good in
    let e : c.loop-k.k ≤ 2 ^ 26 = omega (arith, c.loop-k-test.true, few) in e

pub returns-then-byte-eq0-clause-low : goal.returns-then-byte-eq0-clause-low
returns-then-byte-eq0-clause-low c = fits-word c.args.self.now.planes.table c.args.addr c.bytes_left-room.result c.loop-k.k (subst (λ (h : WorldState). IsLaidOut h.planes.table) c.self.view_is c.law_laid_out.ensures) c.bytes_left-room.ensures.good c.loop-k-test.true
