use Rattle.std.proofs.Common.{◌≡◌, ◌+◌, ◌%◌, ◌<◌, ◌∙◌, ℕ, suc, refl, ap, arith, sym, subst}
use Rattle.ms_bits.specs.Maps.{byte_of}
use Rattle.ms_runs.specs.Memory.{set_bytes, store_number}
use Rattle.ms_host.specs.State.{WorldState}
use Rattle.ms_host.specs.Shows.{Shows}
use Rattle.ms_host.proofs.Changes.{keeps-both}
use Rattle.ms_host.proofs.Initialised.{next-byte, no-byte, dead-range}
use Rattle.ms_host.proofs.KeptNumbers.{reaches-some, reaches-none}
use Rattle.ms_host.proofs.worlds.World.initialise_number.Goals as goal

pub loop-k-init : goal.loop-k-init
loop-k-init c = record {
  written = λ beside world shows. no-byte c.args.self.now beside world c.in-Some.addr (byte_of c.args.v) shows;
  rest = λ j. let e : j ≡ 0 + j = omega arith in ap (byte_of c.args.v) e;
  keeps = record { input = refl; fill = refl; slots = refl };
  made = refl;
}

pub loop-k-preserved : goal.loop-k-preserved
loop-k-preserved c =
    let l = c.loop-k in
    let first : l.k + 0 ≡ l.k = omega arith in
    let low : l.rest % 256 < 256 = omega arith in
    record {
      written = λ beside world shows.
          next-byte c.initialise_byte.new.self beside world c.in-Some.addr l.k (l.rest % 256) (byte_of c.args.v) (l.invariant.rest 0 ∙ ap (byte_of c.args.v) first) low
          (c.initialise_byte.ensures.written beside (set_bytes c.in-Some.addr l.k (byte_of c.args.v) world) (l.invariant.written beside world shows));
      rest = λ j. let e : l.k + suc j ≡ l.k + 1 + j = omega arith in l.invariant.rest (suc j) ∙ ap (byte_of c.args.v) e;
      keeps = keeps-both _ _ _ l.invariant.keeps c.initialise_byte.ensures.keeps;
      made = c.initialise_byte.ensures.made ∙ l.invariant.made;
    }

pub returns-in_default-clause-written : goal.returns-in_default-clause-written
returns-in_default-clause-written c = λ a beside world at shows.
    let s = subst (λ (h : WorldState). Shows h beside world) (sym c.self.view_is) shows in
    subst (λ (h : WorldState). Shows h beside (store_number a c.args.n c.args.v world)) c.self.view_is
    (dead-range _ beside world a c.args.n (byte_of c.args.v) c.law_laid_out.ensures (reaches-none c.args.at a c.in_default.is at) s)

pub returns-clause-written : goal.returns-clause-written
returns-clause-written c = λ a beside world at shows.
    let done : c.loop-k.k ≡ c.args.n = omega (arith, c.loop-k-test.false, c.loop-k.auto.k-end, c.from-k-end.ensures) in
    let here : c.in-Some.addr ≡ a = reaches-some c.args.at c.in-Some.addr a c.in-Some.is at in
    subst (λ (x : ℕ). Shows c.loop-k.self beside (store_number x c.args.n c.args.v world)) here
    (subst (λ (n : ℕ). Shows c.loop-k.self beside (store_number c.in-Some.addr n c.args.v world)) done (c.loop-k.invariant.written beside world shows))
