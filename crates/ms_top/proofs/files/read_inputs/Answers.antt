use Rattle.std.proofs.Common.{◌≡◌, ◌≤◌, ◌<◌, ◌++◌, [], ◌∷◌, true, not, length, get_or, is_ok, refl, sym, ap, ◌∙◌, subst, arith}
use Rattle.ms_top.proofs.Reading.{read_none, read_next, short_next, read_stops, read_all}
use Rattle.ms_top.proofs.files.read_inputs.Goals as goal

pub loop-index-init : goal.loop-index-init
loop-index-init g c =
    let files = c.args.files.now in
    let inputs = c.new-inputs.result.items in
    let none : inputs ≡ [] = c.new-inputs.ensures.items in
    record {
      reads = read_none (g.F.Files.held files) (g.F.Files.faults files) (g.F.Files.taken files) inputs c.args.names.now none;
      short = λ k d below. absurd (omega (arith, ap length none, below));
      held = refl;
      faults = omega arith;
      taken = omega arith;
    }

pub returns-in-Err-clause-unread : goal.returns-in-Err-clause-unread
returns-in-Err-clause-unread g c =
    let old = c.args.files.now in
    let now = c.loop-index.files in
    let next = c.read_whole.new.self in
    let names = c.args.names.now in
    let i = c.loop-index.index in
    let below : i < length names = omega (arith, c.loop-index-test.true) in
    record {
      within = below;
      shows = read_stops (g.F.Files.held old) (g.F.Files.held now) (g.F.Files.faults old) (g.F.Files.taken old) (g.F.Files.faults now) (g.F.Files.taken now) c.loop-index.inputs.items names i c.loop-index.invariant.held
          c.as_str.result.now c.in-Err.cause (g.F.Files.faults next) (g.F.Files.taken next) below (subst (λ name. name ≡ get_or names i name) (sym c.as_str.ensures) c.index-names-index.is)
          (record { failed = c.in-Err.ensures.failed; absent = c.in-Err.ensures.absent; too_long = c.in-Err.ensures.too_long }) c.loop-index.invariant.reads;
    }

pub loop-index-preserved : goal.loop-index-preserved
loop-index-preserved g c =
    let old = c.args.files.now in
    let now = c.loop-index.files in
    let next = c.read_whole.new.self in
    let names = c.args.names.now in
    let i = c.loop-index.index in
    let texts = c.loop-index.inputs.items in
    let more = c.push.new.self.items in
    let name = c.as_str.result.now in
    let text = c.from_vec.result in
    let below : i < length names = omega (arith, c.loop-index-test.true) in
    let pushed : is_ok c.push.result ≡ true = c.is_err.ensures.negation ∙ ap not c.if-is_err.false in
    let grown : more ≡ texts ++ text ∷ [] = rw pushed at c.push.ensures.items in
    record {
      reads = read_next (g.F.Files.held old) (g.F.Files.held now) (g.F.Files.faults old) (g.F.Files.taken old) (g.F.Files.faults now) (g.F.Files.taken now) texts names i c.loop-index.invariant.held
          name text c.in-Ok.input.items more (g.F.Files.faults next) (g.F.Files.taken next) below (subst (λ n. n ≡ get_or names i n) (sym c.as_str.ensures) c.index-names-index.is)
          c.in-Ok.ensures.whole c.from_vec.ensures grown c.read_whole.ensures.faults_never_fall c.read_whole.ensures.taken_never_falls c.loop-index.invariant.reads;
      short = short_next (g.F.Files.held now) name text c.in-Ok.input.items texts more c.in-Ok.ensures.whole c.from_vec.ensures grown c.loop-index.invariant.short;
      held = c.read_whole.ensures.holdings_stay ∙ c.loop-index.invariant.held;
      faults = omega (arith, c.loop-index.invariant.faults, c.read_whole.ensures.faults_never_fall);
      taken = omega (arith, c.loop-index.invariant.taken, c.read_whole.ensures.taken_never_falls);
    }

pub returns-clause-read : goal.returns-clause-read
returns-clause-read g c =
    let old = c.args.files.now in
    let now = c.loop-index.files in
    let past : length c.args.names.now ≤ c.loop-index.index = omega (arith, c.loop-index-test.false) in
    read_all (g.F.Files.held old) (g.F.Files.faults old) (g.F.Files.taken old) (g.F.Files.faults now) (g.F.Files.taken now) c.loop-index.inputs.items c.from_vec-2.result c.args.names.now c.loop-index.index past c.from_vec-2.ensures
    c.loop-index.invariant.reads
