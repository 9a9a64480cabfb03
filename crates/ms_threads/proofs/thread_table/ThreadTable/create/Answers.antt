use Rattle.std.proofs.Common.{◌≡◌, ◌∙◌, [], ◌∷◌, length, sym}
use Rattle.ms_threads.proofs.Threading.{did_so, create_full, create_done, create_bad, keeps_all, keeps_made}
use Rattle.ms_threads.proofs.thread_table.ThreadTable.create.Goals as goal

pub returns-then-is_full-clause-did : goal.returns-then-is_full-clause-did
returns-then-is_full-clause-did c = λ beside meant shows shares.
    did_so _ _ _ beside _ _ c.gives.ensures (create_full c.args.site c.args.id c.args.func c.args.argument c.args.self.now beside c.args.world.now meant shows shares (sym c.if-is_full.ensures))

pub returns-then-is_full-clause-kept : goal.returns-then-is_full-clause-kept
returns-then-is_full-clause-kept c = keeps_all c.args.site (c.args.func ∷ []) c.args.self.now

pub returns-then-store-clause-did : goal.returns-then-store-clause-did
returns-then-store-clause-did c = λ beside meant shows shares.
    let h = c.if-store.ensures.stored beside meant shows in
    let n : c.len.result ≡ length c.add.new.self.threads.items = c.len.ensures ∙ c.add.new.self.threads.ok.0 in
    did_so _ _ _ beside _ _ c.gives-then-store.ensures
    (create_done c.args.site c.args.id c.args.func c.args.argument c.args.self.now c.add.new.self beside c.args.world.now c.store.new.self meant shows shares (sym c.if-is_full.ensures) c.in_ok-add.ensures c.len.result n h.0 h.1)

pub returns-then-store-clause-kept : goal.returns-then-store-clause-kept
returns-then-store-clause-kept c = keeps_made c.args.func c.args.argument c.args.site c.args.self.now c.add.new.self (sym c.if-is_full.ensures) c.in_ok-add.ensures

pub returns-else-store-clause-did : goal.returns-else-store-clause-did
returns-else-store-clause-did c = λ beside meant shows shares.
    let h = c.if-store.ensures.stored beside meant shows in
    did_so _ _ _ beside _ _ c.bad_address.ensures
    (create_bad c.args.site c.args.id c.args.func c.args.argument c.args.self.now c.add.new.self beside c.args.world.now c.store.new.self meant shows shares (sym c.if-is_full.ensures) c.in_ok-add.ensures h.0 h.1)

pub returns-else-store-clause-kept : goal.returns-else-store-clause-kept
returns-else-store-clause-kept c = keeps_made c.args.func c.args.argument c.args.site c.args.self.now c.add.new.self (sym c.if-is_full.ensures) c.in_ok-add.ensures
