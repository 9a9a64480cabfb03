use Rattle.std.proofs.Common.{◌≡◌, List, [], ◌∷◌, ◌++◌, sym, ap, ◌∙◌, subst}
use Rattle.ms_threads_explore.specs.declared.beginnings.NumberAt.{NumberAt}
use Rattle.ms_threads_explore.specs.Beginnings.{told_from, InOrder}
use Rattle.ms_threads_explore.proofs.Marked.{longer_order, longer_told}
use Rattle.ms_threads_explore.proofs.beginnings.Beginning.longer.Goals as goal

pub returns-clause-is : goal.returns-clause-is
returns-clause-is c =
    let m : NumberAt = record { place = c.args.place; number = c.args.number } in
    let items : c.push.new.self.items ≡ c.args.self.now.marks.items ++ m ∷ [] =
    c.in_ok-push.ensures.items
    ∙ ap (λ (l : List NumberAt). l ++ m ∷ []) (c.in_ok-extend_from_slice.ensures.items ∙ ap (λ (l : List NumberAt). l ++ c.as_slice.result.now) c.new-marks.ensures.items ∙ c.as_slice.ensures.value) in
    subst (InOrder 0) (sym items) (longer_order c.args.self.now.marks.items m c.requires.is c.requires.after c.requires.within)

pub returns-clause-told : goal.returns-clause-told
returns-clause-told c =
    let m : NumberAt = record { place = c.args.place; number = c.args.number } in
    let items : c.push.new.self.items ≡ c.args.self.now.marks.items ++ m ∷ [] =
    c.in_ok-push.ensures.items
    ∙ ap (λ (l : List NumberAt). l ++ m ∷ []) (c.in_ok-extend_from_slice.ensures.items ∙ ap (λ (l : List NumberAt). l ++ c.as_slice.result.now) c.new-marks.ensures.items ∙ c.as_slice.ensures.value) in
    ap (told_from 0) items ∙ longer_told c.args.self.now.marks.items m c.requires.is
