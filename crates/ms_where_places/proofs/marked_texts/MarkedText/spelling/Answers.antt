use Rattle.std.proofs.Common.{rules, ◌≡◌, ◌-◌, length, ◌<◌, get_or, take, drop, subst}
use Rattle.ms_where_places.specs.Told.{Told, spelling_at}
use Rattle.ms_where_places.proofs.Spelled.{spelling_is}
use Rattle.ms_where_places.proofs.marked_texts.MarkedText.spelling.Goals as goal

pub returns-in-Some : goal.returns-in-Some
returns-in-Some c =
    let t = c.in-Some.token.now in
    let inside : c.args.number < length c.self.inside.tokens.now = search rules in
    let is : t ≡ get_or c.self.inside.tokens.now c.args.number t = search rules in
    subst (λ (d : Told). take (t.end - t.start) (drop t.start c.self.inside.text.now) ≡ spelling_at d c.args.number) c.self.view_is
    (spelling_is c.self.inside.text.now c.self.inside.tokens.now c.args.number t inside is)
