use Rattle.std.proofs.Common.{◌≡◌, ◌∙◌, sym, ap, subst, map, true}
use Rattle.std.specs.Prelude.{List, string_bytes}
use Rattle.std.proofs.lemmas.Result.{IfOk-weaker}
use Rattle.clap.specs.Words.{found_of, matches_of, takes}
use Rattle.ms_words.specs.Table.{Word}
use Rattle.ms_words.specs.ClapForm.{app_for}
use Rattle.ms_words.specs.Limits.{IsWithinLimits}
use Rattle.ms_words.proofs.WithinLimits.{within_limits}
use Rattle.ms_words.proofs.Found.{takes_spelled, fits_found, fields_found}
use Rattle.ms_words.proofs.words.with_fields.Goals as goal

pub matches-requires : goal.matches-requires
matches-requires c =
    subst (λ (words : List Word). takes (app_for c.args.command) words ≡ true) (sym (ap (map string_bytes) c.deref.ensures.value ∙ c.in_ok-words.ensures))
    (takes_spelled c.args.command c.args.accepted.now c.requires)

pub command_in-requires : goal.command_in-requires
command_in-requires c =
    fits_found c.args.command c.args.accepted.now (found_of c.in_ok-found.found) c.requires
    (c.in_ok-found.ensures ∙ ap (λ (words : List Word). matches_of (app_for c.args.command) words) (ap (map string_bytes) c.deref.ensures.value ∙ c.in_ok-words.ensures))

pub returns : goal.returns
returns c =
    let given = fields_found c.args.command c.args.accepted.now (found_of c.in_ok-found.found) c.requires
    (c.in_ok-found.ensures ∙ ap (λ (words : List Word). matches_of (app_for c.args.command) words) (ap (map string_bytes) c.deref.ensures.value ∙ c.in_ok-words.ensures)) in
    record {
      fields = IfOk-weaker c.command_in.result _ _ (λ r h. h ∙ given) c.command_in.ensures;
      limits = IfOk-weaker c.command_in.result _ _ (λ r h. subst IsWithinLimits (sym (h ∙ given)) (within_limits c.args.command c.args.accepted.now c.requires)) c.command_in.ensures;
    }
