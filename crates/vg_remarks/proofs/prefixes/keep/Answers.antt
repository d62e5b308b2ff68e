-- For `keep`: the kept prefixes cover one prefix more, whether it is kept or not.
use Rattle.std.proofs.Common.{◌≡◌, ◌-◌, ◌++◌, ◌∷◌, [], ◌∙◌, ap, length, sym, subst}
use Rattle.std.specs.Prelude.{slice_get}
use Rattle.std.specs.Option.{option_copied}
use Rattle.vg_remarks.specs.Addresses.{ends_behind, IsCover}
use Rattle.vg_remarks.proofs.PrefixLemmas.{cover_more, cover_same}
use Rattle.vg_remarks.proofs.prefixes.keep.Goals as goal

pub returns-in_ok-push-clause-cover : goal.returns-in_ok-push-clause-cover
returns-in_ok-push-clause-cover c = λ prefixes is.
    let kept = c.args.kept.now.items in
    let prefix = c.args.prefix.now in
    let last : option_copied c.last.result ≡ slice_get kept (length kept - 1) = c.last.ensures.value ∙ ap (λ xs. slice_get xs (length xs - 1)) c.deref.ensures.value in
    subst (IsCover (prefixes ++ prefix ∷ [])) (sym c.in_ok-push.ensures.items)
    (cover_more prefixes kept prefix is c.requires (sym (c.ends_behind.ensures ∙ ap (ends_behind prefix) last) ∙ c.if-ends_behind.true))

pub returns-else-ends_behind-clause-cover : goal.returns-else-ends_behind-clause-cover
returns-else-ends_behind-clause-cover c = λ prefixes is.
    let kept = c.args.kept.now.items in
    let prefix = c.args.prefix.now in
    let last : option_copied c.last.result ≡ slice_get kept (length kept - 1) = c.last.ensures.value ∙ ap (λ xs. slice_get xs (length xs - 1)) c.deref.ensures.value in
    cover_same prefixes kept prefix is c.requires (sym (c.ends_behind.ensures ∙ ap (ends_behind prefix) last) ∙ c.if-ends_behind.false)
