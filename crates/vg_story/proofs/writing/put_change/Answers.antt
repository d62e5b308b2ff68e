-- For `put_change`: the pieces of the line, one behind the other.
use Rattle.std.proofs.Common.{List, ℕ, ◌∷◌, ◌++◌, []}
use Rattle.std.specs.Prelude.{codes}
use Rattle.std.proofs.lemmas.Result.{on_ok_weaker}
use Rattle.vg_story.specs.Text.{field_text, field_number}
use Rattle.vg_story.proofs.WriteLemmas.{three, four}
use Rattle.vg_story.proofs.writing.put_change.Goals as goal

pub returns : goal.returns
returns c =
    let out : List ℕ = c.args.out.now.items in
    let head : List ℕ = 10 ∷ codes "      change " in
    let field : List ℕ = field_text c.args.field in
    let blank : List ℕ = 32 ∷ [] in
    let before : List ℕ = field_number c.args.field c.args.before in
    let after : List ℕ = field_number c.args.field c.args.after in
    on_ok_weaker c.put_field_number-2.result (λ e. cc (
      e,
      c.in_ok-put.ensures,
      c.text.ensures,
      c.as_bytes.ensures.value,
      c.in_ok-put-2.ensures,
      c.in_ok-put-3.ensures,
      c.in_ok-put_field_number.ensures,
      c.in_ok-put-4.ensures,
      three (((out ++ head) ++ field) ++ blank) before blank after,
      four out head field blank (before ++ (blank ++ after)),
    )) c.put_field_number-2.ensures
