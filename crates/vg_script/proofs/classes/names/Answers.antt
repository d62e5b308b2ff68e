use Rattle.std.proofs.Common.{◌≡◌, ◌≤◌, length, [], ◌∷◌, ◌++◌, sym, ap, subst, ◌∙◌, refl, arith}
use Rattle.std.proofs.lemmas.Bool.{false≢true}
use Rattle.std.proofs.lemmas.Grind.{common_steps}
use Rattle.std.specs.Option.{option_copied, ok_or}
use Rattle.std.specs.Prelude.{Some}
use Rattle.vg_script.specs.declared.errors.ScriptCause.TheVariants as causes
use Rattle.vg_script.proofs.PartLemmas.{AreRead, IsNext, none_read, one_read, some_are_read, no_name_read, too_many_read, not_named, left_falls, pushed}
use Rattle.vg_script.proofs.classes.names.Goals as goal

pub loop-rest-init : goal.loop-rest-init
loop-rest-init c = subst (λ ns. AreRead c.args.word.now ns (Some c.args.word.now)) (sym c.in-Ok.ensures.items) (none_read c.args.word.now)

pub loop-rest-smaller : goal.loop-rest-smaller
loop-rest-smaller c = left_falls (λ t. t.now) c.loop-rest.rest c.first_part.result.1 c.in-Some.text c.in-Some.is c.first_part.ensures.shorter

pub returns-then-len-ge-MOST_MEMBERS : goal.returns-then-len-ge-MOST_MEMBERS
returns-then-len-ge-MOST_MEMBERS c =
    let at : IsNext c.args.word.now c.loop-rest.names.items c.first_part.result.0.now (option_copied c.first_part.result.1) = record {
      text = c.in-Some.text.now;
      so_far = subst (λ r. AreRead c.args.word.now c.loop-rest.names.items (option_copied r)) c.in-Some.is c.loop-rest.invariant;
      next = c.first_part.ensures.parts;
    } in
    ap (λ o. ok_or o causes.Name) (too_many_read at (omega arith))

pub returns-in_default-of : goal.returns-in_default-of
returns-in_default-of c =
    let at : IsNext c.args.word.now c.loop-rest.names.items c.first_part.result.0.now (option_copied c.first_part.result.1) = record {
      text = c.in-Some.text.now;
      so_far = subst (λ r. AreRead c.args.word.now c.loop-rest.names.items (option_copied r)) c.in-Some.is c.loop-rest.invariant;
      next = c.first_part.ensures.parts;
    } in
    ap (λ o. ok_or o causes.Name) (no_name_read at (not_named c.first_part.result.0.now (λ name. false≢true (c.in_default-of.ensures.some.1 name))))

pub loop-rest-preserved : goal.loop-rest-preserved
loop-rest-preserved c =
    let at : IsNext c.args.word.now c.loop-rest.names.items c.first_part.result.0.now (option_copied c.first_part.result.1) = record {
      text = c.in-Some.text.now;
      so_far = subst (λ r. AreRead c.args.word.now c.loop-rest.names.items (option_copied r)) c.in-Some.is c.loop-rest.invariant;
      next = c.first_part.ensures.parts;
    } in
    let items : c.push.new.self.items ≡ c.loop-rest.names.items ++ c.first_part.result.0.now ∷ [] =
    pushed c.push.result c.push.new.self.items (c.loop-rest.names.items ++ c.in-Some-of.name ∷ []) c.loop-rest.names.items (sym c.if-is_err.ensures.value) c.push.ensures.items
    ∙ ap (λ n. c.loop-rest.names.items ++ n ∷ []) c.in-Some-of.ensures.name in
    subst (λ ns. AreRead c.args.word.now ns (option_copied c.first_part.result.1)) (sym items)
    (one_read at (omega arith) (c.in-Some-of.ensures.some.0 refl))

pub from_vec-requires-clause-some : goal.from_vec-requires-clause-some
from_vec-requires-clause-some c =
    let some : 1 ≤ length c.loop-rest.names.items =
    some_are_read c.args.word.now c.loop-rest.names.items
    (subst (λ r. AreRead c.args.word.now c.loop-rest.names.items (option_copied r)) c.in_default-rest.is c.loop-rest.invariant) in
    grind (arith, common_steps, some)
