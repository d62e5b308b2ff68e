-- `put_changed_fields`, the classes of the packets that changed in fields: the loop over the fields.
use Rattle.std.proofs.Common.{◌≡◌, ◌++◌, take, flat_map}
use Rattle.std.specs.Prelude.{Some}
use Rattle.vg_match.specs.declared.fields.Field.{Field}
use Rattle.vg_diff.specs.Classes.{changed_class}
use Rattle.vg_diff.proofs.classes.put_changed_fields.Given as goal

abbrev pub invariant-loop-field : goal.invariant-loop-field
invariant-loop-field l =
    l.out.items ≡ l.fn.out.items ++ flat_map (λ (field : Field). changed_class l.changes l.starts (Some field)) (take l.field-index l.fields)
