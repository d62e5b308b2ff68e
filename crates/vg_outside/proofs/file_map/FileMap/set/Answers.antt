use Rattle.std.proofs.Common.{◌∙◌, ap}
use Rattle.std.specs.Prelude.{string_bytes}
use Rattle.std.specs.FinMap.{insert}
use Rattle.vg_outside.proofs.FolderLemmas.{files_of-updates}
use Rattle.vg_outside.proofs.file_map.FileMap.set.Goals as goal

pub returns-clause-ok : goal.returns-clause-ok
returns-clause-ok c =
    files_of-updates c.self.inside.files c.insert.new.self c.in_ok-key.key c.in_ok-copy.copy c.in_ok-insert.ensures.updates
    ∙ (ap (λ files. insert files (string_bytes c.in_ok-key.key) c.in_ok-copy.copy.items) c.self.view_is
    ∙ (ap (λ name. insert c.args.self.now name c.in_ok-copy.copy.items) c.in_ok-key.ensures.ok
    ∙ ap (insert c.args.self.now c.args.name.now) c.in_ok-copy.ensures.items))
