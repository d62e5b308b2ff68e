use Rattle.std.proofs.Common.{◌≡◌, subst, sym, rules}
use Rattle.std.specs.Prelude.{Some}
use Rattle.std.specs.FinMap.{insert}
use Rattle.vg_outside.specs.Files.{file}
use Rattle.vg_outside.proofs.FolderLemmas.{file-insert_same, file-insert_other}
use Rattle.vg_outside.proofs.sure.SureFolderFolder.save.Goals as goal

pub returns-clause-ok : goal.returns-clause-ok
returns-clause-ok c =
    let saved : c.set.new.self ≡ insert c.args.self.now.files c.args.name.now c.args.bytes.now = search rules in
    subst (λ files. file files c.args.name.now ≡ Some c.args.bytes.now) (sym saved)
    (file-insert_same c.args.self.now.files c.args.name.now c.args.bytes.now)

pub returns-clause-others : goal.returns-clause-others
returns-clause-others c = λ other apart.
    let saved : c.set.new.self ≡ insert c.args.self.now.files c.args.name.now c.args.bytes.now = search rules in
    subst (λ files. file files other ≡ file c.args.self.now.files other) (sym saved)
    (file-insert_other c.args.self.now.files c.args.name.now c.args.bytes.now other apart)
