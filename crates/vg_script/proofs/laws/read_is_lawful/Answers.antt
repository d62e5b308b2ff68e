use Rattle.vg_script.proofs.LawfulLemmas.{reads_lawful}
use Rattle.vg_script.proofs.laws.read_is_lawful.Goals as goal

pub returns : goal.returns
returns c = reads_lawful
