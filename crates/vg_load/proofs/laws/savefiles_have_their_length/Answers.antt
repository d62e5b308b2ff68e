use Rattle.vg_load.proofs.SavedLemmas.{length-whole_savefile}
use Rattle.vg_load.proofs.laws.savefiles_have_their_length.Goals as goal

pub returns : goal.returns
returns c = length-whole_savefile
