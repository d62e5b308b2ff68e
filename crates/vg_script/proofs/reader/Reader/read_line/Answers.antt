-- For `read_line`: the line of the words before its comment, and one with a byte that is not allowed.
use Rattle.std.proofs.Common.{sym, refl}
use Rattle.vg_script.proofs.ReadLemmas.{allowed_line, disallowed_line, reads_as}
use Rattle.vg_script.proofs.reader.Reader.read_line.Goals as goal

pub returns-in-Some : goal.returns-in-Some
returns-in-Some c =
    reads_as _ _ c.read_words.new.self c.read_words.result
    (allowed_line c.args.line c.args.self.now c.args.bytes.now c.in-Some.text.now c.of.result c.in-Some.ensures.0 c.in-Some.ensures.1 (sym c.of.ensures))
    c.read_words.ensures

pub returns-in-None : goal.returns-in-None
returns-in-None c = disallowed_line c.args.line c.args.self.now c.args.bytes.now _ refl c.in-None.ensures
