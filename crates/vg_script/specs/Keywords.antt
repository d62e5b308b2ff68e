-- The first words of statements, and what the functions that read a line answer.
use Rattle.std.specs.Prelude.{◌≡◌, ℕ, Bool, true, false, not, codes, Result, Ok, Err, MatchResult}
use Rattle.vg_script.specs.declared.errors.ScriptCause.{ScriptCause}
use Rattle.vg_script.specs.declared.errors.ScriptCause.TheVariants as causes
use Rattle.vg_script.specs.declared.statements.Keyword.{Keyword}
use Rattle.vg_script.specs.declared.statements.Keyword.TheVariants as keywords
use Rattle.vg_script.specs.Reader.{Refuses}
use Rattle.vg_script.specs.Reading.{Reading, ◌>>=◌, refused_if, may_stand, value_of, with_statement}
use Rattle.vg_script.specs.declared.statements.Statement.TheVariants.{Then, End}
use Rattle.vg_script.specs.Statements.{Words, Row, row, Anywhere, OutsideBlocks, InAProcess, InABlock, change, interface_form, node_form, arc_form, adjacency_form, route_form, unroute_form, route6_form, unroute6_form, at_form, process_form, alone}

-- the statement that begins with a keyword
abbrev pub keyword_row : Keyword → Row
keyword_row keywords.Interface = row (codes "interface") Anywhere (change interface_form)
keyword_row keywords.Node = row (codes "node") Anywhere (change node_form)
keyword_row keywords.Arc = row (codes "arc") Anywhere (change arc_form)
keyword_row keywords.Adjacency = row (codes "adjacency") Anywhere (change adjacency_form)
keyword_row keywords.Route = row (codes "route") Anywhere (change route_form)
keyword_row keywords.Unroute = row (codes "unroute") Anywhere (change unroute_form)
keyword_row keywords.Route6 = row (codes "route6") Anywhere (change route6_form)
keyword_row keywords.Unroute6 = row (codes "unroute6") Anywhere (change unroute6_form)
keyword_row keywords.At = row (codes "at") OutsideBlocks at_form
keyword_row keywords.Process = row (codes "process") OutsideBlocks process_form
keyword_row keywords.Then = row (codes "then") InAProcess (alone Then)
keyword_row keywords.End = row (codes "end") InABlock (alone End)

-- what stands behind the keyword may be names, of which a list is made
abbrev pub may_have_names : Keyword → Bool
may_have_names keywords.Route = true
may_have_names keywords.Route6 = true
may_have_names keyword = false

-- an answer, with the words behind it where it is a value
abbrev pub found : {X : Type 0} → Result X ScriptCause → Words → Result (X × Words) ScriptCause
found (Ok x) words = Ok (x, words)
found (Err cause) words = Err cause

-- what a form gives, and the words behind it; memory may run out in place of any answer
abbrev pub Finds : {X : Type 0} → Result (X × Words) ScriptCause → Result X ScriptCause → Words → Type 0
Finds this answer words = MatchResult answer (λ x. this ≡ Ok (x, words)) (Refuses this)

-- what was read, with a statement's words behind its first
abbrev pub with_row : ℕ → Reading → Row → Words → Result Reading ScriptCause
with_row line r row words = do
  _ ← refused_if (not (may_stand row.place r.begun)) causes.Block
  statement ← value_of row.form words
  with_statement line r statement
