-- For `Graph::checked_arc` of vg_graph, which kinds arcs may lead to, and for `printed_is_read_back` of vg_script, by which words scripts say kinds: what holds
-- of each kind by the table of kinds. A kind without a number in its word needs no line here: a clause for every other kind is checked at each.
use Rattle.std.proofs.Common.{◌≡◌, ℕ, Bool, true, false, List, [], refl, true≢false}
use Rattle.std.proofs.lemmas.Bool.{false≢true}
use Rattle.std.specs.Prelude.{Some, find, option_map, IsSome, unwrap_or, bytes_eq}
use Rattle.vg_model.specs.declared.kinds.HashKind.TheVariants.{Flow}
use Rattle.vg_model.specs.declared.kinds.Kind.{Kind}
use Rattle.vg_model.specs.declared.kinds.Kind.TheVariants as kinds
use Rattle.vg_model.specs.Graph.{kind_entry, plain_kinds, is_source}
use Rattle.vg_model.specs.Name.{is_name}
use Rattle.vg_model.specs.Valid.{IsTarget}

-- a node that is no source may be a target
pub may_be_target : (kind : Kind) → is_source kind ≡ false → IsTarget (Some kind)
may_be_target kinds.PgInput e = true≢false e
may_be_target kinds.HandoffDequeue e = true≢false e
may_be_target kind e = tt

-- a kind with a number in its word
abbrev pub has_number : Kind → Bool
has_number (kinds.Dot1qMatch id) = true
has_number (kinds.Dot1qPush id) = true
has_number (kinds.Dot1qRewrite id) = true
has_number (kinds.CrossConnect interface) = true
has_number kind = false

-- the word for a kind, where scripts have one
abbrev pub word_of : Kind → List ℕ
word_of kind = unwrap_or (kind_entry kind).word []

-- a kind that the list of kinds without a number has: none before it has its word, and the word is a name
pub record IsListed (kind : Kind) : Type 0 where
  pub found : find (λ other. unwrap_or (option_map (bytes_eq (word_of kind)) (kind_entry other).word) false) plain_kinds ≡ Some kind
  pub name : is_name (word_of kind) ≡ true

-- each kind that scripts say by a word without a number is in the list
pub is_listed : (kind : Kind) → has_number kind ≡ false → IsSome (kind_entry kind).word → IsListed kind
is_listed (kinds.Dot1qMatch id) e h = absurd (true≢false e)
is_listed (kinds.Dot1qPush id) e h = absurd (true≢false e)
is_listed (kinds.Dot1qRewrite id) e h = absurd (true≢false e)
is_listed (kinds.CrossConnect interface) e h = absurd (true≢false e)
is_listed kinds.PgInput e h = absurd (false≢true h)
is_listed kinds.HandoffDequeue e h = absurd (false≢true h)
is_listed kinds.ErrorDrop e h = absurd (false≢true h)
is_listed (kinds.WorkerHandoff Flow) e h = record { found = refl; name = refl }
is_listed kind e h = record { found = refl; name = refl }
